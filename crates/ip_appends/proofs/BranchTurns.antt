-- What the machine answers to the commands on branches.
--     answers_fault, answers_done      where a refusal stands against a command, and where none does
--     set_leaving, set_refused, set_memory, set_answers      setting a branch.      remove_none, remove_memory, remove_done, remove_cut      taking one away.      absent_same      where there is none that is nothing
--     set_may, set_fits, remove_fits      the records.      none_in, some_in      what a test of a head says
use Rattle.std.proofs.Common.{◌≡◌, ℕ, List, ◌<◌, true, false, Option, Some, None, refl, ◌∙◌, ap, arith, length-append}
use Rattle.std.specs.Prelude.{Result, Ok, Err, is_none, IsTrue, IfSome, IsSomeAnd, nat_le, nat_lt, ◌&&◌}
use Rattle.std.proofs.lemmas.Bool.Decides.{nat_tests}
use Rattle.ip_base.specs.declared.limit.Limit.{Limit}
use Rattle.ip_spec.specs.declared.command.Command.{Command}
use Rattle.ip_spec.specs.declared.command.Target.{Target}
use Rattle.ip_spec.specs.declared.met.Child.TheVariants as Child
use Rattle.ip_spec.specs.declared.met.Met.{Met}
use Rattle.ip_spec.specs.declared.record.Record.{Record}
use Rattle.ip_spec.specs.declared.reply.Reply.{Reply}
use Rattle.ip_spec.specs.Map.{remove, retain_keys, same_entries_map}
use Rattle.ip_spec.specs.Path.{Bytes}
use Rattle.ip_spec.specs.Record.{Fits, IsBranchName, body, short_text, u64}
use Rattle.ip_spec.specs.Repository.{Repository, next, head, is_retained}
use Rattle.ip_spec.specs.Machine.{Phase, Work}
use Rattle.ip_spec.specs.Step.{MayRefuse, Refused, Turned, outcome, resolve, present, not_leaving, room_for_branch, enough, with_branch, ◌>>◌, ◌>>=◌}
use Rattle.ip_image.specs.Appending.{MayName}
use Rattle.ip_held.specs.declared.fault.StoreFault.{StoreFault}
use Rattle.ip_held.specs.declared.held.Held.{Held}
use Rattle.ip_held.specs.Collecting.{not_leaving_in}
use Rattle.ip_held.specs.Answers.{conditions_of, met_nothing, met_of, met_by, fault_reply, RefusesBy}
use Rattle.ip_appends.specs.Naming.{branch_reply, AnswersBranch, AnswersSet, AnswersRemove, Renames, without_branch}
use Rattle.ip_held.specs.Held.{IsOf}
use Rattle.ip_held.specs.Work.{AreParents, state_at}
use Rattle.ip_tables.proofs.Keyed.{absent_stays}
use Rattle.ip_held.proofs.Machine.{each_reply}
use Rattle.ip_held.proofs.Room.{room_after}
use Rattle.ip_held.proofs.CommandTurns.{refused_turn, limit_turn, memory_turns, done_turn}

-- whatever the work is
module _ (r : Repository) (phase : Phase) (command : Command) (may : MayRefuse command Child.NotAsked) (store : Held) where
  answers_reply : (reply : Reply) → ((work : Work) → outcome (state_at r phase work) command (conditions_of met_nothing) ≡ Err reply) → IsOf store r → AnswersBranch r phase command met_nothing reply store
  answers_reply reply is of = record { after = r; turns = λ work. refused_turn r phase work command may reply (is work); tables = of; parents = λ least ns are. are }

  answers_memory : IsOf store r → AnswersBranch r phase command (met_of StoreFault.Memory) Reply.Memory store
  answers_memory of = record { after = r; turns = λ work. memory_turns r phase work command may; tables = of; parents = λ least ns are. are }

  answers_fault : (fault : StoreFault) → IsSomeAnd (fault_reply fault) (λ reply. (work : Work) → outcome (state_at r phase work) command (conditions_of (met_of fault)) ≡ Err reply) → IsOf store r
      → IfSome (fault_reply fault) (λ reply. AnswersBranch r phase command (met_of fault) reply store)
  answers_fault (StoreFault.GivenUp number) is of = answers_reply (Reply.GivenUp number) is of
  answers_fault (StoreFault.HeadMoved name) is of = answers_reply (Reply.HeadMoved name) is of
  answers_fault (StoreFault.Leaving number) is of = answers_reply (Reply.Leaving number) is of
  answers_fault (StoreFault.Existing name) is of = answers_reply (Reply.Existing name) is of
  answers_fault (StoreFault.Limit limit) is of = record { after = r; turns = λ work. limit_turn r phase work command may limit (is work); tables = of; parents = λ least ns are. are }
  answers_fault StoreFault.Memory is of = answers_memory of
  answers_fault StoreFault.Ground is of = absurd is
  answers_fault (StoreFault.Damaged at names) is of = absurd is

  answers_done : (reply : Reply) (after : Repository) → ((work : Work) → outcome (state_at r phase work) command (conditions_of met_nothing) ≡ Ok (reply, state_at after phase work)) → IsOf store after
      → ((least : Option ℕ) (ns : List ℕ) → AreParents r least ns → AreParents after least ns) → AnswersBranch r phase command met_nothing reply store
  answers_done reply after is of parents = record { after = after; turns = λ work. done_turn r phase work command may reply after (is work); tables = of; parents = parents }

-- ---- setting a branch

module _ (r : Repository) (phase : Phase) (name : Bytes) (number : ℕ) where
  abbrev after : Repository
  after = with_branch r name number

  behind : Work → Met → Refused Turned
  behind work met = enough (conditions_of met) Limit.Space >> (enough (conditions_of met) Limit.Sequence >> Ok (Reply.Accepted, state_at after phase work))

  set_outcome : (work : Work) (target : Target) (met : Met) → resolve r target ≡ Ok number → outcome (state_at r phase work) (Command.Branch name target) (conditions_of met) ≡ (not_leaving_in phase (Some number) >> (room_for_branch r name >> behind work met))
  unfolding outcome behind
  set_outcome work target met is = ap (λ (g : Refused ℕ). g >>= (λ n. not_leaving (state_at r phase work) (Some n) >> (room_for_branch r name >> (enough (conditions_of met) Limit.Space >> (enough (conditions_of met) Limit.Sequence >> Ok (Reply.Accepted, state_at (with_branch r name n) phase work)))))) is

  set_parents : (least : Option ℕ) (ns : List ℕ) → AreParents r least ns → AreParents after least ns
  set_parents least ns are = record { made = are.made; above = are.above; distinct = are.distinct; few = are.few }

  -- no collection gives it up
  staying_outcome : not_leaving_in phase (Some number) ≡ Ok tt → (work : Work) (target : Target) (met : Met) → resolve r target ≡ Ok number → outcome (state_at r phase work) (Command.Branch name target) (conditions_of met) ≡ (room_for_branch r name >> behind work met)
  staying_outcome stays work target met is = set_outcome work target met is ∙ ap (λ g. g >> (room_for_branch r name >> behind work met)) stays

  by_reply : (fault : StoreFault) (store : Held) (o : Option Reply) → ((target : Target) → resolve r target ≡ Ok number → IfSome o (λ reply. AnswersBranch r phase (Command.Branch name target) (met_of fault) reply store))
      → IfSome o (AnswersSet r phase name number (met_of fault) store)
  by_reply fault store None all = tt
  by_reply fault store (Some reply) all = all

  -- a collection gives it up
  pub set_leaving : (store : Held) (fault : StoreFault) → RefusesBy (Err fault) (not_leaving_in phase (Some number)) → IsOf store r → IfSome (branch_reply (Err fault)) (AnswersSet r phase name number (met_of fault) store)
  set_leaving store fault leaves of = by_reply fault store (fault_reply fault) (λ target is.
      answers_fault r phase (Command.Branch name target) tt store fault
      (each_reply (λ (reply : Reply). not_leaving_in phase (Some number) ≡ Err reply) (λ (reply : Reply). (work : Work) → outcome (state_at r phase work) (Command.Branch name target) (conditions_of (met_of fault)) ≡ Err reply) (fault_reply fault)
      (λ reply e work. set_outcome work target (met_of fault) is ∙ ap (λ g. g >> (room_for_branch r name >> behind work (met_of fault))) e) leaves) of)

  -- there is no room for one more
  pub set_refused : (store : Held) (fault : StoreFault) → not_leaving_in phase (Some number) ≡ Ok tt → RefusesBy (Err fault) (room_for_branch r name) → IsOf store r → IfSome (branch_reply (Err fault)) (AnswersSet r phase name number (met_of fault) store)
  set_refused store fault stays full of = by_reply fault store (fault_reply fault) (λ target is.
      answers_fault r phase (Command.Branch name target) tt store fault
      (each_reply (λ (reply : Reply). room_for_branch r name ≡ Err reply) (λ (reply : Reply). (work : Work) → outcome (state_at r phase work) (Command.Branch name target) (conditions_of (met_of fault)) ≡ Err reply) (fault_reply fault)
      (λ reply e work. staying_outcome stays work target (met_of fault) is ∙ ap (λ g. g >> behind work (met_of fault)) e) full) of)

  -- the record's bytes could not be taken
  pub set_memory : (store : Held) → IsOf store r → AnswersSet r phase name number (met_of StoreFault.Memory) store Reply.Memory
  set_memory store of target is = answers_memory r phase (Command.Branch name target) tt store of

  pub set_answers : (store : Held) (result : Result (Unit {0}) StoreFault) → not_leaving_in phase (Some number) ≡ Ok tt → room_for_branch r name ≡ Ok tt → Renames r (Record.BranchSet number name) result store → IfSome (branch_reply result) (AnswersSet r phase name number (met_by result) store)
  unfolding behind
  set_answers store (Ok u) stays room of = λ target is.
      answers_done r phase (Command.Branch name target) tt store Reply.Accepted after (λ work. staying_outcome stays work target met_nothing is ∙ ap (λ g. g >> behind work met_nothing) room) of set_parents
  set_answers store (Err (StoreFault.Limit Limit.Space)) stays room of = λ target is.
      answers_fault r phase (Command.Branch name target) tt store (StoreFault.Limit Limit.Space) (λ work. staying_outcome stays work target (met_of (StoreFault.Limit Limit.Space)) is ∙ ap (λ g. g >> behind work (met_of (StoreFault.Limit Limit.Space))) room) of
  set_answers store (Err (StoreFault.Limit Limit.Sequence)) stays room of = λ target is.
      answers_fault r phase (Command.Branch name target) tt store (StoreFault.Limit Limit.Sequence) (λ work. staying_outcome stays work target (met_of (StoreFault.Limit Limit.Sequence)) is ∙ ap (λ g. g >> behind work (met_of (StoreFault.Limit Limit.Sequence))) room) of
  set_answers store (Err StoreFault.Memory) stays room of = set_memory store of
  set_answers store (Err StoreFault.Ground) stays room of = tt
  set_answers store (Err (StoreFault.Limit _)) stays room of = absurd of
  set_answers store (Err _) stays room of = absurd of

-- ---- its record

module _ (r : Repository) (name : Bytes) (number : ℕ) where
  pub set_may : (store : Held) → IsOf store r → IsTrue (is_retained r number) → room_for_branch r name ≡ Ok tt → MayName r (Record.BranchSet number name)
  set_may store of retained room = (retained, room_after r name number room of.retained.few)

  pub set_fits : (store : Held) → IsOf store r → IsTrue (is_retained r number) → IsBranchName name → Fits 1 (Record.BranchSet number name)
  unfolding body
  set_fits store of retained is_name =
      let high = high_of r.floor number (next r) retained in
      let n = of.next in
      let end = of.slot.next in
      let most = of.slot.ends in
      let short = is_name.short in
      record {
        size = omega (arith, length-append (u64 number) (short_text name), short);
        fields = (omega (arith, high, n, end, most), is_name);
      }
    where
      high_of : (floor n m : ℕ) → (nat_le floor n && nat_lt n m) ≡ true → n < m
      high_of floor n m is = grind (arith, nat_tests)

pub none_in : (o : Option ℕ) → is_none o ≡ true → o ≡ None
none_in None e = refl
none_in (Some n) e = absurd (cc (e))

pub some_in : (o : Option ℕ) → is_none o ≡ false → (n : ℕ) × (o ≡ Some n)
some_in None e = absurd (cc (e))
some_in (Some n) e = (n, refl)

-- ---- taking one away

module _ (r : Repository) (phase : Phase) (name : Bytes) where
  gone : Work → Met → Refused Turned
  gone work met = enough (conditions_of met) Limit.Space >> (enough (conditions_of met) Limit.Sequence >> Ok (Reply.Accepted, state_at (without_branch r name) phase work))

  remove_outcome : (work : Work) (met : Met) → outcome (state_at r phase work) (Command.BranchRm name) (conditions_of met) ≡ (present (head r name) (Reply.NoBranch name) >> gone work met)
  unfolding outcome gone
  remove_outcome work met = refl

  there : (o : Option ℕ) (n : ℕ) → o ≡ Some n → present o (Reply.NoBranch name) ≡ Ok n
  there o n is = ap (λ p. present p (Reply.NoBranch name)) is

  pub remove_none : (store : Held) → IsOf store r → head r name ≡ None → AnswersRemove r phase name met_nothing store (Reply.NoBranch name)
  remove_none store of none =
      answers_reply r phase (Command.BranchRm name) tt store (Reply.NoBranch name) (λ work. remove_outcome work met_nothing ∙ ap (λ o. present o (Reply.NoBranch name) >> gone work met_nothing) none) of

  pub remove_memory : (store : Held) → IsOf store r → AnswersRemove r phase name (met_of StoreFault.Memory) store Reply.Memory
  remove_memory store of = answers_memory r phase (Command.BranchRm name) tt store of

  pub remove_done : (store : Held) (n : ℕ) → head r name ≡ Some n → IsOf store (without_branch r name) → AnswersRemove r phase name met_nothing store Reply.Accepted
  unfolding gone
  remove_done store n is of =
      answers_done r phase (Command.BranchRm name) tt store Reply.Accepted (without_branch r name) (λ work. remove_outcome work met_nothing ∙ ap (λ o. present o (Reply.NoBranch name) >> gone work met_nothing) is) of
      (λ least ns are. record { made = are.made; above = are.above; distinct = are.distinct; few = are.few })

  pub remove_cut : (store : Held) (n : ℕ) (fault : StoreFault) → head r name ≡ Some n → Renames r (Record.BranchRemove name) (Err fault) store → IfSome (fault_reply fault) (AnswersRemove r phase name (met_of fault) store)
  unfolding gone
  remove_cut store n (StoreFault.Limit Limit.Space) is of =
      answers_fault r phase (Command.BranchRm name) tt store (StoreFault.Limit Limit.Space) (λ work. remove_outcome work (met_of (StoreFault.Limit Limit.Space)) ∙ ap (λ o. present o (Reply.NoBranch name) >> gone work (met_of (StoreFault.Limit Limit.Space))) is) of
  remove_cut store n (StoreFault.Limit Limit.Sequence) is of =
      answers_fault r phase (Command.BranchRm name) tt store (StoreFault.Limit Limit.Sequence) (λ work. remove_outcome work (met_of (StoreFault.Limit Limit.Sequence)) ∙ ap (λ o. present o (Reply.NoBranch name) >> gone work (met_of (StoreFault.Limit Limit.Sequence))) is) of
  remove_cut store n StoreFault.Memory is of = remove_memory store of
  remove_cut store n StoreFault.Ground is of = tt
  remove_cut store n (StoreFault.Limit _) is of = absurd of
  remove_cut store n _ is of = absurd of

module _ (r : Repository) (name : Bytes) where
  -- where there is none, taking it away is nothing
  pub absent_same : head r name ≡ None → without_branch r name ≡ r
  unfolding retain_keys
  absent_same none = ap (λ m. record r { branches = m }) (same_entries_map (remove r.branches name) r.branches (absent_stays name r.branches.entries none))

  pub remove_fits : IsBranchName name → Fits 1 (Record.BranchRemove name)
  unfolding body
  remove_fits is_name = let short = is_name.short in record { size = omega (arith, short); fields = is_name }
