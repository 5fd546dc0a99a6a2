-- What the machine may answer to a merge.
--     IsQuiet reply after      so where nothing is met, whatever the work is.      some_turn      for a rule that answers in one way alone there is such an answer
--     turn_none, turn_current, turn_leaving, turn_bases, turn_memory      where nothing is merged.      turn_forward      the branch moves on
--     join_turn      the trees are merged with this outcome
use Rattle.std.proofs.Common.{◌≡◌, ℕ, ◌<◌, Bool, true, false, List, [], ◌∷◌, length, Option, Some, None, refl, sym, ◌∙◌, ap, subst, arith}
use Rattle.std.specs.Prelude.{Ok, Err, MatchResult, reverse, nat_lt}
use Rattle.std.specs.Bool.{MatchBool}
use Rattle.ip_base.specs.declared.info.Info.{Info}
use Rattle.ip_base.specs.declared.limit.Limit.{Limit}
use Rattle.ip_merge.specs.Rules.{IsDecisive}
use Rattle.ip_merge.proofs.Decisive.{some_merge}
use Rattle.ip_spec.specs.declared.command.Command.{Command}
use Rattle.ip_spec.specs.declared.command.Target.{Target}
use Rattle.ip_spec.specs.declared.met.Met.{Met}
use Rattle.ip_spec.specs.declared.reply.Reply.{Reply}
use Rattle.ip_spec.specs.History.{is_ancestor, is_proper_ancestor, lcas}
use Rattle.ip_spec.specs.Machine.{Phase, Work}
use Rattle.ip_spec.specs.Merge.{Rule, Merges, Outcome, merged, conflict_at}
use Rattle.ip_spec.specs.MergeModel.{base_of}
use Rattle.ip_spec.specs.Path.{Bytes}
use Rattle.ip_spec.specs.Repository.{Repository, head, name_at, tree_at}
use Rattle.ip_spec.specs.Step.{Refused, Turned, ◌>>=◌, ◌>>◌, or_refused, refuse_if, present, resolve, IsMet, Merging, MergesInto, Base, of_none, of_one, both_named, forward_turn, with_branch, with_commit, with_merge, new_commit, not_existing, tree_of_outcome, within_limits}
use Rattle.ip_spec.specs.Tree.{Tree}
use Rattle.ip_held.specs.declared.fault.StoreFault.{StoreFault}
use Rattle.ip_held.specs.Collecting.{not_leaving_in}
use Rattle.ip_held.specs.Answers.{conditions_of, met_nothing, met_of}
use Rattle.ip_appends.specs.Merging.{IsTurn, Moves, bases_of}
use Rattle.ip_held.specs.Work.{state_at}
use Rattle.ip_held.proofs.CommandTurns.{plain, short, short_so, wanting}
use Rattle.ip_held.proofs.Machine.{unkept}

-- ---- by tests

pub when_true : (b : Bool) (P Q : Type 0) → b ≡ true → P → MatchBool b P Q
when_true b P Q is p = subst (λ c. MatchBool c P Q) (sym is) p

when_false : (b : Bool) (P Q : Type 0) → b ≡ false → Q → MatchBool b P Q
when_false b P Q is q = subst (λ c. MatchBool c P Q) (sym is) q

module _ (rule : Rule) (r : Repository) (phase : Phase) (number : ℕ) (branch : Bytes) (info : Info) where
  abbrev merge : Target → Command
  merge target = Command.Merge target branch info

  abbrev IsTurnOf : Met → Reply → Repository → Type 0
  IsTurnOf = IsTurn rule r phase number branch info

  -- where nothing is met
  pub record IsQuiet (reply : Reply) (after : Repository) : Type 0 where
    pub turns : IsTurn rule r phase number branch info met_nothing reply after
    pub floor : after.floor ≡ r.floor
    pub stays : ¬ Moves reply → after ≡ r

  -- ---- what a merge may meet

  abbrev pub MayMeet : Met → Reply → Type 0
  MayMeet met reply = (work : Work) (target : Target) → IsMet (state_at r phase work) (merge target) (conditions_of met) reply

  pub meets_nothing : (reply : Reply) → MayMeet met_nothing reply
  meets_nothing reply work target = plain r phase work (merge target) tt reply

  pub meets_limit : (limit : Limit) → MayMeet (met_of (StoreFault.Limit limit)) (Reply.Limit limit)
  meets_limit limit work target = short r phase work (merge target) tt limit (short_so r phase work (merge target) tt limit)

  pub turn_memory : IsTurnOf (met_of StoreFault.Memory) Reply.Memory r
  turn_memory work target is = (wanting r phase work (merge target) tt, (refl, sym (unkept (state_at r phase work) phase)))

  -- ---- the names

  named_none : (work : Work) (target : Target) → resolve r target ≡ Ok number → head r branch ≡ None → both_named (state_at r phase work) target branch ≡ Err (Reply.NoBranch branch)
  named_none work target is none = λ i. is i >>= (λ n. present (none i) (Reply.NoBranch branch) >>= (λ m. Ok (n, m)))

  abbrev no_branch : Refused Turned
  no_branch = Err (Reply.NoBranch branch)

  pub turn_none : head r branch ≡ None → IsQuiet (Reply.NoBranch branch) r
  turn_none none = record {
    turns = λ work target is. (
      meets_nothing (Reply.NoBranch branch) work target,
      (
        no_branch,
        refl,
        subst (λ (both : Refused (ℕ × ℕ)). MatchResult both (λ both. MergesInto rule (state_at r phase work) (conditions_of met_nothing) both.0 branch both.1 info no_branch) (λ reply. no_branch ≡ Err reply))
            (sym (named_none work target is none)) refl,
      ),
    );
    floor = refl;
    stays = λ still. refl;
  }

  module _ (at : ℕ) (there : head r branch ≡ Some at) where
    named : (work : Work) (target : Target) → resolve r target ≡ Ok number → both_named (state_at r phase work) target branch ≡ Ok (number, at)
    named work target is = λ i. is i >>= (λ n. present (there i) (Reply.NoBranch branch) >>= (λ m. Ok (n, m)))

    -- of the commit that the branch is at
    abbrev Into : Met → Work → Refused Turned → Type 0
    Into met work refused = MergesInto rule (state_at r phase work) (conditions_of met) number branch at info refused

    turn_into : (met : Met) (reply : Reply) (after : Repository) → met.refused ≡ false → MayMeet met reply → ((work : Work) → (refused : Refused Turned) × ((reply, state_at after phase work) ≡ or_refused (state_at r phase work) refused) × Into met work refused)
        → IsTurnOf met reply after
    turn_into met reply after unrefused meets of work target is =
        let (refused, same, into) = of work in (
          meets work target,
          when_false met.refused _ (Merging rule (state_at r phase work) target branch info (conditions_of met) (reply, state_at after phase work)) unrefused
              (refused, same, subst (λ (both : Refused (ℕ × ℕ)). MatchResult both (λ both. MergesInto rule (state_at r phase work) (conditions_of met) both.0 branch both.1 info refused) (λ reply. refused ≡ Err reply)) (sym (named work target is)) into),
        )

    pub turn_current : is_ancestor r number at ≡ true → IsQuiet (Reply.Current (name_at r at)) r
    turn_current is = record {
      turns = turn_into met_nothing (Reply.Current (name_at r at)) r refl (meets_nothing (Reply.Current (name_at r at)))
          (λ work. (Ok (Reply.Current (name_at r at), state_at r phase work), refl, when_true (is_ancestor r number at) _ _ is refl));
      floor = refl;
      stays = λ still. refl;
    }

    module _ (not_current : is_ancestor r number at ≡ false) where
      module _ (forward : is_proper_ancestor r at number ≡ true) where
        forward_into : (met : Met) (work : Work) → Into met work (forward_turn (state_at r phase work) (conditions_of met) number branch)
        forward_into met work = when_false (is_ancestor r number at) _ _ not_current (when_true (is_proper_ancestor r at number) _ _ forward refl)

        pub turn_forward : IsQuiet (Reply.Forward (name_at r number)) (with_branch r branch number)
        turn_forward = record {
          turns = turn_into met_nothing (Reply.Forward (name_at r number)) (with_branch r branch number) refl (meets_nothing (Reply.Forward (name_at r number))) (λ work. (_, refl, forward_into met_nothing work));
          floor = refl;
          stays = λ still. absurd (still tt);
        }

        pub forward_space : IsTurnOf (met_of (StoreFault.Limit Limit.Space)) (Reply.Limit Limit.Space) r
        forward_space = turn_into (met_of (StoreFault.Limit Limit.Space)) (Reply.Limit Limit.Space) r refl (meets_limit Limit.Space) (λ work. (_, refl, forward_into (met_of (StoreFault.Limit Limit.Space)) work))

        pub forward_sequence : IsTurnOf (met_of (StoreFault.Limit Limit.Sequence)) (Reply.Limit Limit.Sequence) r
        forward_sequence = turn_into (met_of (StoreFault.Limit Limit.Sequence)) (Reply.Limit Limit.Sequence) r refl (meets_limit Limit.Sequence) (λ work. (_, refl, forward_into (met_of (StoreFault.Limit Limit.Sequence)) work))

      -- ---- neither is an ancestor of the other

      -- a collection gives the commit up
      pub turn_leaving : is_proper_ancestor r at number ≡ false → (reply : Reply) → not_leaving_in phase (Some number) ≡ Err reply → IsQuiet reply r
      turn_leaving not_forward reply leaves = record {
        turns = turn_into met_nothing reply r refl (meets_nothing reply) (λ work. (Err reply, refl, left_into work));
        floor = refl;
        stays = λ still. refl;
      }
        where
          left_into : (work : Work) → Into met_nothing work (Err reply)
          left_into work = when_false (is_ancestor r number at) _ _ not_current (when_false (is_proper_ancestor r at number) _ _ not_forward
              (subst (λ (g : Refused (Unit {0})). MatchResult (g >> refuse_if (nat_lt 1 (length (lcas r at number))) (Reply.Bases (length (lcas r at number))))
              (λ _. (base : Refused Tree) × Base rule r (reverse (lcas r at number)) base × MatchResult base
              (λ o. (m : Outcome) × Merges rule o (tree_at r at) (tree_at r number) m × (◌≡◌ {A = Refused Turned} (Err reply) (tree_of_outcome m >>= with_merge (state_at r phase work) (conditions_of met_nothing) number branch at info)))
              (λ reply'. ◌≡◌ {A = Refused Turned} (Err reply) (Err reply')))
              (λ reply'. ◌≡◌ {A = Refused Turned} (Err reply) (Err reply'))) (sym leaves) refl))

      module _ (not_forward : is_proper_ancestor r at number ≡ false) (staying : not_leaving_in phase (Some number) ≡ Ok tt) where
        abbrev JoinsBy : Met → Work → List ℕ → Refused Turned → Type 0
        JoinsBy met work cs turned = MatchResult (refuse_if (nat_lt 1 (length cs)) (Reply.Bases (length cs)))
            (λ _. (base : Refused Tree) × Base rule r (reverse cs) base × MatchResult base
            (λ o. (m : Outcome) × Merges rule o (tree_at r at) (tree_at r number) m × (turned ≡ (tree_of_outcome m >>= with_merge (state_at r phase work) (conditions_of met) number branch at info)))
            (λ reply. turned ≡ Err reply))
            (λ reply. turned ≡ Err reply)

        joins_into : (met : Met) (work : Work) (turned : Refused Turned) → JoinsBy met work (lcas r at number) turned → Into met work turned
        joins_into met work turned joins = when_false (is_ancestor r number at) _ _ not_current (when_false (is_proper_ancestor r at number) _ _ not_forward
            (subst (λ (g : Refused (Unit {0})). MatchResult (g >> refuse_if (nat_lt 1 (length (lcas r at number))) (Reply.Bases (length (lcas r at number))))
            (λ _. (base : Refused Tree) × Base rule r (reverse (lcas r at number)) base × MatchResult base
            (λ o. (m : Outcome) × Merges rule o (tree_at r at) (tree_at r number) m × (turned ≡ (tree_of_outcome m >>= with_merge (state_at r phase work) (conditions_of met) number branch at info)))
            (λ reply. turned ≡ Err reply))
            (λ reply. turned ≡ Err reply)) (sym staying) joins))

        abbrev several : List ℕ → Refused Turned
        several cs = Err (Reply.Bases (length cs))

        -- of several least common ancestors nothing is merged
        many : (cs : List ℕ) → 1 < length cs → (met : Met) (work : Work) → JoinsBy met work cs (several cs)
        many cs more met work = by (nat_lt 1 (length cs)) (tested (length cs) more)
          where
            tested : (n : ℕ) → 1 < n → nat_lt 1 n ≡ true
            tested n low = grind arith

            by : (b : Bool) → b ≡ true → MatchResult (refuse_if b (Reply.Bases (length cs)))
                (λ _. (base : Refused Tree) × Base rule r (reverse cs) base × MatchResult base
                (λ o. (m : Outcome) × Merges rule o (tree_at r at) (tree_at r number) m × (several cs ≡ (tree_of_outcome m >>= with_merge (state_at r phase work) (conditions_of met) number branch at info)))
                (λ reply. several cs ≡ Err reply))
                (λ reply. several cs ≡ Err reply)
            by true is = refl
            by false is = absurd (cc (is))

        pub turn_bases : (count : ℕ) → 1 < length (lcas r at number) → count ≡ length (lcas r at number) → IsQuiet (Reply.Bases count) r
        turn_bases count more same = record {
          turns = turn_into met_nothing (Reply.Bases count) r refl (meets_nothing (Reply.Bases count))
              (λ work. (several (lcas r at number), ap (λ (n : ℕ). (Reply.Bases n, state_at r phase work)) same, joins_into met_nothing work _ (many (lcas r at number) more met_nothing work)));
          floor = refl;
          stays = λ still. refl;
        }

        module _ (base : Option ℕ) (least : lcas r at number ≡ bases_of base) where
          abbrev pub IsOutcomeOf : Outcome → Type 0
          IsOutcomeOf m = Merges rule (base_of r (bases_of base)) (tree_at r at) (tree_at r number) m

          abbrev pub joined : Met → Work → Outcome → Refused Turned
          joined met work m = tree_of_outcome m >>= with_merge (state_at r phase work) (conditions_of met) number branch at info

          one_base : (base : Option ℕ) (met : Met) (work : Work) (m : Outcome) → Merges rule (base_of r (bases_of base)) (tree_at r at) (tree_at r number) m → JoinsBy met work (bases_of base) (joined met work m)
          one_base None met work m is = (Ok (base_of r []), of_none, (m, is, refl))
          one_base (Some c) met work m is = (Ok (tree_at r c), of_one c, (m, is, refl))

          joined_into : (met : Met) (work : Work) (m : Outcome) → IsOutcomeOf m → Into met work (joined met work m)
          joined_into met work m is = joins_into met work (joined met work m) (subst (λ cs. JoinsBy met work cs (joined met work m)) (sym least) (one_base base met work m is))

          -- with this outcome, whatever the work is
          pub join_turn : (met : Met) (m : Outcome) → IsOutcomeOf m → (reply : Reply) (after : Repository) → met.refused ≡ false → MayMeet met reply
              → ((work : Work) → (reply, state_at after phase work) ≡ or_refused (state_at r phase work) (joined met work m)) → IsTurnOf met reply after
          join_turn met m is reply after unrefused meets same = turn_into met reply after unrefused meets (λ work. (joined met work m, same work, joined_into met work m is))

          pub join_plain : (m : Outcome) → IsOutcomeOf m → (reply : Reply) (after : Repository) → ((work : Work) → (reply, state_at after phase work) ≡ or_refused (state_at r phase work) (joined met_nothing work m)) → IsTurnOf met_nothing reply after
          join_plain m is reply after same = join_turn met_nothing m is reply after refl (meets_nothing reply) same

          pub join_limit : (limit : Limit) (m : Outcome) → IsOutcomeOf m → ((work : Work) → (Reply.Limit limit, state_at r phase work) ≡ or_refused (state_at r phase work) (joined (met_of (StoreFault.Limit limit)) work m))
              → IsTurnOf (met_of (StoreFault.Limit limit)) (Reply.Limit limit) r
          join_limit limit m is same = join_turn (met_of (StoreFault.Limit limit)) m is (Reply.Limit limit) r (unrefused limit) (meets_limit limit) same
            where
              unrefused : (limit : Limit) → (met_of (StoreFault.Limit limit)).refused ≡ false
              unrefused limit = refl

          pub turn_conflict : (path : _) → IsOutcomeOf (conflict_at path) → IsQuiet (Reply.Conflict path) r
          turn_conflict path is = record { turns = join_plain (conflict_at path) is (Reply.Conflict path) r (λ work. refl); floor = refl; stays = λ still. refl }

          -- ---- the tree is refused

          pub refused_tree : (limit : Limit) (t : Tree) → IsOutcomeOf (merged t) → within_limits t ≡ Err (Reply.Limit limit) → IsTurnOf (met_of (StoreFault.Limit limit)) (Reply.Limit limit) r
          refused_tree limit t is over = join_limit limit (merged t) is (λ work. sym (ap (λ (g : Refused Tree). or_refused (state_at r phase work) (g >>= with_merge (state_at r phase work) (conditions_of (met_of (StoreFault.Limit limit))) number branch at info)) over))

          -- ---- some turn, of any outcome

          record SomeJoin : Type 0 where
            reply : Reply
            after : Repository
            quiet : IsQuiet reply after

          behind_tree : (t : Tree) (m : Outcome) → IsOutcomeOf m → tree_of_outcome m ≡ Ok t → (existing : Refused (Unit {0})) → not_existing r (new_commit r t (at ∷ number ∷ []) info).name ≡ existing → SomeJoin
          behind_tree t m is good (Err reply) old = record {
            reply = reply;
            after = r;
            quiet = record {
              turns = join_plain m is reply r (λ work. sym (ap (λ (g : Refused Tree). or_refused (state_at r phase work) (g >>= with_merge (state_at r phase work) (conditions_of met_nothing) number branch at info)) good
                  ∙ ap (λ (g : Refused (Unit {0})). or_refused (state_at r phase work) (g >> Ok (Reply.Merged (new_commit r t (at ∷ number ∷ []) info).name, state_at (with_commit r (new_commit r t (at ∷ number ∷ []) info) branch) phase work))) old));
              floor = refl;
              stays = λ still. refl;
            };
          }
          behind_tree t m is good (Ok u) new = record {
            reply = Reply.Merged (new_commit r t (at ∷ number ∷ []) info).name;
            after = with_commit r (new_commit r t (at ∷ number ∷ []) info) branch;
            quiet = record {
              turns = join_plain m is (Reply.Merged (new_commit r t (at ∷ number ∷ []) info).name) (with_commit r (new_commit r t (at ∷ number ∷ []) info) branch)
                  (λ work. sym (ap (λ (g : Refused Tree). or_refused (state_at r phase work) (g >>= with_merge (state_at r phase work) (conditions_of met_nothing) number branch at info)) good
                  ∙ ap (λ (g : Refused (Unit {0})). or_refused (state_at r phase work) (g >> Ok (Reply.Merged (new_commit r t (at ∷ number ∷ []) info).name, state_at (with_commit r (new_commit r t (at ∷ number ∷ []) info) branch) phase work))) new));
              floor = refl;
              stays = λ still. absurd (still tt);
            };
          }

          some_by : (m : Outcome) → IsOutcomeOf m → (tree : Refused Tree) → tree_of_outcome m ≡ tree → SomeJoin
          some_by m is (Err reply) refused = record {
            reply = reply;
            after = r;
            quiet = record {
              turns = join_plain m is reply r (λ work. sym (ap (λ (g : Refused Tree). or_refused (state_at r phase work) (g >>= with_merge (state_at r phase work) (conditions_of met_nothing) number branch at info)) refused));
              floor = refl;
              stays = λ still. refl;
            };
          }
          some_by m is (Ok t) good = behind_tree t m is good (not_existing r (new_commit r t (at ∷ number ∷ []) info).name) refl

          some_joined : IsDecisive rule → SomeJoin
          some_joined decides =
              let some = some_merge rule decides (base_of r (bases_of base)) (tree_at r at) (tree_at r number) in
              some_by some.0 some.1 (tree_of_outcome some.0) refl

  -- ---- some turn there is

  pub record SomeTurn : Type 0 where
    pub reply : Reply
    pub after : Repository
    pub quiet : IsQuiet reply after

  pub some_turn : IsDecisive rule → SomeTurn
  some_turn decides = by (head r branch) refl
    where
      by_least : (at : ℕ) → head r branch ≡ Some at → is_ancestor r number at ≡ false → is_proper_ancestor r at number ≡ false → not_leaving_in phase (Some number) ≡ Ok tt → (cs : List ℕ) → lcas r at number ≡ cs → SomeTurn
      by_least at there current forward staying [] is = let some = some_joined at there current forward staying None is decides in record { reply = some.reply; after = some.after; quiet = some.quiet }
      by_least at there current forward staying (c ∷ []) is = let some = some_joined at there current forward staying (Some c) is decides in record { reply = some.reply; after = some.after; quiet = some.quiet }
      by_least at there current forward staying (c ∷ d ∷ cs) is = record {
        reply = Reply.Bases (length (lcas r at number));
        after = r;
        quiet = turn_bases at there current forward staying (length (lcas r at number)) (let size = ap length is in omega (arith, size)) refl;
      }

      by_leaving : (at : ℕ) → head r branch ≡ Some at → is_ancestor r number at ≡ false → is_proper_ancestor r at number ≡ false → (g : Refused (Unit {0})) → not_leaving_in phase (Some number) ≡ g → SomeTurn
      by_leaving at there current forward (Ok tt) is = by_least at there current forward is (lcas r at number) refl
      by_leaving at there current forward (Err reply) is = record { reply = reply; after = r; quiet = turn_leaving at there current forward reply is }

      by_forward : (at : ℕ) → head r branch ≡ Some at → is_ancestor r number at ≡ false → (b : Bool) → is_proper_ancestor r at number ≡ b → SomeTurn
      by_forward at there current true is = record { reply = Reply.Forward (name_at r number); after = with_branch r branch number; quiet = turn_forward at there current is }
      by_forward at there current false is = by_leaving at there current is (not_leaving_in phase (Some number)) refl

      by_current : (at : ℕ) → head r branch ≡ Some at → (b : Bool) → is_ancestor r number at ≡ b → SomeTurn
      by_current at there true is = record { reply = Reply.Current (name_at r at); after = r; quiet = turn_current at there is }
      by_current at there false is = by_forward at there is (is_proper_ancestor r at number) refl

      by : (o : Option ℕ) → head r branch ≡ o → SomeTurn
      by None is = record { reply = Reply.NoBranch branch; after = r; quiet = turn_none is }
      by (Some at) is = by_current at is (is_ancestor r number at) refl
