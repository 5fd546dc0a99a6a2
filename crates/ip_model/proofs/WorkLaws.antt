-- What the machine answers to the commands that read and edit the work, where nothing is met.
use Rattle.std.proofs.Common.{◌≡◌, [], ℕ, ◌<◌, ◌≤◌, Bool, true, false, refl, ap, ◌∙◌, arith, length, nat_lt, ◌∷◌, ◌++◌, sym, nat_le, ◌==◌}
use Rattle.std.specs.List.{list_any}
use Rattle.std.proofs.lemmas.Bool.Decides.{nat_tests}
use Rattle.std.specs.Prelude.{Option, Some, None, Ok, if◌then◌else◌}
use Rattle.ip_spec.specs.declared.reply.Reply.{Reply}
use Rattle.ip_spec.specs.declared.command.Command.TheVariants as Command
use Rattle.ip_base.specs.declared.limit.Limit.TheVariants as Limit
use Rattle.ip_spec.specs.Path.{Bytes, Path}
use Rattle.ip_spec.specs.Tree as Tree
use Rattle.ip_spec.specs.Tree.{Tree, got_at, listed_at, widest, subtree, is_empty, no_tree}
use Rattle.ip_spec.specs.Map.{empty}
use Rattle.ip_spec.specs.Machine.{State, empty_work}
use Rattle.ip_model.specs.declared.work.Work as Kept
use Rattle.ip_model.specs.Working.{IsWork, WorksTo, parent_after}
use Rattle.ip_spec.specs.Step.{Turned, answer, outcome, quiet, or_refused, unless_some, refuse_if, with_parent, least_with, below, with_tree, got_reply, listed_reply, contents_limit, entries_limit, ◌>>◌}

none_below : (least : Option ℕ) → below 0 least ≡ None
none_below None = refl
none_below (Some n) = let e : nat_lt n 0 ≡ false = grind (arith, nat_tests) in ap (λ b. if b then Some n else None) e

module _ (s : State) (floor : s.repository.floor ≡ 0) where
  pub none_given : below s.repository.floor s.work.least ≡ None
  none_given = ap (λ f. below f s.work.least) floor ∙ none_below s.work.least

  abbrev set_by : Tree → Option ℕ → Bool → Bool → Turned
  set_by tree g b c = or_refused s (unless_some g Reply.GivenUp >> (refuse_if b (Reply.Limit Limit.Contents) >> (refuse_if c (Reply.Limit Limit.Entries) >> Ok (Reply.Accepted, with_tree s tree))))

  module _ (path : Path) (bytes : Bytes) where
    set_open : answer s (Command.Set path bytes) quiet ≡ set_by (Tree.put s.work.tree path bytes) (below s.repository.floor s.work.least) (nat_lt contents_limit (length bytes)) (nat_lt entries_limit (widest (Tree.put s.work.tree path bytes)))
    unfolding outcome
    set_open = refl

    set_tests : (b c : Bool) → nat_lt contents_limit (length bytes) ≡ b → nat_lt entries_limit (widest (Tree.put s.work.tree path bytes)) ≡ c → answer s (Command.Set path bytes) quiet ≡ set_by (Tree.put s.work.tree path bytes) None b c
    set_tests b c is wide =
        let tree = Tree.put s.work.tree path bytes in
        set_open ∙ (ap (λ g. set_by tree g (nat_lt contents_limit (length bytes)) (nat_lt entries_limit (widest tree))) none_given
        ∙ (ap (λ x. set_by tree None x (nat_lt entries_limit (widest tree))) is ∙ ap (λ x. set_by tree None b x) wide))

    pub set_long : contents_limit < length bytes → answer s (Command.Set path bytes) quiet ≡ (Reply.Limit Limit.Contents, s)
    set_long more = let e : nat_lt contents_limit (length bytes) ≡ true = grind (arith, nat_tests, more) in set_tests true _ e refl

    pub set_wide : length bytes ≤ contents_limit → entries_limit < widest (Tree.put s.work.tree path bytes) → answer s (Command.Set path bytes) quiet ≡ (Reply.Limit Limit.Entries, s)
    set_wide few more =
        let e : nat_lt contents_limit (length bytes) ≡ false = grind (arith, nat_tests, few) in
        let w : nat_lt entries_limit (widest (Tree.put s.work.tree path bytes)) ≡ true = grind (arith, nat_tests, more) in
        set_tests false true e w

    pub set_done : length bytes ≤ contents_limit → widest (Tree.put s.work.tree path bytes) ≤ entries_limit → answer s (Command.Set path bytes) quiet ≡ (Reply.Accepted, with_tree s (Tree.put s.work.tree path bytes))
    set_done few narrow =
        let e : nat_lt contents_limit (length bytes) ≡ false = grind (arith, nat_tests, few) in
        let w : nat_lt entries_limit (widest (Tree.put s.work.tree path bytes)) ≡ false = grind (arith, nat_tests, narrow) in
        set_tests false false e w

  abbrev rm_by : Tree → Option ℕ → Bool → Turned
  rm_by tree g b = or_refused s (unless_some g Reply.GivenUp >> (refuse_if b Reply.Absent >> Ok (Reply.Accepted, with_tree s tree)))

  rm_open : (path : Path) → answer s (Command.Rm path) quiet ≡ rm_by (Tree.remove s.work.tree path) (below s.repository.floor s.work.least) (is_empty (subtree s.work.tree path))
  unfolding outcome
  rm_open path = refl

  pub rm_tests : (path : Path) (b : Bool) → is_empty (subtree s.work.tree path) ≡ b → answer s (Command.Rm path) quiet ≡ rm_by (Tree.remove s.work.tree path) None b
  rm_tests path b is = rm_open path ∙ (ap (λ g. rm_by (Tree.remove s.work.tree path) g (is_empty (subtree s.work.tree path))) none_given ∙ ap (λ x. rm_by (Tree.remove s.work.tree path) None x) is)

  get_open : (path : Path) → answer s (Command.Get path) quiet ≡ or_refused s (unless_some (below s.repository.floor s.work.least) Reply.GivenUp >> Ok (got_reply (got_at s.work.tree path), s))
  unfolding outcome
  get_open path = refl

  pub get_done : (path : Path) → answer s (Command.Get path) quiet ≡ (got_reply (got_at s.work.tree path), s)
  get_done path = get_open path ∙ ap (λ g. or_refused s (unless_some g Reply.GivenUp >> Ok (got_reply (got_at s.work.tree path), s))) none_given

  list_open : (path : Path) → answer s (Command.List path) quiet ≡ or_refused s (unless_some (below s.repository.floor s.work.least) Reply.GivenUp >> Ok (listed_reply (listed_at s.work.tree path), s))
  unfolding outcome
  list_open path = refl

  pub list_done : (path : Path) → answer s (Command.List path) quiet ≡ (listed_reply (listed_at s.work.tree path), s)
  list_done path = list_open path ∙ ap (λ g. or_refused s (unless_some g Reply.GivenUp >> Ok (listed_reply (listed_at s.work.tree path), s))) none_given

pub begins : (w : Kept.Work) → w.tree ≡ [] → w.parents ≡ [] → w.least ≡ None → IsWork w empty_work
unfolding empty_work no_tree empty
begins w tree parents least = record { tree = tree; parents = parents; least = least }

module _ (w : Kept.Work) (s : State) (is : IsWork w s.work) (n : ℕ) where
  known : (b : Bool) → list_any (λ p. p == n) w.parents ≡ b → list_any (λ p. p == n) s.work.parents ≡ b
  known b e = ap (list_any (λ p. p == n)) (sym is.parents) ∙ e

  pub parent_again : list_any (λ p. p == n) w.parents ≡ true → WorksTo s (parent_after s n) Reply.Accepted w
  parent_again t = (s.work, is, ap (λ b. or_refused s (with_parent s n b)) (known true t))

  abbrev parent_by : Bool → Turned
  parent_by b = or_refused s (refuse_if b (Reply.Limit Limit.Parents) >> Ok (Reply.Accepted, record s { work = record s.work { parents = s.work.parents ++ n ∷ []; least = least_with s.work.least n } }))

  pub parent_full : list_any (λ p. p == n) w.parents ≡ false → 16 ≤ length w.parents → WorksTo s (parent_after s n) (Reply.Limit Limit.Parents) w
  parent_full t many =
      let size = ap length is.parents in
      let full : nat_le 16 (length s.work.parents) ≡ true = grind (arith, nat_tests, many, size) in
      (s.work, is, ap (λ b. or_refused s (with_parent s n b)) (known false t) ∙ ap parent_by full)

  pub parent_more : list_any (λ p. p == n) w.parents ≡ false → length w.parents < 16 → (w' : Kept.Work) → w'.tree ≡ w.tree → w'.parents ≡ w.parents ++ n ∷ [] → w'.least ≡ least_with w.least n → WorksTo s (parent_after s n) Reply.Accepted w'
  parent_more t few w' tree parents least =
      let size = ap length is.parents in
      let full : nat_le 16 (length s.work.parents) ≡ false = grind (arith, nat_tests, few, size) in (
        record s.work { parents = s.work.parents ++ n ∷ []; least = least_with s.work.least n },
        record { tree = tree ∙ is.tree; parents = parents ∙ ap (λ ps. ps ++ n ∷ []) is.parents; least = least ∙ ap (λ l. least_with l n) is.least },
        ap (λ b. or_refused s (with_parent s n b)) (known false t) ∙ ap parent_by full,
      )
