-- The entries of leaves, as they are put.
--     put_told      what a map tells of a step after one was put
--     entries_put, step_put, steps_put      one entry more
--     fetched_leaf, read_leaf      those of a leaf are what stands at the steps to which its indexes lead
use Rattle.std.proofs.Common.{◌≡◌, ℕ, zero, suc, ◌-◌, ◌≤◌, Bool, true, false, List, [], ◌∷◌, length, refl, sym, ap, subst, ◌∙◌, Option, Some, None, cond, rules}
use Rattle.std.proofs.lemmas.Bool.{false≢true}
use Rattle.std.proofs.lemmas.Cmp.{nat_list_cmp_total}
use Rattle.std.specs.Global.{Global}
use Rattle.std.specs.Option.{option_or}
use Rattle.std.specs.Prelude.{◌&&◌, ◌||◌, Vec, is_none, is_some, nat_le, option_map}
use Rattle.std.specs.FinMap.Entries.{find, find-put, put}
use Rattle.ip_spec.specs.Path.{Step, bytes_cmp, same_bytes}
use Rattle.ip_spec.specs.Shape.{Entries, deepest, leaf_limit, part}
use Rattle.ip_spec.specs.StoredParts.{entry_named}
use Rattle.ip_spec.specs.View.{leads}
use Rattle.ip_spec.specs.declared.record.LeafEntry.{LeafEntry}
use Rattle.ip_spec.specs.declared.record.Record.{Record}
use Rattle.ip_shape.specs.Directory.{entries_in, root_of, steps_of}
use Rattle.ip_shape.specs.Loaded.{unread_in, way_to}
use Rattle.ip_shape.specs.Shape.{ByTest, IsInodeOf, IsLeafOf, IsPart, has, steps_at}
use Rattle.ip_shape.specs.declared.dir.Dir.{Dir}
use Rattle.ip_shape.specs.declared.part.Part.{Part, out-Part}
use Rattle.ip_shape.specs.declared.part.Part.TheOpen as layer
use Rattle.ip_shape.specs.declared.part.Part.TheVariants as variant
use Rattle.ip_shape.specs.declared.part.Part.TheViews as whole
use Rattle.ip_shape.proofs.Entries.{has_of}
use Rattle.ip_shape.proofs.Steps.{equal, same_step}
use Rattle.ip_shape.proofs.Ways.{unread_leaf, unread_unread}
use Rattle.ip_tree.specs.Known.{unread_entry}
use Rattle.ip_tree.specs.Reads.{FindsEntry, stored_of_entry}
use Rattle.ip_tree.specs.declared.node.Node.{Node}
use Rattle.ip_tree.specs.declared.node.Stored.{Stored}
use Rattle.ip_tree.proofs.EntryBelow.{leaf_finds}
use Rattle.ip_tree.proofs.Indexes.{no_some}
use Rattle.ip_tree.proofs.MoreRecords.{leaf_entry}
use Rattle.ip_tree.proofs.PartEntries.{part_found}
use Rattle.ip_differ.specs.Pieces.{IsRead, IsUnreadPart, is_inode_layer, read_entry, stored_entry}
use Rattle.ip_differ.specs.Sides.{pair_or, set_side, with_side}
use Rattle.ip_differ.specs.declared.pairs.Entry.{Entry}
use Rattle.ip_differ.specs.declared.pairs.Pair.{Pair}
use Rattle.ip_differ.specs.declared.pairs.Side.{Side}
use Rattle.ip_differ.specs.declared.pairs.Side.TheVariants.{One, Other}
use Rattle.ip_differ.proofs.Indexed.{way_behind}
use Rattle.ip_differ.proofs.Standing.{as_stored, has_read}

-- ---- putting one after the other

pub put_told : (side : Side) (k : Step) (e : Entry) (pair : Pair) (old : List (Step × Pair)) → pair ≡ set_side side e (pair_or (find bytes_cmp k old)) → (s : Step)
    → find bytes_cmp s (put bytes_cmp k pair old) ≡ with_side side (cond (same_bytes s k) (Some e) None) (find bytes_cmp s old)
put_told side k e pair old is s = find-put bytes_cmp nat_list_cmp_total s k pair old ∙ by (same_bytes s k) refl
  where
    by : (b : Bool) → same_bytes s k ≡ b → cond b (Some pair) (find bytes_cmp s old) ≡ with_side side (cond b (Some e) None) (find bytes_cmp s old)
    by true same = ap Some (is ∙ ap (λ t. set_side side e (pair_or (find bytes_cmp t old))) (sym (same_step s k (equal _ same))))
    by false same = refl

set_again : (side : Side) (d e : Entry) (x : Pair) → set_side side d (set_side side e x) ≡ set_side side d x
set_again One d e x = refl
set_again Other d e x = refl

-- of two at one step the later one counts
with_both : (side : Side) (b : Bool) (d : Entry) (e : Option Entry) (x : Option Pair) → with_side side (cond b (Some d) None) (with_side side e x) ≡ with_side side (cond b (Some d) e) x
with_both side true d None x = refl
with_both side true d (Some e) x = ap Some (set_again side d e (pair_or x))
with_both side false d e x = refl

-- where both may tell it, both tell the same
pub with_same : (side : Side) (b c : Bool) (m : Option Entry) (x : Option Pair) → with_side side (cond b m None) (with_side side (cond c m None) x) ≡ with_side side (cond (b || c) m None) x
with_same side true true None x = refl
with_same side true true (Some m) x = ap Some (set_again side m m (pair_or x))
with_same side true false m x = refl
with_same side false c m x = refl

entry_or : (b : Bool) (e : LeafEntry) (o : Option LeafEntry) → cond b (Some (stored_entry e)) (option_map stored_entry o) ≡ option_map stored_entry (cond b (Some e) o)
entry_or true e o = refl
entry_or false e o = refl

pub entries_put : (side : Side) (e : LeafEntry) (rest : List LeafEntry) (s : Step) (x : Option Pair)
    → with_side side (cond (same_bytes s e.step) (Some (stored_entry e)) None) (with_side side (option_map stored_entry (entry_named s rest)) x) ≡ with_side side (option_map stored_entry (entry_named s (e ∷ rest))) x
entries_put side e rest s x =
    with_both side (same_bytes s e.step) (stored_entry e) (option_map stored_entry (entry_named s rest)) x ∙ ap (λ o. with_side side o x) (entry_or (same_bytes s e.step) e (entry_named s rest))

-- what is read at a step of a directory
pub step_put : (b : Bool) (s k : Step) (es : List (Step × Node)) (o : Option Node) → same_bytes s k ≡ b → find bytes_cmp k es ≡ o → cond b (option_map read_entry o) None ≡ cond b (option_map read_entry (find bytes_cmp s es)) None
step_put true s k es o same is = ap (option_map read_entry) (sym is ∙ ap (λ t. find bytes_cmp t es) (sym (same_step s k (equal _ same))))
step_put false s k es o same is = refl

-- ---- leaves

where_leads : {X : Type 0} (b : Bool) (o p : Option X) → (b ≡ true → o ≡ p) → (b ≡ false → o ≡ None) → o ≡ cond b p None
where_leads true o p f g = f refl
where_leads false o p f g = g refl

module _ (records : ℕ → Option Record) (a : Step → Option Entry) (es : Entries) (is : List ℕ) (s : Step) where
  away_none : leads 0 is s ≡ false → find bytes_cmp s (part es is) ≡ None
  away_none away = part_found 0 is es s ∙ ap (λ b. cond b (find bytes_cmp s es) None) away

  pub fetched_leaf : (x : Stored) (fields : List LeafEntry) → IsUnreadPart records a es is x → records x.reference.at ≡ Some (Record.Leaf fields) → option_map stored_entry (entry_named s fields) ≡ cond (leads 0 is s) (a s) None
  fetched_leaf x fields unread here =
      where_leads (leads 0 is s) (option_map stored_entry (entry_named s fields)) (a s)
      (λ there.
      ap (option_map stored_entry) (sym (leaf_entry records (deepest - length is) s x.reference.at fields here)) ∙ as_stored _ ∙ sym (unread.tells s there))
      (λ away.
      ap (option_map stored_entry) (none_there (entry_named s fields) (away_none away) (leaf_finds records (length is) x.reference.at (part es is) unread.asked.part fields s (option_map stored_of_entry (entry_named s fields)) here refl)))
    where
      none_there : (o : Option LeafEntry) → find bytes_cmp s (part es is) ≡ None → FindsEntry records (part es is) s (option_map stored_of_entry o) → o ≡ None
      none_there None e f = refl
      none_there (Some y) e f = no_some f.0 (sym e ∙ f.1)

  module _ (d : Dir Node Stored) (p : Part Stored) (read : IsRead records a es is d p) (known : Option Stored) (held : Vec Step Global) (same : p ≡ variant.Leaf known held) (low : length is ≤ deepest) where
    out : out-Part Stored p ≡ layer.Leaf known held
    unfolding out-Part denote.Hole.Carrier.out
    out = ap (out-Part Stored) same ∙ search (rules, whole.the_lemmas)

    holds : held.items ≡ steps_of (part es is)
    holds = by (deepest - length is) read.held.shape
      where
        at_leaf : IsLeafOf (steps_of (part es is)) (out-Part Stored p) → held.items ≡ steps_of (part es is)
        at_leaf leaf = subst (IsLeafOf (steps_of (part es is))) out leaf

        tested : (n : ℕ) (b : Bool)
            → ByTest b (IsLeafOf (steps_of (part es is)) (out-Part Stored p))
            (IsInodeOf (length (steps_of (part es is))) (λ i child. IsPart n (suc (length is)) (steps_at (length is) i (steps_of (part es is))) child) (out-Part Stored p))
            → held.items ≡ steps_of (part es is)
        tested n true leaf = at_leaf leaf
        tested n false inode =
            absurd
            (subst (IsInodeOf (length (steps_of (part es is))) (λ i child. IsPart n (suc (length is)) (steps_at (length is) i (steps_of (part es is))) child)) out inode)

        by : (n : ℕ) → IsPart n (length is) (steps_of (part es is)) p → held.items ≡ steps_of (part es is)
        by zero shape = at_leaf shape
        by (suc n) shape = tested n (nat_le (length (steps_of (part es is))) leaf_limit) shape

    has_held : has s held.items ≡ is_some (find bytes_cmp s (part es is))
    has_held = ap (has s) holds ∙ has_of s (part es is)

    read_here : leads 0 is s ≡ true → unread_in (way_to s) (root_of d) ≡ None
    read_here there =
        let behind = way_behind is s low there in
        ap (λ l. unread_in l (root_of d)) behind.whole ∙ read.held.unread behind.rest ∙ ap (unread_in behind.rest) same ∙ unread_leaf known held behind.rest

    -- an entry of the directory at a step to which the indexes lead is one of the leaf
    has_both : leads 0 is s ≡ true → is_some (find bytes_cmp s (entries_in d)) ≡ has s held.items
    has_both there =
        has_read d es read.held.steps s ∙ ap (λ o. is_none o && has s (steps_of es)) (read_here there) ∙ has_of s es
        ∙ sym (has_held ∙ ap is_some (part_found 0 is es s ∙ ap (λ b. cond b (find bytes_cmp s es) None) there))

    pub read_leaf : cond (has s held.items) (option_map read_entry (find bytes_cmp s (entries_in d))) None ≡ cond (leads 0 is s) (a s) None
    read_leaf =
        where_leads (leads 0 is s) (cond (has s held.items) (option_map read_entry (find bytes_cmp s (entries_in d))) None) (a s)
        (λ there. ap (λ b. cond b (option_map read_entry (find bytes_cmp s (entries_in d))) None) (sym (has_both there)) ∙ by (find bytes_cmp s (entries_in d)) ∙ sym (stands there))
        (λ away. ap (λ b. cond b (option_map read_entry (find bytes_cmp s (entries_in d))) None) (has_held ∙ ap is_some (away_none away)))
      where
        by : (o : Option Node) → cond (is_some o) (option_map read_entry o) None ≡ option_or (option_map read_entry o) None
        by None = refl
        by (Some n) = refl

        stands : leads 0 is s ≡ true → a s ≡ option_or (option_map read_entry (find bytes_cmp s (entries_in d))) None
        stands there = read.held.tells s ∙ ap (λ u. option_or (option_map read_entry (find bytes_cmp s (entries_in d))) (option_map stored_entry (unread_entry records s u))) (read_here there)

-- ---- one step more of a leaf that was read

pub front_more : (s t : Step) (front rest steps : List Step) → (has s front || has s (t ∷ rest)) ≡ has s steps → (has s (t ∷ front) || has s rest) ≡ has s steps
front_more s t front rest steps e = by (has s front) (same_bytes s t) (has s rest) ∙ e
  where
    by : (f y d : Bool) → ((y || f) || d) ≡ (f || (y || d))
    by true true d = refl
    by true false d = refl
    by false true d = refl
    by false false d = refl

pub front_all : (s : Step) (front steps : List Step) → (has s front || has s []) ≡ has s steps → has s front ≡ has s steps
front_all s front steps e = by (has s front) ∙ e
  where
    by : (f : Bool) → f ≡ (f || false)
    by true = refl
    by false = refl

pub steps_put : (side : Side) (m : Option Entry) (y f : Bool) (x : Option Pair) → with_side side (cond y m None) (with_side side (cond f m None) x) ≡ with_side side (cond (y || f) m None) x
steps_put side m y f x = with_same side y f m x

pub step_none : (b : Bool) (s k : Step) (es : List (Step × Node)) → same_bytes s k ≡ b → find bytes_cmp k es ≡ None → None ≡ cond b (option_map read_entry (find bytes_cmp s es)) None
step_none true s k es same is = step_put true s k es None same is
step_none false s k es same is = refl

-- ---- what is no leaf

out_inode : (known : Option Stored) (n : ℕ) (parts : Vec (Part Stored) Global) → out-Part Stored (variant.Inode known n parts) ≡ layer.Inode known n parts
unfolding out-Part denote.Hole.Carrier.out
out_inode known n parts = search (rules, whole.the_lemmas)

pub nothing_put : (a : Step → Option Entry) (is : List ℕ) (s : Step) → (leads 0 is s ≡ true → a s ≡ None) → None ≡ cond (leads 0 is s) (a s) None
nothing_put a is s nothing = by (leads 0 is s) nothing
  where
    by : (b : Bool) → (b ≡ true → a s ≡ None) → None ≡ cond b (a s) None
    by true f = sym (f refl)
    by false f = refl

pub no_inode : {X : Type 0} (p : Part Stored) (known : Option Stored) (count : ℕ) (children : Vec (Part Stored) Global) → p ≡ variant.Inode known count children → is_inode_layer (out-Part Stored p) ≡ false → X
no_inode p known count children same leaf = absurd (false≢true (sym leaf ∙ ap is_inode_layer (ap (out-Part Stored) same ∙ out_inode known count children)))

pub no_unread : {X : Type 0} (p : Part Stored) (x : Stored) (count : ℕ) → p ≡ variant.Unread x count → unread_in [] p ≡ None → X
no_unread p x count same read = no_some (x, []) (sym read ∙ ap (unread_in []) same ∙ unread_unread x count [])
