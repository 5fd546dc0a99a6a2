-- The calls that look for a clash.
--     found_front, none_front      the first contents on the way to a path
--     clash_on_way, clash_here, no_clash      of one of what comes
--     met_last, met_here, last_here, contents_come, directory_comes, says_is, some_place      by what stands there
--     Rest m r come i last      what is found behind so many of them.      found_next, none_next, none_left      by the next one, or behind all
use Rattle.std.proofs.Common.{◌≡◌, ℕ, suc, ◌+◌, ◌<◌, ◌≤◌, Bool, true, false, List, ◌∷◌, length, get_or, take, drop, refl, sym, ap, ◌∙◌, Option, Some, None, arith, add-one, drop-cons}
use Rattle.std.proofs.lemmas.Bool.{or_left, or_right}
use Rattle.std.proofs.lemmas.List.{drop_all, take_all}
use Rattle.std.proofs.lemmas.Option.{slice_get-get_or}
use Rattle.std.specs.Prelude.{◌||◌, is_some, option_map, if◌then◌else◌}
use Rattle.ip_spec.specs.Map.{get}
use Rattle.ip_spec.specs.Path.{Path}
use Rattle.ip_spec.specs.Tree.{Tree}
use Rattle.ip_spec.specs.View.{View}
use Rattle.ip_spec.specs.declared.record.Record.{Record}
use Rattle.ip_tree.specs.Finding.{as_node}
use Rattle.ip_tree.specs.Node.{Node}
use Rattle.ip_tree.specs.declared.look.Place.{Place}
use Rattle.ip_three.specs.Applying.{as_coming, as_edits}
use Rattle.ip_three.specs.Clashes.{clash_above, clash_at, clash_from, first_path, front_of, gives_value, is_at, is_clash_here, is_met, last_path, last_value}
use Rattle.ip_three.specs.Merging.{Coming, has_directory}
use Rattle.ip_three.specs.Walking.{SaysDirectory}
use Rattle.ip_three.specs.declared.apply.Edit.{Edit}
use Rattle.ip_three.proofs.FirstWays.{first_take, no_take}

module _ (m : Tree) (last : Option Path) (p : Path) where
  pub found_front : (n : ℕ) → n < length p → ((i : ℕ) → i < n → is_met m last (take i p) ≡ false) → is_met m last (take n p) ≡ true → front_of p (Some n) ≡ clash_above m last p
  found_front n within fail met = sym (first_take (is_met m last) p n within fail met)

  pub none_front : ((i : ℕ) → i < length p → is_met m last (take i p) ≡ false) → front_of p None ≡ clash_above m last p
  none_front fail = sym (no_take (is_met m last) p fail)

module _ (m : Tree) (r : View) (last : Option Path) (p : Path) (c : Coming) where
  abbrev Here : Bool → Option Path
  Here here = if here then Some p else None

  pub clash_on_way : (n : ℕ) → front_of p (Some n) ≡ clash_above m last p → front_of p (Some n) ≡ clash_at m r last p c
  clash_on_way n is = ap (λ o. first_path o (Here (is_clash_here m r last p c))) is

  pub clash_here : front_of p None ≡ clash_above m last p → true ≡ is_clash_here m r last p c → front_of p (Some (length p)) ≡ clash_at m r last p c
  clash_here none here = ap Some (take_all (length p) p (omega arith)) ∙ (λ i. first_path (none i) (Here (here i)))

  pub no_clash : front_of p None ≡ clash_above m last p → false ≡ is_clash_here m r last p c → front_of p None ≡ clash_at m r last p c
  no_clash none here = λ i. first_path (none i) (Here (here i))

module _ (m : Tree) (r : View) (come : List Edit) where
  abbrev pub Rest : ℕ → Option ℕ → Option Path
  Rest i last = clash_from m r (last_path come last) (as_edits (drop i come))

  pub none_left : (i : ℕ) (last : Option ℕ) → length come ≤ i → None ≡ Rest i last
  none_left i last beyond = sym (ap (λ es. clash_from m r (last_path come last) (as_edits es)) (drop_all i come beyond))

  module _ (i : ℕ) (last : Option ℕ) (e : Edit) (within : i < length come) (is : e ≡ get_or come i e) where
    abbrev At : Option Path
    At = clash_at m r (last_path come last) e.path (as_coming e.coming)

    abbrev Later : Option Path → Option Path
    Later above = clash_from m r above (as_edits (drop (i + 1) come))

    rest_is : Rest i last ≡ first_path At (Later (last_value r (last_path come last) e.path (as_coming e.coming)))
    rest_is = ap (λ es. clash_from m r (last_path come last) (as_edits es)) (by (drop-cons come i e within))
      where
        by : drop i come ≡ get_or come i e ∷ drop (suc i) come → drop i come ≡ e ∷ drop (i + 1) come
        by all = all ∙ (λ k. sym is k ∷ drop (sym (add-one i) k) come)

    pub found_next : (n : ℕ) → front_of e.path (Some n) ≡ At → front_of e.path (Some n) ≡ Rest i last
    found_next n at = ap (λ o. first_path o (Later (last_value r (last_path come last) e.path (as_coming e.coming)))) at ∙ sym rest_is

    here_is : last_path come (Some i) ≡ Some e.path
    here_is = ap (λ o. option_map (λ (x : Edit). x.path) o) (slice_get-get_or come i e within) ∙ ap (λ (x : Edit). Some x.path) (sym is)

    pub none_next : (next : Option ℕ) → front_of e.path None ≡ At → next ≡ (if gives_value r e.path (as_coming e.coming) then Some i else last) → Rest (i + 1) next ≡ Rest i last
    none_next next at gives = ap (λ o. Later (last_path come o)) gives ∙ by (gives_value r e.path (as_coming e.coming)) ∙ ap (λ o. first_path o (Later (last_value r (last_path come last) e.path (as_coming e.coming)))) at ∙ sym rest_is
      where
        by : (b : Bool) → Later (last_path come (if b then Some i else last)) ≡ Later (if b then Some e.path else last_path come last)
        by true = ap Later here_is
        by false = refl

-- ---- what stands there

module _ (m : Tree) (last : Option Path) (p : Path) where
  pub met_last : is_at last p ≡ true → true ≡ is_met m last p
  met_last at = sym (or_right (is_some (get m p)) (is_at last p) at)

  pub met_here : is_at last p ≡ false → is_some (get m p) ≡ is_met m last p
  met_here at = by (is_some (get m p)) (is_at last p) at
    where
      by : (a b : Bool) → b ≡ false → a ≡ (a || b)
      by true b e = refl
      by false b e = sym e

  module _ (r : View) (c : Coming) where
    abbrev Against : Bool → Bool
    Against gives = if gives then has_directory m p else is_some (get m p)

    pub last_here : is_at last p ≡ true → true ≡ is_clash_here m r last p c
    last_here at = sym (or_left (is_at last p) (Against (gives_value r p c)) at)

    against : (b : Bool) → is_at last p ≡ false → gives_value r p c ≡ b → Against b ≡ is_clash_here m r last p c
    against b at gives = sym (λ i. at i || Against (gives i))

    pub contents_come : is_at last p ≡ false → gives_value r p c ≡ true → has_directory m p ≡ is_clash_here m r last p c
    contents_come at gives = against true at gives

    pub directory_comes : is_at last p ≡ false → gives_value r p c ≡ false → is_some (get m p) ≡ is_clash_here m r last p c
    directory_comes at gives = against false at gives

-- whether a directory was found
pub says_is : (records : ℕ → Option Record) (w : View) (p : Path) (found : Option Node) → SaysDirectory records w p found → is_some found ≡ has_directory w.map p
says_is records w p None is = sym is
says_is records w p (Some n) is = sym is.0

pub some_place : (o : Option Place) → is_some o ≡ is_some (option_map as_node o)
some_place None = refl
some_place (Some x) = refl
