-- What one step of the walk does to a plan.
--     stays      nothing
--     contents_stay, contents_taken, contents_gone, contents_put, contents_none, contents_conflict      of contents at a path
--     directory_stays, directory_taken, directory_gone, directory_under      of the directory there
use Rattle.std.proofs.Common.{◌≡◌, ◌⊎◌, inl, inr, ℕ, Bool, true, false, cond, List, [], ◌∷◌, ◌++◌, length, refl, sym, ap, subst, ◌∙◌, Option, Some, None}
use Rattle.std.proofs.lemmas.Bool.{false≢true, eq-eqb, eqb-true, lt-ltb, ltb-true, or_cases, or_left, or_right}
use Rattle.std.proofs.lemmas.List.Elements.{All-push, Contains-append_left, Contains-get_or, Contains-push, Contains-push_cases}
use Rattle.std.proofs.lemmas.List.{append-nil}
use Rattle.std.proofs.lemmas.List.Quantifiers.{all_pairs_push}
use Rattle.std.specs.Prelude.{◌&&◌, not, if◌then◌else◌, All, AllPairs, Contains, IsSome, IsTrue, IsFalse, is_some, nat_lt, get_or}
use Rattle.std.specs.Ordering.{is_lt, ordering_then}
use Rattle.ip_spec.specs.Map.{get}
use Rattle.ip_spec.specs.Merge.{Rule, IsOneAnswer, same_value}
use Rattle.ip_spec.specs.declared.merge.Merged.{Merged}
use Rattle.ip_spec.specs.declared.merge.Merged.TheVariants.{Keep, Conflict}
use Rattle.ip_spec.specs.Path.{Bytes, Step, Path, path_cmp}
use Rattle.ip_spec.specs.Step.{contents_limit}
use Rattle.ip_spec.specs.View.{View}
use Rattle.ip_spec.proofs.Subtrees.{step_itself}
use Rattle.ip_three.specs.Merging.{Coming, Side, of_left, of_right, put, taken, contents_side, directory_side, has_directory, is_merged, is_right, is_rights, record_at, same_directory, same_number, side_by}
use Rattle.ip_three.specs.Planning.{Plan, AreAscending, Asked, ComesBefore, HasNone, IsComing, IsGoing, IsPlan, Noted, is_put}
use Rattle.ip_three.specs.Going.{Goes, GoesOn, IsLess, GoneAt, ComesAt, IsReady, IsAt, IsFrom, IsUnder, IsNowhere, IsBehind, PlansAt, PlansContents, PlansDirectory, PlansUnder, or_path, with_coming, with_bytes, with_gone, with_none, with_conflict}
use Rattle.ip_three.proofs.Standing.{directory_bare}
use Rattle.ip_three.proofs.Orders.{front_not_behind, less_on, not_itself, not_turned}
use Rattle.ip_three.proofs.Sides.{same_itself, tests_are}
use Rattle.ip_three.proofs.Values.{keeps_conflict, keeps_none, no_side, not_both_sides}
use Rattle.ip_three.proofs.Ways.{above_merged}

-- one more behind all with which it agrees
pairs_push : {A : Type 0} (R : A → A → Type 0) (xs : List A) (y : A) → AllPairs R xs → ((x : A) → Contains xs x → R x y) → AllPairs R (xs ++ y ∷ [])
pairs_push R xs y pairs all = all_pairs_push R xs y pairs (λ k d l. all (get_or xs k d) (Contains-get_or xs k d l))

pushed : {A : Type 0} (xs : List A) (y x : A) → Contains (xs ++ y ∷ []) x → Contains xs x ⊎ (x ≡ y)
pushed xs y x c = elim (Contains-push_cases xs y x c) [ inl h ↦ inl h | inr h ↦ inr (sym h) ]

same_bytes_kept : (x y : Bytes) → Keep (Some x) ≡ Keep (Some y) → x ≡ y
same_bytes_kept x y e = cc

none_is_some : {X A : Type 0} (o : Option A) → o ≡ None → IsSome o → X
none_is_some o none some = absurd (false≢true (ap is_some (sym none) ∙ some))

-- ---- where nothing changes

pub goes_on_same : {gones conflicts : Path → Type 0} {comes : Path × Coming → Type 0} (plan : Plan) → GoesOn gones comes conflicts plan plan
goes_on_same plan = record {
  gone = λ p m. m;
  come = λ e m. m;
  conflict = λ c m. m;
  long = λ m. m;
  new_gone = λ p m. inl m;
  new_come = λ e m. inl m;
  new_conflict = λ c m. inl m;
}

module _ (rule : Rule) (only : (p : Path) → IsOneAnswer (rule p)) (b l r : View) (path : Path) where
  one_answer : (m n : Merged) → Asked rule b l r path m → Asked rule b l r path n → m ≡ n
  one_answer m n x y = only path (get b.map path) (get l.map path) (get r.map path) m n x.2 y.2

  -- ---- contents

  -- what has to be shown of contents at the path
  record Here (plan : Plan) : Type 0 where
    asked : contents_side b l r path ≡ None → (m : Merged) × Asked rule b l r path m × Noted rule b l r plan path m
    gone : IsSome (get l.map path) → HasNone rule b l r path → Contains plan.gone path
    put_there : (bytes : Bytes) → Asked rule b l r path (Keep (Some bytes)) → Contains plan.come (path, put bytes)
    come : contents_side b l r path ≡ Some of_right → IsSome (get r.map path) → Contains plan.come (path, taken)

  goes_here : (plan : Plan) → Here plan → Goes rule b l r (IsAt path) IsNowhere plan
  goes_here plan h = record {
    asked = λ p at. subst (λ (x : Path). IsTrue (is_merged b l r x) → contents_side b l r x ≡ None → (m : Merged) × Asked rule b l r x m × Noted rule b l r plan x m) (sym at) (λ m. h.asked);
    gone = λ p at. subst (λ (x : Path). IsTrue (is_merged b l r x) → IsSome (get l.map x) → HasNone rule b l r x → Contains plan.gone x) (sym at) (λ m. h.gone);
    removed = λ p at. absurd at;
    put_there = λ p bytes at. subst (λ (x : Path). Asked rule b l r x (Keep (Some bytes)) → Contains plan.come (x, put bytes)) (sym at) (h.put_there bytes);
    come = λ p at. subst (λ (x : Path). IsTrue (is_merged b l r x) → contents_side b l r x ≡ Some of_right → IsSome (get r.map x) → Contains plan.come (x, taken)) (sym at) (λ m. h.come);
    grafted = λ p at. absurd at;
  }

  not_asked : {X : Type 0} (side : Side) (m : Merged) → contents_side b l r path ≡ Some side → Asked rule b l r path m → X
  not_asked side m is asked = no_side side (sym is ∙ asked.1)

  -- the left side's contents stay
  pub contents_stay : (plan : Plan) → IsPlan rule b l r plan → contents_side b l r path ≡ Some of_left → PlansContents rule b l r path plan plan
  contents_stay plan is side = record {
    plan = is;
    goes = goes_here plan (record {
      asked = λ none. no_side of_left (sym side ∙ none);
      gone = λ some none. elim none [
        | inl right ↦ not_both_sides (sym side ∙ right.0)
        | inr (inl asked) ↦ not_asked of_left (Keep None) side asked
        | inr (inr asked) ↦ not_asked of_left Conflict side asked
      ];
      put_there = λ bytes asked. not_asked of_left (Keep (Some bytes)) side asked;
      come = λ right some. not_both_sides (sym side ∙ right);
    });
    goes_on = goes_on_same plan;
  }

  module _ (plan : Plan) (is : IsPlan rule b l r plan) (less : IsLess path plan) where
    -- ---- more of a plan

    come_more : (c : Coming) → IsComing rule b l r path c → IsPlan rule b l r (with_coming path c plan)
    come_more c comes = record {
      gone = is.gone;
      come = All-push (λ (e : Path × Coming). IsComing rule b l r e.0 e.1) plan.come (path, c) is.come comes;
      gone_ascend = is.gone_ascend;
      come_ascend = pairs_push ComesBefore plan.come (path, c) is.come_ascend (λ e m. inl (less.come e m));
      conflict = is.conflict;
      long = is.long;
    }

    comes_on : (c : Coming) → IsTrue (is_put c) ⊎ IsSome (get r.map path) → GoesOn (GoneAt l path) (ComesAt r path) (IsAt path) plan (with_coming path c plan)
    comes_on c why = record {
      gone = λ p m. m;
      come = λ e m. Contains-append_left plan.come ((path, c) ∷ []) e m;
      conflict = λ d m. m;
      long = λ m. m;
      new_gone = λ p m. inl m;
      new_come = λ e m. elim (pushed plan.come (path, c) e m) [
        | inl old ↦ inl old
        | inr new ↦ inr (ap (λ (x : Path × Coming). x.0) new, subst (λ (x : Path × Coming). IsTrue (is_put x.1) ⊎ IsSome (get r.map path)) (sym new) why)
      ];
      new_conflict = λ d m. inl m;
    }

    -- the right side's contents come
    pub contents_taken : IsTrue (is_merged b l r path) → contents_side b l r path ≡ Some of_right → IsSome (get r.map path) → PlansContents rule b l r path plan (with_coming path taken plan)
    contents_taken merged side some = record {
      plan = come_more taken (merged, inl (side, some));
      goes = goes_here (with_coming path taken plan) (record {
        asked = λ none. no_side of_right (sym side ∙ none);
        gone = λ stands none. elim none [
          | inl right ↦ none_is_some (get r.map path) right.1 some
          | inr (inl asked) ↦ not_asked of_right (Keep None) side asked
          | inr (inr asked) ↦ not_asked of_right Conflict side asked
        ];
        put_there = λ bytes asked. not_asked of_right (Keep (Some bytes)) side asked;
        come = λ right there. Contains-push plan.come (path, taken);
      });
      goes_on = comes_on taken (inr some);
    }

    -- ---- where contents of the left tree go

    gone_more : (stands : Bool) → is_some (get l.map path) ≡ stands → IsTrue (is_merged b l r path) → HasNone rule b l r path → All (IsGoing rule b l r) (cond stands (plan.gone ++ path ∷ []) plan.gone) × AreAscending (cond stands (plan.gone ++ path ∷ []) plan.gone)
    gone_more true here merged none = (All-push (IsGoing rule b l r) plan.gone path is.gone (merged, inl (here, none)), pairs_push (λ p q. IsTrue (is_lt (path_cmp p q))) plan.gone path is.gone_ascend less.gone)
    gone_more false here merged none = (is.gone, is.gone_ascend)

    gone_there : (stands : Bool) → is_some (get l.map path) ≡ stands → IsSome (get l.map path) → Contains (cond stands (plan.gone ++ path ∷ []) plan.gone) path
    gone_there true here some = Contains-push plan.gone path
    gone_there false here some = absurd (false≢true (sym here ∙ some))

    gone_stays : (stands : Bool) (p : Path) → Contains plan.gone p → Contains (cond stands (plan.gone ++ path ∷ []) plan.gone) p
    gone_stays true p m = Contains-append_left plan.gone (path ∷ []) p m
    gone_stays false p m = m

    gone_new : (stands : Bool) → is_some (get l.map path) ≡ stands → (p : Path) → Contains (cond stands (plan.gone ++ path ∷ []) plan.gone) p → Contains plan.gone p ⊎ GoneAt l path p
    gone_new true here p m = elim (pushed plan.gone path p m) [ inl old ↦ inl old | inr new ↦ inr (new, here) ]
    gone_new false here p m = inl m

    abbrev There : Bool
    There = is_some (get l.map path)

    none_goes_on : GoesOn (GoneAt l path) (ComesAt r path) (IsAt path) plan (with_none l path plan)
    none_goes_on = record {
      gone = gone_stays There;
      come = λ e m. m;
      conflict = λ d m. m;
      long = λ m. m;
      new_gone = gone_new There refl;
      new_come = λ e m. inl m;
      new_conflict = λ d m. inl m;
    }

    none_plan : IsTrue (is_merged b l r path) → HasNone rule b l r path → IsPlan rule b l r (with_none l path plan)
    none_plan merged none = let g = gone_more There refl merged none in record {
      gone = g.0;
      come = is.come;
      gone_ascend = g.1;
      come_ascend = is.come_ascend;
      conflict = is.conflict;
      long = is.long;
    }

    -- the right side has none
    pub contents_gone : IsTrue (is_merged b l r path) → contents_side b l r path ≡ Some of_right → get r.map path ≡ None → PlansContents rule b l r path plan (with_none l path plan)
    contents_gone merged side none = record {
      plan = none_plan merged (inl (side, none));
      goes = goes_here (with_none l path plan) (record {
        asked = λ n. no_side of_right (sym side ∙ n);
        gone = λ some n. gone_there There refl some;
        put_there = λ bytes asked. not_asked of_right (Keep (Some bytes)) side asked;
        come = λ right some. none_is_some (get r.map path) none some;
      });
      goes_on = none_goes_on;
    }

    -- ---- answers

    -- the rule gives none
    pub contents_none : Asked rule b l r path (Keep None) → PlansContents rule b l r path plan (with_none l path plan)
    contents_none asked = record {
      plan = none_plan asked.0 (inr (inl asked));
      goes = goes_here (with_none l path plan) (record {
        asked = λ none. (Keep None, asked, tt);
        gone = λ some n. gone_there There refl some;
        put_there = λ bytes other. keeps_none bytes (one_answer (Keep None) (Keep (Some bytes)) asked other);
        come = λ right some. not_asked of_right (Keep None) right asked;
      });
      goes_on = none_goes_on;
    }

    -- the rule gives contents
    pub contents_put : (bytes : Bytes) → Asked rule b l r path (Keep (Some bytes)) → PlansContents rule b l r path plan (with_bytes path bytes plan)
    contents_put bytes asked =
        let more = come_more (put bytes) asked in
        let on = comes_on (put bytes) (inl refl) in record {
          plan = record {
            gone = more.gone;
            come = more.come;
            gone_ascend = more.gone_ascend;
            come_ascend = more.come_ascend;
            conflict = more.conflict;
            long = λ long. elim (or_cases plan.long (nat_lt contents_limit (length bytes)) long) [ inl old ↦ is.long old | inr new ↦ (path, bytes, asked, ltb-true contents_limit (length bytes) new) ];
          };
          goes = goes_here (with_bytes path bytes plan) (record {
            asked = λ none. (Keep (Some bytes), asked, λ long. or_right plan.long (nat_lt contents_limit (length bytes)) (lt-ltb contents_limit (length bytes) long));
            gone = λ some none. elim none [
              | inl right ↦ not_asked of_right (Keep (Some bytes)) right.0 asked
              | inr (inl other) ↦ keeps_none bytes (one_answer (Keep None) (Keep (Some bytes)) other asked)
              | inr (inr other) ↦ keeps_conflict (Some bytes) (one_answer Conflict (Keep (Some bytes)) other asked)
            ];
            put_there = λ other is_asked. subst (λ (x : Bytes). Contains (plan.come ++ (path, put bytes) ∷ []) (path, put x)) (same_bytes_kept bytes other (one_answer (Keep (Some bytes)) (Keep (Some other)) asked is_asked)) (Contains-push plan.come (path, put bytes));
            come = λ right some. not_asked of_right (Keep (Some bytes)) right asked;
          });
          goes_on = record {
            gone = on.gone;
            come = on.come;
            conflict = on.conflict;
            long = λ long. or_left plan.long (nat_lt contents_limit (length bytes)) long;
            new_gone = on.new_gone;
            new_come = on.new_come;
            new_conflict = on.new_conflict;
          };
        }

    some_path : {X : Type 0} (p : Path) → Some p ≡ None → X
    some_path p e = cc

    same_path_is : (p q : Path) → Some p ≡ Some q → p ≡ q
    same_path_is p q e = cc

    first_conflict : (o : Option Path) → plan.conflict ≡ o → (c : Path) × (or_path o path ≡ Some c) × IsFalse (is_lt (path_cmp path c))
    first_conflict None is_none = (path, refl, not_itself path)
    first_conflict (Some c) is_some' = (c, refl, not_turned c path (less.conflict c is_some'))

    -- the rule conflicts
    pub contents_conflict : Asked rule b l r path Conflict → PlansContents rule b l r path plan (with_conflict l path plan)
    contents_conflict asked =
        let none = none_plan asked.0 (inr (inr asked)) in record {
          plan = record {
            gone = none.gone;
            come = none.come;
            gone_ascend = none.gone_ascend;
            come_ascend = none.come_ascend;
            conflict = λ c. by_old plan.conflict refl c;
            long = none.long;
          };
          goes = goes_here (with_conflict l path plan) (record {
            asked = λ side. (Conflict, asked, first_conflict plan.conflict refl);
            gone = λ some n. gone_there There refl some;
            put_there = λ bytes other. keeps_conflict (Some bytes) (one_answer Conflict (Keep (Some bytes)) asked other);
            come = λ right some. not_asked of_right Conflict right asked;
          });
          goes_on = record {
            gone = none_goes_on.gone;
            come = none_goes_on.come;
            conflict = λ c old. ap (λ o. or_path o path) old;
            long = none_goes_on.long;
            new_gone = none_goes_on.new_gone;
            new_come = none_goes_on.new_come;
            new_conflict = λ c new. by_new plan.conflict c new;
          };
        }
      where
        by_old : (o : Option Path) → plan.conflict ≡ o → (c : Path) → or_path o path ≡ Some c → Asked rule b l r c Conflict
        by_old None is_none c e = subst (λ (x : Path). Asked rule b l r x Conflict) (same_path_is path c e) asked
        by_old (Some d) is_old c e = is.conflict c (is_old ∙ e)

        by_new : (o : Option Path) (c : Path) → or_path o path ≡ Some c → (o ≡ Some c) ⊎ (c ≡ path)
        by_new None c e = inr (sym (same_path_is path c e))
        by_new (Some d) c e = inl e

  -- ---- the directory there

  is_right_side : (o : Option Side) → is_right o ≡ true → o ≡ Some of_right
  is_right_side None e = absurd (false≢true e)
  is_right_side (Some of_left) e = absurd (false≢true e)
  is_right_side (Some of_right) e = refl

  -- where a side decides it, nothing under it is merged
  goes_decided : (plan : Plan) (side : Side) → directory_side b l r path ≡ Some side
      → (is_rights b l r path ≡ true → IsTrue (has_directory l.map path) → IsFalse (has_directory r.map path) → Contains plan.gone path)
      → (is_rights b l r path ≡ true → IsTrue (has_directory r.map path) → Contains plan.come (path, taken)) → Goes rule b l r (IsUnder path) (IsFrom path) plan
  goes_decided plan side is removed grafted = record {
    asked = λ p under merged. no_under p under merged;
    gone = λ p under merged. no_under p under merged;
    removed = λ p from merged. by_removed p from merged;
    put_there = λ p bytes under asked. no_under p under asked.0;
    come = λ p under merged. no_under p under merged;
    grafted = λ p from merged. by_grafted p from merged;
  }
    where
      no_under : {X : Type 0} (p : Path) → IsUnder path p → IsTrue (is_merged b l r p) → X
      no_under p under merged = no_side side (sym is ∙ above_merged b l r path under.0 under.1 (ap (is_merged b l r) (sym under.2) ∙ merged))

      by_removed : (p : Path) → IsFrom path p → IsTrue (is_merged b l r p) → IsTrue (has_directory l.map p) → IsTrue (is_rights b l r p) → IsFalse (has_directory r.map p) → Contains plan.gone p
      by_removed p ([], at) merged has_left rights has_right =
          let here : p ≡ path = at ∙ append-nil path in
          subst (λ (x : Path). IsTrue (has_directory l.map x) → IsTrue (is_rights b l r x) → IsFalse (has_directory r.map x) → Contains plan.gone x) (sym here) (λ h e n. removed e h n) has_left rights has_right
      by_removed p (s ∷ rest, at) merged has_left rights has_right = no_under p (s, rest, at) merged

      by_grafted : (p : Path) → IsFrom path p → IsTrue (is_merged b l r p) → IsTrue (is_rights b l r p) → IsTrue (has_directory r.map p) → Contains plan.come (p, taken)
      by_grafted p ([], at) merged rights has_right =
          let here : p ≡ path = at ∙ append-nil path in subst (λ (x : Path). IsTrue (is_rights b l r x) → IsTrue (has_directory r.map x) → Contains plan.come (x, taken)) (sym here) grafted rights has_right
      by_grafted p (s ∷ rest, at) merged rights has_right = no_under p (s, rest, at) merged

  from_here : IsFrom path path
  from_here = ([], sym (append-nil path))

  pub directory_stays : (plan : Plan) → IsPlan rule b l r plan → directory_side b l r path ≡ Some of_left → PlansDirectory rule b l r path plan plan
  directory_stays plan is side = record {
    plan = is;
    goes = goes_decided plan of_left side (λ rights h n. absurd (false≢true (sym (ap is_right side) ∙ rights))) (λ rights h. absurd (false≢true (sym (ap is_right side) ∙ rights)));
    goes_on = goes_on_same plan;
  }

  module _ (plan : Plan) (is : IsPlan rule b l r plan) (ready : IsReady l r path plan) (merged : IsTrue (is_merged b l r path)) (side : directory_side b l r path ≡ Some of_right) where
    -- the right tree's comes
    pub directory_taken : IsTrue (has_directory r.map path) → PlansDirectory rule b l r path plan (with_coming path taken plan)
    directory_taken has = record {
      plan = record {
        gone = is.gone;
        come = All-push (λ (e : Path × Coming). IsComing rule b l r e.0 e.1) plan.come (path, taken) is.come (merged, inr (ap is_right side, has));
        gone_ascend = is.gone_ascend;
        come_ascend = pairs_push ComesBefore plan.come (path, taken) is.come_ascend (λ e m. before e (ready.come e m));
        conflict = is.conflict;
        long = is.long;
      };
      goes = goes_decided (with_coming path taken plan) of_right side (λ rights h n. absurd (false≢true (sym n ∙ has))) (λ rights h. Contains-push plan.come (path, taken));
      goes_on = record {
        gone = λ p m. m;
        come = λ e m. Contains-append_left plan.come ((path, taken) ∷ []) e m;
        conflict = λ d m. m;
        long = λ m. m;
        new_gone = λ p m. inl m;
        new_come = λ e m. elim (pushed plan.come (path, taken) e m) [ inl old ↦ inl old | inr new ↦ inr (subst (λ (x : Path × Coming). IsFrom path x.0) (sym new) from_here) ];
        new_conflict = λ d m. inl m;
      };
    }
      where
        before : (e : Path × Coming) → IsTrue (is_lt (path_cmp e.0 path)) ⊎ ComesAt r path e → ComesBefore e (path, taken)
        before e (inl less) = inl less
        before e (inr (at, inl puts)) = inr (at, puts, refl)
        before e (inr (at, inr some)) = none_is_some (get r.map path) (directory_bare r.map path has) some

    -- the right tree has none
    pub directory_gone : IsFalse (has_directory r.map path) → IsTrue (has_directory l.map path) → PlansDirectory rule b l r path plan (with_gone path plan)
    directory_gone none has = record {
      plan = record {
        gone = All-push (IsGoing rule b l r) plan.gone path is.gone (merged, inr (has, ap is_right side, none));
        come = is.come;
        gone_ascend = pairs_push (λ p q. IsTrue (is_lt (path_cmp p q))) plan.gone path is.gone_ascend (λ p m. before p (ready.gone p m));
        come_ascend = is.come_ascend;
        conflict = is.conflict;
        long = is.long;
      };
      goes = goes_decided (with_gone path plan) of_right side (λ rights h n. Contains-push plan.gone path) (λ rights h. absurd (false≢true (sym none ∙ h)));
      goes_on = record {
        gone = λ p m. Contains-append_left plan.gone (path ∷ []) p m;
        come = λ e m. m;
        conflict = λ d m. m;
        long = λ m. m;
        new_gone = λ p m. elim (pushed plan.gone path p m) [ inl old ↦ inl old | inr new ↦ inr (subst (IsFrom path) (sym new) from_here) ];
        new_come = λ e m. inl m;
        new_conflict = λ d m. inl m;
      };
    }
      where
        before : (p : Path) → IsTrue (is_lt (path_cmp p path)) ⊎ GoneAt l path p → IsTrue (is_lt (path_cmp p path))
        before p (inl less) = less
        before p (inr (at, some)) = none_is_some (get l.map path) (directory_bare l.map path has) some

  -- nothing decides it: what lies under it was gone through
  pub directory_under : (old new : Plan) → directory_side b l r path ≡ None → PlansUnder rule b l r path old new → PlansDirectory rule b l r path old new
  directory_under old new none under = record {
    plan = under.plan;
    goes = record {
      asked = under.goes.asked;
      gone = under.goes.gone;
      removed = λ p from. by_removed p from;
      put_there = under.goes.put_there;
      come = under.goes.come;
      grafted = λ p from. by_grafted p from;
    };
    goes_on = record {
      gone = under.goes_on.gone;
      come = under.goes_on.come;
      conflict = under.goes_on.conflict;
      long = under.goes_on.long;
      new_gone = λ p m. elim (under.goes_on.new_gone p m) [ inl old ↦ inl old | inr u ↦ inr (u.0 ∷ u.1, u.2) ];
      new_come = λ e m. elim (under.goes_on.new_come e m) [ inl old ↦ inl old | inr u ↦ inr (u.0 ∷ u.1, u.2) ];
      new_conflict = λ c m. elim (under.goes_on.new_conflict c m) [ inl old ↦ inl old | inr u ↦ inr (u.0 ∷ u.1, u.2) ];
    };
  }
    where
      not_rights : {X : Type 0} (p : Path) → p ≡ path → is_rights b l r p ≡ true → X
      not_rights p at rights = absurd (false≢true (sym (ap is_right (ap (directory_side b l r) at ∙ none)) ∙ rights))

      by_removed : (p : Path) → IsFrom path p → IsTrue (is_merged b l r p) → IsTrue (has_directory l.map p) → IsTrue (is_rights b l r p) → IsFalse (has_directory r.map p) → Contains new.gone p
      by_removed p ([], at) merged has_left rights has_right = not_rights p (at ∙ append-nil path) rights
      by_removed p (s ∷ rest, at) merged has_left rights has_right = under.goes.removed p (s, rest, at) merged has_left rights has_right

      by_grafted : (p : Path) → IsFrom path p → IsTrue (is_merged b l r p) → IsTrue (is_rights b l r p) → IsTrue (has_directory r.map p) → Contains new.come (p, taken)
      by_grafted p ([], at) merged rights has_right = not_rights p (at ∙ append-nil path) rights
      by_grafted p (s ∷ rest, at) merged rights has_right = under.goes.grafted p (s, rest, at) merged rights has_right

  -- ---- both

  pub contents_ready : (old new : Plan) → IsLess path old → PlansContents rule b l r path old new → IsReady l r path new
  contents_ready old new less plans = record {
    gone = λ p m. elim (plans.goes_on.new_gone p m) [ inl before ↦ inl (less.gone p before) | inr at ↦ inr at ];
    come = λ e m. elim (plans.goes_on.new_come e m) [ inl before ↦ inl (less.come e before) | inr at ↦ inr at ];
    conflict = λ c m. elim (plans.goes_on.new_conflict c m) [ inl before ↦ inl (less.conflict c before) | inr at ↦ inr at ];
  }

  noted_on : (gones conflicts : Path → Type 0) (comes : Path × Coming → Type 0) (old new : Plan) → GoesOn gones comes conflicts old new → (p : Path) (m : Merged) → Noted rule b l r old p m → Noted rule b l r new p m
  noted_on gones conflicts comes old new on p Conflict noted = (noted.0, on.conflict noted.0 noted.1, noted.2)
  noted_on gones conflicts comes old new on p (Keep None) noted = noted
  noted_on gones conflicts comes old new on p (Keep (Some bytes)) noted = λ long. on.long (noted long)

-- what was gone through stays so
pub goes_stays : (rule : Rule) (b l r : View) (contents directories gones conflicts : Path → Type 0) (comes : Path × Coming → Type 0) (old new : Plan)
    → Goes rule b l r contents directories old → GoesOn gones comes conflicts old new → Goes rule b l r contents directories new
goes_stays rule b l r contents directories gones conflicts comes old new goes on = record {
  asked = λ p c merged none. let a = goes.asked p c merged none in (a.0, a.1, noted a.0 p a.2);
  gone = λ p c merged some none. on.gone p (goes.gone p c merged some none);
  removed = λ p d merged has_left rights has_right. on.gone p (goes.removed p d merged has_left rights has_right);
  put_there = λ p bytes c asked. on.come (p, put bytes) (goes.put_there p bytes c asked);
  come = λ p c merged right some. on.come (p, taken) (goes.come p c merged right some);
  grafted = λ p d merged rights has. on.come (p, taken) (goes.grafted p d merged rights has);
}
  where
    noted : (m : Merged) (p : Path) → Noted rule b l r old p m → Noted rule b l r new p m
    noted Conflict p n = (n.0, on.conflict n.0 n.1, n.2)
    noted (Keep None) p n = n
    noted (Keep (Some bytes)) p n = λ long. on.long (n long)

-- two sets of paths together
pub goes_both : (rule : Rule) (b l r : View) (c1 c2 d1 d2 contents directories : Path → Type 0) (plan : Plan) → ((p : Path) → contents p → c1 p ⊎ c2 p) → ((p : Path) → directories p → d1 p ⊎ d2 p)
    → Goes rule b l r c1 d1 plan → Goes rule b l r c2 d2 plan → Goes rule b l r contents directories plan
goes_both rule b l r c1 c2 d1 d2 contents directories plan split parts x y = record {
  asked = λ p c. elim (split p c) [ inl h ↦ x.asked p h | inr h ↦ y.asked p h ];
  gone = λ p c. elim (split p c) [ inl h ↦ x.gone p h | inr h ↦ y.gone p h ];
  removed = λ p d. elim (parts p d) [ inl h ↦ x.removed p h | inr h ↦ y.removed p h ];
  put_there = λ p bytes c. elim (split p c) [ inl h ↦ x.put_there p bytes h | inr h ↦ y.put_there p bytes h ];
  come = λ p c. elim (split p c) [ inl h ↦ x.come p h | inr h ↦ y.come p h ];
  grafted = λ p d. elim (parts p d) [ inl h ↦ x.grafted p h | inr h ↦ y.grafted p h ];
}

-- two steps, one after the other
pub goes_on_both : (g1 g2 gones k1 k2 conflicts : Path → Type 0) (c1 c2 comes : Path × Coming → Type 0) (old mid new : Plan) → ((p : Path) → g1 p → gones p) → ((p : Path) → g2 p → gones p)
    → ((e : Path × Coming) → c1 e → comes e) → ((e : Path × Coming) → c2 e → comes e) → ((p : Path) → k1 p → conflicts p) → ((p : Path) → k2 p → conflicts p)
    → GoesOn g1 c1 k1 old mid → GoesOn g2 c2 k2 mid new → GoesOn gones comes conflicts old new
goes_on_both g1 g2 gones k1 k2 conflicts c1 c2 comes old mid new in_g1 in_g2 in_c1 in_c2 in_k1 in_k2 x y = record {
  gone = λ p m. y.gone p (x.gone p m);
  come = λ e m. y.come e (x.come e m);
  conflict = λ c m. y.conflict c (x.conflict c m);
  long = λ long. y.long (x.long long);
  new_gone = λ p m. elim (y.new_gone p m) [ inl before ↦ elim (x.new_gone p before) [ inl h ↦ inl h | inr h ↦ inr (in_g1 p h) ] | inr h ↦ inr (in_g2 p h) ];
  new_come = λ e m. elim (y.new_come e m) [ inl before ↦ elim (x.new_come e before) [ inl h ↦ inl h | inr h ↦ inr (in_c1 e h) ] | inr h ↦ inr (in_c2 e h) ];
  new_conflict = λ c m. elim (y.new_conflict c m) [ inl before ↦ elim (x.new_conflict c before) [ inl h ↦ inl h | inr h ↦ inr (in_k1 c h) ] | inr h ↦ inr (in_k2 c h) ];
}

-- a path before what lies under it
front_less : (p : Path) (s : Step) (rest : Path) → IsTrue (is_lt (path_cmp p (p ++ s ∷ rest)))
front_less [] s rest = refl
front_less (k ∷ p) s rest = ap (λ o. is_lt (ordering_then o (path_cmp p (p ++ s ∷ rest)))) (step_itself k) ∙ front_less p s rest

-- ---- where base and right have the same directory

left_by : (x u : Bool) → u ≡ true → side_by x x u ≡ Some of_left
left_by true u e = refl
left_by false true e = refl
left_by false false e = absurd (false≢true e)

same_number_on : (m n k : Option ℕ) → same_number m n ≡ true → same_number k n ≡ true → same_number m k ≡ true
same_number_on (Some m) (Some n) (Some k) e f = eq-eqb m k (eqb-true m n e ∙ sym (eqb-true k n f))
same_number_on (Some m) (Some n) None e f = f
same_number_on (Some m) None k e f = absurd (false≢true e)
same_number_on None n k e f = absurd (false≢true e)

directory_on : (x y z : Bool) (m n k : Option ℕ) → (if x then y && same_number m n else not y) ≡ true → (if z then y && same_number k n else not y) ≡ true → (if x then z && same_number m k else not z) ≡ true
directory_on true true true m n k e f = same_number_on m n k e f
directory_on true true false m n k e f = f
directory_on true false z m n k e f = absurd (false≢true e)
directory_on false true z m n k e f = absurd (false≢true e)
directory_on false false true m n k e f = absurd (false≢true f)
directory_on false false false m n k e f = refl

same_directory_on : (v w u : View) (p : Path) → same_directory v w p ≡ true → same_directory u w p ≡ true → same_directory v u p ≡ true
same_directory_on v w u p e f = directory_on (has_directory v.map p) (has_directory w.map p) (has_directory u.map p) (record_at v p) (record_at w p) (record_at u p) e f

module _ (rule : Rule) (b l r : View) (path : Path) where
  at_from : (p : Path) → p ≡ path → IsFrom path p
  at_from p at = ([], at ∙ sym (append-nil path))

  -- the contents at a path, and then the directory
  pub plans_at : (old mid new : Plan) → PlansContents rule b l r path old mid → PlansDirectory rule b l r path mid new → PlansAt rule b l r path old new
  plans_at old mid new c d = record {
    plan = d.plan;
    goes = goes_both rule b l r (IsAt path) (IsUnder path) IsNowhere (IsFrom path) (IsFrom path) (IsFrom path) new (λ p from. part p from) (λ p from. inr from)
        (goes_stays rule b l r (IsAt path) IsNowhere (IsFrom path) (IsFrom path) (λ e. IsFrom path e.0) mid new c.goes d.goes_on) d.goes;
    goes_on = goes_on_both (GoneAt l path) (IsFrom path) (IsFrom path) (IsAt path) (IsFrom path) (IsFrom path) (ComesAt r path) (λ e. IsFrom path e.0) (λ e. IsFrom path e.0) old mid new (λ p g. at_from p g.0) (λ p h. h) (λ e g. at_from e.0 g.0)
        (λ e h. h) (λ p at. at_from p at) (λ p h. h) c.goes_on d.goes_on;
  }
    where
      part : (p : Path) → IsFrom path p → IsAt path p ⊎ IsUnder path p
      part p ([], at) = inl (at ∙ append-nil path)
      part p (s ∷ rest, at) = inr (s, rest, at)

  -- what is all before the path lies before all under it
  pub ready_behind : (plan : Plan) → IsReady l r path plan → IsBehind path plan
  ready_behind plan ready = record {
    gone = λ p m s rest. by_gone p (ready.gone p m) s rest;
    come = λ e m s rest. by_come e (ready.come e m) s rest;
    conflict = λ c m s rest. by_conflict c (ready.conflict c m) s rest;
  }
    where
      at_less : (p : Path) → p ≡ path → (s : Step) (rest : Path) → IsTrue (is_lt (path_cmp p (path ++ s ∷ rest)))
      at_less p at s rest = ap (λ (x : Path). is_lt (path_cmp x (path ++ s ∷ rest))) at ∙ front_less path s rest

      on : (p : Path) → IsTrue (is_lt (path_cmp p path)) → (s : Step) (rest : Path) → IsTrue (is_lt (path_cmp p (path ++ s ∷ rest)))
      on p less s rest = less_on p path (path ++ s ∷ rest) less (front_not_behind path (s ∷ rest))

      by_gone : (p : Path) → IsTrue (is_lt (path_cmp p path)) ⊎ GoneAt l path p → (s : Step) (rest : Path) → IsTrue (is_lt (path_cmp p (path ++ s ∷ rest)))
      by_gone p (inl less) s rest = on p less s rest
      by_gone p (inr at) s rest = at_less p at.0 s rest

      by_come : (e : Path × Coming) → IsTrue (is_lt (path_cmp e.0 path)) ⊎ ComesAt r path e → (s : Step) (rest : Path) → IsTrue (is_lt (path_cmp e.0 (path ++ s ∷ rest)))
      by_come e (inl less) s rest = on e.0 less s rest
      by_come e (inr at) s rest = at_less e.0 at.0 s rest

      by_conflict : (c : Path) → IsTrue (is_lt (path_cmp c path)) ⊎ (c ≡ path) → (s : Step) (rest : Path) → IsTrue (is_lt (path_cmp c (path ++ s ∷ rest)))
      by_conflict c (inl less) s rest = on c less s rest
      by_conflict c (inr at) s rest = at_less c at s rest

  -- ---- where base and right have the same

  -- nothing of what lies at the path and under it goes or comes
  pub nothing_from : (covers : Path → Type 0) (plan : Plan) → ((p : Path) → covers p → (get b.map p ≡ get r.map p) × (same_directory r b p ≡ true)) → Goes rule b l r covers covers plan
  nothing_from covers plan same = record {
    asked = λ p c merged none. no_side of_left (sym (lefts_contents p (same p c).0) ∙ none);
    gone = λ p c merged some none. elim none [
      | inl right ↦ not_both_sides (sym (lefts_contents p (same p c).0) ∙ right.0)
      | inr (inl asked) ↦ no_side of_left (sym (lefts_contents p (same p c).0) ∙ asked.1)
      | inr (inr asked) ↦ no_side of_left (sym (lefts_contents p (same p c).0) ∙ asked.1)
    ];
    removed = λ p c merged has_left rights has_right. absurd (false≢true (sym (not_rights p (same p c).1) ∙ rights));
    put_there = λ p bytes c asked. no_side of_left (sym (lefts_contents p (same p c).0) ∙ asked.1);
    come = λ p c merged right some. not_both_sides (sym (lefts_contents p (same p c).0) ∙ right);
    grafted = λ p c merged rights has. absurd (false≢true (sym (not_rights p (same p c).1) ∙ rights));
  }
    where
      lefts_contents : (p : Path) → get b.map p ≡ get r.map p → contents_side b l r p ≡ Some of_left
      lefts_contents p e = tests_are rule b l r p ∙ by (get r.map p) e
        where
          by : (z : Option Bytes) → get b.map p ≡ z → side_by (same_value (get l.map p) z) (same_value (get l.map p) (get b.map p)) (same_value z (get b.map p)) ≡ Some of_left
          by z is = subst (λ (w : Option Bytes). side_by (same_value (get l.map p) w) (same_value (get l.map p) (get b.map p)) (same_value w (get b.map p)) ≡ Some of_left) is
              (left_by (same_value (get l.map p) (get b.map p)) _ (same_itself (get b.map p)))

      not_rights : (p : Path) → same_directory r b p ≡ true → is_rights b l r p ≡ false
      not_rights p e = by (same_directory l r p) (same_directory l b p) (same_directory r b p) refl refl e
        where
          by : (x y z : Bool) → same_directory l r p ≡ x → same_directory l b p ≡ y → z ≡ true → is_right (side_by x y z) ≡ false
          by true y z is_x is_y f = refl
          by false true z is_x is_y f = absurd (false≢true (sym is_x ∙ same_directory_on l b r p is_y e))
          by false false true is_x is_y f = refl
          by false false false is_x is_y f = absurd (false≢true f)
