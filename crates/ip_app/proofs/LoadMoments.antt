-- The moments of a load.
--     quiet_first      no line was begun.      quiet_more      one line more
--     headline_quiet      nothing was said.      headline_said      the summary was, or a part of it, behind the last line
use Rattle.std.proofs.Common.{◌≡◌, inl, inr, ℕ, zero, suc, ◌<◌, ◌≤◌, List, [], ◌∷◌, ◌++◌, length, map, refl, sym, ap, ◌∙◌, subst, arith}
use Rattle.std.proofs.lemmas.Bool.{cases_lt}
use Rattle.std.proofs.lemmas.List.{map-append}
use Rattle.ip_ground.specs.Contents.{Image}
use Rattle.ip_ground.specs.Told.{Told, said, KeepsPast, KeepsSaid}
use Rattle.ip_image.specs.Standing.{StandsFor}
use Rattle.ip_image.specs.Pending.{crash_at}
use Rattle.ip_image.specs.Headline.{IsAsBefore, IsAtomic, Turning, Headline}
use Rattle.ip_image.proofs.HeadlineLaws.{flushed_less}
use Rattle.ip_spec.specs.Path.{Bytes}
use Rattle.ip_spec.specs.Repository.{Repository}
use Rattle.ip_spec.specs.Machine.{State}
use Rattle.ip_spec.specs.Script.{Answered, state_after}
use Rattle.ip_app.specs.Exchanges.{Exchange, answer_of, after_all}
use Rattle.ip_app.specs.Loading.{LoadSince, LoadHeadline}
use Rattle.ip_app.specs.Loaded.{QuietSince, QuietRun}
use Rattle.ip_app.proofs.RanOn.{append_nil}

front_nil : (part rest : Bytes) → part ++ rest ≡ [] → part ≡ []
front_nil [] rest e = refl
front_nil (b ∷ part) rest e = absurd (cc e)

pub quiet_first : (since : ℕ) (old new : Told) (first : State) → Headline since old new first [] → QuietRun since old new first []
quiet_first since old new first run = record {
  begins = run.begins;
  before = run.before;
  holds = λ t late le.
      let h = run.holds t late le in
      record {
        said = h.said_is ∙ (ap (λ (p : Bytes). said old ++ p) (front_nil h.part h.at_moment.said_so.0 h.at_moment.said_so.1) ∙ append_nil (said old));
        stands = λ image possible. let s = h.at_moment.stands image possible in (s.0, s.1, s.4);
        flushed = h.at_moment.flushed;
      };
}

after_less : (s : State) (steps : List Answered) (x : Answered) (k : ℕ) → k ≤ length steps → state_after s (steps ++ x ∷ []) k ≡ state_after s steps k
after_less s [] x zero l = refl
after_less s (y ∷ steps) x zero l = refl
after_less s [] x (suc k) l = absurd (omega (arith, l))
after_less s (y ∷ steps) x (suc k) l = after_less y.1 steps x k (omega (arith, l))

after_last : (s : State) (steps : List Answered) (x : Answered) → state_after s (steps ++ x ∷ []) (suc (length steps)) ≡ x.1
after_last s [] x = refl
after_last s (y ∷ steps) x = after_last y.1 steps x

after_steps : (first : State) (xs : List Exchange) → state_after first (map answer_of xs) (length (map answer_of xs)) ≡ after_all first xs
after_steps first [] = refl
after_steps first (x ∷ xs) = after_steps x.after xs

one_longer : (steps : List Answered) (x : Answered) → length (steps ++ x ∷ []) ≡ suc (length steps)
one_longer [] x = refl
one_longer (y ∷ steps) x = ap suc (one_longer steps x)

module _ (since : ℕ) (old mid new : Told) (first : State) (xs : List Exchange) (x : Exchange) (run : QuietRun since old mid first (map answer_of xs)) (goes : KeepsPast mid new) (over : since ≤ mid.moment) (quiet : said mid ≡ said old)
    (before : Repository) (before_is : before ≡ (after_all first xs).repository) where
  steps : List Answered
  steps = map answer_of xs

  more : List Answered
  more = map answer_of xs ++ answer_of x ∷ []

  as_before : (t : ℕ) → old.moment < t → t < since → t ≤ new.moment → IsAsBefore old new t
  as_before t after early le =
      let here : t ≤ mid.moment = omega (arith, early, over) in
      let was = run.before t after early here in
      record {
        left = λ file firm content left. was.left file firm content (goes.left t file content here left);
        still_left = λ file other firm content left. goes.still_left t file content here (was.still_left file other firm content left);
        said = goes.said t here ∙ was.said;
        lending = λ attempt. goes.lending t attempt here ∙ was.lending attempt;
      }

  early : (t : ℕ) → since ≤ t → t ≤ mid.moment → QuietSince old new first more t
  unfolding more
  early t late here =
      let was = run.holds t late here in
      record {
        said = goes.said t here ∙ was.said;
        stands = λ image possible.
            let s = was.stands image (λ file. goes.left t file (image file) here (possible file)) in
            let e = one_longer (map answer_of xs) (answer_of x) in let l = s.1 in
            (s.0, omega (arith, l, e), subst (λ (st : State). StandsFor image st.repository) (sym (after_less first (map answer_of xs) (answer_of x) s.0 s.1)) s.2);
        flushed = flushed_less (crash_at mid t) (crash_at new t) (λ file content left. goes.left t file content here left) (λ attempt. goes.lending t attempt here) was.flushed;
      }

  -- the image before the command, and behind it
  still : (image : Image) → StandsFor image before → StandsFor image (state_after first more (length steps)).repository
  unfolding more steps
  still image h = subst (λ (st : State). StandsFor image st.repository) (sym (after_less first (map answer_of xs) (answer_of x) (length (map answer_of xs)) (omega arith) ∙ after_steps first xs)) (subst (λ (r : Repository). StandsFor image r) before_is h)

  done : (image : Image) (after : Repository) → after ≡ x.after.repository → StandsFor image after → StandsFor image (state_after first more (suc (length steps))).repository
  unfolding more steps
  done image after e h = subst (λ (st : State). StandsFor image st.repository) (sym (after_last first (map answer_of xs) (answer_of x))) (subst (λ (r : Repository). StandsFor image r) e h)

  enough : (length steps ≤ length more) × (suc (length steps) ≡ length more)
  unfolding more steps
  enough = let e = one_longer (map answer_of xs) (answer_of x) in (omega (arith, e), sym e)

  module _ (after : Repository) (after_is : after ≡ x.after.repository) where
    quiet_since : KeepsSaid mid new → IsAtomic mid new before after → (t : ℕ) → since ≤ t → t ≤ new.moment → QuietSince old new first more t
    quiet_since keeps atomic t late le = elim (cases_lt mid.moment t) [
      | inl later ↦
          let now = atomic t later le in
          record {
            said = keeps t later le ∙ quiet;
            stands = λ image possible. elim (now.stands image possible) [
              | inl h ↦ (length steps, enough.0, still image h)
              | inr h ↦ (let e = enough.1 in (suc (length steps), omega (arith, e), done image after after_is h))
            ];
            flushed = now.flushed;
          }
      | inr here ↦ early t late here
    ]

    pub quiet_more : KeepsSaid mid new → IsAtomic mid new before after → QuietRun since old new first (map answer_of (xs ++ x ∷ []))
    unfolding more
    quiet_more keeps atomic = subst (λ (all : List Answered). QuietRun since old new first all) (sym (map-append answer_of xs (x ∷ [])))
        (record { begins = run.begins; before = as_before; holds = quiet_since keeps atomic })

    said_since : (text : Bytes) → Turning mid new text before after → (t : ℕ) → since ≤ t → t ≤ new.moment → LoadSince old new first more text t
    said_since text turning t late le = elim (cases_lt mid.moment t) [
      | inl later ↦
          let now = turning t later le in
          record {
            part = now.part;
            rest = now.rest;
            said_is = now.said_is ∙ ap (λ (b : Bytes). b ++ now.part) quiet;
            text_is = now.text_is;
            stands = λ image possible. elim (now.stands image possible) [
              | inl h ↦ (let e = enough.1 in (suc (length steps), omega (arith, e), (λ some. e), done image after after_is h))
              | inr h ↦ (length steps, enough.0, (λ some. absurd (some h.0)), still image h.1)
            ];
            flushed = now.flushed;
          }
      | inr here ↦
          let was = early t late here in
          record {
            part = [];
            rest = text;
            said_is = was.said ∙ sym (append_nil (said old));
            text_is = refl;
            stands = λ image possible. let s = was.stands image possible in (s.0, s.1, (λ some. absurd (some refl)), s.2);
            flushed = was.flushed;
          }
    ]

    pub headline_said : (text : Bytes) → Turning mid new text before after → LoadHeadline since old new first (map answer_of (xs ++ x ∷ [])) text
    unfolding more
    headline_said text turning = subst (λ (all : List Answered). LoadHeadline since old new first all text) (sym (map-append answer_of xs (x ∷ [])))
        (record { begins = run.begins; before = as_before; holds = said_since text turning })

pub headline_quiet : (since : ℕ) (old new : Told) (first : State) (steps : List Answered) (text : Bytes) → QuietRun since old new first steps → LoadHeadline since old new first steps text
headline_quiet since old new first steps text run = record {
  begins = run.begins;
  before = run.before;
  holds = λ t late le.
      let was = run.holds t late le in
      record {
        part = [];
        rest = text;
        said_is = was.said ∙ sym (append_nil (said old));
        text_is = refl;
        stands = λ image possible. let s = was.stands image possible in (s.0, s.1, (λ some. absurd (some refl)), s.2);
        flushed = was.flushed;
      };
}
