-- How what is told goes on over several calls.
use Rattle.std.specs.Prelude.{if◌then◌else◌}
use Rattle.std.proofs.Common.{Bool, true, false, refl, ◌≡◌, inl, inr, ℕ, ◌<◌, ◌≤◌, List, sym, ◌∙◌, subst, ap, arith}
use Rattle.std.proofs.lemmas.Bool.{cases_lt}
use Rattle.ip_ground.specs.declared.names.FileName.{FileName}
use Rattle.ip_ground.specs.Contents.{Content, Image}
use Rattle.ip_ground.specs.Told.{Told, said, lending, IsLoose, KeepsPast, ChangesLeft, SyncsAtMost, KeepsFile, KeepsSaid, KeepsCustody, EachSince, EachNow, EachImage, EachImageNow, IsAbout, IsPossible, IsSynced, IsPossibleNow, NoFile, ChangesOnly, SyncsOnly}

pub goes_nowhere : (a : Told) → KeepsPast a a
goes_nowhere a = record {
  later = omega arith;
  left = λ t f x le left. left;
  still_left = λ t f x le left. left;
  said = λ t le i. a.said_at t;
  lending = λ t n le i. a.lending_at t n;
  beside = λ i. a.beside;
}

-- no moment is later than a and not later than a
pub no_moment : (a t : ℕ) → a < t → t ≤ a → ⊥
no_moment a t after le = omega arith

pub only_nowhere : (a : Told) (these : FileName → Type 0) → ChangesOnly these a a
only_nowhere a these = record {
  goes = goes_nowhere a;
  others = λ f _. record {
    unwritten = λ i. a.writes f;
    held = λ own i. a.held f;
    left = λ firm t x after le left. absurd (no_moment a.moment t after le);
    still_left = λ firm t x after le left. absurd (no_moment a.moment t after le);
    own = λ own. own;
    firm = λ firm. firm;
  };
  lending = λ n t after le. absurd (no_moment a.moment t after le);
  said = λ t after le. absurd (no_moment a.moment t after le);
}

module _ (a b : Told) where
  -- what is left now was left at the moment before, or at one since
  pub left_now : (f : FileName) (P : Content → Type 0) → KeepsPast a b → EachNow a f P → EachSince a b f P → EachNow b f P
  left_now f P goes before since x left = elim (cases_lt a.moment b.moment) [
    | inl later ↦ since b.moment x later (omega arith) left
    | inr still ↦
        let same : b.moment ≡ a.moment = omega (arith, goes.later) in
        before x (subst (λ t. a.may_leave t f x) same (goes.left b.moment f x still left))
  ]

  pub now_from_since : (f : FileName) (P : Content → Type 0) → a.moment < b.moment → EachSince a b f P → EachNow b f P
  now_from_since f P later since x left = since b.moment x later (omega arith) left

  pub said_now : KeepsPast a b → KeepsSaid a b → said b ≡ said a
  said_now goes keeps = elim (cases_lt a.moment b.moment) [
    | inl later ↦ keeps b.moment later (omega arith)
    | inr still ↦
        let same : b.moment ≡ a.moment = omega (arith, goes.later) in
        goes.said b.moment still ∙ ap a.said_at same
  ]

  pub lending_now : KeepsPast a b → (n : ℕ) → KeepsCustody a b n → lending b n ≡ lending a n
  lending_now goes n keeps = elim (cases_lt a.moment b.moment) [
    | inl later ↦ keeps b.moment later (omega arith)
    | inr still ↦
        let same : b.moment ≡ a.moment = omega (arith, goes.later) in
        goes.lending b.moment n still ∙ ap (λ t. a.lending_at t n) same
  ]

  -- what may be left at each moment since, as before, may be left now
  still_now : (f : FileName) → KeepsPast a b → ((t : ℕ) (x : Content) → a.moment < t → t ≤ b.moment → a.may_leave a.moment f x → b.may_leave t f x) → (x : Content) → a.may_leave a.moment f x → b.may_leave b.moment f x
  still_now f goes since x left = elim (cases_lt a.moment b.moment) [
    | inl later ↦ since b.moment x later (omega arith) left
    | inr still ↦
        let same : a.moment ≡ b.moment = omega (arith, goes.later) in
        goes.still_left b.moment f x still (subst (λ t. a.may_leave t f x) same left)
  ]

  pub at_most : (f : FileName) → KeepsFile a b f → SyncsAtMost a b f
  at_most f stays = record { unwritten = stays.unwritten; held = stays.held; left = stays.left; own = stays.own; firm = stays.firm }

  -- what stays has what it had, and so has what was synced
  pub each_synced : (f : FileName) (P : Content → Type 0) → ¬ IsLoose a f → SyncsAtMost a b f → EachNow a f P → EachSince a b f P
  each_synced f P firm stays before t x after le left = before x (stays.left firm t x after le left)

  pub each_stays : (f : FileName) (P : Content → Type 0) → ¬ IsLoose a f → KeepsFile a b f → EachNow a f P → EachSince a b f P
  each_stays f P firm stays before = each_synced f P firm (at_most f stays) before

  pub each_steps : (f : FileName) (P Q : Content → Type 0) (step : Content → Content → Type 0) → ChangesLeft step a b f → EachNow a f P → ((x y : Content) → P x → step x y → Q y) → EachSince a b f Q
  each_steps f P Q step steps before from t x after le left =
      let was = steps t x after le left in
      from was.0 x (before was.0 was.1) was.2

  -- from a file of which nothing is pending, a step leaves what it makes of what is held
  pub each_from_kept : (f : FileName) (step : Content → Content → Type 0) → ChangesLeft step a b f → IsSynced a f → EachSince a b f (step (a.held f))
  each_from_kept f step steps kept t x after le left =
      let was = steps t x after le left in
      subst (λ y. step y x) (kept was.0 was.1) was.2

  pub only_more : (these those : FileName → Type 0) → ((f : FileName) → these f → those f) → ChangesOnly these a b → ChangesOnly those a b
  only_more these those more only = record {
    goes = only.goes;
    others = λ f not. only.others f (λ here. not (more f here));
    lending = only.lending;
    said = only.said;
  }

  -- where no file has changed, none was synced
  pub syncs_none : (these : FileName → Type 0) → ChangesOnly NoFile a b → SyncsOnly these a b
  syncs_none these only = record { changes = only_more NoFile these (λ f none. absurd none) only; files = λ f. at_most f (only.others f (λ none. none)) }

  pub each_weaker : (f : FileName) (P Q : Content → Type 0) → EachSince a b f P → ((x : Content) → P x → Q x) → EachSince a b f Q
  each_weaker f P Q since so t x after le left = so x (since t x after le left)

module _ (a b c : Told) where
  pub goes_on : KeepsPast a b → KeepsPast b c → KeepsPast a c
  goes_on first next = record {
    later = omega (arith, first.later, next.later);
    left = λ t f x le left. first.left t f x le (next.left t f x (omega (arith, le, first.later)) left);
    still_left = λ t f x le left. next.still_left t f x (omega (arith, le, first.later)) (first.still_left t f x le left);
    said = λ t le. next.said t (omega (arith, le, first.later)) ∙ first.said t le;
    lending = λ t n le. next.lending t n (omega (arith, le, first.later)) ∙ first.lending t n le;
    beside = next.beside ∙ first.beside;
  }

  -- what holds since a, and then since b
  pub each_on : (f : FileName) (P : Content → Type 0) → KeepsPast b c → EachSince a b f P → EachSince b c f P → EachSince a c f P
  each_on f P next first onward t x after le left = elim (cases_lt b.moment t) [
    | inl late ↦ onward t x late le left
    | inr early ↦ first t x after early (next.left t f x early left)
  ]

  pub synced_on : (f : FileName) → KeepsPast a b → KeepsPast b c → SyncsAtMost a b f → SyncsAtMost b c f → SyncsAtMost a c f
  synced_on f first next stays onward = record {
    unwritten = onward.unwritten ∙ stays.unwritten;
    held = λ own. onward.held (stays.own own) ∙ stays.held own;
    left = λ firm. each_on f (a.may_leave a.moment f) next (stays.left firm)
        (each_synced b c f (a.may_leave a.moment f) (stays.firm firm) onward (left_now a b f (a.may_leave a.moment f) first (λ x now. now) (stays.left firm)));
    own = λ own. onward.own (stays.own own);
    firm = λ firm. onward.firm (stays.firm firm);
  }

  pub stays_on : (f : FileName) → KeepsPast a b → KeepsPast b c → KeepsFile a b f → KeepsFile b c f → KeepsFile a c f
  stays_on f first next stays onward =
      let most = synced_on f first next (at_most a b f stays) (at_most b c f onward) in
      record {
        unwritten = most.unwritten;
        held = most.held;
        left = most.left;
        still_left = λ firm t x after le left. elim (cases_lt b.moment t) [
          | inl late ↦ onward.still_left (stays.firm firm) t x late le (still_now a b f first (stays.still_left firm) x left)
          | inr early ↦ next.still_left t f x early (stays.still_left firm t x after early left)
        ];
        own = most.own;
        firm = most.firm;
      }

  pub said_on : KeepsPast a b → KeepsPast b c → KeepsSaid a b → KeepsSaid b c → KeepsSaid a c
  said_on first next keeps onward t after le = elim (cases_lt b.moment t) [
    | inl late ↦ onward t late le ∙ said_now a b first keeps
    | inr early ↦ next.said t early ∙ keeps t after early
  ]

  pub custody_on : (n : ℕ) → KeepsPast a b → KeepsPast b c → KeepsCustody a b n → KeepsCustody b c n → KeepsCustody a c n
  custody_on n first next keeps onward t after le = elim (cases_lt b.moment t) [
    | inl late ↦ onward t late le ∙ lending_now a b first n keeps
    | inr early ↦ next.lending t n early ∙ keeps t after early
  ]

  pub only_on : (these : FileName → Type 0) → ChangesOnly these a b → ChangesOnly these b c → ChangesOnly these a c
  only_on these first next = record {
    goes = goes_on first.goes next.goes;
    others = λ f not. stays_on f first.goes next.goes (first.others f not) (next.others f not);
    lending = λ n. custody_on n first.goes next.goes (first.lending n) (next.lending n);
    said = said_on first.goes next.goes first.said next.said;
  }

  pub syncs_on : (these : FileName → Type 0) → SyncsOnly these a b → SyncsOnly these b c → SyncsOnly these a c
  syncs_on these first next = record {
    changes = only_on these first.changes next.changes;
    files = λ f. synced_on f first.changes.goes next.changes.goes (first.files f) (next.files f);
  }

-- what each content has since, what the file reads as has
pub held_since : (a b : Told) (f : FileName) (P : Content → Type 0) → IsPossibleNow b → KeepsPast a b → EachNow a f P → EachSince a b f P → P (b.held f)
held_since a b f P possible goes before since = left_now a b f P goes before since (b.held f) (possible f)

-- images since a, and then since b
pub images_on : (a b c : Told) (P : List ℕ → Image → Type 0) → KeepsPast b c → EachImage a b P → EachImage b c P → EachImage a c P
images_on a b c P next first onward t image after le possible = elim (cases_lt b.moment t) [
  | inl late ↦ onward t image late le possible
  | inr early ↦ subst (λ s. P s image) (sym (next.said t early)) (first t image after early (λ f. next.left t f (image f) early (possible f)))
]

-- images of which two files matter, while nothing is said
pub images_of_two : (a b : Told) (f g : FileName) (A B : Content → Type 0) (P : List ℕ → Image → Type 0) → KeepsSaid a b → EachSince a b f A → EachSince a b g B
    → ((image : Image) → A (image f) → B (image g) → P (said a) image) → EachImage a b P
images_of_two a b f g A B P quiet in_f in_g so t image after le possible =
    subst (λ s. P s image) (sym (quiet t after le)) (so image (in_f t (image f) after le (possible f)) (in_g t (image g) after le (possible g)))

-- An image of which some files were possible before, with what the others read as onward, was possible before.
module _ (a : Told) (t : ℕ) (b : Told) (these : FileName → Bool) (here : (f : FileName) → these f ≡ true → (x : Content) → b.may_leave t f x → a.may_leave a.moment f x) (possible : IsPossibleNow a) where
  from_before : (P : Image → Type 0) → IsAbout these P → EachImageNow a P → (image : Image) → IsPossible b t image → P image
  from_before P about now image left = about mixed image same (now mixed mixed_possible)
    where
      mixed : Image
      mixed f = if these f then image f else a.held f

      by_test : (f : FileName) (test : Bool) → these f ≡ test → a.may_leave a.moment f (if test then image f else a.held f)
      by_test f true is = here f is (image f) (left f)
      by_test f false is = possible f

      mixed_possible : IsPossible a a.moment mixed
      mixed_possible f = by_test f (these f) refl

      same : (f : FileName) → these f ≡ true → mixed f ≡ image f
      same f is = ap (λ (test : Bool). if test then image f else a.held f) is

-- a fact about files that stay, and are not loose, stays with each image
pub images_stay : (a b : Told) (these : FileName → Bool) → ((f : FileName) → these f ≡ true → ¬ IsLoose a f) → ((f : FileName) → these f ≡ true → KeepsFile a b f) → IsPossibleNow a
    → (P : Image → Type 0) → IsAbout these P → EachImageNow a P → EachImage a b (λ said image. P image)
images_stay a b these firm stays possible P about now t image after le left =
    from_before a t b these (λ f is x so. (stays f is).left (firm f is) t x after le so) possible P about now image left

pub images_still : (a b : Told) (these : FileName → Bool) → ((f : FileName) → these f ≡ true → ¬ IsLoose a f) → ((f : FileName) → these f ≡ true → KeepsFile a b f) → IsPossibleNow a → KeepsPast a b
    → (P : Image → Type 0) → IsAbout these P → EachImageNow a P → EachImageNow b P
images_still a b these firm stays possible goes P about now image left =
    from_before a b.moment b these (λ f is x so. left_now a b f (a.may_leave a.moment f) goes (λ x was. was) ((stays f is).left (firm f is)) x so) possible P about now image left
