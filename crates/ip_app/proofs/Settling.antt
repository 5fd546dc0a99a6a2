-- What was settled stays so, by what its files held then.
--     settles_line, settles_cut      of a line, by whose attempts it changed.      settles_none      of a call that lends and settles none.      settles_still      of none.      settles_on      of two behind one another
--     stays_first, stays_later, stays_behind      along a run
use Rattle.std.proofs.Common.{◌≡◌, ◌≢◌, inl, inr, ℕ, ◌<◌, ◌≤◌, Bool, true, false, refl, sym, ap, ◌∙◌, subst, arith, Option, Some, None, IsTrue}
use Rattle.std.specs.Prelude.{option_map}
use Rattle.std.proofs.lemmas.Bool.{cases_lt}
use Rattle.ip_ground.specs.declared.names.FileName.{FileName}
use Rattle.ip_ground.specs.Contents.{Image}
use Rattle.ip_ground.specs.Custody.{Custody, own, lent, settled}
use Rattle.ip_ground.specs.Told.{Told, lending, KeepsPast, KeepsCustody, TurnsCustody, IsSettledAs}
use Rattle.ip_spec.specs.declared.command.Command.{Command}
use Rattle.ip_spec.specs.declared.reply.Reply.{Reply}
use Rattle.ip_spec.specs.Line.{IsLineOf}
use Rattle.ip_spec.specs.Machine.{State, Conditions}
use Rattle.ip_spec.specs.Merge.{Rule}
use Rattle.ip_spec.specs.Path.{Bytes}
use Rattle.ip_spec.specs.Script.{LineStep}
use Rattle.ip_image.specs.Pending.{HasLive, NothingPending}
use Rattle.ip_held.specs.declared.collection.Collection.{Collection}
use Rattle.ip_held.specs.declared.held.Held.{Held}
use Rattle.ip_held.specs.Sweeping.{EndsTo, EndsCustody}
use Rattle.ip_session.specs.Session.{ChangesBy, OnlyIn, TouchesIn, StaysSettled, attempt_of, hears}
use Rattle.ip_app.specs.Judged.{IsSettledAt, Settles, StaysFrom}

-- of one attempt
record Stays (a b : Told) (n : ℕ) : Type 0 where
  on : (pair : Image) → IsSettledAs a n pair → (u : ℕ) → a.moment < u → u ≤ b.moment → IsSettledAt b u n pair
  by : (t : ℕ) (pair : Image) → a.moment < t → t ≤ b.moment → IsSettledAt b t n pair → IsSettledAs b n pair

stays_kept : (a b : Told) (n : ℕ) → KeepsCustody a b n → Stays a b n
stays_kept a b n keeps = record {
  on = λ pair is u late le. (is.0, keeps u late le ∙ is.1);
  by = λ t pair late le is. (is.0, keeps b.moment (omega (arith, late, le)) (omega arith) ∙ (sym (keeps t late le) ∙ is.1));
}

ends_from : (x y : Custody) (pair : Image) (synced : FileName → Bool) → x ≡ settled pair synced → EndsTo x y → (more : FileName → Bool) × (y ≡ settled pair more)
ends_from x y pair synced is ends = by y (subst (λ (z : Custody). EndsTo z y) is ends)
  where
    by : (y : Custody) → EndsTo (settled pair synced) y → (more : FileName → Bool) × (y ≡ settled pair more)
    by own to = absurd to
    by lent to = absurd to
    by (settled later more) to = (more, ap (λ (image : Image). settled image more) to.0)

stays_ends : (a b : Told) (n : ℕ) → EndsCustody a b n → Stays a b n
stays_ends a b n ends = record {
  on = λ pair is u late le. ends_from (lending a n) (b.lending_at u n) pair is.0 is.1 (ends u late le).0;
  by = λ t pair late le is. ends_from (b.lending_at t n) (lending b n) pair is.0 is.1 (ends t late le).1;
}

stays_turns : (a b : Told) (n : ℕ) → TurnsCustody a b n → ((pair : Image) → IsSettledAs a n pair → IsSettledAs b n pair) → Stays a b n
stays_turns a b n turns stays = record {
  on = λ pair is u late le. elim (turns u late le) [
    | inl was ↦ (is.0, was ∙ is.1)
    | inr now ↦ (let then_is = stays pair is in (then_is.0, now ∙ then_is.1))
  ];
  by = λ t pair late le is. elim (turns t late le) [
    | inl was ↦ stays pair (is.0, sym was ∙ is.1)
    | inr now ↦ (is.0, sym now ∙ is.1)
  ];
}

-- all others stay
stays_beside : (a b : Told) (m n : ℕ) → ((other : ℕ) → other ≢ m → KeepsCustody a b other) → Stays a b m → Stays a b n
stays_beside a b m n others one = elim (cases_lt m n) [
  | inl above ↦ stays_kept a b n (others n (λ is. absurd (omega (arith, is, above))))
  | inr upto ↦ elim (cases_lt n m) [
    | inl below ↦ stays_kept a b n (others n (λ is. absurd (omega (arith, is, below))))
    | inr from ↦ (let same : m ≡ n = omega (arith, upto, from) in subst (Stays a b) same one)
  ]
]

each : (a b : Told) → ((n : ℕ) → Stays a b n) → Settles a b
each a b all = record { on = λ n pair. (all n).on pair; by = λ t n pair. (all n).by t pair }

module _ (a b : Told) where
  by_changes : (heard : Bool) (o : Option ℕ) (these : FileName → Type 0) → ChangesBy heard o these a b → ((n : ℕ) → o ≡ Some n → (pair : Image) → IsSettledAs a n pair → IsSettledAs b n pair) → Settles a b
  by_changes heard None these only stays = each a b (λ n. stays_kept a b n (only.lending n))
  by_changes false (Some m) these only stays = each a b (λ n. stays_beside a b m n only.lending (stays_turns a b m only.turns (stays m refl)))
  by_changes true (Some m) these only stays = each a b (λ n. stays_beside a b m n only.beside.lending (stays_ends a b m only.ends))

  -- the attempt that is drawn was never settled, and that of the collection stays so
  of_running : (o : Option Collection) → StaysSettled o a b → (n : ℕ) → option_map (λ c. c.job.attempt) o ≡ Some n → (pair : Image) → IsSettledAs a n pair → IsSettledAs b n pair
  of_running None stays n is pair = absurd (cc is)
  of_running (Some c) stays n is pair = let same : c.job.attempt ≡ n = cc is in subst (λ (m : ℕ). IsSettledAs a m pair → IsSettledAs b m pair) same (stays c refl pair)

  of_command : (store : Held) → NothingPending a → HasLive store.slot a.held → StaysSettled store.collection a b → (command : Command) (n : ℕ) → attempt_of store command ≡ Some n → (pair : Image) → IsSettledAs a n pair → IsSettledAs b n pair
  of_command store order live stays (Command.Collect target) n is pair = λ was.
      let same : store.slot.next_attempt ≡ n = cc is in
      let drawn = order.drawn store.slot live n (λ none. absurd (cc (none, was.1))) in
      absurd (omega (arith, same, drawn))
  of_command store order live stays Command.Look n is pair = of_running store.collection stays n is pair
  of_command store order live stays Command.Finish n is pair = of_running store.collection stays n is pair
  of_command store order live stays Command.Cancel n is pair = of_running store.collection stays n is pair
  of_command store order live stays _ n is pair = absurd (cc is)

  pub settles_line : (rule : Rule) (store : Held) (state after : State) (line : Bytes) (met : Conditions) (reply : Reply) → NothingPending a → HasLive store.slot a.held → StaysSettled store.collection a b → LineStep IsLineOf rule state line met reply after → OnlyIn store a b line reply → Settles a b
  settles_line rule store state after line met reply order live stays (inl step) only = by_changes (hears step.0) (attempt_of store step.0) _ (only.command step.0 step.1) (of_command store order live stays step.0)
  settles_line rule store state after line met reply order live stays (inr bad) only = each a b (λ n. stays_kept a b n ((only.none (λ command is. bad.bad.no_command command is)).lending n))

  pub settles_cut : (store : Held) (line : Bytes) → NothingPending a → HasLive store.slot a.held → StaysSettled store.collection a b → TouchesIn store a b line → Settles a b
  settles_cut store line order live stays only = by_changes (hears only.0) (attempt_of store only.0) _ only.2 (of_command store order live stays only.0)

pub settles_none : (a b : Told) → ((n : ℕ) → KeepsCustody a b n) → Settles a b
settles_none a b keeps = each a b (λ n. stays_kept a b n (keeps n))

pub settles_on : (a b c : Told) → KeepsPast a b → KeepsPast b c → Settles a b → Settles b c → Settles a c
settles_on a b c past goes first second = record {
  on = λ n pair is u late le. elim (cases_lt b.moment u) [
    | inl behind ↦ second.on n pair (at_last n pair is) u behind le
    | inr before ↦ (let it = first.on n pair is u late before in (it.0, goes.lending u n before ∙ it.1))
  ];
  by = λ t n pair late le is. elim (cases_lt b.moment t) [
    | inl behind ↦ second.by t n pair behind le is
    | inr before ↦ to_last n pair (first.by t n pair late before (is.0, sym (goes.lending t n before) ∙ is.1))
  ];
}
  where
    -- of a moment that both tell
    now_same : b.moment ≡ a.moment → (n : ℕ) → lending b n ≡ lending a n
    now_same same n = ap (λ (t : ℕ). b.lending_at t n) same ∙ past.lending a.moment n (omega arith)

    at_last : (n : ℕ) (pair : Image) → IsSettledAs a n pair → IsSettledAs b n pair
    at_last n pair is = elim (cases_lt a.moment b.moment) [
      | inl later ↦ first.on n pair is b.moment later (omega arith)
      | inr still ↦ (is.0, now_same (let le = past.later in omega (arith, still, le)) n ∙ is.1)
    ]

    to_last : (n : ℕ) (pair : Image) → IsSettledAs b n pair → IsSettledAs c n pair
    to_last n pair is = elim (cases_lt b.moment c.moment) [
      | inl later ↦ second.on n pair is c.moment later (omega arith)
      | inr still ↦ (let same : c.moment ≡ b.moment = (let le = goes.later in omega (arith, still, le)) in (is.0, (ap (λ (t : ℕ). c.lending_at t n) same ∙ goes.lending b.moment n (omega arith)) ∙ is.1))
    ]

pub settles_still : (a b : Told) → b.moment ≡ a.moment → Settles a b
settles_still a b same = record { on = λ n pair is u late le. absurd (omega (arith, late, le, same)); by = λ t n pair late le is. absurd (omega (arith, late, le, same)) }

-- ---- along a run

pub stays_first : (a : Told) (t : ℕ) → a.moment ≤ t → t ≤ a.moment → StaysFrom a t a.moment
stays_first a t low high n pair is u after last = (let same : u ≡ t = omega (arith, low, high, after, last) in subst (λ (k : ℕ). IsSettledAt a k n pair) (sym same) is)

-- what is so from a moment on is so while time goes on
pub stays_later : (b c : Told) → KeepsPast b c → Settles b c → (t from : ℕ) → t ≤ from → from ≤ b.moment → StaysFrom b t from → StaysFrom c t from
stays_later b c goes more t from le by_now was n pair is u after last =
    let there : IsSettledAt b t n pair = (is.0, sym (goes.lending t n (omega (arith, le, by_now))) ∙ is.1) in
    elim (cases_lt b.moment u) [
      | inl behind ↦ more.on n pair (was n pair there b.moment by_now (omega arith)) u behind last
      | inr before ↦ (let it = was n pair there u after before in (it.0, goes.lending u n before ∙ it.1))
    ]

-- what was settled by the end of a command is so from then on
pub stays_behind : (a b : Told) → KeepsPast a b → Settles a b → (t : ℕ) → t ≤ b.moment → (t ≤ a.moment → StaysFrom a t a.moment) → StaysFrom b t b.moment
stays_behind a b goes does t le before n pair is u after last =
    let same : u ≡ b.moment = omega (arith, after, last) in
    subst (λ (k : ℕ). IsSettledAt b k n pair) (sym same) (elim (cases_lt a.moment t) [
      | inl late ↦ does.by t n pair late le is
      | inr soon ↦ (let there = before soon n pair (is.0, sym (goes.lending t n soon) ∙ is.1) a.moment (omega arith) (omega arith) in at_last there)
    ])
  where
    at_last : IsSettledAs a n pair → IsSettledAt b b.moment n pair
    at_last was = elim (cases_lt a.moment b.moment) [
      | inl later ↦ does.on n pair was b.moment later (omega arith)
      | inr still ↦ (let now : b.moment ≡ a.moment = (let up = goes.later in omega (arith, still, up)) in (was.0, (ap (λ (k : ℕ). b.lending_at k n) now ∙ goes.lending a.moment n (omega arith)) ∙ was.1))
    ]
