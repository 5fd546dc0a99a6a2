-- What a failed write may have left.
use Rattle.std.proofs.Common.{◌≡◌, ℕ, List, [], ◌∷◌, ◌++◌, length, take, sym, subst, ap, ◌∙◌, arith}
use Rattle.std.specs.Prelude.{OnOk, Result, Ok, Err, MatchBool}
use Rattle.std.proofs.lemmas.List.{take_all}
use Rattle.ip_ground.specs.declared.names.FileName.{FileName}
use Rattle.ip_ground.specs.declared.event.Event.{Event}
use Rattle.ip_ground.specs.declared.event.Event.TheVariants.{Failed}
use Rattle.ip_ground.specs.Contents.{Content, Torn}
use Rattle.ip_ground.specs.Files.{file_itself}
use Rattle.ip_ground.specs.Told.{MayTear}
use Rattle.ip_ground.specs.Replay.{State, after, blank, replayed, told_by}
use Rattle.ip_ground.proofs.Replays.{replayed_push}

module _ (log : List Event) (file : FileName) (at n : ℕ) where
  abbrev longer : List Event
  longer = log ++ Failed file at n ∷ []

  noted : replayed blank (take (length longer) longer) ≡ after (Failed file at n) (replayed blank log)
  noted = ap (replayed blank) (take_all (length longer) longer (omega arith)) ∙ replayed_push blank log (Failed file at n)

  failed_tears : MayTear file at n (told_by log) (told_by longer)
  failed_tears before content may torn =
      let was : (replayed blank log).may_leave file before = subst (λ l. (replayed blank l).may_leave file before) (take_all (length log) log (omega arith)) may in
      let now : (after (Failed file at n) (replayed blank log)).may_leave file content =
      subst (λ b. MatchBool b ((x : Content) × (replayed blank log).may_leave file x × Torn at n x content) ((replayed blank log).may_leave file content)) (sym (file_itself file)) (before, was, torn) in
      subst (λ (s : State). s.may_leave file content) (sym noted) now

pub tears_noted : {T : Type 0} (r : Result (Unit {0}) T) (old new : List Event) (file : FileName) (at n : ℕ) → OnOk r (new ≡ old ++ Failed file at n ∷ []) → OnOk r (MayTear file at n (told_by old) (told_by new))
tears_noted (Ok u) old new file at n is = subst (λ l. MayTear file at n (told_by old) (told_by l)) (sym is) (failed_tears old file at n)
tears_noted (Err x) old new file at n is = tt
