use Rattle.std.proofs.Common.{ap, ◌∙◌, ◌≡◌, arith, rules, IsOk, OnErr, length, [], Result, Ok, Err, ◌++◌, List, ℕ}
use Rattle.ip_spec.specs.declared.reply.Reply.{Reply}
use Rattle.ip_spec.specs.Text.{reply_text}
use Rattle.ip_session.proofs.SessionLemmas.{memory_is_short}
use Rattle.ip_session.proofs.replies.put_reply.Goals as goal

ok_where_room : {T E : Type 0} (r : Result T E) (P : Type 0) → OnErr r P → ¬ P → IsOk r
ok_where_room (Ok x) P h no_p = search rules
ok_where_room (Err e) P h no_p = absurd (no_p h)

memory_said : (cleared out : List ℕ) (reply : Reply) → reply ≡ Reply.Memory → cleared ≡ [] → out ≡ cleared ++ reply_text reply → out ≡ reply_text Reply.Memory
memory_said cleared out reply e f h = h ∙ (ap (λ (t : List ℕ). t ++ reply_text reply) f ∙ ap reply_text e)

pub unwrap-requires : goal.unwrap-requires
unwrap-requires c =
    let short = ap (λ reply. length (reply_text reply)) c.refuse-refusal.ensures.reply in
    ok_where_room c.reply_text-2.result _ c.reply_text-2.ensures.room
    (λ full. omega (arith, full, short, memory_is_short, c.clear.ensures.len, c.clear.ensures.capacity, c.reply_text.ensures.capacity, c.requires.room))
