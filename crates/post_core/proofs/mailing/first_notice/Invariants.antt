use Rattle.std.proofs.Common.{◌≡◌}
use Rattle.post_core.specs.MailSteps.{words_empty}
use Rattle.post_core.proofs.mailing.first_notice.Given as goal

abbrev pub invariant-loop-word : goal.invariant-loop-word
invariant-loop-word g l = (l.seat.table_id ≡ l.fn.seat.table_id) × (l.seat.id ≡ l.fn.seat.id) × (l.seat.me ≡ (words_empty l.word l.fn.seat.me.0, l.fn.seat.me.1))
