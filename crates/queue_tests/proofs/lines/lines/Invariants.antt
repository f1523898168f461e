use Rattle.std.proofs.Common.{◌≡◌, ◌+◌, length, vec_len}
use Rattle.std.specs.Prelude.{All, IfSome}
use Rattle.post_core.specs.SendParts.{pass_view, post_senders}
use Rattle.proxy_queue.specs.Sets.{set_post}
use Rattle.queue_tests.specs.Beside.{AreLines}
use Rattle.queue_tests.specs.Scenes.{HasSentNone, MayAllSend}
use Rattle.queue_tests.proofs.LineLemmas.{AreFirst, numbers}
use Rattle.queue_tests.proofs.lines.lines.Given as goal

abbrev pub invariant-loop-pass : goal.invariant-loop-pass
invariant-loop-pass g l = record {
  senders : MayAllSend (set_post l.set) l.passes.items l.system.items;
  first : AreFirst (numbers (set_post l.set) l.passes.items);
  count : length l.passes.items + length l.lines.items ≡ post_senders (set_post l.set);
  lines : AreLines (set_post l.set) (post_senders (set_post l.set)) l.lines.items;
  left : All (λ pass. HasSentNone (pass_view pass)) l.passes.items;
  fresh : All (λ line. IfSome line.pass (λ pass. HasSentNone (pass_view pass))) l.lines.items;
}

abbrev pub decreases-loop-pass : goal.decreases-loop-pass
decreases-loop-pass g l = vec_len l.passes
