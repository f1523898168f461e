use Rattle.std.proofs.Common.{◌≡◌, ◌+◌, length, vec_len}
use Rattle.std.specs.Prelude.{All}
use Rattle.post_core.specs.SendParts.{IsPassOf, post_senders}
use Rattle.proxy_queue.specs.Sets.{set_post}
use Rattle.queue_tests.specs.Beside.{AreLines}
use Rattle.queue_tests.proofs.LineLemmas.{AreFirst, numbers}
use Rattle.queue_tests.proofs.lines.ends_of.Given as goal

abbrev pub invariant-loop-line : goal.invariant-loop-line
invariant-loop-line g l = record {
  lines : AreLines (set_post l._set) (post_senders (set_post l._set)) l.lines.items;
  all : All (λ pass. IsPassOf (set_post l._set) pass) l.passes.items;
  first : AreFirst (numbers (set_post l._set) l.passes.items);
  count : length l.passes.items + length l.lines.items ≡ post_senders (set_post l._set);
}

abbrev pub decreases-loop-line : goal.decreases-loop-line
decreases-loop-line g l = vec_len l.lines
