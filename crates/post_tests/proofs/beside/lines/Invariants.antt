use Rattle.std.proofs.Common.{◌≡◌, ◌+◌, length, vec_len}
use Rattle.std.specs.Prelude.{IfSome}
use Rattle.post_core.specs.SendParts.{post_senders}
use Rattle.post_tests.specs.Beside.{AreLines, IsOwnerFresh}
use Rattle.post_tests.specs.Scenes.{MayAllSend}
use Rattle.post_tests.proofs.Lines.{AreFirst, numbers}
use Rattle.post_tests.proofs.beside.lines.Given as goal

abbrev pub invariant-loop-pass : goal.invariant-loop-pass
invariant-loop-pass g l = record {
  senders : MayAllSend l.post l.passes.items l.system.items;
  first : AreFirst (numbers l.post l.passes.items);
  count : length l.passes.items + length l.lines.items ≡ post_senders l.post;
  lines : AreLines l.post (post_senders l.post) l.lines.items;
  owner : IfSome l.owner (λ o. IsOwnerFresh l.post o);
}

abbrev pub decreases-loop-pass : goal.decreases-loop-pass
decreases-loop-pass g l = vec_len l.passes
