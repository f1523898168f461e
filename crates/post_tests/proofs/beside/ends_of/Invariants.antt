use Rattle.std.proofs.Common.{◌≡◌, ◌+◌, length, vec_len}
use Rattle.std.specs.Prelude.{All, IfSome}
use Rattle.post_core.specs.SendParts.{IsPassOf, post_senders}
use Rattle.post_tests.specs.Beside.{AreLines, IsEnd}
use Rattle.post_tests.proofs.Lines.{AreFirst, numbers}
use Rattle.post_tests.proofs.beside.ends_of.Given as goal

abbrev pub invariant-loop-line : goal.invariant-loop-line
invariant-loop-line g l = record {
  lines : AreLines l.post (post_senders l.post) l.lines.items;
  all : All (λ pass. IsPassOf l.post pass) l.passes.items;
  first : AreFirst (numbers l.post l.passes.items);
  count : length l.passes.items + length l.lines.items ≡ post_senders l.post;
  emptied : IfSome l.found (λ e. IsEnd l.post e);
}

abbrev pub decreases-loop-line : goal.decreases-loop-line
decreases-loop-line g l = vec_len l.lines
