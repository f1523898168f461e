use Rattle.std.specs.Prelude.{None}
use Rattle.post_core.specs.OwnerViews.{IsOwnerOf, owner_view}
use Rattle.post_core.specs.SendParts.{IsPassOf, pass_view}
use Rattle.post_tests.specs.Scenes.{HasHeld, KeepsUses}
use Rattle.post_tests.proofs.beside.serve_all.Given as goal

abbrev pub invariant-loop : goal.invariant-loop
invariant-loop g l = IsOwnerOf l.post l.owner × HasHeld None (owner_view l.owner) × IsPassOf l.post l.pass × KeepsUses (pass_view l.fn.pass) (pass_view l.pass)
