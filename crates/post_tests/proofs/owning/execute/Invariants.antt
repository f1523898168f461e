use Rattle.std.proofs.Common.{◌≡◌}
use Rattle.post_core.specs.OwnerViews.{IsExecOf, exec_place, exec_view}
use Rattle.post_core.specs.SendParts.{IsPassOf, pass_view}
use Rattle.post_tests.specs.Scenes.{HasHeld, KeepsUses}
use Rattle.post_tests.proofs.owning.execute.Given as goal

abbrev pub invariant-loop : goal.invariant-loop
invariant-loop g l = IsExecOf l.post l.exec × (exec_place l.exec ≡ l.place) × HasHeld l.fn.held (exec_view l.exec) × IsPassOf l.post l.pass × KeepsUses (pass_view l.fn.pass) (pass_view l.pass)
