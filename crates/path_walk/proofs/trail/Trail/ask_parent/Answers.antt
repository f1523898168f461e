use Rattle.std.proofs.Common.{ℕ, ap, ◌∙◌}
use Rattle.name_store.specs.declared.operation.NameOp.TheVariants.{Parent}
use Rattle.path_walk.specs.declared.step.CellId.TheVariants.{Names as NamesCell}
use Rattle.path_walk.specs.declared.step.StoreOp.TheVariants.{Names as NamesOp}
use Rattle.path_walk.specs.declared.call.Need.TheVariants.{Step}
use Rattle.path_walk.specs.declared.trail.Stage.TheVariants.{Walking}
use Rattle.path_walk.specs.declared.trail.Trail.{Trail}
use Rattle.path_walk.proofs.MachineLemmas.{up_shows}
use Rattle.path_walk.proofs.trail.Trail.ask_parent.Goals as goal

pub returns : goal.returns
returns c =
    up_shows c.args.self.now c.ask.result (Walking c.ask.new.self) c.requires.some c.requires.above (ap (λ (trail : Trail). Walking trail) c.ask.ensures.0)
    (c.ask.ensures.1 ∙ ap (λ (d : ℕ). Step (NamesCell c.args.self.now.spot.backend) (NamesOp (Parent d))) c.dir.ensures)
