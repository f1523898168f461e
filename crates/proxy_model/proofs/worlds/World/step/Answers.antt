use Rattle.std.proofs.Common.{sym, subst}
use Rattle.proxy_laws.specs.Sound.{Sound}
use Rattle.proxy_laws.proofs.Inductive.{event_keeps}
use Rattle.proxy_model.specs.Shown.{world_of}
use Rattle.proxy_model.proofs.worlds.World.step.Goals as goal

pub returns-in-Ok-clause-sound : goal.returns-in-Ok-clause-sound
returns-in-Ok-clause-sound c sound =
    subst Sound (sym c.in-Ok.ensures.ok) (event_keeps c.args.event.now (world_of c.args.self.now) sound c.in_default.ensures.ok)
