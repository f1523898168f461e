use Rattle.proxy_model.specs.Shown.{world_of}
use Rattle.proxy_model.proofs.Apart.{apart_from_parts, starts_from_apart}
use Rattle.proxy_model.proofs.worlds.World.are_apart.Goals as goal

pub returns-then-is_phase_apart : goal.returns-then-is_phase_apart
returns-then-is_phase_apart c = (
  λ t. apart_from_parts (world_of c.args.self.now) c.args.place c.args.other (c.is_phase_apart.ensures.0 c.if-is_phase_apart.true) (c.are_starts_apart.ensures.0 t),
  λ apart. c.are_starts_apart.ensures.1 (starts_from_apart (world_of c.args.self.now) c.args.place c.args.other c.if-place-other.false apart),
)
