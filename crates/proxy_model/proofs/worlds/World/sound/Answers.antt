use Rattle.proxy_model.specs.Shown.{world_of}
use Rattle.proxy_model.proofs.Sounds.{place_from_sound, sound_from_parts, totals_from_sound}
use Rattle.proxy_model.proofs.worlds.World.sound.Goals as goal

pub returns-then-are_totals_sound : goal.returns-then-are_totals_sound
returns-then-are_totals_sound c = (
  λ t. sound_from_parts (world_of c.args.self.now) (c.are_totals_sound.ensures.0 c.if-are_totals_sound.true) (c.are_places_sound.ensures.0 t),
  λ sound. c.are_places_sound.ensures.1 (λ p at. place_from_sound (world_of c.args.self.now) p sound at),
)

pub returns-else-are_totals_sound : goal.returns-else-are_totals_sound
returns-else-are_totals_sound c = (
  λ t. let not_so = c.if-are_totals_sound.false in absurd (cc),
  λ sound. c.are_totals_sound.ensures.1 (totals_from_sound (world_of c.args.self.now) sound),
)
