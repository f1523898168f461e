use Rattle.std.proofs.Common.{eq-eqb, refl}
use Rattle.proxy_model.proofs.worlds.World.add_notice.Goals as goal

-- the place of a messenger is there
pub set_mailed-requires : goal.set_mailed-requires
set_mailed-requires c = c.requires c.in-Messenger.place (rw (c.in-Messenger.is) (eq-eqb _ _ refl))
