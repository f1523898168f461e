use Rattle.post_core.proofs.laws.table_is_always_sound.Goals as goal

pub returns : goal.returns
returns g c target senders places s r = (r.sound, r.formed)
