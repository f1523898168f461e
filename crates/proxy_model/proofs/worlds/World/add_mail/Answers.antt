use Rattle.std.proofs.Common.{ap, ◌∙◌}
use Rattle.proxy_laws.specs.declared.actors.Note.TheVariants as note
use Rattle.proxy_laws.specs.declared.actors.Phase.TheVariants as phase
use Rattle.proxy_laws.specs.Maps.{upd}
use Rattle.proxy_laws.specs.Worlds.{WorldState}
use Rattle.proxy_model.proofs.worlds.World.add_mail.Goals as goal

pub returns : goal.returns
returns c =
    let told = λ (w : WorldState). record w { mail_note = note.Pending; phase = upd w.phase c.args.sender phase.Referenced } in
    rw (← c.phase-phase.ensures) (c.set_phase.ensures ∙ ap told c.add_notice.ensures)
