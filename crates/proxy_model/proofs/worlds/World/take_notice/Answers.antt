use Rattle.std.proofs.Common.{ap, ◌∙◌, ◌+◌}
use Rattle.proxy_laws.specs.declared.actors.Serving.TheVariants as serving
use Rattle.proxy_laws.specs.Mailbox.{mail_note_after_take}
use Rattle.proxy_laws.specs.Maps.{upd}
use Rattle.proxy_laws.specs.Worlds.{WorldState}
use Rattle.proxy_model.proofs.worlds.World.take_notice.Goals as goal

pub returns : goal.returns
returns c =
    let note = λ (w : WorldState). record w { mail_note = mail_note_after_take w.places w.mail w.mail_note } in
    let got = λ (w : WorldState). record w { serving = upd w.serving c.args.place (serving.Got (c.args.self.now.got + 1)) } in
    c.set_serving.ensures ∙ ap got (c.clear_mail_note.ensures ∙ ap note c.set_mailed.ensures)
