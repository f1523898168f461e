use Rattle.std.proofs.Common.{ap, ◌∙◌, ◌+◌}
use Rattle.proxy_laws.specs.Maps.{upd}
use Rattle.proxy_laws.specs.Worlds.{WorldState}
use Rattle.proxy_model.proofs.worlds.World.create.Goals as goal

pub returns : goal.returns
returns c =
    let uses = λ (w : WorldState). record w { uses = upd w.uses c.args.sender (upd (w.uses c.args.sender) c.args.place (c.use_count-count.result + 1)) } in
    rw (← c.use_count-count.ensures) (c.set_use_count.ensures ∙ ap uses c.set_life.ensures)
