use Rattle.std.proofs.Common.{ap, ◌∙◌}
use Rattle.proxy_laws.specs.Maps.{upd}
use Rattle.proxy_laws.specs.Worlds.{WorldState}
use Rattle.proxy_model.proofs.worlds.World.release_use.Goals as goal

pub returns : goal.returns
returns c =
    let look = λ (w : WorldState). record w { look = upd w.look c.args.sender c.look_after_release-look.result } in
    let uses = λ (w : WorldState). record w { uses = upd w.uses c.args.sender (upd (w.uses c.args.sender) c.args.place c.saturating_sub-count.result) } in
    let all = c.set_use_count.ensures ∙ ap uses (c.set_look.ensures ∙ ap look c.set_life.ensures) in
    rw (c.look_after_release-look.ensures, c.look.ensures, c.saturating_sub-life.ensures, c.life.ensures, c.saturating_sub-count.ensures, c.use_count.ensures) at all
