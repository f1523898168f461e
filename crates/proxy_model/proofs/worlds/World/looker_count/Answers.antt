use Rattle.std.proofs.Common.{◌≡◌, ◌∙◌, count_by, rules}
use Rattle.proxy_laws.specs.declared.actors.Look.TheVariants as look
use Rattle.proxy_laws.specs.Phases.{looks_at}
use Rattle.proxy_model.proofs.Listed.{count_by_places}
use Rattle.proxy_model.proofs.worlds.World.looker_count.Goals as goal

pub returns : goal.returns
returns c =
    let listed : c.count.result ≡ count_by (looks_at c.args.place) c.args.self.now.looks.items = search rules in
    listed ∙ count_by_places (looks_at c.args.place) c.args.self.now.looks.items look.Nowhere c.args.self.now.senders c.args.self.now.has_senders.looks_len
