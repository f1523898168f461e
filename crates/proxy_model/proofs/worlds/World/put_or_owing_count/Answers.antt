use Rattle.std.proofs.Common.{◌≡◌, ◌∙◌, count_by, rules}
use Rattle.proxy_laws.specs.declared.actors.Phase.TheVariants as phase
use Rattle.proxy_laws.specs.Phases.{owes_note_at}
use Rattle.proxy_model.proofs.Listed.{count_by_places}
use Rattle.proxy_model.proofs.worlds.World.put_or_owing_count.Goals as goal

pub returns : goal.returns
returns c =
    let listed : c.count.result ≡ count_by (owes_note_at c.args.place) c.args.self.now.phases.items = search rules in
    listed ∙ count_by_places (owes_note_at c.args.place) c.args.self.now.phases.items phase.Idle c.args.self.now.senders c.args.self.now.has_senders.phases_len
