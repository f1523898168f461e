use Rattle.file_store.proofs.NumberSetLemmas.{members-insert}
use Rattle.file_store.proofs.number_set.NumberSet.insert.Goals as goal

pub returns : goal.returns
returns c = rw (← c.self.view_is) (members-insert c.self.inside.words c.args.number c.self.told c.requires)
