use Rattle.file_store.proofs.NumberSetLemmas.{members-remove}
use Rattle.file_store.proofs.number_set.NumberSet.remove.Goals as goal

pub returns : goal.returns
returns c = rw (← c.self.view_is) (members-remove c.self.inside.words c.args.number c.self.told c.requires)
