use Rattle.name_store.proofs.Counted.{lines_are_entries}
use Rattle.name_store.proofs.name_tree.NameTree.lines.Goals as goal

pub returns-clause-entries : goal.returns-clause-entries
returns-clause-entries c = rw (← c.self.view_is) (lines_are_entries c.self.inside.directories c.self.invariant)
