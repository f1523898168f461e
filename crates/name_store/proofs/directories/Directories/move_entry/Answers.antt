use Rattle.std.proofs.Common.{Some, is_some, ap, sym, option_copied}
use Rattle.name_store.specs.NameTrees.{dir_of}
use Rattle.name_store.proofs.PresenceLemmas.{entry_is_there}
use Rattle.name_store.proofs.directories.Directories.move_entry.Goals as goal

pub relocate-requires : goal.relocate-requires
relocate-requires c = record {
  source = ap is_some (sym c.in-Some.ensures.directory);
  target = ap is_some (sym c.in-Some-get.ensures.directory);
  child = entry_is_there c.args.self.now c.args.from c.in-Some.source.now c.args.name.now (Some c.in-Some-entry.node.now) (dir_of c.in_ok-node.node) c.requires c.in-Some.ensures.directory c.in-Some-entry.ensures (ap dir_of c.in_ok-node.ensures.ok);
  over = entry_is_there c.args.self.now c.args.to c.in-Some-get.target.now c.args.new_name.now _ _ c.requires c.in-Some-get.ensures.directory c.entry-over.ensures c.directory_in-replaced.ensures;
}
