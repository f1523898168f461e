use Rattle.std.proofs.Common.{Some, ap, sym}
use Rattle.name_store.specs.NameTrees.{dir_of}
use Rattle.name_store.proofs.PresenceLemmas.{entry_is_there, stays_unlinked}
use Rattle.name_store.proofs.directories.Directories.remdir.Goals as goal

pub free-requires : goal.free-requires
free-requires c =
    rw (c.unlink.ensures) (stays_unlinked c.args.self.now c.args.id c.args.name.now c.in-Some-Dir.child
    (entry_is_there c.args.self.now c.args.id c.in-Some.directory.now c.args.name.now (Some c.in-Some-Dir.field-0.now) (Some c.in-Some-Dir.child) c.requires c.in-Some.ensures.directory c.in-Some-Dir.ensures (ap dir_of (sym c.in-Some-Dir.field-0-is))))
