use Rattle.name_store.proofs.PresenceLemmas.{child_stays, over_stays, stays_entered}
use Rattle.name_store.proofs.directories.Directories.relocate.Goals as goal

pub unlink-requires : goal.unlink-requires
unlink-requires c = rw (c.in_ok-enter.ensures.ok) (stays_entered c.args.self.now c.args.to c.args.new_name c.args.node c.args.from c.requires.source)

pub set_parent-requires : goal.set_parent-requires
set_parent-requires c =
    rw (c.unlink.ensures) (rw (c.in_ok-enter.ensures.ok) (rw (c.directory-child.ensures)
    (child_stays c.args.self.now c.args.to c.args.new_name c.args.node c.args.from c.args.name.now _ c.requires.child)))

pub free-requires : goal.free-requires
free-requires c =
    rw (c.set_parent.ensures) (rw (c.unlink.ensures) (rw (c.in_ok-enter.ensures.ok)
    (over_stays _ c.directory-child.result c.args.to c.args.replaced
    (child_stays c.args.self.now c.args.to c.args.new_name c.args.node c.args.from c.args.name.now c.args.replaced c.requires.over))))
