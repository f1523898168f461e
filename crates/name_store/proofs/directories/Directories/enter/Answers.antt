use Rattle.std.proofs.Common.{arith}
use Rattle.name_store.specs.NameTrees.{Listing, with_entry}
use Rattle.name_store.proofs.PresenceLemmas.{within}
use Rattle.name_store.proofs.Slots.{put_slot_ok}
use Rattle.name_store.proofs.directories.Directories.enter.Goals as goal

pub returns-clause-ok : goal.returns-clause-ok
returns-clause-ok c =
    let change : Listing → Listing = λ d. with_entry d c.args.name c.args.node in
    let inside = within c.args.self.now c.args.id c.requires in
    rw (← c.self.view_is) (put_slot_ok c.self.inside.slots.items c.args.id c.number.result _ _ change c.enter_slot.result c.number.ensures (rw (c.self.view_is) (rw (c.number.ensures) inside)) c.index_mut.ensures.value c.enter_slot.ensures.ok)
