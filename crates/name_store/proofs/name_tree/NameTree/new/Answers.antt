use Rattle.std.proofs.Common.{sym, subst}
use Rattle.name_store.specs.Sound.{IsSound}
use Rattle.name_store.proofs.Soundness.{opening_sound}
use Rattle.name_store.proofs.name_tree.NameTree.new.Goals as goal

pub invariant_of-result : goal.invariant_of-result
invariant_of-result c = subst IsSound (sym c.in_ok-new.ensures) (opening_sound c.args.mounts.items)
