use Rattle.name_store.specs.NameTrees.{opening}
use Rattle.name_store.proofs.EntryLemmas.{mounts_after}
use Rattle.name_store.proofs.Soundness.{opening_sound}
use Rattle.name_store.proofs.laws.mounts_stay.Goals as goal

pub returns : goal.returns
returns c = λ mounts ops. mounts_after (opening mounts) ops (opening_sound mounts)
