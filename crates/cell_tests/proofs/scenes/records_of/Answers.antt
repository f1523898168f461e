use Rattle.cell_tests.proofs.PassLists.{passes_of_runners}
use Rattle.cell_tests.proofs.scenes.records_of.Goals as goal

pub close-requires : goal.close-requires
close-requires g c = passes_of_runners c.args.table c.args.passes.items c.requires
