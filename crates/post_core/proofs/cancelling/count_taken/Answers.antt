use Rattle.std.proofs.Common.{ap}
use Rattle.std.proofs.Math.Seq.{map-set_same}
use Rattle.std.proofs.lemmas.List.{map-set}
use Rattle.post_core.proofs.cancelling.count_taken.Goals as goal

pub returns-clause-started : goal.returns-clause-started
returns-clause-started c = map-set_same (λ place. place.started.items) c.args.jobs.now.items c.args.place _ c.index_mut.result.now (ap (λ place. place.started.items) c.index_mut.ensures.value)

pub returns-clause-taken : goal.returns-clause-taken
returns-clause-taken c = map-set (λ place. place.taken) c.args.jobs.now.items c.args.place _
