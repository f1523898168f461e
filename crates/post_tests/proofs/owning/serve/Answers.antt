use Rattle.std.proofs.Common.{ap, ◌∙◌}
use Rattle.post_core.specs.OwnerViews.{exec_view, got_place, got_view, owner_view}
use Rattle.post_core.specs.Views.{owner_of}
use Rattle.post_tests.proofs.HeldJobs.{first_jobs, same_held}
use Rattle.post_tests.proofs.owning.serve.Goals as goal

pub execute-after-requires-clause-held : goal.execute-after-requires-clause-held
execute-after-requires-clause-held g c =
    let before = owner_view c.loop-notices.owner in
    let got = c.in-Got.got in
    same_held c.args.held before (exec_view c.receive-exec.result) (ap (λ v. (owner_of v).jobs) c.receive-exec.ensures.2 ∙ first_jobs (got_place got) before (got_view got) c.in-Got.ensures.2) c.loop-notices.invariant.1
