use Rattle.std.proofs.Common.{None, ap, ◌∙◌}
use Rattle.post_core.specs.OwnerViews.{exec_view, got_place, got_view, owner_view}
use Rattle.post_core.specs.Views.{owner_of}
use Rattle.post_tests.proofs.HeldJobs.{first_jobs, same_held}
use Rattle.post_tests.proofs.places.receive.Goals as goal

pub returns-clause-held : goal.returns-clause-held
returns-clause-held g c =
    let before = owner_view c.args.owner in
    let got = c.in-Got.got in
    same_held None before (exec_view c.receive.result) (ap (λ v. (owner_of v).jobs) c.receive.ensures.2 ∙ first_jobs (got_place got) before (got_view got) c.in-Got.ensures.2) c.requires.1
