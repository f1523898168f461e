use Rattle.std.proofs.Common.{sym, subst}
use Rattle.std.specs.Prelude.{None}
use Rattle.proxy_laws.specs.declared.records.FateMark.TheVariants as fate
use Rattle.post_core.specs.OwnerViews.{emptied_view}
use Rattle.post_tests.specs.Scenes.{HasHeld}
use Rattle.post_tests.proofs.HeldJobs.{settles_held}
use Rattle.post_tests.proofs.hostile.closes_while_it_executes.Goals as goal

pub end-record-requires-clause-emptied : goal.end-record-requires-clause-emptied
end-record-requires-clause-emptied g c =
    let settled = c.settle-note.ensures.owner in
    (settled.0, subst (λ v. HasHeld None v) (sym settled.1) (settles_held (emptied_view c.cancel_all-emptied.result.0) c.hold_first-exec.result.1.nth fate.Cancelled c.cancel_all-emptied.ensures.emptied.1))
