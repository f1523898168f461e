use Rattle.std.proofs.Common.{Some, ap, ◌∙◌}
use Rattle.post_core.specs.LifeSteps.{look_ended}
use Rattle.post_core.proofs.uses.cull.Goals as goal

pub returns-then-try_claim-eq-ZOMBIE-clause-culled : goal.returns-then-try_claim-eq-ZOMBIE-clause-culled
returns-then-try_claim-eq-ZOMBIE-clause-culled g c = let e = c.end_look.ensures.ended in
    (Some e.0, e.2 ∙ ap (λ m. (look_ended c.args.place e.0 m.0, m.1)) (c.try_claim.ensures.hit c.if-try_claim-eq-ZOMBIE.true))
