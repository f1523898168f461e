use Rattle.std.proofs.Common.{◌≡◌, ◌-◌, arith, subst}
use Rattle.post_core.specs.LifeSteps.{IsCulled}
use Rattle.post_core.proofs.uses.cull_all.Goals as goal

pub returns-clause-culled : goal.returns-clause-culled
returns-clause-culled g c = let last : c.loop-place.place - 1 ≡ c.args.places - 1 = (let a = c.loop-place.invariant.last in let b = c.loop-place-test.false in let e = c.loop-place.invariant.from in omega arith) in
    subst (λ n. IsCulled n c.args.seat.now.me.0 c.loop-place.seat.me.0) last c.loop-place.invariant.culled
