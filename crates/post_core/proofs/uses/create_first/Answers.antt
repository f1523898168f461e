use Rattle.std.proofs.Common.{◌≡◌, ◌-◌, arith, ap, ◌∙◌}
use Rattle.post_core.specs.LifeSteps.{all_found}
use Rattle.post_core.proofs.uses.create_first.Goals as goal

pub returns-clause-full : goal.returns-clause-full
returns-clause-full g c none = let last : c.loop-place.place - 1 ≡ c.args.places - 1 = (let a = c.loop-place.invariant.last in let b = c.loop-place-test.false in let e = c.loop-place.invariant.from in omega arith) in
    c.loop-place.invariant.found ∙ ap (λ n. (all_found n c.args.seat.now.me.0, c.args.seat.now.me.1)) last
