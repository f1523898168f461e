use Rattle.std.proofs.Common.{ℕ, ◌<◌, length, get_or, arith, refl, rules, tests}
use Rattle.std.proofs.lemmas.Iterator.{cases_from_all, YieldsList-from_range}
use Rattle.proxy_laws.specs.declared.records.Job.{Job}
use Rattle.proxy_laws.specs.Starts.{MayFollow}
use Rattle.proxy_model.proofs.Below.{all_below}
use Rattle.proxy_model.proofs.order.are_in_order.Goals as goal

pub returns : goal.returns
returns c =
    let each = λ (k : ℕ). (n : ℕ) (d : Job) → n < k → MayFollow (get_or c.args.jobs.now n d).started (get_or c.args.jobs.now k d).started in
    let all = cases_from_all _ _ c.all.result each (λ k. each k → ⊥) c.all.ensures.ran (YieldsList-from_range 0 _ (length c.args.jobs.now) refl (omega arith)) (λ k q is. search (rules, tests)) (λ k q is. search (rules, tests)) in
    let below = all_below c.all.result (length c.args.jobs.now) each all in
    (λ t m n d lt near. below.0 t n near m d lt, λ follows. below.1 (λ n near m d lt. follows m n d lt near))
