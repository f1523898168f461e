use Rattle.std.proofs.Common.{ℕ, ap, sym, subst, ◌∙◌}
use Rattle.turn_cell.specs.declared.entry.Caller.{Caller}
use Rattle.path_walk.specs.declared.call.Call.{Call}
use Rattle.path_walk.specs.Posix.{Walk}
use Rattle.memory_backend.specs.CellSteps.{PassRan, StorePass}
use Rattle.thread_runs.proofs.Making.{made_by}
use Rattle.thread_runs.proofs.call.make_call.Goals as goal

pub returns-clause-made : goal.returns-clause-made
returns-clause-made g c = λ before known.
    let (steps, ran, few, walk) = c.in_ok-reply.ensures.walk in
    let (pass_is, caller_is, backends_are, table_is) = c.new-backends.ensures in
    let called = caller_is ∙ ap (λ (t : ℕ). let caller : Caller = record { thread = t; call = c.args.number } in caller) c.number.ensures in
    let ran_from = subst (λ (z : ℕ × Caller × StorePass × StorePass). PassRan z.0 z.1 steps z.2 z.3) (λ i. (backends_are i, called i, pass_is i, sym c.into_pass.ensures i)) ran.0 in
    let walked = subst (λ (z : ℕ × Call). Walk z.0 z.1 steps c.in_ok-reply.reply) (λ i. (c.number-2.ensures.value i, c.into_call-call.ensures i)) walk in
    made_by c.args.stage.now.version c.args.stage.now.backends c.args.number c.args.call c.args.numbers.now before steps c.in_ok-reply.reply c.args.pass c.into_pass.result ran_from walked known
