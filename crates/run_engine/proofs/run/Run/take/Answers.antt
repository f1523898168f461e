use Rattle.std.proofs.Common.{ℕ, List, ap, sym, ◌∙◌}
use Rattle.path_walk.specs.Programs.{CallOutcome}
use Rattle.path_walk.specs.Posix.{posix}
use Rattle.trace_text.specs.SoloText.{Between, outcome_of_line}
use Rattle.trace_text.specs.TraceCalls.{file_call}
use Rattle.run_engine.proofs.run.Run.take.Goals as goal

pub returns-clause-reply : goal.returns-clause-reply
returns-clause-reply c =
    let call_is = c.into_call-call.ensures ∙ ap (λ (numbers : List ℕ). file_call numbers c.args.line.call) c.of.ensures in
    sym (ap (λ (outcome : CallOutcome). outcome.reply) c.in_ok-reply.ensures.alone)
    ∙ (λ i. (posix (c.number.ensures.value i) c.self.inside.store (call_is i)).reply)
    ∙ ap (λ (between : Between). (outcome_of_line between c.args.line).reply) c.self.view_is
