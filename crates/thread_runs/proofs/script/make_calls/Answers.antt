use Rattle.std.proofs.Common.{◌++◌, ◌∷◌, [], List, ap, sym, subst, ◌∙◌, append_assoc, arith}
use Rattle.std.proofs.lemmas.List.{append-nil, length-append}
use Rattle.turn_cell.specs.Passes.{pass_number, pass_own}
use Rattle.cell_runs.specs.Runs.{AreCallsMade}
use Rattle.cell_runs.proofs.Making.{rising}
use Rattle.cell_runs.proofs.Readying.{none_left}
use Rattle.trace_text.specs.declared.trace_call.TraceCall.{TraceCall}
use Rattle.thread_runs.specs.StoreRuns.{StoreWalk}
use Rattle.thread_runs.proofs.Scripts.{all_own, calls_made, entries_rise, numbers_more}
use Rattle.thread_runs.proofs.script.make_calls.Goals as goal

pub loop-call-preserved : goal.loop-call-preserved
loop-call-preserved g c =
    let l = c.loop-call in
    let i = l.invariant in
    let stage = c.args.stage.now in
    let one = c.in_ok-reply.ensures.made l.replies.items (c.as_slice.ensures.value ∙ i.numbers) in
    let more = c.in_ok-push-2.ensures.items in
    let t = pass_number c.args.pass in record {
      whole = append_assoc l.yielded (c.in-Some.call ∷ []) c.next.new.self.rest.items ∙ ap (λ (rest : List TraceCall). l.yielded ++ rest) (sym c.in-Some.ensures.steps.0) ∙ i.whole;
      of_table = c.in_ok-reply.ensures.table.0;
      same = c.in_ok-reply.ensures.table.1 ∙ i.same;
      number = let count = i.number in let long = length-append l.yielded (c.in-Some.call ∷ []) in omega (arith, count, long);
      numbers = numbers_more l.numbers.items c.push.new.self.items l.replies.items c.push-in-loop-call.new.self.items c.in_ok-reply.reply _ i.numbers c.in_ok-push.ensures.items c.number_in_reply.ensures more;
      made = calls_made stage.version stage.backends t l.number l.yielded c.in-Some.call l.replies.items c.push-in-loop-call.new.self.items c.in_ok-reply.reply l.pass c.in_ok-reply.given_back one i.made i.same i.number more;
      rise = entries_rise stage.version stage.backends t l.number l.yielded c.in-Some.call l.replies.items c.push-in-loop-call.new.self.items c.in_ok-reply.reply l.pass c.in_ok-reply.given_back one i.rise i.seen;
      seen = all_own stage.version stage.backends t l.number l.yielded c.in-Some.call l.replies.items c.push-in-loop-call.new.self.items c.in_ok-reply.reply l.pass c.in_ok-reply.given_back one i.seen;
    }

pub returns : goal.returns
returns g c =
    let l = c.loop-call in
    let i = l.invariant in
    let stage = c.args.stage.now in
    let left = l.call-iterator.rest in
    let none = none_left left.items (sym left.ok.0 ∙ c.in-None.ensures.steps.0) in
    let all = sym (append-nil l.yielded) ∙ ap (λ (rest : List TraceCall). l.yielded ++ rest) (sym none) ∙ i.whole in record {
      pass = i.of_table;
      number = i.same;
      made = subst (λ (calls : List TraceCall). AreCallsMade (StoreWalk stage.version stage.backends) (pass_number c.args.pass) 1 [] calls l.replies.items (pass_own l.pass)) all i.made;
      rising = rising [] (pass_own l.pass) i.rise;
    }
