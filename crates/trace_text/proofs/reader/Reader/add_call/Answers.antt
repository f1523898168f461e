use Rattle.std.proofs.Common.{rules, ◌≡◌, ◌∷◌, ◌++◌, [], ◌+◌, ◌<◌, length, set, get_or, List, Bool, refl, sym, subst, ap, ◌∙◌}
use Rattle.wf_core.specs.Limits.{calls_max}
use Rattle.trace_text.specs.declared.trace.CallLine.{CallLine}
use Rattle.trace_text.specs.Openings.{AreOpenings}
use Rattle.trace_text.specs.Traces.{Traced, traced}
use Rattle.trace_text.proofs.Opened.{counts_more, openings_more}
use Rattle.trace_text.proofs.reader.Reader.add_call.Goals as goal

pub invariant_of-self-2 : goal.invariant_of-self-2
invariant_of-self-2 c =
    let line : CallLine = record { thread = c.args.thread; number = get_or c.self.inside.counts c.args.thread 0 + 1; call = c.args.call } in
    let calls : c.push_line.new.calls.items ≡ c.self.inside.trace.calls.items ++ line ∷ [] = c.push_line.ensures ∙ ap (λ (old : List CallLine). old ++ line ∷ []) c.in_ok-reserve.ensures.items in (
      counts_more (traced c.self.inside.trace) _ line c.self.inside.counts refl calls c.requires.thread (search rules) (subst (λ (old : Traced). length old.calls < calls_max) (sym c.self.view_is) c.requires.room) c.self.invariant.0,
      subst (λ (lines : List CallLine). AreOpenings lines c.push.new.self) (sym calls)
          (subst (λ (openings : List (List Bool)). AreOpenings (c.self.inside.trace.calls.items ++ line ∷ []) openings) (sym (c.in_ok-push.ensures.ok ∙ ap (λ (opening : Bool). set c.self.inside.openings c.args.thread (get_or c.self.inside.openings c.args.thread [] ++ opening ∷ [])) c.is_opening.ensures))
          (openings_more c.self.inside.trace.calls.items line c.self.inside.openings c.requires.thread c.self.invariant.1)),
    )
