use Rattle.std.proofs.Common.{◌≡◌, ◌++◌, ◌∙◌, length, sym, ap, rules, arith}
use Rattle.std.proofs.lemmas.List.{append-nil}
use Rattle.std.proofs.lemmas.List.Sorted.{IsNonDecreasingBy-from_sort_by_key}
use Rattle.cell_runs.specs.Runs.{flattened}
use Rattle.cell_runs.proofs.Flat.{flat_history, nil_of}
use Rattle.cell_runs.proofs.history.history_of.Goals as goal

pub returns-clause-steps : goal.returns-clause-steps
returns-clause-steps g c = let i = c.loop-record.invariant in let e = c.in-None.ensures.steps in let rest = c.loop-record.record-iterator.rest in let ok = rest.ok in let none : length rest.items ≡ 0 = omega arith in
    flat_history c.args.records.items c.loop-record.steps.items c.sort_unstable_by_key.new.self.items (sym (append-nil c.loop-record.steps.items) ∙ (ap (λ rs. c.loop-record.steps.items ++ flattened c.loop-record.cell rs) (sym (nil_of rest.items none)) ∙ i.steps)) c.sort_unstable_by_key.ensures.permutation
    (IsNonDecreasingBy-from_sort_by_key (λ k. k.entry.stamp) _ c.sort_unstable_by_key.ensures.sorted (λ a r q k. search rules))
