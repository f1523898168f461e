use Rattle.std.proofs.Common.{ℕ, List, length, not, ◌==◌, rules, tests}
use Rattle.std.proofs.lemmas.Iterator.Consumers.{map_from_collect, YieldsList-from_filter}
use Rattle.std.proofs.lemmas.Iterator.Splits.{YieldsList-from_slice_split}
use Rattle.wf_core.specs.Names.{is_slash}
use Rattle.path_walk.proofs.part.components_of.Goals as goal

pub returns : goal.returns
returns c = map_from_collect _ c.collect.ensures.ran
    (YieldsList-from_filter {s = c.filter.result} _ (λ (piece : List ℕ). not (length piece == 0))
    (YieldsList-from_slice_split _ is_slash c.args.path.now (cc) (cc) (cc) (λ x b q k. search (rules, tests)))
    c.filter.ensures.closure (λ x b q k. search (rules, tests)))
