use Rattle.std.proofs.Common.{not, rules, tests, ◌∙◌}
use Rattle.std.proofs.lemmas.Iterator.Search.{any_from_yields_List}
use Rattle.std.proofs.lemmas.Iterator.{YieldsList-from_slice}
use Rattle.wf_core.specs.Names.{is_slash}
use Rattle.path_walk.proofs.PathsLemmas.{some_component}
use Rattle.path_walk.proofs.route.has_component.Goals as goal

pub returns : goal.returns
returns c =
    any_from_yields_List (λ b. not (is_slash b)) _ _ _ c.any.ensures.ran (YieldsList-from_slice c.args.path.now (cc)) (λ x b q k. search (rules, tests))
    ∙ some_component c.args.path.now
