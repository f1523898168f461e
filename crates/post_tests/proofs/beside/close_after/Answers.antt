use Rattle.std.proofs.Common.{◌∷◌, ◌++◌, [], ap, sym, subst, ◌∙◌}
use Rattle.post_tests.specs.Scenes.{AreAllPasses}
use Rattle.post_tests.proofs.Lines.{all_with}
use Rattle.post_tests.proofs.beside.close_after.Goals as goal

pub returns-clause-passes : goal.returns-clause-passes
returns-clause-passes g c =
    let own = c.cancel_all-emptied.result.1 in
    subst (AreAllPasses c.args.post.now) (sym (c.push_reserved.ensures.items ∙ ap (λ xs. xs ++ own ∷ []) c.reserve.ensures.items))
    (all_with c.args.post.now c.args.passes.items c.pop.new.self.items c.in-Some.own own c.requires.passes c.in-Some.ensures.items c.cancel_all-emptied.ensures.pass.0 c.cancel_all-emptied.ensures.pass.1)
