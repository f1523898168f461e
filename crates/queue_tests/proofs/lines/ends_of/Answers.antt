use Rattle.std.proofs.Common.{◌≡◌, ◌+◌, ◌-◌, ◌∷◌, ◌++◌, [], length, arith, ap, sym, subst, ◌∙◌, length-append}
use Rattle.std.specs.Prelude.{All, IfSome}
use Rattle.post_core.specs.SendParts.{IsPassOf, post_senders}
use Rattle.proxy_queue.specs.Sets.{set_post}
use Rattle.queue_tests.specs.Scenes.{MaySend}
use Rattle.queue_tests.proofs.LineLemmas.{AreFirst, all_push, lines_pop, numbers, numbers_push}
use Rattle.queue_tests.proofs.lines.ends_of.Goals as goal

pub loop-line-preserved : goal.loop-line-preserved
loop-line-preserved g c =
    let inv = c.loop-line.invariant in
    let post = (set_post c.args._set.now) in
    let line = c.in-Some.line in
    let pass = c.in-Some-pass.pass in
    let left = c.pop.new.self.items in
    let before = c.loop-line.passes.items in
    let popped = lines_pop post (post_senders post) c.loop-line.lines.items left line inv.lines c.in-Some.ensures.items in
    let may : MaySend post pass line.place_use = subst (λ o. IfSome o (λ p. MaySend post p line.place_use)) c.in-Some-pass.is popped.1.1 in
    let passes_are = c.push_reserved.ensures.items ∙ ap (λ xs. xs ++ pass ∷ []) c.reserve.ensures.items in
    let count : length before + (length left + 1) ≡ post_senders post = let a = ap length c.in-Some.ensures.items in let b = inv.count in omega (arith, length-append left (line ∷ [])) in
    let number : post_senders post - 1 - length left ≡ length before = omega arith in
    record {
      lines = popped.0;
      all = subst (λ xs. All (λ p. IsPassOf post p) xs) (sym passes_are) (all_push (λ p. IsPassOf post p) before pass inv.all may.0);
      first = subst (λ xs. AreFirst (numbers post xs)) (sym passes_are) (numbers_push post before pass inv.first (sym may.1.1.of.1 ∙ (popped.1.0 ∙ number)));
      count = (let a = ap length passes_are in omega (arith, length-append before (pass ∷ [])));
    }
