use Rattle.std.proofs.Common.{Some, ◌≡◌, ◌+◌, ◌-◌, ◌∷◌, ◌++◌, [], length, arith, ap, sym, subst, ◌∙◌, length-append}
use Rattle.std.specs.Prelude.{All, IfSome}
use Rattle.post_core.specs.SendParts.{pass_view, post_senders}
use Rattle.proxy_queue.specs.Sets.{set_post}
use Rattle.queue_tests.specs.declared.parts.Line.{Line}
use Rattle.queue_tests.specs.Scenes.{HasSentNone, MayAllSend}
use Rattle.queue_tests.proofs.LineLemmas.{AreFirst, all_pop, all_push, lines_more, numbers, numbers_pop, one_longer, split_both}
use Rattle.queue_tests.proofs.lines.lines.Goals as goal

pub loop-pass-preserved : goal.loop-pass-preserved
loop-pass-preserved g c =
    let inv = c.loop-pass.invariant in
    let post = (set_post c.args.set.now) in
    let pass = c.in-Some.pass in
    let ps = c.pop.new.self.items in
    let passes_are = c.in-Some.ensures.items in
    let uses_are = c.in-Some-pop.ensures.items in
    let split = split_both post ps c.pop-in-Some.new.self.items pass c.in-Some-pop.place_use (subst (λ us. MayAllSend post (ps ++ pass ∷ []) us) uses_are (subst (λ xs. MayAllSend post xs c.loop-pass.system.items) passes_are inv.senders)) in
    let first = numbers_pop post ps pass (subst (λ xs. AreFirst (numbers post xs)) passes_are inv.first) in
    let count : length ps + 1 + length c.loop-pass.lines.items ≡ post_senders post = let a = ap length passes_are in let b = inv.count in omega (arith, length-append ps (pass ∷ [])) in
    let number : length ps ≡ post_senders post - 1 - length c.loop-pass.lines.items = omega arith in
    let none = all_pop (λ p. HasSentNone (pass_view p)) c.loop-pass.passes.items ps pass inv.left passes_are in
    let line : Line = record { place_use = c.in-Some-pop.place_use; pass = Some pass; did = record { sent = 0; busy = 0; closed = 0; sends = 0 } } in
    let lines_are = c.push_reserved.ensures.items ∙ ap (λ xs. xs ++ line ∷ []) c.reserve.ensures.items in
    record {
      senders = split.0;
      first = first.0;
      count = (let more = one_longer c.push_reserved.new.self.items c.reserve.new.self.items line c.push_reserved.ensures.items in let same = ap length c.reserve.ensures.items in omega arith);
      lines = lines_more post (post_senders post) c.loop-pass.lines.items c.reserve.new.self.items c.push_reserved.new.self.items line inv.lines c.reserve.ensures.items c.push_reserved.ensures.items
          (split.1.1.1.of.1 ∙ (first.1 ∙ number), split.1);
      left = none.0;
      fresh = subst (All (λ line. IfSome line.pass (λ p. HasSentNone (pass_view p)))) (sym lines_are) (all_push (λ (line : Line). IfSome line.pass (λ p. HasSentNone (pass_view p))) c.loop-pass.lines.items line inv.fresh none.1);
    }
