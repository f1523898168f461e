use Rattle.std.proofs.Common.{◌≡◌, ℕ, ◌+◌, ◌-◌, ◌≤◌, List, length, take, drop, sym, ◌∙◌, ap, arith, length-drop, length-append}
use Rattle.std.proofs.lemmas.List.{drop_all, length-take, length-take-le}
use Rattle.wf_core.proofs.KnownBytes.{gives}
use Rattle.wf_core.specs.Memory.{Reading}
use Rattle.wf_core.proofs.source.MemSourceSource.read.Goals as goal

pub returns-clause-bytes : goal.returns-clause-bytes
returns-clause-bytes c =
    let n : ℕ = c.min-count.result in
    let at : ℕ = c.self.inside.at in
    let text : List ℕ = c.self.inside.bytes.items in
    let same : length text ≡ length c.deref-2.result.now = ap length (sym c.deref-2.ensures.value) in
    let fits : n ≤ length (drop at text) = grind (arith, length-drop, same, c.deref-2.ensures.len, c.min-count.ensures) in
    let shifts : at + n - at ≡ n = omega arith in
    let got : c.copy_from_slice.new.self ≡ take n (drop at text) = c.copy_from_slice.ensures.after ∙ ap (λ bs. take (at + n - at) (drop at bs)) c.deref-2.ensures.value ∙ ap (λ (k : ℕ). take k (drop at text)) shifts in (
      sym (ap (λ (r : Reading). r.left) c.self.view_is) ∙ gives text _ _ at n got (sym (ap length got ∙ length-take-le n (drop at text) fits)),
      λ none room. drop_all (at + n) text (grind (arith, none, room, same, length-append, length-take, length-drop, c.deref-2.ensures.len, c.copy_from_slice.ensures.len, c.len.ensures, c.min.ensures, c.min-count.ensures, c.self.invariant)),
    )
