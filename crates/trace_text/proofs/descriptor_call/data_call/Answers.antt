use Rattle.std.proofs.Common.{◌≡◌, false, codes, ap, sym, ◌∙◌, refl}
use Rattle.wf_core.specs.Names.{is_text}
use Rattle.trace_text.proofs.descriptor_call.data_call.Goals as goal

pub returns : goal.returns
returns c =
    let word = c.args.word.now in
    let e1 : is_text word (codes "read") ≡ false = ap (is_text word) (sym c.as_slice.ensures) ∙ sym c.if-eq.ensures in
    let e2 : is_text word (codes "pread") ≡ false = ap (is_text word) (sym c.as_slice-2.ensures) ∙ sym c.if-eq-2.ensures in
    let e3 : is_text word (codes "write") ≡ false = ap (is_text word) (sym c.as_slice-3.ensures) ∙ sym c.if-eq-3.ensures in
    let e4 : is_text word (codes "pwrite") ≡ false = ap (is_text word) (sym c.as_slice-4.ensures) ∙ sym c.if-eq-4.ensures in
    let e5 : is_text word (codes "seek") ≡ false = ap (is_text word) (sym c.as_slice-5.ensures) ∙ sym c.if-eq-5.ensures in
    rw (e1, e2, e3, e4, e5) refl
