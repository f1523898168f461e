use Rattle.std.proofs.Common.{◌≡◌, false, codes, ap, sym, ◌∙◌, refl}
use Rattle.wf_core.specs.Names.{is_text}
use Rattle.trace_text.proofs.path_call.path_call.Goals as goal

pub returns : goal.returns
returns c openings =
    let word = c.args.word.now in
    let e1 : is_text word (codes "mkdir") ≡ false = ap (is_text word) (sym c.as_slice.ensures) ∙ sym c.if-eq.ensures in
    let e2 : is_text word (codes "rmdir") ≡ false = ap (is_text word) (sym c.as_slice-2.ensures) ∙ sym c.if-eq-2.ensures in
    let e3 : is_text word (codes "unlink") ≡ false = ap (is_text word) (sym c.as_slice-3.ensures) ∙ sym c.if-eq-3.ensures in
    let e4 : is_text word (codes "readlink") ≡ false = ap (is_text word) (sym c.as_slice-4.ensures) ∙ sym c.if-eq-4.ensures in
    let e5 : is_text word (codes "stat") ≡ false = ap (is_text word) (sym c.as_slice-5.ensures) ∙ sym c.if-eq-5.ensures in
    let e6 : is_text word (codes "lstat") ≡ false = ap (is_text word) (sym c.as_slice-6.ensures) ∙ sym c.if-eq-6.ensures in
    rw (e1, e2, e3, e4, e5, e6) refl
