use Rattle.std.proofs.Common.{◌≡◌, ◌+◌, ◌-◌, ◌/◌, ◌%◌, ◌<◌, ◌≤◌, ℕ, List, IsSome, length, drop, get_or, sym, ap, subst, ◌∙◌, inl, inr, arith}
use Rattle.std.proofs.lemmas.Bool.{cases_lt}
use Rattle.std.proofs.lemmas.List.{drop-drop}
use Rattle.file_store.specs.FileBytes.{all_zero}
use Rattle.file_store.specs.Pages.{kept_page}
use Rattle.file_store.proofs.WriteLemmas.{nonzero_place, piece_at, not_all_zero}
use Rattle.file_store.proofs.pages.Pages.reserve.Goals as goal

pub loop-rest-preserved : goal.loop-rest-preserved
loop-rest-preserved c =
    let piece = c.split_at.result.0.now in
    let others = c.split_at.result.1.now in
    let bytes = c.args.bytes.now in
    let new = c.reserve_page.new.self in
    let at = c.loop-rest.at in
    let offset = c.args.offset in
    let before = c.loop-rest.invariant in
    let reserved = c.reserve_page.ensures in
    let count = c.piece_size.result in
    let size : length piece ≡ count = c.split_at.ensures.front_len in
    let one_page : at % 4096 + count ≤ 4096 = c.piece_size.ensures.one_page in
    let from : offset ≤ at = before.from in
    let fits : at + length c.loop-rest.rest.now ≡ offset + length bytes = before.fits in
    let within : count ≤ length c.loop-rest.rest.now = c.piece_size.ensures.within in
    let skipped : at - offset + count ≡ at + length piece - offset = omega arith in
    record {
      fits = omega (arith, c.split_at.ensures.back_len);
      from = omega arith;
      left = c.split_at.ensures.back ∙ ap (λ (xs : List ℕ). drop count xs) before.left ∙ drop-drop count (at - offset) bytes ∙ ap (λ (n : ℕ). drop n bytes) skipped;
      same = λ i. ap (λ (p : List ℕ). get_or p (i % 4096) 0) (reserved.same (i / 4096)) ∙ before.same i;
      room = λ place low other.
          elim (cases_lt place (at - offset)) [
            | inl done ↦ reserved.stays ((offset + place) / 4096) (before.room place done other)
            | inr here ↦
                let j : ℕ = place - (at - offset) in
                let in_piece : j < count = omega arith in
                let sum : at - offset + j ≡ place = omega arith in
                let read = piece_at bytes c.loop-rest.rest.now piece (at - offset) count j before.left c.split_at.ensures.front in_piece ∙ ap (λ (n : ℕ). get_or bytes n 0) sum in
                let page : at / 4096 ≡ (offset + place) / 4096 = omega arith in
                subst (λ (k : ℕ). IsSome (kept_page new k)) page (c.in_ok-reserve_page.ensures.room (not_all_zero piece j (λ e. other (sym read ∙ e))))
          ];
      tight = λ tight page kept zeros.
          elim (reserved.added page kept) [
            | inl was ↦ before.tight tight page was (ap all_zero (sym (reserved.same page)) ∙ zeros)
            | inr added ↦
                let found = nonzero_place piece added.1 in
                let low : found.0 < count = omega (arith, found.1) in
                let read = piece_at bytes c.loop-rest.rest.now piece (at - offset) count found.0 before.left c.split_at.ensures.front low in
                let sum : offset + (at - offset + found.0) ≡ at + found.0 = omega arith in
                let inside : at - offset + found.0 < length bytes = omega arith in
                let page_is : (offset + (at - offset + found.0)) / 4096 ≡ page = ap (λ (n : ℕ). n / 4096) sum ∙ omega (arith, added.0) in
                (at - offset + found.0, inside, page_is, λ e. found.2 (read ∙ e))
          ];
    }
