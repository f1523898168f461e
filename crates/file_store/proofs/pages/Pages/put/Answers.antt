use Rattle.std.proofs.Common.{◌≡◌, ◌+◌, ◌%◌, ◌<◌, ◌≤◌, ◌++◌, ℕ, List, length, sym, ap, ap₂, subst, ◌∙◌, arith}
use Rattle.std.proofs.lemmas.List.{take-append-drop}
use Rattle.file_store.specs.Pages.{byte_at, overlay_byte, AreReadyFor}
use Rattle.file_store.proofs.WriteLemmas.{piece_room, piece_written, ready_more, overlaid_append}
use Rattle.file_store.proofs.pages.Pages.put.Goals as goal

pub put_piece-requires-clause-room : goal.put_piece-requires-clause-room
put_piece-requires-clause-room c =
    let piece = c.split_at.result.0.now in
    let others = c.split_at.result.1.now in
    let split : piece ++ others ≡ c.loop-rest.rest.now = ap₂ (λ (xs ys : List ℕ). xs ++ ys) c.split_at.ensures.front c.split_at.ensures.back ∙ take-append-drop c.piece_size.result c.loop-rest.rest.now in
    let fits : c.loop-rest.at % 4096 + length piece ≤ 4096 = omega (arith, c.piece_size.ensures.one_page, c.split_at.ensures.front_len) in
    piece_room c.loop-rest.self c.loop-rest.at piece others fits (subst (λ (r : List ℕ). AreReadyFor c.loop-rest.self c.loop-rest.at r) (sym split) c.loop-rest.invariant.ready)

pub loop-rest-preserved : goal.loop-rest-preserved
loop-rest-preserved c =
    let piece = c.split_at.result.0.now in
    let others = c.split_at.result.1.now in
    let old = c.loop-rest.self in
    let new = c.put_piece.new.self in
    let at = c.loop-rest.at in
    let split : piece ++ others ≡ c.loop-rest.rest.now = ap₂ (λ (xs ys : List ℕ). xs ++ ys) c.split_at.ensures.front c.split_at.ensures.back ∙ take-append-drop c.piece_size.result c.loop-rest.rest.now in
    let fits : at % 4096 + length piece ≤ 4096 = omega (arith, c.piece_size.ensures.one_page, c.split_at.ensures.front_len) in
    let next : 0 < length others → at % 4096 + length piece ≡ 4096 = λ some. omega (arith, c.piece_size.ensures.next (omega (arith, c.split_at.ensures.back_len)), c.split_at.ensures.front_len) in
    let ready = subst (λ (r : List ℕ). AreReadyFor old at r) (sym split) c.loop-rest.invariant.ready in
    let put = c.put_piece.ensures in
    record {
      fits = omega (arith, c.loop-rest.invariant.fits, c.split_at.ensures.front_len, c.split_at.ensures.back_len);
      ready = ready_more old new at piece put.whole fits put.others put.written others next put.tight ready;
      all = λ i. overlaid_append (byte_at old) (byte_at new) at piece others (piece_written old new at piece put.whole fits put.others put.written) i ∙ ap (λ (r : List ℕ). overlay_byte (byte_at old) at r i) split ∙ c.loop-rest.invariant.all i;
    }
