use Rattle.std.proofs.Common.{◌≡◌, ◌+◌, ◌-◌, ◌*◌, ◌/◌, Err, Bool, true, false, cond, min, refl, ap, ◌∙◌, subst, sym}
use mir.Val.{bool_byte}
use Rattle.std.proofs.lemmas.Result.{err_from_is_err_and}
use Rattle.chunk_backend.specs.Chunks.{chunk_id}
use Rattle.chunk_backend.specs.Reads.{Cached, Seen, seen}
use Rattle.chunk_backend.specs.Steps.{AppendsPart, Collects}
use Rattle.chunk_backend.proofs.Collecting.{Collecting, collecting_next, collects_fault}
use Rattle.chunk_backend.proofs.chunk_files.ChunkFiles.collect.Goals as goal

as_number : (listed : Bool) → bool_byte listed ≡ cond listed 1 0
as_number listed = elim listed as (λ b. bool_byte b ≡ cond b 1 0) [
  | true ↦ refl
  | false ↦ refl
]

pub returns-in_err-listed : goal.returns-in_err-listed
returns-in_err-listed g c =
    let s = g.T.ChunkStore in
    let all : Cached g.row.T.Denot → Seen = λ f. seen s.contents s.room s.failing s.asked s.faults f in
    let first : Seen = all (record { store = c.self.inside.store; sizes = c.self.inside.sizes.items; chunk = c.self.inside.chunk; limit = c.self.inside.cache.cap; cache = c.self.inside.cache.entries }) in
    let now = all c.loop-at.self in
    let so_far : Collecting first now c.args.file c.args.from c.args.end c.loop-at.at c.loop-at.bytes.items c.loop-at.hits =
    subst (λ f. Collecting (all f) now c.args.file c.args.from c.args.end c.loop-at.at c.loop-at.bytes.items c.loop-at.hits) (sym c.self.view_is) c.loop-at.invariant.so_far in
    let takes = c.in_err-listed.ensures.taken in
    let after = all c.append_part.new.self in
    let collects = collects_fault first now after c.args.file c.args.from c.args.end c.loop-at.at c.loop-at.bytes.items c.append_part.new.bytes.items c.loop-at.hits c.self.invariant.0.chunk.0 c.loop-at-test.true so_far c.in_err-listed.field-0.0 takes in
    let is = err_from_is_err_and c.from_residual.result c.from_residual.ensures.1 in
    subst (λ f. Collects (all f) c.args.file c.args.from c.args.end c.from_residual.result c.append_part.new.bytes.items c.loop-at.hits after) c.self.view_is
    (subst (λ r. Collects first c.args.file c.args.from c.args.end r c.append_part.new.bytes.items c.loop-at.hits after) (sym (is.1 ∙ ap (λ fault. Err fault) is.2)) collects)

pub loop-at-preserved : goal.loop-at-preserved
loop-at-preserved g c =
    let s = g.T.ChunkStore in
    let all : Cached g.row.T.Denot → Seen = λ f. seen s.contents s.room s.failing s.asked s.faults f in
    let first : Seen = all (record { store = c.self.inside.store; sizes = c.self.inside.sizes.items; chunk = c.self.inside.chunk; limit = c.self.inside.cache.cap; cache = c.self.inside.cache.entries }) in
    let now = all c.loop-at.self in
    let so_far : Collecting first now c.args.file c.args.from c.args.end c.loop-at.at c.loop-at.bytes.items c.loop-at.hits =
    subst (λ f. Collecting (all f) now c.args.file c.args.from c.args.end c.loop-at.at c.loop-at.bytes.items c.loop-at.hits) (sym c.self.view_is) c.loop-at.invariant.so_far in
    let next = all c.append_part.new.self in
    let number = c.loop-at.at / c.self.inside.chunk in
    let start = number * c.self.inside.chunk in
    let appended : AppendsPart first.setup (chunk_id c.args.file number) (c.loop-at.at - start) (min c.args.end (start + c.self.inside.chunk) - start) c.loop-at.bytes.items c.append_part.new.bytes.items =
    subst (λ stop. AppendsPart first.setup (chunk_id c.args.file number) (c.loop-at.at - start) (stop - start) c.loop-at.bytes.items c.append_part.new.bytes.items) c.min-stop.ensures
    (subst (λ setup. AppendsPart setup (chunk_id c.args.file number) (c.loop-at.at - start) (c.min-stop.result - start) c.loop-at.bytes.items c.append_part.new.bytes.items) so_far.same c.in_ok-listed.ensures.bytes) in
    let counted : c.loop-at.hits + c.from.result ≡ c.loop-at.hits + (cond c.in_ok-listed.listed 1 0) =
    ap (λ n. c.loop-at.hits + n) (c.from.ensures ∙ as_number c.in_ok-listed.listed) in
    let on = collecting_next first now next c.args.file c.args.from c.args.end c.loop-at.at c.loop-at.bytes.items c.append_part.new.bytes.items c.loop-at.hits c.self.invariant.0.chunk.0 c.loop-at-test.true so_far
    c.in_ok-listed.listed (c.loop-at.hits + c.from.result) c.in_ok-listed.ensures.taken appended counted in
    record {
      chunk = c.loop-at.invariant.chunk;
      so_far = subst (λ f. Collecting (all f) next c.args.file c.args.from c.args.end c.min-stop.result c.append_part.new.bytes.items (c.loop-at.hits + c.from.result)) c.self.view_is
          (subst (λ stop. Collecting first next c.args.file c.args.from c.args.end stop c.append_part.new.bytes.items (c.loop-at.hits + c.from.result)) (sym c.min-stop.ensures) on);
    }
