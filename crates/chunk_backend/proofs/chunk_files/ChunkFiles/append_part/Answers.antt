use Rattle.std.proofs.Common.{◌≤◌, OnOk, refl, subst, sym}
use Rattle.chunk_backend.specs.Chunks.{chunk_size}
use Rattle.chunk_backend.specs.Reads.{Cached, IsSetup, Seen, seen}
use Rattle.chunk_backend.specs.Steps.{AppendsPart, IsWithin, Takes, cache_and_bytes}
use Rattle.chunk_backend.proofs.PartLemmas.{Moves, appends, is_part, part_is, same_cache, same_setup, takes}
use Rattle.chunk_backend.proofs.chunk_files.ChunkFiles.append_part.Goals as goal

pub append_part-requires-clause-part : goal.append_part-requires-clause-part
append_part-requires-clause-part g c =
    let s = g.T.ChunkStore in
    let all : Cached g.row.T.Denot → Seen = λ f. seen s.contents s.room s.failing s.asked s.faults f in
    let old : Seen = all (record { store = c.self.inside.store; sizes = c.self.inside.sizes.items; chunk = c.self.inside.chunk; limit = c.self.inside.cache.cap; cache = c.self.inside.cache.entries }) in
    let within : IsWithin old.setup c.args.id = subst (λ f. IsWithin (all f).setup c.args.id) (sym c.self.view_is) c.requires.within in
    let bounds : (c.args.from ≤ c.args.to) × (c.args.to ≤ chunk_size old.setup.chunk old.setup.sizes c.args.id) =
    subst (λ (f : Cached g.row.T.Denot). (c.args.from ≤ c.args.to) × (c.args.to ≤ chunk_size f.chunk f.sizes c.args.id)) (sym c.self.view_is) c.requires.part in
    let of = part_is old.setup c.args.id _ _ _ _ within bounds c.index-size.ensures c.min.ensures in
    is_part old.setup c.self.inside.cache _ c.self.invariant.1 of

pub invariant_of-self : goal.invariant_of-self
invariant_of-self g c =
    let s = g.T.ChunkStore in
    let all : Cached g.row.T.Denot → Seen = λ f. seen s.contents s.room s.failing s.asked s.faults f in
    let old : Seen = all (record { store = c.self.inside.store; sizes = c.self.inside.sizes.items; chunk = c.self.inside.chunk; limit = c.self.inside.cache.cap; cache = c.self.inside.cache.entries }) in
    let within : IsWithin old.setup c.args.id = subst (λ f. IsWithin (all f).setup c.args.id) (sym c.self.view_is) c.requires.within in
    let bounds : (c.args.from ≤ c.args.to) × (c.args.to ≤ chunk_size old.setup.chunk old.setup.sizes c.args.id) =
    subst (λ (f : Cached g.row.T.Denot). (c.args.from ≤ c.args.to) × (c.args.to ≤ chunk_size f.chunk f.sizes c.args.id)) (sym c.self.view_is) c.requires.part in
    let of = part_is old.setup c.args.id _ _ _ _ within bounds c.index-size.ensures c.min.ensures in
    let new : Seen = all (record { store = c.append_part.new.store; sizes = c.self.inside.sizes.items; chunk = c.self.inside.chunk; limit = c.append_part.new.cache.cap; cache = c.append_part.new.cache.entries }) in
    let done = c.append_part.ensures in
    let before = cache_and_bytes c.self.inside.cache c.args.bytes.now.items in
    let after = cache_and_bytes c.append_part.new.cache c.append_part.new.bytes.items in
    let moves : Moves old new before.cache after.cache = record {
      contents = done.contents;
      room = done.room;
      failing = done.failing;
      sizes = refl;
      chunk = refl;
      limit_before = refl;
      limit_after = refl;
      was = refl;
      is = refl;
    } in
    (subst IsSetup (sym (same_setup old new before after _ c.append_part.result moves c.self.invariant.0 c.self.invariant.1 of done.taken)) c.self.invariant.0, same_cache old new before after _ c.append_part.result moves c.self.invariant.0 c.self.invariant.1 of done.taken)

pub returns-clause-taken : goal.returns-clause-taken
returns-clause-taken g c =
    let s = g.T.ChunkStore in
    let all : Cached g.row.T.Denot → Seen = λ f. seen s.contents s.room s.failing s.asked s.faults f in
    let old : Seen = all (record { store = c.self.inside.store; sizes = c.self.inside.sizes.items; chunk = c.self.inside.chunk; limit = c.self.inside.cache.cap; cache = c.self.inside.cache.entries }) in
    let within : IsWithin old.setup c.args.id = subst (λ f. IsWithin (all f).setup c.args.id) (sym c.self.view_is) c.requires.within in
    let bounds : (c.args.from ≤ c.args.to) × (c.args.to ≤ chunk_size old.setup.chunk old.setup.sizes c.args.id) =
    subst (λ (f : Cached g.row.T.Denot). (c.args.from ≤ c.args.to) × (c.args.to ≤ chunk_size f.chunk f.sizes c.args.id)) (sym c.self.view_is) c.requires.part in
    let of = part_is old.setup c.args.id _ _ _ _ within bounds c.index-size.ensures c.min.ensures in
    let new : Seen = all (record { store = c.append_part.new.store; sizes = c.self.inside.sizes.items; chunk = c.self.inside.chunk; limit = c.append_part.new.cache.cap; cache = c.append_part.new.cache.entries }) in
    let done = c.append_part.ensures in
    let before = cache_and_bytes c.self.inside.cache c.args.bytes.now.items in
    let after = cache_and_bytes c.append_part.new.cache c.append_part.new.bytes.items in
    let moves : Moves old new before.cache after.cache = record {
      contents = done.contents;
      room = done.room;
      failing = done.failing;
      sizes = refl;
      chunk = refl;
      limit_before = refl;
      limit_after = refl;
      was = refl;
      is = refl;
    } in
    subst (λ f. Takes (all f) c.args.id c.append_part.result new) c.self.view_is (takes old new before after _ c.append_part.result moves c.self.invariant.0 c.self.invariant.1 of done.taken done.fault done.later done.asked)

pub returns-clause-bytes : goal.returns-clause-bytes
returns-clause-bytes g c =
    let s = g.T.ChunkStore in
    let all : Cached g.row.T.Denot → Seen = λ f. seen s.contents s.room s.failing s.asked s.faults f in
    let old : Seen = all (record { store = c.self.inside.store; sizes = c.self.inside.sizes.items; chunk = c.self.inside.chunk; limit = c.self.inside.cache.cap; cache = c.self.inside.cache.entries }) in
    let within : IsWithin old.setup c.args.id = subst (λ f. IsWithin (all f).setup c.args.id) (sym c.self.view_is) c.requires.within in
    let bounds : (c.args.from ≤ c.args.to) × (c.args.to ≤ chunk_size old.setup.chunk old.setup.sizes c.args.id) =
    subst (λ (f : Cached g.row.T.Denot). (c.args.from ≤ c.args.to) × (c.args.to ≤ chunk_size f.chunk f.sizes c.args.id)) (sym c.self.view_is) c.requires.part in
    let of = part_is old.setup c.args.id _ _ _ _ within bounds c.index-size.ensures c.min.ensures in
    let new : Seen = all (record { store = c.append_part.new.store; sizes = c.self.inside.sizes.items; chunk = c.self.inside.chunk; limit = c.append_part.new.cache.cap; cache = c.append_part.new.cache.entries }) in
    let done = c.append_part.ensures in
    let before = cache_and_bytes c.self.inside.cache c.args.bytes.now.items in
    let after = cache_and_bytes c.append_part.new.cache c.append_part.new.bytes.items in
    let moves : Moves old new before.cache after.cache = record {
      contents = done.contents;
      room = done.room;
      failing = done.failing;
      sizes = refl;
      chunk = refl;
      limit_before = refl;
      limit_after = refl;
      was = refl;
      is = refl;
    } in
    subst (λ f. OnOk c.append_part.result (AppendsPart (all f).setup c.args.id c.args.from c.args.to before.bytes after.bytes)) c.self.view_is
    (appends old new before after _ c.append_part.result moves c.self.invariant.0 c.self.invariant.1 of done.taken c.append_part.result done.taken)
