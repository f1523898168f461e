use Rattle.std.proofs.Common.{◌≡◌, ◌+◌, ◌<◌, Some, length, min, slice_get, slice_index_or, w64, refl, ap, ◌∙◌, subst, sym}
use Rattle.std.proofs.lemmas.Int.{to_z-of_z}
use Rattle.std.proofs.lemmas.Option.{slice_get_read}
use Rattle.file_store.specs.FileGroups.{natural}
use Rattle.chunk_backend.specs.Chunks.{chunk_read, read_end}
use Rattle.chunk_backend.specs.Reads.{Cached, IsSetup, Seen, seen}
use Rattle.chunk_backend.proofs.ReadLemmas.{hits_are, read_is}
use Rattle.chunk_backend.proofs.chunk_files.ChunkFiles.serve.Goals as goal

pub returns-clause-read : goal.returns-clause-read
returns-clause-read g c =
    let s = g.T.ChunkStore in
    let all : Cached g.row.T.Denot → Seen = λ f. seen s.contents s.room s.failing s.asked s.faults f in
    let setup : IsSetup (all c.args.self.now).setup = subst (λ f. IsSetup (all f).setup) c.self.view_is c.self.invariant.0 in
    let has : slice_get c.self.inside.sizes.items c.args.file ≡ Some c.in-Some.size.now =
    slice_get_read c.self.inside.sizes.items (length c.self.inside.sizes.items) c.args.file c.in-Some.size.now refl
    (subst (λ xs. c.args.file < length xs) c.deref.ensures.value c.in-Some.ensures.lookup.3.0)
    (c.in-Some.ensures.lookup.1 ∙ ap (λ xs. slice_index_or xs c.args.file c.in-Some.size.now) c.deref.ensures.value) in
    let there : slice_get (all c.args.self.now).setup.sizes c.args.file ≡ Some c.in-Some.size.now =
    subst (λ (f : Cached g.row.T.Denot). slice_get f.sizes c.args.file ≡ Some c.in-Some.size.now) c.self.view_is has in
    let offset : natural c.args.offset ≡ Some c.in-Some-natural.from =
    sym (c.in-Some-natural.ensures ∙ ap natural (to_z-of_z w64 c.args.offset c.ranges.offset)) in
    let ends : c.min-end.result ≡ read_end c.in-Some.size.now c.in-Some-natural.from c.args.count =
    c.min-end.ensures ∙ ap (λ n. min c.in-Some.size.now (c.in-Some-natural.from + n)) (c.from.ensures ∙ c.min.ensures) in
    read_is (all c.args.self.now) (all c.serve_between.new.self) (chunk_read c.args.file c.args.offset c.args.count) c.in-Some.size.now c.in-Some-natural.from c.min-end.result c.serve_between.result setup there offset ends c.serve_between.ensures

pub returns-clause-hits : goal.returns-clause-hits
returns-clause-hits g c =
    let s = g.T.ChunkStore in
    let all : Cached g.row.T.Denot → Seen = λ f. seen s.contents s.room s.failing s.asked s.faults f in
    let setup : IsSetup (all c.args.self.now).setup = subst (λ f. IsSetup (all f).setup) c.self.view_is c.self.invariant.0 in
    let has : slice_get c.self.inside.sizes.items c.args.file ≡ Some c.in-Some.size.now =
    slice_get_read c.self.inside.sizes.items (length c.self.inside.sizes.items) c.args.file c.in-Some.size.now refl
    (subst (λ xs. c.args.file < length xs) c.deref.ensures.value c.in-Some.ensures.lookup.3.0)
    (c.in-Some.ensures.lookup.1 ∙ ap (λ xs. slice_index_or xs c.args.file c.in-Some.size.now) c.deref.ensures.value) in
    let there : slice_get (all c.args.self.now).setup.sizes c.args.file ≡ Some c.in-Some.size.now =
    subst (λ (f : Cached g.row.T.Denot). slice_get f.sizes c.args.file ≡ Some c.in-Some.size.now) c.self.view_is has in
    let offset : natural c.args.offset ≡ Some c.in-Some-natural.from =
    sym (c.in-Some-natural.ensures ∙ ap natural (to_z-of_z w64 c.args.offset c.ranges.offset)) in
    let ends : c.min-end.result ≡ read_end c.in-Some.size.now c.in-Some-natural.from c.args.count =
    c.min-end.ensures ∙ ap (λ n. min c.in-Some.size.now (c.in-Some-natural.from + n)) (c.from.ensures ∙ c.min.ensures) in
    hits_are (all c.args.self.now) (all c.serve_between.new.self) (chunk_read c.args.file c.args.offset c.args.count) c.in-Some.size.now c.in-Some-natural.from c.min-end.result c.serve_between.result setup there offset ends c.serve_between.ensures
