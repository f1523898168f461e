use Rattle.std.proofs.Common.{◌≡◌, Some, length, slice_get, refl, ◌∙◌, sym, rules}
use Rattle.std.proofs.lemmas.Option.{slice_get_read}
use Rattle.file_store.specs.FileGroups.{natural}
use Rattle.chunk_backend.specs.Chunks.{count_needs}
use Rattle.chunk_backend.proofs.RunLemmas.{needs_long, needs_none}
use Rattle.chunk_backend.proofs.chunks_text.needs_of.Goals as goal

pub returns-in-Some : goal.returns-in-Some
returns-in-Some c =
    let counted : c.count_needs.result ≡ count_needs c.args.chunk c.in-Some.size.now c.args.read.now.count (natural c.args.read.now.offset) = search rules in
    let has : slice_get c.args.sizes.now c.args.read.now.file ≡ Some c.in-Some.size.now =
    slice_get_read c.args.sizes.now (length c.args.sizes.now) c.args.read.now.file c.in-Some.size.now refl c.in-Some.ensures.lookup.3.0 c.in-Some.ensures.lookup.1 in
    counted ∙ sym (needs_long c.args.chunk c.in-Some.size.now c.args.sizes.now c.args.read.now has)

pub returns-in-None : goal.returns-in-None
returns-in-None c = needs_none c.args.chunk c.args.sizes.now c.args.read.now c.in-None.ensures.lookup.3
