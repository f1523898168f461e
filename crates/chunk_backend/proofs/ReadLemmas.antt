-- What a read by chunks promises, from what its chunks came to.
use Rattle.std.proofs.Common.{◌≡◌, ℕ, ◌+◌, ◌-◌, ◌<◌, min, List, [], length, take, drop, map, slice_get, Option, None, Some, IfSome, refl, sym, ap, ◌∙◌, subst, arith}
use Rattle.std.proofs.lemmas.List.{length-drop, length-map, take_min}
use Rattle.std.proofs.lemmas.Option.{get_or_from_slice_get, slice_get-get_or, slice_get_within}
use Rattle.wf_core.specs.Limits.{read_max}
use Rattle.file_store.specs.FileBytes.{part}
use Rattle.file_store.specs.FileGroups.{natural, readat_answer_from}
use Rattle.chunk_backend.specs.declared.chunk.ChunkRead.{ChunkRead}
use Rattle.chunk_backend.specs.declared.chunk.ChunkId.{ChunkId}
use Rattle.chunk_backend.specs.declared.chunk_answer.Served.{Served}
use Rattle.chunk_backend.specs.declared.chunk_answer.ChunkAnswer.{ChunkAnswer}
use Rattle.chunk_backend.specs.declared.chunk_answer.ChunkAnswer.TheVariants.{Bytes, NoFile, Negative, Fault, NoMemory}
use Rattle.chunk_backend.specs.Chunks.{bytes_of, chunks_between, needs, needs_of, read_end, size_of}
use Rattle.chunk_backend.specs.CacheFold.{answer_of, read_outcome, take_chunks, whole_answer, whole_answer_from, whole_file}
use Rattle.chunk_backend.specs.Reads.{CameTo, HasRoom, IfBytes, IsReadAt, IsSetup, Seen, rules_of, state_of}
use Rattle.chunk_backend.specs.Steps.{CountsHits, ServesBetween}
use Rattle.chunk_backend.proofs.PartLemmas.{size_is}

on_bytes : (answer : ChunkAnswer) (P Q : List ℕ → Type 0) → ((bytes : List ℕ) → answer ≡ Bytes bytes → P bytes → Q bytes) → IfBytes answer P → IfBytes answer Q
on_bytes (Bytes bytes) P Q on p = on bytes refl p
on_bytes NoFile P Q on p = tt
on_bytes Negative P Q on p = tt
on_bytes Fault P Q on p = tt
on_bytes NoMemory P Q on p = tt

-- as many bytes as there are, and no more than were asked for
part_min : (bytes : List ℕ) (from more : ℕ) → part bytes from (min (length bytes) (from + more) - from) ≡ part bytes from more
part_min bytes from more =
    let rest = drop from bytes in
    let size : min (length bytes) (from + more) - from ≡ min more (length rest) = (let l = length-drop from bytes in omega arith) in
    ap (λ n. take n rest) size ∙ take_min more rest

module _ (old new : Seen) (read : ChunkRead) (size from end : ℕ) (served : Served) (setup : IsSetup old.setup)
    (has : slice_get old.setup.sizes read.file ≡ Some size) (offset : natural read.offset ≡ Some from) (ends : end ≡ read_end size from read.count)
    (serves : ServesBetween old read.file from end served new) where
  needs_is : needs old.setup.chunk old.setup.sizes read ≡ chunks_between old.setup.chunk read.file from end
  needs_is = ap (λ s. needs_of old.setup.chunk read s (natural read.offset)) has ∙ ap (needs_of old.setup.chunk read (Some size)) offset
      ∙ ap (chunks_between old.setup.chunk read.file from) (sym ends)

  whole_is : (files : List (List ℕ)) (bytes : List ℕ) → old.setup.sizes ≡ map length files → bytes ≡ part (bytes_of files read.file) from (end - from) → whole_answer files read ≡ Bytes bytes
  whole_is files bytes sizes given =
      let within = slice_get_within old.setup.sizes read.file size has in
      let all = bytes_of files read.file in
      let long : size ≡ length all = sym (get_or_from_slice_get old.setup.sizes read.file size 0 has) ∙ size_is files old.setup.sizes read.file sizes within in
      let file : read.file < length files = (let e = ap length sizes in let l = length-map files (λ (b : List ℕ). length b) in omega arith) in
      ap (whole_answer_from read) (slice_get-get_or files read.file [] file)
      ∙ ap (λ o. answer_of (readat_answer_from (whole_file all) read.count o)) offset
      ∙ ap Bytes (sym (given ∙ ap (λ e. part all from (e - from)) (ends ∙ ap (λ n. read_end n from read.count) long) ∙ part_min all from (min read.count read_max)))

  wholes : (contents : Option (List (List ℕ))) → IfSome contents (λ files. old.setup.sizes ≡ map length files)
      → (bytes : List ℕ) → served.answer ≡ Bytes bytes → IfSome contents (λ files. bytes ≡ part (bytes_of files read.file) from (end - from))
      → IfSome contents (λ files. whole_answer files read ≡ served.answer)
  wholes None sizes bytes is given = tt
  wholes (Some files) sizes bytes is given = whole_is files bytes sizes given ∙ sym is

  abbrev Counts : Option ℕ → List ℕ → Type 0
  Counts o bytes = IfSome o (λ offset. length bytes ≡ read_end (size_of old.setup.sizes read.file) offset read.count - offset)

  counts : (bytes : List ℕ) → length bytes ≡ end - from → Counts (natural read.offset) bytes
  counts bytes count = subst (λ o. Counts o bytes) (sym offset)
      (count ∙ ap (λ e. e - from) (ends ∙ ap (λ n. read_end n from read.count) (sym (get_or_from_slice_get old.setup.sizes read.file size 0 has))))

  abbrev Room : List ChunkId → Type 0
  Room ids = HasRoom old.setup.room (length old.asked + length ids)

  folds : (failing : Option (List ℕ)) → IfSome failing (λ failing. let ids = chunks_between old.setup.chunk read.file from end in Room ids
      → let outcome = take_chunks (rules_of old.setup failing) (state_of old) 0 ids in CameTo outcome served.answer (state_of new) × (outcome.hits ≡ served.hits))
      → IfSome failing (λ failing. Room (needs old.setup.chunk old.setup.sizes read)
      → let outcome = read_outcome (rules_of old.setup failing) old.setup.sizes (state_of old) read in CameTo outcome served.answer (state_of new) × (outcome.hits ≡ served.hits))
  folds None taken = tt
  folds (Some failing) taken = subst (λ ids. Room ids
      → let outcome = take_chunks (rules_of old.setup failing) (state_of old) 0 ids in CameTo outcome served.answer (state_of new) × (outcome.hits ≡ served.hits)) (sym needs_is) taken

  first_of : (failing : Option (List ℕ)) (P : List ℕ → Type 0) (Q R : List ℕ → Type 0) → IfSome failing (λ f. P f → Q f × R f) → IfSome failing (λ f. P f → Q f)
  first_of None P Q R h = tt
  first_of (Some f) P Q R h = λ p. (h p).0

  second_of : (failing : Option (List ℕ)) (P : List ℕ → Type 0) (Q R : List ℕ → Type 0) → IfSome failing (λ f. P f → Q f × R f) → IfSome failing (λ f. P f → R f)
  second_of None P Q R h = tt
  second_of (Some f) P Q R h = λ p. (h p).1

  pub read_is : IsReadAt old read served.answer new
  read_is = record {
    same = serves.same;
    setup = subst IsSetup (sym serves.same) setup;
    no_file = (λ is. absurd (serves.form.0 is), λ none. (let within = slice_get_within old.setup.sizes read.file size has in absurd (omega arith)));
    negative = (λ is. absurd (serves.form.1 is), λ none. (let e = none.1 in absurd cc));
    fault = serves.fault;
    later = serves.later;
    count = on_bytes served.answer _ _ (λ bytes is count. counts bytes count) serves.count;
    whole = on_bytes served.answer _ _ (λ bytes is given. wholes old.setup.contents setup.sizes bytes is given) serves.bytes;
    cache = serves.cache;
    fold = λ memory. first_of old.setup.failing _ _ _ (folds old.setup.failing (serves.taken memory));
  }

  pub hits_are : CountsHits old read served.answer served.hits
  hits_are memory = second_of old.setup.failing _ _ _ (folds old.setup.failing (serves.taken memory))
