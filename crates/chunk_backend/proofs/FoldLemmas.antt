-- Any list of reads comes to what the fold says.
use Rattle.std.proofs.Common.{◌≡◌, ◌≢◌, ℕ, ◌+◌, ◌<◌, ◌≤◌, Bool, true, false, ◌⊎◌, inl, inr, List, [], ◌∷◌, ◌++◌, length, map, Option, None, Some, IfSome, refl, sym, ap, ◌∙◌, subst, arith, length-append}
use Rattle.std.proofs.lemmas.List.{length-map}
use Rattle.std.proofs.lemmas.Option.{slice_get-get_or, slice_get_cases}
use Rattle.file_store.specs.FileGroups.{natural, readat_answer_from}
use Rattle.chunk_backend.specs.declared.chunk.ChunkId.{ChunkId}
use Rattle.chunk_backend.specs.declared.chunk.ChunkRead.{ChunkRead}
use Rattle.chunk_backend.specs.declared.chunk_answer.ChunkAnswer.{ChunkAnswer}
use Rattle.chunk_backend.specs.declared.chunk_answer.ChunkAnswer.TheVariants.{Bytes, NoFile, Negative, Fault, NoMemory}
use Rattle.chunk_backend.specs.Chunks.{bytes_of, fetch_of, needs}
use Rattle.chunk_backend.specs.Stores.{is_failing}
use Rattle.chunk_backend.specs.CacheFold.{CacheRules, CacheState, ChunksOutcome, ReadsOutcome, after_hit, after_miss, answer_after, answer_of, answer_unless, fold_reads, is_listed, read_outcome, take_chunks, whole_answer, whole_answer_from, whole_file}
use Rattle.chunk_backend.specs.Reads.{AreFolded, CameTo, HasMemory, HasRoom, IfBytes, IsReadAt, IsSetup, Ran, Seen, Setup, rules_of, state_of, total_needs}
use Rattle.chunk_backend.specs.Laws.{AreWhole}

-- Each chunk is asked for once at most.
one_more : (rules : CacheRules) (state : CacheState) (id : ChunkId) → length (state.asked ++ fetch_of rules.chunk id ∷ []) ≡ length state.asked + 1
one_more rules state id = length-append state.asked (fetch_of rules.chunk id ∷ [])

abbrev Grows : CacheRules → CacheState → ℕ → List ChunkId → Type 0
Grows rules state hits ids = length (take_chunks rules state hits ids).state.asked ≤ length state.asked + length ids

pub asked_grows : (rules : CacheRules) (ids : List ChunkId) (state : CacheState) (hits : ℕ) → Grows rules state hits ids
asked_grows rules [] state hits = omega arith
asked_grows rules (id ∷ ids) state hits = (elim (is_listed id state.entries) as (λ y. is_listed id state.entries ≡ y → Grows rules state hits (id ∷ ids)) [
  | true ↦ λ listed. rw listed (let on = asked_grows rules ids (after_hit id state) (hits + 1) in omega arith)
  | false ↦ λ missed. (elim (is_failing rules.failing state.asked) as (λ z. is_failing rules.failing state.asked ≡ z → Grows rules state hits (id ∷ ids)) [
    | true ↦ λ fails. rw (missed, fails) (let more = one_more rules state id in omega arith)
    | false ↦ λ fine. rw (missed, fine) (let on = asked_grows rules ids (after_miss rules id state) hits in let more = one_more rules state id in omega arith)
  ]) refl
]) refl

-- What an answer is, by what the chunks came to.
module _ (files : List (List ℕ)) (old new : Seen) (read : ChunkRead) (answer : ChunkAnswer) (step : IsReadAt old read answer new)
    (contents : old.setup.contents ≡ Some files) (sizes : old.setup.sizes ≡ map length files) where
  long : length old.setup.sizes ≡ length files
  long = ap length sizes ∙ length-map files (λ (b : List ℕ). length b)

  no_file_is : length files ≤ read.file → whole_answer files read ≡ NoFile
  no_file_is past = elim (slice_get_cases files read.file).1 [
    | inl there ↦ (let within = there.1 in absurd (omega arith))
    | inr none ↦ ap (whole_answer_from read) none.1
  ]

  negative_is : read.file < length files → natural read.offset ≡ None → whole_answer files read ≡ Negative
  negative_is within negative =
      ap (whole_answer_from read) (slice_get-get_or files read.file [] within)
      ∙ ap (λ o. answer_of (readat_answer_from (whole_file (bytes_of files read.file)) read.count o)) negative

  is_whole : (a : ChunkAnswer) → answer ≡ a → answer ≢ Fault → answer ≢ NoMemory → whole_answer files read ≡ answer
  is_whole (Bytes bytes) is fine memory =
      let given : IfSome old.setup.contents (λ files. whole_answer files read ≡ answer) =
      subst (λ a. IfBytes a (λ b. IfSome old.setup.contents (λ files. whole_answer files read ≡ answer))) is step.whole in
      subst (λ o. IfSome o (λ files. whole_answer files read ≡ answer)) contents given
  is_whole NoFile is fine memory = no_file_is (let past = step.no_file.0 is in let l = long in omega arith) ∙ sym is
  is_whole Negative is fine memory = (let e = step.negative.0 is in negative_is (let within = e.0 in let l = long in omega arith) e.1) ∙ sym is
  is_whole Fault is fine memory = absurd (fine is)
  is_whole NoMemory is fine memory = absurd (memory is)

  answered_by : (outcome : ChunksOutcome) (fault : Bool) → outcome.fault ≡ fault → CameTo outcome answer (state_of new) → answer ≢ NoMemory → answer ≡ answer_after files read outcome
  answered_by outcome true is came memory = came.1.1 is ∙ sym (ap (λ f. answer_unless f (whole_answer files read)) is)
  answered_by outcome false is came memory =
      sym (is_whole answer refl (λ fails. (let clash = came.1.0 fails in cc)) memory)
      ∙ sym (ap (λ f. answer_unless f (whole_answer files read)) is)

  pub answered : (outcome : ChunksOutcome) → CameTo outcome answer (state_of new) → answer ≢ NoMemory → answer ≡ answer_after files read outcome
  answered outcome came memory = answered_by outcome outcome.fault refl came memory

-- Over the reads.
module _ (setup : Setup) (files : List (List ℕ)) (failing : List ℕ) (contents : setup.contents ≡ Some files) (tells : setup.failing ≡ Some failing)
    (sizes : setup.sizes ≡ map length files) where
  abbrev all_rules : CacheRules
  all_rules = rules_of setup failing

  abbrev Comes : Setup → Seen → ChunkRead → ChunkAnswer → Seen → Type 0
  Comes s old read answer new = IfSome s.failing (λ failing.
      HasRoom s.room (length old.asked + length (needs s.chunk s.sizes read)) → CameTo (read_outcome (rules_of s failing) s.sizes (state_of old) read) answer (state_of new))

  -- what comes of one read
  abbrev outcome_at : Seen → ChunkRead → ChunksOutcome
  outcome_at old read = read_outcome all_rules (map length files) (state_of old) read

  pub came : (old new : Seen) (read : ChunkRead) (answer : ChunkAnswer) → old.setup ≡ setup → IsReadAt old read answer new → answer ≢ NoMemory
      → HasRoom setup.room (length old.asked + length (needs setup.chunk setup.sizes read)) → CameTo (outcome_at old read) answer (state_of new)
  came old new read answer same step memory room =
      let comes : Comes setup old read answer new = subst (λ s. Comes s old read answer new) same (step.fold memory) in
      let told : CameTo (read_outcome all_rules setup.sizes (state_of old) read) answer (state_of new) =
      (subst (λ o. IfSome o (λ failing. HasRoom setup.room (length old.asked + length (needs setup.chunk setup.sizes read))
      → CameTo (read_outcome (rules_of setup failing) setup.sizes (state_of old) read) answer (state_of new))) tells comes) room in
      subst (λ all. CameTo (read_outcome all_rules all (state_of old) read) answer (state_of new)) sizes told

  room_of_one : (room : Option ℕ) (asked needs more : ℕ) → HasRoom room (asked + (needs + more)) → HasRoom room (asked + needs)
  room_of_one None asked needs more h = tt
  room_of_one (Some room) asked needs more h = omega arith

  room_after : (room : Option ℕ) (asked needs more after : ℕ) → after ≤ asked + needs → HasRoom room (asked + (needs + more)) → HasRoom room (after + more)
  room_after None asked needs more after few h = tt
  room_after (Some room) asked needs more after few h = omega arith

  abbrev IsFold : Seen → List ChunkRead → List ChunkAnswer → Seen → Type 0
  IsFold start reads answers end = let outcome = fold_reads all_rules files (state_of start) reads in (answers ≡ outcome.answers) × (state_of end ≡ outcome.state)

  folds : (reads : List ChunkRead) (answers : List ChunkAnswer) (start end : Seen) → start.setup ≡ setup → Ran start reads answers end
      → HasRoom setup.room (length start.asked + total_needs setup.chunk setup.sizes reads) → HasMemory answers → IsFold start reads answers end
  folds [] [] start end same ran room memory = (refl, ap state_of ran)
  folds [] (answer ∷ answers) start end same ran room memory = absurd ran
  folds (read ∷ reads) [] start end same ran room memory = absurd ran
  folds (read ∷ reads) (answer ∷ answers) start end same ran room memory =
      let after = ran.0 in
      let step = ran.1 in
      let ids = needs setup.chunk setup.sizes read in
      let on = came start after read answer same step memory.0 (room_of_one setup.room (length start.asked) (length ids) (total_needs setup.chunk setup.sizes reads) room) in
      let outcome = outcome_at start read in
      let few : length after.asked ≤ length start.asked + length ids =
      (let grown = asked_grows all_rules (needs setup.chunk (map length files) read) (state_of start) 0 in
      let same_asked : after.asked ≡ outcome.state.asked = ap (λ (s : CacheState). s.asked) on.0 in
      let same_needs : length ids ≡ length (needs setup.chunk (map length files) read) = ap (λ all. length (needs setup.chunk all read)) sizes in
      let l = ap length same_asked in omega arith) in
      let rest = folds reads answers after end (step.same ∙ same) ran.2
      (room_after setup.room (length start.asked) (length ids) (total_needs setup.chunk setup.sizes reads) (length after.asked) few room) memory.1 in
      let first = answered files start after read answer step (ap (λ (s : Setup). s.contents) same ∙ contents) (ap (λ (s : Setup). s.sizes) same ∙ sizes) outcome on memory.0 in
      let next : fold_reads all_rules files (state_of after) reads ≡ fold_reads all_rules files outcome.state reads = ap (λ s. fold_reads all_rules files s reads) on.0 in (
        ap (λ a. a ∷ answers) first ∙ ap (λ all. answer_after files read outcome ∷ all) (rest.0 ∙ ap (λ (o : ReadsOutcome). o.answers) next),
        rest.1 ∙ ap (λ (o : ReadsOutcome). o.state) next,
      )

module _ (start end : Seen) (reads : List ChunkRead) (answers : List ChunkAnswer) (ran : Ran start reads answers end) (setup : IsSetup start.setup) where
  folded_by : (contents : Option (List (List ℕ))) (failing : Option (List ℕ)) → start.setup.contents ≡ contents → start.setup.failing ≡ failing
      → IfSome contents (λ files. IfSome failing (λ failing.
      HasRoom start.setup.room (length start.asked + total_needs start.setup.chunk start.setup.sizes reads) → HasMemory answers
      → let outcome = fold_reads (rules_of start.setup failing) files (state_of start) reads in
      (answers ≡ outcome.answers) × (state_of end ≡ outcome.state)))
  folded_by None failing contents tells = tt
  folded_by (Some files) None contents tells = tt
  folded_by (Some files) (Some failing) contents tells = λ room memory.
      folds start.setup files failing contents tells (subst (λ o. IfSome o (λ files. start.setup.sizes ≡ map length files)) contents setup.sizes) reads answers start end refl ran room memory

  folded : AreFolded start reads answers end
  folded = folded_by start.setup.contents start.setup.failing refl refl

none_by : (contents : Option (List (List ℕ))) (failing : Option (List ℕ)) (start end : Seen) → end ≡ start
    → IfSome contents (λ files. IfSome failing (λ failing.
    HasRoom start.setup.room (length start.asked + total_needs start.setup.chunk start.setup.sizes []) → HasMemory []
    → let outcome = fold_reads (rules_of start.setup failing) files (state_of start) [] in
    ([] ≡ outcome.answers) × (state_of end ≡ outcome.state)))
none_by None failing start end same = tt
none_by (Some files) None start end same = tt
none_by (Some files) (Some failing) start end same = λ room memory. (refl, ap state_of same)

pub reads_are_folded : (start end : Seen) (reads : List ChunkRead) (answers : List ChunkAnswer) → Ran start reads answers end → AreFolded start reads answers end
reads_are_folded start end [] [] ran = none_by start.setup.contents start.setup.failing start end ran
reads_are_folded start end [] (answer ∷ answers) ran = absurd ran
reads_are_folded start end (read ∷ reads) [] ran = absurd ran
reads_are_folded start end (read ∷ reads) (answer ∷ answers) ran = folded start end (read ∷ reads) (answer ∷ answers) ran (subst IsSetup ran.1.same ran.1.setup)

-- one read more
pub ran_on : (reads : List ChunkRead) (answers : List ChunkAnswer) (start old new : Seen) (read : ChunkRead) (answer : ChunkAnswer)
    → Ran start reads answers old → IsReadAt old read answer new → Ran start (reads ++ read ∷ []) (answers ++ answer ∷ []) new
ran_on [] [] start old new read answer ran step = (new, subst (λ s. IsReadAt s read answer new) ran step, refl)
ran_on [] (other ∷ answers) start old new read answer ran step = absurd ran
ran_on (other ∷ reads) [] start old new read answer ran step = absurd ran
ran_on (other ∷ reads) (given ∷ answers) start old new read answer ran step = (ran.0, ran.1, ran_on reads answers ran.0 old new read answer ran.2 step)

fault_or_whole : (fault : Bool) (answer : ChunkAnswer) → (answer_unless fault answer ≡ Fault) ⊎ (answer_unless fault answer ≡ answer)
fault_or_whole true answer = inl refl
fault_or_whole false answer = inr refl

pub folds_are_whole : (rules : CacheRules) (files : List (List ℕ)) (state : CacheState) (reads : List ChunkRead) → AreWhole files reads (fold_reads rules files state reads).answers
folds_are_whole rules files state [] = tt
folds_are_whole rules files state (read ∷ reads) =
    let outcome = read_outcome rules (map length files) state read in
    (fault_or_whole outcome.fault (whole_answer files read), folds_are_whole rules files outcome.state reads)
