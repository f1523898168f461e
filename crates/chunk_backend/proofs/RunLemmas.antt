-- A run of reads over a store in memory.
use Rattle.std.proofs.Common.{◌≡◌, ◌≢◌, ℕ, ◌+◌, ◌/◌, ◌≤◌, inl, inr, slice_get, List, [], ◌∷◌, ◌++◌, length, map, Option, None, Some, IfSome, refl, sym, ap, ◌∙◌, subst, arith, append_assoc, append-nil}
use Rattle.chunk_backend.specs.declared.chunk.ChunkRead.{ChunkRead}
use Rattle.chunk_backend.specs.declared.chunk_answer.ChunkAnswer.{ChunkAnswer}
use Rattle.chunk_backend.specs.declared.chunk_answer.ChunkAnswer.TheVariants.{NoMemory}
use Rattle.chunk_backend.specs.declared.chunk.ChunkId.{ChunkId}
use Rattle.std.specs.List.{range_with_len}
use Rattle.std.proofs.lemmas.List.{length-map}
use Rattle.std.proofs.lemmas.List.FromFn.{length-range_with_len}
use Rattle.std.proofs.lemmas.Option.{slice_get_cases}
use Rattle.file_store.specs.FileGroups.{natural}
use Rattle.chunk_backend.specs.Chunks.{chunk_count, chunk_id, count_needs, needs, needs_of, read_end}
use Rattle.chunk_backend.specs.Stores.{Fetching}
use Rattle.chunk_backend.specs.CacheFold.{CacheRules, CacheState, ChunksOutcome, ReadsOutcome, answer_after, fold_reads, read_outcome, with_read}
use Rattle.chunk_backend.specs.Reads.{Cached, CameTo, HasRoom, IsReadAt, IsSetup, Setup, rules_of, total_needs}
use Rattle.chunk_backend.specs.Steps.{CountsHits}
use Rattle.chunk_backend.specs.ChunksText.{RunsReads, read_line, read_lines, shown, state_between}
use Rattle.chunk_backend.proofs.FoldLemmas.{answered, asked_grows, came}

abbrev pub rules_at : Cached Fetching → CacheRules
rules_at files = record { chunk = files.chunk; limit = files.limit; failing = files.store.failing }

-- the reads so far, and what is left, come to what all of them come to
pub record Running (first now : Cached Fetching) (reads rest : List ChunkRead) (before so_far : List ℕ) (number found : ℕ) : Type 0 where
  pub same : (shown now).setup ≡ (shown first).setup
  pub room : length now.store.asked + total_needs first.chunk first.sizes rest ≤ first.store.room
  pub text : so_far ++ read_lines number (fold_reads (rules_at first) first.store.contents (state_between now) rest).answers
      ≡ before ++ read_lines 1 (fold_reads (rules_at first) first.store.contents (state_between first) reads).answers
  pub state : (fold_reads (rules_at first) first.store.contents (state_between now) rest).state ≡ (fold_reads (rules_at first) first.store.contents (state_between first) reads).state
  pub hits : found + (fold_reads (rules_at first) first.store.contents (state_between now) rest).hits ≡ (fold_reads (rules_at first) first.store.contents (state_between first) reads).hits

pub running_none : (first : Cached Fetching) (reads : List ChunkRead) (text : List ℕ) (number hits : ℕ) → number ≡ 1 → hits ≡ 0
    → length first.store.asked + total_needs first.chunk first.sizes reads ≤ first.store.room → Running first first reads reads text text number hits
running_none first reads text number hits one none room = record {
  same = refl;
  room = room;
  text = ap (λ n. text ++ read_lines n (fold_reads (rules_at first) first.store.contents (state_between first) reads).answers) one;
  state = refl;
  hits = (let e = none in omega arith);
}

module _ (first now next : Cached Fetching) (reads rest : List ChunkRead) (read : ChunkRead) (answer : ChunkAnswer)
    (before text after : List ℕ) (number found hits more count : ℕ)
    (running : Running first now reads (read ∷ rest) before text number found)
    (step : IsReadAt (shown now) read answer (shown next)) (counts : CountsHits (shown now) read answer hits) (memory : answer ≢ NoMemory) where
  setup_now : (shown now).setup ≡ (shown first).setup
  setup_now = running.same

  sizes_first : first.sizes ≡ map length first.store.contents
  sizes_first =
      let there : IsSetup (shown first).setup = subst IsSetup (step.same ∙ running.same) step.setup in there.sizes

  abbrev rules : CacheRules
  rules = rules_at first

  abbrev ids : List ChunkId
  ids = needs first.chunk first.sizes read

  abbrev outcome : ChunksOutcome
  outcome = read_outcome rules (map length first.store.contents) (state_between now) read

  room_one : length now.store.asked + length ids ≤ first.store.room
  room_one = let room = running.room in omega arith

  came_so : CameTo outcome answer (state_between next)
  came_so = came (shown first).setup first.store.contents first.store.failing refl refl sizes_first (shown now) (shown next) read answer running.same step memory room_one

  answer_is : answer ≡ answer_after first.store.contents read outcome
  answer_is = answered first.store.contents (shown now) (shown next) read answer step (ap (λ (s : Setup). s.contents) running.same)
      (ap (λ (s : Setup). s.sizes) running.same ∙ sizes_first) outcome came_so memory

  abbrev CountsAt : Setup → Type 0
  CountsAt s = IfSome s.failing (λ failing. HasRoom s.room (length now.store.asked + length (needs s.chunk s.sizes read))
      → (read_outcome (rules_of s failing) s.sizes (state_between now) read).hits ≡ hits)

  hits_is : outcome.hits ≡ hits
  hits_is =
      let counted : CountsAt (shown first).setup = subst CountsAt running.same (counts memory) in
      subst (λ all. (read_outcome rules all (state_between now) read).hits ≡ hits) sizes_first (counted room_one)

  abbrev Rest : CacheState → ReadsOutcome
  Rest state = fold_reads rules first.store.contents state rest

  fold_is : fold_reads rules first.store.contents (state_between now) (read ∷ rest) ≡ with_read answer hits (Rest (state_between next))
  fold_is = λ i. with_read (sym answer_is i) (hits_is i) (Rest (sym came_so.0 i))

  grown : length next.store.asked ≤ length now.store.asked + length ids
  grown =
      let grows = asked_grows rules (needs first.chunk (map length first.store.contents) read) (state_between now) 0 in
      let same_asked : next.store.asked ≡ outcome.state.asked = ap (λ (s : CacheState). s.asked) came_so.0 in
      let same_needs : length ids ≡ length (needs first.chunk (map length first.store.contents) read) = ap (λ all. length (needs first.chunk all read)) sizes_first in
      let l = ap length same_asked in omega arith

  pub running_next : after ≡ text ++ read_line number answer → more ≡ found + hits → count ≡ number + 1 → Running first next reads rest before after count more
  running_next appended added counted = record {
    same = step.same ∙ running.same;
    room = (let room = running.room in let g = grown in omega arith);
    text = ap (λ t. t ++ read_lines count (Rest (state_between next)).answers) appended
        ∙ append_assoc text (read_line number answer) (read_lines count (Rest (state_between next)).answers)
        ∙ ap (λ n. text ++ (read_line number answer ++ read_lines n (Rest (state_between next)).answers)) counted
        ∙ ap (λ (o : ReadsOutcome). text ++ read_lines number o.answers) (sym fold_is)
        ∙ running.text;
    state = ap (λ (o : ReadsOutcome). o.state) (sym fold_is) ∙ running.state;
    hits = (let e = ap (λ (o : ReadsOutcome). o.hits) fold_is in let h = running.hits in omega arith);
  }

-- no read is left
pub runs : (first now : Cached Fetching) (reads : List ChunkRead) (before text : List ℕ) (number found : ℕ) → Running first now reads [] before text number found → RunsReads first reads before found text now
runs first now reads before text number found running = (sym (append-nil text) ∙ running.text, running.state, (let h = running.hits in omega arith))

-- how many chunks a read needs
pub needs_long : (chunk size : ℕ) (sizes : List ℕ) (read : ChunkRead) → slice_get sizes read.file ≡ Some size → length (needs chunk sizes read) ≡ count_needs chunk size read.count (natural read.offset)
needs_long chunk size sizes read has = ap (λ s. length (needs_of chunk read s (natural read.offset))) has ∙ on (natural read.offset)
  where
    on : (offset : Option ℕ) → length (needs_of chunk read (Some size) offset) ≡ count_needs chunk size read.count offset
    on None = refl
    on (Some from) =
        let count = chunk_count chunk from (read_end size from read.count) in
        length-map (range_with_len (from / chunk) count) (chunk_id read.file) ∙ length-range_with_len (from / chunk) count

pub needs_none : (chunk : ℕ) (sizes : List ℕ) (read : ChunkRead) → length sizes ≤ read.file → 0 ≡ length (needs chunk sizes read)
needs_none chunk sizes read past = elim (slice_get_cases sizes read.file).1 [
  | inl there ↦ (let within = there.1 in absurd (omega arith))
  | inr none ↦ sym (ap (λ s. length (needs_of chunk read s (natural read.offset))) none.1)
]
