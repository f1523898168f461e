-- The text of `chunks`: the reads' answers, how many chunks were fetched and how many were found, and `end`.
use Rattle.std.specs.Prelude.{◌≡◌, ℕ, ◌+◌, List, [], ◌∷◌, ◌++◌, codes, length, Option, None, Some, Result, Ok, Err}
use Rattle.std.specs.Fmt.{decimal}
use Rattle.std.specs.Map.{keys_of}
use Rattle.wf_core.specs.Errors.{error_word}
use Rattle.wf_core.specs.declared.errno.Errno.TheVariants.{Einval}
use Rattle.trace_text.specs.Texts.{end_line, next_field}
use Rattle.chunk_backend.specs.declared.chunk_answer.ChunkAnswer.{ChunkAnswer}
use Rattle.chunk_backend.specs.declared.chunk_answer.ChunkAnswer.TheVariants.{Bytes, Negative, Fault}
use Rattle.chunk_backend.specs.declared.chunk_fault.ChunkRefusal.{ChunkRefusal}
use Rattle.chunk_backend.specs.declared.chunk.ChunkRead.{ChunkRead}
use Rattle.chunk_backend.specs.CacheFold.{CacheRules, CacheState, ReadsOutcome, fold_reads}
use Rattle.chunk_backend.specs.Inputs.{Input, chunk_refusal_text, input_at}
use Rattle.chunk_backend.specs.Reads.{Cached, Seen, seen}
use Rattle.chunk_backend.specs.Stores.{Fetching}

-- a reply; no read of an input comes to another answer
abbrev pub reply_text : ChunkAnswer → List ℕ
reply_text (Bytes bytes) = codes "ok" ++ next_field bytes
reply_text Negative = error_word Einval
reply_text Fault = codes "EIO"
reply_text _ = []

abbrev pub read_line : ℕ → ChunkAnswer → List ℕ
read_line number answer = codes "read " ++ decimal number ++ codes " " ++ reply_text answer ++ 10 ∷ []

-- the lines of reads, from one of that number on
abbrev pub read_lines : ℕ → List ChunkAnswer → List ℕ
read_lines number [] = []
read_lines number (answer ∷ answers) = read_line number answer ++ read_lines (number + 1) answers

abbrev pub count_lines : ℕ → ℕ → List ℕ
count_lines fetches hits = codes "fetches " ++ decimal fetches ++ 10 ∷ codes "hits " ++ decimal hits ++ 10 ∷ []

abbrev pub rules_of_input : Input → CacheRules
rules_of_input input = record { chunk = input.chunk; limit = input.entries; failing = input.failing }

-- nothing is in the cache, and nothing was fetched
abbrev pub opening_state : CacheState
opening_state = record { entries = []; asked = [] }

abbrev pub text_of : ReadsOutcome → List ℕ
text_of outcome = read_lines 1 outcome.answers ++ count_lines (length outcome.state.asked) outcome.hits ++ end_line

-- the text of an input: all its fetches that fail are known from the first read on
abbrev pub chunks_text : Input → List ℕ
chunks_text input = text_of (fold_reads (rules_of_input input) input.files opening_state input.reads)

-- the text is that of the input which bytes spell
abbrev pub IsTextOf : List ℕ → Result Input ChunkRefusal → Type 0
IsTextOf text (Ok input) = text ≡ chunks_text input
IsTextOf text (Err refusal) = ⊥

abbrev pub IsChunksText : List ℕ → List ℕ → Type 0
IsChunksText bytes text = IsTextOf text (input_at bytes)

abbrev pub refusal_of : Result Input ChunkRefusal → Option (List ℕ)
refusal_of (Ok input) = None
refusal_of (Err refusal) = Some (chunk_refusal_text refusal)

-- the line that bytes are refused with
abbrev pub chunks_refusal : List ℕ → Option (List ℕ)
chunks_refusal bytes = refusal_of (input_at bytes)

-- what is between two reads of files by chunks over a store in memory
abbrev pub state_between : Cached Fetching → CacheState
state_between files = record { entries = keys_of files.cache; asked = files.store.asked }

-- what is seen of files over a store in memory
abbrev pub shown : Cached Fetching → Seen
shown files = seen (λ s. Some s.contents) (λ s. Some s.room) (λ s. Some s.failing) (λ s. s.asked) (λ s. s.faults) files

-- reads were taken: their lines are behind the text, and the fetches and the cache are those of the fold
abbrev pub RunsReads : Cached Fetching → List ChunkRead → List ℕ → ℕ → List ℕ → Cached Fetching → Type 0
RunsReads old reads before hits after new =
    let rules : CacheRules = record { chunk = old.chunk; limit = old.limit; failing = old.store.failing } in
    let outcome = fold_reads rules old.store.contents (state_between old) reads in
    (after ≡ before ++ read_lines 1 outcome.answers) × (state_between new ≡ outcome.state) × (hits ≡ outcome.hits)
