-- The call `chunks`: its words, and what it promises.
use Rattle.std.specs.Prelude.{ℕ, Bool, false, List, [], ◌∷◌, ◌++◌, codes}
use Rattle.wf_core.specs.Names.{is_text}
use Rattle.wf_core.specs.Runs.{IsRun, Streams}
use Rattle.wf_core.specs.declared.run_status.RunStatus.{RunStatus}
use Rattle.chunk_backend.specs.ChunksText.{IsChunksText, chunks_refusal}

-- the line that wrong words are answered with
abbrev pub chunks_usage : List ℕ
chunks_usage = codes "usage: wasmfs-run chunks" ++ 10 ∷ []

-- the words are those of `chunks`
abbrev pub is_chunks : List (List ℕ) → Bool
is_chunks [] = false
is_chunks (word ∷ []) = is_text word (codes "chunks")
is_chunks (word ∷ other ∷ words) = false

-- a run with these words, which ends with that status
abbrev pub IsChunksRun : List (List ℕ) → RunStatus → Streams → Streams → Type 0
IsChunksRun words status old new = IsRun chunks_usage chunks_refusal IsChunksText (is_chunks words) status old new
