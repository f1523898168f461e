-- Which call the words after the program's name pick, and what is then promised.
use Rattle.std.specs.Prelude.{◌≡◌, ℕ, Bool, false, if◌then◌else◌, List, [], ◌∷◌, codes}
use Rattle.wf_core.specs.Names.{is_text}
use Rattle.wf_core.specs.Runs.{Streams}
use Rattle.wf_core.specs.declared.run_status.RunStatus.{RunStatus}
use Rattle.run_engine.specs.Generate.{IsGenerateRun, without_source}
use Rattle.run_engine.specs.Solo.{IsSoloRun}
use Rattle.chunk_backend.specs.Command.{IsChunksRun}
use Rattle.wasmfs_run.specs.declared.command.TopCall.{TopCall}
use Rattle.wasmfs_run.specs.declared.command.TopCall.TheVariants.{Solo, Generate, Chunks}

-- the first word is this one
abbrev pub has_first : List ℕ → List (List ℕ) → Bool
has_first text [] = false
has_first text (word ∷ words) = is_text word text

-- the call that the first word picks: `solo` where it is that of no other
abbrev pub picked : List (List ℕ) → TopCall
picked words =
    if has_first (codes "gen") words then Generate
    else if has_first (codes "chunks") words then Chunks
    else Solo

-- nothing that is seen of the source has changed
abbrev pub IsSourceSame : Streams → Streams → Type 0
IsSourceSame old new = (new.left ≡ old.left) × (new.given ≡ old.given) × (new.read_faults ≡ old.read_faults)

abbrev pub sink_alone : Streams → Streams
sink_alone seen = without_source seen.written seen.write_faults

-- a run of that call with these words, which ends with that status
abbrev pub IsRunOf : TopCall → List (List ℕ) → RunStatus → Streams → Streams → Type 0
IsRunOf Solo words status old new = IsSoloRun words status old new
IsRunOf Generate words status old new = IsSourceSame old new × IsGenerateRun words status (sink_alone old) (sink_alone new)
IsRunOf Chunks words status old new = IsChunksRun words status old new

-- a run with these words, which ends with that status
abbrev pub IsProgramRun : List (List ℕ) → RunStatus → Streams → Streams → Type 0
IsProgramRun words status old new = IsRunOf (picked words) words status old new
