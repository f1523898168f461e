-- The call `gen`: its words, and what it promises.
use Rattle.std.specs.Prelude.{◌≡◌, ℕ, if◌then◌else◌, List, [], ◌∷◌, codes, Option, None, Some, is_some, IfSome}
use Rattle.wf_core.specs.Names.{is_text}
use Rattle.wf_core.specs.Runs.{IsRun, Streams, streams}
use Rattle.wf_core.specs.declared.run_status.RunStatus.{RunStatus}
use Rattle.trace_text.specs.Fields.{number_in}
use Rattle.run_engine.specs.Generated.{generated_trace}
use Rattle.run_engine.specs.Solo.{usage_text}
use Rattle.run_engine.specs.Summary.{summary_text}

-- the greatest number that a trace is made of
abbrev pub seed_max : ℕ
seed_max = 4294967295

abbrev pub seed_of : List ℕ → List ℕ → Option ℕ
seed_of word number = if is_text word (codes "gen") then number_in seed_max number else None

-- the number in the words of `gen`, where they are right
abbrev pub seed_in : List (List ℕ) → Option ℕ
seed_in [] = None
seed_in (word ∷ []) = None
seed_in (word ∷ number ∷ []) = seed_of word number
seed_in (word ∷ number ∷ other ∷ words) = None

-- the text is the summary of the trace that a number makes
abbrev pub IsSummary : Option ℕ → List ℕ → Type 0
IsSummary seed text = IfSome seed (λ number. text ≡ summary_text (generated_trace number))

-- what is seen of the sink of a run, and of a source that is empty
abbrev pub without_source : Option (List ℕ) → ℕ → Streams
without_source written write_faults = streams (Some []) 0 0 written write_faults

-- a run with these words, which ends with that status. It reads nothing, and so refuses nothing
abbrev pub IsGenerateRun : List (List ℕ) → RunStatus → Streams → Streams → Type 0
IsGenerateRun words status old new = IsRun usage_text (λ bytes. None) (λ bytes. IsSummary (seed_in words)) (is_some (seed_in words)) status old new
