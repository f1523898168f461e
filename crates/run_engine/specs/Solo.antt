-- The call `solo`: its words, and what it promises.
use Rattle.std.specs.Prelude.{ℕ, Bool, false, List, [], ◌∷◌, ◌++◌, codes, Option, option_map}
use Rattle.wf_core.specs.Names.{is_text}
use Rattle.wf_core.specs.Runs.{IsRun, Streams}
use Rattle.wf_core.specs.declared.run_status.RunStatus.{RunStatus}
use Rattle.trace_text.specs.declared.trace.Mode.{Mode}
use Rattle.trace_text.specs.declared.trace.Mode.TheVariants.{Plain}
use Rattle.trace_text.specs.Faults.{first_fault}
use Rattle.trace_text.specs.SoloText.{IsSoloText}
use Rattle.trace_text.specs.Texts.{refusal_text}

-- the line that wrong words are answered with
abbrev pub usage_text : List ℕ
usage_text = codes "usage: wasmfs-run solo|threads|gen N" ++ 10 ∷ []

-- the line that bytes which are no trace are refused with, of their first faulty line
abbrev pub trace_refusal : Mode → List ℕ → Option (List ℕ)
trace_refusal mode bytes = option_map refusal_text (first_fault bytes mode)

-- the words are those of `solo`
abbrev pub is_solo : List (List ℕ) → Bool
is_solo [] = false
is_solo (word ∷ []) = is_text word (codes "solo")
is_solo (word ∷ other ∷ words) = false

-- a run with these words, which ends with that status
abbrev pub IsSoloRun : List (List ℕ) → RunStatus → Streams → Streams → Type 0
IsSoloRun words status old new = IsRun usage_text (trace_refusal Plain) (IsSoloText Plain) (is_solo words) status old new
