-- What every top call promises: with which status it ends, and what it has then read and written.
use Rattle.std.specs.Prelude.{◌≡◌, ◌⊎◌, ◌↔◌, ◌+◌, ◌<◌, ◌≤◌, ℕ, Bool, true, false, List, Option, None, Some, IfSome, MatchBool}
use Rattle.std.specs.Io.KnownBytes.{Appends, IsAtEnd}
use Rattle.wf_core.specs.Bytes.{AppendsFront}
use Rattle.wf_core.specs.Faults.{Rose}
use Rattle.wf_core.specs.Limits.{input_max}
use Rattle.wf_core.specs.Statuses.{WritesNothing}
use Rattle.wf_core.specs.declared.command.Due.{Due}
use Rattle.wf_core.specs.declared.command.Due.TheVariants.{Text, Refusal}
use Rattle.wf_core.specs.declared.run_status.RunStatus.{RunStatus}
use Rattle.wf_core.specs.declared.run_status.RunStatus.TheVariants.{Done, Refused, Usage, ReadFault, WriteFault, NoMemory, TooLong}

-- what is seen of the source and the sink of a run at one time
pub record Streams : Type 0 where
  -- the bytes still to come, where the source tells them, and how many it has given
  pub left : Option (List ℕ)
  pub given : ℕ
  -- how many reads have failed
  pub read_faults : ℕ
  -- the bytes that were written, where the sink tells them
  pub written : Option (List ℕ)
  -- how many writes have failed
  pub write_faults : ℕ

abbrev pub streams : Option (List ℕ) → ℕ → ℕ → Option (List ℕ) → ℕ → Streams
streams left given read_faults written write_faults =
    record { left = left; given = given; read_faults = read_faults; written = written; write_faults = write_faults }

-- the status that is due for an input: it is refused with a line, or it is not
abbrev pub status_due : Option (List ℕ) → RunStatus
status_due None = Done
status_due (Some line) = Refused

-- the text is due: that of the input, or the line that it is refused with
abbrev pub IsDue : Type 0 → List ℕ → Option (List ℕ) → Type 0
IsDue IsText text None = IsText
IsDue IsText text (Some line) = text ≡ line

-- a text, `IsText`, was written
abbrev pub Writes : (List ℕ → Type 0) → Option (List ℕ) → Option (List ℕ) → Type 0
Writes IsText old new = (text : List ℕ) × IsText text × Appends old new text

-- a front of the text that is due for an input was written
abbrev pub WritesFront : (List ℕ → Option (List ℕ)) → (List ℕ → List ℕ → Type 0) → List ℕ → Option (List ℕ) → Option (List ℕ) → Type 0
WritesFront refusal IsText bytes old new = (text : List ℕ) × IsDue (IsText bytes text) text (refusal bytes) × AppendsFront old new text

-- A top call was made with words that are right or wrong, ended with that status, and led from the streams `old` to
-- `new`. It answers wrong words with the line `usage`, refuses an input with the line that `refusal` gives, where it
-- gives one, and the text of any other input is one with `IsText bytes text`.
pub record IsRun (usage_line : List ℕ) (refusal : List ℕ → Option (List ℕ)) (IsText : List ℕ → List ℕ → Type 0)
    (is_right : Bool) (status : RunStatus) (old new : Streams) : Type 0 where
  -- the source was read to its end, and the whole text was written
  pub done : status ≡ Done → IfSome old.left (λ bytes.
      IsAtEnd new.left × Writes (IsText bytes) old.written new.written)
  -- the same, and the bytes are refused
  pub refused : status ≡ Refused → IfSome old.left (λ bytes.
      IsAtEnd new.left × Writes (λ line. refusal bytes ≡ Some line) old.written new.written)
  -- the usage line was written
  pub usage : status ≡ Usage → (is_right ≡ false) × Appends old.written new.written usage_line
  -- when each other status comes
  pub form : is_right ≡ false → (status ≡ Usage) ⊎ (status ≡ WriteFault)
  pub read_fault : status ≡ ReadFault → Rose old.read_faults new.read_faults
  pub write_fault : status ≡ WriteFault → Rose old.write_faults new.write_faults
  pub too_long : (status ≡ TooLong) ↔ (old.given + input_max < new.given)
  -- with right words, without a fault, and where the input is not too long, it is what is due, or memory ran out
  pub complete : is_right ≡ true → new.given ≤ old.given + input_max
      → ¬ Rose old.read_faults new.read_faults → ¬ Rose old.write_faults new.write_faults
      → IfSome old.left (λ bytes. (status ≡ status_due (refusal bytes)) ⊎ (status ≡ NoMemory))
  -- what was written where it is not a whole text
  pub front : status ≡ WriteFault → MatchBool is_right
      (IfSome old.left (λ bytes. WritesFront refusal IsText bytes old.written new.written))
      (AppendsFront old.written new.written usage_line)
  pub nothing : WritesNothing status → new.written ≡ old.written
  -- with wrong words nothing is read
  pub unread : is_right ≡ false → new.given ≡ old.given

-- what a top call has made of an input is its text, or the line that it is refused with
abbrev pub IsDueFor : (List ℕ → Option (List ℕ)) → (List ℕ → List ℕ → Type 0) → List ℕ → Due → Type 0
IsDueFor refusal IsText bytes (Text text) = (refusal bytes ≡ None) × IsText bytes text.items
IsDueFor refusal IsText bytes (Refusal line) = refusal bytes ≡ Some line.items
