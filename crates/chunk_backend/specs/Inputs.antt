-- The input of `chunks`: what its lines say, or its first faulty line. The format is this project's own.
use Rattle.std.specs.Prelude.{◌≡◌, ℕ, zero, suc, ◌+◌, ◌==◌, Bool, nat_le, nat_lt, if◌then◌else◌, List, [], ◌∷◌, ◌++◌, length, codes, position, Option, None, Some, option_map, option_and_then, Result, Ok, Err, ℤ}
use Rattle.std.specs.List.{list_any}
use Rattle.std.specs.Fmt.{decimal}
use Rattle.wf_core.specs.Limits.{calls_max, line_max}
use Rattle.wf_core.specs.Names.{is_text}
use Rattle.trace_text.specs.declared.refusal.Fault.TheVariants.{Header, UnknownWord, BadArgument, UnknownName, DuplicateName, LineTooLong, TooManyCalls, MissingNewline}
use Rattle.trace_text.specs.Fields.{count_in, fields_of, is_label, is_skipped, number_in, offset_in, one_of, pieces_of, text_in, three_of, two_of}
use Rattle.trace_text.specs.Reading.{first_end}
use Rattle.trace_text.specs.Refusals.{fault_word}
use Rattle.chunk_backend.specs.declared.chunk.ChunkRead.{ChunkRead}
use Rattle.chunk_backend.specs.declared.chunk_fault.ChunkFault.{ChunkFault}
use Rattle.chunk_backend.specs.declared.chunk_fault.ChunkFault.TheVariants.{Line, TooManyFiles}
use Rattle.chunk_backend.specs.declared.chunk_fault.ChunkRefusal.{ChunkRefusal}
use Rattle.chunk_backend.specs.declared.chunk_fault.InputRefusal.{InputRefusal}
use Rattle.chunk_backend.specs.declared.chunk_fault.InputRefusal.TheVariants.{Faulty, NoMemory}
use Rattle.chunk_backend.specs.Chunks.{chunk_max, chunk_read, entries_max}

-- the most files of an input
abbrev pub files_max : ℕ
files_max = 64

-- what the lines so far say
pub record Input : Type 0 where
  -- the bytes of a chunk, and the most chunks in the cache
  pub chunk : ℕ
  pub entries : ℕ
  -- the files' names and their bytes, in the order of their lines
  pub names : List (List ℕ)
  pub files : List (List ℕ)
  -- the numbers of the fetches that fail
  pub failing : List ℕ
  pub reads : List ChunkRead

abbrev pub opening_input : ℕ → ℕ → Input
opening_input chunk entries = record { chunk = chunk; entries = entries; names = []; files = []; failing = []; reads = [] }

-- `wasmfs-chunks 1 CHUNK ENTRIES`: both sizes are at least 1

abbrev pub at_least_one : Option ℕ → Option ℕ
at_least_one None = None
at_least_one (Some zero) = None
at_least_one (Some (suc n)) = Some (suc n)

abbrev pub both_sizes : Option ℕ → Option ℕ → Option (ℕ × ℕ)
both_sizes None entries = None
both_sizes (Some chunk) None = None
both_sizes (Some chunk) (Some entries) = Some (chunk, entries)

abbrev pub sizes_in : Option (List ℕ × (List ℕ × List ℕ)) → Option (ℕ × ℕ)
sizes_in None = None
sizes_in (Some (version, (chunk, entries))) =
    if is_text version (codes "1") then both_sizes (at_least_one (number_in chunk_max chunk)) (at_least_one (number_in entries_max entries)) else None

abbrev pub header_of : List (List ℕ) → Option (ℕ × ℕ)
header_of [] = None
header_of (word ∷ fields) = if is_text word (codes "wasmfs-chunks") then sizes_in (three_of fields) else None

-- `file NAME BYTES`

abbrev pub file_of : Option (List ℕ × List ℕ) → Option (List ℕ × List ℕ)
file_of None = None
file_of (Some (name, bytes)) = if is_label name then option_map (λ b. (name, b)) (text_in bytes) else None

abbrev pub has_name : Input → List ℕ → Bool
has_name input name = list_any (λ other. is_text other name) input.names

abbrev pub with_file : Input → List ℕ → List ℕ → Input
with_file input name bytes = record input { names = input.names ++ name ∷ []; files = input.files ++ bytes ∷ [] }

abbrev pub after_file : Input → Option (List ℕ × List ℕ) → Result Input ChunkFault
after_file input None = Err (Line BadArgument)
after_file input (Some (name, bytes)) =
    if has_name input name then Err (Line DuplicateName)
    else if nat_le files_max (length input.names) then Err TooManyFiles
    else Ok (with_file input name bytes)

-- `fail N`

abbrev pub after_fail : Input → Option ℕ → Result Input ChunkFault
after_fail input None = Err (Line BadArgument)
after_fail input (Some number) = Ok (record input { failing = input.failing ++ number ∷ [] })

-- `read NAME OFFSET COUNT`

abbrev pub range_of : Option ℤ → Option ℕ → Option (ℤ × ℕ)
range_of None count = None
range_of (Some offset) None = None
range_of (Some offset) (Some count) = Some (offset, count)

abbrev pub read_of : Option (List ℕ × (List ℕ × List ℕ)) → Option (List ℕ × (ℤ × ℕ))
read_of None = None
read_of (Some (name, (offset, count))) = if is_label name then option_map (λ range. (name, range)) (range_of (offset_in offset) (count_in count)) else None

abbrev pub after_read_of : Input → Option ℕ → ℤ → ℕ → Result Input ChunkFault
after_read_of input None offset count = Err (Line UnknownName)
after_read_of input (Some file) offset count =
    if nat_le calls_max (length input.reads) then Err (Line TooManyCalls)
    else Ok (record input { reads = input.reads ++ chunk_read file offset count ∷ [] })

abbrev pub after_read : Input → Option (List ℕ × (ℤ × ℕ)) → Result Input ChunkFault
after_read input None = Err (Line BadArgument)
after_read input (Some (name, (offset, count))) = after_read_of input (position (λ other. is_text other name) input.names) offset count

-- any line after line 1

abbrev pub after_statement : Input → List ℕ → List (List ℕ) → Result Input ChunkFault
after_statement input word fields =
    if is_text word (codes "file") then after_file input (file_of (two_of fields))
    else if is_text word (codes "fail") then after_fail input (option_and_then count_in (one_of fields))
    else if is_text word (codes "read") then after_read input (read_of (three_of fields))
    else Err (Line UnknownWord)

abbrev pub after_fields : Input → List (List ℕ) → Result Input ChunkFault
after_fields input [] = Err (Line UnknownWord)
after_fields input (word ∷ fields) = after_statement input word fields

unfoldable pub after_line : Input → List ℕ → Result Input ChunkFault
after_line input line =
    if nat_lt line_max (length line) then Err (Line LineTooLong)
    else if is_skipped line then Ok input
    else after_fields input (fields_of line)

-- The lines, one after another.

abbrev pub refusal_at : ℕ → ChunkFault → ChunkRefusal
refusal_at line fault = record { line = line; fault = fault }

abbrev pub on_line : ℕ → Result Input ChunkFault → (Input → Result Input ChunkRefusal) → Result Input ChunkRefusal
on_line number (Ok input) next = next input
on_line number (Err fault) next = Err (refusal_at number fault)

-- what follows the last byte 10: where it is not empty it is a line that lacks its end
abbrev pub at_end : ℕ → List ℕ → Input → Result Input ChunkRefusal
at_end number rest input = if length rest == 0 then Ok input else Err (refusal_at number (Line MissingNewline))

-- the pieces between bytes 10 from line `number` on
abbrev pub input_on : ℕ → Input → List (List ℕ) → Result Input ChunkRefusal
input_on number input [] = Ok input
input_on number input (rest ∷ []) = at_end number rest input
input_on number input (line ∷ next ∷ pieces) = on_line number (after_line input line) (λ after. input_on (number + 1) after (next ∷ pieces))

abbrev pub on_sizes : Option (ℕ × ℕ) → (Input → Result Input ChunkRefusal) → Result Input ChunkRefusal
on_sizes None next = Err (refusal_at 1 (Line Header))
on_sizes (Some (chunk, entries)) next = next (opening_input chunk entries)

abbrev pub on_header : List ℕ → (Input → Result Input ChunkRefusal) → Result Input ChunkRefusal
on_header line next = if nat_lt line_max (length line) then Err (refusal_at 1 (Line LineTooLong)) else on_sizes (header_of (fields_of line)) next

abbrev pub input_in : List (List ℕ) → Result Input ChunkRefusal
input_in [] = Err (refusal_at 1 (Line Header))
input_in (rest ∷ []) = Err (refusal_at 1 (Line (first_end rest)))
input_in (line ∷ next ∷ pieces) = on_header line (λ input. input_on 2 input (next ∷ pieces))

-- what bytes say, or their first faulty line
abbrev pub input_at : List ℕ → Result Input ChunkRefusal
input_at bytes = input_in (pieces_of bytes)

abbrev pub chunk_fault_word : ChunkFault → List ℕ
chunk_fault_word (Line fault) = fault_word fault
chunk_fault_word TooManyFiles = codes "TooManyFiles"

abbrev pub chunk_refusal_text : ChunkRefusal → List ℕ
chunk_refusal_text refusal = codes "line " ++ decimal refusal.line ++ codes ": " ++ chunk_fault_word refusal.fault ++ 10 ∷ []

-- a line was read: the input is what it adds to the one before, or it has that fault
abbrev pub Adds : Result Input ChunkFault → Result (Unit {0}) ChunkFault → Input → Type 0
Adds read (Ok x) after = read ≡ Ok after
Adds read (Err fault) after = read ≡ Err fault

-- the answer is what is read, unless memory ran out
abbrev pub FailsInput : InputRefusal → Result Input ChunkRefusal → Type 0
FailsInput (Faulty refusal) read = read ≡ Err refusal
FailsInput NoMemory read = Unit {0}

abbrev pub GivesInput : Result Input InputRefusal → Result Input ChunkRefusal → Type 0
GivesInput (Ok input) read = read ≡ Ok input
GivesInput (Err refusal) read = FailsInput refusal read
