-- The words of the faults, and what reading answers beside its definition. The faults are this project's own.
use Rattle.std.specs.Prelude.{◌≡◌, ℕ, List, codes, Option, Some, Result, Ok, Err}
use Rattle.trace_text.specs.declared.refusal.Fault.{Fault}
use Rattle.trace_text.specs.declared.refusal.Fault.TheVariants.{Header, UnknownWord, BadArgument, UnknownName, DuplicateName, LineTooLong, TooManyCalls, TooManyThreads, TooManyBackends, MissingNewline}
use Rattle.trace_text.specs.declared.refusal.Refusal.{Refusal}
use Rattle.trace_text.specs.declared.refusal.TraceRefusal.{TraceRefusal}
use Rattle.trace_text.specs.declared.refusal.TraceRefusal.TheVariants.{Faulty, NoMemory}

abbrev pub fault_word : Fault → List ℕ
fault_word Header = codes "Header"
fault_word UnknownWord = codes "UnknownWord"
fault_word BadArgument = codes "BadArgument"
fault_word UnknownName = codes "UnknownName"
fault_word DuplicateName = codes "DuplicateName"
fault_word LineTooLong = codes "LineTooLong"
fault_word TooManyCalls = codes "TooManyCalls"
fault_word TooManyThreads = codes "TooManyThreads"
fault_word TooManyBackends = codes "TooManyBackends"
fault_word MissingNewline = codes "MissingNewline"

abbrev pub refusal_at : ℕ → Fault → Refusal
refusal_at line fault = record { line = line; fault = fault }

-- the refusal is the one that is read; want of memory may come at any time
abbrev pub FailsTrace : {B : Type 0} → TraceRefusal → Result B Refusal → Type 0
FailsTrace (Faulty refusal) read = read ≡ Err refusal
FailsTrace NoMemory read = Unit {0}

-- the answer, seen by view, is what a trace is read to be, unless memory ran out
abbrev pub GivesTrace : {A B : Type 0} → (A → B) → Result A TraceRefusal → Result B Refusal → Type 0
GivesTrace view (Ok x) read = read ≡ Ok (view x)
GivesTrace view (Err refusal) read = FailsTrace refusal read

-- a refusal is the first fault; want of memory may come at any time
abbrev pub Refuses : TraceRefusal → Option Refusal → Type 0
Refuses (Faulty refusal) first = first ≡ Some refusal
Refuses NoMemory first = Unit {0}
