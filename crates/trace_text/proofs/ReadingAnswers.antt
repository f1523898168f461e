-- What an answer that is by the definition of reading says by the grammar.
use Rattle.std.proofs.Common.{ℕ, List, Result, Ok, Err}
use Rattle.std.specs.Result.{IfOk, IfErr}
use Rattle.trace_text.specs.declared.refusal.TraceRefusal.{TraceRefusal}
use Rattle.trace_text.specs.declared.refusal.TraceRefusal.TheVariants.{Faulty, NoMemory}
use Rattle.trace_text.specs.declared.trace.Mode.{Mode}
use Rattle.trace_text.specs.declared.trace.Trace.{Trace}
use Rattle.trace_text.specs.Traces.{traced}
use Rattle.trace_text.specs.Grammar.{Reads}
use Rattle.trace_text.specs.Faults.{first_fault}
use Rattle.trace_text.specs.Reading.{trace_at}
use Rattle.trace_text.specs.Refusals.{GivesTrace, Refuses}
use Rattle.trace_text.proofs.Whole.{reads_what_is_read, refuses_what_is_refused}

pub reads_answer : (bytes : List ℕ) (mode : Mode) (answer : Result Trace TraceRefusal) → GivesTrace traced answer (trace_at mode bytes) → IfOk answer (λ trace. Reads bytes mode (traced trace))
reads_answer bytes mode (Ok trace) h = reads_what_is_read bytes mode (traced trace) h
reads_answer bytes mode (Err refusal) h = tt

pub refuses_answer : (bytes : List ℕ) (mode : Mode) (answer : Result Trace TraceRefusal) → GivesTrace traced answer (trace_at mode bytes) → IfErr answer (λ refusal. Refuses refusal (first_fault bytes mode))
refuses_answer bytes mode (Ok trace) h = tt
refuses_answer bytes mode (Err (Faulty refusal)) h = refuses_what_is_refused bytes mode refusal h
refuses_answer bytes mode (Err NoMemory) h = tt
