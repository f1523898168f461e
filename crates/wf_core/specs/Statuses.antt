-- The exit statuses of a run, and at which of them nothing was written.
use Rattle.std.specs.Prelude.{ℕ}
use Rattle.wf_core.specs.declared.run_status.RunStatus.{RunStatus}
use Rattle.wf_core.specs.declared.run_status.RunStatus.TheVariants.{Done, Refused, Usage, ReadFault, WriteFault, NoMemory, TooLong}

-- the number that the process ends with
abbrev pub status_number : RunStatus → ℕ
status_number Done = 0
status_number Refused = 1
status_number Usage = 2
status_number ReadFault = 3
status_number WriteFault = 4
status_number NoMemory = 5
status_number TooLong = 6

-- nothing was written. At the other statuses some text was: the whole, the line of the first faulty line, the usage
-- line, or a front of one of these
abbrev pub WritesNothing : RunStatus → Type 0
WritesNothing Done = ⊥
WritesNothing Refused = ⊥
WritesNothing Usage = ⊥
WritesNothing ReadFault = Unit {0}
WritesNothing WriteFault = ⊥
WritesNothing NoMemory = Unit {0}
WritesNothing TooLong = Unit {0}
