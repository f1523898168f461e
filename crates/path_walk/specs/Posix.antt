-- Each call at once, over a store that nobody else changes: its reply, and the store that it leaves; and the steps of a
-- call, between which others may change it. A call is one of version 1 or of version 2.
use Rattle.std.specs.Prelude.{ℕ, List}
use Rattle.path_walk.specs.declared.call.Call.{Call}
use Rattle.path_walk.specs.declared.call.Reply.{Reply}
use Rattle.path_walk.specs.Store.{Store}
use Rattle.path_walk.specs.Programs.{Program, CallOutcome, Step, Takes}
use Rattle.path_walk.specs.Plans.{program_of, at_once}
use Rattle.path_walk.specs.Calls.{plan}

-- one call at once
abbrev pub posix : ℕ → Store → Call → CallOutcome
posix version store call = at_once store (plan version call)

-- the steps of a call
abbrev pub program : ℕ → Call → Program
program version call = program_of (plan version call)

-- these are the steps of a call, and its reply
abbrev pub Walk : ℕ → Call → List Step → Reply → Type 0
Walk version call steps reply = Takes (program version call) steps reply
