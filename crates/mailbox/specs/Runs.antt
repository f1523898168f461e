-- The calls by which one job is run.
use Rattle.std.specs.Prelude.{List, [], ◌∷◌}
use Rattle.proxy_laws.specs.declared.records.FateMark.TheVariants as fate
use Rattle.mailbox.specs.declared.calls.RunCall.{RunCall}
use Rattle.mailbox.specs.declared.calls.RunCall.TheVariants as call
use Rattle.mailbox.specs.declared.calls.RunJob.{RunJob}
use Rattle.mailbox.specs.declared.runner.Ran.{Ran}
use Rattle.mailbox.specs.declared.runner.Ran.TheVariants as ran

module _ {M T : Type 0} where
  -- a job is run, and told unless it is held
  abbrev pub run_calls : RunJob M → Ran T → List (RunCall M T)
  run_calls j (ran.Finished t) = call.Run j (ran.Finished t) ∷ call.Tell t j.place j.nth fate.Finished ∷ []
  run_calls j ran.Held = call.Run j ran.Held ∷ []
