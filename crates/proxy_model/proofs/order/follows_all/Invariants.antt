use Rattle.std.proofs.Common.{ℕ, ◌<◌, get_or}
use Rattle.proxy_laws.specs.declared.records.Job.{Job}
use Rattle.proxy_laws.specs.Starts.{MayFollow}
use Rattle.proxy_model.proofs.order.follows_all.Given as goal

abbrev pub invariant-loop-earlier : goal.invariant-loop-earlier
invariant-loop-earlier l = (n : ℕ) (d : Job) → n < l.earlier → MayFollow (get_or l.jobs n d).started (get_or l.jobs l.index d).started
