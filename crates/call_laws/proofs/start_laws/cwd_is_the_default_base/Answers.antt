use Rattle.call_laws.proofs.StartLemmas.{cwd_is_the_default_base}
use Rattle.call_laws.proofs.start_laws.cwd_is_the_default_base.Goals as goal

pub returns : goal.returns
returns c = cwd_is_the_default_base
