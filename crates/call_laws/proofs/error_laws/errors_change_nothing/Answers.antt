use Rattle.call_laws.proofs.Errors.{errors_change_nothing}
use Rattle.call_laws.proofs.error_laws.errors_change_nothing.Goals as goal

pub returns : goal.returns
returns c = errors_change_nothing
