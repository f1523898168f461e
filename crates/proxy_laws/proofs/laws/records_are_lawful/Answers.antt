use Rattle.proxy_laws.proofs.Recorded.{records_are_lawful}
use Rattle.proxy_laws.proofs.laws.records_are_lawful.Goals as goal

pub returns : goal.returns
returns c = records_are_lawful
