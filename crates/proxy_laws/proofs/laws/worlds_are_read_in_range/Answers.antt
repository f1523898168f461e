use Rattle.proxy_laws.proofs.InRange.{worlds_are_read_in_range}
use Rattle.proxy_laws.proofs.laws.worlds_are_read_in_range.Goals as goal

pub returns : goal.returns
returns c = worlds_are_read_in_range
