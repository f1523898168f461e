use Rattle.proxy_laws.proofs.Lowest.{mail_has_lowest}
use Rattle.proxy_laws.proofs.laws.mail_has_lowest.Goals as goal

pub returns : goal.returns
returns c = mail_has_lowest
