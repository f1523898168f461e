use Rattle.proxy_laws.proofs.Promised.{no_sender_after_close}
use Rattle.proxy_laws.proofs.laws.no_sender_after_close.Goals as goal

pub returns : goal.returns
returns c = no_sender_after_close
