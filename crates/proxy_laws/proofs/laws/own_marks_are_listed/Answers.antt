use Rattle.proxy_laws.proofs.Owned.{own_marks_are_listed}
use Rattle.proxy_laws.proofs.laws.own_marks_are_listed.Goals as goal

pub returns : goal.returns
returns c = own_marks_are_listed
