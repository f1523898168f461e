use Rattle.proxy_laws.proofs.Promised.{notices_find_room}
use Rattle.proxy_laws.proofs.laws.notices_find_room.Goals as goal

pub returns : goal.returns
returns c = notices_find_room
