use Rattle.std.proofs.Common.{◌∙◌}
use Rattle.proxy_laws.proofs.Promised.{no_sender_after_close}
use Rattle.post_core.specs.Views.{owner_of}
use Rattle.post_core.proofs.owner_laws.closed_has_no_sender.Goals as goal

pub returns : goal.returns
returns g c target senders places s r id v held at is closed events end leads = no_sender_after_close r.world events end r.sound (((r.views id v at).owner (owner_of v) is.1).1.does.state_is ∙ closed) leads
