use Rattle.std.proofs.Common.{refl, arith, ◌∙◌}
use Rattle.std.specs.Prelude.{◌/◌}
use Rattle.proxy_laws.proofs.Promised.{nothing_waits_once_emptied}
use Rattle.post_core.specs.Rule.{OwnerFits}
use Rattle.post_core.specs.Views.{owner_of}
use Rattle.post_core.proofs.owner_laws.emptied_has_nothing.Goals as goal

pub returns : goal.returns
returns g c target senders places s r id v held at is e p near =
    let of : OwnerFits r.world r.entries (owner_of v) = ((r.views id v at).owner (owner_of v) is.1).1 in
    nothing_waits_once_emptied r.world p r.sound (of.does.state_is ∙ e.closed) (λ q inside. of.does.serving_is q inside ∙ e.away q)
    (λ q inside. (of.clears.clear (q / 64) (e.clear (q / 64) (let a = r.sized.places_are in let few = r.sized.few_places in omega arith))).1 q refl) (let a = r.sized.places_are in omega arith)
