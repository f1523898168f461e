use Rattle.std.proofs.Common.{◌≡◌, ap, sym, subst, ◌∙◌, map}
use mathlib.Core.Option.{some}
use Rattle.std.specs.Slots.{slots_items}
use Rattle.post_core.specs.Ending.{all_joined}
use Rattle.post_core.specs.Making.{AreDealt, dealing_view}
use Rattle.post_core.proofs.Ended.{fresh_complete, fresh_done, fresh_there, rings_idle}
use Rattle.post_core.proofs.ending.unmake.Goals as goal

pub free_rings-requires-clause-idle : goal.free_rings-requires-clause-idle
free_rings-requires-clause-idle g c =
    let key = c.args.made.post.table.shared.key in
    let passes = c.args.made.passes.items in
    let ov = c.args.made.owner.hold.seat.me.0 in
    let is = sym c.args.made.post.key in
    let first : ov ≡ dealing_view key.places key.senders 0 = c.requires.owner ∙ ap (λ k. dealing_view k.places k.senders 0) is in
    let dealt : AreDealt key.places (map (λ pass. pass.hold.seat.me.0) passes) key.senders = subst (λ k. AreDealt k.places (map (λ pass. pass.hold.seat.me.0) passes) k.senders) is c.requires.passes in
    let f = c.close_with-closed.ensures.values.2 in
    let v = all_joined ov (map (λ pass. pass.hold.seat.me.0) passes) in
    let whole = fresh_complete (λ pass. pass.hold.seat.me.0) passes key.senders key.places ov first dealt in
    let at = f.1.1 ∙ ap (λ me. some me.0) c.join_all.ensures.view in
    rings_idle g.J.Meant.meaning (g.J.Meant.suits key.target) key.senders key.places f.0 f.1.0 c.join_all.new.seat.id v at _ whole
    (fresh_done g.J.Meant.meaning (g.J.Meant.suits key.target) key.senders key.places f.0 f.1.0 c.join_all.new.seat.id v at _ whole key.places (fresh_there (λ pass. pass.hold.seat.me.0) passes key.senders key.places ov first dealt))
    (slots_items c.close_with-closed.result.slots) f.3 f.4
