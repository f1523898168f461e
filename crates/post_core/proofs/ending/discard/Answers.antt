use Rattle.std.proofs.Common.{◌<◌, ap, subst, ◌∙◌, map}
use mathlib.Core.Option.{some}
use Rattle.std.specs.Slots.{slots_items}
use Rattle.post_core.specs.Ending.{Ended, all_joined}
use Rattle.post_core.specs.SendParts.{pass_sender}
use Rattle.post_core.proofs.Ended.{any_of_each, complete, drained_done, ended, of_its_sender, rings_idle}
use Rattle.post_core.proofs.ending.discard.Goals as goal

pub free_rings-requires-clause-idle : goal.free_rings-requires-clause-idle
free_rings-requires-clause-idle g c =
    let key = c.args.post.table.shared.key in
    let f = c.close_with-closed.ensures.values.2 in
    let v = all_joined c.args.emptied.hold.seat.me.0 (map (λ pass. pass.hold.seat.me.0) c.args.passes.items) in
    let whole = complete (λ pass. pass.hold.seat.me.0) (λ pass. map (λ kept. kept.items) pass.hold.own.items) (λ pass. of_its_sender pass.is_pass) c.args.passes.items c.args.emptied.hold.seat.me.0 (map (λ place. place.started.items) c.args.emptied.hold.jobs.items) (map (λ place. place.taken) c.args.emptied.hold.jobs.items) c.args.emptied.is_emptied key.senders (λ s near. any_of_each (λ pass. pass_sender pass) c.args.passes.items c.args.post.senders c.requires.each s (subst (λ n. s < n) (ap (λ k. k.senders) c.args.post.key) near)) in
    rings_idle g.J.Meant.meaning (g.J.Meant.suits key.target) key.senders key.places f.0 f.1.0 c.join_all.new.seat.id v (f.1.1 ∙ ap (λ me. some me.0) c.join_all.ensures.view) _ whole (drained_done g.J.Meant.meaning (g.J.Meant.suits key.target) key.senders key.places f.0 f.1.0 c.join_all.new.seat.id v (f.1.1 ∙ ap (λ me. some me.0) c.join_all.ensures.view) _ whole c.args.emptied.is_emptied.away c.args.emptied.is_emptied.clear) (slots_items c.close_with-closed.result.slots) f.3 f.4

pub returns : goal.returns
returns g c =
    let key = c.args.post.table.shared.key in
    let f = c.close_with-closed.ensures.values.2 in
    let v = all_joined c.args.emptied.hold.seat.me.0 (map (λ pass. pass.hold.seat.me.0) c.args.passes.items) in
    let whole = complete (λ pass. pass.hold.seat.me.0) (λ pass. map (λ kept. kept.items) pass.hold.own.items) (λ pass. of_its_sender pass.is_pass) c.args.passes.items c.args.emptied.hold.seat.me.0 (map (λ place. place.started.items) c.args.emptied.hold.jobs.items) (map (λ place. place.taken) c.args.emptied.hold.jobs.items) c.args.emptied.is_emptied key.senders (λ s near. any_of_each (λ pass. pass_sender pass) c.args.passes.items c.args.post.senders c.requires.each s (subst (λ n. s < n) (ap (λ k. k.senders) c.args.post.key) near)) in
    let e : Ended key.senders key.places v = ended g.J.Meant.meaning (g.J.Meant.suits key.target) key.senders key.places f.0 f.1.0 c.join_all.new.seat.id v (f.1.1 ∙ ap (λ me. some me.0) c.join_all.ensures.view) _ whole in
    subst (λ k. Ended k.senders k.places v) c.args.post.key e
