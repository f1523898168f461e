use Rattle.std.proofs.Common.{◌-◌, ap, sym, subst, ◌∙◌, map}
use Rattle.atomic_table.specs.Table.{Me}
use Rattle.task_ring.specs.Ring.{RingView}
use Rattle.proxy_laws.specs.declared.actors.Phase.TheVariants.{Idle}
use Rattle.post_core.specs.declared.slots.Item.{Item}
use Rattle.post_core.specs.declared.views.View.{View}
use Rattle.post_core.specs.LifeSteps.{all_found}
use Rattle.post_core.specs.Parts.{IsPass}
use Rattle.post_core.proofs.LifeCalls.{all_culled_pass, all_found_pass, created_pass}
use Rattle.post_core.proofs.post.Post.create.Goals as goal

pub create_first-requires-clause-idle : goal.create_first-requires-clause-idle
create_first-requires-clause-idle g c = (all_culled_pass c.args.pass.hold.sender Idle (map (λ kept. kept.items) c.args.pass.hold.own.items) (c.args.self.now.places - 1) c.args.pass.hold.seat.me.0 c.cull_all.new.seat.me.0 c.cull_all.ensures.culled c.args.pass.is_pass).view

pub invariant_of-result : goal.invariant_of-result
invariant_of-result g c =
    let own = map (λ kept. kept.items) c.args.pass.hold.own.items in
    let culled : IsPass c.args.pass.hold.sender Idle own c.cull_all.new.seat.me.0 = all_culled_pass c.args.pass.hold.sender Idle own (c.args.self.now.places - 1) c.args.pass.hold.seat.me.0 c.cull_all.new.seat.me.0 c.cull_all.ensures.culled c.args.pass.is_pass in
    let made = c.in-Some.ensures.created.3 in record {
      is_pass = subst (λ (v : View g.row.J-Meaning.Denot). IsPass c.args.pass.hold.sender Idle own v) (sym (ap (λ (x : Me (RingView (Item g.row.J.Denot)) (View g.row.J-Meaning.Denot)). x.0) made))
          (created_pass c.args.pass.hold.sender Idle own c.in-Some.place (all_found (c.in-Some.place - 1) c.cull_all.new.seat.me.0) (all_found_pass c.args.pass.hold.sender Idle own (c.in-Some.place - 1) c.cull_all.new.seat.me.0 culled));
      empty = (ap (λ (x : Me (RingView (Item g.row.J.Denot)) (View g.row.J-Meaning.Denot)). x.1) made ∙ (c.cull_all.ensures.seat.2 ∙ c.args.pass.empty.0), c.args.pass.empty.1 ∙ ap (λ t. t.slots) (sym (c.create_first.ensures.seat.0 ∙ c.cull_all.ensures.seat.0)));
    }

pub invariant_of-result-in-None : goal.invariant_of-result-in-None
invariant_of-result-in-None g c =
    let own = map (λ kept. kept.items) c.args.pass.hold.own.items in
    let culled : IsPass c.args.pass.hold.sender Idle own c.cull_all.new.seat.me.0 = all_culled_pass c.args.pass.hold.sender Idle own (c.args.self.now.places - 1) c.args.pass.hold.seat.me.0 c.cull_all.new.seat.me.0 c.cull_all.ensures.culled c.args.pass.is_pass in
    let full = c.create_first.ensures.full c.in-None.is in record {
      is_pass = subst (λ (v : View g.row.J-Meaning.Denot). IsPass c.args.pass.hold.sender Idle own v) (sym (ap (λ (x : Me (RingView (Item g.row.J.Denot)) (View g.row.J-Meaning.Denot)). x.0) full))
          (all_found_pass c.args.pass.hold.sender Idle own (c.args.self.now.places - 1) c.cull_all.new.seat.me.0 culled);
      empty = (ap (λ (x : Me (RingView (Item g.row.J.Denot)) (View g.row.J-Meaning.Denot)). x.1) full ∙ (c.cull_all.ensures.seat.2 ∙ c.args.pass.empty.0), c.args.pass.empty.1 ∙ ap (λ t. t.slots) (sym (c.create_first.ensures.seat.0 ∙ c.cull_all.ensures.seat.0)));
    }
