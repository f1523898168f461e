use Rattle.std.proofs.Common.{[], ap, sym, ◌∙◌, length}
use Rattle.atomic_table.specs.Table.{Me}
use Rattle.task_ring.specs.Ring.{RingView}
use Rattle.post_core.specs.declared.slots.Item.{Item}
use Rattle.post_core.specs.declared.views.View.{View}
use Rattle.post_core.specs.Kept.{listed}
use Rattle.post_core.specs.SendSteps.{last_held, place_given}
use Rattle.post_core.specs.Views.{pass_of}
use Rattle.post_core.proofs.SendPuts.{has_turn, holds_ring, next_before, pushes, sent_is}
use Rattle.post_core.proofs.put_jobs.put_with_turn.Goals as goal

pub count_put-nth-requires-clause-job : goal.count_put-nth-requires-clause-job
count_put-nth-requires-clause-job g c =
    let t = c.requires.turn in let h = c.in_default.ensures.ok in
    let o = pushes g.J.Meant.meaning c.args.place (record { mark = c.args.mark; job = c.args.job }) (place_given c.args.place c.args.seat.now.me.0) c.args.seat.now.me c.push_held.new.seat.me t.0 [] t.1 h.0 h.1 h.2 h.3 h.4 in (
      record { mark = c.args.mark; job = c.args.job },
      ap (λ (x : Me (RingView (Item g.row.J.Denot)) (View g.row.J-Meaning.Denot)). last_held x.1) o.is ∙ o.last,
      (c.requires.mark.0 ∙ ap (λ (x : Me (RingView (Item g.row.J.Denot)) (View g.row.J-Meaning.Denot)). (pass_of x.0).number) (sym o.is), c.requires.mark.1 ∙ ap (λ (x : Me (RingView (Item g.row.J.Denot)) (View g.row.J-Meaning.Denot)). length (listed (pass_of x.0).own c.args.place)) (sym o.is)),
      c.requires.suits,
    )

pub give_turn-requires-2-clause-turn : goal.give_turn-requires-2-clause-turn
give_turn-requires-2-clause-turn g c =
    let t = c.requires.turn in let h = c.in_default.ensures.ok in
    let o = pushes g.J.Meant.meaning c.args.place (record { mark = c.args.mark; job = c.args.job }) (place_given c.args.place c.args.seat.now.me.0) c.args.seat.now.me c.push_held.new.seat.me t.0 [] t.1 h.0 h.1 h.2 h.3 h.4 in
    has_turn g.J.Meant.meaning c.args.place (record { mark = c.args.mark; job = c.args.job }) (place_given c.args.place c.args.seat.now.me.0) c.count_put-nth.result c.push_held.new.seat.me c.count_put-nth.new.seat.me o (c.count_put-nth.ensures.counted (record { mark = c.args.mark; job = c.args.job }) (ap (λ (x : Me (RingView (Item g.row.J.Denot)) (View g.row.J-Meaning.Denot)). last_held x.1) o.is ∙ o.last)) c.requires.pass

pub give_turn-requires-2-clause-holds : goal.give_turn-requires-2-clause-holds
give_turn-requires-2-clause-holds g c =
    let t = c.requires.turn in let h = c.in_default.ensures.ok in
    let o = pushes g.J.Meant.meaning c.args.place (record { mark = c.args.mark; job = c.args.job }) (place_given c.args.place c.args.seat.now.me.0) c.args.seat.now.me c.push_held.new.seat.me t.0 [] t.1 h.0 h.1 h.2 h.3 h.4 in
    holds_ring g.J.Meant.meaning c.args.place (record { mark = c.args.mark; job = c.args.job }) (place_given c.args.place c.args.seat.now.me.0) c.count_put-nth.result c.push_held.new.seat.me c.count_put-nth.new.seat.me o (c.count_put-nth.ensures.counted (record { mark = c.args.mark; job = c.args.job }) (ap (λ (x : Me (RingView (Item g.row.J.Denot)) (View g.row.J-Meaning.Denot)). last_held x.1) o.is ∙ o.last)) c.requires.pass

pub returns-clause-put : goal.returns-clause-put
returns-clause-put g c =
    let t = c.requires.turn in let h = c.in_default.ensures.ok in
    let o = pushes g.J.Meant.meaning c.args.place (record { mark = c.args.mark; job = c.args.job }) (place_given c.args.place c.args.seat.now.me.0) c.args.seat.now.me c.push_held.new.seat.me t.0 [] t.1 h.0 h.1 h.2 h.3 h.4 in (
      (let n = next_before g.J.Meant.meaning c.args.place (record { mark = c.args.mark; job = c.args.job }) (place_given c.args.place c.args.seat.now.me.0) c.count_put-nth.result c.push_held.new.seat.me o c.count_put-nth.ensures.nth in record { own = n.own; seen = n.seen }),
      sent_is g.J.Meant.meaning c.args.place (record { mark = c.args.mark; job = c.args.job }) (place_given c.args.place c.args.seat.now.me.0) c.count_put-nth.result c.push_held.new.seat.me c.count_put-nth.new.seat.me o (c.count_put-nth.ensures.counted (record { mark = c.args.mark; job = c.args.job }) (ap (λ (x : Me (RingView (Item g.row.J.Denot)) (View g.row.J-Meaning.Denot)). last_held x.1) o.is ∙ o.last)) c.requires.pass c.give_turn-2.new.seat.me c.give_turn-2.ensures.given,
    )
