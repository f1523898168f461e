use Rattle.std.proofs.Common.{◌≡◌, ◌<◌, List, arith, sym, subst, ◌∙◌}
use Rattle.atomic_table.specs.Table.{opening}
use Rattle.task_ring.specs.Ring.{RingView}
use Rattle.post_core.specs.declared.slots.Item.{Item}
use Rattle.post_core.specs.Making.{open_rings, opening_words}
use Rattle.post_core.specs.Rule.{Shown}
use Rattle.post_core.specs.Views.{first_view}
use Rattle.post_core.proofs.Laid.{rings_open, rings_wide, words_open}
use Rattle.post_core.proofs.Opening.{opens}
use Rattle.post_core.proofs.making.make_table.Goals as goal

pub new-requires : goal.new-requires
new-requires g c =
    let some_place : 0 < c.args.places = let a = c.requires.places.0 in omega arith in
    let words_are : c.as_slice.result.now ≡ opening_words c.args.senders c.args.places = c.as_slice.ensures.value ∙ c.in_ok-words.ensures in
    subst (λ ws. Shown g.J.Meant.meaning (g.J.Meant.suits c.args.target) c.args.senders c.args.places (opening ws c.in_ok-rings.rings.items (first_view c.args.senders c.args.places))) (sym words_are)
    (subst (λ (xs : List (RingView (Item g.row.J.Denot))). Shown g.J.Meant.meaning (g.J.Meant.suits c.args.target) c.args.senders c.args.places (opening (opening_words c.args.senders c.args.places) xs (first_view c.args.senders c.args.places))) (sym c.in_ok-rings.ensures)
    (opens c.args.senders c.args.places c.requires.senders.0 some_place g.J.Meant.meaning (g.J.Meant.suits c.args.target) c.requires.senders.1 c.requires.places.1 (opening_words c.args.senders c.args.places) (open_rings c.args.places)
    (words_open c.args.senders c.args.places some_place c.requires.places.1) (rings_wide g.row.J.Denot c.args.places) (rings_open g.row.J.Denot c.args.places)))
