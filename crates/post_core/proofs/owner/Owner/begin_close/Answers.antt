use Rattle.std.proofs.Common.{map, ap, sym, ◌∙◌}
use Rattle.post_core.proofs.OwnerEnds.{closes, none_is_not}
use Rattle.post_core.proofs.owner.Owner.begin_close.Goals as goal

pub invariant_of-result : goal.invariant_of-result
invariant_of-result g c =
    let jobs = c.args.self.hold.jobs.items in record {
      is_closing = closes (map (λ place. place.started.items) jobs) (map (λ place. place.taken) jobs) c.args.self.hold.got c.args.self.hold.seat.me.0 _ (ap (λ me. me.0) c.drop_own.ensures.dropped) c.args.self.is_owner;
      empty = (ap (λ me. me.1) c.drop_own.ensures.dropped ∙ c.args.self.empty.0, c.args.self.empty.1 ∙ ap (λ t. t.slots) (sym c.drop_own.ensures.seat.0));
      near = λ q is. absurd (none_is_not q is);
    }
