use Rattle.std.proofs.Common.{◌<◌, ℕ, map, ap, sym, subst, ◌∙◌}
use Rattle.post_core.proofs.OwnerEnds.{closes_from, some_same}
use Rattle.post_core.proofs.owner.Exec.begin_close.Goals as goal

pub invariant_of-result : goal.invariant_of-result
invariant_of-result g c =
    let jobs = c.args.self.hold.jobs.items in
    let slots_are = ap (λ t. t.slots) (sym c.drop_own.ensures.seat.0) in record {
      is_closing = closes_from (map (λ place. place.started.items) jobs) (map (λ place. place.taken) jobs) c.args.self.hold.got c.args.self.hold.seat.me.0 c.args.self.place c.args.self.start _ (ap (λ me. me.0) c.drop_own.ensures.dropped) c.args.self.runs c.args.self.is_exec;
      empty = (ap (λ me. me.1) c.drop_own.ensures.dropped ∙ c.args.self.empty.0, c.args.self.empty.1 ∙ slots_are);
      near = λ q is. subst (λ (x : ℕ × ℕ). x.0 < x.1) (λ i. (some_same c.args.self.place q is i, slots_are i)) c.args.self.near;
    }
