use Rattle.std.proofs.Common.{◌<◌, map, length, arith, ap, sym, ◌∙◌}
use Rattle.std.proofs.lemmas.List.{length-map}
use Rattle.post_core.proofs.EmptiedSettles.{emptied_settles, there}
use Rattle.post_core.proofs.owner.Emptied.settle.Goals as goal

pub keep_fate-requires-clause-there : goal.keep_fate-requires-clause-there
keep_fate-requires-clause-there g c =
    let jobs = c.args.self.now.hold.jobs.items in
    let taken = map (λ place. place.taken) jobs in
    let near : c.args.place < length taken = let a = c.args.self.now.empty.1 in let b = ap (λ t. t.slots) c.requires.table in let d = c.args.post.now.sized.1 in let e = c.requires.near in omega (arith, length-map jobs (λ place. place.taken)) in
    there (map (λ place. place.started.items) jobs) taken c.args.place near c.args.nth c.args.self.now.hold.seat.me.0 c.requires.active c.args.self.now.is_emptied

pub invariant_of-self : goal.invariant_of-self
invariant_of-self g c =
    let jobs = c.args.self.now.hold.jobs.items in
    let started = map (λ place. place.started.items) jobs in
    let taken = map (λ place. place.taken) jobs in
    let near : c.args.place < length taken = let a = c.args.self.now.empty.1 in let b = ap (λ t. t.slots) c.requires.table in let d = c.args.post.now.sized.1 in let e = c.requires.near in omega (arith, length-map jobs (λ place. place.taken)) in
    let lists = length-map jobs (λ place. place.started.items) ∙ sym (length-map jobs (λ place. place.taken)) in
    let table_is = ap (λ t. t.slots) (sym c.settle-note.ensures.seat.0) in
    record {
      is_emptied = emptied_settles started taken c.args.place near c.args.nth c.args.self.now.hold.seat.me.0 c.requires.active c.args.self.now.is_emptied c.args.fate lists _ _ _ c.keep_fate.ensures.started c.keep_fate.ensures.taken (ap (λ me. me.0) c.settle-note.ensures.settled);
      empty = (
        ap (λ me. me.1) c.settle-note.ensures.settled ∙ c.args.self.now.empty.0,
        sym (length-map c.keep_fate.new.jobs.items (λ place. place.taken)) ∙ (ap length c.keep_fate.ensures.taken ∙ (length-map jobs (λ place. place.taken) ∙ (c.args.self.now.empty.1 ∙ table_is))),
      );
    }
