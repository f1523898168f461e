use Rattle.std.proofs.Common.{Some, arith, ap, ◌∙◌}
use Rattle.std.proofs.Math.Seq.{map-set_same}
use Rattle.std.proofs.lemmas.List.{get_or-set_same, length-set}
use Rattle.std.proofs.lemmas.Option.{slice_get-get_or}
use Rattle.std.specs.Prelude.{slice_set}
use Rattle.post_core.specs.declared.records.PlaceJobs.{PlaceJobs}
use Rattle.post_core.specs.OwnerViews.{room_here}
use Rattle.post_core.proofs.taking.make_room.Goals as goal

pub returns-in_err-reserve-clause-started : goal.returns-in_err-reserve-clause-started
returns-in_err-reserve-clause-started c = map-set_same (λ place. place.started.items) c.args.jobs.now.items c.args.place _ c.index_mut.result.now (c.reserve.ensures.items ∙ ap (λ place. place.started.items) c.index_mut.ensures.value)

pub returns-in_err-reserve-clause-taken : goal.returns-in_err-reserve-clause-taken
returns-in_err-reserve-clause-taken c = map-set_same (λ place. place.taken) c.args.jobs.now.items c.args.place _ c.index_mut.result.now (ap (λ place. place.taken) c.index_mut.ensures.value)

pub returns-clause-room : goal.returns-clause-room
returns-clause-room c =
    let new : PlaceJobs = record { started = c.reserve.new.self; taken = c.index_mut.result.now.taken } in
    let here = ap room_here (slice_get-get_or (slice_set c.args.jobs.now.items c.args.place new) c.args.place new (let l = length-set c.args.jobs.now.items c.args.place new in omega arith) ∙ ap Some (get_or-set_same c.args.jobs.now.items c.args.place new new (omega arith))) in
    let room = c.in_ok-reserve.ensures.ok in
    omega arith

pub returns-clause-started : goal.returns-clause-started
returns-clause-started c = map-set_same (λ place. place.started.items) c.args.jobs.now.items c.args.place _ c.index_mut.result.now (c.reserve.ensures.items ∙ ap (λ place. place.started.items) c.index_mut.ensures.value)

pub returns-clause-taken : goal.returns-clause-taken
returns-clause-taken c = map-set_same (λ place. place.taken) c.args.jobs.now.items c.args.place _ c.index_mut.result.now (ap (λ place. place.taken) c.index_mut.ensures.value)
