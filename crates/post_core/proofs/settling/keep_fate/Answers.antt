use Rattle.std.proofs.Common.{◌≡◌, ◌<◌, Some, List, [], map, length, ap, sym, subst, ◌∙◌}
use Rattle.std.proofs.Math.Seq.{map-set_same}
use Rattle.std.proofs.lemmas.List.{map-set, get_or-map}
use Rattle.std.proofs.lemmas.Option.{slice_get-get_or}
use Rattle.std.specs.Prelude.{slice_get, slice_set}
use Rattle.post_core.specs.declared.records.StartedJob.{StartedJob}
use Rattle.post_core.specs.Kept.{listed}
use Rattle.post_core.specs.Parts.{fate_kept, kept_settled}
use Rattle.post_core.proofs.settling.keep_fate.Goals as goal

pub returns-clause-started : goal.returns-clause-started
returns-clause-started c =
    let items = c.args.jobs.now.items in
    let row : List StartedJob = c.index_mut.result.now.started.items in
    let row_is : listed (map (λ place. place.started.items) items) c.args.place ≡ row = get_or-map (λ place. place.started.items) items c.args.place c.index_mut.result.now [] c.requires.near ∙ ap (λ place. place.started.items) (sym c.index_mut.ensures.value) in
    let found : slice_get row c.args.nth ≡ Some c.index_mut-2.result.now = slice_get-get_or row c.args.nth c.index_mut-2.result.now (subst (λ l. c.args.nth < length l) row_is c.requires.there) ∙ ap Some (sym c.index_mut-2.ensures.value) in
    map-set (λ place. place.started.items) items c.args.place _
    ∙ ap (slice_set (map (λ place. place.started.items) items) c.args.place) (sym (ap (kept_settled c.args.nth c.args.fate) row_is ∙ ap (fate_kept row c.args.nth c.args.fate) found))

pub returns-clause-taken : goal.returns-clause-taken
returns-clause-taken c = map-set_same (λ place. place.taken) c.args.jobs.now.items c.args.place _ c.index_mut.result.now (ap (λ place. place.taken) c.index_mut.ensures.value)
