use Rattle.std.proofs.Common.{◌+◌, ◌++◌, ◌∷◌, [], map, ap, sym, ◌∙◌}
use Rattle.std.proofs.lemmas.List.{map-set, get_or-map}
use Rattle.std.specs.Prelude.{slice_set}
use Rattle.post_core.proofs.taking.keep_started.Goals as goal

pub returns-clause-started : goal.returns-clause-started
returns-clause-started c = map-set (λ place. place.started.items) c.args.jobs.now.items c.args.place _ ∙ ap (slice_set (map (λ place. place.started.items) c.args.jobs.now.items) c.args.place) (c.push_reserved.ensures.items ∙ ap (λ kept. kept ++ c.args.job ∷ []) (ap (λ place. place.started.items) c.index_mut-kept.ensures.value ∙ sym (get_or-map (λ place. place.started.items) c.args.jobs.now.items c.args.place c.index_mut-kept.result.now [] c.requires.near)))

pub returns-clause-taken : goal.returns-clause-taken
returns-clause-taken c = map-set (λ place. place.taken) c.args.jobs.now.items c.args.place _ ∙ ap (λ n. slice_set (map (λ place. place.taken) c.args.jobs.now.items) c.args.place (n + 1)) (ap (λ place. place.taken) c.index_mut-kept.ensures.value ∙ sym (get_or-map (λ place. place.taken) c.args.jobs.now.items c.args.place c.index_mut-kept.result.now 0 c.requires.near))
