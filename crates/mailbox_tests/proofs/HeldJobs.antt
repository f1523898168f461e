-- The job that was held first, as it is finished.
use Rattle.std.proofs.Common.{◌≡◌, ℕ, ◌<◌, List, ◌∷◌, map, refl, arith}
use Rattle.proxy_laws.specs.declared.records.FateMark.TheVariants as fate
use Rattle.post_core.specs.declared.views.Held.{Held}
use Rattle.post_core.specs.Kept.{listed}
use Rattle.mailbox.specs.Deeds.{MayFinish, fate_given}
use Rattle.mailbox.specs.Holding.{HoldsActive}
use Rattle.std.proofs.lemmas.Option.{slice_get_within}
use Rattle.mailbox.proofs.HoldingLemmas.{first_active, first_given}
use Rattle.mailbox.proofs.TurnLemmas.{row_inside}
use Rattle.mailbox_tests.specs.declared.events.Kept.{Kept}
use Rattle.mailbox_tests.specs.Recorded.{job_of, left_suits}

module _ (places : ℕ) (jobs : List (List (Held ℕ))) (k : Kept) (rest : List Kept) (holds : HoldsActive 0 places jobs (map job_of (k ∷ rest))) where
  pub first_near : k.place < places
  first_near = let there = holds.kept.0 in let inside = row_inside jobs k.place k.nth (slice_get_within (listed jobs k.place) k.nth there.kept there.there) in let wide = holds.wide in omega arith

  pub first_may : MayFinish left_suits 0 jobs k.place k.nth (record { place = k.place; nth = k.nth })
  first_may = record { job = job_of k; place_is = refl; nth_is = refl; active = first_active 0 places jobs (job_of k) (map job_of rest) holds; suits = (refl, refl) }

  pub first_finished : HoldsActive 0 places (fate_given k.place k.nth fate.Finished jobs) (map job_of rest)
  first_finished = first_given 0 places jobs (job_of k) (map job_of rest) fate.Finished holds
