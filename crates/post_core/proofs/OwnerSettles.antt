-- An owner that settles a job still keeps all that it took.
use Rattle.std.proofs.Common.{◌≡◌, ℕ, ◌<◌, Some, List, [], length, map, get_or, set, refl, arith, ap, sym, subst, ◌∙◌, length-set}
use Rattle.std.proofs.lemmas.List.{map-set, get_or-set_same, get_or-set_other}
use Rattle.std.proofs.lemmas.Option.{slice_get-map}
use Rattle.std.specs.Prelude.{slice_get, option_map}
use mathlib.Core.Logic.{dite}
use native.Mathlib.Decide.{ℕ_discrete}
use Rattle.proxy_laws.specs.declared.actors.Serving.{Serving}
use Rattle.proxy_laws.specs.declared.records.FateMark.{FateMark}
use Rattle.post_core.specs.declared.records.StartedJob.{StartedJob}
use Rattle.post_core.specs.declared.views.Held.{Held}
use Rattle.post_core.specs.declared.views.View.{View}
use Rattle.post_core.specs.Kept.{listed}
use Rattle.post_core.specs.Parts.{IsOpen, IsOwner, IsOwnerAt, KeepsAll, fate_kept, job_with_fate, kept_settled}
use Rattle.post_core.specs.Records.{started_job}
use Rattle.post_core.specs.Steps.{IsActiveHere}
use Rattle.post_core.specs.Views.{job_settled, owner_of, settled_as, settled_held}

module _ {M : Type 0} (started : List (List StartedJob)) (taken : List ℕ) (p : ℕ) (near : p < length taken) (n : ℕ) (f : FateMark) (v : View M) where
  abbrev row : List (Held M)
  row = listed (owner_of v).jobs p

  -- the jobs by place once this one is settled
  abbrev after : List (List StartedJob)
  after = set started p (kept_settled n f (listed started p))

  module _ (h : Held M) (at : slice_get row n ≡ Some h) (rows : length (owner_of v).jobs ≡ length taken) (lists : length started ≡ length taken) (all : KeepsAll started taken v) where
    row_is : kept_settled n f (listed started p) ≡ set (listed started p) n (job_with_fate f (started_job h))
    row_is = ap (fate_kept (listed started p) n f) (ap (λ l. slice_get l n) (sym (all p near).0) ∙ (slice_get-map started_job row n ∙ ap (option_map started_job) at))

    settled_row : map started_job (set row n (settled_held f h)) ≡ kept_settled n f (listed started p)
    settled_row = map-set started_job row n (settled_held f h) ∙ (ap (λ l. set l n (job_with_fate f (started_job h))) (all p near).0 ∙ sym row_is)

    row_length : length (kept_settled n f (listed started p)) ≡ length (listed started p)
    row_length = ap length row_is ∙ length-set (listed started p) n (job_with_fate f (started_job h))

    pub keeps_settled : KeepsAll after taken (settled_as p n f (Some h) v)
    keeps_settled q at_q = dite (ℕ_discrete q p)
        (λ same. subst (λ k. (map started_job (listed (set (owner_of v).jobs p (set row n (settled_held f h))) k) ≡ listed after k) × (get_or taken k 0 ≡ length (listed after k))) (sym same) (
          ap (map started_job) (get_or-set_same (owner_of v).jobs p (set row n (settled_held f h)) [] (omega arith)) ∙ (settled_row ∙ sym (get_or-set_same started p (kept_settled n f (listed started p)) [] (omega arith))),
          (all p near).1 ∙ (sym row_length ∙ ap length (sym (get_or-set_same started p (kept_settled n f (listed started p)) [] (omega arith)))),
        ))
        (λ ne. (
          ap (map started_job) (get_or-set_other (owner_of v).jobs p q (set row n (settled_held f h)) [] ne) ∙ ((all q at_q).0 ∙ sym (get_or-set_other started p q (kept_settled n f (listed started p)) [] ne)),
          (all q at_q).1 ∙ ap length (sym (get_or-set_other started p q (kept_settled n f (listed started p)) [] ne)),
        ))

  settled_open : (got : ℕ) → length started ≡ length taken → IsActiveHere row n → IsOpen started taken got v → IsOpen after taken got (job_settled p n f v)
  settled_open got lists active o = let h = active.1 in subst (IsOpen after taken got) (ap (λ x. settled_as p n f x v) (sym h.1)) (record {
    view = (o.view.0, refl);
    state = o.state;
    no_turn = o.no_turn;
    no_ring = o.no_ring;
    none_noticed = o.none_noticed;
    got_is = o.got_is;
    wide = o.wide;
    rows = length-set (owner_of v).jobs p (set row n (settled_held f h.0)) ∙ o.rows;
    words = o.words;
    kept = keeps_settled h.0 h.1 o.rows lists o.kept;
  })

  -- what the owner keeps now is what it kept with this job settled
  module _ (got : ℕ) (lists : length started ≡ length taken) (active : IsActiveHere row n) (now : List (List StartedJob)) (counts : List ℕ) (u : View M) (now_is : now ≡ after) (counts_are : counts ≡ taken) (u_is : u ≡ job_settled p n f v) where
    moved : (P : List (List StartedJob) → List ℕ → View M → Type 0) → P after taken (job_settled p n f v) → P now counts u
    moved P all = subst (λ (x : List (List StartedJob) × List ℕ × View M). P x.0 x.1 x.2) (λ i. (sym now_is i, sym counts_are i, sym u_is i)) all

    pub owner_settles : IsOwner started taken got v → IsOwner now counts got u
    owner_settles o = moved (λ kept so_many w. IsOwner kept so_many got w) (record { stands = settled_open got lists active o.stands; away = o.away })

    pub owner_settles_at : (place : ℕ) (at_place : Serving) → IsOwnerAt place at_place started taken got v → IsOwnerAt place at_place now counts got u
    owner_settles_at place at_place o = moved (λ kept so_many w. IsOwnerAt place at_place kept so_many got w) (record { stands = settled_open got lists active o.stands; here = o.here; elsewhere = o.elsewhere })
