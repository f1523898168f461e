-- What the steps on the lives of places leave of a pass.
use Rattle.std.proofs.Common.{ℕ, zero, suc, Option, Some, None, List, refl, sym, subst}
use Rattle.proxy_laws.specs.declared.actors.Note.{Note}
use Rattle.proxy_laws.specs.declared.actors.Phase.{Phase}
use Rattle.proxy_laws.specs.declared.records.OwnMark.{OwnMark}
use Rattle.post_core.specs.declared.views.View.{View}
use Rattle.post_core.specs.LifeSteps.{IsCulled, all_found, place_culled}
use Rattle.post_core.specs.Parts.{IsPass}
use Rattle.post_core.specs.Views.{place_created, place_found}

-- none of them takes a pass from its sender, its phase or its marks
module _ {M : Type 0} (sender : ℕ) (ph : Phase) (own : List (List OwnMark)) where
  pub created_pass : (p : ℕ) (v : View M) → IsPass sender ph own v → IsPass sender ph own (place_created p v)
  created_pass p v o = record { view = (refl, o.view.1); number = o.number; phase_is = o.phase_is; own_is = o.own_is; no_ring = o.no_ring; no_look = o.no_look }

  found_pass : (p : ℕ) (v : View M) → IsPass sender ph own v → IsPass sender ph own (place_found p v)
  found_pass p v o = record { view = (refl, o.view.1); number = o.number; phase_is = o.phase_is; own_is = o.own_is; no_ring = o.no_ring; no_look = o.no_look }

  culled_pass : (p : ℕ) (seen : Option Note) (v : View M) → IsPass sender ph own v → IsPass sender ph own (place_culled p seen v)
  culled_pass p None v o = record { view = (refl, o.view.1); number = o.number; phase_is = o.phase_is; own_is = o.own_is; no_ring = o.no_ring; no_look = o.no_look }
  culled_pass p (Some n) v o = record { view = (refl, o.view.1); number = o.number; phase_is = o.phase_is; own_is = o.own_is; no_ring = o.no_ring; no_look = refl }

  pub all_found_pass : (n : ℕ) (v : View M) → IsPass sender ph own v → IsPass sender ph own (all_found n v)
  all_found_pass zero v o = o
  all_found_pass (suc n) v o = found_pass (suc n) (all_found n v) (all_found_pass n v o)

  pub all_culled_pass : (n : ℕ) (v after : View M) → IsCulled n v after → IsPass sender ph own v → IsPass sender ph own after
  all_culled_pass zero v after is o = subst (IsPass sender ph own) (sym is) o
  all_culled_pass (suc n) v after is o = subst (IsPass sender ph own) (sym is.3) (culled_pass (suc n) is.1 is.0 (all_culled_pass n v is.0 is.2 o))
