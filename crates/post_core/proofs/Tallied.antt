-- The tally of places, where the passes of a seat change.
use Rattle.std.proofs.Common.{◌≡◌, ℕ, List, [], ◌∷◌, ◌++◌, set, subst, ⊎_elim}
use mathlib.Core.Option.{some}
use lib.ListN.{get_elem?}
use Rattle.atomic_table.proofs.Lists.{at_set}
use Rattle.proxy_laws.specs.Maps.{sum_below}
use Rattle.post_core.specs.declared.views.PassView.{PassView}
use Rattle.post_core.specs.declared.views.View.{View}
use Rattle.post_core.specs.Rule.{PassLives, Tally}
use Rattle.post_core.proofs.Members.{at_end}

module _ {M : Type 0} (senders places : ℕ) (life : ℕ → ℕ) (views : List (View M)) (o : Tally senders places life views) where
  abbrev pub Lives : PassView M → Type 0
  Lives pass = PassLives places o.created o.freed (λ p. sum_below senders (λ s. o.created s p)) pass

  -- a seat has other passes, each of which fits
  abbrev pub tally_set : (id : ℕ) (v : View M) → ((k : ℕ) (pass : PassView M) → get_elem? v.passes k ≡ some pass → Lives pass) → Tally senders places life (set views id v)
  tally_set id v new = record {
    created = o.created;
    freed = o.freed;
    balanced = o.balanced;
    each = λ j x at. ⊎_elim
        (λ h. subst (λ (y : View M). (k : ℕ) (pass : PassView M) → get_elem? y.passes k ≡ some pass → Lives pass) h.1 new)
        (λ h. o.each j x h.1)
        (at_set views id j v x at);
  }

  -- a new seat comes
  abbrev pub tally_end : (v : View M) → ((k : ℕ) (pass : PassView M) → get_elem? v.passes k ≡ some pass → Lives pass) → Tally senders places life (views ++ v ∷ [])
  tally_end v new = record {
    created = o.created;
    freed = o.freed;
    balanced = o.balanced;
    each = λ j x at. ⊎_elim
        (λ h. o.each j x h.1)
        (λ h. subst (λ (y : View M). (k : ℕ) (pass : PassView M) → get_elem? y.passes k ≡ some pass → Lives pass) h.1 new)
        (at_end views v x j at);
  }
