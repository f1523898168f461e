-- An owner that finds words of the mailbox 0 stands as it did.
use Rattle.std.proofs.Common.{◌≡◌, ◌≢◌, ℕ, zero, suc, get_or, refl, ap, sym, subst, ◌∙◌}
use Rattle.proxy_laws.specs.declared.actors.OwnerState.TheVariants as owner
use Rattle.proxy_laws.specs.declared.actors.Serving.TheVariants as serving
use Rattle.post_core.specs.declared.views.View.{View}
use Rattle.post_core.specs.MailSteps.{notice_found, words_empty}
use Rattle.post_core.specs.ServingSteps.{serving_at}
use Rattle.post_core.specs.Views.{IsOwnerView, owner_of}

module _ {M : Type 0} where
  words_keep : (word : ℕ) (v : View M) → IsOwnerView v → IsOwnerView (words_empty word v) × ((owner_of (words_empty word v)).state ≡ (owner_of v).state) × ((owner_of (words_empty word v)).serving ≡ (owner_of v).serving) × ((owner_of (words_empty word v)).got ≡ (owner_of v).got)
  words_keep zero v is = (is, refl, refl, refl)
  words_keep (suc word) v is = let h = words_keep word v is in ((h.0.0, refl), h.1, h.2, h.3)

  -- it may look into the mailbox, and is at no place
  abbrev pub Looks : View M → Type 0
  Looks u = (IsOwnerView u × ((owner_of u).state ≡ owner.Closing → ⊥)) × ((q : ℕ) → serving_at q u ≡ serving.Away)

  pub looks_still : (word : ℕ) (v u : View M) → u ≡ words_empty word v → IsOwnerView v × ((owner_of v).state ≢ owner.Closing) → ((q : ℕ) → serving_at q v ≡ serving.Away) → Looks u
  looks_still word v u is may away = let k = words_keep word v may.0 in subst Looks (sym is) ((k.0, λ e. may.1 (sym k.1 ∙ e)), λ q. ap (λ at_places. get_or at_places q serving.Away) k.2 ∙ away q)

  pub looks_found : (p : ℕ) (v u : View M) → u ≡ notice_found p v → Looks v → Looks u
  looks_found p v u is o = subst Looks (sym is) (((o.0.0.0, refl), o.0.1), o.1)

  pub got_still : (word p : ℕ) (v u x : View M) → IsOwnerView v → u ≡ words_empty word v → x ≡ notice_found p u → (owner_of x).got ≡ (owner_of v).got
  got_still word p v u x is u_is x_is = ap (λ y. (owner_of y).got) x_is ∙ (ap (λ y. (owner_of y).got) u_is ∙ (words_keep word v is).3)
