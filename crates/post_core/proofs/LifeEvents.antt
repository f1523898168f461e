-- Each step of a pass on the life of a place is its event.
use Rattle.post_core.specs.declared.slots.Item.{Item}
use Rattle.task_ring.specs.Ring.{RingView}
use Rattle.std.proofs.Common.{◌≡◌, ◌≢◌, ℕ, ◌+◌, ◌-◌, ◌<◌, ◌≤◌, List, get_or, set, refl, arith, ap, sym, subst, ◌∙◌, length-set}
use Rattle.std.specs.Prelude.{IsTrue, slice_index}
use Rattle.std.proofs.lemmas.List.{set-get_or}
use mathlib.Core.Option.{some}
use lib.ListN.{get_elem?}
use Rattle.atomic_table.specs.Table.{State, keeps, stepped}
use Rattle.proxy_laws.specs.declared.actors.Look.{Look}
use Rattle.proxy_laws.specs.declared.actors.Look.TheVariants as look
use Rattle.proxy_laws.specs.declared.actors.Phase.TheVariants as phase
use Rattle.proxy_laws.specs.declared.events.Event.TheVariants as event
use Rattle.proxy_laws.specs.declared.records.Mark.{Mark}
use Rattle.proxy_laws.specs.Events.{Enabled}
use Rattle.proxy_laws.specs.Maps.{bit, upd}
use Rattle.proxy_laws.specs.Phases.{has_seen_note, life_after_mark, look_after_release, looks_at, names}
use Rattle.proxy_laws.specs.Worlds.{WorldState}
use Rattle.proxy_laws.proofs.Inductive.{event_keeps}
use Rattle.proxy_laws.proofs.Living.{looked_unused, used_lives}
use Rattle.proxy_laws.proofs.Maps.{upd_here, upd_else}
use Rattle.proxy_laws.proofs.WellFormed.{worlds_are_well_formed}
use Rattle.post_core.specs.declared.views.PassView.{PassView}
use Rattle.post_core.specs.declared.views.View.{View}
use Rattle.post_core.specs.LifeSteps.{freed_after, life_marked, note_looked, place_claimed, place_tried, use_cloned, use_dropped}
use Rattle.post_core.specs.Rule.{IsEvent, PassDoes, PassFits, Shown, Tally, clones_max, taken_in}
use Rattle.post_core.specs.Views.{IsPassView, pass_of}
use Rattle.post_core.specs.Words.{WordsShow, life_at, note_at}
use Rattle.post_core.proofs.LifeMoves.{life_bound, moves, own_life, pass_fits, renumbered, renumbered_all, still_live, tally_marked, tally_same}
use Rattle.post_core.proofs.Words.{set_life}

module _ {J M : Type 0} (meaning : J → M) (suits : ℕ → Mark → M → Type 0) (senders places : ℕ) (s : State (RingView (Item J)) (View M)) (r : Shown meaning suits senders places s) (id p : ℕ) (v : View M) (held : List (ℕ × RingView (Item J))) (at : get_elem? s.views id ≡ some v) (is_pass : IsPassView v) (near : p < places) where
  abbrev w : WorldState
  w = r.world

  abbrev pass : PassView M
  pass = pass_of v

  abbrev t : ℕ
  t = pass.number

  abbrev fits : PassFits w r.entries r.seat id pass
  fits = pass_fits meaning suits senders places s r id v held at is_pass

  inside : p < w.places
  inside = let a = r.sized.places_are in omega arith

  uses_here : w.uses t p ≡ get_or pass.uses p 0
  uses_here = fits.does.uses_are p inside

  words_after : (l x : ℕ) → x ≡ l → WordsShow places w.refs w.turn w.sent (taken_in w) w.note (upd w.life p l) w.mail (set s.words (life_at p) x)
  words_after l x is = set_life places w.refs w.turn w.sent (taken_in w) w.note w.life w.mail s.words r.sized.few_places r.words p x l is near

  same_words : (i x : ℕ) → x ≡ slice_index s.words i → WordsShow places w.refs w.turn w.sent (taken_in w) w.note w.life w.mail (set s.words i x)
  same_words i x is = subst (λ ws. WordsShow places w.refs w.turn w.sent (taken_in w) w.note w.life w.mail ws) (sym (ap (λ k. set s.words i k) is ∙ set-get_or s.words i 0)) r.words

  -- a pass that is idle and has a use of p has one that it may spend
  has_use : pass.phase ≡ phase.Idle → 0 < get_or pass.uses p 0 → bit (names p (w.phase t)) < w.uses t p
  has_use idle used = subst (λ ph. bit (names p ph) < w.uses t p) (sym (fits.does.phase_is ∙ idle)) (let a = uses_here in let none : bit (names p phase.Idle) ≡ 0 = refl in omega arith)

  -- CloneUse
  module _ (idle : pass.phase ≡ phase.Idle) (used : 0 < get_or pass.uses p 0) (few : pass.clones < clones_max) where
    may_clone : Enabled w (event.CloneUse t p)
    may_clone = record { there = record { sender = fits.near; place = inside }; conditions = has_use idle used }

    abbrev more : ℕ → ℕ → ℕ
    more = upd w.uses t (upd (w.uses t) p (w.uses t p + 1))

    does_clone : PassDoes w.places w.phase w.look more (pass_of (use_cloned p v))
    does_clone = record {
      phase_is = fits.does.phase_is;
      look_is = fits.does.look_is;
      uses_are = λ q below. ap (λ f. f q) (upd_here w.uses t (upd (w.uses t) p (w.uses t p + 1))) ∙ renumbered w.places p (w.uses t p + 1) (get_or pass.uses p 0 + 1) (w.uses t) pass.uses (ap (λ k. k + 1) uses_here) fits.does.uses_wide inside fits.does.uses_are q below;
      uses_wide = length-set pass.uses p _ ∙ fits.does.uses_wide;
      few_uses = renumbered_all (λ k. k ≤ 1 + (pass.clones + 1)) w.places p (get_or pass.uses p 0 + 1) pass.uses fits.does.uses_wide inside (let a = fits.does.few_uses p inside in omega arith) (λ q below. (let a = fits.does.few_uses q below in omega arith));
      few_clones = omega arith;
    }

    pub life_small : slice_index s.words (life_at p) + 1 < 18446744073709551616
    life_small = let a = life_bound meaning suits senders places s r id v held at is_pass p inside in let b = r.words.life_is p near in omega arith

    pub clones_use : (x : ℕ) → x ≡ slice_index s.words (life_at p) + 1 → IsEvent meaning suits senders places s r (event.CloneUse t p) (stepped s (life_at p) x id held (use_cloned p v) keeps)
    clones_use x is = (
      may_clone,
      moves meaning suits senders places s r id v held at is_pass (upd w.life p (w.life p + 1)) more w.look (set pass.uses p (get_or pass.uses p 0 + 1)) (pass.clones + 1) pass.look pass.tried pass.freed (life_at p) x
          (event_keeps (event.CloneUse t p) w r.sound may_clone) (worlds_are_well_formed.kept w (event.CloneUse t p) r.formed may_clone) (words_after (w.life p + 1) x (is ∙ ap (λ k. k + 1) (r.words.life_is p near)))
          does_clone (λ q ne. refl) (λ q ne. upd_else w.uses t (upd (w.uses t) p (w.uses t p + 1)) q ne)
          (tally_same meaning suits senders places s r id v held at is_pass (set pass.uses p (get_or pass.uses p 0 + 1)) (pass.clones + 1) pass.look pass.tried (upd w.life p (w.life p + 1))
          (still_live meaning suits senders places s r id v held at is_pass p (w.life p + 1) (λ e. omega arith) (λ e. let a = used_lives w t p r.sound fits.near inside (let b = uses_here in omega arith) in omega arith))),
    )

  -- ReleaseUse
  module _ (idle : pass.phase ≡ phase.Idle) (used : 0 < get_or pass.uses p 0) (nowhere : pass.look ≡ look.Nowhere) (other : p ≢ 0) where
    may_release : Enabled w (event.ReleaseUse t p)
    may_release = record { there = record { sender = fits.near; place = inside }; conditions = (fits.does.look_is ∙ nowhere, (has_use idle used, other)) }

    pub life_is_own : slice_index s.words (life_at p) ≡ 2 + get_or pass.uses p 0
    life_is_own = let a = own_life meaning suits senders places s r id v held at is_pass p inside other (let b = uses_here in omega arith) in let b = uses_here in let c = r.words.life_is p near in omega arith

    pub life_fits : slice_index s.words (life_at p) < 18446744073709551616
    life_fits = let a = life_bound meaning suits senders places s r id v held at is_pass p inside in let b = r.words.life_is p near in omega arith

    left_is : w.life p - 1 ≡ get_or pass.uses p 0 + 1
    left_is = let a = life_is_own in let b = r.words.life_is p near in omega arith

    abbrev fewer : ℕ → ℕ → ℕ
    fewer = upd w.uses t (upd (w.uses t) p (w.uses t p - 1))

    abbrev looks : ℕ → Look
    looks = upd w.look t (look_after_release (w.life p - 1) p (w.look t))

    does_release : PassDoes w.places w.phase looks fewer (pass_of (use_dropped p v))
    does_release = record {
      phase_is = fits.does.phase_is;
      look_is = upd_here w.look t (look_after_release (w.life p - 1) p (w.look t)) ∙ (λ i. look_after_release (left_is i) p (fits.does.look_is i));
      uses_are = λ q below. ap (λ f. f q) (upd_here w.uses t (upd (w.uses t) p (w.uses t p - 1))) ∙ renumbered w.places p (w.uses t p - 1) (get_or pass.uses p 0 - 1) (w.uses t) pass.uses (ap (λ k. k - 1) uses_here) fits.does.uses_wide inside fits.does.uses_are q below;
      uses_wide = length-set pass.uses p _ ∙ fits.does.uses_wide;
      few_uses = renumbered_all (λ k. k ≤ 1 + pass.clones) w.places p (get_or pass.uses p 0 - 1) pass.uses fits.does.uses_wide inside (let a = fits.does.few_uses p inside in omega arith) fits.does.few_uses;
      few_clones = fits.does.few_clones;
    }

    pub releases_use : (x : ℕ) → x ≡ slice_index s.words (life_at p) - 1 → IsEvent meaning suits senders places s r (event.ReleaseUse t p) (stepped s (life_at p) x id held (use_dropped p v) keeps)
    releases_use x is = (
      may_release,
      moves meaning suits senders places s r id v held at is_pass (upd w.life p (w.life p - 1)) fewer looks (set pass.uses p (get_or pass.uses p 0 - 1)) pass.clones (look_after_release (get_or pass.uses p 0 + 1) p pass.look) pass.tried pass.freed (life_at p) x
          (event_keeps (event.ReleaseUse t p) w r.sound may_release) (worlds_are_well_formed.kept w (event.ReleaseUse t p) r.formed may_release) (words_after (w.life p - 1) x (is ∙ ap (λ k. k - 1) (r.words.life_is p near)))
          does_release (λ q ne. upd_else w.look t _ q ne) (λ q ne. upd_else w.uses t (upd (w.uses t) p (w.uses t p - 1)) q ne)
          (tally_same meaning suits senders places s r id v held at is_pass (set pass.uses p (get_or pass.uses p 0 - 1)) pass.clones (look_after_release (get_or pass.uses p 0 + 1) p pass.look) pass.tried (upd w.life p (w.life p - 1))
          (still_live meaning suits senders places s r id v held at is_pass p (w.life p - 1) (λ e. let a = left_is in omega arith) (λ e. let a = left_is in omega arith))),
    )

  -- Claim, of a zombie
  module _ (nowhere : pass.look ≡ look.Nowhere) where
    module _ (zombie : slice_index s.words (life_at p) ≡ 1) where
      life_one : w.life p ≡ 1
      life_one = let a = r.words.life_is p near in omega arith

      may_claim : Enabled w (event.Claim t p)
      may_claim = record { there = record { sender = fits.near; place = inside }; conditions = (fits.does.look_is ∙ nowhere, life_one) }

      pub claims : IsEvent meaning suits senders places s r (event.Claim t p) (stepped s (life_at p) 2 id held (place_claimed p v) keeps)
      claims = (
        may_claim,
        moves meaning suits senders places s r id v held at is_pass (upd w.life p 2) w.uses (upd w.look t (look.At p)) pass.uses pass.clones (look.At p) (set pass.tried p (get_or pass.tried p 0 + 1)) pass.freed (life_at p) 2
            (event_keeps (event.Claim t p) w r.sound may_claim) (worlds_are_well_formed.kept w (event.Claim t p) r.formed may_claim) (words_after 2 2 refl)
            (record { phase_is = fits.does.phase_is; look_is = upd_here w.look t (look.At p); uses_are = fits.does.uses_are; uses_wide = fits.does.uses_wide; few_uses = fits.does.few_uses; few_clones = fits.does.few_clones })
            (λ q ne. upd_else w.look t (look.At p) q ne) (λ q ne. refl)
            (tally_same meaning suits senders places s r id v held at is_pass pass.uses pass.clones (look.At p) (set pass.tried p (get_or pass.tried p 0 + 1)) (upd w.life p 2)
            (still_live meaning suits senders places s r id v held at is_pass p 2 (λ e. omega arith) (λ e. let a = life_one in omega arith))),
      )

    -- where it is none, the pass has tried
    pub tries : (x : ℕ) → x ≡ slice_index s.words (life_at p) → Shown meaning suits senders places (stepped s (life_at p) x id held (place_tried p v) keeps)
    tries x is = (moves meaning suits senders places s r id v held at is_pass w.life w.uses w.look pass.uses pass.clones pass.look (set pass.tried p (get_or pass.tried p 0 + 1)) pass.freed (life_at p) x r.sound r.formed (same_words (life_at p) x is)
        (record { phase_is = fits.does.phase_is; look_is = fits.does.look_is; uses_are = fits.does.uses_are; uses_wide = fits.does.uses_wide; few_uses = fits.does.few_uses; few_clones = fits.does.few_clones })
        (λ q ne. refl) (λ q ne. refl)
        (tally_same meaning suits senders places s r id v held at is_pass pass.uses pass.clones pass.look (set pass.tried p (get_or pass.tried p 0 + 1)) w.life (λ q. refl))).0

  -- LookNote, and MarkLife after it
  module _ (looks_here : IsTrue (looks_at p pass.look)) where
    looking : IsTrue (looks_at p (w.look t))
    looking = subst (λ l. IsTrue (looks_at p l)) (sym fits.does.look_is) looks_here

    may_look : Enabled w (event.LookNote t p)
    may_look = record { there = record { sender = fits.near; place = inside }; conditions = looking }

    pub looks_note : (x : ℕ) → x ≡ slice_index s.words (note_at p) → IsEvent meaning suits senders places s r (event.LookNote t p) (stepped s (note_at p) x id held (note_looked p (w.note p) v) keeps)
    looks_note x is = (
      may_look,
      moves meaning suits senders places s r id v held at is_pass w.life w.uses (upd w.look t (look.Saw p (w.note p))) pass.uses pass.clones (look.Saw p (w.note p)) pass.tried pass.freed (note_at p) x
          (event_keeps (event.LookNote t p) w r.sound may_look) (worlds_are_well_formed.kept w (event.LookNote t p) r.formed may_look) (same_words (note_at p) x is)
          (record { phase_is = fits.does.phase_is; look_is = upd_here w.look t (look.Saw p (w.note p)); uses_are = fits.does.uses_are; uses_wide = fits.does.uses_wide; few_uses = fits.does.few_uses; few_clones = fits.does.few_clones })
          (λ q ne. upd_else w.look t (look.Saw p (w.note p)) q ne) (λ q ne. refl)
          (tally_same meaning suits senders places s r id v held at is_pass pass.uses pass.clones (look.Saw p (w.note p)) pass.tried w.life (λ q. refl)),
    )

    module _ (saw : IsTrue (has_seen_note pass.look)) where
      may_mark : Enabled w (event.MarkLife t p)
      may_mark = record { there = record { sender = fits.near; place = inside }; conditions = (looking, subst (λ l. IsTrue (has_seen_note l)) (sym fits.does.look_is) saw) }

      not_free : w.life p ≢ 0
      not_free e = let a = looked_unused w t p r.sound fits.near inside looking in omega arith

      pub marks_life : IsEvent meaning suits senders places s r (event.MarkLife t p) (stepped s (life_at p) (life_after_mark pass.look) id held (life_marked p v) keeps)
      marks_life = (
        may_mark,
        moves meaning suits senders places s r id v held at is_pass (upd w.life p (life_after_mark (w.look t))) w.uses (upd w.look t look.Nowhere) pass.uses pass.clones look.Nowhere pass.tried (freed_after (life_after_mark pass.look) p pass.freed) (life_at p) (life_after_mark pass.look)
            (event_keeps (event.MarkLife t p) w r.sound may_mark) (worlds_are_well_formed.kept w (event.MarkLife t p) r.formed may_mark) (words_after (life_after_mark (w.look t)) (life_after_mark pass.look) (ap life_after_mark (sym fits.does.look_is)))
            (record { phase_is = fits.does.phase_is; look_is = upd_here w.look t look.Nowhere; uses_are = fits.does.uses_are; uses_wide = fits.does.uses_wide; few_uses = fits.does.few_uses; few_clones = fits.does.few_clones })
            (λ q ne. upd_else w.look t look.Nowhere q ne) (λ q ne. refl)
            (subst (λ l. Tally senders places (upd w.life p l) (set s.views id (life_marked p v))) (ap life_after_mark (sym fits.does.look_is))
            (tally_marked meaning suits senders places s r id v held at is_pass p near not_free look.Nowhere (life_after_mark pass.look))),
      )
