-- Seats that are joined and split: the world stays, and the map from senders to seats changes.
use Rattle.std.proofs.Common.{refl, ◌≡◌, ◌≢◌, ℕ, ◌-◌, ◌==◌, Option, Some, None, List, length, set, arith, ap, sym, subst, ◌∙◌, ⊎_elim, if◌then◌else◌}
use Rattle.std.proofs.lemmas.Bool.Decides.{nat_tests}
use mathlib.Core.Option.{some, some-ne-none}
use lib.ListN.{get_elem?}
use Rattle.atomic_table.specs.Table.{Joins, Splits}
use Rattle.atomic_table.proofs.Lists.{at_set, set_else}
use Rattle.post_core.proofs.Members.{at_append, at_end}
use Rattle.post_core.proofs.Present.{there_end, there_joined, there_set}
use Rattle.post_core.proofs.Tallied.{tally_end, tally_set}
use Rattle.proxy_laws.specs.declared.records.Mark.{Mark}
use Rattle.proxy_laws.specs.Worlds.{WorldState}
use Rattle.post_core.specs.declared.views.Entry.{Entry}
use Rattle.post_core.specs.declared.views.OwnerView.{OwnerView}
use Rattle.post_core.specs.declared.views.PassView.{PassView}
use Rattle.post_core.specs.declared.views.View.{View}
use Rattle.post_core.specs.Rule.{Fits, PassFits, Shown}
use Rattle.post_core.specs.Views.{joined, spent_view, either_owner, noted}

-- the senders of the seat `other` have the seat id
abbrev pub moved : (ℕ → ℕ) → ℕ → ℕ → ℕ → ℕ
moved seat other id t = if seat t == other then id else seat t

moves_other : (seat : ℕ → ℕ) (other id t j : ℕ) → seat t ≡ j → j ≢ other → moved seat other id t ≡ j
moves_other seat other id t j is ne = grind (arith, nat_tests)

moves_there : (seat : ℕ → ℕ) (other id t : ℕ) → seat t ≡ other → moved seat other id t ≡ id
moves_there seat other id t is = grind (arith, nat_tests)

module _ {M : Type 0} (w : WorldState) (entries : ℕ → List (Entry M)) where
  -- the same pass at another seat
  pub reseated : (seat seat' : ℕ → ℕ) (j j' : ℕ) (v : PassView M) → seat' v.number ≡ j' → PassFits w entries seat j v → PassFits w entries seat' j' v
  reseated seat seat' j j' v sits f = record { near = f.near; sits = sits; does = f.does; turns = f.turns; owns = f.owns }

  pub fits_spent : (seat : ℕ → ℕ) (chief j : ℕ) → Fits w entries seat chief j spent_view
  fits_spent seat chief j = record {
    passes = λ k pass at. absurd (some-ne-none pass (sym at));
    apart = λ k m a b at at' same. absurd (some-ne-none a (sym at));
    owner = λ o is. absurd (cc);
    seen = λ k f at. absurd (some-ne-none f (sym at));
  }

  module _ (seat : ℕ → ℕ) (chief : ℕ) where
    pub fits_moved : (other id j : ℕ) (v : View M) → j ≢ other → Fits w entries seat chief j v → Fits w entries (moved seat other id) chief j v
    fits_moved other id j v ne f = record {
      passes = λ k pass at. let p = f.passes k pass at in reseated seat (moved seat other id) j j pass (moves_other seat other id pass.number j p.sits ne) p;
      apart = f.apart;
      owner = f.owner;
      seen = f.seen;
    }

    owner_joined : (a b : Option (OwnerView M)) (o : OwnerView M) → b ≡ None → either_owner a b ≡ Some o → a ≡ Some o
    owner_joined None b o none is = absurd (cc)
    owner_joined (Some x) b o none is = is

    pub fits_joined : (other id : ℕ) (v u : View M) → other ≢ id → u.owner ≡ None → Fits w entries seat chief id v → Fits w entries seat chief other u → Fits w entries (moved seat other id) chief id (joined v u)
    fits_joined other id v u ne none f g = record {
      passes = λ k pass at. ⊎_elim
          (λ h. let p = f.passes k pass h.1 in reseated seat (moved seat other id) id id pass (moves_other seat other id pass.number id p.sits (λ e. ne (sym e))) p)
          (λ h. let p = g.passes (k - length v.passes) pass h.1 in reseated seat (moved seat other id) other id pass (moves_there seat other id pass.number p.sits) p)
          (at_append v.passes u.passes k pass at);
      apart = λ k m a b at at' same. ⊎_elim
          (λ h. ⊎_elim
          (λ h'. f.apart k m a b h.1 h'.1 same)
          (λ h'. absurd (ne (sym ((g.passes (m - length v.passes) b h'.1).sits) ∙ (ap seat (sym same) ∙ (f.passes k a h.1).sits))))
          (at_append v.passes u.passes m b at'))
          (λ h. ⊎_elim
          (λ h'. absurd (ne (sym ((g.passes (k - length v.passes) a h.1).sits) ∙ (ap seat same ∙ (f.passes m b h'.1).sits))))
          (λ h'. let e = g.apart (k - length v.passes) (m - length v.passes) a b h.1 h'.1 same in let l = h.0 in let l' = h'.0 in omega arith)
          (at_append v.passes u.passes m b at'))
          (at_append v.passes u.passes k a at);
      owner = λ o is. f.owner o (owner_joined v.owner u.owner o none is);
      seen = λ k x at. ⊎_elim (λ h. f.seen k x h.1) (λ h. g.seen (k - length v.seen) x h.1) (at_append v.seen u.seen k x at);
    }

    -- a note, at any seat
    pub fits_noted : (id j : ℕ) (v : View M) → Fits w entries seat chief id v → Fits w entries seat chief j (noted v)
    fits_noted id j v f = record {
      passes = λ k pass at. absurd (some-ne-none pass (sym at));
      apart = λ k m a b at at' same. absurd (some-ne-none a (sym at));
      owner = λ o is. absurd (cc);
      seen = f.seen;
    }

module _ {J M : Type 0} (meaning : J → M) (suits : ℕ → Mark → M → Type 0) (senders places : ℕ) where
  pub joins : (id other : ℕ) (v u : View M) → u.owner ≡ None → Joins (Shown meaning suits senders places) id v other u (joined v u) spent_view
  joins id other v u none s r at ne at' =
      let there : get_elem? s.views other ≡ some u = sym (set_else s.views id other (joined v u) ne) ∙ at' in
      record {
        world = r.world;
        entries = r.entries;
        seat = moved r.seat other id;
        chief = r.chief;
        sized = r.sized;
        sound = r.sound;
        formed = r.formed;
        marks = r.marks;
        suited = r.suited;
        words = r.words;
        mail_noted = r.mail_noted;
        slots = r.slots;
        views = λ j x is. ⊎_elim
            (λ h. subst (λ y. Fits r.world r.entries (moved r.seat other id) r.chief j y) h.1 (fits_spent r.world r.entries (moved r.seat other id) r.chief j))
            (λ h. ⊎_elim
            (λ h'. subst (λ y. Fits r.world r.entries (moved r.seat other id) r.chief j y) h'.1 (subst (λ i. Fits r.world r.entries (moved r.seat other id) r.chief i (joined v u)) (sym h'.0) (fits_joined r.world r.entries r.seat r.chief other id v u ne none (r.views id v at) (r.views other u there))))
            (λ h'. fits_moved r.world r.entries r.seat r.chief other id j x h.0 (r.views j x h'.1))
            (at_set s.views id j (joined v u) x h.1))
            (at_set (set s.views id (joined v u)) other j spent_view x is);
        tally = tally_set senders places r.world.life (set s.views id (joined v u))
            (tally_set senders places r.world.life s.views r.tally id (joined v u) (λ k pass a. ⊎_elim (λ h. r.tally.each id v at k pass h.1) (λ h. r.tally.each other u there (k - length v.passes) pass h.1) (at_append v.passes u.passes k pass a)))
            other spent_view (λ k pass a. absurd (some-ne-none pass (sym a)));
        there = there_joined senders r.seat (moved r.seat other id) r.chief s.views r.there id other v u spent_view ne at there none (λ t is. moves_there r.seat other id t is) (λ t far. moves_other r.seat other id t (r.seat t) refl far);
      }

  -- a seat stays as it is, and a new one has a copy of what it has seen
  pub notes : (id : ℕ) (v : View M) → Splits (Shown meaning suits senders places) id v v (noted v)
  notes id v s r at = record {
    world = r.world;
    entries = r.entries;
    seat = r.seat;
    chief = r.chief;
    sized = r.sized;
    sound = r.sound;
    formed = r.formed;
    marks = r.marks;
    suited = r.suited;
    words = r.words;
    mail_noted = r.mail_noted;
    slots = r.slots;
    views = λ j x is. ⊎_elim
        (λ h. ⊎_elim
        (λ h'. subst (λ y. Fits r.world r.entries r.seat r.chief j y) h'.1 (subst (λ i. Fits r.world r.entries r.seat r.chief i v) (sym h'.0) (r.views id v at)))
        (λ h'. r.views j x h'.1)
        (at_set s.views id j v x h.1))
        (λ h. subst (λ y. Fits r.world r.entries r.seat r.chief j y) h.1 (fits_noted r.world r.entries r.seat r.chief id j v (r.views id v at)))
        (at_end (set s.views id v) (noted v) x j is);
    tally = tally_end senders places r.world.life (set s.views id v) (tally_set senders places r.world.life s.views r.tally id v (λ k pass a. r.tally.each id v at k pass a)) (noted v) (λ k pass a. absurd (some-ne-none pass (sym a)));
    there = there_end senders r.seat r.chief (set s.views id v) (there_set senders r.seat r.chief s.views r.there id v v at (record { passes = λ k pass a. (k, pass, a, refl); owner = λ o is. (o, is) })) (noted v);
  }
