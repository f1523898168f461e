-- The steps on the mailbox, each of which is its event.
use Rattle.std.proofs.Common.{◌≡◌, ◌≢◌, ℕ, ◌+◌, ◌*◌, ◌^◌, ◌%◌, ◌<◌, ◌==◌, Bool, true, false, cond, Some, List, [], get_or, set, refl, arith, ap, sym, subst, ◌∙◌, append-nil, length-set, if◌then◌else◌}
use Rattle.std.specs.Prelude.{IsTrue, ◌/◌, bit_and, bit_or}
use Rattle.std.specs.Int.{bit_at, bit_not, trailing_zeros, w64}
use Rattle.std.proofs.lemmas.Bool.{ne_eqb}
use Rattle.std.proofs.lemmas.List.{get_or-set_same, get_or-set_other, set-get_or}
use Rattle.std.proofs.lemmas.Nat.Bits.{bit_at-trailing_zeros, bit_at-zero}
use mathlib.Core.Logic.{dite}
use mathlib.Core.Option.{some, some-ne-none}
use native.Mathlib.Decide.{ℕ_discrete}
use lib.ListN.{get_elem?}
use Rattle.atomic_table.specs.Table.{State, keeps, stepped}
use Rattle.task_ring.specs.Ring.{RingView}
use Rattle.proxy_laws.specs.declared.actors.Note.TheVariants as note
use Rattle.proxy_laws.specs.declared.actors.OwnerState.{OwnerState}
use Rattle.proxy_laws.specs.declared.actors.OwnerState.TheVariants as owner
use Rattle.proxy_laws.specs.declared.actors.Phase.{Phase}
use Rattle.proxy_laws.specs.declared.actors.Phase.TheVariants as phase
use Rattle.proxy_laws.specs.declared.actors.Serving.TheVariants as serving
use Rattle.proxy_laws.specs.declared.events.Event.TheVariants as event
use Rattle.proxy_laws.specs.declared.records.Mark.{Mark}
use Rattle.proxy_laws.specs.Events.{Enabled, world_after}
use Rattle.proxy_laws.specs.Mailbox.{mail_after_add, notices}
use Rattle.proxy_laws.specs.Maps.{bit, upd}
use Rattle.proxy_laws.specs.Phases.{has_turn_at, is_closed, is_idle, is_messenger}
use Rattle.proxy_laws.specs.Sound.{Sound}
use Rattle.proxy_laws.specs.Worlds.{WorldState, IsWellFormed}
use Rattle.proxy_laws.proofs.Inductive.{event_keeps}
use Rattle.proxy_laws.proofs.Maps.{term_le, upd_case, upd_here, upd_else}
use Rattle.proxy_laws.proofs.References.{has_reference}
use Rattle.proxy_laws.proofs.WellFormed.{worlds_are_well_formed}
use Rattle.post_core.specs.declared.slots.Item.{Item}
use Rattle.post_core.specs.declared.views.OwnerView.{OwnerView}
use Rattle.post_core.specs.declared.views.PassView.{PassView}
use Rattle.post_core.specs.declared.views.View.{View}
use Rattle.post_core.specs.MailSteps.{lowest_in, notice_found, notice_taken, word_empty}
use Rattle.post_core.specs.Rule.{IsEvent, OwnerFits, PassFits, Shown, taken_in}
use Rattle.post_core.specs.Views.{IsPassView, at_phase, owner_of, pass_of}
use Rattle.proxy_laws.specs.Limits.{places_max}
use Rattle.post_core.specs.Words.{WordsShow, mail_at}
use Rattle.post_core.proofs.Bits.{cleared_bits, set_bits}
use Rattle.post_core.proofs.Frames.{owner_views, pass_views}
use Rattle.post_core.proofs.Members.{one_at}
use Rattle.post_core.proofs.Present.{keeps_one, keeps_same, there_set}
use Rattle.post_core.proofs.Sending.{does_else}
use Rattle.post_core.proofs.Sized.{sized_like}
use Rattle.post_core.proofs.Tallied.{Lives, tally_set}
use Rattle.post_core.proofs.Words.{set_mail}

-- the mailbox's note as its words give it
noted_some : (places : ℕ) (mail : ℕ → Bool) (p : ℕ) → p < places → mail p ≡ true → note.Pending ≡ (if notices places mail == 0 then note.None else note.Pending)
noted_some places mail p at is =
    let one : bit (mail p) ≡ 1 = ap bit is in
    let least = term_le places (λ q. bit (mail q)) p at in
    sym (ap (λ b. if b then note.None else note.Pending) (ne_eqb (notices places mail) 0 (λ none. omega arith)))

module _ {J M : Type 0} (meaning : J → M) (suits : ℕ → Mark → M → Type 0) (senders places : ℕ) (s : State (RingView (Item J)) (View M)) (r : Shown meaning suits senders places s) (id : ℕ) (v : View M) (held : List (ℕ × RingView (Item J))) (at : get_elem? s.views id ≡ some v) where
  abbrev w : WorldState
  w = r.world

  inside : (p : ℕ) → p < w.places → p < places_max
  inside p near = let e = r.sized.places_are in let few = r.sized.few_places in omega arith

  -- AddMail, by the messenger of p
  module _ (is_pass : IsPassView v) (p : ℕ) (near : p < places) (brings : (pass_of v).phase ≡ phase.Messenger p) where
    abbrev pass : PassView M
    pass = pass_of v

    fits : PassFits w r.entries r.seat id pass
    fits = (r.views id v at).passes 0 pass (subst (λ ps. get_elem? ps 0 ≡ some pass) (sym is_pass.0) refl)

    here : p < w.places
    here = let e = r.sized.places_are in omega arith

    phase_was : w.phase pass.number ≡ phase.Messenger p
    phase_was = fits.does.phase_is ∙ brings

    may_add : Enabled w (event.AddMail pass.number)
    may_add = record { there = record { sender = fits.near; place = tt }; conditions = subst (λ ph. IsTrue (is_messenger ph)) (sym phase_was) refl }

    abbrev added : WorldState
    added = record w { mail = upd w.mail p true; mail_note = note.Pending; phase = upd w.phase pass.number phase.Referenced }

    added_is : world_after w (event.AddMail pass.number) ≡ added
    added_is = ap (λ (ph : Phase). record w { mail = mail_after_add ph w.mail; mail_note = note.Pending; phase = upd w.phase pass.number phase.Referenced }) phase_was

    open_still : w.owner ≢ owner.Closed
    open_still c = let none = r.sound.closed c in let one = has_reference w pass.number r.sound fits.near (ap is_idle phase_was) in omega arith

    own : PassFits added r.entries r.seat id (record pass { phase = phase.Referenced })
    own = record {
      near = fits.near;
      sits = fits.sits;
      does = record { phase_is = upd_here w.phase pass.number phase.Referenced; look_is = fits.does.look_is; uses_are = fits.does.uses_are; uses_wide = fits.does.uses_wide; few_uses = fits.does.few_uses; few_clones = fits.does.few_clones };
      turns = record {
        turn_here = λ q at_q is. let has = fits.turns.turn_here q at_q is in absurd (let b : has_turn_at q (phase.Messenger p) ≡ true = subst (λ ph. IsTrue (has_turn_at q ph)) brings has in cc);
        ring_is = λ q at_q has. absurd (cc);
      };
      owns = record { own_is = fits.owns.own_is; own_wide = fits.owns.own_wide };
    }

    owner_added : (o : OwnerView M) → OwnerFits w r.entries o → OwnerFits added r.entries o
    owner_added o f = record {
      does = f.does;
      turns = f.turns;
      jobs = f.jobs;
      clears = record {
        clear = λ word is. absurd (open_still (f.clears.clear word is).0);
        noticed = λ q is. let h = f.clears.noticed q is in (h.0, upd_case w.mail p true (λ k b. w.mail k ≡ true → b ≡ true) q (λ same x. refl) (λ ne x. x) h.1);
      };
    }

    pub adds_mail : IsEvent meaning suits senders places s r (event.AddMail pass.number) (stepped s (mail_at (p / 64)) (bit_or (get_or s.words (mail_at (p / 64)) 0) (1 * 2 ^ (p % 64) % 2 ^ 64)) id held (at_phase phase.Referenced v) keeps)
    adds_mail = (
      may_add,
      (
        record {
          world = added;
          entries = r.entries;
          seat = r.seat;
          chief = r.chief;
          sized = sized_like meaning suits senders places w added refl refl (λ q t. refl) r.sized;
          sound = subst Sound added_is (event_keeps (event.AddMail pass.number) w r.sound may_add);
          formed = subst (λ (x : WorldState). IsWellFormed x) added_is (worlds_are_well_formed.kept w (event.AddMail pass.number) r.formed may_add);
          marks = r.marks;
          suited = r.suited;
          words = set_mail places w.refs w.turn w.sent (taken_in w) w.note w.life w.mail s.words r.sized.few_places r.words (p / 64) _ (upd w.mail p true) (let few = r.sized.few_places in omega arith)
              (λ q below same. set_bits w.mail p (get_or s.words (mail_at (p / 64)) 0) q (subst (λ k. bit_at (get_or s.words (mail_at k) 0) (q % 64) ≡ bit (w.mail q)) same (r.words.mail_is q below)) same)
              (λ q below other. upd_else w.mail p true q (λ same. other (ap (λ k. k / 64) same)));
          mail_noted = noted_some w.places (upd w.mail p true) p here (upd_here w.mail p true);
          slots = r.slots;
          views = pass_views w added r.entries r.entries r.seat r.chief s.views r.views id v (at_phase phase.Referenced v) at (λ f so. so) [] (sym (append-nil v.seen)) (λ k f a. absurd (some-ne-none f (sym a))) pass (record pass { phase = phase.Referenced }) is_pass.0 refl refl
              (λ j q ne f. record { near = f.near; sits = f.sits; does = does_else w pass.number phase.Referenced q ne f.does; turns = f.turns; owns = f.owns })
              own
              owner_added;
          tally = tally_set senders places w.life s.views r.tally id (at_phase phase.Referenced v) (λ k q a. subst (Lives senders places w.life s.views r.tally) (one_at (record pass { phase = phase.Referenced }) k q a) (let o = r.tally.each id v at 0 pass (subst (λ ps. get_elem? ps 0 ≡ some pass) (sym is_pass.0) refl) in record { created_are = o.created_are; freed_are = o.freed_are; created_wide = o.created_wide; freed_wide = o.freed_wide; found = o.found }));
          there = there_set senders r.seat r.chief s.views r.there id v (at_phase phase.Referenced v) at (keeps_one v (at_phase phase.Referenced v) pass (record pass { phase = phase.Referenced }) is_pass.0 refl refl refl);
        },
        sym added_is,
      ),
    )

  -- a step of the owner that leaves the world
  module _ (is_owner : v.owner ≡ Some (owner_of v)) where
    abbrev o : OwnerView M
    o = owner_of v

    of : OwnerFits w r.entries o
    of = ((r.views id v at).owner o is_owner).1

    -- the same world, where the owner's view fits it
    abbrev looks : (o' : OwnerView M) (v' : View M) (i : ℕ) → v'.owner ≡ Some o' → v'.passes ≡ v.passes → v'.seen ≡ v.seen → OwnerFits w r.entries o' → Shown meaning suits senders places (stepped s i (get_or s.words i 0) id held v' keeps)
    looks o' v' i is same seen fits_now = record {
      world = w;
      entries = r.entries;
      seat = r.seat;
      chief = r.chief;
      sized = r.sized;
      sound = r.sound;
      formed = r.formed;
      marks = r.marks;
      suited = r.suited;
      words = subst (λ ws. WordsShow places w.refs w.turn w.sent (taken_in w) w.note w.life w.mail ws) (sym (set-get_or s.words i 0)) r.words;
      mail_noted = r.mail_noted;
      slots = r.slots;
      views = owner_views w w r.entries r.entries r.seat r.chief s.views r.views id v v' at (λ f so. so) [] (seen ∙ sym (append-nil v.seen)) (λ k f a. absurd (some-ne-none f (sym a))) o o' is_owner is same (λ j pass f. f) fits_now;
      tally = tally_set senders places w.life s.views r.tally id v' (λ k q a. r.tally.each id v at k q (subst (λ ps. get_elem? ps k ≡ some q) same a));
      there = there_set senders r.seat r.chief s.views r.there id v v' at (keeps_same v v' same o' is);
    }

    -- it is away at every place, and not closing
    module _ (away : (p : ℕ) → get_or o.serving p serving.Away ≡ serving.Away) (ne : o.state ≢ owner.Closing) where
      may_look : Rattle.proxy_laws.specs.Events.MayLookMail w
      may_look = ((λ p near. of.does.serving_is p near ∙ away p), (λ is. ne (sym of.does.state_is ∙ is)))

      -- LookMail
      module _ (word : ℕ) (near : word < 4) where
        may_look_mail : Enabled w (event.LookMail word)
        may_look_mail = record { there = record { sender = tt; place = tt }; conditions = (may_look, near) }

        module _ (none : get_or s.words (mail_at word) 0 ≡ 0) where
          unmailed : (p : ℕ) → p / 64 ≡ word → w.mail p ≡ false
          unmailed p is = of_bit (w.mail p) refl where
            of_bit : (b : Bool) → w.mail p ≡ b → b ≡ false
            of_bit true mailed =
                let bits = r.words.mail_is p (inside p (r.formed.notices p mailed)) in
                let zero_word : bit_at (get_or s.words (mail_at (p / 64)) 0) (p % 64) ≡ 0 = ap (λ k. bit_at (get_or s.words (mail_at k) 0) (p % 64)) is ∙ (ap (λ m. bit_at m (p % 64)) none ∙ bit_at-zero (p % 64)) in
                let one : bit (w.mail p) ≡ 1 = ap bit mailed in absurd (omega arith)
            of_bit false mailed = refl

          clear_after : (b : Bool) → is_closed o.state ≡ b → (k : ℕ) → get_or (cond b (set o.clear word true) o.clear) k false ≡ true → (w.owner ≡ owner.Closed) × ((p : ℕ) → p / 64 ≡ k → w.mail p ≡ false)
          clear_after false not_closed k is = of.clears.clear k is
          clear_after true closed k is = dite (ℕ_discrete k word)
              (λ same. (of.does.state_is ∙ closed_of o.state closed, λ p at_word. unmailed p (at_word ∙ same)))
              (λ other. of.clears.clear k (sym (get_or-set_other o.clear word k true false other) ∙ is)) where
                closed_of : (state : OwnerState) → is_closed state ≡ true → state ≡ owner.Closed
                closed_of owner.Closed e = refl
                closed_of owner.Open e = absurd (cc)
                closed_of owner.Closing e = absurd (cc)

          fits_empty : OwnerFits w r.entries (owner_of (word_empty word v))
          fits_empty = record {
            does = record { state_is = of.does.state_is; serving_is = of.does.serving_is; serving_wide = of.does.serving_wide; got_is = of.does.got_is };
            turns = record { turn_here = of.turns.turn_here; turn_held = of.turns.turn_held; ring_is = of.turns.ring_is };
            jobs = record { jobs_are = of.jobs.jobs_are; marks_are = of.jobs.marks_are; jobs_wide = of.jobs.jobs_wide };
            clears = record { clear = clear_after (is_closed o.state) refl; noticed = of.clears.noticed };
          }

          pub looks_empty : IsEvent meaning suits senders places s r (event.LookMail word) (stepped s (mail_at word) (get_or s.words (mail_at word) 0) id held (word_empty word v) keeps)
          looks_empty = (may_look_mail, (looks (owner_of (word_empty word v)) (word_empty word v) (mail_at word) refl refl refl fits_empty, refl))

        module _ (found : ℕ) (found_is : get_or s.words (mail_at word) 0 ≡ found) (some_bit : found ≢ 0) (fits_word : found < 18446744073709551616) where
          abbrev p : ℕ
          p = lowest_in word found

          lowest : (trailing_zeros w64 found < 64) × (bit_at found (trailing_zeros w64 found) ≡ 1)
          lowest = let h = bit_at-trailing_zeros w64 found (omega arith) (omega arith) in (h.0, h.1)

          word_is : p / 64 ≡ word
          word_is = let low = lowest.0 in omega arith

          bit_is : p % 64 ≡ trailing_zeros w64 found
          bit_is = let low = lowest.0 in omega arith

          mailed : w.mail p ≡ true
          mailed = of_bit (w.mail p) refl where
            bits : bit (w.mail p) ≡ 1
            bits = sym (r.words.mail_is p (let low = lowest.0 in omega arith)) ∙ (ap (λ k. bit_at (get_or s.words (mail_at k) 0) (p % 64)) word_is ∙ (ap (λ m. bit_at m (p % 64)) found_is ∙ (ap (bit_at found) bit_is ∙ lowest.1)))

            of_bit : (b : Bool) → w.mail p ≡ b → b ≡ true
            of_bit true is = refl
            of_bit false is = let none : bit (w.mail p) ≡ 0 = ap bit is in let one = bits in absurd (omega arith)

          fits_found : OwnerFits w r.entries (owner_of (notice_found p v))
          fits_found = record {
            does = record { state_is = of.does.state_is; serving_is = of.does.serving_is; serving_wide = of.does.serving_wide; got_is = of.does.got_is };
            turns = record { turn_here = of.turns.turn_here; turn_held = of.turns.turn_held; ring_is = of.turns.ring_is };
            jobs = record { jobs_are = of.jobs.jobs_are; marks_are = of.jobs.marks_are; jobs_wide = of.jobs.jobs_wide };
            clears = record { clear = of.clears.clear; noticed = λ q is. let same : p ≡ q = cc in subst (λ k. (k < w.places) × (w.mail k ≡ true)) same (r.formed.notices p mailed, mailed) };
          }

          pub looks_found : IsEvent meaning suits senders places s r (event.LookMail word) (stepped s (mail_at word) (get_or s.words (mail_at word) 0) id held (notice_found p v) keeps)
          looks_found = (may_look_mail, (looks (owner_of (notice_found p v)) (notice_found p v) (mail_at word) refl refl refl fits_found, refl))

      -- TakeNotice, of a place whose notice it has found
      module _ (p : ℕ) (found : o.noticed ≡ Some p) where
        there_taken : p < w.places
        there_taken = (of.clears.noticed p found).0

        was_mailed : w.mail p ≡ true
        was_mailed = (of.clears.noticed p found).1

        may_take : Enabled w (event.TakeNotice p)
        may_take = record { there = record { sender = tt; place = there_taken }; conditions = (may_look, was_mailed) }

        abbrev after_take : WorldState
        after_take = world_after w (event.TakeNotice p)

        abbrev view_taken : View M
        view_taken = notice_taken p v

        own_taken : OwnerFits after_take r.entries (owner_of view_taken)
        own_taken = record {
          does = record {
            state_is = of.does.state_is;
            serving_is = λ q at_q. upd_case w.serving p (serving.Got (w.got + 1)) (λ k a. k ≡ q → a ≡ get_or (set o.serving p (serving.Got (o.got + 1))) k serving.Away) q
                (λ same e. ap (λ n. serving.Got (n + 1)) of.does.got_is ∙ (sym (get_or-set_same o.serving p (serving.Got (o.got + 1)) serving.Away (let wide = of.does.serving_wide in omega arith)) ∙ ap (λ k. get_or (set o.serving p (serving.Got (o.got + 1))) k serving.Away) (sym same)))
                (λ other e. of.does.serving_is q at_q ∙ sym (get_or-set_other o.serving p q (serving.Got (o.got + 1)) serving.Away other))
                refl;
            serving_wide = length-set o.serving p (serving.Got (o.got + 1)) ∙ of.does.serving_wide;
            got_is = ap (λ n. n + 1) of.does.got_is;
          };
          turns = record { turn_here = of.turns.turn_here; turn_held = of.turns.turn_held; ring_is = of.turns.ring_is };
          jobs = record { jobs_are = of.jobs.jobs_are; marks_are = of.jobs.marks_are; jobs_wide = of.jobs.jobs_wide };
          clears = record {
            clear = λ word is. let h = of.clears.clear word is in (h.0, λ q at_word. upd_case w.mail p false (λ k b. w.mail k ≡ false → b ≡ false) q (λ same x. refl) (λ other x. x) (h.1 q at_word));
            noticed = λ q is. absurd (cc);
          };
        }

        noted : (b : Bool) → cond b note.None w.mail_note ≡ cond b note.None note.Pending
        noted true = refl
        noted false = r.sound.mail p there_taken was_mailed

        pub takes_notice : IsEvent meaning suits senders places s r (event.TakeNotice p) (stepped s (mail_at (p / 64)) (bit_and (get_or s.words (mail_at (p / 64)) 0) (bit_not w64 (1 * 2 ^ (p % 64) % 2 ^ 64))) id held view_taken keeps)
        takes_notice = (
          may_take,
          (
            record {
              world = after_take;
              entries = r.entries;
              seat = r.seat;
              chief = r.chief;
              sized = sized_like meaning suits senders places w after_take refl refl (λ q t. refl) r.sized;
              sound = event_keeps (event.TakeNotice p) w r.sound may_take;
              formed = worlds_are_well_formed.kept w (event.TakeNotice p) r.formed may_take;
              marks = r.marks;
              suited = r.suited;
              words = set_mail places w.refs w.turn w.sent (taken_in w) w.note w.life w.mail s.words r.sized.few_places r.words (p / 64) _ (upd w.mail p false) (let few = inside p there_taken in omega arith)
                  (λ q below same. cleared_bits w.mail p (get_or s.words (mail_at (p / 64)) 0) q (subst (λ k. bit_at (get_or s.words (mail_at k) 0) (q % 64) ≡ bit (w.mail q)) same (r.words.mail_is q below)) same)
                  (λ q below other. upd_else w.mail p false q (λ same. other (ap (λ k. k / 64) same)));
              mail_noted = noted (notices w.places (upd w.mail p false) == 0);
              slots = r.slots;
              views = owner_views w after_take r.entries r.entries r.seat r.chief s.views r.views id v view_taken at (λ f so. so) [] (sym (append-nil v.seen)) (λ k f a. absurd (some-ne-none f (sym a))) o (owner_of view_taken) is_owner refl refl
                  (λ j pass f. record { near = f.near; sits = f.sits; does = f.does; turns = f.turns; owns = f.owns })
                  own_taken;
              tally = tally_set senders places w.life s.views r.tally id view_taken (λ k q a. r.tally.each id v at k q a);
              there = there_set senders r.seat r.chief s.views r.there id v view_taken at (keeps_same v view_taken refl (owner_of view_taken) refl);
            },
            refl,
          ),
        )
