-- What the words show once one of them is set.
use Rattle.std.specs.Int.{bit_at}
use Rattle.std.proofs.Common.{◌≡◌, ◌≢◌, ℕ, ◌+◌, ◌*◌, ◌<◌, ◌≤◌, Bool, Option, List, length, get_or, set, arith, ap, sym, ◌∙◌, length-set}
use Rattle.std.specs.Prelude.{◌/◌, ◌%◌}
use Rattle.std.proofs.lemmas.List.{get_or-set_same, get_or-set_other}
use mathlib.Core.Logic.{dite}
use native.Mathlib.Decide.{ℕ_discrete}
use Rattle.proxy_laws.specs.declared.actors.Actor.{Actor}
use Rattle.proxy_laws.specs.declared.actors.Note.{Note}
use Rattle.proxy_laws.specs.declared.records.Mark.{Mark}
use Rattle.proxy_laws.specs.Maps.{bit, upd}
use Rattle.proxy_laws.specs.Phases.{note_word, turn_word}
use Rattle.proxy_laws.proofs.Maps.{upd_case}
use Rattle.proxy_laws.specs.Limits.{places_max}
use Rattle.post_core.specs.Words.{WordsShow, life_at, mail_at, note_at, place_from, put_at, refs_at, settled_at, taken_at, turn_at, turn_place}

-- a word of a place tells the place
pub place_is : (first p : ℕ) → place_from first (first + 5 * p) ≡ p
place_is first p = omega arith

pub turn_place_is : (p : ℕ) → turn_place (turn_at p) ≡ p
turn_place_is p = omega arith

at_other : (words : List ℕ) (i x k value : ℕ) → k ≢ i → get_or words k 0 ≡ value → get_or (set words i x) k 0 ≡ value
at_other words i x k value ne is = get_or-set_other words i k x 0 ne ∙ is

module _ (n refs : ℕ) (turn : ℕ → Option Actor) (sent : ℕ → List Mark) (taken : ℕ → ℕ) (notes : ℕ → Note) (life : ℕ → ℕ) (mail : ℕ → Bool) (words : List ℕ) (few : n ≤ 256) (o : WordsShow n refs turn sent taken notes life mail words) where
  bit_else : (i x p : ℕ) → mail_at (p / 64) ≢ i → p < places_max → bit_at (get_or (set words i x) (mail_at (p / 64)) 0) (p % 64) ≡ bit (mail p)
  bit_else i x p ne near = ap (λ m. bit_at m (p % 64)) (get_or-set_other words i (mail_at (p / 64)) x 0 ne) ∙ o.mail_is p near

  pub set_turn : (p x : ℕ) (v : Option Actor) → x ≡ turn_word v → p < n → WordsShow n refs (upd turn p v) sent taken notes life mail (set words (turn_at p) x)
  set_turn p x v is near = let wide = o.wide in record {
    wide = length-set words (turn_at p) x ∙ wide;
    refs_is = at_other words (turn_at p) x refs_at _ (λ e. omega arith) o.refs_is;
    turn_is = λ q h. upd_case turn p v (λ k u. get_or (set words (turn_at p) x) (turn_at k) 0 ≡ turn_word u) q
        (λ same. ap (λ k. get_or (set words (turn_at p) x) (turn_at k) 0) same ∙ (get_or-set_same words (turn_at p) x 0 (omega arith) ∙ is))
        (λ ne. at_other words (turn_at p) x (turn_at q) _ (λ e. ne (omega arith)) (o.turn_is q h));
    mail_is = λ q h. bit_else (turn_at p) x q (λ e. omega arith) h;
    put_is = λ q h. at_other words (turn_at p) x (put_at q) _ (λ e. omega arith) (o.put_is q h);
    taken_is = λ q h. at_other words (turn_at p) x (taken_at q) _ (λ e. omega arith) (o.taken_is q h);
    note_is = λ q h. at_other words (turn_at p) x (note_at q) _ (λ e. omega arith) (o.note_is q h);
    life_is = λ q h. at_other words (turn_at p) x (life_at q) _ (λ e. omega arith) (o.life_is q h);
  }

  pub set_put : (p x : ℕ) (v : List Mark) → x ≡ length v → p < n → WordsShow n refs turn (upd sent p v) taken notes life mail (set words (put_at p) x)
  set_put p x v is near = let wide = o.wide in record {
    wide = length-set words (put_at p) x ∙ wide;
    refs_is = at_other words (put_at p) x refs_at _ (λ e. omega arith) o.refs_is;
    turn_is = λ q h. at_other words (put_at p) x (turn_at q) _ (λ e. omega arith) (o.turn_is q h);
    mail_is = λ q h. bit_else (put_at p) x q (λ e. omega arith) h;
    put_is = λ q h. upd_case sent p v (λ k u. get_or (set words (put_at p) x) (put_at k) 0 ≡ length u) q
        (λ same. ap (λ k. get_or (set words (put_at p) x) (put_at k) 0) same ∙ (get_or-set_same words (put_at p) x 0 (omega arith) ∙ is))
        (λ ne. at_other words (put_at p) x (put_at q) _ (λ e. ne (omega arith)) (o.put_is q h));
    taken_is = λ q h. at_other words (put_at p) x (taken_at q) _ (λ e. omega arith) (o.taken_is q h);
    note_is = λ q h. at_other words (put_at p) x (note_at q) _ (λ e. omega arith) (o.note_is q h);
    life_is = λ q h. at_other words (put_at p) x (life_at q) _ (λ e. omega arith) (o.life_is q h);
  }

  pub set_note : (p x : ℕ) (v : Note) → x ≡ note_word v → p < n → WordsShow n refs turn sent taken (upd notes p v) life mail (set words (note_at p) x)
  set_note p x v is near = let wide = o.wide in record {
    wide = length-set words (note_at p) x ∙ wide;
    refs_is = at_other words (note_at p) x refs_at _ (λ e. omega arith) o.refs_is;
    turn_is = λ q h. at_other words (note_at p) x (turn_at q) _ (λ e. omega arith) (o.turn_is q h);
    mail_is = λ q h. bit_else (note_at p) x q (λ e. omega arith) h;
    put_is = λ q h. at_other words (note_at p) x (put_at q) _ (λ e. omega arith) (o.put_is q h);
    taken_is = λ q h. at_other words (note_at p) x (taken_at q) _ (λ e. omega arith) (o.taken_is q h);
    note_is = λ q h. upd_case notes p v (λ k u. get_or (set words (note_at p) x) (note_at k) 0 ≡ note_word u) q
        (λ same. ap (λ k. get_or (set words (note_at p) x) (note_at k) 0) same ∙ (get_or-set_same words (note_at p) x 0 (omega arith) ∙ is))
        (λ ne. at_other words (note_at p) x (note_at q) _ (λ e. ne (omega arith)) (o.note_is q h));
    life_is = λ q h. at_other words (note_at p) x (life_at q) _ (λ e. omega arith) (o.life_is q h);
  }

  pub set_life : (p x : ℕ) (v : ℕ) → x ≡ v → p < n → WordsShow n refs turn sent taken notes (upd life p v) mail (set words (life_at p) x)
  set_life p x v is near = let wide = o.wide in record {
    wide = length-set words (life_at p) x ∙ wide;
    refs_is = at_other words (life_at p) x refs_at _ (λ e. omega arith) o.refs_is;
    turn_is = λ q h. at_other words (life_at p) x (turn_at q) _ (λ e. omega arith) (o.turn_is q h);
    mail_is = λ q h. bit_else (life_at p) x q (λ e. omega arith) h;
    put_is = λ q h. at_other words (life_at p) x (put_at q) _ (λ e. omega arith) (o.put_is q h);
    taken_is = λ q h. at_other words (life_at p) x (taken_at q) _ (λ e. omega arith) (o.taken_is q h);
    note_is = λ q h. at_other words (life_at p) x (note_at q) _ (λ e. omega arith) (o.note_is q h);
    life_is = λ q h. upd_case life p v (λ k u. get_or (set words (life_at p) x) (life_at k) 0 ≡ u) q
        (λ same. ap (λ k. get_or (set words (life_at p) x) (life_at k) 0) same ∙ (get_or-set_same words (life_at p) x 0 (omega arith) ∙ is))
        (λ ne. at_other words (life_at p) x (life_at q) _ (λ e. ne (omega arith)) (o.life_is q h));
  }

  pub set_taken : (p x : ℕ) (taken' : ℕ → ℕ) → x ≡ taken' p → ((q : ℕ) → q ≢ p → taken' q ≡ taken q) → p < n → WordsShow n refs turn sent taken' notes life mail (set words (taken_at p) x)
  set_taken p x taken' is others near = let wide = o.wide in record {
    wide = length-set words (taken_at p) x ∙ wide;
    refs_is = at_other words (taken_at p) x refs_at _ (λ e. omega arith) o.refs_is;
    turn_is = λ q h. at_other words (taken_at p) x (turn_at q) _ (λ e. omega arith) (o.turn_is q h);
    mail_is = λ q h. bit_else (taken_at p) x q (λ e. omega arith) h;
    put_is = λ q h. at_other words (taken_at p) x (put_at q) _ (λ e. omega arith) (o.put_is q h);
    taken_is = λ q h. dite (ℕ_discrete q p)
        (λ same. ap (λ k. get_or (set words (taken_at p) x) (taken_at k) 0) same ∙ (get_or-set_same words (taken_at p) x 0 (omega arith) ∙ (is ∙ ap taken' (sym same))))
        (λ ne. at_other words (taken_at p) x (taken_at q) _ (λ e. ne (omega arith)) (o.taken_is q h) ∙ sym (others q ne));
    note_is = λ q h. at_other words (taken_at p) x (note_at q) _ (λ e. omega arith) (o.note_is q h);
    life_is = λ q h. at_other words (taken_at p) x (life_at q) _ (λ e. omega arith) (o.life_is q h);
  }

  pub set_settled : (p x : ℕ) (taken' : ℕ → ℕ) → ((q : ℕ) → q < n → taken' q ≡ taken q) → p < n → WordsShow n refs turn sent taken' notes life mail (set words (settled_at p) x)
  set_settled p x taken' same near = let wide = o.wide in record {
    wide = length-set words (settled_at p) x ∙ wide;
    refs_is = at_other words (settled_at p) x refs_at _ (λ e. omega arith) o.refs_is;
    turn_is = λ q h. at_other words (settled_at p) x (turn_at q) _ (λ e. omega arith) (o.turn_is q h);
    mail_is = λ q h. bit_else (settled_at p) x q (λ e. omega arith) h;
    put_is = λ q h. at_other words (settled_at p) x (put_at q) _ (λ e. omega arith) (o.put_is q h);
    taken_is = λ q h. at_other words (settled_at p) x (taken_at q) _ (λ e. omega arith) (o.taken_is q h) ∙ sym (same q h);
    note_is = λ q h. at_other words (settled_at p) x (note_at q) _ (λ e. omega arith) (o.note_is q h);
    life_is = λ q h. at_other words (settled_at p) x (life_at q) _ (λ e. omega arith) (o.life_is q h);
  }

  pub set_refs : (x : ℕ) → WordsShow n x turn sent taken notes life mail (set words refs_at x)
  set_refs x = let wide = o.wide in record {
    wide = length-set words (refs_at) x ∙ wide;
    refs_is = get_or-set_same words refs_at x 0 (omega arith);
    turn_is = λ q h. at_other words (refs_at) x (turn_at q) _ (λ e. omega arith) (o.turn_is q h);
    mail_is = λ q h. bit_else (refs_at) x q (λ e. omega arith) h;
    put_is = λ q h. at_other words (refs_at) x (put_at q) _ (λ e. omega arith) (o.put_is q h);
    taken_is = λ q h. at_other words (refs_at) x (taken_at q) _ (λ e. omega arith) (o.taken_is q h);
    note_is = λ q h. at_other words (refs_at) x (note_at q) _ (λ e. omega arith) (o.note_is q h);
    life_is = λ q h. at_other words (refs_at) x (life_at q) _ (λ e. omega arith) (o.life_is q h);
  }

  -- another word of the mailbox, with the bits of its own places
  pub set_mail : (word x : ℕ) (mail' : ℕ → Bool) → word < 4 → ((p : ℕ) → p < places_max → p / 64 ≡ word → bit_at x (p % 64) ≡ bit (mail' p)) → ((p : ℕ) → p < places_max → p / 64 ≢ word → mail' p ≡ mail p) → WordsShow n refs turn sent taken notes life mail' (set words (mail_at word) x)
  set_mail word x mail' near bits others = let wide = o.wide in record {
    wide = length-set words (mail_at word) x ∙ wide;
    refs_is = at_other words (mail_at word) x refs_at _ (λ e. omega arith) o.refs_is;
    turn_is = λ q h. at_other words (mail_at word) x (turn_at q) _ (λ e. omega arith) (o.turn_is q h);
    mail_is = λ q h. dite (ℕ_discrete (q / 64) word)
        (λ same. ap (λ k. bit_at (get_or (set words (mail_at word) x) (mail_at k) 0) (q % 64)) same ∙ (ap (λ m. bit_at m (q % 64)) (get_or-set_same words (mail_at word) x 0 (omega arith)) ∙ bits q h same))
        (λ ne. bit_else (mail_at word) x q (λ e. ne (omega arith)) h ∙ ap bit (sym (others q h ne)));
    put_is = λ q h. at_other words (mail_at word) x (put_at q) _ (λ e. omega arith) (o.put_is q h);
    taken_is = λ q h. at_other words (mail_at word) x (taken_at q) _ (λ e. omega arith) (o.taken_is q h);
    note_is = λ q h. at_other words (mail_at word) x (note_at q) _ (λ e. omega arith) (o.note_is q h);
    life_is = λ q h. at_other words (mail_at word) x (life_at q) _ (λ e. omega arith) (o.life_is q h);
  }
