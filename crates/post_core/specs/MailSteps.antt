-- The steps on the mailbox: the views after them, and what each tells the seat that takes it.
use Rattle.std.specs.Prelude.{◌≡◌, ◌≢◌, ℕ, zero, suc, ◌+◌, ◌-◌, ◌*◌, ◌/◌, ◌^◌, ◌<◌, true, Some, None, slice_index, slice_set, if◌then◌else◌}
use Rattle.std.specs.Int.{trailing_zeros, w64}
use Rattle.atomic_table.specs.Table.{Me, Step}
use Rattle.task_ring.specs.Ring.{RingView}
use Rattle.proxy_laws.specs.declared.actors.Phase.TheVariants as phase
use Rattle.proxy_laws.specs.declared.actors.Serving.TheVariants as serving
use Rattle.proxy_laws.specs.Phases.{is_closed}
use Rattle.post_core.specs.declared.slots.Item.{Item}
use Rattle.post_core.specs.declared.views.View.{View}
use Rattle.post_core.specs.Views.{at_phase, owner_of, with_owner}
use Rattle.post_core.specs.Words.{mail_at}

module _ {M : Type 0} where
  -- The owner has found a word of the mailbox 0. A closed one then knows that it stays so.
  abbrev pub word_empty : ℕ → View M → View M
  word_empty word v = let o = owner_of v in with_owner v (record o {
    empty_mail = slice_set o.empty_mail word (slice_index o.empty_mail word + 1);
    clear = if is_closed o.state then slice_set o.clear word true else o.clear;
  })

  -- the owner has found a notice of p
  abbrev pub notice_found : ℕ → View M → View M
  notice_found p v = with_owner v (record (owner_of v) { noticed = Some p })

  -- the owner has taken the notice of p, and got p under it
  abbrev pub notice_taken : ℕ → View M → View M
  notice_taken p v = let o = owner_of v in with_owner v (record o {
    serving = slice_set o.serving p (serving.Got (o.got + 1));
    got = o.got + 1;
    noticed = None;
  })

  -- the owner has found the words of the mailbox below this one 0, in turn
  abbrev pub words_empty : ℕ → View M → View M
  words_empty zero v = v
  words_empty (suc word) v = word_empty word (words_empty word v)

-- the lowest place of this word of the mailbox, where the word is this number
abbrev pub lowest_in : ℕ → ℕ → ℕ
lowest_in word found = 64 * word + trailing_zeros w64 found

-- The owner has found the words of the mailbox 0 in turn, up to the first that was not, and has taken the notice of p, the
-- lowest place of that one.
abbrev pub IsFirstNotice : {M : Type 0} → ℕ → View M → View M → Type 0
IsFirstNotice p v after = (found : ℕ) × (found ≢ 0) × (p ≡ lowest_in (p / 64) found) × (after ≡ notice_taken p (notice_found p (words_empty (p / 64) v)))

module _ {J M : Type 0} where
  -- a messenger adds its notice
  abbrev pub added_mail : Step (RingView (Item J)) → Me (RingView (Item J)) (View M) → ℕ → Me (RingView (Item J)) (View M) → Type 0
  added_mail st m found m' = m' ≡ (at_phase phase.Referenced m.0, m.1)

  -- the owner looks into a word of the mailbox
  abbrev pub looked_mail : Step (RingView (Item J)) → Me (RingView (Item J)) (View M) → ℕ → Me (RingView (Item J)) (View M) → Type 0
  looked_mail st m found m' = (found ≡ 0 → m' ≡ (word_empty (st.word - mail_at 0) m.0, m.1)) × (found ≢ 0 → (found < 2 ^ 64) × (m' ≡ (notice_found (lowest_in (st.word - mail_at 0) found) m.0, m.1)))

  -- the owner takes a notice that it has found
  abbrev pub took_notice : Step (RingView (Item J)) → Me (RingView (Item J)) (View M) → ℕ → Me (RingView (Item J)) (View M) → Type 0
  took_notice st m found m' = (p : ℕ) → (owner_of m.0).noticed ≡ Some p → (p < st.slots) × ((owner_of m.0).got < 2 ^ 63) × (m' ≡ (notice_taken p m.0, m.1))
