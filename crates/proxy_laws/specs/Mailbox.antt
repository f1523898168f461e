-- The mailbox: the set of the places with a notice. A table has it as words of 64 bits.
use Rattle.std.specs.Prelude.{◌≡◌, ℕ, ◌<◌, ◌==◌, Bool, true, false, IsTrue, if◌then◌else◌}
use Rattle.proxy_laws.specs.declared.actors.Note.{Note}
use Rattle.proxy_laws.specs.declared.actors.Note.TheVariants as note
use Rattle.proxy_laws.specs.declared.actors.Phase.{Phase}
use Rattle.proxy_laws.specs.declared.actors.Phase.TheVariants as phase
use Rattle.proxy_laws.specs.Maps.{upd, count_below}

-- how many words the mailbox has
abbrev pub mail_words : ℕ
mail_words = 4

-- how many notices are in the mailbox
abbrev pub notices : (places : ℕ) → (ℕ → Bool) → ℕ
notices places mail = count_below places mail

-- p is the lowest place with a notice
pub record IsLowest (mail : ℕ → Bool) (p : ℕ) : Type 0 where
  pub mailed : IsTrue (mail p)
  pub least : (q : ℕ) → q < p → mail q ≡ false

-- the mailbox once a messenger has brought its notice
abbrev pub mail_after_add : Phase → (ℕ → Bool) → ℕ → Bool
mail_after_add (phase.Messenger p) mail = upd mail p true
mail_after_add _ mail = mail

-- the mailbox's note where a notice was taken: none where no other is left
abbrev pub mail_note_after_take : (places : ℕ) → (ℕ → Bool) → Note → Note
mail_note_after_take places mail before = if notices places mail == 0 then note.None else before
