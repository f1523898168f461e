-- Which word of a table says what. No number hangs on the table's size.
use Rattle.std.specs.Int.{bit_at}
use Rattle.std.specs.Prelude.{◌≡◌, ℕ, ◌+◌, ◌-◌, ◌*◌, ◌/◌, ◌%◌, ◌<◌, Bool, List, length, slice_index, Option}
use Rattle.proxy_laws.specs.declared.actors.Actor.{Actor}
use Rattle.proxy_laws.specs.declared.actors.Note.{Note}
use Rattle.proxy_laws.specs.declared.records.Mark.{Mark}
use Rattle.proxy_laws.specs.Limits.{places_max}
use Rattle.proxy_laws.specs.Maps.{bit}
use Rattle.proxy_laws.specs.Phases.{note_word, turn_word}

abbrev pub refs_at : ℕ
refs_at = 0

abbrev pub turn_at : ℕ → ℕ
turn_at p = 1 + p

-- the words of the mailbox, each with the bits of 64 places
abbrev pub mail_at : ℕ → ℕ
mail_at word = 257 + word

abbrev pub put_at : ℕ → ℕ
put_at p = 261 + 5 * p

abbrev pub taken_at : ℕ → ℕ
taken_at p = 262 + 5 * p

abbrev pub note_at : ℕ → ℕ
note_at p = 263 + 5 * p

abbrev pub life_at : ℕ → ℕ
life_at p = 264 + 5 * p

-- how many jobs of the place are settled. Nothing reads it
abbrev pub settled_at : ℕ → ℕ
settled_at p = 265 + 5 * p

-- the place whose turn this word is
abbrev pub turn_place : ℕ → ℕ
turn_place word = word - turn_at 0

-- the place whose word this is, among those that lie five apart from this one on
abbrev pub place_from : ℕ → ℕ → ℕ
place_from first word = (word - first) / 5

abbrev pub word_count : ℕ → ℕ
word_count places = 261 + 5 * places

-- what the words say; of the mailbox they say all that they have room for
pub record WordsShow (n refs : ℕ) (turn : ℕ → Option Actor) (sent : ℕ → List Mark) (taken : ℕ → ℕ) (notes : ℕ → Note) (life : ℕ → ℕ) (mail : ℕ → Bool) (words : List ℕ) : Type 0 where
  pub wide : length words ≡ word_count n
  pub refs_is : slice_index words refs_at ≡ refs
  pub turn_is : (p : ℕ) → p < n → slice_index words (turn_at p) ≡ turn_word (turn p)
  pub mail_is : (p : ℕ) → p < places_max → bit_at (slice_index words (mail_at (p / 64))) (p % 64) ≡ bit (mail p)
  pub put_is : (p : ℕ) → p < n → slice_index words (put_at p) ≡ length (sent p)
  pub taken_is : (p : ℕ) → p < n → slice_index words (taken_at p) ≡ taken p
  pub note_is : (p : ℕ) → p < n → slice_index words (note_at p) ≡ note_word (notes p)
  pub life_is : (p : ℕ) → p < n → slice_index words (life_at p) ≡ life p
