-- How a text field is spelled, apart from how it is read.
use Rattle.std.specs.Prelude.{◌≡◌, ℕ, ◌+◌, ◌-◌, ◌*◌, ◌≤◌, ◌⊎◌, true, List, [], ◌∷◌, codes}
use Rattle.trace_text.specs.Fields.{is_plain}

-- a digit 0 to 9, `A` to `F` or `a` to `f` has that value
abbrev pub IsHex : ℕ → ℕ → Type 0
IsHex digit value =
    ((48 ≤ digit) × (digit ≤ 57) × (value ≡ digit - 48))
    ⊎ ((65 ≤ digit) × (digit ≤ 70) × (value ≡ digit - 55))
    ⊎ ((97 ≤ digit) × (digit ≤ 102) × (value ≡ digit - 87))

-- a plain byte stands for itself, and `%` with two digits for the byte that they write; `rest` is what follows
abbrev pub SpellsByte : List ℕ → ℕ → List ℕ → Type 0
SpellsByte field byte rest =
    ((is_plain byte ≡ true) × (field ≡ byte ∷ rest))
    ⊎ ((high low h l : ℕ) × (field ≡ 37 ∷ high ∷ low ∷ rest) × IsHex high h × IsHex low l × (byte ≡ 16 * h + l))

abbrev pub SpellsBytes : List ℕ → List ℕ → Type 0
SpellsBytes field [] = field ≡ []
SpellsBytes field (byte ∷ text) = (rest : List ℕ) × SpellsByte field byte rest × SpellsBytes rest text

-- the empty text is `%_`
abbrev pub SpellsText : List ℕ → List ℕ → Type 0
SpellsText field [] = field ≡ codes "%_"
SpellsText field (byte ∷ text) = SpellsBytes field (byte ∷ text)
