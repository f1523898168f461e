-- A set of the numbers of descriptors in words of 64 bits. No public clause cites this module.
use Rattle.std.specs.Prelude.{ℕ, ◌/◌, ◌%◌, ◌==◌, Bool, List, map, slice_index}
use Rattle.std.specs.Int.{bit_at}
use Rattle.std.specs.List.{range_with_len}
use Rattle.wf_core.specs.Limits.{open_max}

-- whether the set has a number: bit n modulo 64 of word n / 64
abbrev pub has_number : List ℕ → ℕ → Bool
has_number words number = bit_at (slice_index words (number / 64)) (number % 64) == 1

-- the set, as the list that says of each number whether the set has it
abbrev pub members : List ℕ → List Bool
members words = map (has_number words) (range_with_len 0 open_max)
