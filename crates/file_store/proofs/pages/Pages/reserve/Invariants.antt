use Rattle.std.proofs.Common.{◌≡◌, ◌≢◌, ℕ, ◌+◌, ◌-◌, ◌/◌, ◌<◌, ◌≤◌, true, length, drop, get_or, IsSome}
use Rattle.file_store.specs.FileBytes.{all_zero}
use Rattle.file_store.specs.Pages.{kept_page, page_at, byte_at, Touches, AreTight}
use Rattle.file_store.proofs.pages.Pages.reserve.Given as goal

-- the pages are kept for the bytes so far, and those that are zeros will get a byte other than 0
abbrev pub invariant-loop-rest : goal.invariant-loop-rest
invariant-loop-rest l = record {
  fits : l.at + length l.rest ≡ l.fn.offset + length l.fn.bytes;
  from : l.fn.offset ≤ l.at;
  left : l.rest ≡ drop (l.at - l.fn.offset) l.fn.bytes;
  same : (i : ℕ) → byte_at l.self i ≡ byte_at l.fn.self i;
  room : (place : ℕ) → place < l.at - l.fn.offset → get_or l.fn.bytes place 0 ≢ 0 → IsSome (kept_page l.self ((l.fn.offset + place) / 4096));
  tight : AreTight l.fn.self → (page : ℕ) → IsSome (kept_page l.self page) → all_zero (page_at l.self page) ≡ true → Touches page l.fn.offset l.fn.bytes;
}

abbrev pub decreases-loop-rest : goal.decreases-loop-rest
decreases-loop-rest l = length l.rest
