-- How a file's bytes are kept in pages. No public clause cites this module.
use Rattle.std.specs.Prelude.{◌≡◌, ◌≢◌, ℕ, ◌+◌, ◌-◌, ◌/◌, ◌%◌, ◌<◌, ◌≤◌, ◌&&◌, true, false, nat_lt, nat_le, List, length, replicate, map, slice_index, Option, IsSome, unwrap_or, if◌then◌else◌}
use Rattle.std.specs.Ordering.{nat_cmp}
use Rattle.std.specs.BTreeMap.{is_at}
use Rattle.std.specs.Map.{lookup}
use Rattle.std.specs.List.{range_with_len}
use Rattle.wf_core.specs.Limits.{page_size}
use Rattle.file_store.specs.FileBytes.{all_zero}

-- the pages that are kept, by their numbers
abbrev pub PageEntries : Type 0
PageEntries = List (ℕ × List ℕ)

abbrev pub zero_page : List ℕ
zero_page = replicate page_size 0

abbrev pub kept_page : PageEntries → ℕ → Option (List ℕ)
kept_page pages page = lookup (is_at (nat_cmp page)) pages

-- a page. One that is not kept is zeros
abbrev pub page_at : PageEntries → ℕ → List ℕ
page_at pages page = unwrap_or (kept_page pages page) zero_page

-- the byte at an offset
abbrev pub byte_at : PageEntries → ℕ → ℕ
byte_at pages offset = slice_index (page_at pages (offset / page_size)) (offset % page_size)

-- the bytes of a file of that size
abbrev pub flat : ℕ → PageEntries → List ℕ
flat size pages = map (byte_at pages) (range_with_len 0 size)

-- the byte at an offset, where new bytes were written over what stood there
abbrev pub overlay_byte : (ℕ → ℕ) → ℕ → List ℕ → ℕ → ℕ
overlay_byte old offset new at = if nat_le offset at && nat_lt at (offset + length new) then slice_index new (at - offset) else old at

-- each page is whole
abbrev pub AreWhole : PageEntries → Type 0
AreWhole pages = (page : ℕ) → length (page_at pages page) ≡ page_size

-- no page that is kept is zeros
abbrev pub AreTight : PageEntries → Type 0
AreTight pages = (page : ℕ) → IsSome (kept_page pages page) → all_zero (page_at pages page) ≡ false

-- some byte other than 0 is to be written into that page
abbrev pub Touches : ℕ → ℕ → List ℕ → Type 0
Touches page offset new = (place : ℕ) × (place < length new) × ((offset + place) / page_size ≡ page) × (slice_index new place ≢ 0)

-- the pages are kept into which bytes other than 0 are to be written, and no other page that is kept is zeros
pub record AreReadyFor (pages : PageEntries) (offset : ℕ) (new : List ℕ) : Type 0 where
  pub room : (page : ℕ) → Touches page offset new → IsSome (kept_page pages page)
  pub tight : (page : ℕ) → IsSome (kept_page pages page) → all_zero (page_at pages page) ≡ true → Touches page offset new

-- no page that is kept is zeros, and no byte from the size on is other than 0
pub record AreTightWithin (size : ℕ) (pages : PageEntries) : Type 0 where
  pub tight : AreTight pages
  pub past : (offset : ℕ) → size ≤ offset → byte_at pages offset ≡ 0
