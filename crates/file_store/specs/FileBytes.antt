-- What is done to the bytes of a file, as one flat list (POSIX.1-2017, XSH write(), lseek() and ftruncate()).
use Rattle.std.specs.Prelude.{ℕ, ◌+◌, ◌-◌, ◌*◌, ◌/◌, ◌==◌, if◌then◌else◌, Bool, not, Option, None, Some, List, ◌++◌, length, take, drop, replicate, count_by}
use Rattle.std.specs.List.{list_all, range_with_len}
use Rattle.wf_core.specs.Limits.{page_size}

-- the bytes from an offset on, at most so many
abbrev pub part : List ℕ → ℕ → ℕ → List ℕ
part bytes offset count = take count (drop offset bytes)

-- the first so many bytes, with zeros behind them where there are fewer
abbrev pub with_length : ℕ → List ℕ → List ℕ
with_length size bytes = take size bytes ++ replicate (size - length bytes) 0

-- the bytes with new ones from an offset on. A gap before them is zeros
abbrev pub with_bytes_at : List ℕ → ℕ → List ℕ → List ℕ
with_bytes_at bytes offset new = with_length offset bytes ++ (new ++ drop (offset + length new) bytes)

-- no byte other than 0
abbrev pub all_zero : List ℕ → Bool
all_zero bytes = list_all (λ byte. byte == 0) bytes

-- page `page` has a byte other than 0
abbrev pub is_page_kept : List ℕ → ℕ → Bool
is_page_kept bytes page = not (all_zero (part bytes (page * page_size) page_size))

-- the bytes of a page that has a byte other than 0
abbrev pub page_of : List ℕ → ℕ → Option (List ℕ)
page_of bytes page = if is_page_kept bytes page then Some (part bytes (page * page_size) page_size) else None

-- how many pages have a byte other than 0
abbrev pub page_count : List ℕ → ℕ
page_count bytes = count_by (is_page_kept bytes) (range_with_len 0 ((length bytes + (page_size - 1)) / page_size))
