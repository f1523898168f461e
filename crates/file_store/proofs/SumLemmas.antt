-- Lemmas on the sum of the sizes of files.
use Rattle.std.proofs.Common.{◌≡◌, ℕ, ◌+◌, ◌-◌, ◌/◌, ◌<◌, ◌≤◌, ◌∷◌, ◌++◌, Bool, cond, ltb, List, length, sum_by, Option, None, Some, unwrap_or, is_some, Result, Ok, Err, OnErr, nat_cmp, sym, ap, ◌∙◌, inl, inr, arith}
use Rattle.std.specs.Cmp.{nat_cmp_total}
use Rattle.std.specs.List.{range_with_len}
use Rattle.std.proofs.lemmas.List.FromFn.{length-range_with_len}
use Rattle.std.proofs.lemmas.List.Sums.{count_by-le-length, sum_by-append, sum_by-cons, sum_by-le-sum_by}
use Rattle.std.specs.List.Sorted.{IsStrictlySortedBy}
use Rattle.std.specs.Map.{keys_of}
use Rattle.std.specs.Option.{option_map}
use Rattle.std.specs.BTreeMap.{is_at}
use Rattle.std.proofs.lemmas.Bool.{cases_lt, lt-ltb, le-ltb, false≢true}
use Rattle.std.proofs.lemmas.Map.Entries.{sum_by-set_value, sum_by-remove_entry, sum_by-insert_entry}
use Rattle.wf_core.specs.declared.errno.Errno.TheVariants.{Efbig, Enospc}
use Rattle.file_store.specs.declared.file.File.{File}
use Rattle.file_store.specs.FileBytes.{is_page_kept, page_count}
use Rattle.file_store.specs.Tables.{Table, row_at, rows, IsFresh, with_next_row, with_row, without_row}
use Rattle.wf_core.specs.Limits.{file_max, group_max}
use Rattle.file_store.specs.FileGroups.{total, empty_file, refusal}
use Rattle.file_store.specs.FileTables.{IsSummed}
use Rattle.file_store.proofs.TableLemmas.{next_names_nothing, fresh_other, fresh_without}

-- what holds anyway holds at an error
pub on_err : {T E : Type 0} (r : Result T E) (P : Type 0) → P → OnErr r P
on_err (Ok x) P p = tt
on_err (Err e) P p = p

-- the sum after one file became another
pub total_other : (files : Table File) (id : ℕ) (old new : File) → row_at files id ≡ Some old → total (with_row files id new) + length old.bytes ≡ total files + length new.bytes
total_other files id old new there = sum_by-set_value (λ (f : File). length f.bytes) (is_at (nat_cmp id)) files.entries old new there

pub total_without : (files : Table File) (id : ℕ) (old : File) → row_at files id ≡ Some old → total (without_row files id) + length old.bytes ≡ total files
total_without files id old there =
    ap (λ (o : Option File). total (without_row files id) + unwrap_or (option_map (λ (f : File). length f.bytes) o) 0) (sym there) ∙ sum_by-remove_entry (λ (f : File). length f.bytes) (is_at (nat_cmp id)) files.entries

pub total_added : (files : Table File) → IsStrictlySortedBy nat_cmp (keys_of files.entries) → IsFresh files → total (with_next_row files empty_file) ≡ total files
total_added files ordered fresh =
    let none = next_names_nothing files fresh in
    let sum = ap (λ (o : Option File). total (with_next_row files empty_file) + unwrap_or (option_map (λ (f : File). length f.bytes) o) 0) (sym none) ∙ sum_by-insert_entry (λ (f : File). length f.bytes) nat_cmp_total files.entries files.next empty_file ordered in
    omega (arith, sum)

-- no file is larger than all together
pub size_within : (files : Table File) (id : ℕ) (old : File) → row_at files id ≡ Some old → length old.bytes ≤ total files
size_within files id old there = omega (arith, total_without files id old there)

pub summed_other : (files : Table File) (sum id new_sum : ℕ) (old new : File) → IsSummed files sum → row_at files id ≡ Some old → new_sum ≡ sum - length old.bytes + length new.bytes → new_sum ≤ group_max → IsSummed (with_row files id new) new_sum
summed_other files sum id new_sum old new h there e within =
    record {
      sum_is = omega (arith, h.sum_is, e, total_other files id old new there, size_within files id old there);
      within = within;
      fresh = fresh_other files id new h.fresh;
    }

pub summed_without : (files : Table File) (sum id new_sum : ℕ) (old : File) → IsSummed files sum → row_at files id ≡ Some old → new_sum ≡ sum - length old.bytes → IsSummed (without_row files id) new_sum
summed_without files sum id new_sum old h there e =
    record {
      sum_is = omega (arith, h.sum_is, e, total_without files id old there);
      within = omega (arith, h.within, e);
      fresh = fresh_without files id h.fresh;
    }

-- the answers of the two tests of a new size
pub refusal_end : (end : ℕ) (files : Table File) → file_max < end → refusal end files ≡ Some Efbig
refusal_end end files high = ap (λ (b : Bool). cond b (Some Efbig) (cond (ltb group_max (total files)) (Some Enospc) None)) (lt-ltb file_max end high)

pub refusal_sum : (end : ℕ) (files : Table File) → end ≤ file_max → group_max < total files → refusal end files ≡ Some Enospc
refusal_sum end files low high =
    ap (λ (b : Bool). cond b (Some Efbig) (cond (ltb group_max (total files)) (Some Enospc) None)) (le-ltb file_max end low)
    ∙ ap (λ (b : Bool). cond b (Some Enospc) None) (lt-ltb group_max (total files) high)

pub refusal_none : (end : ℕ) (files : Table File) → end ≤ file_max → total files ≤ group_max → refusal end files ≡ None
refusal_none end files low within =
    ap (λ (b : Bool). cond b (Some Efbig) (cond (ltb group_max (total files)) (Some Enospc) None)) (le-ltb file_max end low)
    ∙ ap (λ (b : Bool). cond b (Some Enospc) None) (le-ltb group_max (total files) within)

-- what is not refused is within the limits
pub not_refused : (end : ℕ) (files : Table File) → refusal end files ≡ None → (end ≤ file_max) × (total files ≤ group_max)
not_refused end files none =
    elim (cases_lt file_max end) [
      | inl high ↦ absurd (false≢true (ap is_some (sym none) ∙ ap is_some (refusal_end end files high)))
      | inr low ↦
          elim (cases_lt group_max (total files)) [
            | inl over ↦ absurd (false≢true (ap is_some (sym none) ∙ ap is_some (refusal_sum end files low over)))
            | inr within ↦ (low, within)
          ]
    ]

page_count_within : (bytes : List ℕ) → page_count bytes ≤ length bytes
page_count_within bytes =
    omega (arith, count_by-le-length (is_page_kept bytes) (range_with_len 0 ((length bytes + 4095) / 4096)), length-range_with_len 0 ((length bytes + 4095) / 4096))

-- the pages of some of the files are no more than the bytes of all
pub pages_within : (files : Table File) (sum : ℕ) (before rest : List File) (file : File) → IsSummed files sum → rows files ≡ before ++ file ∷ rest → sum_by (λ (f : File). page_count f.bytes) before + page_count file.bytes ≤ group_max
pages_within files sum before rest file h e =
    let pages : File → ℕ = λ (f : File). page_count f.bytes in
    let all = ap (λ (fs : List File). sum_by pages fs) e ∙ sum_by-append pages before (file ∷ rest) in
    let last : sum_by pages (file ∷ rest) ≡ page_count file.bytes + sum_by pages rest = sum_by-cons pages file rest in
    omega (arith, all, last, sum_by-le-sum_by pages (λ (f : File). length f.bytes) (rows files) (λ f. page_count_within f.bytes), h.sum_is, h.within)
