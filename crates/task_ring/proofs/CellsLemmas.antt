-- Lemmas on how a `Ring` lays its items out in its cells.
use Rattle.std.proofs.Common.{◌≡◌, ℕ, zero, suc, ◌+◌, ◌-◌, ◌<◌, ◌≤◌, List, [], ◌∷◌, ◌++◌, length, get_or, slice_get, set, take, drop, replicate, map, Option, Some, None, refl, sym, ap, ap₂, subst, ◌∙◌, inl, inr, sub-one, arith}
use Rattle.std.proofs.Math.Seq.{take-set-lt}
use Rattle.std.proofs.lemmas.Bool.{cases_lt}
use Rattle.std.proofs.lemmas.Bool.Decides.{nat_tests}
use Rattle.std.proofs.lemmas.List.{append-nil, append_assoc, length-append, length-drop, length-map, length-replicate, length-set, length-take-le, length_push, map_push, get_or_append_left, get_or-append_right, get_or-drop, get_or-take, get_or-replicate, drop_at, drop_all, drop_more, drop-set, drop-set-add, drop-set-lt, take_at, take-append-drop, take-set, take-set-le, set-append_left, set-append_right, replicate_more}
use Rattle.std.proofs.lemmas.List.Elements.{filter_map-append}
use Rattle.task_ring.specs.Ring.{RingView, spare}
use Rattle.task_ring.specs.Cells.{around, from_head, items_in, Holds, IsSound}

module _ {T : Type 0} where
  items_in-append : (xs ys : List (Option T)) → items_in (xs ++ ys) ≡ items_in xs ++ items_in ys
  items_in-append xs ys = filter_map-append (λ (cell : Option T). cell) xs ys

  items_in-map : (items : List T) → items_in (map Some items) ≡ items
  items_in-map [] = refl
  items_in-map (x ∷ xs) = ap (λ (ys : List T). x ∷ ys) (items_in-map xs)

  items_in-replicate : (n : ℕ) → items_in {T = T} (replicate n None) ≡ []
  items_in-replicate zero = refl
  items_in-replicate (suc n) = items_in-replicate n

  -- a row that is cut in two parts, the first up to the head
  from_head-append : (head : ℕ) (front back : List (Option T)) → length front ≡ head → from_head head (front ++ back) ≡ back ++ front
  from_head-append head front back e = ap₂ (λ (xs ys : List (Option T)). xs ++ ys) (drop_at front back head e) (take_at front back head e)

  length-from_head : (head : ℕ) (cells : List (Option T)) → head ≤ length cells → length (from_head head cells) ≡ length cells
  length-from_head head cells within =
      simp (length-append, length-drop) (omega (arith, length-take-le head cells within))

  -- a write around the end is a write that many cells from the head
  from_head-set : (cells : List (Option T)) (head index : ℕ) (cell : Option T) → head ≤ length cells → index < length cells → from_head head (set cells (around (length cells) (head + index)) cell) ≡ set (from_head head cells) index cell
  from_head-set cells head index cell head_within index_within =
      let front = length-take-le head cells head_within in
      let back = length-drop head cells in
      elim (cases_lt (head + index) (length cells)) [
        | inl low ↦
            let same : around (length cells) (head + index) ≡ head + index = grind (arith, nat_tests) in
            rw (same, drop-set-add head cells index cell, take-set-le head cells (head + index) cell (omega arith)) (sym (set-append_left (drop head cells) (take head cells) index cell (omega arith)))
        | inr high ↦
            let wrapped : around (length cells) (head + index) ≡ index - length (drop head cells) = grind (arith, nat_tests) in
            rw (wrapped, drop-set-lt head cells (index - length (drop head cells)) cell (omega arith), take-set-lt head cells (index - length (drop head cells)) cell (omega arith)) (sym (set-append_right (drop head cells) (take head cells) (length (drop head cells)) index cell refl (omega arith)))
      ]

  -- a read around the end is a read that many cells from the head
  get_or-from_head : (cells : List (Option T)) (head index : ℕ) (d : Option T) → head ≤ length cells → index < length cells → get_or (from_head head cells) index d ≡ get_or cells (around (length cells) (head + index)) d
  get_or-from_head cells head index d head_within index_within =
      let front = length-take-le head cells head_within in
      let back = length-drop head cells in
      elim (cases_lt (head + index) (length cells)) [
        | inl low ↦
            let same : around (length cells) (head + index) ≡ head + index = grind (arith, nat_tests) in
            rw same (get_or_append_left (drop head cells) (take head cells) d index (omega arith) ∙ get_or-drop head cells index d)
        | inr high ↦
            let wrapped : around (length cells) (head + index) ≡ index - length (drop head cells) = grind (arith, nat_tests) in
            rw wrapped (get_or-append_right (drop head cells) (take head cells) (length (drop head cells)) index d refl (omega arith) ∙ get_or-take head cells (index - length (drop head cells)) d (omega arith))
      ]

  -- the next item takes the place of the first empty cell
  set_end : (items : List T) (x : T) (n : ℕ) → 0 < n → set (map Some items ++ replicate n None) (length items) (Some x) ≡ map Some (items ++ x ∷ []) ++ replicate (n - 1) None
  set_end [] x zero some = absurd (omega arith)
  set_end [] x (suc n) some = rw sub-one
  set_end (y ∷ items) x n some = ap (λ (row : List (Option T)). Some y ∷ row) (set_end items x n some)

  -- each cell is an item's or empty
  pub length-row : (row : List (Option T)) (items : List T) (n : ℕ) → row ≡ map Some items ++ replicate n None → length row ≡ length items + n
  length-row row items n e = ap (λ (cells : List (Option T)). length cells) e ∙ simp (length-append, length-map, length-replicate)

  cell_count : (cells : List (Option T)) (head tail : ℕ) (items : List T) (h : Holds cells head tail items) → length items + h.empty ≡ length cells
  cell_count cells head tail items h =
      sym (length-row _ items h.empty h.row) ∙ length-from_head head cells (omega (arith, h.head_within))

  -- what the cells hold is what is seen of them
  pub items_in-from_head : (cells : List (Option T)) (head tail : ℕ) (items : List T) → Holds cells head tail items → items_in (from_head head cells) ≡ items
  items_in-from_head cells head tail items h =
      rw h.row (items_in-append (map Some items) (replicate h.empty None) ∙ ap₂ (λ (xs ys : List T). xs ++ ys) (items_in-map items) (items_in-replicate h.empty) ∙ append-nil items)

  pub IsSound-Holds : (cells : List (Option T)) (head tail first : ℕ) (items : List T) → Holds cells head tail items → 2 ≤ first → IsSound cells head tail first
  IsSound-Holds cells head tail first items h least =
      record {
        holds = subst (λ (xs : List T). Holds cells head tail xs) (sym (items_in-from_head cells head tail items h)) h;
        least = least;
      }

  pub Holds-push : (cells : List (Option T)) (head tail : ℕ) (items : List T) (x : T) → Holds cells head tail items → length items < length cells - 1 → Holds (set cells tail (Some x)) head (around (length cells) (tail + 1)) (items ++ x ∷ [])
  Holds-push cells head tail items x h room =
      let counted = cell_count cells head tail items h in
      let same_count = length-set cells tail (Some x) in
      let longer = length_push items x in
      record {
        empty = h.empty - 1;
        row = rw h.tail_is (from_head-set cells head (length items) (Some x) (omega (arith, h.head_within)) (omega arith)
            ∙ ap (λ (row : List (Option T)). set row (length items) (Some x)) h.row ∙ set_end items x h.empty (omega arith));
        head_within = omega (arith, h.head_within);
        tail_is = grind (arith, nat_tests, h.tail_is, h.head_within);
        one_empty = omega arith;
      }

  -- while an item fits, the tail's cell is empty
  pub tail_cell : (cells : List (Option T)) (head tail : ℕ) (items : List T) → Holds cells head tail items → length items < length cells - 1 → (d : Option T) → get_or cells tail d ≡ None
  tail_cell cells head tail items h room d =
      let counted = cell_count cells head tail items h in
      let items_end = length-map items (λ (x : T). Some x) in
      ap (λ (index : ℕ). get_or cells index d) h.tail_is
      ∙ sym (get_or-from_head cells head (length items) d (omega (arith, h.head_within)) (omega arith))
      ∙ ap (λ (row : List (Option T)). get_or row (length items) d) h.row
      ∙ get_or-append_right (map Some items) (replicate h.empty None) (length items) (length items) d items_end (omega arith)
      ∙ get_or-replicate h.empty _ None d (omega arith)

  -- the head's cell has the first item
  pub head_cell : (cells : List (Option T)) (head tail : ℕ) (x : T) (items : List T) (d : Option T) → Holds cells head tail (x ∷ items) → get_or cells head d ≡ Some x
  head_cell cells head tail x items d h =
      let split = drop_more cells head d (omega (arith, h.head_within, h.one_empty)) in
      let row = rw split at h.row in
      cc row

  -- from the next cell on, the head's cell is the last
  from_head-after : (cells : List (Option T)) (head : ℕ) (cell : Option T) → head < length cells → from_head (around (length cells) (head + 1)) (set cells head cell) ≡ (drop (head + 1) cells ++ take head cells) ++ cell ∷ []
  from_head-after cells head cell within =
      let front = take head cells in
      let back = drop (head + 1) cells in
      let front_count = length-take-le head cells (omega arith) in
      let split : set cells head cell ≡ front ++ cell ∷ back = sym (take-append-drop head (set cells head cell)) ∙ ap₂ (λ (xs ys : List (Option T)). xs ++ ys) (take-set cells head cell) (drop-set cells head cell within) in
      elim (cases_lt (head + 1) (length cells)) [
        | inl low ↦
            let same : around (length cells) (head + 1) ≡ head + 1 = grind (arith, nat_tests) in
            rw (same, split) (ap (λ (row : List (Option T)). from_head (head + 1) row) (sym (append_assoc front (cell ∷ []) back))
            ∙ from_head-append (head + 1) (front ++ cell ∷ []) back (omega (arith, length_push front cell)) ∙ sym (append_assoc back front (cell ∷ [])))
        | inr high ↦
            let first : around (length cells) (head + 1) ≡ 0 = grind (arith, nat_tests) in
            let none : back ≡ [] = drop_all (head + 1) cells high in
            rw (first, split, none) (append-nil (front ++ cell ∷ []))
      ]

  pub Holds-pop : (cells : List (Option T)) (head tail : ℕ) (x : T) (items : List T) → Holds cells head tail (x ∷ items) → Holds (set cells head None) (around (length cells) (head + 1)) tail items
  Holds-pop cells head tail x items h =
      let counted = cell_count cells head tail (x ∷ items) h in
      let same_count = length-set cells head None in
      let within : head < length cells = omega (arith, h.head_within, h.one_empty) in
      let split = rw (drop_more cells head None within) at h.row in
      let rest : drop (head + 1) cells ++ take head cells ≡ map Some items ++ replicate h.empty None = cc split in
      record {
        empty = h.empty + 1;
        row = from_head-after cells head None within ∙ ap (λ (row : List (Option T)). row ++ None ∷ []) rest
            ∙ append_assoc (map Some items) (replicate h.empty None) (None ∷ []) ∙ ap (λ (row : List (Option T)). map Some items ++ row) (replicate_more h.empty None);
        head_within = grind (arith, nat_tests, h.head_within, h.one_empty);
        tail_is = grind (arith, nat_tests, h.tail_is, h.head_within, h.one_empty);
        one_empty = omega (arith, h.one_empty);
      }

  -- a new row has the items at its start and empty cells behind them
  pub length-start : (items : List T) (cells : List (Option T)) (tail count : ℕ) → cells ≡ map Some items ++ replicate (count - tail) None → tail ≡ length items → length items < count → length cells ≡ count
  length-start items cells tail count row end room = omega (arith, length-row cells items (count - tail) row)

  pub Holds-start : (items : List T) (cells : List (Option T)) (tail count : ℕ) → cells ≡ map Some items ++ replicate (count - tail) None → tail ≡ length items → length items < count → Holds cells 0 tail items
  Holds-start items cells tail count row end room =
      let counted = length-start items cells tail count row end room in
      record {
        empty = count - tail;
        row = append-nil cells ∙ row;
        head_within = omega arith;
        tail_is = grind (arith, nat_tests);
        one_empty = omega arith;
      }

  -- the first item goes behind those that were moved before it
  pub moved-more : (moved items all : List T) (x : T) → slice_get items 0 ≡ Some x → moved ++ items ≡ all → (moved ++ x ∷ []) ++ drop 1 items ≡ all
  moved-more moved [] all x first e = absurd (cc)
  moved-more moved (y ∷ rest) all x first e = append_assoc moved (x ∷ []) rest ∙ ap (λ (xs : List T). moved ++ xs) (cc) ∙ e

  pub row-moved : (before after : List (Option T)) (moved : List T) (x : T) → after ≡ before ++ Some x ∷ [] → before ≡ map Some moved → after ≡ map Some (moved ++ x ∷ [])
  row-moved before after moved x pushed row = pushed ∙ ap (λ (cells : List (Option T)). cells ++ Some x ∷ []) row ∙ sym (map_push Some moved x)

  -- where no item is left, all were moved
  pub row-all : (cells : List (Option T)) (moved items all : List T) (n : ℕ) → cells ≡ map Some moved → items ≡ [] → moved ++ items ≡ all → n ≡ 0 → cells ≡ map Some all ++ replicate n None
  row-all cells moved items all n row none e no_more =
      let whole = sym (append-nil moved) ∙ ap (λ (xs : List T). moved ++ xs) (sym none) ∙ e in
      rw no_more (row ∙ ap (λ (xs : List T). map Some xs) whole ∙ sym (append-nil (map Some all)))

  pub row-empty : (before after : List (Option T)) (items : List T) (n m : ℕ) → after ≡ before ++ None ∷ [] → before ≡ map Some items ++ replicate n None → m ≡ n + 1 → after ≡ map Some items ++ replicate m None
  row-empty before after items n m pushed row more =
      pushed ∙ ap (λ (cells : List (Option T)). cells ++ None ∷ []) row ∙ append_assoc (map Some items) (replicate n None) (None ∷ [])
      ∙ ap (λ (cells : List (Option T)). map Some items ++ cells) (replicate_more n None) ∙ ap (λ (k : ℕ). map Some items ++ replicate k None) (sym more)

  -- the ends of a ring without items are equal
  pub ends_of_empty : (cells : List (Option T)) (head tail : ℕ) → Holds cells head tail [] → head ≡ tail
  ends_of_empty cells head tail h = grind (arith, nat_tests, h.tail_is, h.head_within)

  both_empty : (xs ys : List T) → xs ++ ys ≡ [] → ys ++ xs ≡ []
  both_empty [] [] e = refl
  both_empty [] (y ∷ ys) e = absurd (cc)
  both_empty (x ∷ xs) ys e = absurd (cc)

  -- the cells of an empty ring hold nothing
  pub items_in-empty : (cells : List (Option T)) (head tail : ℕ) (items : List T) → Holds cells head tail items → items ≡ [] → items_in cells ≡ []
  items_in-empty cells head tail items h none =
      let seen = sym (items_in-append (drop head cells) (take head cells)) ∙ items_in-from_head cells head tail items h ∙ none in
      let turned = both_empty (items_in (drop head cells)) (items_in (take head cells)) seen in
      ap (λ (row : List (Option T)). items_in row) (sym (take-append-drop head cells)) ∙ items_in-append (take head cells) (drop head cells) ∙ turned

  -- `pop` finds this item first and leaves these behind it
  pub record IsPopped (cells : List (Option T)) (head tail : ℕ) (items : List T) : Type 0 where
    pub first : T
    pub rest : List T
    pub split : items ≡ first ∷ rest
    pub found : (d : Option T) → get_or cells head d ≡ Some first
    pub left : Holds (set cells head None) (around (length cells) (head + 1)) tail rest

  -- a ring whose ends differ has a first item
  pub IsPopped-Holds : (cells : List (Option T)) (head tail : ℕ) (items : List T) → Holds cells head tail items → ¬ (head ≡ tail) → IsPopped cells head tail items
  IsPopped-Holds cells head tail [] h differ = absurd (differ (ends_of_empty cells head tail h))
  IsPopped-Holds cells head tail (x ∷ items) h differ =
      record {
        first = x;
        rest = items;
        split = refl;
        found = λ d. head_cell cells head tail x items d h;
        left = Holds-pop cells head tail x items h;
      }

  not_empty : (xs : List T) (x : T) → ¬ (xs ++ x ∷ [] ≡ [])
  not_empty [] x e = cc
  not_empty (y ∷ ys) x e = cc

  -- a row that holds nothing has an empty cell at its end, and holds nothing without it
  pub items_in-last : (cells : List (Option T)) (cell : Option T) → items_in (cells ++ cell ∷ []) ≡ [] → (items_in cells ≡ []) × (cell ≡ None)
  items_in-last cells None e = (sym (append-nil (items_in cells)) ∙ sym (items_in-append cells (None ∷ [])) ∙ e, refl)
  items_in-last cells (Some x) e = absurd (not_empty (items_in cells) x (sym (items_in-append cells (Some x ∷ [])) ∙ e))

  -- two views with the same fields are one
  pub same_view : (r s : RingView T) → r.items ≡ s.items → r.cells ≡ s.cells → r.first ≡ s.first → r ≡ s
  same_view r s items cells first =
      ap₂ (λ (xs : List T) (n : ℕ). record r { items = xs; cells = n }) items cells ∙ ap (λ (n : ℕ). record s { first = n }) first

  -- an item less is a spare cell more
  pub spare-pop : (r : RingView T) (x : T) (rest : List T) → r.items ≡ x ∷ rest → length r.items ≤ r.cells - 1 → spare (record r { items = drop 1 r.items }) ≡ spare r + 1
  spare-pop r x rest split within = omega (arith, length-drop 1 r.items, ap (λ (xs : List T). length xs) split)
