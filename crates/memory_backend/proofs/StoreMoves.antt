-- A step on a cell is the store's step.
use Rattle.std.proofs.Common.{◌≡◌, ◌≢◌, ℕ, ◌<◌, ◌==◌, ◌⊎◌, zero, suc, inl, inr, Bool, true, false, if◌then◌else◌, List, [], ◌∷◌, length, Option, None, Some, slice_get, slice_set, unwrap_or, refl, sym, ap, subst, ◌∙◌, arith, length-set}
use Rattle.std.proofs.lemmas.Bool.Decides.{nat_tests}
use Rattle.std.proofs.lemmas.Option.{slice_get-get_or}
use Rattle.wf_core.specs.Limits.{group_count}
use Rattle.name_store.specs.declared.operation.NameOp.{NameOp}
use Rattle.name_store.specs.NameTrees.{Tree, nstep}
use Rattle.file_store.specs.declared.file_operation.FileOp.{FileOp}
use Rattle.file_store.specs.FileGroups.{Group, fstep, opening}
use Rattle.file_store.specs.declared.descriptor_operation.FdOp.{FdOp}
use Rattle.file_store.specs.DescriptorMap.{dstep}
use Rattle.path_walk.specs.declared.step.CellId.{CellId}
use Rattle.path_walk.specs.declared.step.CellId.TheVariants as cell
use Rattle.path_walk.specs.declared.step.StoreOp.{StoreOp}
use Rattle.path_walk.specs.declared.step.StoreOp.TheVariants.{Names as NamesOp, Files as FilesOp, Descriptors as DescriptorsOp}
use Rattle.path_walk.specs.declared.step.StoreAnswer.{StoreAnswer}
use Rattle.path_walk.specs.Backing.{IsCellOf}
use Rattle.path_walk.specs.Store.{Backend, Store, backend_at, cstep, group_at, names_at, with_backend, with_group, with_names}
use Rattle.memory_backend.specs.declared.cell.CellContents.{CellContents}
use Rattle.memory_backend.specs.declared.cell.CellContents.TheVariants.{Descriptors, Names, Files}
use Rattle.memory_backend.specs.CellNumbers.{IsCellIn, cell_of}
use Rattle.memory_backend.specs.Cells.{contents_after, contents_reply}
use Rattle.memory_backend.specs.Stores.{IsStoreOf, contents_at, with_step}
use Rattle.memory_backend.proofs.Numbering.{own}

-- one item of a list after another was set
get_here : {X : Type 0} (xs : List X) (i : ℕ) (x : X) → i < length xs → slice_get (slice_set xs i x) i ≡ Some x
get_here [] i x low = absurd (omega (arith, low))
get_here (y ∷ xs) zero x low = refl
get_here (y ∷ xs) (suc i) x low = get_here xs i x (omega (arith, low))

get_other : {X : Type 0} (xs : List X) (i j : ℕ) (x : X) → j ≢ i → slice_get (slice_set xs i x) j ≡ slice_get xs j
get_other [] i j x apart = refl
get_other (y ∷ xs) zero zero x apart = absurd (apart refl)
get_other (y ∷ xs) zero (suc j) x apart = refl
get_other (y ∷ xs) (suc i) zero x apart = refl
get_other (y ∷ xs) (suc i) (suc j) x apart = get_other xs i j x (λ e. apart (ap suc e))

abbrev nobody : Backend
nobody = record { names = []; groups = [] }

backend_here : (store : Store) (k : ℕ) (b : Backend) → k < length store.backends → backend_at (with_backend store k b) k ≡ b
backend_here store k b low = ap (λ (o : Option Backend). unwrap_or o nobody) (get_here store.backends k b low)

backend_other : (store : Store) (k l : ℕ) (b : Backend) → l ≢ k → backend_at (with_backend store k b) l ≡ backend_at store l
backend_other store k l b apart = ap (λ (o : Option Backend). unwrap_or o nobody) (get_other store.backends k l b apart)

same : (k l : ℕ) → (k ≡ l) ⊎ (k ≢ l)
same zero zero = inl refl
same zero (suc l) = inr (λ e. cc)
same (suc k) zero = inr (λ e. cc)
same (suc k) (suc l) = elim (same k l) [
  | inl e ↦ inl (ap suc e)
  | inr apart ↦ inr (λ e. apart (omega (arith, e)))
]

-- what one number holds after an operation on another
with_at : (cells : ℕ → CellContents) (n m : ℕ) (op : StoreOp) (new : CellContents) → (m ≡ n → contents_after (cells n) op ≡ new) → (m ≢ n → cells m ≡ new) → with_step cells n op m ≡ new
with_at cells n m op new here other = elim (same m n) [
  | inl e ↦ let test : (m == n) ≡ true = grind (arith, nat_tests, e) in ap (λ (b : Bool). if b then contents_after (cells n) op else cells m) test ∙ here e
  | inr apart ↦ let test : (m == n) ≡ false = grind (arith, nat_tests, apart) in ap (λ (b : Bool). if b then contents_after (cells n) op else cells m) test ∙ other apart
]

-- what is to be shown of a store that is left: it has the backends, and one cell alone has changed, as its operation has it
record Moves (backends : ℕ) (store new : Store) (id : CellId) (op : StoreOp) : Type 0 where
  count : length new.backends ≡ backends
  groups : (k : ℕ) → k < backends → length (backend_at new k).groups ≡ group_count
  here : contents_at new id ≡ contents_after (contents_at store id) op
  others : (other : CellId) → IsCellIn backends other → other ≢ id → contents_at new other ≡ contents_at store other

moved : (backends : ℕ) (cells : ℕ → CellContents) (store new : Store) (id : CellId) (op : StoreOp) → IsStoreOf backends cells store → IsCellIn backends id → Moves backends store new id op → IsStoreOf backends (with_step cells (cell_of backends id) op) new
moved backends cells store new id op old within moves = record {
  count = moves.count;
  groups = moves.groups;
  each = λ other inside. with_at cells (cell_of backends id) (cell_of backends other) op (contents_at new other)
      (λ e. ap (λ (c : CellContents). contents_after c op) (old.each id within) ∙ sym moves.here ∙ ap (contents_at new) (sym (own backends other id inside within e)))
      (λ apart. old.each other inside ∙ sym (moves.others other inside (λ e. apart (ap (cell_of backends) e))));
}

module _ (store : Store) (k : ℕ) (new : Backend) (low : k < length store.backends) where
  -- what one backend keeps, all keep
  kept : {X : Type 0} (read : Backend → X) → read new ≡ read (backend_at store k) → (l : ℕ) → read (backend_at (with_backend store k new) l) ≡ read (backend_at store l)
  kept read keeps l = elim (same l k) [
    | inl e ↦ ap (λ (m : ℕ). read (backend_at (with_backend store k new) m)) e ∙ ap read (backend_here store k new low) ∙ keeps ∙ ap (λ (m : ℕ). read (backend_at store m)) (sym e)
    | inr apart ↦ ap read (backend_other store k l new apart)
  ]

abbrev group_in : ℕ → Backend → Group
group_in group backend = unwrap_or (slice_get backend.groups group) (opening group)

names_moves : (backends : ℕ) (cells : ℕ → CellContents) (store : Store) (k : ℕ) (op : NameOp) → IsStoreOf backends cells store → k < backends → Moves backends store (cstep store (cell.Names k) (NamesOp op)).store (cell.Names k) (NamesOp op)
names_moves backends cells store k op old within =
    let new : Backend = record (backend_at store k) { names = (nstep (names_at store k) op).tree } in
    let low : k < length store.backends = subst (λ (n : ℕ). k < n) (sym old.count) within in
    record {
      count = length-set store.backends k new ∙ old.count;
      groups = λ l inside. ap (λ (gs : List Group). length gs) (kept store k new low (λ b. b.groups) refl l) ∙ old.groups l inside;
      here = ap (λ (b : Backend). Names b.names) (backend_here store k new low);
      others = others new low;
    } where
      others : (new : Backend) → k < length store.backends → (other : CellId) → IsCellIn backends other → other ≢ cell.Names k → contents_at (with_backend store k (record (backend_at store k) { names = (nstep (names_at store k) op).tree })) other ≡ contents_at store other
      others new low cell.Descriptors inside apart = refl
      others new low (cell.Names l) inside apart = ap (λ (b : Backend). Names b.names) (backend_other store k l _ (λ e. apart (ap cell.Names e)))
      others new low (cell.Files l g) inside apart = ap Files (kept store k _ low (group_in g) refl l)

descriptors_moves : (backends : ℕ) (cells : ℕ → CellContents) (store : Store) (op : FdOp) → IsStoreOf backends cells store → Moves backends store (cstep store cell.Descriptors (DescriptorsOp op)).store cell.Descriptors (DescriptorsOp op)
descriptors_moves backends cells store op old = record { count = old.count; groups = old.groups; here = refl; others = others } where
  others : (other : CellId) → IsCellIn backends other → other ≢ cell.Descriptors → contents_at (record store { descriptors = (dstep store.descriptors op).map }) other ≡ contents_at store other
  others cell.Descriptors inside apart = absurd (apart refl)
  others (cell.Names l) inside apart = refl
  others (cell.Files l g) inside apart = refl

files_moves : (backends : ℕ) (cells : ℕ → CellContents) (store : Store) (k g : ℕ) (op : FileOp) → IsStoreOf backends cells store → k < backends → g < group_count → Moves backends store (cstep store (cell.Files k g) (FilesOp op)).store (cell.Files k g) (FilesOp op)
files_moves backends cells store k g op old within inside = record {
  count = length-set store.backends k new ∙ old.count;
  groups = λ l in_l. kept store k new low (λ b. length b.groups) (length-set (backend_at store k).groups g left) l ∙ old.groups l in_l;
  here = ap (λ (b : Backend). Files (group_in g b)) (backend_here store k new low) ∙ ap (λ (o : Option Group). Files (unwrap_or o (opening g))) (get_here (backend_at store k).groups g left few);
  others = others;
} where
  left : Group
  left = (fstep (group_at store k g) op).group

  new : Backend
  new = record (backend_at store k) { groups = slice_set (backend_at store k).groups g left }

  low : k < length store.backends
  low = subst (λ (n : ℕ). k < n) (sym old.count) within

  few : g < length (backend_at store k).groups
  few = subst (λ (n : ℕ). g < n) (sym (old.groups k within)) inside

  in_other : (l h : ℕ) → cell.Files l h ≢ cell.Files k g → group_at (with_backend store k new) l h ≡ group_at store l h
  in_other l h apart = elim (same l k) [
    | inl e ↦
        ap (λ (m : ℕ). group_in h (backend_at (with_backend store k new) m)) e
        ∙ ap (group_in h) (backend_here store k new low)
        ∙ ap (λ (o : Option Group). unwrap_or o (opening h)) (get_other (backend_at store k).groups g h left (λ f. apart (λ i. cell.Files (e i) (f i))))
        ∙ ap (λ (m : ℕ). group_in h (backend_at store m)) (sym e)
    | inr away ↦ ap (group_in h) (backend_other store k l new away)
  ]

  others : (other : CellId) → IsCellIn backends other → other ≢ cell.Files k g → contents_at (with_backend store k new) other ≡ contents_at store other
  others cell.Descriptors in_other_cell apart = refl
  others (cell.Names l) in_other_cell apart = ap Names (kept store k new low (λ b. b.names) refl l)
  others (cell.Files l h) in_other_cell apart = ap Files (in_other l h apart)

pub steps_are : (backends : ℕ) (cells : ℕ → CellContents) (store : Store) (id : CellId) (op : StoreOp) → IsStoreOf backends cells store → IsCellOf backends id op
    → ((cstep store id op).answer ≡ contents_reply (cells (cell_of backends id)) op) × IsStoreOf backends (with_step cells (cell_of backends id) op) (cstep store id op).store
steps_are backends cells store (cell.Names k) (NamesOp op) old fits = (
  ap (λ (c : CellContents). contents_reply c (NamesOp op)) (sym (old.each (cell.Names k) fits)),
  moved backends cells store _ (cell.Names k) (NamesOp op) old fits (names_moves backends cells store k op old fits),
)
steps_are backends cells store (cell.Files k g) (FilesOp op) old fits = (
  ap (λ (c : CellContents). contents_reply c (FilesOp op)) (sym (old.each (cell.Files k g) fits)),
  moved backends cells store _ (cell.Files k g) (FilesOp op) old fits (files_moves backends cells store k g op old fits.0 fits.1),
)
steps_are backends cells store cell.Descriptors (DescriptorsOp op) old fits = (
  ap (λ (c : CellContents). contents_reply c (DescriptorsOp op)) (sym (old.each cell.Descriptors tt)),
  moved backends cells store _ cell.Descriptors (DescriptorsOp op) old tt (descriptors_moves backends cells store op old),
)
steps_are backends cells store (cell.Names k) (FilesOp op) old fits = absurd fits
steps_are backends cells store (cell.Names k) (DescriptorsOp op) old fits = absurd fits
steps_are backends cells store (cell.Files k g) (NamesOp op) old fits = absurd fits
steps_are backends cells store (cell.Files k g) (DescriptorsOp op) old fits = absurd fits
steps_are backends cells store cell.Descriptors (NamesOp op) old fits = absurd fits
steps_are backends cells store cell.Descriptors (FilesOp op) old fits = absurd fits
