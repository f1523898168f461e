-- A directory that is written back into its slot.
use Rattle.std.proofs.Common.{◌≡◌, ℕ, ◌<◌, zero, suc, List, [], ◌∷◌, ◌++◌, length, Option, None, Some, Result, Ok, Err, OnOk, option_map, slice_get, slice_set, get_or, refl, sym, ap, ◌∙◌, arith}
use Rattle.std.specs.declared.alloc.AllocError.{AllocError}
use Rattle.std.proofs.lemmas.Option.{slice_get_read}
use Rattle.name_store.specs.declared.operation.Node.{Node}
use Rattle.name_store.specs.NameTrees.{Tree, Listing, in_slot, dir_at, with_change_at, with_entry_at, with_entry}

-- putting back what is there changes nothing
put_back : (tree : Tree) (id : ℕ) (slot : Option Listing) → slice_get tree id ≡ Some slot → slice_set tree id slot ≡ tree
put_back [] id slot h = cc
put_back (first ∷ tree) zero slot h =
    let same : first ≡ slot = cc in
    ap (λ (s : Option Listing). s ∷ tree) (sym same)
put_back (first ∷ tree) (suc id) slot h = ap (λ (rest : Tree). first ∷ rest) (put_back tree id slot h)

pub put_back_read : (tree : Tree) (id : ℕ) (slot : Option Listing) → id < length tree → slot ≡ get_or tree id slot → slice_set tree id slot ≡ tree
put_back_read tree id slot within is = put_back tree id slot (slice_get_read tree (length tree) id slot refl within is)

put_cases : (tree : Tree) (id : ℕ) (slot : Option Listing) (change : Listing → Listing) → slice_get tree id ≡ Some slot → slice_set tree id (option_map change slot) ≡ with_change_at tree id change slot
put_cases tree id None change h = put_back tree id None h
put_cases tree id (Some directory) change h = refl

-- a slot in which the directory, where there is one, was changed
pub put_slot : (tree : Tree) (id : ℕ) (slot : Option Listing) (change : Listing → Listing) → id < length tree → slot ≡ get_or tree id slot → slice_set tree id (option_map change slot) ≡ with_change_at tree id change (dir_at tree id)
put_slot tree id slot change within is =
    let here : slice_get tree id ≡ Some slot = slice_get_read tree (length tree) id slot refl within is in
    put_cases tree id slot change here ∙ sym (ap (λ (s : Option (Option Listing)). with_change_at tree id change (in_slot s)) here)

-- the same where the place is the id of a directory
pub put_slot_to : (tree : Tree) (id index : ℕ) (slot new : Option Listing) (change : Listing → Listing) → index ≡ id → index < length tree → slot ≡ get_or tree index slot → new ≡ option_map change slot → slice_set tree index new ≡ with_change_at tree id change (dir_at tree id)
put_slot_to tree id index slot new change same within is changed =
    ap (λ (s : Option Listing). slice_set tree index s) changed
    ∙ put_slot tree index slot change within is
    ∙ ap (λ (i : ℕ). with_change_at tree i change (dir_at tree i)) same

pub put_slot_ok : (tree : Tree) (id index : ℕ) (slot new : Option Listing) (change : Listing → Listing) (r : Result (Unit {0}) AllocError) → index ≡ id → index < length tree → slot ≡ get_or tree index slot → OnOk r (new ≡ option_map change slot) → OnOk r (slice_set tree index new ≡ with_change_at tree id change (dir_at tree id))
put_slot_ok tree id index slot new change (Ok done) same within is changed = put_slot_to tree id index slot new change same within is changed
put_slot_ok tree id index slot new change (Err error) same within is changed = tt

-- a slot that was changed so, and one more slot
pub grew : (tree held out : Tree) (id index made : ℕ) (name : List ℕ) (node : ℕ → Node) (slot new rest last : Option Listing) → index ≡ id → held ≡ tree → made ≡ length tree → id < length tree → slot ≡ get_or held index slot → new ≡ option_map (λ directory. with_entry directory name (node made)) slot → rest ≡ last → out ≡ slice_set held index new ++ rest ∷ [] → out ≡ with_entry_at tree id name (node (length tree)) ++ last ∷ []
grew tree held out id index made name node slot new rest last place same next within read changed ends is =
    let here : slot ≡ get_or tree index slot = read ∙ ap (λ (t : Tree). get_or t index slot) same in
    let changes : new ≡ option_map (λ directory. with_entry directory name (node (length tree))) slot = changed ∙ ap (λ (n : ℕ). option_map (λ directory. with_entry directory name (node n)) slot) next in
    is
    ∙ ap (λ (t : Tree). slice_set t index new ++ rest ∷ []) same
    ∙ ap (λ (r : Option Listing). slice_set tree index new ++ r ∷ []) ends
    ∙ ap (λ (t : Tree). t ++ last ∷ []) (put_slot_to tree id index slot new (λ directory. with_entry directory name (node (length tree))) place (omega (arith, place, within)) here changes)
