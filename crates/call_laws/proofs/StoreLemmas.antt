-- What a store has after one backend of it has changed.
use Rattle.std.proofs.Common.{inl, inr, subst, ◌∙◌, ◌≡◌, ◌≢◌, ℕ, zero, suc, List, [], ◌∷◌, Option, None, Some, slice_get, slice_set, unwrap_or, refl, sym, ap}
use Rattle.name_store.proofs.Changes.{same_id}
use Rattle.name_store.specs.NameTrees.{Tree, Listing, dir_at}
use Rattle.file_store.specs.FileGroups.{Group, opening}
use Rattle.path_walk.proofs.Leads.{put_back}
use Rattle.path_walk.specs.Store.{Store, Backend, backend_at, group_at, names_at, with_backend, with_names, with_group}

pub set_here : {X : Type 0} (xs : List X) (i : ℕ) (old new : X) → slice_get xs i ≡ Some old → slice_get (slice_set xs i new) i ≡ Some new
set_here [] i old new h = cc
set_here (x ∷ xs) zero old new h = refl
set_here (x ∷ xs) (suc i) old new h = set_here xs i old new h

pub set_other : {X : Type 0} (xs : List X) (i j : ℕ) (new : X) → j ≢ i → slice_get (slice_set xs i new) j ≡ slice_get xs j
set_other [] i j new ne = refl
set_other (x ∷ xs) zero zero new ne = absurd (ne refl)
set_other (x ∷ xs) zero (suc j) new ne = refl
set_other (x ∷ xs) (suc i) zero new ne = refl
set_other (x ∷ xs) (suc i) (suc j) new ne = set_other xs i j new (λ e. ne (ap suc e))

abbrev pub no_backend : Backend
no_backend = record { names = []; groups = [] }

-- the backend of a directory that is there
pub backend_there : (found : Option Backend) (id : ℕ) (directory : Listing) → dir_at (unwrap_or found no_backend).names id ≡ Some directory → (backend : Backend) × (found ≡ Some backend)
backend_there None id directory h = cc
backend_there (Some backend) id directory h = (backend, refl)

pub names_here : (store : Store) (backend : ℕ) (tree : Tree) (id : ℕ) (directory : Listing) → dir_at (names_at store backend) id ≡ Some directory → names_at (with_names store backend tree) backend ≡ tree
names_here store backend tree id directory h =
    let (found, is) = backend_there (slice_get store.backends backend) id directory h in
    ap (λ (o : Option Backend). (unwrap_or o no_backend).names) (set_here store.backends backend found _ is)

pub names_other : (store : Store) (backend other : ℕ) (tree : Tree) → other ≢ backend → names_at (with_names store backend tree) other ≡ names_at store other
names_other store backend other tree ne = ap (λ (o : Option Backend). (unwrap_or o no_backend).names) (set_other store.backends backend other _ ne)

grouped_names : (backends : List Backend) (backend number : ℕ) (group : Group) (other : ℕ) → (unwrap_or (slice_get (slice_set backends backend (record (unwrap_or (slice_get backends backend) no_backend) { groups = slice_set (unwrap_or (slice_get backends backend) no_backend).groups number group })) other) no_backend).names ≡ (unwrap_or (slice_get backends other) no_backend).names
grouped_names [] backend number group other = refl
grouped_names (x ∷ backends) zero number group zero = refl
grouped_names (x ∷ backends) zero number group (suc other) = refl
grouped_names (x ∷ backends) (suc backend) number group zero = refl
grouped_names (x ∷ backends) (suc backend) number group (suc other) = grouped_names backends backend number group other

-- files have no part in names
pub names_grouped : (store : Store) (backend number : ℕ) (group : Group) (other : ℕ) → names_at (with_group store backend number group) other ≡ names_at store other
names_grouped store backend number group other = grouped_names store.backends backend number group other

-- what holds between the names of one backend before and after, and of all others with themselves, holds of each
pub names_by : (store new : Store) (backend : ℕ) (tree left : Tree) → names_at store backend ≡ tree → names_at new backend ≡ left → ((other : ℕ) → other ≢ backend → names_at new other ≡ names_at store other) → (P : Tree → Tree → Type 0) (other : ℕ) → P tree left → P (names_at store other) (names_at store other) → P (names_at store other) (names_at new other)
names_by store new backend tree left is_tree here_is others_are P other here apart = elim (same_id other backend) as (λ _. P (names_at store other) (names_at new other)) [
  | inl e ↦ subst (λ (t : Tree). P t (names_at new other)) (sym (ap (names_at store) e ∙ is_tree)) (subst (λ (t : Tree). P tree t) (sym (ap (names_at new) e ∙ here_is)) here)
  | inr ne ↦ subst (λ (t : Tree). P (names_at store other) t) (sym (others_are other ne)) apart
]

-- a group that is put back
pub same_group : (store : Store) (backend number : ℕ) → with_group store backend number (group_at store backend number) ≡ store
same_group store backend number =
    ap (λ (groups : List Group). with_backend store backend (record (backend_at store backend) { groups = groups })) (put_back (backend_at store backend).groups number (opening number))
    ∙ ap (λ (backends : List Backend). let s : Store = record store { backends = backends } in s) (put_back store.backends backend _)
