-- The components of a path without byte 0 are names but for their length, or `.` or `..`.
use Rattle.std.proofs.Common.{◌≡◌, ◌≢◌, ℕ, ◌<◌, ◌==◌, ◌&&◌, Bool, true, false, not, List, [], ◌∷◌, length, map, filter, get_or, refl, sym, ◌∙◌, ap}
use Rattle.std.specs.List.{list_all, slice_split, onto_first}
use Rattle.std.proofs.lemmas.Bool.{cond_both}
use Rattle.std.proofs.lemmas.List.Folds.{list_all_at, list_all-map}
use Rattle.wf_core.specs.Names.{is_slash, has_no_nul, is_name_byte}
use Rattle.path_walk.specs.Paths.{components}

-- a piece that is not empty and has no slash and no byte 0
abbrev pub is_component : List ℕ → Bool
is_component piece = not (length piece == 0) && list_all is_name_byte piece

both : (a b : Bool) → a && b ≡ true → (a ≡ true) × (b ≡ true)
both true b h = (refl, h)
both false b h = (cc)

and_so : (a b : Bool) → a ≡ true → b ≡ true → a && b ≡ true
and_so true b h k = k
and_so false b h k = (cc)

-- the pieces of a list between slashes, one more byte in front
split_byte : (b : ℕ) (pieces : List (List ℕ)) → is_name_byte b ≡ true → list_all (list_all is_name_byte) pieces ≡ true → list_all (list_all is_name_byte) (onto_first b pieces) ≡ true
split_byte b [] h k = and_so (is_name_byte b && true) true (and_so (is_name_byte b) true h refl) refl
split_byte b (piece ∷ pieces) h k =
    let parts = both (list_all is_name_byte piece) (list_all (list_all is_name_byte) pieces) k in
    and_so (is_name_byte b && list_all is_name_byte piece) _ (and_so (is_name_byte b) _ h parts.0) parts.1

-- no piece between slashes has a slash or byte 0
split_plain : (bytes : List ℕ) → has_no_nul bytes ≡ true → list_all (list_all is_name_byte) (slice_split is_slash bytes) ≡ true
split_plain [] h = refl
split_plain (b ∷ bytes) h =
    let first : not (b == 0) ≡ true = (both (not (b == 0)) (has_no_nul bytes) h).0 in
    let rest : list_all (list_all is_name_byte) (slice_split is_slash bytes) ≡ true = split_plain bytes (both (not (b == 0)) (has_no_nul bytes) h).1 in
    cond_both (is_slash b) _ _ (λ (pieces : List (List ℕ)). list_all (list_all is_name_byte) pieces ≡ true)
    (λ slash. rest)
    (λ plain. split_byte b _ (and_so (not (is_slash b)) (not (b == 0)) (ap not plain) first) rest)

-- nor has one that is not empty
filter_plain : (pieces : List (List ℕ)) → list_all (list_all is_name_byte) pieces ≡ true → list_all is_component (filter (λ piece. not (length piece == 0)) pieces) ≡ true
filter_plain [] h = refl
filter_plain (piece ∷ pieces) h =
    let here : list_all is_name_byte piece ≡ true = (both (list_all is_name_byte piece) (list_all (list_all is_name_byte) pieces) h).0 in
    let rest : list_all is_component (filter (λ (piece : List ℕ). not (length piece == 0)) pieces) ≡ true = filter_plain pieces (both (list_all is_name_byte piece) (list_all (list_all is_name_byte) pieces) h).1 in
    cond_both (not (length piece == 0)) _ _ (λ (some : List (List ℕ)). list_all is_component some ≡ true)
    (λ filled. and_so (is_component piece) _ (and_so (not (length piece == 0)) _ filled here) rest)
    (λ empty. rest)

-- each component of a path
pub components_plain : (path : List ℕ) → has_no_nul path ≡ true → list_all is_component (components path) ≡ true
components_plain path h = filter_plain (slice_split is_slash path) (split_plain path h)

each : {X : Type 0} (test : X → Bool) (xs : List X) (i : ℕ) (d : X) → list_all test xs ≡ true → i < length xs → test (get_or xs i d) ≡ true
each test xs i d all within = elim (test (get_or xs i d)) as (λ (b : Bool). test (get_or xs i d) ≡ b → b ≡ true) [ true ↦ λ e. refl | false ↦ λ e. absurd (clash e) ] refl
  where
    clash : test (get_or xs i d) ≡ false → ⊥
    clash e = let no_pass : list_all test xs ≡ false = list_all_at test xs i d within e in (cc)

pub component_at : {R : Type 0} (now : R → List ℕ) (path : List ℕ) (pieces : List R) (i : ℕ) (d : R) → has_no_nul path ≡ true → map now pieces ≡ components path → i < length pieces → (length (now (get_or pieces i d)) ≢ 0) × (list_all is_name_byte (now (get_or pieces i d)) ≡ true)
component_at now path pieces i d h e within =
    let all : list_all is_component (map now pieces) ≡ true = ap (list_all is_component) e ∙ components_plain path h in
    let here : is_component (now (get_or pieces i d)) ≡ true = each (λ r. is_component (now r)) pieces i d (sym (list_all-map is_component now pieces) ∙ all) within in
    let parts = both _ _ here in
    (λ none. let clash : false ≡ true = sym (ap (λ (n : ℕ). not (n == 0)) none) ∙ parts.0 in cc, parts.1)
