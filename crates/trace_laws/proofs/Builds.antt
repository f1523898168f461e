-- What holds of each element of a list behind those before it.
use Rattle.std.proofs.Common.{◌≡◌, ℕ, ◌||◌, Bool, true, false, List, [], ◌∷◌, ◌++◌, map, refl, sym, ◌∙◌, ap, subst, append_assoc, append-nil}
use Rattle.std.specs.List.{list_any}
use Rattle.trace_text.specs.declared.trace.Mode.{Mode}
use Rattle.trace_text.specs.Traces.{Traced}
use Rattle.trace_text.specs.Grammar.{Says, SayAll}
use Rattle.trace_laws.proofs.Pieces.{Lacks, Each}

abbrev pub Builds : {X : Type 0} → (List X → X → Type 0) → List X → List X → Type 0
Builds P front [] = Unit {0}
Builds P front (x ∷ xs) = P front x × Builds P (front ++ x ∷ []) xs

-- with one element more
pub builds_more : {X : Type 0} (P : List X → X → Type 0) (front xs : List X) (x : X) → Builds P front xs → P (front ++ xs) x → Builds P front (xs ++ x ∷ [])
builds_more P front [] x builds p = (subst (λ before. P before x) (append-nil front) p, tt)
builds_more P front (y ∷ xs) x builds p = (builds.0, builds_more P (front ++ y ∷ []) xs x builds.1 (subst (λ before. P before x) (sym (append_assoc front (y ∷ []) xs)) p))

pub builds_change : {X : Type 0} (P Q : List X → X → Type 0) (front xs : List X) → ((before : List X) (x : X) → P before x → Q before x) → Builds P front xs → Builds Q front xs
builds_change P Q front [] f builds = tt
builds_change P Q front (x ∷ xs) f builds = (f front x builds.0, builds_change P Q (front ++ x ∷ []) xs f builds.1)

pub either_false : (a b : Bool) → a || b ≡ false → (a ≡ false) × (b ≡ false)
either_false true b h = (cc)
either_false false b h = (refl, h)

-- where none passes a test
pub builds_fail : {X : Type 0} (P : List X → X → Type 0) (test : X → Bool) (front xs : List X) → list_any test xs ≡ false → Builds P front xs → Builds (λ before x. P before x × (test x ≡ false)) front xs
builds_fail P test front [] none builds = tt
builds_fail P test front (x ∷ xs) none builds =
    let parts = either_false (test x) (list_any test xs) none in
    ((builds.0, parts.0), builds_fail P test (front ++ x ∷ []) xs parts.1 builds.1)

-- one more that fails
pub fails_more : {X : Type 0} (test : X → Bool) (xs : List X) (x : X) → list_any test xs ≡ false → test x ≡ false → list_any test (xs ++ x ∷ []) ≡ false
fails_more test [] x none e = ap (λ (b : Bool). b || false) e
fails_more test (y ∷ xs) x none e =
    let parts = either_false (test y) (list_any test xs) none in
    ap (λ (b : Bool). b || list_any test (xs ++ x ∷ [])) parts.0 ∙ fails_more test xs x parts.1 e

-- lines that say the elements, one after another
abbrev pub SayLines : Mode → Traced → List (List ℕ) → Traced → Type 0
SayLines mode before lines after = SayAll mode before lines after × Each (Lacks 10) lines

pub builds_say : {X : Type 0} (P : List X → X → Type 0) (mode : Mode) (made : List X → Traced) (line : X → List ℕ) (front xs : List X)
    → ((before : List X) (x : X) → P before x → Says mode (made before) (line x) (made (before ++ x ∷ [])) × Lacks 10 (line x))
    → Builds P front xs → SayLines mode (made front) (map line xs) (made (front ++ xs))
builds_say P mode made line front [] says builds = (ap made (append-nil front), tt)
builds_say P mode made line front (x ∷ xs) says builds =
    let first = says front x builds.0 in
    let rest = builds_say P mode made line (front ++ x ∷ []) xs says builds.1 in
    ((made (front ++ x ∷ []), first.0, subst (λ all. SayAll mode (made (front ++ x ∷ [])) (map line xs) (made all)) (append_assoc front (x ∷ []) xs) rest.0), (first.1, rest.1))

pub say_append : (mode : Mode) (before between after : Traced) (lines others : List (List ℕ)) → SayAll mode before lines between → SayAll mode between others after → SayAll mode before (lines ++ others) after
say_append mode before between after [] others h k = subst (λ t. SayAll mode t others after) h k
say_append mode before between after (line ∷ lines) others (next, says, rest) k = (next, says, say_append mode next between after lines others rest k)
