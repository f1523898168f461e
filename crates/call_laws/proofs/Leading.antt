-- Where a path leads in a store that has grown or has lost an entry, and on from where its first components lead.
use Rattle.std.proofs.Common.{◌≡◌, ◌⊎◌, inl, inr, ℕ, ◌==◌, ◌||◌, zero, suc, Bool, true, false, if◌then◌else◌, List, [], ◌∷◌, ◌++◌, append_assoc, Option, None, Some, Result, Ok, Err, refl, sym, ap, subst, ◌∙◌}
use Rattle.wf_core.specs.declared.errno.Errno.{Errno}
use Rattle.wf_core.specs.declared.errno.Errno.TheVariants.{Enoent}
use Rattle.name_store.specs.declared.operation.Node.{Node}
use Rattle.name_store.specs.declared.operation.Node.TheVariants.{Dir, Link, File as FileNode, Mount}
use Rattle.name_store.specs.NameTrees.{Listing, dir_at}
use Rattle.name_store.specs.Sound.{node_in, parent_of, parent_at}
use Rattle.path_walk.specs.declared.part.Part.{Part}
use Rattle.path_walk.specs.declared.part.Part.TheVariants.{Here, Up, Down, TooLong}
use Rattle.path_walk.specs.declared.route.Manner.{Manner}
use Rattle.path_walk.specs.declared.route.Manner.TheVariants.{OnWay}
use Rattle.path_walk.specs.declared.route.Spot.{Spot}
use Rattle.path_walk.specs.declared.route.End.{End}
use Rattle.path_walk.specs.Store.{Store, names_at}
use Rattle.call_laws.specs.Entries.{node_of, current_spot, path_spot}
use Rattle.call_laws.specs.PathLaws.{LeadsOn}
use Rattle.path_walk.specs.Paths.{parts_of, slash_of, is_absolute}
use Rattle.path_walk.specs.PathMeaning.{Way, Course, ends, goes, course, end_of_course, on_found, entry_in, parent_in, parent_from, root_of, start_of, spot_beside, resolve}

entry_course : (directory : Option Listing) (name : List ℕ) (manner : Manner) (rest : List Part) (slash : Bool) (links : ℕ) (here : Spot) (next : Way → Result End Errno) → on_found (entry_in directory name) (λ node. end_of_course (course manner node rest slash links here) next) ≡ end_of_course (course manner (node_in directory name) rest slash links here) next
entry_course None name manner rest slash links here next = refl
entry_course (Some directory) name manner rest slash links here next = refl

-- a name in a directory that is not there is absent like any other
pub resolve_down : (store : Store) (names : ℕ) (name : List ℕ) (rest : List Part) (manner : Manner) (slash : Bool) (links : ℕ) (here : Spot) → resolve store (suc names) (Down name ∷ rest) manner slash links here ≡ end_of_course (course manner (node_of store here name) rest slash links here) (λ w. resolve store names w.rest manner w.slash w.links w.spot)
resolve_down store names name rest manner slash links here = entry_course (dir_at (names_at store here.backend) here.directory) name manner rest slash links here _

-- On from the end of a prefix.

module _ (store : Store) (rest : Part) (more : List Part) (manner : Manner) (slash : Bool) where
  abbrev On : Result End Errno → Result End Errno → Type 0
  On = LeadsOn store rest more manner slash

  found_on : {A : Type 0} (first : Result A Errno) (prefix whole : A → Result End Errno) → ((x : A) → On (prefix x) (whole x)) → On (on_found first prefix) (on_found first whole)
  found_on (Ok x) prefix whole each = each x
  found_on (Err error) prefix whole each = refl

  -- at a name, whose prefix and whole go on alike
  node_on : (node : Option Node) (front : List Part) (slashed : Bool) (links : ℕ) (here : Spot) (prefix whole : Way → Result End Errno) → ((parts : List Part) (flag : Bool) (left : ℕ) (spot : Spot) → On (prefix (record { rest = parts; slash = flag; links = left; spot = spot })) (whole (record { rest = parts ++ rest ∷ more; slash = slash; links = left; spot = spot }))) → On (end_of_course (course OnWay node front slashed links here) prefix) (end_of_course (course manner node (front ++ rest ∷ more) slash links here) whole)
  node_on None front slashed links here prefix whole each = refl
  node_on (Some (Dir id)) front slashed links here prefix whole each = each front slashed links (spot_beside here id)
  node_on (Some (Mount backend)) front slashed links here prefix whole each = each front slashed links (root_of backend)
  node_on (Some (FileNode file)) [] slashed links here prefix whole each = refl
  node_on (Some (FileNode file)) (part ∷ front) slashed links here prefix whole each = refl
  node_on (Some (Link id text)) [] slashed zero here prefix whole each = refl
  node_on (Some (Link id text)) [] slashed (suc links) here prefix whole each = each (parts_of text) (slashed || slash_of text) links (start_of text here)
  node_on (Some (Link id text)) (part ∷ front) slashed zero here prefix whole each = refl
  node_on (Some (Link id text)) (part ∷ front) slashed (suc links) here prefix whole each =
      subst (λ (parts : List Part). On (prefix (record { rest = parts_of text ++ part ∷ front; slash = slashed; links = links; spot = start_of text here })) (whole (record { rest = parts; slash = slash; links = links; spot = start_of text here })))
      (append_assoc (parts_of text) (part ∷ front) (rest ∷ more))
      (each (parts_of text ++ part ∷ front) slashed links (start_of text here))

  pub leads_on : (names : ℕ) (front : List Part) (slashed : Bool) (links : ℕ) (here : Spot) → On (resolve store names front OnWay slashed links here) (resolve store names (front ++ rest ∷ more) manner slash links here)
  leads_on names [] slashed links here = refl
  leads_on names (Here ∷ front) slashed links here = leads_on names front slashed links here
  leads_on names (TooLong ∷ front) slashed links here = refl
  leads_on zero (Up ∷ front) slashed links here = refl
  leads_on (suc names) (Up ∷ front) slashed links here = found_on (parent_from store here) _ _ (λ there. leads_on names front slashed links there)
  leads_on zero (Down name ∷ front) slashed links here = refl
  leads_on (suc names) (Down name ∷ front) slashed links here =
      subst (λ (r : Result End Errno). On r (resolve store (suc names) (Down name ∷ (front ++ rest ∷ more)) manner slash links here)) (sym (resolve_down store names name front OnWay slashed links here))
      (subst (λ (r : Result End Errno). On (end_of_course (course OnWay (node_of store here name) front slashed links here) (λ w. resolve store names w.rest OnWay w.slash w.links w.spot)) r) (sym (resolve_down store names name (front ++ rest ∷ more) manner slash links here))
      (node_on (node_of store here name) front slashed links here _ _ (λ parts flag left spot. leads_on names parts flag left spot)))

-- In a store that has grown.

-- each entry is there still, and each directory has its parent still
pub record Extends (earlier later : Store) : Type 0 where
  pub entries : (here : Spot) (name : List ℕ) (node : Node) → node_of earlier here name ≡ Some node → node_of later here name ≡ Some node
  pub parents : (here : Spot) (parent : ℕ) → parent_at (names_at earlier here.backend) here.directory ≡ Some parent → parent_at (names_at later here.backend) here.directory ≡ Some parent
  pub current : current_spot later ≡ current_spot earlier

-- where a path starts, the current directory being the same
pub spot_still : (version : ℕ) (earlier later : Store) (path : List ℕ) → current_spot later ≡ current_spot earlier → path_spot version later path ≡ path_spot version earlier path
spot_still version earlier later path same = ap (λ (spot : Spot). if version == 1 || is_absolute path then root_of 0 else spot) same

parent_still : (earlier later : Option Listing) (here : Spot) (prefix whole : Spot → Result End Errno) (end : End) (is_root : Bool) → ((parent : ℕ) → parent_of earlier ≡ Some parent → parent_of later ≡ Some parent) → ((there : Spot) → prefix there ≡ Ok end → whole there ≡ Ok end) → on_found (if is_root then Ok (root_of 0) else parent_in earlier here) prefix ≡ Ok end → on_found (if is_root then Ok (root_of 0) else parent_in later here) whole ≡ Ok end
parent_still earlier later here prefix whole end true up each h = each (root_of 0) h
parent_still None later here prefix whole end false up each h = cc
parent_still (Some old) None here prefix whole end false up each h = let clash : parent_of None ≡ Some old.parent = up old.parent refl in cc
parent_still (Some old) (Some new) here prefix whole end false up each h =
    let same : parent_of (Some new) ≡ Some old.parent = up old.parent refl in
    let parent : new.parent ≡ old.parent = cc in
    ap (λ (id : ℕ). whole (spot_beside here id)) parent ∙ each (spot_beside here old.parent) h

course_still : (c : Course) (prefix whole : Way → Result End Errno) (end : End) → ((w : Way) → prefix w ≡ Ok end → whole w ≡ Ok end) → end_of_course c prefix ≡ Ok end → end_of_course c whole ≡ Ok end
course_still (ends given) prefix whole end each h = h
course_still (goes w) prefix whole end each h = each w h

node_still : (earlier later : Option Node) (manner : Manner) (rest : List Part) (slash : Bool) (links : ℕ) (here : Spot) (prefix whole : Way → Result End Errno) (end : End) → ((node : Node) → earlier ≡ Some node → later ≡ Some node) → ((w : Way) → prefix w ≡ Ok end → whole w ≡ Ok end) → end_of_course (course manner earlier rest slash links here) prefix ≡ Ok end → end_of_course (course manner later rest slash links here) whole ≡ Ok end
node_still None later manner rest slash links here prefix whole end stays each h = cc
node_still (Some node) later manner rest slash links here prefix whole end stays each h =
    ap (λ (n : Option Node). end_of_course (course manner n rest slash links here) whole) (stays node refl) ∙ course_still (course manner (Some node) rest slash links here) prefix whole end each h

-- a path leads where it led
pub leads_still : (earlier later : Store) → Extends earlier later → (names : ℕ) (parts : List Part) (manner : Manner) (slash : Bool) (links : ℕ) (here : Spot) (end : End) → resolve earlier names parts manner slash links here ≡ Ok end → resolve later names parts manner slash links here ≡ Ok end
leads_still earlier later more names [] manner slash links here end h = h
leads_still earlier later more names (Here ∷ rest) manner slash links here end h = leads_still earlier later more names rest manner slash links here end h
leads_still earlier later more names (TooLong ∷ rest) manner slash links here end h = cc
leads_still earlier later more zero (Up ∷ rest) manner slash links here end h = cc
leads_still earlier later more (suc names) (Up ∷ rest) manner slash links here end h =
    parent_still (dir_at (names_at earlier here.backend) here.directory) (dir_at (names_at later here.backend) here.directory) here _ _ end (here.directory == 0) (more.parents here) (λ there. leads_still earlier later more names rest manner slash links there end) h
leads_still earlier later more zero (Down name ∷ rest) manner slash links here end h = cc
leads_still earlier later more (suc names) (Down name ∷ rest) manner slash links here end h =
    resolve_down later names name rest manner slash links here
    ∙ node_still (node_of earlier here name) (node_of later here name) manner rest slash links here _ _ end (more.entries here name) (λ w. leads_still earlier later more names w.rest manner w.slash w.links w.spot end) (sym (resolve_down earlier names name rest manner slash links here) ∙ h)

-- In a store that has lost something.

-- the same, or nothing
abbrev pub SameOrNone : {X : Type 0} → Option X → Option X → Type 0
SameOrNone old new = (new ≡ old) ⊎ (new ≡ None)

-- each entry is as it was or is no more, and so is each directory
pub record Loses (earlier later : Store) : Type 0 where
  pub entries : (here : Spot) (name : List ℕ) → SameOrNone (node_of earlier here name) (node_of later here name)
  pub parents : (here : Spot) → SameOrNone (parent_at (names_at earlier here.backend) here.directory) (parent_at (names_at later here.backend) here.directory)
  pub current : current_spot later ≡ current_spot earlier

-- the same end, or that nothing is there
abbrev pub SameOrAbsent : Result End Errno → Result End Errno → Type 0
SameOrAbsent old new = (new ≡ old) ⊎ (new ≡ Err Enoent)

parent_lost : (earlier later : Option Listing) (here : Spot) (old new : Spot → Result End Errno) (is_root : Bool) → SameOrNone (parent_of earlier) (parent_of later) → ((there : Spot) → SameOrAbsent (old there) (new there)) → SameOrAbsent (on_found (if is_root then Ok (root_of 0) else parent_in earlier here) old) (on_found (if is_root then Ok (root_of 0) else parent_in later here) new)
parent_lost earlier later here old new true same each = each (root_of 0)
parent_lost earlier None here old new false same each = inr refl
parent_lost None (Some later) here old new false (inl e) each = cc
parent_lost None (Some later) here old new false (inr e) each = cc
parent_lost (Some earlier) (Some later) here old new false (inr e) each = cc
parent_lost (Some earlier) (Some later) here old new false (inl e) each =
    let parent : later.parent ≡ earlier.parent = cc in
    subst (λ (id : ℕ). SameOrAbsent (old (spot_beside here earlier.parent)) (new (spot_beside here id))) (sym parent) (each (spot_beside here earlier.parent))

course_lost : (c : Course) (old new : Way → Result End Errno) → ((w : Way) → SameOrAbsent (old w) (new w)) → SameOrAbsent (end_of_course c old) (end_of_course c new)
course_lost (ends given) old new each = inl refl
course_lost (goes w) old new each = each w

node_lost : (earlier later : Option Node) (manner : Manner) (rest : List Part) (slash : Bool) (links : ℕ) (here : Spot) (old new : Way → Result End Errno) → SameOrNone earlier later → ((w : Way) → SameOrAbsent (old w) (new w)) → SameOrAbsent (end_of_course (course manner earlier rest slash links here) old) (end_of_course (course manner later rest slash links here) new)
node_lost earlier later manner rest slash links here old new (inr e) each = inr (ap (λ (n : Option Node). end_of_course (course manner n rest slash links here) new) e)
node_lost earlier later manner rest slash links here old new (inl e) each =
    subst (λ (n : Option Node). SameOrAbsent (end_of_course (course manner earlier rest slash links here) old) (end_of_course (course manner n rest slash links here) new)) (sym e) (course_lost (course manner earlier rest slash links here) old new each)

-- a path leads where it led, or to nothing
pub leads_or_lost : (earlier later : Store) → Loses earlier later → (names : ℕ) (parts : List Part) (manner : Manner) (slash : Bool) (links : ℕ) (here : Spot) → SameOrAbsent (resolve earlier names parts manner slash links here) (resolve later names parts manner slash links here)
leads_or_lost earlier later less names [] manner slash links here = inl refl
leads_or_lost earlier later less names (Here ∷ rest) manner slash links here = leads_or_lost earlier later less names rest manner slash links here
leads_or_lost earlier later less names (TooLong ∷ rest) manner slash links here = inl refl
leads_or_lost earlier later less zero (Up ∷ rest) manner slash links here = inl refl
leads_or_lost earlier later less (suc names) (Up ∷ rest) manner slash links here =
    parent_lost (dir_at (names_at earlier here.backend) here.directory) (dir_at (names_at later here.backend) here.directory) here _ _ (here.directory == 0) (less.parents here) (λ there. leads_or_lost earlier later less names rest manner slash links there)
leads_or_lost earlier later less zero (Down name ∷ rest) manner slash links here = inl refl
leads_or_lost earlier later less (suc names) (Down name ∷ rest) manner slash links here =
    subst (λ (r : Result End Errno). SameOrAbsent r (resolve later (suc names) (Down name ∷ rest) manner slash links here)) (sym (resolve_down earlier names name rest manner slash links here))
    (subst (λ (r : Result End Errno). SameOrAbsent (end_of_course (course manner (node_of earlier here name) rest slash links here) (λ w. resolve earlier names w.rest manner w.slash w.links w.spot)) r) (sym (resolve_down later names name rest manner slash links here))
    (node_lost (node_of earlier here name) (node_of later here name) manner rest slash links here _ _ (less.entries here name) (λ w. leads_or_lost earlier later less names w.rest manner w.slash w.links w.spot)))
