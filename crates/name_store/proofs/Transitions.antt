-- The three kinds of change of a sound tree: an entry is made, taken out or moved.
use Rattle.std.proofs.Common.{◌≡◌, ◌≢◌, ℕ, ◌<◌, ◌≤◌, ◌+◌, suc, ◌⊎◌, inl, inr, List, length, Option, None, Some, refl, sym, ap, ◌∙◌, arith}
use Rattle.name_store.specs.declared.operation.Node.{Node}
use Rattle.name_store.specs.declared.operation.Node.TheVariants.{Dir, Link, File, Mount}
use Rattle.name_store.specs.NameTrees.{Tree, dir_of, up}
use Rattle.name_store.specs.Sound.{AreApart, node_at, parent_at, id_of, climb, IsSound}
use Rattle.name_store.proofs.Changes.{Ordered, same_id, same_place}
use Rattle.name_store.proofs.Climbs.{climb_same, parent_within, reached, up_is}
use Rattle.name_store.proofs.Edits.{Edit, edited, entry, parents_there, root_up, sound_parents}

abbrev pub some : {X : Type 0} → X → Option X
some x = Some x

-- an id is that one, or is not
pub same_some : (o : Option ℕ) (id : ℕ) → (o ≡ Some id) ⊎ (o ≡ Some id → ⊥)
same_some None id = inr (λ e. cc)
same_some (Some other) id = elim (same_id other id) [ inl e ↦ inl (ap (λ (i : ℕ). some i) e) | inr ne ↦ inr (λ e. ne (cc)) ]

-- each id that stands was given
pub id_given : (tree : Tree) (sound : IsSound tree) (place : ℕ) (name : List ℕ) (node : Node) (id : ℕ) → node_at tree place name ≡ Some node → id_of node ≡ Some id → id < length tree
id_given tree sound place name (Dir child) id h e =
    let (not_root, is) = sound.child place child name h in
    let same : child ≡ id = cc in
    let within : child < length tree = parent_within tree child place is in
    omega arith
id_given tree sound place name (Link link text) id h e =
    let same : link ≡ id = cc in
    let within : link < length tree = (sound.link place link name text h).0 in
    omega arith
id_given tree sound place name (File file) id h e = cc
id_given tree sound place name (Mount backend) id h e = cc

pub none_some : {X : Type 0} (o : Option X) (x : X) → o ≡ None → o ≡ Some x → ⊥
none_some o x e f = cc

-- a node under a name that was absent; `last` is the next id's parent then, where that is a directory
pub record Grows (old new : Tree) (place : ℕ) (name : List ℕ) (node : Node) (last : Option ℕ) : Type 0 where
  pub absent : node_at old place name ≡ None
  pub there : (parent : ℕ) × (parent_at old place ≡ Some parent)
  pub at : node_at new place name ≡ Some node
  pub apart : (first : ℕ) (other : List ℕ) → AreApart place name first other → node_at new first other ≡ node_at old first other
  pub size : length old ≤ length new
  pub next : (id : ℕ) → id_of node ≡ Some id → (id ≡ length old) × (length new ≡ length old + 1)
  pub others : (id : ℕ) → id ≢ length old → parent_at new id ≡ parent_at old id
  pub last_is : parent_at new (length old) ≡ last
  pub made : (id : ℕ) → last ≡ Some id → (node ≡ Dir (length old)) × (id ≡ place)
  pub dir : (id : ℕ) → node ≡ Dir id → last ≡ Some place
  pub link : (id : ℕ) (text : List ℕ) → node ≡ Link id text → last ≡ None
  pub names : (id : ℕ) → Ordered new id

module _ (old new : Tree) (place : ℕ) (name : List ℕ) (node : Node) (last : Option ℕ) (sound : IsSound old) (g : Grows old new place name node last) where
  abbrev Kept : ℕ → List ℕ → Type 0
  Kept first other = AreApart place name first other

  absent_apart : (first : ℕ) (other : List ℕ) (there : Node) → node_at old first other ≡ Some there → Kept first other
  absent_apart first other there h e f =
      let here : node_at old place name ≡ Some there = ap (λ (i : ℕ). node_at old i name) (sym e) ∙ ap (λ (n : List ℕ). node_at old first n) (sym f) ∙ h in
      none_some (node_at old place name) there g.absent here

  stands : (id : ℕ) (other : List ℕ) (there : Node) → node_at new id other ≡ Some there → ((node_at old id other ≡ Some there) × Kept id other) ⊎ ((id ≡ place) × (other ≡ name) × (some node ≡ Some there))
  stands id other there h =
      elim (same_place place name id other) [
        | inl e ↦ inr (e.0, e.1, sym g.at ∙ ap (λ (i : ℕ). node_at new i name) (sym e.0) ∙ ap (λ (n : List ℕ). node_at new id n) (sym e.1) ∙ h)
        | inr a ↦ inl (sym (g.apart id other a) ∙ h, a)
      ]

  not_last : (id first : ℕ) (other : List ℕ) → node_at old first other ≡ Some (Dir id) → id ≢ length old
  not_last id first other h = let lt : id < length old = id_given old sound first other (Dir id) id h refl in omega arith

  grown_parents : (id parent : ℕ) → parent_at new id ≡ Some parent → ((parent_at old id ≡ Some parent) × ((p : ℕ) (other : List ℕ) → node_at old p other ≡ Some (Dir id) → Kept p other)) ⊎ ((some node ≡ Some (Dir id)) × (parent ≡ place))
  grown_parents id parent h =
      elim (same_id id (length old)) [
        | inl e ↦
            let m = g.made parent (sym g.last_is ∙ ap (parent_at new) (sym e) ∙ h) in
            inr (ap (λ (n : Node). some n) m.0 ∙ ap (λ (i : ℕ). some (Dir i)) (sym e), m.1)
        | inr ne ↦ inl (sym (g.others id ne) ∙ h, λ p other is. absent_apart p other (Dir id) is)
      ]

  unwrap : (here : Node) → some node ≡ Some here → node ≡ here
  unwrap here e = cc

  grown_edit : Edit old new Kept place name (Some node)
  grown_edit = record {
    size = g.size;
    stands = stands;
    kept = λ id other there h k. g.apart id other k ∙ h;
    put = λ there e. g.at ∙ e;
    fresh = λ here there id p other e i h k j.
        (let lt : id < length old = id_given old sound p other there id h j in
        let n = (g.next id (ap id_of (unwrap here e) ∙ i)).0 in
        omega arith);
    parents = grown_parents;
    same_parent = λ id p other h k. g.others id (not_last id p other h);
    put_parent = λ id e.
        (let (is, size) = g.next id (ap id_of (unwrap (Dir id) e)) in
        let (parent, here) = g.there in
        let lt : place < length old = parent_within old place parent here in
        (let some_id : id ≢ 0 = omega arith in some_id, ap (parent_at new) is ∙ g.last_is ∙ g.dir id (unwrap (Dir id) e)));
    links = λ id lt h. g.others id (let ne : id ≢ length old = omega arith in ne) ∙ h;
    put_link = λ id text e.
        (let (is, size) = g.next id (ap id_of (unwrap (Link id text) e)) in
        (omega arith, ap (parent_at new) is ∙ g.last_is ∙ g.link id text (unwrap (Link id text) e)));
    root = g.others 0 (let lt : 0 < length old = parent_within old 0 0 sound.root in let ne : 0 ≢ length old = omega arith in ne) ∙ sound.root;
    names = g.names;
  }

  -- the directories of the old tree
  abbrev Was : ℕ → Type 0
  Was id = (parent : ℕ) × (parent_at old id ≡ Some parent)

  was_up : (id : ℕ) → Was id → Was (up old id)
  was_up id (parent, h) = (let (next, is) = sound_parents old sound id parent h in (next, ap (parent_at old) (up_is old id parent h) ∙ is))

  was_same : (id : ℕ) → Was id → up new id ≡ up old id
  was_same id (parent, h) =
      let lt : id < length old = parent_within old id parent h in
      let ne : id ≢ length old = omega arith in
      up_is new id parent (g.others id ne ∙ h) ∙ sym (up_is old id parent h)

  was_rooted : (steps id : ℕ) → length old ≤ steps → Was id → climb new steps id ≡ 0
  was_rooted steps id le (parent, h) =
      climb_same old new Was was_up was_same steps id (parent, h)
      ∙ reached old (length old) steps id (root_up old sound.root) le (sound.rooted id parent h)

  grown_rooted : (id parent : ℕ) → parent_at new id ≡ Some parent → climb new (length new) id ≡ 0
  grown_rooted id parent h =
      elim (grown_parents id parent h) [
        | inl p ↦ was_rooted (length new) id g.size (parent, p.0)
        | inr p ↦
            let (is, size) = g.next id (ap id_of (unwrap (Dir id) p.0)) in
            ap (λ (n : ℕ). climb new n id) (let e : length new ≡ suc (length old) = omega arith in e)
            ∙ ap (climb new (length old)) (up_is new id parent h ∙ p.1)
            ∙ was_rooted (length old) place (omega arith) g.there
      ]

  pub grows : IsSound new
  grows = edited old new Kept place name (Some node) sound grown_edit grown_rooted

-- an entry is taken out; where it is a directory, that is empty, and is no more
pub record Takes (old new : Tree) (place : ℕ) (name : List ℕ) (node : Node) : Type 0 where
  pub stood : node_at old place name ≡ Some node
  pub gone : node_at new place name ≡ None
  pub apart : (first : ℕ) (other : List ℕ) → AreApart place name first other → node_at new first other ≡ node_at old first other
  pub size : length new ≡ length old
  pub empty : (id : ℕ) → dir_of node ≡ Some id → (other : List ℕ) → node_at old id other ≡ None
  pub freed : (id : ℕ) → dir_of node ≡ Some id → parent_at new id ≡ None
  pub others : (id : ℕ) → (dir_of node ≡ Some id → ⊥) → parent_at new id ≡ parent_at old id
  pub names : (id : ℕ) → Ordered new id

-- the directory that a node is
pub is_dir : (node : Node) (id : ℕ) → dir_of node ≡ Some id → node ≡ Dir id
is_dir (Dir child) id e = ap (λ (i : ℕ). let n : Node = Dir i in n) (let same : child ≡ id = cc in same)
is_dir (Link link text) id e = cc
is_dir (File file) id e = cc
is_dir (Mount backend) id e = cc

module _ (old new : Tree) (place : ℕ) (name : List ℕ) (node : Node) (sound : IsSound old) (t : Takes old new place name node) where
  abbrev Left : ℕ → List ℕ → Type 0
  Left first other = AreApart place name first other

  left_stands : (id : ℕ) (other : List ℕ) (there : Node) → node_at new id other ≡ Some there → ((node_at old id other ≡ Some there) × Left id other) ⊎ ((id ≡ place) × (other ≡ name) × (None ≡ Some there))
  left_stands id other there h =
      elim (same_place place name id other) [
        | inl e ↦ absurd (none_some (node_at new place name) there t.gone (ap (λ (i : ℕ). node_at new i name) (sym e.0) ∙ ap (λ (n : List ℕ). node_at new id n) (sym e.1) ∙ h))
        | inr a ↦ inl (sym (t.apart id other a) ∙ h, a)
      ]

  -- the entry of a directory that is there still was left
  left_entry : (id : ℕ) → (dir_of node ≡ Some id → ⊥) → (p : ℕ) (other : List ℕ) → node_at old p other ≡ Some (Dir id) → Left p other
  left_entry id ne p other is e f =
      let same : some node ≡ Some (Dir id) = sym t.stood ∙ ap (λ (i : ℕ). node_at old i name) (sym e) ∙ ap (λ (n : List ℕ). node_at old p n) (sym f) ∙ is in
      let one : node ≡ Dir id = cc in
      ne (ap dir_of one)

  left_parents : (id parent : ℕ) → parent_at new id ≡ Some parent → ((parent_at old id ≡ Some parent) × ((p : ℕ) (other : List ℕ) → node_at old p other ≡ Some (Dir id) → Left p other)) ⊎ ((None ≡ some (Dir id)) × (parent ≡ place))
  left_parents id parent h =
      elim (same_some (dir_of node) id) [
        | inl e ↦ absurd (none_some (parent_at new id) parent (t.freed id e) h)
        | inr ne ↦ inl (sym (t.others id ne) ∙ h, left_entry id ne)
      ]

  -- a directory whose entry was left was not taken out
  left_dir : (id p : ℕ) (other : List ℕ) → node_at old p other ≡ Some (Dir id) → Left p other → dir_of node ≡ Some id → ⊥
  left_dir id p other is k e =
      let one = sound.once id p place other name (Dir id) node is t.stood refl (ap id_of (is_dir node id e)) in
      k one.0 one.1

  some_child : (id : ℕ) → dir_of node ≡ Some id → id ≢ 0
  some_child id e = (sound.child place id name (t.stood ∙ ap (λ (n : Node). some n) (is_dir node id e))).0

  left_links : (id : ℕ) → id < length old → parent_at old id ≡ None → parent_at new id ≡ None
  left_links id lt h = elim (same_some (dir_of node) id) [ inl e ↦ t.freed id e | inr ne ↦ t.others id ne ∙ h ]

  left_edit : Edit old new Left place name None
  left_edit = record {
    size = (let e = t.size in omega arith);
    stands = left_stands;
    kept = λ id other there h k. t.apart id other k ∙ h;
    put = λ there e. cc;
    fresh = λ here there id p other e i h k j. cc;
    parents = left_parents;
    same_parent = λ id p other h k. t.others id (left_dir id p other h k);
    put_parent = λ id e. cc;
    links = left_links;
    put_link = λ id text e. cc;
    root = t.others 0 (λ e. some_child 0 e refl) ∙ sound.root;
    names = t.names;
  }

  -- the directories of the new tree
  abbrev Is : ℕ → Type 0
  Is id = (parent : ℕ) × (parent_at new id ≡ Some parent)

  was_parent : (id parent : ℕ) → parent_at new id ≡ Some parent → parent_at old id ≡ Some parent
  was_parent id parent h = elim (left_parents id parent h) [ inl p ↦ p.0 | inr p ↦ cc ]

  left_there : (id parent : ℕ) → parent_at new id ≡ Some parent → (next : ℕ) × (parent_at new parent ≡ Some next)
  left_there = parents_there new left_edit.root (entry old new Left place name None sound left_edit)

  left_up : (id : ℕ) → Is id → Is (up old id)
  left_up id (parent, h) = (let (next, is) = left_there id parent h in (next, ap (parent_at new) (up_is old id parent (was_parent id parent h)) ∙ is))

  left_same : (id : ℕ) → Is id → up new id ≡ up old id
  left_same id (parent, h) = up_is new id parent h ∙ sym (up_is old id parent (was_parent id parent h))

  left_rooted : (id parent : ℕ) → parent_at new id ≡ Some parent → climb new (length new) id ≡ 0
  left_rooted id parent h =
      climb_same old new Is left_up left_same (length new) id (parent, h)
      ∙ ap (λ (n : ℕ). climb old n id) t.size
      ∙ sound.rooted id parent (was_parent id parent h)

  pub takes : IsSound new
  takes = edited old new Left place name None sound left_edit left_rooted
