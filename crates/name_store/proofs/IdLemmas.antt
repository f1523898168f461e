-- Ids that are given, and ways up from a directory, for the laws of specs/IdLaws.antt.
use Rattle.std.proofs.Common.{◌≡◌, ◌↔◌, ℕ, ◌+◌, ◌-◌, ◌<◌, ◌≤◌, zero, suc, true, false, inl, inr, List, [], ◌∷◌, length, Some, refl, sym, ap, ◌∙◌, arith}
use Rattle.std.proofs.lemmas.Bool.{cases_lt}
use Rattle.name_store.specs.declared.operation.NameOp.{NameOp}
use Rattle.name_store.specs.NameTrees.{Tree, is_inside, nstep, up}
use Rattle.name_store.specs.Sound.{IsSound, climb, parent_at}
use Rattle.name_store.specs.EntryLaws.{tree_after}
use Rattle.name_store.specs.IdLaws.{Climbs, ClimbsIn, IsNewId, Makes}
use Rattle.name_store.proofs.Changes.{past, same_id}
use Rattle.name_store.proofs.Climbs.{climb_on, climb_root, few_steps, first, inside_here, inside_up, is_other, is_same, up_is}
use Rattle.name_store.proofs.Edits.{root_up, sound_parents}
use Rattle.name_store.proofs.Shapes.{shape_of}
use Rattle.name_store.proofs.Soundness.{step_sound}
use Rattle.name_store.proofs.Transitions.{id_given, none_some}

-- an id that is given is the next one
makes_next : (tree : Tree) (op : NameOp) (id : ℕ) → IsSound tree → Makes tree op id → (id ≡ length tree) × (length (nstep tree op).tree ≡ length tree + 1)
makes_next tree op id sound makes =
    elim (shape_of tree op sound) [
      | inl s ↦ absurd (none_some _ id s.id makes)
      | inr (inl g) ↦ g.grows.next id (sym g.id ∙ makes)
      | inr (inr (inl t)) ↦ absurd (none_some _ id t.id makes)
      | inr (inr (inr w)) ↦ absurd (none_some _ id w.id makes)
    ]

-- the next id never falls
next_rises : (tree : Tree) (op : NameOp) → IsSound tree → length tree ≤ length (nstep tree op).tree
next_rises tree op sound =
    elim (shape_of tree op sound) [
      | inl s ↦ (let same = ap (λ (t : Tree). length t) s.same in omega (arith, same))
      | inr (inl g) ↦ g.grows.size
      | inr (inr (inl t)) ↦ (let same = t.takes.size in omega (arith, same))
      | inr (inr (inr w)) ↦ (let same = w.moves.size in omega (arith, same))
    ]

after_rises : (tree : Tree) (ops : List NameOp) → IsSound tree → (length tree ≤ length (tree_after tree ops)) × IsSound (tree_after tree ops)
after_rises tree [] sound = (omega arith, sound)
after_rises tree (op ∷ ops) sound =
    let (more, ends) = after_rises (nstep tree op).tree ops (step_sound tree op sound) in
    let one = next_rises tree op sound in
    (omega (arith, more, one), ends)

pub ids_are_new : (tree : Tree) (op : NameOp) (id : ℕ) → IsSound tree → Makes tree op id → IsNewId tree id
ids_are_new tree op id sound makes =
    let is = (makes_next tree op id sound makes).0 in
    record {
      directory = past tree id (omega (arith, is));
      entries = λ place name node stands same. (let given : id < length tree = id_given tree sound place name node id stands same in omega (arith, is, given));
    }

pub ids_rise : (tree : Tree) (earlier later : NameOp) (between : List NameOp) (id other : ℕ) → IsSound tree → Makes tree earlier id → Makes (tree_after (nstep tree earlier).tree between) later other → id < other
ids_rise tree earlier later between id other sound makes again =
    let (is, size) = makes_next tree earlier id sound makes in
    let (more, ends) = after_rises (nstep tree earlier).tree between (step_sound tree earlier sound) in
    let is_later = (makes_next _ later other ends again).0 in
    omega (arith, is, size, more, is_later)

-- what is told to be inside a directory climbs to it
inside_climbs : (tree : Tree) (sound : IsSound tree) (steps top id parent : ℕ) → parent_at tree id ≡ Some parent → is_inside steps tree top id ≡ true → Climbs tree id top
inside_climbs tree sound zero top id parent there h = cc
inside_climbs tree sound (suc steps) top id parent there h =
    elim (same_id id top) [
      | inl e ↦ (0, e)
      | inr ne ↦ elim (same_id id 0) [
        | inl e ↦
            let out : is_inside (suc steps) tree top id ≡ false = rw (is_other id top ne, is_same id 0 e) refl in
            let clash : true ≡ false = sym h ∙ out in cc
        | inr some ↦
            let (next, is) = sound_parents tree sound id parent there in
            let up_there : up tree id ≡ parent = up_is tree id parent there in
            let (count, way) = inside_climbs tree sound steps top parent next is (ap (λ (i : ℕ). is_inside steps tree top i) (sym up_there) ∙ sym (inside_up tree top steps id ne some) ∙ h) in
            (suc count, (parent, there, way))
      ]
    ]

-- climbing is climbing by `up`
climbs_up : (tree : Tree) (steps id top : ℕ) → ClimbsIn steps tree id top → climb tree steps id ≡ top
climbs_up tree zero id top h = h
climbs_up tree (suc steps) id top (parent, there, way) = ap (climb tree steps) (up_is tree id parent there) ∙ climbs_up tree steps parent top way

-- what climbs to a directory in few steps is told to be inside it
climbs_inside : (tree : Tree) (limit steps top id : ℕ) → up tree 0 ≡ 0 → climb tree steps id ≡ top → steps < limit → is_inside limit tree top id ≡ true
climbs_inside tree zero steps top id root h lt = absurd (omega arith)
climbs_inside tree (suc limit) zero top id root h lt = inside_here tree top limit id h
climbs_inside tree (suc limit) (suc steps) top id root h lt =
    elim (same_id id top) [
      | inl e ↦ inside_here tree top limit id e
      | inr ne ↦ elim (same_id id 0) [
        | inl e ↦ absurd (ne (e ∙ sym (climb_root tree (suc steps) root) ∙ sym (ap (climb tree (suc steps)) e) ∙ h))
        | inr some ↦ inside_up tree top limit id ne some ∙ climbs_inside tree limit steps top (up tree id) root h (omega arith)
      ]
    ]

module _ (tree : Tree) (top id parent : ℕ) (sound : IsSound tree) (there : parent_at tree id ≡ Some parent) where
  -- the root is reached in few steps, and nothing else is met after it
  climbs_few : (steps : ℕ) → climb tree steps id ≡ top → is_inside (length tree) tree top id ≡ true
  climbs_few steps h =
      let root = root_up tree sound.root in
      let way = first tree (length tree) id (sound.rooted id parent there) in
      let few : way.steps < length tree = few_steps tree id parent way (sound_parents tree sound) there in
      elim (cases_lt steps way.steps) [
        | inl lt ↦ climbs_inside tree (length tree) steps top id root h (omega (arith, lt, few))
        | inr ge ↦
            let at_root : climb tree steps id ≡ 0 =
            climb_on tree way.steps steps (steps - way.steps) id (omega (arith, ge))
            ∙ ap (climb tree (steps - way.steps)) way.there
            ∙ climb_root tree (steps - way.steps) root in
            climbs_inside tree (length tree) way.steps top id root (way.there ∙ sym at_root ∙ h) few
      ]

  pub inside_is_climbing : (is_inside (length tree) tree top id ≡ true) ↔ Climbs tree id top
  inside_is_climbing = (λ h. inside_climbs tree sound (length tree) top id parent there h, λ way. climbs_few way.0 (climbs_up tree way.0 id top way.1))
