use Rattle.std.proofs.Common.{sym, ap, ◌∙◌, set, true, false, map, length, Bool, List, arith}
use Rattle.std.proofs.lemmas.List.{length-set, map-set}
use Rattle.file_store.specs.DescriptorMap.{Map, is_free}
use Rattle.file_store.proofs.UsedNumbers.{free_after_free, free_after_use}
use Rattle.file_store.proofs.descriptors.Descriptors.set.Goals as goal

pub invariant_of-self : goal.invariant_of-self
invariant_of-self c =
    let free = sym c.is_free-free.ensures ∙ c.if-free.true in
    let changed = c.insert.ensures ∙ ap (λ (bs : List Bool). set bs c.args.number true) c.self.invariant.1 ∙ ap (λ (b : Bool). set (map is_free c.self.inside.slots.items) c.args.number b) (sym free) in (
      length-set c.self.inside.slots.items c.args.number c.args.slot ∙ c.self.invariant.0,
      changed ∙ sym (map-set is_free c.self.inside.slots.items c.args.number c.args.slot),
      c.self.invariant.2,
      free_after_free c.self.inside.slots.items c.self.inside.end c.args.number c.args.slot free c.self.invariant.3,
    )

pub invariant_of-self-else-free : goal.invariant_of-self-else-free
invariant_of-self-else-free c =
    let free = sym c.is_free-free.ensures ∙ c.if-free.false in
    let length_is = ap (λ (m : Map). length m.slots) c.self.view_is in
    let changed = c.remove.ensures ∙ ap (λ (bs : List Bool). set bs c.args.number false) c.self.invariant.1 ∙ ap (λ (b : Bool). set (map is_free c.self.inside.slots.items) c.args.number b) (sym free) in (
      length-set c.self.inside.slots.items c.args.number c.args.slot ∙ c.self.invariant.0,
      changed ∙ sym (map-set is_free c.self.inside.slots.items c.args.number c.args.slot),
      omega (arith, c.max-self-inside.ensures, c.self.invariant.2, c.requires, c.self.invariant.0, length_is),
      free_after_use c.self.inside.slots.items c.self.inside.end c.args.number c.max-self-inside.result c.args.slot c.max-self-inside.ensures c.self.invariant.3,
    )
