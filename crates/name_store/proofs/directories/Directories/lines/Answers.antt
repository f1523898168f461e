use Rattle.std.proofs.Common.{◌-◌, [], ◌∷◌, ◌++◌, length, option_map, sym, ap, ◌∙◌, arith}
use Rattle.std.specs.Option.{option_to_list}
use Rattle.name_store.specs.declared.tree_line.TreeLine.TheVariants.{Dir as DirLine}
use Rattle.name_store.specs.NameTrees.{dir_at}
use Rattle.name_store.specs.TreeLines.{lines_below}
use Rattle.name_store.proofs.Pending.{begins, below_none, closes, ends, goes, pending, stays, too_deep}
use Rattle.name_store.proofs.directories.Directories.lines.Goals as goal

pub loop-entries-init : goal.loop-entries-init
loop-entries-init c =
    let start = begins c.args.self.now c.descend.new.way.items (c.in_ok-descend.ensures ∙ ap (λ es. es ++ option_to_list (option_map (λ d. d.entries) (dir_at c.args.self.now 0))) c.new-way.ensures.items) in
    record {
      all = ap (λ ls. ls ++ pending c.args.self.now 0 c.descend.new.way.items) (c.in_ok-push.ensures.items ∙ ap (λ ls. ls ++ DirLine 0 c.in_ok-name.name ∷ []) c.new-lines.ensures.items) ∙ ap (λ ls. DirLine 0 c.in_ok-name.name ∷ ls) start.0 ∙ ap (λ name. DirLine 0 name ∷ lines_below (length c.args.self.now) c.args.self.now 0 0) c.in_ok-name.ensures;
      deep = start.1;
    }

pub loop-entries-preserved-in_default-next : goal.loop-entries-preserved-in_default-next
loop-entries-preserved-in_default-next c =
    let was = c.pop.ensures.items ∙ ap (λ last. c.pop.new.self.items ++ option_to_list last) c.in-Some.is in
    let turn = closes c.args.self.now c.loop-entries.way.items c.pop.new.self.items c.in-Some.entries c.loop-entries.lines.items was c.in_default-next.ensures.steps.0 in
    record { all = turn.same ∙ c.loop-entries.invariant.all; deep = turn.within c.loop-entries.invariant.deep }

pub loop-entries-smaller-in_default-next : goal.loop-entries-smaller-in_default-next
loop-entries-smaller-in_default-next c =
    let was = c.pop.ensures.items ∙ ap (λ last. c.pop.new.self.items ++ option_to_list last) c.in-Some.is in
    let turn = closes c.args.self.now c.loop-entries.way.items c.pop.new.self.items c.in-Some.entries c.loop-entries.lines.items was c.in_default-next.ensures.steps.0 in
    turn.fewer

pub loop-entries-preserved-in-Continue-branch-6 : goal.loop-entries-preserved-in-Continue-branch-6
loop-entries-preserved-in-Continue-branch-6 c =
    let was = c.pop.ensures.items ∙ ap (λ last. c.pop.new.self.items ++ option_to_list last) c.in-Some.is in
    let turn = goes c.args.self.now c.loop-entries.way.items c.pop.new.self.items c.in-Some.entries c.loop-entries.lines.items was c.push-in-Some.new.self.items c.next.new.self c.in-Some-next.name.now c.in-Some-next.node.now c.len-depth.result c.push_line.new.lines.items c.in-Some-next.ensures.steps c.in_ok-push-2.ensures.items (c.len-depth.ensures ∙ c.push-in-Some.new.self.ok.0) c.in_ok-push_line.ensures c.in-Some-directory.child c.descend-then-depth-levels.new.way.items (sym c.directory.ensures ∙ c.in-Some-directory.is) (omega (arith, c.if-depth-levels.true, c.in-Ok.ensures, c.next_id.ensures)) c.in_ok-descend-2.ensures in
    record { all = turn.same ∙ c.loop-entries.invariant.all; deep = turn.within c.loop-entries.invariant.deep }

pub loop-entries-smaller-in-Continue-branch-6 : goal.loop-entries-smaller-in-Continue-branch-6
loop-entries-smaller-in-Continue-branch-6 c =
    let was = c.pop.ensures.items ∙ ap (λ last. c.pop.new.self.items ++ option_to_list last) c.in-Some.is in
    let turn = goes c.args.self.now c.loop-entries.way.items c.pop.new.self.items c.in-Some.entries c.loop-entries.lines.items was c.push-in-Some.new.self.items c.next.new.self c.in-Some-next.name.now c.in-Some-next.node.now c.len-depth.result c.push_line.new.lines.items c.in-Some-next.ensures.steps c.in_ok-push-2.ensures.items (c.len-depth.ensures ∙ c.push-in-Some.new.self.ok.0) c.in_ok-push_line.ensures c.in-Some-directory.child c.descend-then-depth-levels.new.way.items (sym c.directory.ensures ∙ c.in-Some-directory.is) (omega (arith, c.if-depth-levels.true, c.in-Ok.ensures, c.next_id.ensures)) c.in_ok-descend-2.ensures in
    turn.fewer

pub loop-entries-preserved : goal.loop-entries-preserved
loop-entries-preserved c =
    let was = c.pop.ensures.items ∙ ap (λ last. c.pop.new.self.items ++ option_to_list last) c.in-Some.is in
    let turn = stays c.args.self.now c.loop-entries.way.items c.pop.new.self.items c.in-Some.entries c.loop-entries.lines.items was c.push-in-Some.new.self.items c.next.new.self c.in-Some-next.name.now c.in-Some-next.node.now c.len-depth.result c.push_line.new.lines.items c.in-Some-next.ensures.steps c.in_ok-push-2.ensures.items (c.len-depth.ensures ∙ c.push-in-Some.new.self.ok.0) c.in_ok-push_line.ensures (too_deep c.args.self.now c.len-depth.result c.in-Some-next.node.now (omega (arith, c.if-depth-levels.false, c.in-Ok.ensures, c.next_id.ensures))) in
    record { all = turn.same ∙ c.loop-entries.invariant.all; deep = turn.within c.loop-entries.invariant.deep }

pub loop-entries-smaller : goal.loop-entries-smaller
loop-entries-smaller c =
    let was = c.pop.ensures.items ∙ ap (λ last. c.pop.new.self.items ++ option_to_list last) c.in-Some.is in
    let turn = stays c.args.self.now c.loop-entries.way.items c.pop.new.self.items c.in-Some.entries c.loop-entries.lines.items was c.push-in-Some.new.self.items c.next.new.self c.in-Some-next.name.now c.in-Some-next.node.now c.len-depth.result c.push_line.new.lines.items c.in-Some-next.ensures.steps c.in_ok-push-2.ensures.items (c.len-depth.ensures ∙ c.push-in-Some.new.self.ok.0) c.in_ok-push_line.ensures (too_deep c.args.self.now c.len-depth.result c.in-Some-next.node.now (omega (arith, c.if-depth-levels.false, c.in-Ok.ensures, c.next_id.ensures))) in
    turn.fewer

pub loop-entries-preserved-in_default-directory : goal.loop-entries-preserved-in_default-directory
loop-entries-preserved-in_default-directory c =
    let was = c.pop.ensures.items ∙ ap (λ last. c.pop.new.self.items ++ option_to_list last) c.in-Some.is in
    let turn = stays c.args.self.now c.loop-entries.way.items c.pop.new.self.items c.in-Some.entries c.loop-entries.lines.items was c.push-in-Some.new.self.items c.next.new.self c.in-Some-next.name.now c.in-Some-next.node.now c.len-depth.result c.push_line.new.lines.items c.in-Some-next.ensures.steps c.in_ok-push-2.ensures.items (c.len-depth.ensures ∙ c.push-in-Some.new.self.ok.0) c.in_ok-push_line.ensures (below_none (lines_below (length c.args.self.now - c.len-depth.result) c.args.self.now c.len-depth.result) c.in-Some-next.node.now (sym c.directory.ensures ∙ c.in_default-directory.is)) in
    record { all = turn.same ∙ c.loop-entries.invariant.all; deep = turn.within c.loop-entries.invariant.deep }

pub loop-entries-smaller-in_default-directory : goal.loop-entries-smaller-in_default-directory
loop-entries-smaller-in_default-directory c =
    let was = c.pop.ensures.items ∙ ap (λ last. c.pop.new.self.items ++ option_to_list last) c.in-Some.is in
    let turn = stays c.args.self.now c.loop-entries.way.items c.pop.new.self.items c.in-Some.entries c.loop-entries.lines.items was c.push-in-Some.new.self.items c.next.new.self c.in-Some-next.name.now c.in-Some-next.node.now c.len-depth.result c.push_line.new.lines.items c.in-Some-next.ensures.steps c.in_ok-push-2.ensures.items (c.len-depth.ensures ∙ c.push-in-Some.new.self.ok.0) c.in_ok-push_line.ensures (below_none (lines_below (length c.args.self.now - c.len-depth.result) c.args.self.now c.len-depth.result) c.in-Some-next.node.now (sym c.directory.ensures ∙ c.in_default-directory.is)) in
    turn.fewer

pub returns : goal.returns
returns c = ends c.args.self.now c.loop-entries.way.items _ _ (sym c.loop-entries.way.ok.0 ∙ c.in_default-pop.ensures.cases.0) c.loop-entries.invariant.all
