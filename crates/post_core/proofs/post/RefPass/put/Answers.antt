use Rattle.std.proofs.Common.{ℕ, arith, ap, sym, subst, ◌∙◌, length, length-set, map, set, refl, [], ◌∷◌, ◌++◌}
use Rattle.atomic_table.specs.Table.{Me}
use Rattle.task_ring.specs.Ring.{RingView}
use Rattle.proxy_laws.specs.declared.actors.Phase.TheVariants.{Owing, Referenced}
use Rattle.post_core.specs.declared.slots.Item.{Item}
use Rattle.post_core.specs.declared.views.View.{View}
use Rattle.post_core.specs.Parts.{IsPass}
use Rattle.post_core.specs.SendSteps.{job_sent}
use Rattle.post_core.proofs.SendPuts.{row_count, same_rows, sent_pass}
use Rattle.post_core.proofs.post.RefPass.put.Goals as goal

pub put_marked-requires-clause-mark : goal.put_marked-requires-clause-mark
put_marked-requires-clause-mark g c = (sym c.args.self.is_pass.number, c.len.ensures ∙ (c.index_mut-kept.result.now.ok.0 ∙ (ap (λ kept. length kept.items) c.index_mut-kept.ensures.value ∙ row_count (λ kept. kept.items) c.args.self.hold.own.items c.args.place_use.now.place (let a = c.args.self.empty.1 in let b = ap (λ t. t.slots) c.requires.table in let d = c.args.post.now.sized.1 in let e = c.requires.near in omega arith) c.args.self.hold.sender Referenced c.args.self.hold.seat.me.0 c.args.self.is_pass c.index_mut-kept.result.now)))

pub put_marked-requires-clause-suits : goal.put_marked-requires-clause-suits
put_marked-requires-clause-suits g c =
    let count = c.len.ensures ∙ (c.index_mut-kept.result.now.ok.0 ∙ (ap (λ kept. length kept.items) c.index_mut-kept.ensures.value ∙ row_count (λ kept. kept.items) c.args.self.hold.own.items c.args.place_use.now.place (let a = c.args.self.empty.1 in let b = ap (λ t. t.slots) c.requires.table in let d = c.args.post.now.sized.1 in let e = c.requires.near in omega arith) c.args.self.hold.sender Referenced c.args.self.hold.seat.me.0 c.args.self.is_pass c.index_mut-kept.result.now)) in
    subst (λ (k : ℕ × ℕ × ℕ). g.J.Meant.suits k.0 c.args.place_use.now.place (record { sender = k.1; seq = k.2; tag = c.args.tag }) (g.J.Meant.meaning c.args.job)) (λ i. (ap (λ k. k.target) (sym c.args.post.now.key) i, c.args.self.is_pass.number i, (sym count) i)) c.requires.suits

pub invariant_of-result : goal.invariant_of-result
invariant_of-result g c =
    let put = c.in-Ok.ensures.put in record {
      is_pass = subst (λ (v : View g.row.J-Meaning.Denot). IsPass c.args.self.hold.sender (Owing c.args.place_use.now.place) (map (λ kept. kept.items) (set c.args.self.hold.own.items c.args.place_use.now.place c.put_marked.new.kept)) v)
          (sym (ap (λ (x : Me (RingView (Item g.row.J.Denot)) (View g.row.J-Meaning.Denot)). x.0) put.1))
          (sent_pass (λ kept. kept.items) c.args.self.hold.own.items c.args.place_use.now.place (let a = c.args.self.empty.1 in let b = ap (λ t. t.slots) c.requires.table in let d = c.args.post.now.sized.1 in let e = c.requires.near in omega arith) c.args.self.hold.sender Referenced c.args.self.hold.seat.me.0 c.args.self.is_pass c.index_mut-kept.result.now c.put_marked.new.kept c.in-Ok.nth (record { mark = record { sender = c.args.self.hold.sender; seq = c.len.result; tag = c.args.tag }; meaning = g.J.Meant.meaning c.args.job })
          (put.2 ∙ ap (λ kept. kept.items ++ record { nth = c.in-Ok.nth; mark = record { sender = c.args.self.hold.sender; seq = c.len.result; tag = c.args.tag } } ∷ []) c.index_mut-kept.ensures.value));
      empty = (ap (λ (x : Me (RingView (Item g.row.J.Denot)) (View g.row.J-Meaning.Denot)). x.1) put.1, length-set c.args.self.hold.own.items c.args.place_use.now.place c.put_marked.new.kept ∙ (c.args.self.empty.1 ∙ ap (λ t. t.slots) (sym c.in-Ok.ensures.seat)));
      near = let a = ap (λ t. t.slots) (c.in-Ok.ensures.seat ∙ c.requires.table) in let d = c.args.post.now.sized.1 in let e = c.requires.near in omega arith;
    }

pub invariant_of-result-in-Err : goal.invariant_of-result-in-Err
invariant_of-result-in-Err g c =
    let back = c.in-Err.ensures.no_memory in record {
      is_pass = subst (λ (v : View g.row.J-Meaning.Denot). IsPass c.args.self.hold.sender Referenced (map (λ kept. kept.items) (set c.args.self.hold.own.items c.args.place_use.now.place c.put_marked.new.kept)) v)
          (sym (ap (λ (x : Me (RingView (Item g.row.J.Denot)) (View g.row.J-Meaning.Denot)). x.0) back.1))
          (subst (λ own. IsPass c.args.self.hold.sender Referenced own c.args.self.hold.seat.me.0)
          (sym (same_rows (λ kept. kept.items) c.args.self.hold.own.items c.args.place_use.now.place (let a = c.args.self.empty.1 in let b = ap (λ t. t.slots) c.requires.table in let d = c.args.post.now.sized.1 in let e = c.requires.near in omega arith) c.args.self.hold.sender Referenced c.args.self.hold.seat.me.0 c.args.self.is_pass c.index_mut-kept.result.now c.put_marked.new.kept (back.2 ∙ ap (λ kept. kept.items) c.index_mut-kept.ensures.value)))
          c.args.self.is_pass);
      empty = (ap (λ (x : Me (RingView (Item g.row.J.Denot)) (View g.row.J-Meaning.Denot)). x.1) back.1 ∙ c.args.self.empty.0, length-set c.args.self.hold.own.items c.args.place_use.now.place c.put_marked.new.kept ∙ (c.args.self.empty.1 ∙ ap (λ t. t.slots) (sym c.in-Err.ensures.seat)));
    }

pub returns-in-Ok-clause-put : goal.returns-in-Ok-clause-put
returns-in-Ok-clause-put g c =
    let put = c.in-Ok.ensures.put in
    let count = c.len.ensures ∙ (c.index_mut-kept.result.now.ok.0 ∙ (ap (λ kept. length kept.items) c.index_mut-kept.ensures.value ∙ row_count (λ kept. kept.items) c.args.self.hold.own.items c.args.place_use.now.place (let a = c.args.self.empty.1 in let b = ap (λ t. t.slots) c.requires.table in let d = c.args.post.now.sized.1 in let e = c.requires.near in omega arith) c.args.self.hold.sender Referenced c.args.self.hold.seat.me.0 c.args.self.is_pass c.index_mut-kept.result.now)) in (
      c.in-Ok.ensures.seat ∙ c.requires.table,
      record {
        place_is = refl;
        next = put.0;
        kept = ap (λ (x : Me (RingView (Item g.row.J.Denot)) (View g.row.J-Meaning.Denot)). x.0) put.1
            ∙ (λ i. job_sent c.args.place_use.now.place c.in-Ok.nth (record { mark = record { sender = (sym c.args.self.is_pass.number) i; seq = count i; tag = c.args.tag }; meaning = g.J.Meant.meaning c.args.job }) c.args.self.hold.seat.me.0);
      },
    )
