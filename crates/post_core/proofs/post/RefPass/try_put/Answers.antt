use Rattle.std.proofs.Common.{ℕ, ◌<◌, arith, ap, sym, subst, ◌∙◌, length, length-set, map, set, refl, [], ◌∷◌, ◌++◌}
use Rattle.atomic_table.specs.Table.{Me}
use Rattle.task_ring.specs.Ring.{RingView}
use Rattle.proxy_laws.specs.declared.actors.Phase.TheVariants.{Owing, Referenced}
use Rattle.post_core.specs.declared.slots.Item.{Item}
use Rattle.post_core.specs.declared.views.View.{View}
use Rattle.post_core.specs.Parts.{IsPass}
use Rattle.post_core.specs.SendSteps.{job_sent, own_marks_max}
use Rattle.post_core.specs.Words.{turn_at}
use Rattle.post_core.proofs.SendPuts.{row_count, same_rows, sent_pass}
use Rattle.post_core.proofs.Trying.{failed_pass}
use Rattle.post_core.proofs.post.RefPass.try_put.Goals as goal

pub try_marked-requires-clause-mark : goal.try_marked-requires-clause-mark
try_marked-requires-clause-mark g c = (sym c.args.self.is_pass.number, c.len.ensures ∙ (c.index_mut-kept.result.now.ok.0 ∙ (ap (λ kept. length kept.items) c.index_mut-kept.ensures.value ∙ row_count (λ kept. kept.items) c.args.self.hold.own.items c.args.place_use.now.place (let a = c.args.self.empty.1 in let b = ap (λ t. t.slots) c.requires.table in let d = c.args.post.now.sized.1 in let e = c.requires.near in omega arith) c.args.self.hold.sender Referenced c.args.self.hold.seat.me.0 c.args.self.is_pass c.index_mut-kept.result.now)))

pub try_marked-requires-clause-room : goal.try_marked-requires-clause-room
try_marked-requires-clause-room g c =
    let count = c.len.ensures ∙ (c.index_mut-kept.result.now.ok.0 ∙ (ap (λ kept. length kept.items) c.index_mut-kept.ensures.value ∙ row_count (λ kept. kept.items) c.args.self.hold.own.items c.args.place_use.now.place (let a = c.args.self.empty.1 in let b = ap (λ t. t.slots) c.requires.table in let d = c.args.post.now.sized.1 in let e = c.requires.near in omega arith) c.args.self.hold.sender Referenced c.args.self.hold.seat.me.0 c.args.self.is_pass c.index_mut-kept.result.now)) in
    subst (λ n. n < own_marks_max) (sym count) c.requires.room

pub try_marked-requires-clause-suits : goal.try_marked-requires-clause-suits
try_marked-requires-clause-suits g c =
    let count = c.len.ensures ∙ (c.index_mut-kept.result.now.ok.0 ∙ (ap (λ kept. length kept.items) c.index_mut-kept.ensures.value ∙ row_count (λ kept. kept.items) c.args.self.hold.own.items c.args.place_use.now.place (let a = c.args.self.empty.1 in let b = ap (λ t. t.slots) c.requires.table in let d = c.args.post.now.sized.1 in let e = c.requires.near in omega arith) c.args.self.hold.sender Referenced c.args.self.hold.seat.me.0 c.args.self.is_pass c.index_mut-kept.result.now)) in
    subst (λ (k : ℕ × ℕ × ℕ). g.J.Meant.suits k.0 c.args.place_use.now.place (record { sender = k.1; seq = k.2; tag = c.args.tag }) (g.J.Meant.meaning c.args.job)) (λ i. (ap (λ k. k.target) (sym c.args.post.now.key) i, c.args.self.is_pass.number i, (sym count) i)) c.requires.suits

pub invariant_of-result : goal.invariant_of-result
invariant_of-result g c =
    let put = c.in-Put.ensures.put in record {
      is_pass = subst (λ (v : View g.row.J-Meaning.Denot). IsPass c.args.self.hold.sender (Owing c.args.place_use.now.place) (map (λ kept. kept.items) (set c.args.self.hold.own.items c.args.place_use.now.place c.try_marked.new.kept)) v)
          (sym (ap (λ (x : Me (RingView (Item g.row.J.Denot)) (View g.row.J-Meaning.Denot)). x.0) put.1))
          (sent_pass (λ kept. kept.items) c.args.self.hold.own.items c.args.place_use.now.place (let a = c.args.self.empty.1 in let b = ap (λ t. t.slots) c.requires.table in let d = c.args.post.now.sized.1 in let e = c.requires.near in omega arith) c.args.self.hold.sender Referenced c.args.self.hold.seat.me.0 c.args.self.is_pass c.index_mut-kept.result.now c.try_marked.new.kept c.in-Put.nth (record { mark = record { sender = c.args.self.hold.sender; seq = c.len.result; tag = c.args.tag }; meaning = g.J.Meant.meaning c.args.job })
          (put.2 ∙ ap (λ kept. kept.items ++ record { nth = c.in-Put.nth; mark = record { sender = c.args.self.hold.sender; seq = c.len.result; tag = c.args.tag } } ∷ []) c.index_mut-kept.ensures.value));
      empty = (ap (λ (x : Me (RingView (Item g.row.J.Denot)) (View g.row.J-Meaning.Denot)). x.1) put.1, length-set c.args.self.hold.own.items c.args.place_use.now.place c.try_marked.new.kept ∙ (c.args.self.empty.1 ∙ ap (λ t. t.slots) (sym c.in-Put.ensures.seat)));
      near = let a = ap (λ t. t.slots) (c.in-Put.ensures.seat ∙ c.requires.table) in let d = c.args.post.now.sized.1 in let e = c.requires.near in omega arith;
    }

pub invariant_of-result-in-NoMemory : goal.invariant_of-result-in-NoMemory
invariant_of-result-in-NoMemory g c =
    let back = c.in-NoMemory.ensures.no_memory in record {
      is_pass = subst (λ (v : View g.row.J-Meaning.Denot). IsPass c.args.self.hold.sender Referenced (map (λ kept. kept.items) (set c.args.self.hold.own.items c.args.place_use.now.place c.try_marked.new.kept)) v)
          (sym (ap (λ (x : Me (RingView (Item g.row.J.Denot)) (View g.row.J-Meaning.Denot)). x.0) back.1))
          (subst (λ own. IsPass c.args.self.hold.sender Referenced own c.args.self.hold.seat.me.0)
          (sym (same_rows (λ kept. kept.items) c.args.self.hold.own.items c.args.place_use.now.place (let a = c.args.self.empty.1 in let b = ap (λ t. t.slots) c.requires.table in let d = c.args.post.now.sized.1 in let e = c.requires.near in omega arith) c.args.self.hold.sender Referenced c.args.self.hold.seat.me.0 c.args.self.is_pass c.index_mut-kept.result.now c.try_marked.new.kept (back.2 ∙ ap (λ kept. kept.items) c.index_mut-kept.ensures.value)))
          c.args.self.is_pass);
      empty = (ap (λ (x : Me (RingView (Item g.row.J.Denot)) (View g.row.J-Meaning.Denot)). x.1) back.1 ∙ c.args.self.empty.0, length-set c.args.self.hold.own.items c.args.place_use.now.place c.try_marked.new.kept ∙ (c.args.self.empty.1 ∙ ap (λ t. t.slots) (sym c.in-NoMemory.ensures.seat)));
    }

pub invariant_of-result-in-Busy : goal.invariant_of-result-in-Busy
invariant_of-result-in-Busy g c =
    let back = c.in-Busy.ensures.busy in record {
      is_pass = subst (λ (v : View g.row.J-Meaning.Denot). IsPass c.args.self.hold.sender Referenced (map (λ kept. kept.items) (set c.args.self.hold.own.items c.args.place_use.now.place c.try_marked.new.kept)) v)
          (sym back.1.1)
          (failed_pass c.args.self.hold.sender (turn_at c.args.place_use.now.place) 0 1 Referenced (map (λ kept. kept.items) (set c.args.self.hold.own.items c.args.place_use.now.place c.try_marked.new.kept)) c.args.self.hold.seat.me.0
          (subst (λ own. IsPass c.args.self.hold.sender Referenced own c.args.self.hold.seat.me.0)
          (sym (same_rows (λ kept. kept.items) c.args.self.hold.own.items c.args.place_use.now.place (let a = c.args.self.empty.1 in let b = ap (λ t. t.slots) c.requires.table in let d = c.args.post.now.sized.1 in let e = c.requires.near in omega arith) c.args.self.hold.sender Referenced c.args.self.hold.seat.me.0 c.args.self.is_pass c.index_mut-kept.result.now c.try_marked.new.kept (back.3 ∙ ap (λ kept. kept.items) c.index_mut-kept.ensures.value)))
          c.args.self.is_pass));
      empty = (back.2, length-set c.args.self.hold.own.items c.args.place_use.now.place c.try_marked.new.kept ∙ (c.args.self.empty.1 ∙ ap (λ t. t.slots) (sym c.in-Busy.ensures.seat)));
    }

pub returns-in-Put-clause-put : goal.returns-in-Put-clause-put
returns-in-Put-clause-put g c =
    let put = c.in-Put.ensures.put in
    let count = c.len.ensures ∙ (c.index_mut-kept.result.now.ok.0 ∙ (ap (λ kept. length kept.items) c.index_mut-kept.ensures.value ∙ row_count (λ kept. kept.items) c.args.self.hold.own.items c.args.place_use.now.place (let a = c.args.self.empty.1 in let b = ap (λ t. t.slots) c.requires.table in let d = c.args.post.now.sized.1 in let e = c.requires.near in omega arith) c.args.self.hold.sender Referenced c.args.self.hold.seat.me.0 c.args.self.is_pass c.index_mut-kept.result.now)) in (
      c.in-Put.ensures.seat ∙ c.requires.table,
      record {
        place_is = refl;
        next = put.0;
        kept = ap (λ (x : Me (RingView (Item g.row.J.Denot)) (View g.row.J-Meaning.Denot)). x.0) put.1
            ∙ (λ i. job_sent c.args.place_use.now.place c.in-Put.nth (record { mark = record { sender = (sym c.args.self.is_pass.number) i; seq = count i; tag = c.args.tag }; meaning = g.J.Meant.meaning c.args.job }) c.args.self.hold.seat.me.0);
      },
    )
