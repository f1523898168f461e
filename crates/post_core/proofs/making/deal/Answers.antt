use Rattle.std.proofs.Common.{◌≡◌, List, [], length, map, replicate, arith, ap, sym, subst, ◌∙◌}
use Rattle.std.specs.Prelude.{All}
use Rattle.std.proofs.lemmas.List.{length-map, length-replicate}
use Rattle.std.proofs.lemmas.List.Elements.{All-push}
use Rattle.proxy_laws.specs.declared.records.OwnMark.{OwnMark}
use Rattle.post_core.specs.Views.{fresh_pass}
use Rattle.post_core.proofs.Dealing.{dealt_is, dealt_more, first_is, first_there, fresh_is}
use Rattle.post_core.proofs.Folded.{all_but_last}
use Rattle.post_core.proofs.Opening.{deals}
use Rattle.post_core.proofs.making.deal.Goals as goal

pub split_seat-dealt-requires : goal.split_seat-dealt-requires
split_seat-dealt-requires g c = let key = c.args.shared.now.key in (
  c.loop-sender.invariant.table ∙ c.requires.table.0,
  c.requires.table.1,
  deals g.J.Meant.meaning (g.J.Meant.suits key.target) key.senders key.places c.loop-sender.seat.id c.loop-sender.seat.me.0 (fresh_pass key.places c.loop-sender.sender)
      (first_there key.places c.loop-sender.sender c.args.senders (omega arith) c.loop-sender.seat.me.0 (ap (λ me. me.0) c.loop-sender.invariant.view)),
)

pub invariant_of-push_reserved : goal.invariant_of-push_reserved
invariant_of-push_reserved g c =
    let places = c.args.shared.now.key.places in
    let last = all_but_last (λ own. map (λ kept. kept.items) own.items ≡ replicate places []) c.pop.new.self.items c.loop-sender.owns.items c.in-Some.own c.in-Some.ensures.items c.loop-sender.invariant.owns in record {
      is_pass = fresh_is places c.loop-sender.sender (map (λ kept. kept.items) c.in-Some.own.items) c.split_seat-dealt.result.me.0 last.1
          (ap (λ me. me.0) c.split_seat-dealt.ensures.4 ∙ first_is places c.loop-sender.sender c.args.senders (omega arith) c.loop-sender.seat.me.0 (ap (λ me. me.0) c.loop-sender.invariant.view));
      empty = (
        ap (λ me. me.1) c.split_seat-dealt.ensures.4,
        (
            let a = ap length last.1 in let b = c.requires.table.2 in let d = ap (λ t. t.slots) (c.split_seat-dealt.ensures.3 ∙ (c.loop-sender.invariant.table ∙ c.requires.table.0)) in
            omega (arith, length-map c.in-Some.own.items (λ kept. kept.items), length-replicate {A = List OwnMark} places [])),
      );
    }

pub loop-sender-preserved : goal.loop-sender-preserved
loop-sender-preserved g c =
    let places = c.args.shared.now.key.places in
    let last = all_but_last (λ own. map (λ kept. kept.items) own.items ≡ replicate places []) c.pop.new.self.items c.loop-sender.owns.items c.in-Some.own c.in-Some.ensures.items c.loop-sender.invariant.owns in record {
      table = c.split_seat-dealt.ensures.0 ∙ c.loop-sender.invariant.table;
      view = c.split_seat-dealt.ensures.2 ∙ (λ i. (dealt_is places c.loop-sender.sender c.args.senders (omega arith) c.loop-sender.seat.me.0 (ap (λ me. me.0) c.loop-sender.invariant.view) i, ap (λ me. me.1) c.loop-sender.invariant.view i));
      count = let a = c.in-Some.ensures.cases in let b = c.loop-sender.invariant.count in omega arith;
      owns = last.0;
      dealt = dealt_more (λ pass. pass.hold.seat.me.0) places c.loop-sender.sender c.loop-sender.passes.items c.push_reserved.new.self.items _ c.push_reserved.ensures.items
          (ap (λ me. me.0) c.split_seat-dealt.ensures.4 ∙ first_is places c.loop-sender.sender c.args.senders (omega arith) c.loop-sender.seat.me.0 (ap (λ me. me.0) c.loop-sender.invariant.view)) c.loop-sender.invariant.dealt;
      tables = subst (λ ps. All (λ pass. pass.hold.seat.table_id ≡ c.args.shared.now.table_id) ps) (sym c.push_reserved.ensures.items) (All-push (λ pass. pass.hold.seat.table_id ≡ c.args.shared.now.table_id) c.loop-sender.passes.items _ c.loop-sender.invariant.tables (c.split_seat-dealt.ensures.3 ∙ (c.loop-sender.invariant.table ∙ c.requires.table.0)));
      room = let a = c.loop-sender.invariant.room in let b = c.push_reserved.ensures.capacity in omega arith;
    }
