use Rattle.std.proofs.Common.{arith, ap}
use Rattle.post_core.specs.MailSteps.{lowest_in}
use Rattle.post_core.proofs.WordsEmpty.{got_still, looks_found, looks_still}
use Rattle.post_core.proofs.mailing.first_notice.Goals as goal

pub look_mail-found-requires-clause-owner : goal.look_mail-found-requires-clause-owner
look_mail-found-requires-clause-owner g c = (looks_still c.loop-word.word c.args.seat.now.me.0 c.loop-word.seat.me.0 (ap (λ me. me.0) c.loop-word.invariant.2) c.requires.owner c.requires.away).0

pub look_mail-found-requires-clause-away : goal.look_mail-found-requires-clause-away
look_mail-found-requires-clause-away g c = (looks_still c.loop-word.word c.args.seat.now.me.0 c.loop-word.seat.me.0 (ap (λ me. me.0) c.loop-word.invariant.2) c.requires.owner c.requires.away).1

pub take_notice-requires-clause-owner : goal.take_notice-requires-clause-owner
take_notice-requires-clause-owner g c = (looks_found (lowest_in c.loop-word.word c.look_mail-found.result) c.loop-word.seat.me.0 c.look_mail-found.new.seat.me.0 (ap (λ me. me.0) (c.look_mail-found.ensures.found c.if-found-ne0.true)) (looks_still c.loop-word.word c.args.seat.now.me.0 c.loop-word.seat.me.0 (ap (λ me. me.0) c.loop-word.invariant.2) c.requires.owner c.requires.away)).0

pub take_notice-requires-clause-away : goal.take_notice-requires-clause-away
take_notice-requires-clause-away g c = (looks_found (lowest_in c.loop-word.word c.look_mail-found.result) c.loop-word.seat.me.0 c.look_mail-found.new.seat.me.0 (ap (λ me. me.0) (c.look_mail-found.ensures.found c.if-found-ne0.true)) (looks_still c.loop-word.word c.args.seat.now.me.0 c.loop-word.seat.me.0 (ap (λ me. me.0) c.loop-word.invariant.2) c.requires.owner c.requires.away)).1

pub returns-then-found-ne0-clause-few : goal.returns-then-found-ne0-clause-few
returns-then-found-ne0-clause-few g c =
    let got_is = got_still c.loop-word.word (lowest_in c.loop-word.word c.look_mail-found.result) c.args.seat.now.me.0 c.loop-word.seat.me.0 c.look_mail-found.new.seat.me.0 c.requires.owner.0 (ap (λ me. me.0) c.loop-word.invariant.2) (ap (λ me. me.0) (c.look_mail-found.ensures.found c.if-found-ne0.true)) in
    let few = c.take_notice.ensures.few in
    omega arith
