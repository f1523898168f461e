use Rattle.std.proofs.Common.{refl, subst, sym, ◌∙◌, arith}
use Rattle.path_walk.specs.Backing.{IsAnswerOf, IsCellOf}
use Rattle.path_walk.specs.Machine.{Shows, resumed}
use Rattle.path_walk.proofs.Along.{along_start, along_step, along_cell, along_over, stopped, refused, ended, ended_alone}
use Rattle.path_walk.proofs.backends.take_steps.Goals as goal

pub loop-init : goal.loop-init
loop-init g c = record {
  begun = c.requires;
  along = λ version call is. along_start g.B.Backends.ran g.B.Backends.store g.met.B.Backends.ran_none version (g.B.Backends.backends c.args.backends.now) call c.args.backends.now c.args.machine.now (g.met.B.Backends.root c.args.backends.now) is;
  same = refl;
}

pub next-requires : goal.next-requires
next-requires g c = (c.loop.invariant.along c.loop.invariant.begun.0 c.loop.invariant.begun.1 c.loop.invariant.begun.2).expects

pub step-requires : goal.step-requires
step-requires g c =
    subst (λ backends. IsCellOf backends c.in-Step.cell c.in-Step.op) (sym c.loop.invariant.same)
    (along_cell g.B.Backends.ran g.B.Backends.store c.loop.invariant.begun.0 (g.B.Backends.backends c.args.backends.now) c.loop.counter c.loop.invariant.begun.1 c.args.backends.now c.loop.backends c.loop.machine c.next.new.self c.loop.answer c.in-Step.cell c.in-Step.op
    (c.loop.invariant.along c.loop.invariant.begun.0 c.loop.invariant.begun.1 c.loop.invariant.begun.2)
    (subst (λ n. Shows n (resumed c.loop.machine c.loop.answer) c.next.new.self) c.in-Step.is c.in_ok-cell.ensures.ok))

pub returns-in_err-cell-clause-walk : goal.returns-in_err-cell-clause-walk
returns-in_err-cell-clause-walk g c = λ version call is.
    stopped g.B.Backends.ran g.B.Backends.store version _ c.loop.counter call _ _ _ _ c.from_residual.result c.from_residual.ensures.0 (let h = c.loop-test.true in omega (arith, h)) (c.loop.invariant.along version call is)

pub returns-in_err-step-in-Step-clause-walk : goal.returns-in_err-step-in-Step-clause-walk
returns-in_err-step-in-Step-clause-walk g c = λ version call is.
    refused g.B.Backends.ran g.B.Backends.store g.met.B.Backends.ran_on version _ c.loop.counter call _ _ _ _ _ _ c.in_ok-cell.field-0 c.in_err-step-in-Step.field-0.0 c.in-Step.cell c.in-Step.op
    c.from_residual-in_err-step-in-Step.result c.from_residual-in_err-step-in-Step.ensures.0 (c.loop.invariant.along version call is) c.loop-test.true c.in-Step.is c.in_ok-cell.ensures.ok c.in_err-step-in-Step.ensures.ran

pub loop-preserved : goal.loop-preserved
loop-preserved g c = record {
  begun = c.loop.invariant.begun;
  along = λ version call is. along_step g.B.Backends.ran g.B.Backends.store g.met.B.Backends.ran_on version (g.B.Backends.backends c.args.backends.now) c.loop.counter call _ _ _ _ _ _ _ c.in-Step.cell c.in-Step.op (c.loop.invariant.along version call is) c.loop-test.true
      (subst (λ n. Shows n (resumed c.loop.machine c.loop.answer) c.next.new.self) c.in-Step.is c.in_ok-cell.ensures.ok)
      (subst (λ b. IsAnswerOf b c.in-Step.op c.in_ok-step-in-Step.field-0) c.loop.invariant.same c.in_ok-step-in-Step.ensures.form)
      c.in_ok-step-in-Step.ensures.ran c.in_ok-step-in-Step.ensures.alone;
  same = c.in_ok-step-in-Step.ensures.same ∙ c.loop.invariant.same;
}

pub returns-in-Done-clause-walk : goal.returns-in-Done-clause-walk
returns-in-Done-clause-walk g c = λ version call is.
    ended g.B.Backends.ran g.B.Backends.store version _ c.loop.counter call _ _ _ _ _ c.in_ok-cell.field-0 c.in-Done.reply (c.loop.invariant.along version call is) (let h = c.loop-test.true in omega (arith, h)) c.in-Done.is c.in_ok-cell.ensures.ok

pub returns-in-Done-clause-alone : goal.returns-in-Done-clause-alone
returns-in-Done-clause-alone g c = λ version call is. ended_alone version _ _ call _ _ c.in_ok-cell.field-0 c.in-Done.reply (c.loop.invariant.along version call is).alone c.in-Done.is c.in_ok-cell.ensures.ok

pub next-requires-2 : goal.next-requires-2
next-requires-2 g c = (c.loop.invariant.along c.loop.invariant.begun.0 c.loop.invariant.begun.1 c.loop.invariant.begun.2).expects

pub unreachable-requires : goal.unreachable-requires
unreachable-requires g c =
    along_over g.B.Backends.ran g.B.Backends.store c.loop.invariant.begun.0 (g.B.Backends.backends c.args.backends.now) c.loop.counter c.loop.invariant.begun.1 c.args.backends.now c.loop.backends c.loop.machine c.next-2.new.self c.loop.answer c.in_ok-reply.field-0 c.in-Step-2.field-0 c.in-Step-2.field-1
    (c.loop.invariant.along c.loop.invariant.begun.0 c.loop.invariant.begun.1 c.loop.invariant.begun.2) (let h = c.loop-test.false in omega (arith, h)) c.in-Step-2.is c.in_ok-reply.ensures.ok

pub returns-in_err-reply-clause-walk : goal.returns-in_err-reply-clause-walk
returns-in_err-reply-clause-walk g c = λ version call is.
    stopped g.B.Backends.ran g.B.Backends.store version _ c.loop.counter call _ _ _ _ c.from_residual-in_err-reply.result c.from_residual-in_err-reply.ensures.0 c.loop.auto.counter-end (c.loop.invariant.along version call is)

pub returns-clause-walk : goal.returns-clause-walk
returns-clause-walk g c = λ version call is.
    ended g.B.Backends.ran g.B.Backends.store version _ c.loop.counter call _ _ _ _ _ c.in_ok-reply.field-0 c.in-Done-2.reply (c.loop.invariant.along version call is) c.loop.auto.counter-end c.in-Done-2.is c.in_ok-reply.ensures.ok

pub returns-clause-alone : goal.returns-clause-alone
returns-clause-alone g c = λ version call is. ended_alone version _ _ call _ _ c.in_ok-reply.field-0 c.in-Done-2.reply (c.loop.invariant.along version call is).alone c.in-Done-2.is c.in_ok-reply.ensures.ok
