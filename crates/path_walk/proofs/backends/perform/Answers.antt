use Rattle.path_walk.proofs.backends.perform.Goals as goal

pub take_steps-requires : goal.take_steps-requires
take_steps-requires g c = (c.args.version, c.args.call, c.new-machine.ensures)

pub returns-clause-walk : goal.returns-clause-walk
returns-clause-walk g c = c.take_steps.ensures.walk c.args.version c.args.call c.new-machine.ensures
