use Rattle.post_core.proofs.settle_steps.settle.Given as goal

abbrev pub ghosts-settle_as : goal.ghosts-settle_as
ghosts-settle_as g a = record { number = a.nth; fate = a.fate }
