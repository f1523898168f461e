use Rattle.post_core.proofs.job_steps.start_job.Given as goal

abbrev pub ghosts-start_job_as : goal.ghosts-start_job_as
ghosts-start_job_as g a = record { target = a.shared.now.key.target }
