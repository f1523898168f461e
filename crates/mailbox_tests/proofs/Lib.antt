mod Fresh
mod HeldJobs
mod Senders
