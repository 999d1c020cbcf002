pub mod Legality
mod Findings
mod Returns
mod Trials
mod Pushing
