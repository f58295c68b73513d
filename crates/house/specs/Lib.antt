pub mod Answers
pub mod Hears
pub mod Houses
pub mod Sends
pub mod Sessions
pub mod Summaries
pub mod Takes
pub mod Took
