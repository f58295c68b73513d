pub mod Books
pub mod Forms
pub mod Laws
pub mod Ledger
pub mod Refusals
pub mod Runs
