-- what the proof builds on: tables, messages, and the words of a history
pub mod Tables
pub mod Messages
pub mod Times
pub mod Growth
pub mod Unique
pub mod Newest
pub mod Runlist
pub mod Onelist
-- the invariant, and what an event leaves of it
pub mod Invariant
pub mod Carry
pub mod Unchanged
pub mod Replaced
pub mod Quiet
pub mod Present
-- each call keeps it: made, open, order and part, resend
pub mod Made
pub mod Vacant
pub mod Newborn
pub mod Opening
pub mod Begun
pub mod Ordering
pub mod Resend
-- hear and resume
pub mod Hearing
pub mod Workorder
pub mod Serving
pub mod Setaside
pub mod Running
pub mod Firstrun
pub mod Hear
pub mod Resume
-- take, retarget, close; then every history
pub mod Taking
pub mod Belonging
pub mod Closed
pub mod Closing
pub mod Take
pub mod Retarget
pub mod Close
pub mod Histories
-- what an event does, in the words of the promise
pub mod Orders
pub mod Taken
pub mod Outcomes
pub mod Copies
pub mod Runs
pub mod Results
pub mod Served
-- what holds of all times, and the promise
pub mod Past
pub mod Earlier
pub mod Onward
pub mod Explained
pub mod Kept
