pub mod Calling
pub mod Hearing
pub mod Meets
pub mod Sending
pub mod Taking
pub mod Took
