pub mod Slotted
pub mod Replies
