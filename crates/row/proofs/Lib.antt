pub mod Leads
pub mod Shut
pub mod Led
