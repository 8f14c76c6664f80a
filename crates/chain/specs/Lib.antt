pub mod Chain
pub mod Visit
