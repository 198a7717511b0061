pub mod Items
pub mod States
