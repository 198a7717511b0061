pub mod Grammar
pub mod Items
pub mod Links
pub mod Forest
pub mod Rows
pub mod Statements
