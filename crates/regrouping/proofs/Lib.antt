-- What regrouping keeps.
pub mod Raising
pub mod Made
pub mod Theorems
pub mod Examples
