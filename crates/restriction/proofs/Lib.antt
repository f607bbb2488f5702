pub mod Allowing
pub mod Restrictions
