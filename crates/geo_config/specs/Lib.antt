pub mod Lawful
pub mod Document
pub mod Draft
