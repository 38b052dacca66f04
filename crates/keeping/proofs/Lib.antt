pub mod AfterLaws
pub mod KeptLaws
