pub mod CountLaws
pub mod CountedLaws
