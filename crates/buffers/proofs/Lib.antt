pub mod BuffersLaws
