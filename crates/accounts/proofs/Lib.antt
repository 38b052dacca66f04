pub mod MatchingLaws
pub mod TableMapLaws
pub mod CountLaws
pub mod MapsTakenLaws
pub mod EntryLaws
