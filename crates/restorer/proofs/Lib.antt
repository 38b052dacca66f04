pub mod BeforeLaws
pub mod ReadingLaws
pub mod ReadCalls
