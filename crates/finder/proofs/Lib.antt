pub mod AnswerLaws
pub mod FirstLaws
pub mod BucketLaws
pub mod FindingLaws
pub mod FarEndCases
pub mod FarEndLaws
