-- The plain store by itself: what its volumes sent is what it reads.
pub mod HistoryLaws
pub mod PlainShows
pub mod PlainPlacing
pub mod PlainChanges
pub mod PlainMarks
pub mod PlainRecalls
pub mod PlainRecallsBackup
pub mod PlainRecallsRetire
pub mod PlainRecallsOthers
pub mod PlainProper
pub mod PlainHistory
pub mod PlainReads
pub mod HistoryRestores
