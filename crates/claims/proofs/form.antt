-- Form: every accepted call leaves a book in form (well-formed), the calls on bytes are the calls on the book, and in a book in form images
-- name blocks of the pool.
pub mod Proper
pub mod Bounds
pub mod BackupAllowed
pub mod FitParts
pub mod SlotsFit
pub mod EntriesFit
pub mod FreshFit
pub mod EnrolFit
pub mod CollectFit
pub mod ChangesFit
pub mod WorkFit
pub mod MoveFit
pub mod RunFit
pub mod BackupFit
pub mod RetireAllowed
pub mod RetireFit
pub mod OnBytesFit
pub mod ImageIn
pub mod ConvertFit
pub mod Refreshed
pub mod SoundStays
pub mod ToThree
