pub mod Blocks
pub mod AnswersLaid
pub mod Doing
pub mod Restoring
pub mod Exported
