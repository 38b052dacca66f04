pub mod Book
pub mod Layout
pub mod Form
pub mod Next
pub mod FormFacts
