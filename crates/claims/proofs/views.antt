-- What a host is shown: laws of model/specs/Views.antt and of outputs.
pub mod WrittenLaws
pub mod EnrolledNumber
pub mod ViewLaws
pub mod RowLaws
