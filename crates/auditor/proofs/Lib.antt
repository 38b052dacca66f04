pub mod MapsReplayed
pub mod AuditPasses
pub mod WaysOut
pub mod HeldPrints
