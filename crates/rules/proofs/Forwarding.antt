-- A step and a run by the rule: bounded whatever is down, delivered under one failure; the kinds of changes; and tables as bytes.
pub mod Routing
pub mod Steps
pub mod Runs
pub mod Delivery
pub mod ChangeKinds
pub mod LentTables
