-- Demands 1 to 3 as statements over the definitions. What is shown of them stands in proofs/, under the names that are given here. What each refusal number
-- says, row by row of 01's table, stands in `Refusals`; what an accepted set is, in `Sets`.
-- `One`, `Two` and `Three` each end with the demand, as one record. `Form` is the form in which demands 2 and 3 speak of an entry. The parts of demand 3 stand
-- by theme: `Delivery`, of the forwarding rule itself; `Step` and `Run`, of those entries; `Detections`, of the report; `Building`, of the builder.
-- `TakingIn` is 02's request h, over all entries.
pub mod One
pub mod Form
pub mod Two
pub mod Delivery
pub mod Step
pub mod Run
pub mod Detections
pub mod Building
pub mod Three
pub mod TakingIn
