-- Document 01 as definitions that run, in its order. `Basics` has the few words that are not 01's.
-- Then, over those definitions: `Entries`, what each entry answers and leaves; `Sets`, what an accepted set is; `Demands`, the three demands; `Refusals`, what
-- each refusal number says; and 01's `Examples`.
pub mod Basics
pub mod Limits
pub mod File
pub mod Isolation
pub mod Distance
pub mod Forwarding
pub mod Building
pub mod Verdict
pub mod Judgement
pub mod Report
pub mod Answers
pub mod Entries
pub mod Sets
pub mod Demands
pub mod Refusals
pub mod Examples
