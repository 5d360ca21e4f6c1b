-- How the tables are put together, topology by topology.
pub mod Stages
