-- The run of a packet, as the code makes it by lent tables.
pub mod Trip
