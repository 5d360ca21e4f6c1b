-- Room that is lent on.
pub mod Rooms
