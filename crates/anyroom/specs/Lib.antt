-- A text laid into any room.
pub mod Laying
