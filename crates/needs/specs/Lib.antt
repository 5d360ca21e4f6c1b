-- The numbers behind the verdicts.
pub mod Numbers
