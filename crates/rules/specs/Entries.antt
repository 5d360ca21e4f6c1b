-- What each entry answers, and what every lent byte holds afterwards, for every input, accepted or refused: one file for each entry. `Entry` is the form that
-- all have, and what an entry promises; `Lists` the five lists that `read` is lent and `write` is given.
pub mod Entry
pub mod Lists
pub mod Read
pub mod Write
pub mod Build
pub mod Tables
pub mod Step
pub mod Run
pub mod Report
