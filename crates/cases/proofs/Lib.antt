-- That the rooms of the cases hold the lists of every file whose counts are within their ranges.
pub mod Lists
