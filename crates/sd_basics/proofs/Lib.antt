pub mod Lists
pub mod Numbers
pub mod Ranges
pub mod Results
pub mod Truths
