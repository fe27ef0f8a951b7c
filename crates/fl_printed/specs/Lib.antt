pub mod Fits
pub mod ReadBack
