pub mod RangeLists
mod Examples
