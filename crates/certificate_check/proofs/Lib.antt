pub mod PairReads
pub mod FirstFlaws
