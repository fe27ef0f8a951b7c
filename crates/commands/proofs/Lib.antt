pub mod AdjointDone
pub mod CertificateDone
pub mod CommandsDone
pub mod Lengths
pub mod TangentDone
pub mod TangentText
