pub mod Forward
