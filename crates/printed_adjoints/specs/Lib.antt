pub mod Adjoints
