pub mod Steps
pub mod StepsStand
