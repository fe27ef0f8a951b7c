pub mod Commands
pub mod Grammar
pub mod Names
pub mod Numbers
pub mod Reads
pub mod Schedules
pub mod SettingWords
pub mod SettingsWords
