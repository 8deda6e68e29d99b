pub mod Outcomes
pub mod AtOnce
pub mod NodeReading
pub mod NodeLog
pub mod KeyAnswers
pub mod SideBySide
pub mod KeysStaying
mod Deciding
mod Keeping
mod Logging
mod Preparing
mod Reading
