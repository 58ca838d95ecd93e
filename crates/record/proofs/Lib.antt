-- Saving.
pub mod Saves
-- Loading.
pub mod Built
pub mod Loads
-- What is proved of the calls.
pub mod SaveLoad
pub mod LoadSave
pub mod LoadSound
pub mod Tight
