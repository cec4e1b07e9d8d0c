mod Examples
mod FilesByName
mod NamesOnce
mod Renaming
mod SettingBytes
mod Telling
mod Writing
