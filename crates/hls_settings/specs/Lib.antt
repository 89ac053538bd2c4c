-- The definitions of the settings: flags, numbers, addresses and renditions in the arguments, the commands as `clap` parses them, and the first
-- invalid argument.
pub mod Flags
pub mod Numbers
pub mod Renditions
pub mod Addresses
pub mod FileArguments
pub mod JournalSettings
pub mod ParsedArgs
pub mod Settings
pub mod WrongArguments
pub mod Command
pub mod ReadSettings
pub mod Options
pub mod ClapCommand
