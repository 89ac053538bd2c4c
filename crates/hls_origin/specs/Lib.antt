-- The definitions of the programs: how `serve` may end, given its arguments, and the exit statuses of the commands.
pub mod ServeRun
pub mod Status
