-- What calls of a channel's turn do, what its passes know, and the rule of the queue that holds its one state.
pub mod Calls
pub mod Passes
pub mod Rule
