-- Claims: States and Calls, with ClintCalls, UartCalls, BlkStates, BlkRequests, BlkCalls, NetStates and NetCalls by kind, and Queues and Configs
-- for what a disk and a nic have in common.
-- What proofs keep: Propositions.
pub mod BlkCalls
pub mod BlkRequests
pub mod BlkStates
pub mod Calls
pub mod ClintCalls
pub mod Configs
pub mod NetCalls
pub mod NetStates
pub mod Propositions
pub mod Queues
pub mod States
pub mod UartCalls
