pub mod Arrivals
pub mod Flights
pub mod Parts
pub mod Senders
pub mod Sound
pub mod Tallies
pub mod Queues
