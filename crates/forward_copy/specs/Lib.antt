pub mod Carried
pub mod Currents
pub mod Firms
pub mod Opens
pub mod Refusals
pub mod Settled
pub mod Sifted
pub mod Wholes
