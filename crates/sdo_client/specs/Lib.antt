pub mod Client
pub mod Exchanges
