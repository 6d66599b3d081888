pub mod Session
pub mod Taking
pub mod Deliveries
pub mod Program
pub mod CallsMade
