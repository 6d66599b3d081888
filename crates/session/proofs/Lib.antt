pub mod Session
pub mod Underway
pub mod Delivery
pub mod GettingOn
pub mod AllDeliveries
pub mod Program
pub mod CallsMade
