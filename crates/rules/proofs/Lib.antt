pub mod CounterBook
pub mod Refusing
