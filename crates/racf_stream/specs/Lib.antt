pub mod Stream
pub mod Script
pub mod Durable
pub mod Processing
pub mod Printed
