pub mod Once
pub mod Order
pub mod Travellers
pub mod Queues
pub mod Trails
pub mod Boards
pub mod Tables
