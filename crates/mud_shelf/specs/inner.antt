pub mod Publishing
