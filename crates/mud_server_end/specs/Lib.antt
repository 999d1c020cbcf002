pub mod JournalText
pub mod Server
