pub mod Origins
pub mod Users
pub mod Entries
