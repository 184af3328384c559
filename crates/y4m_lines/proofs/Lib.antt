pub mod Fields
pub mod Numbers
pub mod OneLine
pub mod HeaderLaws
pub mod WrittenHeader
pub mod Names
