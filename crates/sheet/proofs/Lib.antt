pub mod RowLaws
pub mod SheetLaws
pub mod Answering
