pub mod Encoding
pub mod Pieces
pub mod Lengths
pub mod CodeLengths
pub mod Whole
pub mod Parts
pub mod Rising
