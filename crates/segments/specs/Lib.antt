pub mod Points
pub mod Spans
pub mod Bits
pub mod Segments
