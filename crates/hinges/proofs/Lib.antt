pub mod Adding
pub mod Points
pub mod Shares
pub mod Tells
pub mod Order
pub mod Down
