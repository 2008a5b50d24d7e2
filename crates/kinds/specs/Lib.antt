pub mod Numbers
pub mod PointKind
pub mod InstructionKind
pub mod InstructionLaws
pub mod PointLaws
pub mod NumberFacts
