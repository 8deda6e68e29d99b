pub mod PatternParts
pub mod PatternUnique
