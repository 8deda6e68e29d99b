pub mod PatternGrammar
pub mod TemplateGrammar
