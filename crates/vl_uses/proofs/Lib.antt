pub mod Parentheses
pub mod ExpressionParts
pub mod Fitting
pub mod StatementParts
pub mod Several
pub mod Sites
pub mod Parameters
pub mod Listed
