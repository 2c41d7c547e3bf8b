mod Parts
mod Connected
mod Widths
mod Forms
mod Expressions
mod Targets
mod Tasks
mod Statements
mod Functions
mod Items
mod Instances
mod Declared
pub mod Whole
pub mod DeclaredOfLaws
pub mod Depth
pub mod FunctionsOfLaws
pub mod Lists
pub mod Numbers
pub mod Places
pub mod Sources
pub mod Splits
pub mod Opens
pub mod Sides
pub mod Loading
pub mod Fitting
pub mod ExpressionsOfNamed
pub mod Wholes
pub mod StatementsOfNamed
pub mod Meanings
pub mod Types
pub mod FunctionsOfNamed
pub mod ItemsOfNamed
pub mod Modules
pub mod Agree
pub mod Alone
pub mod Bodies
pub mod Bound
pub mod Fixed
pub mod InstancesOfAgree
pub mod Names
pub mod Order
pub mod Pairs
pub mod Stands
pub mod Values
pub mod WidthsOfAgree
pub mod ExpressionsOfAlike
pub mod StatementsOfAlike
pub mod DeclaredOfAlike
pub mod NamesOfAlike
pub mod NumbersOfAlike
pub mod PartsOfAlike
