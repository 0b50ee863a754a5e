mod RawTokens
mod RawTexts
mod Parts
mod TextHeads
mod Balanced
mod Properties
mod Customs
mod Loads
mod LoadHeads
mod Media
mod MediaQueries
mod Moves
mod Params
mod Members
mod Firsts
mod Names
mod Flow
mod Bounds
mod Blocks
mod Selectors
mod Rules
mod Bare
mod Calm
pub mod Loud
pub mod Fronts
mod Elseless
pub mod Statements
pub mod Sheets
