pub mod Segments
mod StatementStops
mod TokenEnds
mod Loose
pub mod Gaps
pub mod Keywords
mod OneName
pub mod Valued
pub mod Flags
pub mod Variables
mod Params
mod Callables
mod Arguments
pub mod Flow
mod WordRuns
mod BoundWords
mod Bounds
mod Includes
mod Configurations
pub mod Loads
mod ForwardConfigurations
mod Forwards
mod InsertTokens
mod FeatureStarts
mod MediaPieces
mod Comparisons
mod Features
mod Queries
pub mod Fronts
pub mod Texts
mod Dashes
mod FirstTokens
mod KnownNames
mod Assignments
pub mod Names
pub mod Blocks
pub mod Statements
pub mod Sheets
pub mod Steps
mod AtNames
mod Walked
mod LaidBehind
mod KeywordLengths
pub mod ReadsBack
mod KnownTexts
mod Begins
pub mod Told
