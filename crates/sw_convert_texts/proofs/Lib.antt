mod TerminalChoices
mod Terminals
pub mod TokenPairs
mod TokenGaps
mod LexemePairs
mod TextPieces
mod TemplatePieces
mod TextTokens
pub mod TextsApart
mod Pieces
mod NameTokens
mod JoinedTexts
mod OldPieces
mod DigitTokens
mod UnitTokens
mod UnitRuns
mod Stretches
mod HashPieces
mod HexPieces
mod OldRows
pub mod OldHashes
mod NewRows
mod Inserts
mod PartKinds
mod PartTokens
mod UnitParts
mod Parts
mod AtTokens
mod Rows
mod Endings
mod WordKinds
pub mod MinusBefore
mod Adjoining
pub mod WordsWithValues
pub mod Dotted
mod UrlTokens
pub mod Urls
mod CommentTokens
mod CommentPieces
mod WholeComments
mod OldComments
mod CommentRows
pub mod Comments
mod LoneAts
mod AtBefore
pub mod AtInserts
pub mod OldNames
mod AroundTexts
mod SeamedTexts
mod CommentedTexts
mod RawGaps
mod RawOlds
mod Levels
pub mod UrlNames
mod RawStrings
mod RawHeads
mod RawNames
mod RawSigns
mod RawPercents
mod RawLiterals
mod RawWords
mod RawTokens
mod RawSits
mod RawRows
mod RawSingles
mod RawBrackets
mod RawJoined
pub mod RawWritten
mod RuleHeads
pub mod RuleWritten
mod JoinedPieces
pub mod SpecialOlds
mod TextValues
mod Specials
mod SpecialTokens
mod SpecialValues
mod SpecialBrackets
mod SpecialTexts
pub mod SpecialWritten
