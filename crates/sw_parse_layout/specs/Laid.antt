-- Tokens that are laid, of which one may be refused.
use Rattle.std.specs.Prelude.{ℕ, [], ◌++◌, Option, Some, None, Bool, true, false, if◌then◌else◌, Result, Ok, Err}
use Rattle.sw_tokens.specs.declared.token.TokenKind.{TokenKind}
use Rattle.sw_tokens.specs.declared.token.Token.{Token}
use Rattle.sw_parse_layout.specs.declared.laid.Laid.{Laid}

-- a made token: an empty one
abbrev pub sign_at : TokenKind → ℕ → Token
sign_at kind at = record { kind = kind; from = at; to = at; spaced = true }

-- loud comments that are statements

abbrev pub told_token : TokenKind → ℕ → ℕ → Token
told_token kind from to = record { kind = kind; from = from; to = to; spaced = false }

abbrev pub nothing : Laid
nothing = record { tokens = []; refused = None }

abbrev pub refused_at : Bool → ℕ → Option ℕ
refused_at refused at = if refused then Some at else None

-- what is laid, and what comes behind it; of two refused tokens the first counts
abbrev pub earlier : Option ℕ → Option ℕ → Option ℕ
earlier (Some k) later = Some k
earlier None later = later

abbrev pub both : Laid → Laid → Laid
both x y = record { tokens = x.tokens ++ y.tokens; refused = earlier x.refused y.refused }

abbrev pub behind : Laid → Result Laid ℕ → Result Laid ℕ
behind x (Ok y) = Ok (both x y)
behind x (Err k) = Err k
