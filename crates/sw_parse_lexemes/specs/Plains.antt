-- The tokens of a text by themselves.
use Rattle.std.specs.Prelude.{◌≡◌, ℕ, ◌==◌, Bool, if◌then◌else◌, List, [], ◌∷◌, Option, Some, None, slice_get, slice_range}
use Rattle.std.specs.List.{list_any}
use Rattle.std.specs.Str.{IsCharBoundary}
use Rattle.sw_text.specs.Places.{pos_at}
use Rattle.sw_text_scan.specs.Bytes.{sign}
use Rattle.sw_tokens.specs.declared.token.Token.{Token}
use Rattle.sw_tokens.specs.Ends.{opens}
use Rattle.sw_parse_lexemes.specs.declared.plain.Plain.{Plain}
use Rattle.sw_parse_lexemes.specs.Sorts.{sort_of}

-- where a token's own text ends: in one that others stand in, where the next one begins
abbrev pub end_by : Token → Option Token → ℕ
end_by token None = token.to
end_by token (Some next) = if opens token.kind then next.from else token.to

abbrev pub holds_slash : List ℕ → Bool
holds_slash bytes = list_any (λ b. b == sign "/") bytes

-- between two tokens stand white space and silent comments alone, so a `/` there begins a comment
unfoldable pub has_slash : List ℕ → ℕ → ℕ → Bool
has_slash bytes from to = holds_slash (slice_range bytes from to)

-- a token whose own text ends at an offset, and that of the one before it at another
unfoldable pub plain_of : List ℕ → ℕ → Token → ℕ → Plain
plain_of bytes gap token to = record {
  sort = sort_of token.kind (slice_range bytes token.from token.to);
  spaced = token.spaced;
  silent = has_slash bytes gap token.from;
  from = token.from;
  to = to;
  start = pos_at bytes token.from;
  end = pos_at bytes to;
}

-- these tokens, where the text of the one before them ends at an offset
abbrev pub plains_from : List ℕ → ℕ → List Token → List Plain
plains_from bytes gap [] = []
plains_from bytes gap (token ∷ rest) =
    plain_of bytes gap token (end_by token (slice_get rest 0))
    ∷ plains_from bytes (end_by token (slice_get rest 0)) rest

abbrev pub plains_of : List ℕ → List Token → List Plain
plains_of bytes tokens = plains_from bytes 0 tokens

-- the text may be cut before and behind a token's own text, and its places are those of its ends
pub record PlainLies (bytes : List ℕ) (plain : Plain) : Type 0 where
  pub from : IsCharBoundary bytes plain.from
  pub to : IsCharBoundary bytes plain.to
  pub start : plain.start ≡ pos_at bytes plain.from
  pub end : plain.end ≡ pos_at bytes plain.to
