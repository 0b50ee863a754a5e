-- The words of a line: what stands between its spaces. This project's own rule.
use Rattle.std.specs.Prelude.{ℕ, Bool, not, ◌&&◌, ◌==◌, nat_le, if◌then◌else◌, List, [], ◌∷◌, Option, None, Some, length}
use Rattle.std.specs.List.{list_all}
use denote.Bor.{Bor}

abbrev pub onto_first : ℕ → List (List ℕ) → List (List ℕ)
onto_first byte [] = (byte ∷ []) ∷ []
onto_first byte (word ∷ words) = (byte ∷ word) ∷ words

-- the parts between the spaces, at least one
unfoldable pub words_of : List ℕ → List (List ℕ)
words_of [] = [] ∷ []
words_of (byte ∷ bytes) = if byte == 32 then [] ∷ words_of bytes else onto_first byte (words_of bytes)

-- the words of what is left of a line, and none where nothing is left
abbrev pub rest_words : Option (Bor (List ℕ)) → List (List ℕ)
rest_words None = []
rest_words (Some rest) = words_of rest.now

-- a byte that is seen: no space, no control, nothing past ASCII
abbrev pub is_plain : ℕ → Bool
is_plain byte = nat_le 33 byte && nat_le byte 126

abbrev pub is_word : List ℕ → Bool
is_word bytes = not (length bytes == 0) && list_all is_plain bytes
