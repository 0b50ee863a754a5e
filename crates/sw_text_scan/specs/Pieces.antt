-- Parts of a text. A text is cut only between its characters.
use Rattle.std.specs.Prelude.{ℕ, zero, suc, ◌+◌, ◌-◌, List, [], length, slice_range, Bool, not, ◌&&◌, nat_le, if◌then◌else◌}
use Rattle.sw_text_scan.specs.Bytes.{byte, is_white, continues}

-- i lies between two characters, or at an end of the text
abbrev pub is_cut : List ℕ → ℕ → Bool
is_cut bs i = nat_le i (length bs) && not (continues (byte bs i))

-- what stands from i up to j, and nothing where these are no places between characters
unfoldable pub piece : List ℕ → ℕ → ℕ → List ℕ
piece bs i j = if nat_le i j && (is_cut bs i && is_cut bs j) then slice_range bs i j else []

-- behind the last of the n bytes from i on that is no white space; i where all are
abbrev pub trimmed_from : List ℕ → ℕ → ℕ → ℕ
trimmed_from bs i zero = i
trimmed_from bs i (suc n) = if is_white (byte bs (i + n)) then trimmed_from bs i n else i + suc n

-- where what stands from i up to j ends without the white space behind it
unfoldable pub trimmed_end : List ℕ → ℕ → ℕ → ℕ
trimmed_end bs i j = trimmed_from bs i (j - i)
