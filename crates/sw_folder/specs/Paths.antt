-- What a path of a folder is. This project's own rule.
use Rattle.std.specs.Prelude.{ℕ, Bool, not, ◌&&◌, ◌||◌, ◌==◌, nat_le, List, codes, length, bytes_eq, [], Option, None, Some}
use Rattle.std.specs.List.{list_all, slice_split}

abbrev pub is_slash : ℕ → Bool
is_slash byte = byte == 47

abbrev pub is_underscore : ℕ → Bool
is_underscore byte = byte == 95

-- the parts of a text between its slashes
abbrev pub segments : List ℕ → List (List ℕ)
segments text = slice_split is_slash text

-- the parts of what stands behind a slash, if there is one
abbrev pub rest_segments : Option (List ℕ) → List (List ℕ)
rest_segments None = []
rest_segments (Some rest) = segments rest

abbrev pub is_dot : List ℕ → Bool
is_dot segment = bytes_eq segment (codes ".")

abbrev pub is_dot_dot : List ℕ → Bool
is_dot_dot segment = bytes_eq segment (codes "..")

abbrev pub is_within : ℕ → ℕ → ℕ → Bool
is_within low high byte = nat_le low byte && nat_le byte high

-- a letter, a digit, or one of `.`, `_`, `-` and `@`
abbrev pub is_path_byte : ℕ → Bool
is_path_byte byte =
    is_within 97 122 byte || is_within 64 90 byte || is_within 48 57 byte || byte == 46 || byte == 95 || byte == 45

-- one or more of these bytes, but not `.` or `..`
abbrev pub is_segment : List ℕ → Bool
is_segment segment =
    not (length segment == 0) && list_all is_path_byte segment && not (is_dot segment) && not (is_dot_dot segment)

-- at most 255 bytes: segments joined by single slashes
unfoldable pub is_path : List ℕ → Bool
is_path text = nat_le (length text) 255 && list_all is_segment (segments text)
