-- What a line asks for. This project's own rule.
use Rattle.std.specs.Prelude.{◌≡◌, ℕ, Bool, ◌&&◌, ◌||◌, nat_le, if◌then◌else◌, List, [], ◌∷◌, Option, None, Some, Result, Ok, Err, codes, length, ⊤}
use Rattle.std.specs.Option.{option_map}
use Rattle.std.specs.Str.{bytes_eq}
use Rattle.std.specs.List.{list_all}
use Rattle.sw_folder.specs.Paths.{is_path}
use Rattle.sw_wire.specs.declared.fault.LineFault.{LineFault}
use Rattle.sw_wire.specs.declared.fault.LineFault.TheVariants.{NotARequest, Memory}
use Rattle.sw_wire.specs.declared.request.Request.{Request}
use Rattle.sw_wire.specs.declared.request.Request.TheVariants as R
use Rattle.sw_wire.specs.declared.request.StepRequest.{StepRequest}
use Rattle.sw_wire.specs.declared.request.StepRequest.TheVariants as S
use Rattle.sw_wire.specs.declared.parts.Parts.{Parts as Seen}
use Rattle.sw_wire.specs.declared.parts.Parts.TheVariants as seen
use Rattle.sw_wire.specs.Words.{words_of, rest_words, is_word}
use Rattle.sw_wire.specs.Numbers.{number_of, most_length, most_number}

-- the parts of a line: `end` alone, or a name, a word behind it, and the words behind that
pub data Parts : Type 0 where
  End : Parts
  Named : (name word : List ℕ) → (words : List (List ℕ)) → Parts

abbrev pub parts_seen : Seen → Parts
parts_seen seen.End = End
parts_seen (seen.Named name word more) = Named name.now word.now (rest_words more)

abbrev pub parts_by : List (List ℕ) → Option Parts
parts_by [] = None
parts_by (name ∷ []) = if bytes_eq name (codes "end") then Some End else None
parts_by (name ∷ word ∷ words) = if is_word word then Some (Named name word words) else None

-- a path of the folder, or the folder itself
abbrev pub is_load_path : List ℕ → Bool
is_load_path text = bytes_eq text (codes ".") || is_path text

abbrev pub is_base : List ℕ → Bool
is_base word = is_word word && is_load_path word

-- the words, where they are load paths, at most eight
abbrev pub bases_by : List (List ℕ) → Option (List (List ℕ))
bases_by words = if nat_le (length words) 8 && list_all is_base words then Some words else None

-- the words, where they are one number of bytes
abbrev pub length_by : List (List ℕ) → Option ℕ
length_by [] = None
length_by (digits ∷ []) = number_of most_length digits
length_by (digits ∷ more ∷ words) = None

-- no words
abbrev pub nothing_by : List (List ℕ) → Option ⊤
nothing_by [] = Some tt
nothing_by (word ∷ words) = None

-- what the name asks a session for, with this path and the words behind it
abbrev pub named_by : List ℕ → List ℕ → List (List ℕ) → Option Request
named_by name path words =
    if bytes_eq name (codes "put") then option_map (R.Put path) (length_by words)
    else if bytes_eq name (codes "remove") then option_map (λ none. R.Remove path) (nothing_by words)
    else if bytes_eq name (codes "compile") then option_map (R.Compile path) (bases_by words)
    else None

abbrev pub request_by : Option Parts → Option Request
request_by None = None
request_by (Some End) = Some R.End
request_by (Some (Named name word words)) = named_by name word words

-- the request of a session that a line asks for, and None where the line isn't in the grammar
abbrev pub request_of : List ℕ → Option Request
request_of line = request_by (parts_by (words_of line))

-- a number of a compile, and no words behind it
abbrev pub step_by : List ℕ → List (List ℕ) → Option StepRequest
step_by digits [] = option_map S.Step (number_of most_number digits)
step_by digits (word ∷ words) = None

-- what the name asks for where compiles go on by steps, with this word and those behind it
abbrev pub step_named_by : List ℕ → List ℕ → List (List ℕ) → Option StepRequest
step_named_by name word words =
    if bytes_eq name (codes "put") then option_map (S.Put word) (length_by words)
    else if bytes_eq name (codes "remove") then option_map (λ none. S.Remove word) (nothing_by words)
    else if bytes_eq name (codes "start") then option_map (S.Start word) (bases_by words)
    else if bytes_eq name (codes "step") then step_by word words
    else None

abbrev pub step_request_by : Option Parts → Option StepRequest
step_request_by None = None
step_request_by (Some End) = Some S.End
step_request_by (Some (Named name word words)) = step_named_by name word words

-- the same of a line where compiles go on by steps
abbrev pub step_request_of : List ℕ → Option StepRequest
step_request_of line = step_request_by (parts_by (words_of line))

-- what was read is what the definition says, and nothing was read exactly where it says none, or for want of memory
abbrev pub IsRead : {T : Type 0} → Result T LineFault → Option T → Type 0
IsRead (Ok value) said = said ≡ Some value
IsRead (Err NotARequest) said = said ≡ None
IsRead (Err Memory) said = ⊤
