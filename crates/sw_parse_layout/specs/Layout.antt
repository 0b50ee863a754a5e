-- The list of SCSS tokens that an indented text stands for, or the place of its fault.
use Rattle.std.specs.Prelude.{◌≡◌, ℕ, zero, suc, ◌+◌, List, [], ◌∷◌, ◌++◌, length, Option, Some, None, true, false, ◌&&◌, ◌==◌, nat_lt, if◌then◌else◌, Result, Ok, Err, ◌<◌, ◌^◌, ◌*◌}
use Rattle.std.specs.Str.{IsCharBoundary}
use Rattle.sw_text.specs.Places.{mark_length}
use Rattle.sw_text_scan.specs.Bytes.{byte}
use Rattle.sw_tokens.specs.declared.token.Token.{Token}
use Rattle.sw_tokens.specs.Tokens.{first_start}
use Rattle.sw_tokens.specs.Ends.{reached}
use Rattle.sw_tokens.specs.declared.token.TokenKind.TheVariants as kinds
use Rattle.sw_tokens.specs.declared.pieces.Before.TheVariants as befores
use Rattle.sw_parse_layout.specs.declared.laid.Laid.{Laid}
use Rattle.sw_parse_layout.specs.declared.state.Mode.{Mode}
use Rattle.sw_parse_layout.specs.declared.state.State.{State}
use Rattle.sw_parse_layout.specs.declared.state.Found.{Found}
use Rattle.sw_parse_layout.specs.declared.state.StepEnd.{StepEnd}
use Rattle.sw_parse_layout.specs.declared.walk.Place.{Place}
use Rattle.sw_parse_layout.specs.declared.walk.LayoutEnd.{LayoutEnd}
use Rattle.sw_parse_layout.specs.declared.sorts.Sort.TheVariants as sorts
use Rattle.sw_parse_layout.specs.declared.state.Mode.TheVariants as modes
use Rattle.sw_parse_layout.specs.declared.state.StepEnd.TheVariants as steps
use Rattle.sw_parse_layout.specs.declared.walk.LayoutEnd.TheVariants as ends
use Rattle.sw_parse_layout.specs.Laid.{told_token, behind}
use Rattle.sw_parse_layout.specs.Blocks.{shut_blocks, due_sign}
use Rattle.sw_parse_layout.specs.Steps.{step}

-- the end of the text

-- a loud comment that has no `*/`
abbrev pub comment_end_sign : Mode → ℕ → List Token
comment_end_sign (modes.Comment extent) end = told_token kinds.CommentEnd end end ∷ []
comment_end_sign modes.Between end = []
comment_end_sign (modes.Statement depth) end = []
comment_end_sign (modes.Behind extent) end = []

abbrev pub last_tokens : State → List Token
last_tokens s =
    comment_end_sign s.mode s.line.end
    ++ (due_sign s.blocks.due s.line.end ++ (shut_blocks s.line.end 0 s.blocks.depths).tokens)

abbrev pub finished_by : State → Option ℕ → Result Laid ℕ
finished_by s None = Ok (record { tokens = last_tokens s; refused = None })
finished_by s (Some start) = Err start

unfoldable pub finished : State → Result Laid ℕ
finished s = finished_by s (first_start s.line.opened)

-- one step after another

abbrev pub walk_on : (State → Result Laid ℕ) → Result Found ℕ → Result Laid ℕ
walk_on on (Ok found) = behind found.laid (on found.state)
walk_on on (Err k) = Err k

abbrev pub walk : List ℕ → ℕ → State → Result Laid ℕ
walk bs zero s = finished s
walk bs (suc n) s = if nat_lt s.at (length bs) then walk_on (walk bs n) (step bs s) else finished s

abbrev pub start_at : ℕ → State
start_at at = record {
  at = at;
  mode = modes.Between;
  line = record { opened = []; before = befores.White; brackets = []; sort = sorts.Fresh; end = at; comments = [] };
  blocks = record { depths = []; indent = None; first = true; due = false };
}

-- what the lines of a text lay, or where the first string or `#{` begins that isn't closed; each step takes a byte at
-- least, but for one at the beginning of each statement
unfoldable pub laid_of : List ℕ → Result Laid ℕ
laid_of bs = walk bs (2 * length bs) (start_at (mark_length bs))

-- where the token ends that begins at k
abbrev pub end_of : ℕ → List Token → ℕ
end_of k [] = k
end_of k (t ∷ ts) = if (t.from == k) && nat_lt k t.to then t.to else end_of k ts

abbrev pub told_by : List Token → Option ℕ → Result (List Token) Place
told_by ts None = Ok ts
told_by ts (Some k) = Err (record { from = k; to = end_of k ts })

abbrev pub told : Result Laid ℕ → Result (List Token) Place
told (Ok laid) = told_by (reached laid.tokens).list laid.refused
told (Err k) = Err (record { from = k; to = k + 1 })

-- the tokens, or the place of the fault: of what isn't closed its first character, else the first token that is refused
unfoldable pub layout : List ℕ → Result (List Token) Place
layout bs = told (laid_of bs)

abbrev pub place_of : StepEnd → LayoutEnd
place_of steps.Memory = ends.Memory
place_of (steps.Unclosed k) = ends.Refused (record { from = k; to = k + 1 })

abbrev pub Fits32 : StepEnd → Type 0
Fits32 steps.Memory = Unit {0}
Fits32 (steps.Unclosed k) = k + 1 < 2 ^ 32

-- places between characters

abbrev pub CutIf : List ℕ → Option ℕ → Type 0
CutIf bs None = Unit {0}
CutIf bs (Some k) = IsCharBoundary bs k

-- the character that begins what isn't closed is one byte long
abbrev pub IsByte : List ℕ → StepEnd → Type 0
IsByte bs steps.Memory = Unit {0}
IsByte bs (steps.Unclosed k) = (k < length bs) × IsCharBoundary bs k × IsCharBoundary bs (k + 1)

abbrev pub IsPlace : List ℕ → LayoutEnd → Type 0
IsPlace bs ends.Memory = Unit {0}
IsPlace bs (ends.Refused place) = IsCharBoundary bs place.from × IsCharBoundary bs place.to

-- an answer tells these
abbrev pub Told : Result (List Token) LayoutEnd → Result (List Token) Place → Type 0
Told (Ok ts) wanted = wanted ≡ Ok ts
Told (Err ends.Memory) wanted = Unit {0}
Told (Err (ends.Refused place)) wanted = wanted ≡ Err place

abbrev pub TellsLaid : Result Laid StepEnd → Result Laid ℕ → Type 0
TellsLaid (Ok laid) wanted = wanted ≡ Ok laid
TellsLaid (Err steps.Memory) wanted = Unit {0}
TellsLaid (Err (steps.Unclosed k)) wanted = wanted ≡ Err k
