-- One step over an indented text: a line's beginning, a piece of a statement or of a comment, or white space.
use Rattle.std.specs.Prelude.{◌≡◌, ℕ, ◌+◌, ◌-◌, List, [], length, Bool, true, false, not, ◌&&◌, ◌==◌, nat_lt, if◌then◌else◌, Result, Ok, Err}
use Rattle.sw_text_scan.specs.declared.signs.TheConstants.{END}
use Rattle.sw_text_scan.specs.Bytes.{byte, is_break, is_white, begins_silent, begins_loud}
use Rattle.sw_text_scan.specs.Runs.{run_end}
use Rattle.sw_text_scan.specs.declared.runs.Class.TheVariants as classes
use Rattle.sw_tokens.specs.declared.pieces.Before.TheVariants as befores
use Rattle.sw_parse_layout.specs.declared.lines.Reach.{Reach}
use Rattle.sw_parse_layout.specs.declared.sorts.Sort.{Sort}
use Rattle.sw_parse_layout.specs.declared.state.Extent.{Extent}
use Rattle.sw_parse_layout.specs.declared.state.Mode.{Mode}
use Rattle.sw_parse_layout.specs.declared.state.Line.{Line}
use Rattle.sw_parse_layout.specs.declared.state.State.{State}
use Rattle.sw_parse_layout.specs.declared.state.Found.{Found}
use Rattle.sw_parse_layout.specs.declared.state.StepEnd.{StepEnd}
use Rattle.sw_parse_layout.specs.Lines.{comment_end}
use Rattle.sw_parse_layout.specs.declared.lines.Reach.TheVariants as reaches
use Rattle.sw_parse_layout.specs.declared.sorts.Sort.TheVariants as sorts
use Rattle.sw_parse_layout.specs.declared.state.Mode.TheVariants as modes
use Rattle.sw_parse_layout.specs.declared.state.StepEnd.TheVariants as ends
use Rattle.sw_parse_layout.specs.Blocks.{line_laid, line_blocks}
use Rattle.sw_parse_layout.specs.Pieces.{moved, passed, line_over, is_outside, piece_step}
use Rattle.sw_parse_layout.specs.Comments.{comment_begun, comment_step}

-- statements

-- over the end of a line a statement goes on inside brackets, and behind a comma of a selector
abbrev pub is_comma : Sort → Bool
is_comma sorts.Comma = true
is_comma _ = false

abbrev pub reach_in : Line → ℕ → Reach
reach_in line depth = if length line.brackets == 0 then reaches.Sign depth else reaches.Joined

abbrev pub break_found : State → Found
break_found s = if (length s.line.brackets == 0) && not (is_comma s.line.sort) then line_over s else moved s (s.at + 1)

unfoldable pub statement_step : List ℕ → State → ℕ → Result Found ℕ
statement_step bs s depth =
    if is_break (byte bs s.at) then Ok (break_found s)
    else (if is_white (byte bs s.at) then Ok (moved s (s.at + 1))
    else (if begins_silent bs s.at then Ok (moved s (run_end classes.Line bs (s.at + 2)))
    else (if begins_loud bs s.at then Ok (passed s (comment_end bs (reach_in s.line depth) (s.at + 2)))
    else piece_step bs s)))

-- behind its `*/`

abbrev pub behind_break : State → ℕ → Found
behind_break s stop = if nat_lt s.at stop then moved s (s.at + 1) else line_over s

unfoldable pub behind_step : List ℕ → State → Extent → Result Found ℕ
behind_step bs s extent =
    if is_break (byte bs s.at) then Ok (behind_break s extent.stop)
    else (if is_white (byte bs s.at) then Ok (moved s (s.at + 1))
    else (if begins_silent bs s.at then Ok (moved s (run_end classes.Line bs (s.at + 2)))
    else (if begins_loud bs s.at then Ok (moved s (comment_end bs (reaches.Sign extent.depth) (s.at + 2)))
    else piece_step bs s)))

-- lines

abbrev pub statement_begun : List ℕ → State → ℕ → Found
statement_begun bs s at = record {
  laid = line_laid bs s.blocks s.line.end s.at at;
  state = record {
    at = at;
    mode = modes.Statement (at - s.at);
    line = record {
      opened = s.line.opened;
      before = befores.White;
      brackets = [];
      sort = sorts.Fresh;
      end = at;
      comments = [];
    };
    blocks = line_blocks bs s.blocks s.line.end s.at at true;
  };
}

-- at the text of a line; a silent comment changes no block
unfoldable pub text_step : List ℕ → State → ℕ → Result Found ℕ
text_step bs s at =
    if byte bs at == END then Ok (moved s at)
    else (if is_break (byte bs at) then Ok (moved s (at + 1))
    else (if begins_silent bs at then Ok (moved s (comment_end bs (reaches.Lines (at - s.at)) at))
    else (if begins_loud bs at then Ok (comment_begun bs s at)
    else Ok (statement_begun bs s at))))

abbrev pub line_step : List ℕ → State → Result Found ℕ
line_step bs s = text_step bs s (run_end classes.Blank bs s.at)

abbrev pub outside_step : List ℕ → State → Mode → Result Found ℕ
outside_step bs s modes.Between = line_step bs s
outside_step bs s (modes.Statement depth) = statement_step bs s depth
outside_step bs s (modes.Comment extent) = comment_step bs s extent
outside_step bs s (modes.Behind extent) = behind_step bs s extent

unfoldable pub step : List ℕ → State → Result Found ℕ
step bs s = if is_outside s.line then outside_step bs s s.mode else piece_step bs s

-- an answer tells a step, or want of memory
abbrev pub Stepped : Result Found StepEnd → Result Found ℕ → Type 0
Stepped (Ok found) wanted = wanted ≡ Ok found
Stepped (Err ends.Memory) wanted = Unit {0}
Stepped (Err (ends.Unclosed k)) wanted = wanted ≡ Err k
