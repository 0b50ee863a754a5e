-- Loud comments that are statements, line by line.
use Rattle.std.specs.Prelude.{ℕ, zero, suc, ◌+◌, ◌-◌, List, [], ◌∷◌, ◌++◌, None, true, false, not, nat_lt, if◌then◌else◌, Result, Ok}
use Rattle.sw_text_scan.specs.Bytes.{byte, is_break, opens_at, ends_loud}
use Rattle.sw_text_scan.specs.Runs.{run_end, white_end}
use Rattle.sw_text_scan.specs.declared.runs.Class.TheVariants as classes
use Rattle.sw_tokens.specs.declared.token.Token.{Token}
use Rattle.sw_tokens.specs.declared.pieces.Before.{Before}
use Rattle.sw_tokens.specs.declared.pieces.Piece.{Piece}
use Rattle.sw_tokens.specs.declared.token.TokenKind.TheVariants as kinds
use Rattle.sw_tokens.specs.declared.pieces.Before.TheVariants as befores
use Rattle.sw_parse_layout.specs.declared.state.Extent.{Extent}
use Rattle.sw_parse_layout.specs.declared.state.Line.{Line}
use Rattle.sw_parse_layout.specs.declared.state.State.{State}
use Rattle.sw_parse_layout.specs.declared.state.Found.{Found}
use Rattle.sw_parse_layout.specs.Lines.{is_blank, ends_line, comment_end}
use Rattle.sw_parse_layout.specs.declared.lines.Reach.TheVariants as reaches
use Rattle.sw_parse_layout.specs.declared.sorts.Sort.TheVariants as sorts
use Rattle.sw_parse_layout.specs.declared.state.Mode.TheVariants as modes
use Rattle.sw_parse_layout.specs.Laid.{told_token}
use Rattle.sw_parse_layout.specs.Blocks.{line_laid, line_blocks}
use Rattle.sw_parse_layout.specs.Pieces.{piece_step}

abbrev pub comment_line : Line → Before → ℕ → Line
comment_line line before end =
    record { opened = line.opened; before = before; brackets = []; sort = sorts.Other; end = end; comments = [] }

abbrev pub comment_signs : ℕ → List Token
comment_signs at =
    record { kind = kinds.CommentTemplate; from = at; to = at + 2; spaced = true }
    ∷ told_token kinds.CommentLine (at + 2) (at + 2) ∷ []

abbrev pub comment_begun : List ℕ → State → ℕ → Found
comment_begun bs s at = record {
  laid = record {
    tokens = (line_laid bs s.blocks s.line.end s.at at).tokens ++ comment_signs at;
    refused = (line_laid bs s.blocks s.line.end s.at at).refused;
  };
  state = record {
    at = run_end classes.Blank bs (at + 2);
    mode = modes.Comment (record { depth = at - s.at; stop = comment_end bs (reaches.Lines (at - s.at)) at });
    line = comment_line s.line befores.Other (at + 2);
    blocks = line_blocks bs s.blocks s.line.end s.at at false;
  };
}

-- a further line of the comment, which begins at `start`
abbrev pub next_line : State → ℕ → ℕ → Found
next_line s start at = record {
  laid = record { tokens = told_token kinds.CommentLine start start ∷ []; refused = None };
  state = record { at = at; mode = s.mode; line = comment_line s.line befores.Other start; blocks = s.blocks };
}

-- at its `*/`
abbrev pub comment_closed : State → Extent → Found
comment_closed s extent = record {
  laid = record { tokens = told_token kinds.CommentEnd s.at (s.at + 2) ∷ []; refused = None };
  state = record {
    at = s.at + 2;
    mode = modes.Behind extent;
    line = comment_line s.line befores.White (s.at + 2);
    blocks = s.blocks;
  };
}

-- at the end of its last line, without a `*/`
abbrev pub comment_over : State → Found
comment_over s = record {
  laid = record { tokens = told_token kinds.CommentEnd s.line.end s.line.end ∷ []; refused = None };
  state = record {
    at = s.at + 1;
    mode = modes.Between;
    line = comment_line s.line befores.White s.line.end;
    blocks = s.blocks;
  };
}

-- without the blanks at the end, of which there are n at most
abbrev pub trimmed_from : ℕ → List ℕ → ℕ → ℕ
trimmed_from zero bs to = to
trimmed_from (suc n) bs to = if is_blank (byte bs (to - 1)) then trimmed_from n bs (to - 1) else to

unfoldable pub trimmed : List ℕ → ℕ → ℕ → ℕ
trimmed bs from to = trimmed_from (to - from) bs to

abbrev pub text_token : ℕ → ℕ → List Token
text_token from to = if nat_lt from to then told_token kinds.Piece from to ∷ [] else []

-- its text up to `to`, of which `end` is the end without blanks
abbrev pub text_found : State → ℕ → ℕ → Found
text_found s end to = record {
  laid = record { tokens = text_token s.at end; refused = None };
  state = record {
    at = to;
    mode = s.mode;
    line = comment_line s.line befores.Other (if nat_lt s.at end then end else s.line.end);
    blocks = s.blocks;
  };
}

abbrev pub text_end : List ℕ → ℕ → ℕ → ℕ
text_end bs from to = if ends_line (byte bs to) then trimmed bs from to else to

-- its text up to a `*/`, a `#{` or the end of its line
abbrev pub text_up_to : List ℕ → State → ℕ → Found
text_up_to bs s to = text_found s (text_end bs s.at to) to

unfoldable pub comment_step : List ℕ → State → Extent → Result Found ℕ
comment_step bs s extent =
    if ends_loud bs s.at then Ok (comment_closed s extent)
    else (if opens_at bs s.at then piece_step bs s
    else (if not (is_break (byte bs s.at))
    then Ok (text_up_to bs s (run_end classes.CommentLine bs s.at))
    else (if nat_lt s.at extent.stop
    then Ok (next_line s (white_end bs s.at) (run_end classes.Blank bs (white_end bs s.at)))
    else Ok (comment_over s))))
