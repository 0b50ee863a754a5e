-- The blocks that a line opens and closes.
use Rattle.std.specs.Prelude.{ℕ, zero, suc, ◌-◌, List, [], ◌∷◌, ◌++◌, length, take, slice_get, Option, Some, None, Bool, false, not, ◌==◌, nat_lt, if◌then◌else◌, unwrap_or, ◌||◌}
use Rattle.sw_text_scan.specs.declared.signs.TheConstants.{TAB}
use Rattle.sw_text_scan.specs.Bytes.{byte}
use Rattle.sw_text_scan.specs.Runs.{run_end}
use Rattle.sw_text_scan.specs.declared.runs.Class.{Class}
use Rattle.sw_text_scan.specs.declared.runs.Class.TheVariants as classes
use Rattle.sw_tokens.specs.declared.token.Token.{Token}
use Rattle.sw_tokens.specs.declared.token.TokenKind.TheVariants as kinds
use Rattle.sw_parse_layout.specs.declared.laid.Laid.{Laid}
use Rattle.sw_parse_layout.specs.declared.blocks.Indent.{Indent}
use Rattle.sw_parse_layout.specs.declared.blocks.Blocks.{Blocks}
use Rattle.sw_parse_layout.specs.declared.blocks.Shut.{Shut}
use Rattle.sw_parse_layout.specs.declared.blocks.Entry.{Entry}
use Rattle.sw_parse_layout.specs.declared.blocks.Indent.TheVariants as indents
use Rattle.sw_parse_layout.specs.Laid.{sign_at, refused_at, behind}

-- the depth of the innermost block
unfoldable pub top_depth : List ℕ → ℕ
top_depth depths = unwrap_or (slice_get depths (length depths - 1)) 0

abbrev pub behind_brace : ℕ → Shut → Shut
behind_brace end s = record { tokens = sign_at kinds.CloseBrace end ∷ s.tokens; depths = s.depths }

-- the blocks that are deeper are closed, the innermost first: n at most
abbrev pub shut_from : ℕ → ℕ → ℕ → List ℕ → Shut
shut_from zero end depth depths = record { tokens = []; depths = depths }
shut_from (suc n) end depth depths =
    if nat_lt depth (top_depth depths) then behind_brace end (shut_from n end depth (take (length depths - 1) depths))
    else record { tokens = []; depths = depths }

unfoldable pub shut_blocks : ℕ → ℕ → List ℕ → Shut
shut_blocks end depth depths = shut_from (length depths) end depth depths

abbrev pub due_sign : Bool → ℕ → List Token
due_sign due end = if due then sign_at kinds.Semicolon end ∷ [] else []

-- the indentation of a sheet, as its first indented line tells it
abbrev pub indent_at : Option Indent → ℕ → Indent
indent_at (Some indent) b = indent
indent_at None b = if b == TAB then indents.Tabs else indents.Spaces

abbrev pub class_of : Indent → Class
class_of indents.Tabs = classes.Tab
class_of indents.Spaces = classes.Space

-- the blanks from `start` to `at` aren't all those of the sheet's indentation
unfoldable pub is_mixed : List ℕ → Option Indent → ℕ → ℕ → Bool
is_mixed bs indent start at = nat_lt (run_end (class_of (indent_at indent (byte bs start))) bs start) at

unfoldable pub indent_after : List ℕ → Option Indent → ℕ → ℕ → Option Indent
indent_after bs indent start at = if start == at then indent else Some (indent_at indent (byte bs start))

-- a line of some depth, whose text begins at `at`, behind one of the depth `top_depth depths` whose last token ends at
-- `end`
unfoldable pub entered : Blocks → ℕ → ℕ → ℕ → Entry
entered blocks end depth at =
    if blocks.first then record { tokens = []; depths = blocks.depths; wrong = nat_lt 0 depth }
    else (if nat_lt (top_depth blocks.depths) depth then record {
      tokens = sign_at kinds.OpenBrace at ∷ [];
      depths = blocks.depths ++ depth ∷ [];
      wrong = false;
    }
    else record {
      tokens = due_sign blocks.due end ++ (shut_blocks end depth blocks.depths).tokens;
      depths = (shut_blocks end depth blocks.depths).depths;
      wrong = not (top_depth (shut_blocks end depth blocks.depths).depths == depth);
    })

-- the tokens that a line which stands from `start` on, and whose text begins at `at`, brings before its own, and
-- whether its depth or its indentation is refused
unfoldable pub line_laid : List ℕ → Blocks → ℕ → ℕ → ℕ → Laid
line_laid bs blocks end start at = record {
  tokens = (entered blocks end (at - start) at).tokens;
  refused = refused_at ((entered blocks end (at - start) at).wrong || is_mixed bs blocks.indent start at) at;
}

-- the blocks that are open in that line; a `;` is due behind a statement, and none behind a comment
unfoldable pub line_blocks : List ℕ → Blocks → ℕ → ℕ → ℕ → Bool → Blocks
line_blocks bs blocks end start at due = record {
  depths = (entered blocks end (at - start) at).depths;
  indent = indent_after bs blocks.indent start at;
  first = false;
  due = due;
}
