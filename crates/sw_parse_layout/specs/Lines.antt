-- The lines of an indented text, and how far a comment reaches over them.
use Rattle.std.specs.Prelude.{ℕ, zero, suc, ◌+◌, ◌-◌, List, length, Option, Some, None, Bool, true, false, not, ◌&&◌, ◌||◌, ◌==◌, nat_lt, if◌then◌else◌}
use Rattle.sw_text_scan.specs.declared.signs.TheConstants.{END, TAB, SPACE}
use Rattle.sw_text_scan.specs.Bytes.{byte, is_break, ends_loud}
use Rattle.sw_parse_layout.specs.declared.lines.Margin.{Margin}
use Rattle.sw_parse_layout.specs.declared.lines.Reach.{Reach}
use Rattle.sw_parse_layout.specs.declared.lines.Reach.TheVariants as reaches
use Rattle.sw_parse_layout.specs.declared.lines.Over.{Over}
use Rattle.sw_parse_layout.specs.declared.lines.Over.TheVariants as overs

abbrev pub is_blank : ℕ → Bool
is_blank b = (b == SPACE) || (b == TAB)

-- a line ends here, or the text
abbrev pub ends_line : ℕ → Bool
ends_line b = is_break b || (b == END)

-- the next line that isn't blank, from a place in white space on, where `start` is the start of its line
abbrev pub margin_from : List ℕ → ℕ → ℕ → ℕ → Margin
margin_from bs zero start i = record { start = start; text = i }
margin_from bs (suc n) start i =
    if is_break (byte bs i) then margin_from bs n (i + 1) (i + 1)
    else (if is_blank (byte bs i) then margin_from bs n start (i + 1)
    else record { start = start; text = i })

-- the next line that isn't blank behind the end of a line
unfoldable pub next_margin : List ℕ → ℕ → Margin
next_margin bs i = margin_from bs (length bs) i i

abbrev pub deeper_in : List ℕ → ℕ → Margin → Option ℕ
deeper_in bs depth next =
    if not (byte bs next.text == END) && nat_lt depth (next.text - next.start) then Some next.text else None

-- where the text of the next line that isn't blank begins, if that line is deeper
unfoldable pub deeper : List ℕ → ℕ → ℕ → Option ℕ
deeper bs depth i = deeper_in bs depth (next_margin bs i)

abbrev pub ends_at_sign : Reach → Bool
ends_at_sign (reaches.Lines depth) = false
ends_at_sign (reaches.Sign depth) = true
ends_at_sign reaches.Joined = true

abbrev pub onto : Option ℕ → ℕ → Over
onto None i = overs.Stops i
onto (Some j) i = overs.Goes j

-- over the end of a line
abbrev pub over_line : List ℕ → Reach → ℕ → Over
over_line bs (reaches.Lines depth) i = onto (deeper bs depth i) i
over_line bs (reaches.Sign depth) i = onto (deeper bs depth i) i
over_line bs reaches.Joined i = overs.Goes (i + 1)

-- one character of a comment, or where it ends
unfoldable pub look_over : List ℕ → Reach → ℕ → Over
look_over bs reach i =
    if ends_at_sign reach && ends_loud bs i then overs.Stops (i + 2)
    else (if byte bs i == END then overs.Stops i
    else (if is_break (byte bs i) then over_line bs reach i
    else overs.Goes (i + 1)))

abbrev pub comment_with : (ℕ → ℕ) → Over → ℕ
comment_with on (overs.Stops j) = j
comment_with on (overs.Goes j) = on j

abbrev pub comment_from : List ℕ → Reach → ℕ → ℕ → ℕ
comment_from bs reach zero i = i
comment_from bs reach (suc n) i = comment_with (comment_from bs reach n) (look_over bs reach i)

-- behind a comment, from a place in it on
unfoldable pub comment_end : List ℕ → Reach → ℕ → ℕ
comment_end bs reach i = comment_from bs reach (suc (length bs)) i
