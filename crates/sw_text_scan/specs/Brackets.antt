-- Texts whose strings and brackets are closed.
use Rattle.std.specs.Prelude.{◌≡◌, ℕ, zero, suc, ◌+◌, ◌-◌, List, [], ◌∷◌, ◌++◌, length, take, slice_get, Option, Some, None, Bool, ◌&&◌, ◌||◌, ◌==◌, nat_lt, if◌then◌else◌, unwrap_or}
use Rattle.sw_text_scan.specs.declared.brackets.Stops.{Stops}
use Rattle.sw_text_scan.specs.declared.brackets.Stops.TheVariants as stops
use Rattle.sw_text_scan.specs.declared.runs.Class.TheVariants as classes
use Rattle.sw_text_scan.specs.declared.brackets.TheConstants.{NO_BRACKET}
use Rattle.sw_text_scan.specs.declared.signs.TheConstants.{END}
use Rattle.sw_text_scan.specs.Bytes.{sign, byte, is_quote}
use Rattle.sw_text_scan.specs.Runs.{escape_end, run_end}

-- what ends such a text where it stands outside strings and brackets
abbrev pub stops_by : Stops → ℕ → Bool
stops_by stops.Argument b = (b == sign ")") || ((b == sign ";") || ((b == sign "{") || (b == sign "}")))
stops_by stops.Sum b = (b == sign ")") || ((b == sign ":") || ((b == sign "<") || ((b == sign "=") || (b == sign ">"))))

-- the bracket that closes this one, and none for what is no opening bracket
abbrev pub closing : ℕ → ℕ
closing b =
    if b == sign "(" then sign ")"
    else (if b == sign "[" then sign "]"
    else (if b == sign "{" then sign "}"
    else NO_BRACKET))

abbrev pub is_closing : ℕ → Bool
is_closing b = (b == sign ")") || ((b == sign "]") || (b == sign "}"))

-- the bracket that has to come next
abbrev pub innermost : List ℕ → ℕ
innermost closers = unwrap_or (slice_get closers (length closers - 1)) NO_BRACKET

-- behind one escape, or one byte
unfoldable pub over : List ℕ → ℕ → ℕ
over bs i = if nat_lt i (escape_end bs i) then escape_end bs i else i + 1

-- behind the string that begins with the quote q at i, where it is closed
unfoldable pub string_end : List ℕ → ℕ → ℕ → Option ℕ
string_end bs q i =
    if byte bs (run_end (classes.Text q) bs (i + 1)) == q then Some (run_end (classes.Text q) bs (i + 1) + 1) else None

-- what is open at a place: the brackets that close it, the innermost last
pub record Scan : Type 0 where
  pub closers : List ℕ
  pub place : ℕ

abbrev pub at_place : List ℕ → ℕ → Scan
at_place closers i = record { closers = closers; place = i }

abbrev pub past_string : List ℕ → Option ℕ → Option Scan
past_string closers None = None
past_string closers (Some j) = Some (at_place closers j)

-- one step on
unfoldable pub scan_step : List ℕ → List ℕ → ℕ → Option Scan
scan_step bs closers i =
    if byte bs i == END then None
    else (if is_quote (byte bs i) then past_string closers (string_end bs (byte bs i) i)
    else (if nat_lt NO_BRACKET (closing (byte bs i)) then Some (at_place (closers ++ closing (byte bs i) ∷ []) (i + 1))
    else (if is_closing (byte bs i) then
    (if innermost closers == byte bs i then Some (at_place (take (length closers - 1) closers) (i + 1)) else None)
    else Some (at_place closers (over bs i)))))

abbrev pub stopped : Stops → List ℕ → List ℕ → ℕ → Bool
stopped to bs closers i = (length closers == 0) && stops_by to (byte bs i)

abbrev pub scan_by : (List ℕ → ℕ → Option ℕ) → Option Scan → Option ℕ
scan_by on None = None
scan_by on (Some scan) = on scan.closers scan.place

-- with n steps left
abbrev pub scan_from : Stops → List ℕ → ℕ → List ℕ → ℕ → Option ℕ
scan_from to bs zero closers i = None
scan_from to bs (suc n) closers i =
    if stopped to bs closers i then Some i else scan_by (scan_from to bs n) (scan_step bs closers i)

-- the first place from i on, outside strings and brackets, that ends the text; none where a string or a bracket isn't
-- closed before, or nothing ends it
unfoldable pub stop_at : Stops → List ℕ → ℕ → Option ℕ
stop_at to bs i = scan_from to bs (length bs + 1) [] i

-- the same where these brackets have to close before
abbrev pub stop_behind : Stops → List ℕ → List ℕ → ℕ → Option ℕ
stop_behind to bs closers i = scan_from to bs (length bs + 1) closers i

-- it is i where the text ends there, and else what a step leads to
abbrev pub StopsByStep : Stops → List ℕ → List ℕ → ℕ → Type 0
StopsByStep to bs closers i =
    stop_behind to bs closers i
    ≡ (if stopped to bs closers i then Some i else scan_by (stop_behind to bs) (scan_step bs closers i))
