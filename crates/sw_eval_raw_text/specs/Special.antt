-- Special text, and `min` and `max` in it (the Sass specification on calculations; when they are computed is this project's
-- own).
use Rattle.std.specs.Prelude.{ℕ, ◌+◌, Bool, true, false, not, ◌&&◌, ◌||◌, ◌==◌, bytes_eq, codes, if◌then◌else◌, List, [], ◌∷◌, ◌++◌, length, slice_get, Option, Some, None, Ok, Err}
use Rattle.sw_text.specs.declared.fault.FaultCode.{FaultCode}
use Rattle.sw_text.specs.declared.fault.FaultCode.TheVariants as C
use Rattle.sw_text.specs.declared.place.Span.{Span}
use Rattle.sw_tree.specs.declared.callable.Kind.TheVariants as K
use Rattle.sw_tree.specs.declared.expr.Expr.{Expr}
use Rattle.sw_tree.specs.declared.expr.ExprKind.{out-ExprKind}
use Rattle.sw_tree.specs.declared.expr.ExprKind.TheOpen.{ExprKind-F, Parts-F, Piece-F}
use Rattle.sw_tree.specs.declared.text.Parts.{out-Parts}
use Rattle.sw_tree.specs.declared.text.Piece.{Piece, out-Piece}
use Rattle.sw_values.specs.declared.plain.Plain.{Plain}
use Rattle.sw_text_scan.specs.Bytes.{sign, byte}
use Rattle.sw_scope.specs.declared.passed.Passed.{Passed}
use Rattle.sw_builtins.specs.declared.built_in.BuiltIn.{BuiltIn}
use Rattle.sw_builtins.specs.declared.built_in.Found.{Found}
use Rattle.sw_builtins.specs.declared.built_in.Found.TheVariants as F
use Rattle.sw_builtins.specs.Tables.{found}
use Rattle.sw_eval_literals.specs.Answers.{Answer, with}
use Rattle.sw_eval_literals.specs.Literals.{number_value, string_value}
use Rattle.sw_eval_literals.specs.Texts.{css_text, joined}
use Rattle.sw_eval_built_in_calls.specs.BuiltIns.{built_in_value}
use Rattle.sw_eval_raw_text.specs.Imports.{is_text}
use Rattle.sw_eval_calls.specs.Layers.{Kinds, Pieces, Texts}
use Rattle.sw_eval_raw_text.specs.Numerals.{numeral}
use Rattle.sw_eval_raw_text.specs.Spacing.{start, spaced, spaced_texts}
use Rattle.sw_eval_literals.specs.Trimming.{trimmed}

-- ---- what is written

-- a text without values in it is an unquoted string, but for its white space
abbrev pub plain_special : List ℕ → Span → Answer Plain
plain_special text span = string_value (spaced true start text) false span

-- the same of pieces that have these texts
unfoldable pub special_value : List Piece → List (List ℕ) → Span → Answer Plain
special_value ps texts span =
    with (joined (spaced_texts start ps texts) span) (λ text. string_value text false span)

-- ---- which calls are computed

-- without the white space around it
abbrev pub bare : List ℕ → List ℕ
bare text = trimmed text 0 (length text)

-- the closing bracket, which a comma may stand before
abbrev pub closes : List ℕ → Bool
closes text =
    bytes_eq text (codes ")") || ((byte text 0 == sign ",") && bytes_eq (trimmed text 1 (length text)) (codes ")"))

-- what follows a value: a comma, or at the end the closing bracket
abbrev pub goes_on : Bool → List ℕ → Bool
goes_on true text = closes (bare text)
goes_on false text = bytes_eq (bare text) (codes ",")

-- a text may stand there, behind a value or not
abbrev pub fits_text : Bool → Bool → List ℕ → Bool
fits_text is_behind is_last text = is_behind && goes_on is_last text

abbrev pub fits_value : Bool → Bool → Bool
fits_value is_behind is_last = not is_behind && not is_last

abbrev pub fits_by : Bool → Bool → Pieces → Bool
fits_by is_behind is_last (Piece-F.Text text) = fits_text is_behind is_last text
fits_by is_behind is_last (Piece-F.Inserted e) = false
fits_by is_behind is_last (Piece-F.Value e) = fits_value is_behind is_last

-- a piece is a value, or the text that stands behind one
unfoldable pub fits : Bool → Bool → Piece → Bool
fits is_behind is_last p = fits_by is_behind is_last (out-Piece p)

-- values alone, with a comma between two, up to the closing bracket
abbrev pub lists_values : Bool → List Piece → Bool
lists_values is_behind [] = false
lists_values is_behind (p ∷ []) = fits is_behind true p
lists_values is_behind (p ∷ q ∷ ps) = fits is_behind false p && lists_values (not is_behind) (q ∷ ps)

abbrev pub known : Found → Option BuiltIn
known (F.Known f) = Some f
known F.LeftOut = None
known F.NoSuch = None

-- the function whose call is `name(`
abbrev pub function_of : List ℕ → Option BuiltIn
function_of text =
    if bytes_eq (bare text) (codes "min(") then known (found None K.Function (codes "min"))
    else if bytes_eq (bare text) (codes "max(") then known (found None K.Function (codes "max"))
    else None

abbrev pub function_by : Pieces → Option BuiltIn
function_by (Piece-F.Text text) = function_of text
function_by (Piece-F.Inserted e) = None
function_by (Piece-F.Value e) = None

unfoldable pub function_in : Piece → Option BuiltIn
function_in p = function_by (out-Piece p)

-- `min` or `max`, where each of its arguments is a value alone
abbrev pub extremum : List Piece → Option BuiltIn
extremum [] = None
extremum (p ∷ ps) = if lists_values false ps then function_in p else None

-- ---- what is written of them

abbrev pub value_text : Expr → Option Plain → Answer (List ℕ)
value_text e None = Ok []
value_text e (Some v) = css_text true v e.span

abbrev pub text_by : Pieces → Option Plain → Answer (List ℕ)
text_by (Piece-F.Text text) v = Ok text
text_by (Piece-F.Inserted e) v = value_text e v
text_by (Piece-F.Value e) v = value_text e v

-- the text of a piece, where its value is this one
unfoldable pub piece_text : Piece → Option Plain → Answer (List ℕ)
piece_text p v = text_by (out-Piece p) v

-- how many values were had behind a piece
abbrev pub had : Piece → ℕ → ℕ
had p next = if is_text p then next else next + 1

-- the texts of pieces behind those that are done, where the values from one on have these
abbrev pub written_pieces : List (List ℕ) → List Piece → List Plain → ℕ → Answer (List (List ℕ))
written_pieces done [] vs next = Ok done
written_pieces done (p ∷ ps) vs next =
    with (piece_text p (slice_get vs next)) (λ text. written_pieces (done ++ text ∷ []) ps vs (had p next))

abbrev pub written_out : List Piece → List Plain → Span → Answer Plain
written_out ps vs span = with (written_pieces [] ps vs 0) (λ texts. special_value ps texts span)

-- ---- what is computed

-- a number of the sheet stands there as its text
abbrev pub number_in : Texts → Plain → Span → Answer Plain
number_in (Parts-F.Plain text) v span = number_value (numeral text) span
number_in (Parts-F.Mixed ps) v span = Ok v

abbrev pub compared_by : Kinds → Plain → Span → Answer Plain
compared_by (ExprKind-F.Special parts) v span = number_in (out-Parts parts) v span
compared_by _ v span = Ok v

-- what is compared where an argument has this value
unfoldable pub compared : Expr → Plain → Answer Plain
compared e v = compared_by (out-ExprKind e.kind) v e.span

abbrev pub behind_value : List Plain → Expr → Option Plain → Answer (List Plain)
behind_value done e None = Ok done
behind_value done e (Some v) = with (compared e v) (λ c. Ok (done ++ c ∷ []))

abbrev pub behind_by : List Plain → Pieces → Option Plain → Answer (List Plain)
behind_by done (Piece-F.Text text) v = Ok done
behind_by done (Piece-F.Inserted e) v = Ok done
behind_by done (Piece-F.Value e) v = behind_value done e v

-- what is compared of a piece, behind others
unfoldable pub behind_piece : List Plain → Piece → Option Plain → Answer (List Plain)
behind_piece done p v = behind_by done (out-Piece p) v

-- what is compared of pieces, behind what is done, where these are the values from one on
abbrev pub all_compared : List Plain → List Piece → List Plain → ℕ → Answer (List Plain)
all_compared done [] vs next = Ok done
all_compared done (p ∷ ps) vs next =
    with (behind_piece done p (slice_get vs next)) (λ more. all_compared more ps vs (had p next))

abbrev pub passed_of : List Plain → Passed
passed_of vs = record { items = vs; named = []; by_name = false; faulty = false }

-- what the function gives
abbrev pub computed : BuiltIn → List Piece → List Plain → Span → Answer Plain
computed f ps vs span = with (all_compared [] ps vs 0) (λ cs. built_in_value f (passed_of cs) span)

-- some value is no number, or one that doesn't compare with the others
abbrev pub is_incomparable : FaultCode → Bool
is_incomparable C.TypeFault = true
is_incomparable C.UnitFault = true
is_incomparable C.NumberRange = true
is_incomparable _ = false

abbrev pub or_written : Answer Plain → List Piece → List Plain → Span → Answer Plain
or_written (Ok v) ps vs span = Ok v
or_written (Err fault) ps vs span = if is_incomparable fault.code then written_out ps vs span else Err fault

-- what the function gives of these values; where one of them is no number that compares, its call is written out
unfoldable pub extremum_value : BuiltIn → List Piece → List Plain → Span → Answer Plain
extremum_value f ps vs span = or_written (computed f ps vs span) ps vs span
