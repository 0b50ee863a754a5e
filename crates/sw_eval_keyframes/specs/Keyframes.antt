-- The selectors of keyframes (the Sass specification on `@keyframes`).
use Rattle.std.specs.Prelude.{ℕ, zero, suc, ◌+◌, ◌-◌, Bool, not, ◌&&◌, ◌||◌, ◌==◌, nat_le, bytes_eq, codes, if◌then◌else◌, List, [], ◌∷◌, ◌++◌, length, Option, Some, None, Ok}
use Rattle.sw_text.specs.declared.fault.FaultCode.TheVariants as C
use Rattle.sw_text.specs.declared.place.Span.{Span}
use Rattle.sw_text_scan.specs.Bytes.{sign, byte}
use Rattle.sw_text_scan.specs.Words.{begins_number, unit_start}
use Rattle.sw_scope.specs.Bind.{is_empty}
use Rattle.sw_eval_literals.specs.Answers.{Answer, refused}
use Rattle.sw_eval_literals.specs.Texts.{all_pieces}
use Rattle.sw_eval_calls.specs.CssCalls.{comma_behind}
use Rattle.sw_eval_literals.specs.Trimming.{trimmed}

abbrev pub is_comma : List ℕ → ℕ → Bool
is_comma bs at = byte bs at == sign ","

-- the next comma from a place on, among so many, or the end
abbrev pub comma_in : ℕ → List ℕ → ℕ → ℕ
comma_in zero bs at = length bs
comma_in (suc left) bs at = if is_comma bs at then at else comma_in left bs (at + 1)

abbrev pub next_comma : List ℕ → ℕ → ℕ
next_comma bs from = comma_in (length bs - from) bs from

abbrev pub pieces_in : ℕ → List ℕ → ℕ → List (List ℕ)
pieces_in zero bs from = []
pieces_in (suc steps) bs from =
    trimmed bs from (next_comma bs from)
    ∷ (if nat_le (length bs) (next_comma bs from) then [] else pieces_in steps bs (next_comma bs from + 1))

-- what stands between commas
abbrev pub pieces_of : List ℕ → List (List ℕ)
pieces_of bs = pieces_in (length bs + 1) bs 0

-- a number with `%`
abbrev pub is_percent : List ℕ → Bool
is_percent bs =
    not (is_empty bs)
    && (begins_number bs 0 && ((byte bs (unit_start bs 0) == sign "%") && (unit_start bs 0 + 1 == length bs)))

abbrev pub is_frame : List ℕ → Bool
is_frame text = bytes_eq text (codes "from") || bytes_eq text (codes "to") || is_percent text

-- what is no selector may not stand behind these: it may be empty behind the first one
abbrev pub is_stray : List (List ℕ) → List ℕ → Bool
is_stray done text = not (is_empty text) || is_empty done

-- the selectors among these pieces, behind those that are done, where nothing else stands there
abbrev pub frames_in : List (List ℕ) → List (List ℕ) → Option (List (List ℕ))
frames_in done [] = Some done
frames_in done (text ∷ texts) =
    if is_frame text then frames_in (done ++ text ∷ []) texts
    else if is_stray done text then None else frames_in done texts

abbrev pub frames_of : List (List ℕ) → Option (List (List ℕ))
frames_of = frames_in []

-- behind those that are done, with a comma between two
abbrev pub with_commas : List (List ℕ) → List (List ℕ) → List (List ℕ)
with_commas done [] = done
with_commas done (frame ∷ frames) = with_commas ((done ++ comma_behind done) ++ frame ∷ []) frames

abbrev pub text_by : Option (List (List ℕ)) → Span → Answer (List ℕ)
text_by None span = refused C.BadSelector span
text_by (Some frames) span = Ok (all_pieces (with_commas [] frames))

-- the selectors of a rule in keyframes as they are written, whose text stands here
unfoldable pub keyframe_text : List ℕ → Span → Answer (List ℕ)
keyframe_text text span = text_by (frames_of (pieces_of text)) span
