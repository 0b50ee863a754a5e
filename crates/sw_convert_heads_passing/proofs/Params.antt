-- Parameters are told.
use Rattle.std.proofs.Common.{◌≡◌, ℕ, ◌+◌, Bool, true, false, ◌&&◌, List, [], ◌∷◌, refl, ◌∙◌, ap}
use Rattle.sw_parse_terminals.specs.declared.terminal.Terminal.{Terminal}
use Rattle.sw_parse_terminals.specs.declared.terminal.Terminal.TheVariants as terminals
use Rattle.sw_parse_lexemes.specs.declared.sort.Sort.{Sort}
use Rattle.sw_parse_lexemes.specs.declared.sort.Sort.TheVariants as sorts
use Rattle.sw_parse_lexemes.specs.declared.plain.Plain.{Plain}
use Rattle.sw_parse_lexemes.specs.declared.state.Mode.TheVariants as modes
use Rattle.sw_parse_lexemes.specs.declared.state.Frame.{Frame}
use Rattle.sw_parse_lexemes.specs.declared.state.State.{State}
use Rattle.sw_parse_lexemes.specs.Classes.{is_name}
use Rattle.sw_parse_lexemes.specs.Ahead.{sort_at}
use Rattle.sw_parse_lexemes.specs.Names.{is}
use Rattle.sw_parse_lexemes.specs.Signs.{ends_operand, is_text, is_params, comma_terminal}
use Rattle.sw_parse_lexemes.specs.Steps.{further_mode, stepped, after}
use Rattle.sw_convert_passing.specs.Written.{Written, direct, Stand, Within}
use Rattle.sw_convert_passing.specs.Places.{may_precede, Ready, Told, IsClosed}
use Rattle.sw_convert_passing.specs.Values.{variable, dollar}
use Rattle.sw_convert_passing.proofs.Facts.{no_and, and_no}
use Rattle.sw_convert_passing.proofs.Steps.{join, step, stay_at, next}
use Rattle.sw_convert_passing.proofs.BySort.{by_comma, lone_here}
use Rattle.sw_convert_passing.proofs.Entries.{split, closed_stops, reads, one_of}
use Rattle.sw_convert_passing.proofs.Told.{values_are_told}
use Rattle.sw_convert_heads_passing.specs.Members.{Param, plain_param, default_param, ParamRow, last_param, rest_param, more_params, Params, no_params, some_params}
use Rattle.sw_convert_heads_passing.proofs.Moves.{told_by, InParens}

-- a value, or the name of a parameter, may begin
record Begins (state : State) : Type 0 where
  before : may_precede state.before ≡ true
  operand : ends_operand state.before ≡ false
  word : state.word ≡ false
  rest : (is state.before terminals.Comma && is state.before_that terminals.Ellipsis) ≡ false

ready : {state : State} (spaced signed : Bool) → Begins state → Ready state spaced signed
ready {state} spaced signed b = record {
  before = b.before;
  word = no_and state.word _ b.word;
  operand = no_and (ends_operand state.before) _ b.operand;
  rest = and_no (is_params state.mode) _ b.rest;
}

-- behind the comma behind a parameter
comma_after : (state : State)
    → after state terminals.Comma ≡ stepped state (further_mode state.mode terminals.Comma) false terminals.Comma
unfolding after
comma_after state = refl

no_ellipsis : (terminal : Terminal) → ends_operand terminal ≡ true → is terminal terminals.Ellipsis ≡ false
no_ellipsis terminals.Ellipsis o = absurd (cc)
no_ellipsis _ o = refl

behind_comma : (state : State) → ends_operand state.before ≡ true → Begins (after state terminals.Comma)
behind_comma state o =
    let e = comma_after state in record {
      before = ap (λ (s : State). may_precede s.before) e;
      operand = ap (λ (s : State). ends_operand s.before) e;
      word = ap (λ (s : State). s.word) e;
      rest = and_no (is (after state terminals.Comma).before terminals.Comma) _
          (ap (λ (s : State). is s.before_that terminals.Ellipsis) e ∙ no_ellipsis state.before o);
    }

behind_sign : {state : State} (before : Terminal) → state.before ≡ before → may_precede before ≡ true
    → ends_operand before ≡ false → is before terminals.Comma ≡ false → state.word ≡ false → Begins state
behind_sign {state} before e m o c word = record {
  before = ap may_precede e ∙ m;
  operand = ap ends_operand e ∙ o;
  word = word;
  rest = no_and (is state.before terminals.Comma) _ (ap (λ (t : Terminal). is t terminals.Comma) e ∙ c);
}

-- a parameter is told, and ends as a value does
abbrev Ended : List Plain → List Frame → State → ℕ → List Written → ℕ → Type 0
Ended plains frames state at tokens to =
    (told : Told plains modes.Params frames state at tokens to) × (ends_operand told.end.before ≡ true)

name_told : (spaced : Bool) (name : Sort) → is_name name ≡ true → (plains : List Plain) (frames : List Frame)
    (state : State) (at to : ℕ) → Within modes.Params frames state → Begins state
    → Stand plains at (dollar spaced ∷ direct name terminals.VariableName ∷ []) to → IsClosed plains to
    → Ended plains frames state at (dollar spaced ∷ direct name terminals.VariableName ∷ []) to
name_told spaced name n plains frames state at to within begins stand closed =
    values_are_told modes.Params spaced false (dollar spaced ∷ direct name terminals.VariableName ∷ [])
    (variable name n) plains frames state at to refl within (ready spaced false begins) stand closed

param_told : {spaced : Bool} {tokens : List Written} → Param spaced tokens → (plains : List Plain)
    (frames : List Frame)
    (state : State) (at to : ℕ) → Within modes.Params frames state → Begins state → Stand plains at tokens to
    → IsClosed plains to → Ended plains frames state at tokens to
param_told (plain_param {spaced} name n) plains frames state at to within begins stand closed =
    name_told spaced name n plains frames state at to within begins stand closed
param_told (default_param {spaced} {signed} {value} name n v) plains frames state at to within begins
    (first, (second, (third, stand))) closed =
    let colon = direct sorts.Colon terminals.Colon in
    let (t1, operand) = name_told spaced name n plains frames state at ((at + 1) + 1) within begins
    (first, (second, refl)) (closed_stops plains ((at + 1) + 1) sorts.Colon refl third.sort) in
    let is_colon = lone_here t1.end plains ((at + 1) + 1) (ap is_text t1.within.mode_is) sorts.Colon refl third.sort in
    let m = next t1.end t1.within refl terminals.Colon refl refl in
    let s1 = after t1.end terminals.Colon in
    let (t2, more) = values_are_told modes.Params true signed value v plains frames s1 (((at + 1) + 1) + 1) to refl
    m.within (ready true signed (behind_sign terminals.Colon m.before refl refl refl m.word)) stand closed in (
      told_by t2.end
          (join (reads t1)
          (join (step plains t1.end ((at + 1) + 1) colon terminals.Colon t1.within third refl is_colon one_of) (reads t2)))
          t2.within,
      more,
    )

row_told : {spaced : Bool} {tokens : List Written} → ParamRow spaced tokens → (plains : List Plain)
    (frames : List Frame)
    (state : State) (at to : ℕ) → Within modes.Params frames state → Begins state → Stand plains at tokens to
    → sort_at plains to ≡ sorts.CloseParen → Told plains modes.Params frames state at tokens to
row_told (last_param param) plains frames state at to within begins stand e =
    let (t, operand) = param_told param plains frames state at to within begins stand
    (closed_stops plains to sorts.CloseParen refl e) in t
row_told (rest_param {spaced} name n) plains frames state at to within begins (first, (second, (third, stand))) e =
    let dots = direct sorts.Ellipsis terminals.Ellipsis in
    let (t1, operand) = name_told spaced name n plains frames state at ((at + 1) + 1) within begins
    (first, (second, refl)) (closed_stops plains ((at + 1) + 1) sorts.Ellipsis refl third.sort) in
    let is_dots = lone_here t1.end plains ((at + 1) + 1) (ap is_text t1.within.mode_is) sorts.Ellipsis refl third.sort in
    let m = next t1.end t1.within refl terminals.Ellipsis refl refl in
    told_by (after t1.end terminals.Ellipsis)
    (join (reads t1)
    (join (step plains t1.end ((at + 1) + 1) dots terminals.Ellipsis t1.within third refl is_dots one_of) (stay_at stand)))
    m.within
row_told (more_params {spaced} {param} {rest} first more) plains frames state at to within begins stand e =
    let comma = direct sorts.Comma terminals.Comma in
    let (place, stands, (there, others)) = split plains to param (comma ∷ rest) at stand in
    let (t1, operand) = param_told first plains frames state at place within begins stands
    (closed_stops plains place sorts.Comma refl there.sort) in
    let is_comma = by_comma t1.end plains place there.sort ∙ ap comma_terminal t1.within.mode_is in
    let m = next t1.end t1.within refl terminals.Comma refl refl in
    let s1 = after t1.end terminals.Comma in
    let t2 = row_told more plains frames s1 (place + 1) to m.within (behind_comma t1.end operand) others e in
    told_by t2.end
    (join (reads t1) (join (step plains t1.end place comma terminals.Comma t1.within there refl is_comma one_of) (reads t2)))
    t2.within

pub params_told : {tokens : List Written} → Params tokens → InParens modes.Params terminals.HeadParen tokens
params_told no_params plains frames state at to within before word stand e = told_by state (stay_at stand) within
params_told (some_params row) plains frames state at to within before word stand e =
    row_told row plains frames state at to within (behind_sign terminals.HeadParen before refl refl refl word) stand e
