-- Where values begin, and how what stands side by side is read one after the other.
use Rattle.std.proofs.Common.{◌≡◌, ℕ, ◌+◌, Bool, true, false, not, ◌&&◌, ◌||◌, List, [], ◌∷◌, ◌++◌, inl, refl, ◌∙◌, ap}
use Rattle.sw_parse_terminals.specs.declared.terminal.Terminal.{Terminal}
use Rattle.sw_parse_terminals.specs.declared.terminal.Terminal.TheVariants as terminals
use Rattle.sw_parse_lexemes.specs.declared.sort.Sort.{Sort}
use Rattle.sw_parse_lexemes.specs.declared.sort.Sort.TheVariants as sorts
use Rattle.sw_parse_lexemes.specs.declared.plain.Plain.{Plain}
use Rattle.sw_parse_lexemes.specs.declared.state.Mode.{Mode}
use Rattle.sw_parse_lexemes.specs.declared.state.Frame.{Frame}
use Rattle.sw_parse_lexemes.specs.declared.state.State.{State}
use Rattle.sw_parse_lexemes.specs.Classes.{same, is_comment}
use Rattle.sw_parse_lexemes.specs.Ahead.{sort_at, spaced_at, is_direct}
use Rattle.sw_parse_lexemes.specs.Names.{is}
use Rattle.sw_parse_lexemes.specs.Signs.{ends_operand, is_params}
use Rattle.sw_parse_lexemes.specs.Terminals.{terminal_of}
use Rattle.sw_parse_lexemes.specs.Steps.{begins_statement, passes, after}
use Rattle.sw_convert_passing.specs.Written.{Written, IsThere, Among, Stand, Within}
use Rattle.sw_convert_passing.specs.Places.{is_value, may_precede, Ready, stops, IsClosed, Told}
use Rattle.sw_convert_passing.proofs.Facts.{no_and, and_no, value_mode, operand_precedes, operand_no_comma, Quiet, quiet}
use Rattle.sw_convert_passing.proofs.Steps.{Reads, join, step, stay_at, next}

-- tokens in two parts
pub split : (plains : List Plain) (to : ℕ) (left right : List Written) (at : ℕ) → Stand plains at (left ++ right) to
    → (place : ℕ) × Stand plains at left place × Stand plains place right to
split plains to [] right at s = (at, refl, s)
split plains to (one ∷ left) right at (there, s) =
    let (place, a, b) = split plains to left right (at + 1) s in (place, (there, a), b)

-- white space stands before the first token, or not
abbrev pub Begins : Bool → List Written → Type 0
Begins spaced [] = ⊥
Begins spaced (one ∷ rest) = one.spaced ≡ spaced

pub begins_more : (spaced : Bool) (left right : List Written) → Begins spaced left → Begins spaced (left ++ right)
begins_more spaced [] right b = absurd b
begins_more spaced (one ∷ left) right b = b

pub begins_there : (plains : List Plain) (at to : ℕ) (spaced : Bool) (tokens : List Written) → Begins spaced tokens
    → Stand plains at tokens to → spaced_at plains at ≡ spaced
begins_there plains at to spaced [] b s = absurd b
begins_there plains at to spaced (one ∷ rest) b s = s.0.spaced ∙ b

-- a value may begin: with white space before it or not, and with a sign or not
pub record Entry (mode : Mode) (frames : List Frame) (state : State) (spaced signed : Bool) : Type 0 where
  pub value : is_value mode ≡ true
  pub within : Within mode frames state
  pub ready : Ready state spaced signed

-- behind an opening bracket, an operator or another sign that no value ends with
pub record Led (state : State) : Type 0 where
  pub before : may_precede state.before ≡ true
  pub operand : ends_operand state.before ≡ false
  pub comma : is state.before terminals.Comma ≡ false
  pub word : state.word ≡ false

pub led_entry : {mode : Mode} {frames : List Frame} {state : State} (spaced signed : Bool) → is_value mode ≡ true
    → Within mode frames state → Led state → Entry mode frames state spaced signed
led_entry {mode} {frames} {state} spaced signed value within led = record {
  value = value;
  within = within;
  ready = record {
    before = led.before;
    word = no_and state.word _ led.word;
    operand = no_and (ends_operand state.before) _ led.operand;
    rest = and_no (is_params state.mode) _ (no_and (is state.before terminals.Comma) _ led.comma);
  };
}

pub behind_entry : {mode : Mode} {frames : List Frame} {state : State} → is_value mode ≡ true → Within mode frames state
    → ends_operand state.before ≡ true → Entry mode frames state true false
behind_entry {mode} {frames} {state} value within operand = record {
  value = value;
  within = within;
  ready = record {
    before = operand_precedes state.before operand;
    word = and_no state.word _ refl;
    operand = and_no (ends_operand state.before) _ refl;
    rest = and_no (is_params state.mode) _
        (no_and (is state.before terminals.Comma) _ (operand_no_comma state.before operand));
  };
}

-- a terminal behind which a value may begin
pub record Leads (terminal : Terminal) : Type 0 where
  pub before : may_precede terminal ≡ true
  pub operand : ends_operand terminal ≡ false
  pub comma : is terminal terminals.Comma ≡ false

pub led : {state : State} (terminal : Terminal) → Leads terminal → state.before ≡ terminal → state.word ≡ false
    → Led state
led terminal l e w = record {
  before = ap may_precede e ∙ l.before;
  operand = ap ends_operand e ∙ l.operand;
  comma = ap (λ (t : Terminal). is t terminals.Comma) e ∙ l.comma;
  word = w;
}

-- what stands directly behind a place, of what could go on with a name
pub record Calm (plains : List Plain) (at : ℕ) : Type 0 where
  pub insert : is_direct plains at sorts.OpenInsert ≡ false
  pub dot : is_direct plains at sorts.Dot ≡ false
  pub paren : is_direct plains at sorts.OpenParen ≡ false

calm_by : (spaced : Bool) (sort : Sort) → (spaced || stops sort) ≡ true
    → ((not spaced && same sort sorts.OpenInsert) ≡ false) × ((not spaced && same sort sorts.Dot) ≡ false)
    × ((not spaced && same sort sorts.OpenParen) ≡ false)
calm_by true sort c = (refl, refl, refl)
calm_by false sort c = let q = quiet sort c in (q.insert, q.dot, q.paren)

pub calm : (plains : List Plain) (at : ℕ) → IsClosed plains at → Calm plains at
calm plains at closed =
    let (i, d, p) = calm_by (spaced_at plains at) (sort_at plains at) closed in record
    { insert = i; dot = d; paren = p }

pub calm_quiet : (plains : List Plain) (at : ℕ) → Quiet (sort_at plains at) → Calm plains at
calm_quiet plains at q = record {
  insert = and_no (not (spaced_at plains at)) _ q.insert;
  dot = and_no (not (spaced_at plains at)) _ q.dot;
  paren = and_no (not (spaced_at plains at)) _ q.paren;
}

pub closed_spaced : (plains : List Plain) (at : ℕ) → spaced_at plains at ≡ true → IsClosed plains at
closed_spaced plains at s = ap (λ (b : Bool). b || stops (sort_at plains at)) s

or_right : (a b : Bool) → b ≡ true → (a || b) ≡ true
or_right true b e = refl
or_right false b e = e

pub closed_stops : (plains : List Plain) (at : ℕ) (sort : Sort) → stops sort ≡ true → sort_at plains at ≡ sort
    → IsClosed plains at
closed_stops plains at sort stop e = or_right (spaced_at plains at) _ (ap stops e ∙ stop)

-- a value is told, and behind it stands its end
abbrev pub Result : List Plain → Mode → List Frame → State → ℕ → List Written → ℕ → Type 0
Result plains mode frames state at tokens to =
    (told : Told plains mode frames state at tokens to) × (ends_operand told.end.before ≡ true)

pub result : {plains : List Plain} {mode : Mode} {frames : List Frame} {state : State} {at to : ℕ}
    {tokens : List Written}
    (end : State) → Reads plains state at tokens end to → Within mode frames end → ends_operand end.before ≡ true
    → Result plains mode frames state at tokens to
result end (lexemes, passed) within operand =
    (record { lexemes = lexemes; end = end; passed = passed; within = within }, operand)

pub reads : {plains : List Plain} {mode : Mode} {frames : List Frame} {state : State} {at to : ℕ}
    {tokens : List Written}
    (told : Told plains mode frames state at tokens to) → Reads plains state at tokens told.end to
reads told = (told.lexemes, told.passed)

pub one_of : {terminal : Terminal} → Among terminal (terminal ∷ [])
one_of = inl refl

-- a terminal that goes on with no word and changes nothing but what stands before
pub record Plainly (terminal : Terminal) : Type 0 where
  pub goes : passes terminal ≡ true
  pub begins : begins_statement terminal ≡ false

-- one token that ends a value
pub last : {plains : List Plain} {mode : Mode} {frames : List Frame} {state : State} {at to : ℕ} (one : Written)
    (terminal : Terminal) → is_value mode ≡ true → Within mode frames state → IsThere plains at one → at + 1 ≡ to
    → is_comment one.sort ≡ false → terminal_of state plains at ≡ terminal → Among terminal one.may_be
    → Plainly terminal
    → ends_operand terminal ≡ true → Result plains mode frames state at (one ∷ []) to
last {plains} {mode} {frames} {state} {at} {to} one terminal value within there e code told among plainly operand =
    let n = next state within (value_mode mode value).steady terminal plainly.goes plainly.begins in
    result (after state terminal) (join (step plains state at one terminal within there code told among) (stay_at e))
    n.within (ap ends_operand n.before ∙ operand)

-- what a value's tokens are told to be wherever it may begin
pub record IsTold (mode : Mode) (spaced signed : Bool) (tokens : List Written) : Type 0 where
  pub begins : Begins spaced tokens
  pub told : (plains : List Plain) (frames : List Frame) (state : State) (at to : ℕ)
      → Entry mode frames state spaced signed → Stand plains at tokens to → IsClosed plains to
      → Result plains mode frames state at tokens to
