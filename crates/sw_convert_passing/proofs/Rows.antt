-- Values with signs between them, and what stands in brackets.
use Rattle.std.proofs.Common.{◌≡◌, ℕ, ◌+◌, Bool, true, false, List, [], ◌∷◌, ◌++◌, refl, ◌∙◌, ap}
use Rattle.sw_parse_terminals.specs.declared.terminal.Terminal.{Terminal}
use Rattle.sw_parse_terminals.specs.declared.terminal.Terminal.TheVariants as terminals
use Rattle.sw_parse_lexemes.specs.declared.sort.Sort.{Sort}
use Rattle.sw_parse_lexemes.specs.declared.sort.Sort.TheVariants as sorts
use Rattle.sw_parse_lexemes.specs.declared.plain.Plain.{Plain}
use Rattle.sw_parse_lexemes.specs.declared.state.Mode.{Mode}
use Rattle.sw_parse_lexemes.specs.declared.state.Mode.TheVariants as modes
use Rattle.sw_parse_lexemes.specs.declared.state.Frame.{Frame}
use Rattle.sw_parse_lexemes.specs.declared.state.State.{State}
use Rattle.sw_parse_lexemes.specs.Classes.{is_comment}
use Rattle.sw_parse_lexemes.specs.Ahead.{sort_at}
use Rattle.sw_parse_lexemes.specs.Names.{is}
use Rattle.sw_parse_lexemes.specs.Signs.{ends_operand, is_params}
use Rattle.sw_parse_lexemes.specs.Terminals.{terminal_of}
use Rattle.sw_parse_lexemes.specs.Steps.{in_word, after, past_white}
use Rattle.sw_convert_passing.specs.Written.{Written, direct, Stand, Within}
use Rattle.sw_convert_passing.specs.Places.{is_value, separates, may_precede, stops, IsClosed, Behind, Told}
use Rattle.sw_convert_passing.specs.Kinds.{is_separator, separator}
use Rattle.sw_convert_passing.specs.Values.{seam}
use Rattle.sw_convert_passing.proofs.Facts.{no_and, value_mode, separated_precedes, separated_no_operand}
use Rattle.sw_convert_passing.proofs.Steps.{join, step, stay_at, seam_step, seam_next, next}
use Rattle.sw_convert_passing.proofs.BySort.{lone_here}
use Rattle.sw_convert_passing.proofs.Tokens.{code_here, comma_here}
use Rattle.sw_convert_passing.proofs.Entries.{split, Begins, begins_more, begins_there, Entry, Led, led_entry, closed_spaced, closed_stops, reads, one_of, Plainly, IsTold}
use Rattle.sw_convert_passing.proofs.Enclosed.{IsInner}

pub record IsRow (mode : Mode) (spaced ended : Bool) (tokens : List Written) : Type 0 where
  pub begins : Begins spaced tokens
  pub told : (plains : List Plain) (frames : List Frame) (state : State) (at to : ℕ) → is_value mode ≡ true
      → is_params mode ≡ false → Within mode frames state → Led state → Stand plains at tokens to → IsClosed plains to
      → (told : Told plains mode frames state at tokens to) × Behind ended told.end

pub first_told : {mode : Mode} {spaced signed : Bool} (value : List Written) → IsTold mode spaced signed value
    → IsRow mode spaced true value
first_told {mode} {spaced} {signed} value told = record {
  begins = told.begins;
  told = λ plains frames state at to is_one no_params within led stand closed.
      told.told plains frames state at to (led_entry spaced signed is_one within led) stand closed;
}

record Separator (sort : Sort) : Type 0 where
  code : is_comment sort ≡ false
  stop : stops sort ≡ true
  plainly : Plainly (separator sort)
  word : in_word (separator sort) ≡ false
  between : separates (separator sort) ≡ true

separator_sort : (sort : Sort) → is_separator sort ≡ true → Separator sort
separator_sort sorts.Comma s = record
    { code = refl; stop = refl; plainly = record { goes = refl; begins = refl }; word = refl; between = refl }
separator_sort sorts.Colon s = record
    { code = refl; stop = refl; plainly = record { goes = refl; begins = refl }; word = refl; between = refl }
separator_sort sorts.Ellipsis s = record
    { code = refl; stop = refl; plainly = record { goes = refl; begins = refl }; word = refl; between = refl }
separator_sort _ s = absurd (cc)

separator_here : {mode : Mode} {frames : List Frame} (state : State) (plains : List Plain) (at : ℕ) (sort : Sort)
    → is_separator sort ≡ true → is_value mode ≡ true → Within mode frames state → sort_at plains at ≡ sort
    → terminal_of state plains at ≡ separator sort
separator_here state plains at sorts.Comma s value within e = comma_here value state within plains at e
separator_here state plains at sorts.Colon s value within e =
    lone_here state plains at (code_here value state within plains at) sorts.Colon refl e
separator_here state plains at sorts.Ellipsis s value within e =
    lone_here state plains at (code_here value state within plains at) sorts.Ellipsis refl e
separator_here state plains at _ s value within e = absurd (cc)

pub separated_told : {mode : Mode} {spaced ended : Bool} (row : List Written) (sort : Sort)
    → IsRow mode spaced ended row
    → is_separator sort ≡ true → IsRow mode spaced false (row ++ direct sort (separator sort) ∷ [])
separated_told {mode} {spaced} {ended} row sort told s = record {
  begins = begins_more spaced row (direct sort (separator sort) ∷ []) told.begins;
  told = λ plains frames state at to is_one no_params within led stand closed.
      let facts = separator_sort sort s in
      let (place, stands, (there, e)) = split plains to row (direct sort (separator sort) ∷ []) at stand in
      let (t, b) = told.told plains frames state at place is_one no_params within led stands
      (closed_stops plains place sort facts.stop there.sort) in
      let n = next t.end t.within (value_mode mode is_one).steady (separator sort) facts.plainly.goes
      facts.plainly.begins in
      let (lexemes, passed) = join (reads t)
      (join (step plains t.end place (direct sort (separator sort)) (separator sort) t.within there facts.code
      (separator_here t.end plains place sort s is_one t.within there.sort) one_of) (stay_at e)) in (
        record { lexemes = lexemes; end = after t.end (separator sort); passed = passed; within = n.within },
        (ap separates n.before ∙ facts.between, n.word ∙ facts.word),
      );
}

pub further_told : {mode : Mode} {spaced signed : Bool} (row value : List Written) → IsRow mode spaced false row
    → IsTold mode true signed value → IsRow mode spaced true (row ++ value)
further_told {mode} {spaced} {signed} row value first second = record {
  begins = begins_more spaced row value first.begins;
  told = λ plains frames state at to is_one no_params within led stand closed.
      let (place, stands, rest) = split plains to row value at stand in
      let (t, (between, word)) = first.told plains frames state at place is_one no_params within led stands
      (closed_spaced plains place (begins_there plains place to true value second.begins rest)) in
      let entry : Entry mode frames t.end true signed = record {
        value = is_one;
        within = t.within;
        ready = record {
          before = separated_precedes t.end.before between;
          word = no_and t.end.word _ word;
          operand = no_and (ends_operand t.end.before) _ (separated_no_operand t.end.before between);
          rest = no_and (is_params t.end.mode) _ (ap is_params t.within.mode_is ∙ no_params);
        };
      } in
      let (u, operand) = second.told plains frames t.end place to entry rest closed in
      let (lexemes, passed) = join (reads t) (reads u) in
      (record { lexemes = lexemes; end = u.end; passed = passed; within = u.within }, operand);
}

-- what stands in brackets
pub no_items_told : IsInner []
no_items_told plains frames state at to within led stand closed =
    let (lexemes, passed) = stay_at stand in record { lexemes = lexemes; end = state; passed = passed; within = within }

pub items_told : {ended : Bool} (row : List Written) → IsRow modes.Expression false ended row → IsInner row
items_told row told plains frames state at to within led stand closed =
    let (t, b) = told.told plains frames state at to refl refl within led stand closed in t

pub seamed_items_told : {ended : Bool} (row : List Written) → IsRow modes.Expression true ended row
    → IsInner (seam ∷ row)
seamed_items_told row told plains frames state at to within led (there, stand) closed =
    let n = seam_next state within in
    let still : Led (past_white state sorts.Comment) = record {
      before = ap may_precede n.before ∙ led.before;
      operand = ap ends_operand n.before ∙ led.operand;
      comma = ap (λ (t : Terminal). is t terminals.Comma) n.before ∙ led.comma;
      word = n.word ∙ led.word;
    } in
    let (t, b) = told.told plains frames (past_white state sorts.Comment) (at + 1) to refl refl n.within still stand
    closed in
    let (lexemes, passed) = join (seam_step plains state at within there) (reads t) in
    record { lexemes = lexemes; end = t.end; passed = passed; within = t.within }
