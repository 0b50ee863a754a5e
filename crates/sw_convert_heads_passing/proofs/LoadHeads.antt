-- Configurations are told, and with them whole loads.
use Rattle.std.proofs.Common.{◌≡◌, ℕ, ◌+◌, Bool, true, false, not, List, [], ◌∷◌, ◌++◌, refl, sym, ◌∙◌, ap, subst}
use Rattle.sw_text_scan.proofs.Bounds.{if_true, if_false}
use Rattle.sw_parse_terminals.specs.declared.terminal.Terminal.{Terminal}
use Rattle.sw_parse_terminals.specs.declared.terminal.Terminal.TheVariants as terminals
use Rattle.sw_parse_lexemes.specs.declared.sort.Sort.{Sort}
use Rattle.sw_parse_lexemes.specs.declared.sort.Sort.TheVariants as sorts
use Rattle.sw_parse_lexemes.specs.declared.plain.Plain.{Plain}
use Rattle.sw_parse_lexemes.specs.declared.state.Mode.{Mode}
use Rattle.sw_parse_lexemes.specs.declared.state.Mode.TheVariants as modes
use Rattle.sw_parse_lexemes.specs.declared.state.Bracket.TheVariants as brackets
use Rattle.sw_parse_lexemes.specs.declared.state.Frame.{Frame}
use Rattle.sw_parse_lexemes.specs.declared.state.State.{State}
use Rattle.sw_parse_lexemes.specs.Classes.{same, is_name, is_comment}
use Rattle.sw_parse_lexemes.specs.Ahead.{sort_at, spaced_at, is_direct, next_sort}
use Rattle.sw_parse_lexemes.specs.Modes.{statement_mode}
use Rattle.sw_parse_lexemes.specs.Names.{is, word_in_load}
use Rattle.sw_parse_lexemes.specs.Signs.{is_text, ends_operand, is_params, comma_terminal}
use Rattle.sw_parse_lexemes.specs.Brackets.{paren_in}
use Rattle.sw_parse_lexemes.specs.Terminals.{goes_on, string_in_code, terminal_of}
use Rattle.sw_parse_lexemes.specs.Steps.{inner_mode, after, past_white}
use Rattle.sw_convert_passing.specs.Written.{Written, written, direct, apart, Stand, Within}
use Rattle.sw_convert_passing.specs.Places.{may_precede, Ready, Told, IsClosed}
use Rattle.sw_convert_passing.specs.Values.{Value, variable, Items, Flags, no_flag, flag, dollar, enclosed}
use Rattle.sw_convert_passing.specs.Heads.{Starts}
use Rattle.sw_convert_passing.proofs.Facts.{no_and, and_no}
use Rattle.sw_convert_passing.proofs.Steps.{Reads, join, step, stay_at, seam_step, next, framed, opens, closes}
use Rattle.sw_convert_passing.proofs.Walks.{next_code}
use Rattle.sw_convert_passing.proofs.BySort.{by_quoted, by_unnamed, by_paren, by_comma, lone_here}
use Rattle.sw_convert_passing.proofs.Entries.{split, closed_spaced, closed_stops, reads, one_of, led}
use Rattle.sw_convert_passing.proofs.Enclosed.{paren, closed_here}
use Rattle.sw_convert_passing.proofs.Flags.{flags_are_told}
use Rattle.sw_convert_passing.proofs.Heads.{placed_as, first_told}
use Rattle.sw_convert_passing.proofs.Told.{values_are_told, inner_told}
use Rattle.sw_convert_heads_passing.specs.Loads.{is_url, UseName, no_name, as_name, as_star, entry, Entries, one_entry, more_entries, configuration_in, UseConfiguration, ForwardConfiguration, LoadHead, use_head, forward_head, LoadsAreTold}
use Rattle.sw_convert_heads_passing.specs.Loads as loads
use Rattle.sw_convert_heads_passing.proofs.Loads.{is_load, Place, past_seam, place_of, one_told, name_told, Ended, quiet_ended, use_name_told, prefix_told, filter_told, forward_word, use_word}

told_by : {plains : List Plain} {mode : Mode} {frames : List Frame} {state : State} {at to : ℕ}
    {tokens : List Written}
    (end : State) → Reads plains state at tokens end to → Within mode frames end
    → Told plains mode frames state at tokens to
told_by end (lexemes, passed) within = record { lexemes = lexemes; end = end; passed = passed; within = within }

-- ---- variables with values and flags

-- a value may begin
ready : {frames : List Frame} {state : State} (spaced signed : Bool) (before : Terminal)
    → Within modes.Ends frames state → state.before ≡ before → may_precede before ≡ true → ends_operand before ≡ false
    → state.word ≡ false → Ready state spaced signed
ready {frames} {state} spaced signed before within b m o word = record {
  before = ap may_precede b ∙ m;
  word = no_and state.word _ word;
  operand = no_and (ends_operand state.before) _ (ap ends_operand b ∙ o);
  rest = no_and (is_params state.mode) _ (ap is_params within.mode_is);
}

-- what stands behind a value before its flags
flags_close : {flags : List Written} → Flags flags → (plains : List Plain) (at to : ℕ) → Stand plains at flags to
    → IsClosed plains to → IsClosed plains at
flags_close no_flag plains at to stand closed = subst (IsClosed plains) (sym stand) closed
flags_close (flag sort f more) plains at to (there, stand) closed = closed_spaced plains at there.spaced

entry_told : {spaced signed : Bool} {value flags : List Written} (name : Sort) → is_name name ≡ true
    → Value modes.Ends true signed value → Flags flags → (plains : List Plain) (frames : List Frame) (state : State)
    (at to : ℕ) → Within modes.Ends frames state → Ready state spaced false
    → Stand plains at (entry spaced name value flags) to → IsClosed plains to
    → Told plains modes.Ends frames state at (entry spaced name value flags) to
entry_told {spaced} {signed} {value} {flags} name n v f plains frames state at to within begins
    (first, (second, (third, stand))) closed =
    let colon = direct sorts.Colon terminals.Colon in
    let (t1, operand) = values_are_told modes.Ends spaced false
    (dollar spaced ∷ direct name terminals.VariableName ∷ []) (variable name n) plains frames state at ((at + 1) + 1) refl
    within begins (first, (second, refl)) (closed_stops plains ((at + 1) + 1) sorts.Colon refl third.sort) in
    let is_colon = lone_here t1.end plains ((at + 1) + 1) (ap is_text t1.within.mode_is) sorts.Colon refl third.sort in
    let m = next t1.end t1.within refl terminals.Colon refl refl in
    let s1 = after t1.end terminals.Colon in
    let (place, stands, others) = split plains to value flags (((at + 1) + 1) + 1) stand in
    let (t2, more) = values_are_told modes.Ends true signed value v plains frames s1 (((at + 1) + 1) + 1) place refl
    m.within (ready true signed terminals.Colon m.within m.before refl refl m.word) stands
    (flags_close f plains place to others closed) in
    let t3 = flags_are_told modes.Ends flags f plains frames t2.end place to refl refl t2.within others in
    told_by t3.end
    (join (reads t1)
    (join (step plains t1.end ((at + 1) + 1) colon terminals.Colon t1.within third refl is_colon one_of)
    (join (reads t2) (reads t3)))) t3.within

entries_told : {spaced : Bool} {tokens : List Written} → Entries spaced tokens → (plains : List Plain)
    (frames : List Frame) (state : State)
    (at to : ℕ) → Within modes.Ends frames state → Ready state spaced false → Stand plains at tokens to
    → IsClosed plains to → Told plains modes.Ends frames state at tokens to
entries_told (one_entry name n v f) plains frames state at to within begins stand closed =
    entry_told name n v f plains frames state at to within begins stand closed
entries_told (more_entries {spaced} {signed} {value} {flags} {rest} name n v f more) plains frames state at to within
    begins stand closed =
    let comma = direct sorts.Comma terminals.Comma in
    let (place, stands, (there, others)) = split plains to (entry spaced name value flags) (comma ∷ rest) at stand in
    let t1 = entry_told name n v f plains frames state at place within begins stands
    (closed_stops plains place sorts.Comma refl there.sort) in
    let is_comma = by_comma t1.end plains place there.sort ∙ ap comma_terminal t1.within.mode_is in
    let m = next t1.end t1.within refl terminals.Comma refl refl in
    let s1 = after t1.end terminals.Comma in
    let t2 = entries_told more plains frames s1 (place + 1) to m.within
    (ready true false terminals.Comma m.within m.before refl refl m.word) others closed in
    told_by t2.end
    (join (reads t1) (join (step plains t1.end place comma terminals.Comma t1.within there refl is_comma one_of) (reads t2)))
    t2.within

-- ---- in parentheses

paren_load : (mode : Mode) (state : State) (plains : List Plain) (at : ℕ) → is_load mode ≡ true
    → paren_in (record state { mode = mode }) plains at ≡ terminals.HeadParen
paren_load modes.Use state plains at l = refl
paren_load modes.Forward state plains at l = refl
paren_load _ state plains at l = absurd (cc)

abbrev InParens : Mode → List Written → Type 0
InParens inner tokens =
    (plains : List Plain) (frames : List Frame) (state : State) (at to : ℕ) → Within inner frames state
    → state.before ≡ terminals.HeadParen → state.word ≡ false → Stand plains at tokens to → IsClosed plains to
    → Told plains inner frames state at tokens to

module _ {mode inner : Mode} {tokens : List Written} (load : is_load mode ≡ true)
    (into : inner_mode mode terminals.HeadParen ≡ inner) (told : InParens inner tokens) where
  parens_told : {frames : List Frame} (plains : List Plain) (state : State) (at to : ℕ)
      → Place mode frames state terminals.With
      → Stand plains at
      (enclosed (apart sorts.OpenParen terminals.HeadParen) tokens (direct sorts.CloseParen terminals.ParenEnd) []) to
      → Told plains mode frames state at
      (enclosed (apart sorts.OpenParen terminals.HeadParen) tokens (direct sorts.CloseParen terminals.ParenEnd) []) to
  parens_told {frames} plains state at to place (there, stand) =
      let one = apart sorts.OpenParen terminals.HeadParen in
      let close = direct sorts.CloseParen terminals.ParenEnd in
      let (end, stands, (last, e)) = split plains to tokens (close ∷ []) (at + 1) stand in
      let is_open = by_paren state plains at there.sort
      ∙ if_false (is state.before terminals.Special) terminals.RawParen _
      (ap (λ (t : Terminal). is t terminals.Special) place.before_is)
      ∙ ap (λ (m : Mode). paren_in (record state { mode = m }) plains at) place.within.mode_is
      ∙ paren_load mode state plains at load in
      let n = opens state place.within terminals.HeadParen brackets.Paren inner refl refl into in
      let s1 = after state terminals.HeadParen in
      let t = told plains (frames ++ framed brackets.Paren terminals.HeadParen mode ∷ []) s1 (at + 1) end n.within
      n.before n.word stands (closed_stops plains end sorts.CloseParen refl last.sort) in
      let shut = closed_here mode frames terminals.HeadParen t.end plains end paren refl t.within last.sort in
      let m = closes (framed brackets.Paren terminals.HeadParen mode) t.end t.within terminals.ParenEnd refl in
      told_by (after t.end terminals.ParenEnd)
      (join (step plains state at one terminals.HeadParen place.within there refl is_open one_of)
      (join (reads t) (join (step plains t.end end close terminals.ParenEnd t.within last refl shut one_of) (stay_at e))))
      m.within

items_in : {inner : List Written} → Items inner → InParens modes.Expression inner
items_in inside plains frames state at to within before word stand closed =
    inner_told inside plains frames state at to within
    (led terminals.HeadParen (record { before = refl; operand = refl; comma = refl }) before word) stand closed

entries_in : {inner : List Written} → Entries false inner → InParens modes.Ends inner
entries_in inside plains frames state at to within before word stand closed =
    entries_told inside plains frames state at to within
    (ready false false terminals.HeadParen within before refl refl word) stand closed

-- behind what may end before it
module _ (plains : List Plain) (frames : List Frame) (state : State) (at to : ℕ) {before : Terminal}
    (ended : Ended before) where
  use_with : {inner : List Written} → Items inner → Place modes.Use frames state before
      → Stand plains at (configuration_in inner) to → Told plains modes.Use frames state at (configuration_in inner) to
  use_with inside place (there, stand) =
      let one = name_told refl plains state at place (quiet_ended ended) sorts.With true terminals.With refl there
      (use_word state plains at ended ∙ ap word_in_load there.sort) refl refl refl in
      let t = parens_told refl refl (items_in inside) plains one.end (at + 1) to (place_of one) stand in
      told_by t.end (join one.reads (reads t)) t.within

  forward_with : {inner : List Written} → Entries false inner → Place modes.Forward frames state before
      → Stand plains at (configuration_in inner) to
      → Told plains modes.Forward frames state at (configuration_in inner) to
  forward_with inside place (there, stand) =
      let one = name_told refl plains state at place (quiet_ended ended) sorts.With true terminals.With refl there
      (forward_word state plains at ended ∙ ap word_in_load there.sort) refl refl refl in
      let t = parens_told refl refl (entries_in inside) plains one.end (at + 1) to (place_of one) stand in
      told_by t.end (join one.reads (reads t)) t.within

-- with an empty comment before it or without
use_configured : (plains : List Plain) (frames : List Frame) (state : State) (at to : ℕ) {before : Terminal}
    → Ended before → {tokens : List Written} → UseConfiguration tokens → Place modes.Use frames state before
    → Stand plains at tokens to → Told plains modes.Use frames state at tokens to
use_configured plains frames state at to ended loads.UseConfiguration.not_configured place stand =
    told_by state (stay_at stand) place.within
use_configured plains frames state at to ended (loads.UseConfiguration.configured inside) place stand =
    use_with plains frames state at to ended inside place stand
use_configured plains frames state at to ended (loads.UseConfiguration.configured_apart inside) place (there, stand) =
    let t = use_with plains frames (past_white state sorts.Comment) (at + 1) to ended inside (past_seam place) stand in
    told_by t.end (join (seam_step plains state at place.within there) (reads t)) t.within

forward_configured : (plains : List Plain) (frames : List Frame) (state : State) (at to : ℕ) {before : Terminal}
    → Ended before → {tokens : List Written} → ForwardConfiguration tokens → Place modes.Forward frames state before
    → Stand plains at tokens to → Told plains modes.Forward frames state at tokens to
forward_configured plains frames state at to ended loads.ForwardConfiguration.not_configured place stand =
    told_by state (stay_at stand) place.within
forward_configured plains frames state at to ended (loads.ForwardConfiguration.configured inside) place stand =
    forward_with plains frames state at to ended inside place stand
forward_configured plains frames state at to ended (loads.ForwardConfiguration.configured_apart inside) place
    (there, stand) =
    let t = forward_with plains frames (past_white state sorts.Comment) (at + 1) to ended inside (past_seam place) stand in
    told_by t.end (join (seam_step plains state at place.within there) (reads t)) t.within

-- ---- the keyword and the url

module _ (plains : List Plain) (at : ℕ) (spaced : spaced_at plains (at + 1) ≡ true) where
  no_insert : is_direct plains (at + 1) sorts.OpenInsert ≡ false
  no_insert = no_and _ _ (ap not spaced)

  use_mode : sort_at plains at ≡ sorts.AtUse → statement_mode plains at ≡ modes.Use
  unfolding statement_mode
  use_mode e = rw (e, statement_mode)
      (if_false (is_direct plains (at + 1) sorts.OpenInsert) modes.Raw modes.Use no_insert)

  use_here : (state : State) → state.start ≡ true → sort_at plains at ≡ sorts.AtUse
      → terminal_of state plains at ≡ terminals.AtUse
  unfolding terminal_of
  use_here state b e = rw (e, terminal_of) (if_true state.start _ _ b
      ∙ if_false (goes_on plains at) terminals.AtOther terminals.AtUse (and_no _ _ no_insert))

  forward_mode : sort_at plains at ≡ sorts.AtForward → statement_mode plains at ≡ modes.Forward
  unfolding statement_mode
  forward_mode e = rw (e, statement_mode)
      (if_false (is_direct plains (at + 1) sorts.OpenInsert) modes.Raw modes.Forward no_insert)

  forward_here : (state : State) → state.start ≡ true → sort_at plains at ≡ sorts.AtForward
      → terminal_of state plains at ≡ terminals.AtForward
  unfolding terminal_of
  forward_here state b e = rw (e, terminal_of) (if_true state.start _ _ b
      ∙ if_false (goes_on plains at) terminals.AtOther terminals.AtForward (and_no _ _ no_insert))

-- the namespace stands behind a url that gives none
as_stands : {named : Bool} {tokens : List Written} → UseName named tokens → named ≡ true → (rest : List Written)
    (plains : List Plain) (at to : ℕ) → Stand plains at (tokens ++ rest) to → sort_at plains at ≡ sorts.As
as_stands no_name e rest plains at to stand = absurd (cc)
as_stands (as_name _ n) e rest plains at to (there, stand) = there.sort
as_stands as_star e rest plains at to (there, stand) = there.sort

url_code : (named : Bool) (sort : Sort) → is_url named sort ≡ true → is_comment sort ≡ false
url_code named sorts.Quoted u = refl
url_code named sorts.Unnamed u = refl
url_code named _ u = absurd (cc)

use_url : {frames : List Frame} (named : Bool) (sort : Sort) → is_url named sort ≡ true → (plains : List Plain)
    (state : State) (at : ℕ) → Place modes.Use frames state terminals.AtUse → sort_at plains at ≡ sort
    → (named ≡ true → same (next_sort plains at) sorts.As ≡ true) → terminal_of state plains at ≡ terminals.LoadUrl
use_url named sorts.Quoted u plains state at place e follows =
    by_quoted state plains at e
    ∙ if_false (is_text state.mode) terminals.Raw _ (ap is_text place.within.mode_is)
    ∙ ap (λ (t : Terminal). string_in_code (record state { before = t }) plains at true) place.before_is
use_url named sorts.Unnamed u plains state at place e follows =
    by_unnamed state plains at e
    ∙ if_false (is_text state.mode) terminals.Raw _ (ap is_text place.within.mode_is)
    ∙ ap (λ (t : Terminal). string_in_code (record state { before = t }) plains at false) place.before_is
    ∙ if_true (same (next_sort plains at) sorts.As) terminals.LoadUrl terminals.Other (follows u)
use_url named _ u plains state at place e follows = absurd (cc)

forward_url : {frames : List Frame} (sort : Sort) → is_url true sort ≡ true → (plains : List Plain)
    (state : State) (at : ℕ) → Place modes.Forward frames state terminals.AtForward → sort_at plains at ≡ sort
    → terminal_of state plains at ≡ terminals.LoadUrl
forward_url sorts.Quoted u plains state at place e =
    by_quoted state plains at e
    ∙ if_false (is_text state.mode) terminals.Raw _ (ap is_text place.within.mode_is)
    ∙ ap (λ (t : Terminal). string_in_code (record state { before = t }) plains at true) place.before_is
forward_url sorts.Unnamed u plains state at place e =
    by_unnamed state plains at e
    ∙ if_false (is_text state.mode) terminals.Raw _ (ap is_text place.within.mode_is)
    ∙ ap (λ (t : Terminal). string_in_code (record state { before = t }) plains at false) place.before_is
forward_url _ u plains state at place e = absurd (cc)

loads_told : {mode : Mode} {tokens : List Written} → LoadHead mode tokens → (plains : List Plain)
    (frames : List Frame) (state : State)
    (at to : ℕ) → Starts frames state → Stand plains at tokens to → Told plains mode frames state at tokens to
loads_told (use_head {spaced} {named} {name} {configuration} url u names options) plains frames state at to starts
    (there, (second, stand)) =
    let first = first_told {mode = modes.Use} plains state at (written sorts.AtUse spaced terminals.AtUse)
    terminals.AtUse starts there refl (use_mode plains at second.spaced there.sort) refl refl refl
    (use_here plains at second.spaced (placed_as state plains at modes.Use) starts.start there.sort) refl in
    let place : Place modes.Use frames first.end terminals.AtUse =
    record { within = first.within; before_is = first.before; word = first.goes_on } in
    let (middle, stands, others) = split plains to name configuration ((at + 1) + 1) stand in
    let is_url_there = use_url named url u plains first.end (at + 1) place second.sort
    (λ n. ap (λ (s : Sort). same s sorts.As)
    (next_code plains (at + 1) sorts.As refl (as_stands names n configuration plains ((at + 1) + 1) to stand))) in
    let two = one_told refl plains first.end (at + 1) place (apart url terminals.LoadUrl) terminals.LoadUrl second
    (url_code named url u) is_url_there one_of refl refl refl in
    let three = use_name_told plains frames two.end ((at + 1) + 1) middle names (place_of two) stands in
    let t = use_configured plains frames three.behind.end middle to three.ended options (place_of three.behind) others in
    told_by t.end (join first.reads (join two.reads (join three.behind.reads (reads t)))) t.within
loads_told (forward_head {spaced} {prefix} {filter} {configuration} url u prefixed filtered options) plains frames
    state at to starts (there, (second, stand)) =
    let first = first_told {mode = modes.Forward} plains state at (written sorts.AtForward spaced terminals.AtForward)
    terminals.AtForward starts there refl (forward_mode plains at second.spaced there.sort) refl refl refl
    (forward_here plains at second.spaced (placed_as state plains at modes.Forward) starts.start there.sort) refl in
    let place : Place modes.Forward frames first.end terminals.AtForward =
    record { within = first.within; before_is = first.before; word = first.goes_on } in
    let (p1, stands1, others1) = split plains to prefix (filter ++ configuration) ((at + 1) + 1) stand in
    let (p2, stands2, others2) = split plains to filter configuration p1 others1 in
    let two = one_told refl plains first.end (at + 1) place (apart url terminals.LoadUrl) terminals.LoadUrl second
    (url_code true url u) (forward_url url u plains first.end (at + 1) place second.sort) one_of refl refl refl in
    let three = prefix_told plains frames two.end ((at + 1) + 1) p1 prefixed (place_of two) stands1 in
    let four = filter_told filtered three.ended plains frames three.behind.end p1 p2 (place_of three.behind) stands2 in
    let t = forward_configured plains frames four.behind.end p2 to four.ended options (place_of four.behind) others2 in
    told_by t.end
    (join first.reads (join two.reads (join three.behind.reads (join four.behind.reads (reads t))))) t.within

pub loads_are_told : LoadsAreTold
loads_are_told mode tokens head plains frames state at to starts stand =
    loads_told head plains frames state at to starts stand
