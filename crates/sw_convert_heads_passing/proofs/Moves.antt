-- Heads are told token by token: what is known behind each.
use Rattle.std.proofs.Common.{◌≡◌, ◌⊎◌, ℕ, ◌+◌, Bool, true, false, not, ◌&&◌, if◌then◌else◌, List, [], ◌∷◌, ◌++◌, Some, inl, inr, refl, ◌∙◌, ap}
use Rattle.sw_text_scan.proofs.Bounds.{if_false}
use Rattle.sw_parse_terminals.specs.declared.terminal.Terminal.{Terminal}
use Rattle.sw_parse_terminals.specs.declared.terminal.Terminal.TheVariants as terminals
use Rattle.sw_parse_lexemes.specs.declared.sort.Sort.TheVariants as sorts
use Rattle.sw_parse_lexemes.specs.declared.plain.Plain.{Plain}
use Rattle.sw_parse_lexemes.specs.declared.state.Mode.{Mode}
use Rattle.sw_parse_lexemes.specs.declared.state.Bracket.TheVariants as brackets
use Rattle.sw_parse_lexemes.specs.declared.state.Frame.{Frame}
use Rattle.sw_parse_lexemes.specs.declared.state.State.{State}
use Rattle.sw_parse_lexemes.specs.Classes.{same, is_name, is_comment}
use Rattle.sw_parse_lexemes.specs.Ahead.{sort_at, spaced_at, code_from}
use Rattle.sw_parse_lexemes.specs.Names.{is, is_raw, is_bang, is_apart, continues, behind_dollar, behind_bang, name_in}
use Rattle.sw_parse_lexemes.specs.Signs.{is_text, is_behind_rest, is_params}
use Rattle.sw_parse_lexemes.specs.Brackets.{paren_in}
use Rattle.sw_parse_lexemes.specs.Terminals.{terminal_of}
use Rattle.sw_parse_lexemes.specs.Steps.{opened_by, begins_statement, inner_mode, further_mode, stepped, after}
use Rattle.sw_parse_lexemes.proofs.NameLaws.{name_there}
use Rattle.sw_convert_passing.specs.Written.{Written, written, direct, Among, IsThere, Stand, Within}
use Rattle.sw_convert_passing.specs.Places.{Told}
use Rattle.sw_convert_passing.specs.Values.{enclosed}
use Rattle.sw_convert_passing.proofs.Facts.{no_and, and_no}
use Rattle.sw_convert_passing.proofs.Steps.{Reads, join, step, stay_at, framed, opens, closes}
use Rattle.sw_convert_passing.proofs.BySort.{by_paren, by_dollar}
use Rattle.sw_convert_passing.proofs.Entries.{split, reads, one_of}
use Rattle.sw_convert_passing.proofs.Leaves.{never}
use Rattle.sw_convert_passing.proofs.Enclosed.{paren, closed_here, is_raw_bracket}
use Rattle.sw_convert_heads_passing.proofs.Parts.{turned}
use Rattle.sw_convert_heads_passing.proofs.Loads.{Behind, Place, Quiet}

abbrev pub told_by : {plains : List Plain} {mode : Mode} {frames : List Frame} {state : State} {at to : ℕ}
    {tokens : List Written}
    (end : State) → Reads plains state at tokens end to → Within mode frames end
    → Told plains mode frames state at tokens to
told_by end (lexemes, passed) within = record { lexemes = lexemes; end = end; passed = passed; within = within }

-- the state behind a terminal that opens and closes nothing and goes on with no word
abbrev pub Passes : Terminal → Type 0
Passes terminal =
    (state : State) → after state terminal ≡ stepped state (further_mode state.mode terminal) false terminal

-- one token
pub moved : {mode further : Mode} {frames : List Frame} {before : Terminal} (plains : List Plain) (state : State) (at : ℕ)
    → Place mode frames state before → (one : Written) (terminal : Terminal) → IsThere plains at one
    → is_comment one.sort ≡ false → terminal_of state plains at ≡ terminal → Among terminal one.may_be
    → Passes terminal → further_mode mode terminal ≡ further → begins_statement terminal ≡ false
    → Behind plains further frames state at (one ∷ []) terminal (at + 1)
moved {mode} {further} {frames} plains state at place one terminal there code told among passes mode_is b =
    let n = turned {mode = further} {frames = frames} state terminal false
    (passes state
    ∙ ap (λ (m : Mode). stepped state (further_mode m terminal) false terminal) place.within.mode_is
    ∙ ap (λ (m : Mode). stepped state m false terminal) mode_is) place.within.frames_are b in record {
      end = after state terminal;
      reads = step plains state at one terminal place.within there code told among;
      within = n.within;
      before_is = n.before;
      word = n.word;
    }

module _ {mode : Mode} {frames : List Frame} {before : Terminal} (plains : List Plain) (state : State) (at : ℕ)
    (place : Place mode frames state before) (quiet : Quiet before) where
  -- a name
  pub named_here : is_raw mode ≡ false → is_name (sort_at plains at) ≡ true
      → terminal_of state plains at ≡ name_in (record state { mode = mode; before = before }) plains at
  named_here raw n =
      let b = place.before_is in
      name_there state plains at n
      ∙ if_false (continues state plains at) terminals.Part _ (never state plains at place.word)
      ∙ if_false (is_raw state.mode) terminals.Raw _ (ap is_raw place.within.mode_is ∙ raw)
      ∙ if_false (not (spaced_at plains at) && behind_dollar state.before) terminals.VariableName _
      (and_no _ _ (ap behind_dollar b ∙ quiet.dollar))
      ∙ if_false (not (spaced_at plains at) && is state.before terminals.Hash) terminals.HashName _
      (and_no _ _ (ap (λ (t : Terminal). is t terminals.Hash) b ∙ quiet.hash))
      ∙ if_false (is_bang state.before) (behind_bang (sort_at plains at)) _ (ap is_bang b ∙ quiet.bang)
      ∙ if_false (is_apart state plains at) terminals.Other _
      (no_and _ _ (ap (λ (t : Terminal). is t terminals.OwnerDot) b ∙ quiet.owned))
      ∙ ap (λ (m : Mode). name_in (record state { mode = m }) plains at) place.within.mode_is
      ∙ ap (λ (t : Terminal). name_in (record state { mode = mode; before = t }) plains at) b

  -- a `(`
  pub paren_here : sort_at plains at ≡ sorts.OpenParen
      → terminal_of state plains at ≡ paren_in (record state { mode = mode; before = before }) plains at
  paren_here e =
      let b = place.before_is in
      by_paren state plains at e
      ∙ if_false (is state.before terminals.Special) terminals.RawParen _
      (ap (λ (t : Terminal). is t terminals.Special) b ∙ quiet.special)
      ∙ ap (λ (m : Mode). paren_in (record state { mode = m }) plains at) place.within.mode_is
      ∙ ap (λ (t : Terminal). paren_in (record state { mode = mode; before = t }) plains at) b

  -- a `$`
  pub dollar_here : is_raw mode ≡ false → is_text mode ≡ false → is_params mode ≡ false
      → sort_at plains at ≡ sorts.Dollar
      → (terminal_of state plains at ≡ terminals.Dollar) ⊎ (terminal_of state plains at ≡ terminals.DollarNamed)
  dollar_here raw text params e =
      choice (same (sort_at plains (code_from plains (at + 2))) sorts.Colon)
      (by_dollar state plains at e
      ∙ if_false (is_raw state.mode) terminals.Raw _ (ap is_raw place.within.mode_is ∙ raw)
      ∙ if_false (is state.before terminals.OwnerDot && not (spaced_at plains at)) terminals.OwnerDollar _
      (no_and _ _ (ap (λ (t : Terminal). is t terminals.OwnerDot) place.before_is ∙ quiet.owned))
      ∙ if_false (is_text state.mode) _ _ (ap is_text place.within.mode_is ∙ text)
      ∙ if_false (is_behind_rest state) terminals.Other _ (no_and _ _ (ap is_params place.within.mode_is ∙ params)))
    where
      choice : (b : Bool) → terminal_of state plains at ≡ (if b then terminals.DollarNamed else terminals.Dollar)
          → (terminal_of state plains at ≡ terminals.Dollar) ⊎ (terminal_of state plains at ≡ terminals.DollarNamed)
      choice true t = inr t
      choice false t = inl t

-- ---- parentheses

abbrev pub InParens : Mode → Terminal → List Written → Type 0
InParens inner opening tokens =
    (plains : List Plain) (frames : List Frame) (state : State) (at to : ℕ) → Within inner frames state
    → state.before ≡ opening → state.word ≡ false → Stand plains at tokens to → sort_at plains to ≡ sorts.CloseParen
    → Told plains inner frames state at tokens to

module _ {mode inner : Mode} {tokens : List Written} {before : Terminal} (opening : Terminal) (spaced : Bool)
    (opened : opened_by opening ≡ Some brackets.Paren) (begins : begins_statement opening ≡ false)
    (into : inner_mode mode opening ≡ inner) (no_raw : is_raw_bracket opening ≡ false)
    (told : InParens inner opening tokens) where
  pub parens_told : {frames : List Frame} (plains : List Plain) (state : State) (at to : ℕ)
      → Place mode frames state before
      → Stand plains at
      (enclosed (written sorts.OpenParen spaced opening) tokens (direct sorts.CloseParen terminals.ParenEnd) []) to
      → terminal_of state plains at ≡ opening
      → Behind plains mode frames state at
      (enclosed (written sorts.OpenParen spaced opening) tokens (direct sorts.CloseParen terminals.ParenEnd) [])
      terminals.ParenEnd to
  parens_told {frames} plains state at to place (there, stand) is_open =
      let one = written sorts.OpenParen spaced opening in
      let close = direct sorts.CloseParen terminals.ParenEnd in
      let (end, stands, (last, e)) = split plains to tokens (close ∷ []) (at + 1) stand in
      let n = opens state place.within opening brackets.Paren inner opened begins into in
      let s1 = after state opening in
      let t = told plains (frames ++ framed brackets.Paren opening mode ∷ []) s1 (at + 1) end n.within n.before n.word
      stands last.sort in
      let shut = closed_here mode frames opening t.end plains end paren no_raw t.within last.sort in
      let m = closes (framed brackets.Paren opening mode) t.end t.within terminals.ParenEnd refl in record {
        end = after t.end terminals.ParenEnd;
        reads = join (step plains state at one opening place.within there refl is_open one_of)
            (join (reads t) (join (step plains t.end end close terminals.ParenEnd t.within last refl shut one_of) (stay_at e)));
        within = m.within;
        before_is = m.before;
        word = m.word;
      }
