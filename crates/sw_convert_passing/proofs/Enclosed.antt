-- Brackets round what is read, and what closes them.
use Rattle.std.proofs.Common.{◌≡◌, ℕ, ◌+◌, Bool, true, false, not, ◌||◌, List, [], ◌∷◌, ◌++◌, Some, inl, inr, refl, ◌∙◌, ap, subst, append_assoc}
use Rattle.sw_text_scan.proofs.Bounds.{if_false}
use Rattle.sw_parse_terminals.specs.declared.terminal.Terminal.{Terminal}
use Rattle.sw_parse_terminals.specs.declared.terminal.Terminal.TheVariants as terminals
use Rattle.sw_parse_lexemes.specs.declared.sort.Sort.{Sort}
use Rattle.sw_parse_lexemes.specs.declared.sort.Sort.TheVariants as sorts
use Rattle.sw_parse_lexemes.specs.declared.plain.Plain.{Plain}
use Rattle.sw_parse_lexemes.specs.declared.state.Mode.{Mode}
use Rattle.sw_parse_lexemes.specs.declared.state.Mode.TheVariants as modes
use Rattle.sw_parse_lexemes.specs.declared.state.Bracket.{Bracket}
use Rattle.sw_parse_lexemes.specs.declared.state.Bracket.TheVariants as brackets
use Rattle.sw_parse_lexemes.specs.declared.state.Frame.{Frame}
use Rattle.sw_parse_lexemes.specs.declared.state.State.{State}
use Rattle.sw_parse_lexemes.specs.Classes.{is_comment}
use Rattle.sw_parse_lexemes.specs.Ahead.{sort_at}
use Rattle.sw_parse_lexemes.specs.Names.{is, continues}
use Rattle.sw_parse_lexemes.specs.Signs.{ends_operand}
use Rattle.sw_parse_lexemes.specs.Brackets.{innermost, closes_paren, closes_bracket}
use Rattle.sw_parse_lexemes.specs.Terminals.{terminal_of}
use Rattle.sw_parse_lexemes.specs.Steps.{opened_by, inner_mode, begins_statement, after}
use Rattle.sw_convert_passing.specs.Written.{Written, written, direct, Among, Stand, Within}
use Rattle.sw_convert_passing.specs.Places.{stops, IsClosed, Told}
use Rattle.sw_convert_passing.specs.Values.{enclosed, inserted, opened_paren}
use Rattle.sw_convert_passing.proofs.Facts.{takes_calls, call_inner, both, opens_value, inner_value, operand_precedes, fresh}
use Rattle.sw_convert_passing.proofs.Steps.{Reads, join, step, stay_at, framed, opens, innermost_is, is_closing, closes, closes_insert}
use Rattle.sw_convert_passing.proofs.BySort.{by_insert_end}
use Rattle.sw_convert_passing.proofs.Tokens.{paren_here, call_paren_here, bracket_here}
use Rattle.sw_convert_passing.proofs.Entries.{split, Entry, Led, Leads, led, Result, result, reads, one_of, closed_stops, IsTold}
use Rattle.sw_convert_passing.proofs.Leaves.{no_further, fresh_here}

-- what closes the innermost frame
pub closing_paren : (state : State) (plains : List Plain) (at : ℕ) → sort_at plains at ≡ sorts.CloseParen
    → terminal_of state plains at ≡ closes_paren state.mode (innermost state.frames)
unfolding terminal_of
closing_paren state plains at e = rw (e, terminal_of) refl

pub closing_bracket : (state : State) (plains : List Plain) (at : ℕ) → sort_at plains at ≡ sorts.CloseBracket
    → terminal_of state plains at ≡ closes_bracket state.mode (innermost state.frames)
unfolding terminal_of
closing_bracket state plains at e = rw (e, terminal_of) refl

-- how a bracket is closed
pub data Closes : Bracket → Sort → Terminal → Type 0 where
  paren : Closes brackets.Paren sorts.CloseParen terminals.ParenEnd
  bracket : Closes brackets.Bracket sorts.CloseBracket terminals.BracketEnd

-- no bracket of raw text
abbrev pub is_raw_bracket : Terminal → Bool
is_raw_bracket terminals.RawParen = true
is_raw_bracket terminals.RawBracket = true
is_raw_bracket _ = false

no_raw : (terminal : Terminal) → is_raw_bracket terminal ≡ false
    → (is terminal terminals.RawParen ≡ false) × (is terminal terminals.RawBracket ≡ false)
no_raw terminals.RawParen e = absurd (cc)
no_raw terminals.RawBracket e = absurd (cc)
no_raw _ e = (refl, refl)

pub closed_here : {inner : Mode} (mode : Mode) (frames : List Frame) {kind : Bracket} {sort : Sort} {close : Terminal}
    (opening : Terminal)
    (state : State) (plains : List Plain) (at : ℕ) → Closes kind sort close → is_raw_bracket opening ≡ false
    → Within inner (frames ++ framed kind opening mode ∷ []) state → sort_at plains at ≡ sort
    → terminal_of state plains at ≡ close
closed_here {inner} mode frames opening state plains at paren r within e =
    closing_paren state plains at e
    ∙ ap (closes_paren state.mode)
    (ap innermost within.frames_are ∙ innermost_is frames (framed brackets.Paren opening mode))
    ∙ if_false (is opening terminals.RawParen) terminals.RawParenEnd terminals.ParenEnd (no_raw opening r).0
closed_here {inner} mode frames opening state plains at bracket r within e =
    closing_bracket state plains at e
    ∙ ap (closes_bracket state.mode)
    (ap innermost within.frames_are ∙ innermost_is frames (framed brackets.Bracket opening mode))
    ∙ if_false (is opening terminals.RawBracket) terminals.RawBracketEnd terminals.BracketEnd (no_raw opening r).1

record Closing (sort : Sort) (terminal : Terminal) : Type 0 where
  is_one : is_closing terminal ≡ true
  code : is_comment sort ≡ false
  stop : stops sort ≡ true
  operand : ends_operand terminal ≡ true

closing : {kind : Bracket} {sort : Sort} {terminal : Terminal} → Closes kind sort terminal → Closing sort terminal
closing paren = record { is_one = refl; code = refl; stop = refl; operand = refl }
closing bracket = record { is_one = refl; code = refl; stop = refl; operand = refl }

-- an opening bracket of a value
pub record Opening (kind : Bracket) (terminal : Terminal) : Type 0 where
  pub opened : opened_by terminal ≡ Some kind
  pub begins : begins_statement terminal ≡ false
  pub inner : opens_value terminal ≡ true
  pub leads : Leads terminal
  pub no_raw : is_raw_bracket terminal ≡ false

-- what stands in brackets
abbrev pub IsInner : List Written → Type 0
IsInner tokens =
    (plains : List Plain) (frames : List Frame) (state : State) (at to : ℕ) → Within modes.Expression frames state
    → Led state
    → Stand plains at tokens to → IsClosed plains to → Told plains modes.Expression frames state at tokens to

-- brackets round it, and then the rest
pub record Round (plains : List Plain) (mode : Mode) (frames : List Frame) (state : State) (at : ℕ)
    (tokens : List Written)
    (close : Terminal) (goes_on : Bool) (to : ℕ) : Type 0 where
  pub end : State
  pub reads : Reads plains state at tokens end to
  pub within : Within mode frames end
  pub before : end.before ≡ close
  pub word : end.word ≡ goes_on

-- `(..)` and `[..]`
pub round : {mode : Mode} {frames : List Frame} {plains : List Plain} {at to : ℕ} (state : State) (kind : Bracket)
    (sort : Sort) (close : Terminal) (opening_token : Written) (opening : Terminal) (inner : List Written)
    → inner_mode mode opening ≡ modes.Expression → Within mode frames state → Closes kind sort close
    → Opening kind opening
    → IsInner inner
    → Stand plains at (enclosed opening_token inner (direct sort close) []) to → is_comment opening_token.sort ≡ false
    → terminal_of state plains at ≡ opening → Among opening opening_token.may_be
    → Round plains mode frames state at (enclosed opening_token inner (direct sort close) []) close false to
round {mode} {frames} {plains} {at} {to} state kind sort close opening_token opening inner inside within how opens_it
    told
    (there, stand) code is_opening among =
    let (place, stands, (last, e)) = split plains to inner (direct sort close ∷ []) (at + 1) stand in
    let c = closing how in
    let n = opens state within opening kind modes.Expression opens_it.opened opens_it.begins inside in
    let s1 = after state opening in
    let t = told plains (frames ++ framed kind opening mode ∷ []) s1 (at + 1) place n.within
    (led opening opens_it.leads n.before n.word) stands (closed_stops plains place sort c.stop last.sort) in
    let shut = closed_here mode frames opening t.end plains place how opens_it.no_raw t.within last.sort in
    let m = closes (framed kind opening mode) t.end t.within close c.is_one in record {
      end = after t.end close;
      reads = join (step plains state at opening_token opening within there code is_opening among)
          (join (reads t)
          (join (step plains t.end place (direct sort close) close t.within last c.code shut one_of) (stay_at e)));
      within = m.within;
      before = m.before;
      word = m.word;
    }

-- `#{..}`, and what follows it
pub record Inserting (terminal : Terminal) (goes_on : Bool) : Type 0 where
  pub opened : opened_by terminal ≡ Some brackets.Insert
  pub begins : begins_statement terminal ≡ false
  pub leads : Leads terminal
  pub word : (is terminal terminals.WordInsert || is terminal terminals.PartInsert) ≡ goes_on

-- the state behind a `#{..}`
pub record Inserted (plains : List Plain) (mode : Mode) (frames : List Frame) (state : State) (at : ℕ)
    (tokens rest : List Written)
    (goes_on : Bool) (to : ℕ) : Type 0 where
  pub end : State
  pub place : ℕ
  pub reads : Reads plains state at tokens end place
  pub within : Within mode frames end
  pub before : end.before ≡ terminals.InsertEnd
  pub word : end.word ≡ goes_on
  pub others : Stand plains place rest to

-- without what follows
abbrev pub insert_alone : Bool → Terminal → List Written → List Written
insert_alone spaced terminal inner = inserted spaced terminal inner []

pub insert_round : {mode : Mode} {frames : List Frame} {plains : List Plain} {at to : ℕ} (state : State)
    (spaced goes_on : Bool)
    (terminal : Terminal) (inner rest : List Written) → Within mode frames state
    → inner_mode mode terminal ≡ modes.Expression
    → Inserting terminal goes_on → IsInner inner → Stand plains at (inserted spaced terminal inner rest) to
    → terminal_of state plains at ≡ terminal
    → Inserted plains mode frames state at (insert_alone spaced terminal inner) rest goes_on to
insert_round {mode} {frames} {plains} {at} {to} state spaced goes_on terminal inner rest within inside how told
    (there, stand) is_opening =
    let close = direct sorts.CloseInsert terminals.InsertEnd in
    let (place, stands, (last, others)) = split plains to inner (close ∷ rest) (at + 1) stand in
    let n = opens state within terminal brackets.Insert modes.Expression how.opened how.begins inside in
    let s1 = after state terminal in
    let t = told plains (frames ++ framed brackets.Insert terminal mode ∷ []) s1 (at + 1) place n.within
    (led terminal how.leads n.before n.word) stands (closed_stops plains place sorts.CloseInsert refl last.sort) in
    let m = closes_insert terminal mode t.end t.within goes_on how.word in record {
      end = after t.end terminals.InsertEnd;
      place = place + 1;
      reads = join
          (step plains state at (written sorts.OpenInsert spaced terminal) terminal within there refl is_opening one_of)
          (join (reads t) (step plains t.end place close terminals.InsertEnd t.within last refl
          (by_insert_end t.end plains place last.sort) one_of));
      within = m.within;
      before = m.before;
      word = m.word;
      others = others;
    }

-- and then the rest
pub and_rest : {plains : List Plain} {state middle end : State} {at place to : ℕ} (spaced : Bool) (terminal : Terminal)
    (inner rest : List Written) → Reads plains state at (insert_alone spaced terminal inner) middle place
    → Reads plains middle place rest end to → Reads plains state at (inserted spaced terminal inner rest) end to
and_rest {plains} {state} {middle} {end} {at} {place} {to} spaced terminal inner rest first second =
    subst (λ (x : List Written). Reads plains state at (written sorts.OpenInsert spaced terminal ∷ x) end to)
    (append_assoc inner (direct sorts.CloseInsert terminals.InsertEnd ∷ []) rest) (join first second)

-- values in brackets
module _ {mode : Mode} {spaced : Bool} (inner : List Written) (told : IsInner inner) where
  in_parens_as : (plains : List Plain) (frames : List Frame) (state : State) (at to : ℕ) (opening : Terminal)
      → Entry mode frames state spaced false → Opening brackets.Paren opening
      → Stand plains at (enclosed (opened_paren spaced) inner (direct sorts.CloseParen terminals.ParenEnd) []) to
      → terminal_of state plains at ≡ opening → Among opening (opened_paren spaced).may_be
      → Result plains mode frames state at
      (enclosed (opened_paren spaced) inner (direct sorts.CloseParen terminals.ParenEnd) []) to
  in_parens_as plains frames state at to opening entry how stand is_opening among =
      let r = round state brackets.Paren sorts.CloseParen terminals.ParenEnd (opened_paren spaced) opening inner
      (inner_value mode opening entry.value how.inner) entry.within
      paren how told stand refl is_opening among in
      result r.end r.reads r.within (ap ends_operand r.before)

  pub in_parens_told : IsTold mode spaced false
      (enclosed (opened_paren spaced) inner (direct sorts.CloseParen terminals.ParenEnd) [])
  in_parens_told = record {
    begins = refl;
    told = λ plains frames state at to entry stand closed. go plains frames state at to entry stand;
  }
    where
      go : (plains : List Plain) (frames : List Frame) (state : State) (at to : ℕ)
          → Entry mode frames state spaced false
          → Stand plains at (enclosed (opened_paren spaced) inner (direct sorts.CloseParen terminals.ParenEnd) []) to
          → Result plains mode frames state at
          (enclosed (opened_paren spaced) inner (direct sorts.CloseParen terminals.ParenEnd) []) to
      go plains frames state at to entry stand = elim
          (paren_here entry.value state entry.within plains at stand.0.sort
          (no_further plains at entry stand.0.spaced) (fresh_here entry).special) [
            | inl e ↦ in_parens_as plains frames state at to terminals.Paren entry
                (record {
                  opened = refl;
                  begins = refl;
                  inner = refl;
                  leads = record
                      { before = refl; operand = refl; comma = refl };
                  no_raw = refl;
                })
                stand e (inl refl)
            | inr e ↦ in_parens_as plains frames state at to terminals.ConditionParen entry
                (record {
                  opened = refl;
                  begins = refl;
                  inner = refl;
                  leads = record
                      { before = refl; operand = refl; comma = refl };
                  no_raw = refl;
                })
                stand e (inr (inl refl))
          ]

  pub in_brackets_told : IsTold mode spaced false
      (enclosed (written sorts.OpenBracket spaced terminals.Bracket) inner
      (direct sorts.CloseBracket terminals.BracketEnd) [])
  in_brackets_told = record {
    begins = refl;
    told = λ plains frames state at to entry stand closed. go plains frames state at to entry stand;
  }
    where
      go : (plains : List Plain) (frames : List Frame) (state : State) (at to : ℕ)
          → Entry mode frames state spaced false
          → Stand plains at
          (enclosed (written sorts.OpenBracket spaced terminals.Bracket) inner
          (direct sorts.CloseBracket terminals.BracketEnd) []) to
          → Result plains mode frames state at
          (enclosed (written sorts.OpenBracket spaced terminals.Bracket) inner
          (direct sorts.CloseBracket terminals.BracketEnd) []) to
      go plains frames state at to entry stand =
          let r = round state brackets.Bracket sorts.CloseBracket terminals.BracketEnd
          (written sorts.OpenBracket spaced terminals.Bracket) terminals.Bracket inner
          (inner_value mode terminals.Bracket entry.value refl) entry.within bracket
          (record {
            opened = refl;
            begins = refl;
            inner = refl;
            leads = record
                { before = refl; operand = refl; comma = refl };
            no_raw = refl;
          })
          told stand refl (bracket_here entry.value state entry.within plains at stand.0.sort) one_of in
          result r.end r.reads r.within (ap ends_operand r.before)

-- the arguments of a call, behind its name
abbrev pub IsCall : List Written → Type 0
IsCall tokens =
    (mode : Mode) (plains : List Plain) (frames : List Frame) (state : State) (at to : ℕ) → takes_calls mode ≡ true
    → Within mode frames state → state.word ≡ true → ends_operand state.before ≡ true → Stand plains at tokens to
    → (told : Told plains mode frames state at tokens to) × (told.end.before ≡ terminals.ParenEnd) ×
    (told.end.word ≡ false)

pub call_told : (inner : List Written) → IsInner inner
    → IsCall (enclosed (direct sorts.OpenParen terminals.CallParen) inner
    (direct sorts.CloseParen terminals.ParenEnd) [])
call_told inner told mode plains frames state at to calls within word operand stand =
    let further : continues state plains at ≡ true = both state.word _ word (ap not stand.0.spaced) in
    let r = round state brackets.Paren sorts.CloseParen terminals.ParenEnd (direct sorts.OpenParen terminals.CallParen)
    terminals.CallParen inner (call_inner mode) within paren
    (record {
      opened = refl;
      begins = refl;
      inner = refl;
      leads = record
          { before = refl; operand = refl; comma = refl };
      no_raw = refl;
    })
    told stand refl
    (call_paren_here state plains at (ap takes_calls within.mode_is ∙ calls) stand.0.sort further
    (fresh state.before (operand_precedes state.before operand)).special) one_of in
    let (lexemes, passed) = r.reads in
    (record { lexemes = lexemes; end = r.end; passed = passed; within = r.within }, r.before, r.word)
