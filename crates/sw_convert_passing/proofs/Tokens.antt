-- What one token is where a value is read.
use Rattle.std.proofs.Common.{◌≡◌, ◌⊎◌, ℕ, ◌+◌, Bool, true, false, not, ◌&&◌, ◌||◌, if◌then◌else◌, List, inl, inr, refl, ◌∙◌, ap}
use Rattle.sw_text_scan.proofs.Bounds.{if_true, if_false}
use Rattle.sw_parse_terminals.specs.declared.terminal.Terminal.{Terminal}
use Rattle.sw_parse_terminals.specs.declared.terminal.Terminal.TheVariants as terminals
use Rattle.sw_parse_lexemes.specs.declared.sort.Sort.{Sort}
use Rattle.sw_parse_lexemes.specs.declared.sort.Sort.TheVariants as sorts
use Rattle.sw_parse_lexemes.specs.declared.plain.Plain.{Plain}
use Rattle.sw_parse_lexemes.specs.declared.state.Mode.{Mode}
use Rattle.sw_parse_lexemes.specs.declared.state.Mode.TheVariants as modes
use Rattle.sw_parse_lexemes.specs.declared.state.Frame.{Frame}
use Rattle.sw_parse_lexemes.specs.declared.state.State.{State}
use Rattle.sw_parse_lexemes.specs.Classes.{same, is_name, is_number}
use Rattle.sw_parse_lexemes.specs.Ahead.{sort_at, spaced_at, is_direct, number_direct, code_from, next_sort}
use Rattle.sw_parse_lexemes.specs.Names.{is, is_raw, is_bang, is_apart, continues, behind_dollar, behind_bang, constant_or_word, is_special_name, name_in_expression, is_bound_end, name_in, behind_sign}
use Rattle.sw_parse_lexemes.specs.Signs.{ends_operand, is_text, plus_signs, minus_signs, is_behind_rest, takes_flags, is_flag, ends_value, insert_in, comma_terminal}
use Rattle.sw_parse_lexemes.specs.Brackets.{plain_paren, paren_in, opens_condition}
use Rattle.sw_parse_lexemes.specs.Terminals.{terminal_of}
use Rattle.sw_parse_lexemes.proofs.NameLaws.{name_there}
use Rattle.sw_convert_passing.specs.Written.{Within}
use Rattle.sw_convert_passing.specs.Places.{is_value, may_precede}
use Rattle.sw_convert_passing.specs.Kinds.{is_quoted, is_bound, ends_bound}
use Rattle.sw_convert_passing.proofs.Facts.{takes_calls, no_and, and_no, both, ValueMode, value_mode, Fresh}
use Rattle.sw_convert_passing.proofs.BySort.{by_digits, by_number, by_quoted, by_unnamed, by_insert, by_paren, by_dot, by_dollar, by_bang, by_plus, by_minus, by_star, by_slash, by_bracket, by_comma}

-- a `#{` in a string or a url
insert_in_text : (mode : Mode) (state : State) (plains : List Plain) (at : ℕ) → mode ≡ modes.Text
    → insert_in (record state { mode = mode }) plains at ≡ terminals.Insert
insert_in_text mode state plains at e =
    ap (λ (m : Mode). insert_in (record state { mode = m }) plains at) e

pub text_insert_here : {frames : List Frame} (state : State) (plains : List Plain) (at : ℕ)
    → Within modes.Text frames state
    → state.word ≡ false → sort_at plains at ≡ sorts.OpenInsert → terminal_of state plains at ≡ terminals.Insert
text_insert_here state plains at within word e =
    by_insert state plains at e
    ∙ if_false (continues state plains at) terminals.PartInsert _ (no_and state.word _ word)
    ∙ insert_in_text state.mode state plains at within.mode_is

value_insert : (mode : Mode) (state : State) (plains : List Plain) (at : ℕ) → is_value mode ≡ true
    → insert_in (record state { mode = mode }) plains at
    ≡ (if is_apart state plains at then terminals.Other else terminals.WordInsert)
value_insert modes.Expression state plains at v = refl
value_insert modes.Ends state plains at v = refl
value_insert modes.Bounds state plains at v = refl
value_insert modes.BoundEnds state plains at v = refl
value_insert modes.Params state plains at v = refl
value_insert _ state plains at v = absurd (cc)

value_paren : (mode : Mode) (state : State) (plains : List Plain) (at : ℕ) → is_value mode ≡ true
    → paren_in (record state { mode = mode }) plains at
    ≡ (if continues state plains at then terminals.CallParen else plain_paren plains at)
value_paren modes.Expression state plains at v = refl
value_paren modes.Ends state plains at v = refl
value_paren modes.Bounds state plains at v = refl
value_paren modes.BoundEnds state plains at v = refl
value_paren modes.Params state plains at v = refl
value_paren _ state plains at v = absurd (cc)

value_comma : (mode : Mode) → is_value mode ≡ true → comma_terminal mode ≡ terminals.Comma
value_comma modes.Expression v = refl
value_comma modes.Ends v = refl
value_comma modes.Bounds v = refl
value_comma modes.BoundEnds v = refl
value_comma modes.Params v = refl
value_comma _ v = absurd (cc)

-- a name in the bounds of `@for` that doesn't end one
in_bounds : (sort : Sort) (ends : Bool) (further : Terminal) → (is_bound sort && ends) ≡ false
    → (elim sort as (λ _. Terminal) [
      | sorts.Through ↦ if ends then terminals.Through else further
      | sorts.To ↦ if ends then terminals.To else further
      | _ ↦ further
    ]) ≡ further
in_bounds sorts.Through true further n = absurd (cc)
in_bounds sorts.Through false further n = refl
in_bounds sorts.To true further n = absurd (cc)
in_bounds sorts.To false further n = refl
in_bounds _ ends further n = refl

value_name : (mode : Mode) (state : State) (plains : List Plain) (at : ℕ) → is_value mode ≡ true
    → (ends_bound mode (sort_at plains at) && is_bound_end plains at) ≡ false
    → name_in (record state { mode = mode }) plains at ≡ name_in_expression state plains at
value_name modes.Expression state plains at v n = refl
value_name modes.Ends state plains at v n = refl
value_name modes.Bounds state plains at v n =
    in_bounds (sort_at plains at) (is_bound_end plains at) (name_in_expression state plains at) n
value_name modes.BoundEnds state plains at v n =
    in_bounds (sort_at plains at) (is_bound_end plains at) (name_in_expression state plains at) n
value_name modes.Params state plains at v n = refl
value_name _ state plains at v n = absurd (cc)

quoted_by : (before : Terminal) (loaded : Terminal) → may_precede before ≡ true
    → (elim before as (λ _. Terminal) [
      | terminals.AtCharset ↦ terminals.Plain
      | terminals.AtForward ↦ terminals.LoadUrl
      | terminals.AtUse ↦ loaded
      | _ ↦ terminals.Quoted
    ]) ≡ terminals.Quoted
quoted_by terminals.AtCharset loaded e = absurd (cc)
quoted_by terminals.AtForward loaded e = absurd (cc)
quoted_by terminals.AtUse loaded e = absurd (cc)
quoted_by _ loaded e = refl

-- `(` directly behind a word
calls_paren : (mode : Mode) (state : State) (plains : List Plain) (at : ℕ) → takes_calls mode ≡ true
    → continues state plains at ≡ true → paren_in (record state { mode = mode }) plains at ≡ terminals.CallParen
calls_paren modes.Expression state plains at v c = if_true (continues state plains at) terminals.CallParen _ c
calls_paren modes.Ends state plains at v c = if_true (continues state plains at) terminals.CallParen _ c
calls_paren modes.Bounds state plains at v c = if_true (continues state plains at) terminals.CallParen _ c
calls_paren modes.BoundEnds state plains at v c = if_true (continues state plains at) terminals.CallParen _ c
calls_paren modes.Params state plains at v c = if_true (continues state plains at) terminals.CallParen _ c
calls_paren modes.Special state plains at v c = if_true (continues state plains at) terminals.CallParen _ c
calls_paren _ state plains at v c = absurd (cc)

pub call_paren_here : (state : State) (plains : List Plain) (at : ℕ) → takes_calls state.mode ≡ true
    → sort_at plains at ≡ sorts.OpenParen → continues state plains at ≡ true → is state.before terminals.Special ≡ false
    → terminal_of state plains at ≡ terminals.CallParen
call_paren_here state plains at v e c s =
    by_paren state plains at e ∙ if_false (is state.before terminals.Special) terminals.RawParen _ s
    ∙ calls_paren state.mode state plains at v c

-- one token where names are told apart: of a value, and in the text of a special function
module _ {mode : Mode} {frames : List Frame} (no_raw : is_raw mode ≡ false) (state : State)
    (within : Within mode frames state) (plains : List Plain) (at : ℕ) where
  raw_not : is_raw state.mode ≡ false
  raw_not = ap is_raw within.mode_is ∙ no_raw

  pub number_here : (sort : Sort) → is_number sort ≡ true → sort_at plains at ≡ sort → continues state plains at ≡ false
      → terminal_of state plains at ≡ terminals.Number
  number_here sorts.Digits n e c =
      by_digits state plains at e ∙ if_false (continues state plains at) terminals.Part _ c
      ∙ if_false (is_raw state.mode) terminals.Raw _ raw_not
  number_here sorts.Number n e c = by_number state plains at e ∙ if_false (is_raw state.mode) terminals.Raw _ raw_not
  number_here _ n e c = absurd (cc)

  pub part_insert_here : sort_at plains at ≡ sorts.OpenInsert → continues state plains at ≡ true
      → terminal_of state plains at ≡ terminals.PartInsert
  part_insert_here e c =
      by_insert state plains at e ∙ if_true (continues state plains at) terminals.PartInsert _ c

  pub owner_dollar_here : sort_at plains at ≡ sorts.Dollar → is state.before terminals.OwnerDot ≡ true
      → spaced_at plains at ≡ false → terminal_of state plains at ≡ terminals.OwnerDollar
  owner_dollar_here e o s =
      by_dollar state plains at e ∙ if_false (is_raw state.mode) terminals.Raw _ raw_not
      ∙ if_true (is state.before terminals.OwnerDot && not (spaced_at plains at)) terminals.OwnerDollar _
      (both _ _ o (ap not s))

  pub owner_dot_here : sort_at plains at ≡ sorts.Dot → is state.before terminals.Owner ≡ true
      → spaced_at plains at ≡ false → terminal_of state plains at ≡ terminals.OwnerDot
  owner_dot_here e o s =
      by_dot state plains at e
      ∙ if_true (is state.before terminals.Owner && not (spaced_at plains at)) terminals.OwnerDot _
      (both _ _ o (ap not s))

  module _ (named : is_name (sort_at plains at) ≡ true) where
    pub part_here : continues state plains at ≡ true → terminal_of state plains at ≡ terminals.Part
    part_here c = name_there state plains at named ∙ if_true (continues state plains at) terminals.Part _ c

    pub behind : continues state plains at ≡ false → terminal_of state plains at ≡ behind_sign state plains at
    behind c =
        name_there state plains at named ∙ if_false (continues state plains at) terminals.Part _ c
        ∙ if_false (is_raw state.mode) terminals.Raw _ raw_not

    pub variable_name_here : continues state plains at ≡ false → behind_dollar state.before ≡ true
        → spaced_at plains at ≡ false → terminal_of state plains at ≡ terminals.VariableName
    variable_name_here c d s =
        behind c
        ∙ if_true (not (spaced_at plains at) && behind_dollar state.before) terminals.VariableName _
        (both _ _ (ap not s) d)

-- one token of a value
module _ {mode : Mode} {frames : List Frame} (value : is_value mode ≡ true) (state : State)
    (within : Within mode frames state) (plains : List Plain) (at : ℕ) where
  is_value_here : is_value state.mode ≡ true
  is_value_here = ap is_value within.mode_is ∙ value

  facts : ValueMode state.mode
  facts = value_mode state.mode is_value_here

  same_mode : Within state.mode frames state
  same_mode = record {
    mode_is = refl;
    frames_are = within.frames_are;
    no_start = within.no_start;
    no_comment = within.no_comment;
  }

  pub code_here : is_text state.mode ≡ false
  code_here = facts.text

  pub sign_here : sort_at plains at ≡ sorts.Minus → continues state plains at ≡ false
      → is_direct plains (at + 1) sorts.OpenInsert ≡ false → minus_signs state plains at ≡ true
      → terminal_of state plains at ≡ terminals.Sign
  sign_here e c i s =
      by_minus state plains at e ∙ if_false (continues state plains at) terminals.Part _ c
      ∙ if_false (is_text state.mode) _ _ facts.text
      ∙ if_false (is_direct plains (at + 1) sorts.OpenInsert) _ _ i
      ∙ if_true (minus_signs state plains at) terminals.Sign _ s

  pub positive_here : sort_at plains at ≡ sorts.Plus → plus_signs state plains at ≡ true
      → terminal_of state plains at ≡ terminals.Sign
  positive_here e s =
      by_plus state plains at e ∙ if_false (is_text state.mode) _ _ facts.text
      ∙ if_true (plus_signs state plains at) terminals.Sign _ s

  pub quoted_here : (sort : Sort) → is_quoted sort ≡ true → sort_at plains at ≡ sort → may_precede state.before ≡ true
      → terminal_of state plains at ≡ terminals.Quoted
  quoted_here sorts.Quoted q e b =
      by_quoted state plains at e ∙ if_false (is_text state.mode) terminals.Raw _ facts.text
      ∙ quoted_by state.before _ b
  quoted_here sorts.Unnamed q e b =
      by_unnamed state plains at e ∙ if_false (is_text state.mode) terminals.Raw _ facts.text
      ∙ quoted_by state.before _ b
  quoted_here _ q e b = absurd (cc)

  pub insert_here : sort_at plains at ≡ sorts.OpenInsert → continues state plains at ≡ false
      → is_apart state plains at ≡ false → terminal_of state plains at ≡ terminals.WordInsert
  insert_here e c a =
      by_insert state plains at e ∙ if_false (continues state plains at) terminals.PartInsert _ c
      ∙ value_insert state.mode state plains at is_value_here
      ∙ if_false (is_apart state plains at) terminals.Other _ a

  pub minus_insert_here : sort_at plains at ≡ sorts.Minus → continues state plains at ≡ false
      → is_direct plains (at + 1) sorts.OpenInsert ≡ true → is_apart state plains at ≡ false
      → terminal_of state plains at ≡ terminals.WordMinus
  minus_insert_here e c i a =
      by_minus state plains at e ∙ if_false (continues state plains at) terminals.Part _ c
      ∙ if_false (is_text state.mode) _ _ facts.text
      ∙ if_true (is_direct plains (at + 1) sorts.OpenInsert) _ _ i
      ∙ if_false (is_apart state plains at) terminals.Other _ a

  -- `(` that isn't the arguments of a call
  pub paren_here : sort_at plains at ≡ sorts.OpenParen → continues state plains at ≡ false
      → is state.before terminals.Special ≡ false
      → (terminal_of state plains at ≡ terminals.Paren) ⊎ (terminal_of state plains at ≡ terminals.ConditionParen)
  paren_here e c s =
      choice (opens_condition plains (code_from plains (at + 1)))
      (by_paren state plains at e ∙ if_false (is state.before terminals.Special) terminals.RawParen _ s
      ∙ value_paren state.mode state plains at is_value_here
      ∙ if_false (continues state plains at) terminals.CallParen _ c)
    where
      choice : (b : Bool) → terminal_of state plains at ≡ (if b then terminals.ConditionParen else terminals.Paren)
          → (terminal_of state plains at ≡ terminals.Paren) ⊎ (terminal_of state plains at ≡ terminals.ConditionParen)
      choice true t = inr t
      choice false t = inl t

  pub bracket_here : sort_at plains at ≡ sorts.OpenBracket → terminal_of state plains at ≡ terminals.Bracket
  bracket_here e = by_bracket state plains at e ∙ if_false (is_text state.mode) terminals.RawBracket _ facts.text

  pub dollar_here : sort_at plains at ≡ sorts.Dollar → is state.before terminals.OwnerDot ≡ false
      → is_behind_rest state ≡ false
      → (terminal_of state plains at ≡ terminals.Dollar) ⊎ (terminal_of state plains at ≡ terminals.DollarNamed)
  dollar_here e o r =
      choice (same (sort_at plains (code_from plains (at + 2))) sorts.Colon)
      (by_dollar state plains at e ∙ if_false (is_raw state.mode) terminals.Raw _ facts.raw
      ∙ if_false (is state.before terminals.OwnerDot && not (spaced_at plains at)) terminals.OwnerDollar _
      (no_and _ _ o)
      ∙ if_false (is_text state.mode) _ _ facts.text
      ∙ if_false (is_behind_rest state) terminals.Other _ r)
    where
      choice : (b : Bool) → terminal_of state plains at ≡ (if b then terminals.DollarNamed else terminals.Dollar)
          → (terminal_of state plains at ≡ terminals.Dollar) ⊎ (terminal_of state plains at ≡ terminals.DollarNamed)
      choice true t = inr t
      choice false t = inl t

  -- `!` before what is no flag
  pub bang_here : sort_at plains at ≡ sorts.Exclamation → is_flag state.before ≡ false
      → same (next_sort plains at) sorts.Default ≡ false → same (next_sort plains at) sorts.Global ≡ false
      → terminal_of state plains at ≡ terminals.Bang
  bang_here e f d g =
      by_bang state plains at e
      ∙ if_false (takes_flags state.mode && ends_value state plains at) terminals.Ending _
      (and_no _ _ (none _ _ _ f d g))
      ∙ if_false (is_text state.mode) terminals.Raw _ facts.text
    where
      none : (a b c : Bool) → a ≡ false → b ≡ false → c ≡ false → (a || (b || c)) ≡ false
      none true b c e f g = absurd (cc)
      none false true c e f g = absurd (cc)
      none false false c e f g = g

  pub comma_here : sort_at plains at ≡ sorts.Comma → terminal_of state plains at ≡ terminals.Comma
  comma_here e = by_comma state plains at e ∙ value_comma state.mode is_value_here

  -- operators behind a value, and before one
  pub plus_here : sort_at plains at ≡ sorts.Plus → ends_operand state.before ≡ true
      → terminal_of state plains at ≡ terminals.Plus
  plus_here e o =
      by_plus state plains at e ∙ if_false (is_text state.mode) _ _ facts.text
      ∙ if_false (plus_signs state plains at) terminals.Sign _ (and_no (number_direct plains (at + 1)) _ (ap not o))
      ∙ if_true (ends_operand state.before) terminals.Plus terminals.PrefixPlus o

  pub minus_here : sort_at plains at ≡ sorts.Minus → ends_operand state.before ≡ true → spaced_at plains at ≡ true
      → spaced_at plains (at + 1) ≡ true → terminal_of state plains at ≡ terminals.Minus
  minus_here e o s n =
      by_minus state plains at e
      ∙ if_false (continues state plains at) terminals.Part _ (and_no state.word _ (ap not s))
      ∙ if_false (is_text state.mode) _ _ facts.text
      ∙ if_false (is_direct plains (at + 1) sorts.OpenInsert) _ _
      (no_and (not (spaced_at plains (at + 1))) _ (ap not n))
      ∙ if_false (minus_signs state plains at) terminals.Sign _
      (no_and (number_direct plains (at + 1)) _ (no_and (not (spaced_at plains (at + 1))) _ (ap not n)))
      ∙ if_true (ends_operand state.before) terminals.Minus terminals.PrefixMinus o

  pub star_here : sort_at plains at ≡ sorts.Star → Fresh state.before → terminal_of state plains at ≡ terminals.Times
  star_here e f =
      by_star state plains at e ∙ if_false (is state.before terminals.As) terminals.Star _ f.as_
      ∙ if_false (is state.before terminals.Prefix && not (spaced_at plains at)) terminals.PrefixStar _
      (no_and _ _ f.prefix)
      ∙ if_false (is_text state.mode) terminals.Raw _ facts.text

  pub slash_here : sort_at plains at ≡ sorts.Slash → ends_operand state.before ≡ true
      → terminal_of state plains at ≡ terminals.Divide
  slash_here e o =
      by_slash state plains at e ∙ if_false (is_text state.mode) terminals.Raw _ facts.text
      ∙ if_true (ends_operand state.before) terminals.Divide terminals.PrefixSlash o

  pub prefix_plus_here : sort_at plains at ≡ sorts.Plus → ends_operand state.before ≡ false
      → spaced_at plains (at + 1) ≡ true → terminal_of state plains at ≡ terminals.PrefixPlus
  prefix_plus_here e o n =
      by_plus state plains at e ∙ if_false (is_text state.mode) _ _ facts.text
      ∙ if_false (plus_signs state plains at) terminals.Sign _
      (no_and (number_direct plains (at + 1)) _ (no_and (not (spaced_at plains (at + 1))) _ (ap not n)))
      ∙ if_false (ends_operand state.before) terminals.Plus terminals.PrefixPlus o

  pub prefix_minus_here : sort_at plains at ≡ sorts.Minus → continues state plains at ≡ false
      → ends_operand state.before ≡ false → spaced_at plains (at + 1) ≡ true
      → terminal_of state plains at ≡ terminals.PrefixMinus
  prefix_minus_here e c o n =
      by_minus state plains at e ∙ if_false (continues state plains at) terminals.Part _ c
      ∙ if_false (is_text state.mode) _ _ facts.text
      ∙ if_false (is_direct plains (at + 1) sorts.OpenInsert) _ _
      (no_and (not (spaced_at plains (at + 1))) _ (ap not n))
      ∙ if_false (minus_signs state plains at) terminals.Sign _
      (no_and (number_direct plains (at + 1)) _ (no_and (not (spaced_at plains (at + 1))) _ (ap not n)))
      ∙ if_false (ends_operand state.before) terminals.Minus terminals.PrefixMinus o

  pub prefix_slash_here : sort_at plains at ≡ sorts.Slash → ends_operand state.before ≡ false
      → terminal_of state plains at ≡ terminals.PrefixSlash
  prefix_slash_here e o =
      by_slash state plains at e ∙ if_false (is_text state.mode) terminals.Raw _ facts.text
      ∙ if_false (ends_operand state.before) terminals.Divide terminals.PrefixSlash o

  -- names
  module _ (named : is_name (sort_at plains at) ≡ true) where
    pub hash_name_here : continues state plains at ≡ false → behind_dollar state.before ≡ false
        → is state.before terminals.Hash ≡ true → spaced_at plains at ≡ false
        → terminal_of state plains at ≡ terminals.HashName
    hash_name_here c d h s =
        behind facts.raw state same_mode plains at named c
        ∙ if_false (not (spaced_at plains at) && behind_dollar state.before) terminals.VariableName _ (and_no _ _ d)
        ∙ if_true (not (spaced_at plains at) && is state.before terminals.Hash) terminals.HashName _
        (both _ _ (ap not s) h)

    pub flag_here : continues state plains at ≡ false → behind_dollar state.before ≡ false
        → is state.before terminals.Hash ≡ false → is_bang state.before ≡ true
        → terminal_of state plains at ≡ behind_bang (sort_at plains at)
    flag_here c d h b =
        behind facts.raw state same_mode plains at named c
        ∙ if_false (not (spaced_at plains at) && behind_dollar state.before) terminals.VariableName _ (and_no _ _ d)
        ∙ if_false (not (spaced_at plains at) && is state.before terminals.Hash) terminals.HashName _ (and_no _ _ h)
        ∙ if_true (is_bang state.before) (behind_bang (sort_at plains at)) _ b

    -- a name that nothing before it claims
    module _ (further : continues state plains at ≡ false) (dollar : behind_dollar state.before ≡ false)
        (hash : is state.before terminals.Hash ≡ false) (bang : is_bang state.before ≡ false)
        (apart : is_apart state plains at ≡ false)
        (bound : (ends_bound mode (sort_at plains at) && is_bound_end plains at) ≡ false) where
      by_itself : terminal_of state plains at ≡ name_in_expression state plains at
      by_itself =
          behind facts.raw state same_mode plains at named further
          ∙ if_false (not (spaced_at plains at) && behind_dollar state.before) terminals.VariableName _
          (and_no _ _ dollar)
          ∙ if_false (not (spaced_at plains at) && is state.before terminals.Hash) terminals.HashName _
          (and_no _ _ hash)
          ∙ if_false (is_bang state.before) (behind_bang (sort_at plains at)) _ bang
          ∙ if_false (is_apart state plains at) terminals.Other _ apart
          ∙ value_name state.mode state plains at is_value_here
          (ap (λ (m : Mode). ends_bound m (sort_at plains at) && is_bound_end plains at) within.mode_is ∙ bound)

      pub mixed_word_here : is_direct plains (at + 1) sorts.OpenInsert ≡ true
          → terminal_of state plains at ≡ terminals.Word
      mixed_word_here i = by_itself ∙ if_true (is_direct plains (at + 1) sorts.OpenInsert) terminals.Word _ i

      pub owned_here : is_direct plains (at + 1) sorts.OpenInsert ≡ false → is state.before terminals.OwnerDot ≡ true
          → terminal_of state plains at ≡ constant_or_word (sort_at plains at)
      owned_here i o =
          by_itself ∙ if_false (is_direct plains (at + 1) sorts.OpenInsert) terminals.Word _ i
          ∙ if_true (is state.before terminals.OwnerDot) (constant_or_word (sort_at plains at)) _ o

      pub owner_here : is_direct plains (at + 1) sorts.OpenInsert ≡ false → is state.before terminals.OwnerDot ≡ false
          → is_direct plains (at + 1) sorts.Dot ≡ true → terminal_of state plains at ≡ terminals.Owner
      owner_here i o d =
          by_itself ∙ if_false (is_direct plains (at + 1) sorts.OpenInsert) terminals.Word _ i
          ∙ if_false (is state.before terminals.OwnerDot) (constant_or_word (sort_at plains at)) _ o
          ∙ if_true (is_direct plains (at + 1) sorts.Dot) terminals.Owner _ d

      pub special_here : is_direct plains (at + 1) sorts.OpenInsert ≡ false → is state.before terminals.OwnerDot ≡ false
          → is_direct plains (at + 1) sorts.Dot ≡ false
          → (is_special_name (sort_at plains at) && is_direct plains (at + 1) sorts.OpenParen) ≡ true
          → terminal_of state plains at ≡ terminals.Special
      special_here i o d s =
          by_itself ∙ if_false (is_direct plains (at + 1) sorts.OpenInsert) terminals.Word _ i
          ∙ if_false (is state.before terminals.OwnerDot) (constant_or_word (sort_at plains at)) _ o
          ∙ if_false (is_direct plains (at + 1) sorts.Dot) terminals.Owner _ d
          ∙ if_true (is_special_name (sort_at plains at) && is_direct plains (at + 1) sorts.OpenParen)
          terminals.Special _ s

      pub name_here : is_direct plains (at + 1) sorts.OpenInsert ≡ false → is state.before terminals.OwnerDot ≡ false
          → is_direct plains (at + 1) sorts.Dot ≡ false
          → (is_special_name (sort_at plains at) && is_direct plains (at + 1) sorts.OpenParen) ≡ false
          → terminal_of state plains at ≡ constant_or_word (sort_at plains at)
      name_here i o d s =
          by_itself ∙ if_false (is_direct plains (at + 1) sorts.OpenInsert) terminals.Word _ i
          ∙ if_false (is state.before terminals.OwnerDot) (constant_or_word (sort_at plains at)) _ o
          ∙ if_false (is_direct plains (at + 1) sorts.Dot) terminals.Owner _ d
          ∙ if_false (is_special_name (sort_at plains at) && is_direct plains (at + 1) sorts.OpenParen)
          terminals.Special _ s
