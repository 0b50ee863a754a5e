-- What one token is in the text of a special function.
use Rattle.std.proofs.Common.{◌≡◌, ℕ, ◌+◌, Bool, true, false, not, ◌&&◌, ◌||◌, if◌then◌else◌, List, refl, ◌∙◌, ap}
use Rattle.sw_text_scan.proofs.Bounds.{if_true, if_false}
use Rattle.sw_parse_terminals.specs.declared.terminal.Terminal.{Terminal}
use Rattle.sw_parse_terminals.specs.declared.terminal.Terminal.TheVariants as terminals
use Rattle.sw_parse_lexemes.specs.declared.sort.Sort.{Sort}
use Rattle.sw_parse_lexemes.specs.declared.sort.Sort.TheVariants as sorts
use Rattle.sw_parse_lexemes.specs.declared.plain.Plain.{Plain}
use Rattle.sw_parse_lexemes.specs.declared.state.Mode.{Mode}
use Rattle.sw_parse_lexemes.specs.declared.state.Mode.TheVariants as modes
use Rattle.sw_parse_lexemes.specs.declared.state.Frame.{Frame}
use Rattle.sw_parse_lexemes.specs.declared.state.State.{State}
use Rattle.sw_parse_lexemes.specs.Classes.{is_name}
use Rattle.sw_parse_lexemes.specs.Ahead.{sort_at, spaced_at, is_direct, name_direct}
use Rattle.sw_parse_lexemes.specs.Names.{is, is_bang, is_apart, continues, behind_dollar, behind_bang, stays_text, owns, name_in_special, name_in}
use Rattle.sw_parse_lexemes.specs.Names.{is_raw as is_raw_mode}
use Rattle.sw_parse_lexemes.specs.Signs.{is_text, plus_signs, minus_signs, names_rule, takes_flags, insert_in, comma_terminal}
use Rattle.sw_parse_lexemes.specs.Brackets.{innermost, is_outer, is_brace, is_inner, is_custom, paren_in, sign_in_brackets}
use Rattle.sw_parse_lexemes.specs.Terminals.{terminal_of}
use Rattle.sw_convert_passing.specs.Written.{Within}
use Rattle.sw_convert_passing.specs.Kinds.{is_raw, is_raw_sign}
use Rattle.sw_convert_passing.proofs.Facts.{no_and, and_no, both}
use Rattle.sw_convert_passing.proofs.BySort.{by_insert, by_paren, by_dollar, by_plus, by_minus, by_bracket, by_comma}
use Rattle.sw_convert_passing.proofs.Tokens.{behind}

-- the terminals behind which an item of such a text stands
abbrev pub in_text : Terminal → Bool
in_text terminals.RawParen = true
in_text terminals.RawBracket = true
in_text terminals.Raw = true
in_text terminals.SpecialComma = true
in_text terminals.RawParenEnd = true
in_text terminals.RawBracketEnd = true
in_text terminals.Number = true
in_text terminals.VariableName = true
in_text terminals.InsertEnd = true
in_text terminals.ParenEnd = true
in_text _ = false

pub record Loose (before : Terminal) : Type 0 where
  pub dollar : behind_dollar before ≡ false
  pub hash : is before terminals.Hash ≡ false
  pub bang : is_bang before ≡ false
  pub owned : is before terminals.OwnerDot ≡ false
  pub owner : is before terminals.Owner ≡ false
  pub special : is before terminals.Special ≡ false
  pub as_ : is before terminals.As ≡ false
  pub prefix : is before terminals.Prefix ≡ false
  pub rule : (is before terminals.AtInsert || is before terminals.WordMinus) ≡ false

pub loose : (before : Terminal) → in_text before ≡ true → Loose before
loose terminals.RawParen e = record {
  dollar = refl;
  hash = refl;
  bang = refl;
  owned = refl;
  owner = refl;
  special = refl;
  as_ = refl;
  prefix = refl;
  rule = refl;
}
loose terminals.RawBracket e = record {
  dollar = refl;
  hash = refl;
  bang = refl;
  owned = refl;
  owner = refl;
  special = refl;
  as_ = refl;
  prefix = refl;
  rule = refl;
}
loose terminals.Raw e = record {
  dollar = refl;
  hash = refl;
  bang = refl;
  owned = refl;
  owner = refl;
  special = refl;
  as_ = refl;
  prefix = refl;
  rule = refl;
}
loose terminals.SpecialComma e = record {
  dollar = refl;
  hash = refl;
  bang = refl;
  owned = refl;
  owner = refl;
  special = refl;
  as_ = refl;
  prefix = refl;
  rule = refl;
}
loose terminals.RawParenEnd e = record {
  dollar = refl;
  hash = refl;
  bang = refl;
  owned = refl;
  owner = refl;
  special = refl;
  as_ = refl;
  prefix = refl;
  rule = refl;
}
loose terminals.RawBracketEnd e = record {
  dollar = refl;
  hash = refl;
  bang = refl;
  owned = refl;
  owner = refl;
  special = refl;
  as_ = refl;
  prefix = refl;
  rule = refl;
}
loose terminals.Number e = record {
  dollar = refl;
  hash = refl;
  bang = refl;
  owned = refl;
  owner = refl;
  special = refl;
  as_ = refl;
  prefix = refl;
  rule = refl;
}
loose terminals.VariableName e = record {
  dollar = refl;
  hash = refl;
  bang = refl;
  owned = refl;
  owner = refl;
  special = refl;
  as_ = refl;
  prefix = refl;
  rule = refl;
}
loose terminals.InsertEnd e = record {
  dollar = refl;
  hash = refl;
  bang = refl;
  owned = refl;
  owner = refl;
  special = refl;
  as_ = refl;
  prefix = refl;
  rule = refl;
}
loose terminals.ParenEnd e = record {
  dollar = refl;
  hash = refl;
  bang = refl;
  owned = refl;
  owner = refl;
  special = refl;
  as_ = refl;
  prefix = refl;
  rule = refl;
}
loose _ e = absurd (cc)

module _ {frames : List Frame} (state : State) (within : Within modes.Special frames state) (plains : List Plain)
    (at : ℕ) where
  text : is_text state.mode ≡ true
  text = ap is_text within.mode_is

  raw_not : is_raw_mode state.mode ≡ false
  raw_not = ap is_raw_mode within.mode_is

  pub raw_here : (sort : Sort) → is_raw sort ≡ true → sort_at plains at ≡ sort → Loose state.before
      → terminal_of state plains at ≡ terminals.Raw
  unfolding terminal_of
  raw_here sorts.Dot r e f =
      rw (e, terminal_of)
      (if_false (is state.before terminals.Owner && not (spaced_at plains at)) terminals.OwnerDot _
      (no_and _ _ f.owner)
      ∙ if_true (is_text state.mode) terminals.Raw _ text)
  raw_here sorts.Star r e f =
      rw (e, terminal_of) (if_false (is state.before terminals.As) terminals.Star _ f.as_
      ∙ if_false (is state.before terminals.Prefix && not (spaced_at plains at)) terminals.PrefixStar _
      (no_and _ _ f.prefix)
      ∙ if_true (is_text state.mode) terminals.Raw _ text)
  raw_here sorts.Exclamation r e f =
      rw (e, terminal_of)
      (if_false (takes_flags state.mode && _) terminals.Ending _ (no_and _ _ (ap takes_flags within.mode_is))
      ∙ if_true (is_text state.mode) terminals.Raw _ text)
  raw_here sorts.Hex r e f = rw (e, terminal_of) (if_true (is_text state.mode) terminals.Raw _ text)
  raw_here sorts.Quoted r e f = rw (e, terminal_of) (if_true (is_text state.mode) terminals.Raw _ text)
  raw_here sorts.Unnamed r e f = rw (e, terminal_of) (if_true (is_text state.mode) terminals.Raw _ text)
  raw_here sorts.Template r e f = rw (e, terminal_of) (if_true (is_text state.mode) terminals.Raw _ text)
  raw_here sorts.Text r e f = rw (e, terminal_of) (if_true (is_text state.mode) terminals.Raw _ text)
  raw_here sorts.TemplateEnd r e f = rw (e, terminal_of) (if_true (is_text state.mode) terminals.Raw _ text)
  raw_here sorts.Url r e f = rw (e, terminal_of) (if_true (is_text state.mode) terminals.Raw _ text)
  raw_here sorts.UrlTemplate r e f = rw (e, terminal_of) (if_true (is_text state.mode) terminals.Raw _ text)
  raw_here sorts.Piece r e f = rw (e, terminal_of) (if_true (is_text state.mode) terminals.Raw _ text)
  raw_here sorts.UrlEnd r e f = rw (e, terminal_of) (if_true (is_text state.mode) terminals.Raw _ text)
  raw_here sorts.Range r e f = rw (e, terminal_of) (if_true (is_text state.mode) terminals.Raw _ text)
  raw_here sorts.Colon r e f = rw (e, terminal_of) (if_true (is_text state.mode) terminals.Raw _ text)
  raw_here sorts.Ellipsis r e f = rw (e, terminal_of) (if_true (is_text state.mode) terminals.Raw _ text)
  raw_here sorts.Hash r e f = rw (e, terminal_of) (if_true (is_text state.mode) terminals.Raw _ text)
  raw_here sorts.Ampersand r e f = rw (e, terminal_of) (if_true (is_text state.mode) terminals.Raw _ text)
  raw_here sorts.Slash r e f = rw (e, terminal_of) (if_true (is_text state.mode) terminals.Raw _ text)
  raw_here sorts.Percent r e f = rw (e, terminal_of) (if_true (is_text state.mode) terminals.Raw _ text)
  raw_here sorts.Equals r e f = rw (e, terminal_of) (if_true (is_text state.mode) terminals.Raw _ text)
  raw_here sorts.EqualsEquals r e f = rw (e, terminal_of) (if_true (is_text state.mode) terminals.Raw _ text)
  raw_here sorts.NotEquals r e f = rw (e, terminal_of) (if_true (is_text state.mode) terminals.Raw _ text)
  raw_here sorts.Less r e f = rw (e, terminal_of) (if_true (is_text state.mode) terminals.Raw _ text)
  raw_here sorts.LessEquals r e f = rw (e, terminal_of) (if_true (is_text state.mode) terminals.Raw _ text)
  raw_here sorts.Greater r e f = rw (e, terminal_of) (if_true (is_text state.mode) terminals.Raw _ text)
  raw_here sorts.GreaterEquals r e f = rw (e, terminal_of) (if_true (is_text state.mode) terminals.Raw _ text)
  raw_here sorts.Other r e f = rw (e, terminal_of) (if_true (is_text state.mode) terminals.Raw _ text)
  raw_here sorts.AtUse r e f = rw (e, terminal_of)
      (if_false state.start _ _ within.no_start ∙ if_true (is_text state.mode) terminals.Raw _ text)
  raw_here sorts.AtForward r e f = rw (e, terminal_of)
      (if_false state.start _ _ within.no_start ∙ if_true (is_text state.mode) terminals.Raw _ text)
  raw_here sorts.AtFunction r e f = rw (e, terminal_of)
      (if_false state.start _ _ within.no_start ∙ if_true (is_text state.mode) terminals.Raw _ text)
  raw_here sorts.AtMixin r e f = rw (e, terminal_of)
      (if_false state.start _ _ within.no_start ∙ if_true (is_text state.mode) terminals.Raw _ text)
  raw_here sorts.AtInclude r e f = rw (e, terminal_of)
      (if_false state.start _ _ within.no_start ∙ if_true (is_text state.mode) terminals.Raw _ text)
  raw_here sorts.AtContent r e f = rw (e, terminal_of)
      (if_false state.start _ _ within.no_start ∙ if_true (is_text state.mode) terminals.Raw _ text)
  raw_here sorts.AtReturn r e f = rw (e, terminal_of)
      (if_false state.start _ _ within.no_start ∙ if_true (is_text state.mode) terminals.Raw _ text)
  raw_here sorts.AtWarn r e f = rw (e, terminal_of)
      (if_false state.start _ _ within.no_start ∙ if_true (is_text state.mode) terminals.Raw _ text)
  raw_here sorts.AtDebug r e f = rw (e, terminal_of)
      (if_false state.start _ _ within.no_start ∙ if_true (is_text state.mode) terminals.Raw _ text)
  raw_here sorts.AtError r e f = rw (e, terminal_of)
      (if_false state.start _ _ within.no_start ∙ if_true (is_text state.mode) terminals.Raw _ text)
  raw_here sorts.AtIf r e f = rw (e, terminal_of)
      (if_false state.start _ _ within.no_start ∙ if_true (is_text state.mode) terminals.Raw _ text)
  raw_here sorts.AtElse r e f = rw (e, terminal_of)
      (if_false state.start _ _ within.no_start ∙ if_true (is_text state.mode) terminals.Raw _ text)
  raw_here sorts.AtElseIf r e f = rw (e, terminal_of)
      (if_false state.start _ _ within.no_start ∙ if_true (is_text state.mode) terminals.Raw _ text)
  raw_here sorts.AtEach r e f = rw (e, terminal_of)
      (if_false state.start _ _ within.no_start ∙ if_true (is_text state.mode) terminals.Raw _ text)
  raw_here sorts.AtFor r e f = rw (e, terminal_of)
      (if_false state.start _ _ within.no_start ∙ if_true (is_text state.mode) terminals.Raw _ text)
  raw_here sorts.AtWhile r e f = rw (e, terminal_of)
      (if_false state.start _ _ within.no_start ∙ if_true (is_text state.mode) terminals.Raw _ text)
  raw_here sorts.AtMedia r e f = rw (e, terminal_of)
      (if_false state.start _ _ within.no_start ∙ if_true (is_text state.mode) terminals.Raw _ text)
  raw_here sorts.AtSupports r e f = rw (e, terminal_of)
      (if_false state.start _ _ within.no_start ∙ if_true (is_text state.mode) terminals.Raw _ text)
  raw_here sorts.AtRoot r e f = rw (e, terminal_of)
      (if_false state.start _ _ within.no_start ∙ if_true (is_text state.mode) terminals.Raw _ text)
  raw_here sorts.AtCharset r e f = rw (e, terminal_of)
      (if_false state.start _ _ within.no_start ∙ if_true (is_text state.mode) terminals.Raw _ text)
  raw_here sorts.AtImport r e f = rw (e, terminal_of)
      (if_false state.start _ _ within.no_start ∙ if_true (is_text state.mode) terminals.Raw _ text)
  raw_here sorts.AtExtend r e f = rw (e, terminal_of)
      (if_false state.start _ _ within.no_start ∙ if_true (is_text state.mode) terminals.Raw _ text)
  raw_here sorts.AtName r e f = rw (e, terminal_of)
      (if_false state.start _ _ within.no_start ∙ if_true (is_text state.mode) terminals.Raw _ text)
  raw_here sorts.At r e f = rw (e, terminal_of)
      (if_false state.start _ _ within.no_start ∙ if_true (is_text state.mode) terminals.Raw _ text)
  raw_here _ r e f = absurd (cc)

  inner_raw : is_inner (innermost state.frames) ≡ true
      → sign_in_brackets state.mode (innermost state.frames) ≡ terminals.Raw
  inner_raw i =
      ap (λ (m : Mode). sign_in_brackets m (innermost state.frames)) within.mode_is
      ∙ if_true (is_inner (innermost state.frames)) terminals.Raw terminals.Other i

  -- in brackets of the text
  pub raw_sign_here : (sort : Sort) → is_raw_sign sort ≡ true → sort_at plains at ≡ sort
      → is_outer (innermost state.frames) ≡ false → is_brace (innermost state.frames) ≡ false
      → is_inner (innermost state.frames) ≡ true → terminal_of state plains at ≡ terminals.Raw
  unfolding terminal_of
  raw_sign_here sorts.OpenBrace r e o b i =
      rw (e, terminal_of)
      (if_false (is_custom state.mode && _) terminals.RawBrace _ (no_and _ _ (ap is_custom within.mode_is))
      ∙ if_false (is_outer (innermost state.frames)) terminals.Open _ o ∙ inner_raw i)
  raw_sign_here sorts.CloseBrace r e o b i =
      rw (e, terminal_of) (if_false (is_brace (innermost state.frames)) terminals.RawBraceEnd _ b
      ∙ if_false (is_outer (innermost state.frames)) terminals.Close _ o
      ∙ if_false (is_custom state.mode) terminals.Other _ (ap is_custom within.mode_is) ∙ inner_raw i)
  raw_sign_here sorts.Semicolon r e o b i =
      rw (e, terminal_of) (if_false (is_outer (innermost state.frames)) terminals.Semicolon _ o ∙ inner_raw i)
  raw_sign_here _ r e o b i = absurd (cc)

  pub comma_in_text : sort_at plains at ≡ sorts.Comma → terminal_of state plains at ≡ terminals.SpecialComma
  comma_in_text e = by_comma state plains at e ∙ ap comma_terminal within.mode_is

  pub insert_in_text : sort_at plains at ≡ sorts.OpenInsert → state.word ≡ false
      → terminal_of state plains at ≡ terminals.Insert
  insert_in_text e w =
      by_insert state plains at e ∙ if_false (continues state plains at) terminals.PartInsert _ (no_and state.word _ w)
      ∙ ap (λ (m : Mode). insert_in (record state { mode = m }) plains at) within.mode_is

  pub paren_in_text : sort_at plains at ≡ sorts.OpenParen → state.word ≡ false
      → is state.before terminals.Special ≡ false
      → terminal_of state plains at ≡ terminals.RawParen
  paren_in_text e w s =
      by_paren state plains at e ∙ if_false (is state.before terminals.Special) terminals.RawParen _ s
      ∙ ap (λ (m : Mode). paren_in (record state { mode = m }) plains at) within.mode_is
      ∙ if_false (continues state plains at) terminals.CallParen _ (no_and state.word _ w)

  pub bracket_in_text : sort_at plains at ≡ sorts.OpenBracket → terminal_of state plains at ≡ terminals.RawBracket
  bracket_in_text e = by_bracket state plains at e ∙ if_true (is_text state.mode) terminals.RawBracket _ text

  pub dollar_in_text : sort_at plains at ≡ sorts.Dollar → is state.before terminals.OwnerDot ≡ false
      → name_direct plains (at + 1) ≡ true → terminal_of state plains at ≡ terminals.Dollar
  dollar_in_text e o n =
      by_dollar state plains at e ∙ if_false (is_raw_mode state.mode) terminals.Raw _ raw_not
      ∙ if_false (is state.before terminals.OwnerDot && not (spaced_at plains at)) terminals.OwnerDollar _
      (no_and _ _ o)
      ∙ if_true (is_text state.mode) _ _ text ∙ if_true (name_direct plains (at + 1)) terminals.Dollar _ n

  pub raw_dollar_here : sort_at plains at ≡ sorts.Dollar → is state.before terminals.OwnerDot ≡ false
      → name_direct plains (at + 1) ≡ false → terminal_of state plains at ≡ terminals.Raw
  raw_dollar_here e o n =
      by_dollar state plains at e ∙ if_false (is_raw_mode state.mode) terminals.Raw _ raw_not
      ∙ if_false (is state.before terminals.OwnerDot && not (spaced_at plains at)) terminals.OwnerDollar _
      (no_and _ _ o)
      ∙ if_true (is_text state.mode) _ _ text ∙ if_false (name_direct plains (at + 1)) terminals.Dollar _ n

  pub raw_plus_here : sort_at plains at ≡ sorts.Plus → plus_signs state plains at ≡ false
      → terminal_of state plains at ≡ terminals.Raw
  raw_plus_here e s =
      by_plus state plains at e ∙ if_true (is_text state.mode) _ _ text
      ∙ if_false (plus_signs state plains at && not (is_raw_mode state.mode)) terminals.Sign _ (no_and _ _ s)

  pub plus_sign_here : sort_at plains at ≡ sorts.Plus → plus_signs state plains at ≡ true
      → terminal_of state plains at ≡ terminals.Sign
  plus_sign_here e s =
      by_plus state plains at e ∙ if_true (is_text state.mode) _ _ text
      ∙ if_true (plus_signs state plains at && not (is_raw_mode state.mode)) terminals.Sign _
      (both _ _ s (ap not raw_not))

  minus_in_text : sort_at plains at ≡ sorts.Minus → state.word ≡ false
      → (is state.before terminals.AtInsert || is state.before terminals.WordMinus) ≡ false
      → terminal_of state plains at
      ≡ (if minus_signs state plains at && not (is_raw_mode state.mode) then terminals.Sign else terminals.Raw)
  minus_in_text e w r =
      by_minus state plains at e ∙ if_false (continues state plains at) terminals.Part _ (no_and state.word _ w)
      ∙ if_true (is_text state.mode) _ _ text
      ∙ if_false (names_rule state plains at && _) terminals.WordMinus _ (no_and _ _ (no_and _ _ r))

  pub raw_minus_here : sort_at plains at ≡ sorts.Minus → state.word ≡ false → Loose state.before
      → minus_signs state plains at ≡ false → terminal_of state plains at ≡ terminals.Raw
  raw_minus_here e w f s =
      minus_in_text e w f.rule
      ∙ if_false (minus_signs state plains at && not (is_raw_mode state.mode)) terminals.Sign _ (no_and _ _ s)

  pub minus_sign_here : sort_at plains at ≡ sorts.Minus → state.word ≡ false → Loose state.before
      → minus_signs state plains at ≡ true → terminal_of state plains at ≡ terminals.Sign
  minus_sign_here e w f s =
      minus_in_text e w f.rule
      ∙ if_true (minus_signs state plains at && not (is_raw_mode state.mode)) terminals.Sign _
      (both _ _ s (ap not raw_not))

  -- names
  module _ (named : is_name (sort_at plains at) ≡ true) (word : state.word ≡ false) where
    by_special : behind_dollar state.before ≡ false → is state.before terminals.Hash ≡ false
        → is_bang state.before ≡ false
        → is_apart state plains at ≡ false → terminal_of state plains at ≡ name_in_special state plains at
    by_special d h b a =
        behind refl state within plains at named (no_and state.word _ word)
        ∙ if_false (not (spaced_at plains at) && behind_dollar state.before) terminals.VariableName _ (and_no _ _ d)
        ∙ if_false (not (spaced_at plains at) && is state.before terminals.Hash) terminals.HashName _ (and_no _ _ h)
        ∙ if_false (is_bang state.before) (behind_bang (sort_at plains at)) _ b
        ∙ if_false (is_apart state plains at) terminals.Other _ a
        ∙ ap (λ (m : Mode). name_in (record state { mode = m }) plains at) within.mode_is

    loosely : Loose state.before → terminal_of state plains at ≡ name_in_special state plains at
    loosely f = by_special f.dollar f.hash f.bang (no_and _ _ f.owned)

    pub raw_name_here : Loose state.before → owns plains at ≡ false
        → (is_direct plains (at + 1) sorts.OpenParen && not (stays_text (sort_at plains at))) ≡ false
        → terminal_of state plains at ≡ terminals.Raw
    raw_name_here f o p =
        loosely f ∙ if_false (is state.before terminals.OwnerDot) terminals.Word _ f.owned
        ∙ if_false (owns plains at) terminals.Owner _ o
        ∙ if_false (is_direct plains (at + 1) sorts.OpenParen && not (stays_text (sort_at plains at))) terminals.Word
        _ p

    pub call_name_here : Loose state.before → owns plains at ≡ false
        → (is_direct plains (at + 1) sorts.OpenParen && not (stays_text (sort_at plains at))) ≡ true
        → terminal_of state plains at ≡ terminals.Word
    call_name_here f o p =
        loosely f ∙ if_false (is state.before terminals.OwnerDot) terminals.Word _ f.owned
        ∙ if_false (owns plains at) terminals.Owner _ o
        ∙ if_true (is_direct plains (at + 1) sorts.OpenParen && not (stays_text (sort_at plains at))) terminals.Word _ p

    pub owner_in_text : Loose state.before → owns plains at ≡ true → terminal_of state plains at ≡ terminals.Owner
    owner_in_text f o =
        loosely f ∙ if_false (is state.before terminals.OwnerDot) terminals.Word _ f.owned
        ∙ if_true (owns plains at) terminals.Owner _ o

    pub owned_in_text : state.before ≡ terminals.OwnerDot → spaced_at plains at ≡ false
        → terminal_of state plains at ≡ terminals.Word
    owned_in_text b s =
        by_special (ap behind_dollar b) (ap (λ (t : Terminal). is t terminals.Hash) b) (ap is_bang b)
        (and_no (is state.before terminals.OwnerDot) _ s)
        ∙ if_true (is state.before terminals.OwnerDot) terminals.Word _
        (ap (λ (t : Terminal). is t terminals.OwnerDot) b)
