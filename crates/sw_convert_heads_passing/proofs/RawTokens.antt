-- What one token is in raw text.
use Rattle.std.proofs.Common.{◌≡◌, ℕ, Bool, true, false, not, ◌&&◌, ◌||◌, nat_lt, if◌then◌else◌, List, Option, Some, None, refl, ◌∙◌, ap}
use Rattle.sw_text_scan.proofs.Bounds.{if_true, if_false}
use Rattle.sw_parse_terminals.specs.declared.terminal.Terminal.{Terminal}
use Rattle.sw_parse_terminals.specs.declared.terminal.Terminal.TheVariants as terminals
use Rattle.sw_parse_lexemes.specs.declared.sort.Sort.{Sort}
use Rattle.sw_parse_lexemes.specs.declared.sort.Sort.TheVariants as sorts
use Rattle.sw_parse_lexemes.specs.declared.plain.Plain.{Plain}
use Rattle.sw_parse_lexemes.specs.declared.state.Mode.{Mode}
use Rattle.sw_parse_lexemes.specs.declared.state.Mode.TheVariants as modes
use Rattle.sw_parse_lexemes.specs.declared.state.Bracket.{Bracket}
use Rattle.sw_parse_lexemes.specs.declared.state.Bracket.TheVariants as brackets
use Rattle.sw_parse_lexemes.specs.declared.state.Frame.{Frame}
use Rattle.sw_parse_lexemes.specs.declared.state.State.{State}
use Rattle.sw_parse_lexemes.specs.Classes.{is_name, is_number}
use Rattle.sw_parse_lexemes.specs.Ahead.{sort_at, spaced_at, length_at}
use Rattle.sw_parse_lexemes.specs.Names.{is, continues}
use Rattle.sw_parse_lexemes.specs.Names.{is_raw as is_raw_mode}
use Rattle.sw_parse_lexemes.specs.Signs.{is_text, plus_signs, minus_signs, names_rule, takes_flags, insert_in, comma_terminal}
use Rattle.sw_parse_lexemes.specs.Brackets.{innermost, is_outer, is_brace, is_custom, stray, paren_in, closes_paren, closes_bracket, sign_in_brackets}
use Rattle.sw_parse_lexemes.specs.Terminals.{terminal_of}
use Rattle.sw_parse_lexemes.proofs.NameLaws.{name_there}
use Rattle.sw_convert_passing.specs.Written.{Within}
use Rattle.sw_convert_passing.specs.Kinds.{is_raw}
use Rattle.sw_convert_passing.proofs.Facts.{no_and, and_no, both, and_left, and_right}
use Rattle.sw_convert_passing.proofs.BySort.{by_digits, by_number, by_insert, by_paren, by_dollar, by_plus, by_minus, by_bracket, by_comma}
use Rattle.sw_convert_passing.proofs.Enclosed.{closing_paren, closing_bracket}
use Rattle.sw_convert_heads_passing.specs.RawTexts.{Around, Outside, Parens, Squares, Braces, is_outside, is_parens, is_squares, is_braces, is_text_sign, is_stray, IsAround, precedes_text, TextBegins, AreBraces}

-- the modes of raw text
pub record RawMode (mode : Mode) : Type 0 where
  pub text : is_text mode ≡ true
  pub flags : takes_flags mode ≡ false
  pub comma : comma_terminal mode ≡ terminals.Raw

pub raw_mode : (mode : Mode) → is_raw_mode mode ≡ true → RawMode mode
raw_mode modes.Raw r = record { text = refl; flags = refl; comma = refl }
raw_mode modes.Custom r = record { text = refl; flags = refl; comma = refl }
raw_mode _ r = absurd (cc)

-- behind these terminals a token is told by nothing before it
pub record Leading (before : Terminal) : Type 0 where
  pub owner : is before terminals.Owner ≡ false
  pub as_ : is before terminals.As ≡ false
  pub prefix : is before terminals.Prefix ≡ false
  pub special : is before terminals.Special ≡ false
  pub rule : (is before terminals.AtInsert || is before terminals.WordMinus) ≡ false

pub leading : (before : Terminal) → precedes_text before ≡ true → Leading before
leading terminals.Owner e = absurd (cc)
leading terminals.As e = absurd (cc)
leading terminals.Prefix e = absurd (cc)
leading terminals.Special e = absurd (cc)
leading terminals.AtInsert e = absurd (cc)
leading terminals.WordMinus e = absurd (cc)
leading _ e = record { owner = refl; as_ = refl; prefix = refl; special = refl; rule = refl }

not_false : (b : Bool) → not b ≡ true → b ≡ false
not_false true e = absurd (cc)
not_false false e = refl

-- ---- what is round a text

outer_paren : (bracket : Bracket) (mode : Mode) (closing : Terminal)
    → (elim bracket as (λ _. Bool) [ brackets.Block ↦ true | _ ↦ false ]) ≡ true
    → (elim bracket as (λ _. Terminal) [ brackets.Paren ↦ closing | _ ↦ stray mode ]) ≡ stray mode
outer_paren brackets.Paren mode closing e = absurd (cc)
outer_paren _ mode closing e = refl

outer_bracket : (bracket : Bracket) (mode : Mode) (closing : Terminal)
    → (elim bracket as (λ _. Bool) [ brackets.Block ↦ true | _ ↦ false ]) ≡ true
    → (elim bracket as (λ _. Terminal) [ brackets.Bracket ↦ closing | _ ↦ stray mode ]) ≡ stray mode
outer_bracket brackets.Bracket mode closing e = absurd (cc)
outer_bracket _ mode closing e = refl

outer_brace : (bracket : Bracket) → (elim bracket as (λ _. Bool) [ brackets.Block ↦ true | _ ↦ false ]) ≡ true
    → (elim bracket as (λ _. Bool) [ brackets.Brace ↦ true | _ ↦ false ]) ≡ false
outer_brace brackets.Brace e = absurd (cc)
outer_brace _ e = refl

-- how brackets are read there
pub record Round (around : Around) (found : Option Frame) : Type 0 where
  pub outer : is_outer found ≡ is_outside around
  pub brace : is_brace found ≡ is_braces around
  pub paren : (mode : Mode) → closes_paren mode found ≡ (if is_parens around then terminals.RawParenEnd else stray mode)
  pub bracket : (mode : Mode)
      → closes_bracket mode found ≡ (if is_squares around then terminals.RawBracketEnd else stray mode)

round_outside : (found : Option Frame) → is_outer found ≡ true → Round Outside found
round_outside None o = record { outer = refl; brace = refl; paren = λ mode. refl; bracket = λ mode. refl }
round_outside (Some frame) o = record {
  outer = o;
  brace = outer_brace frame.bracket o;
  paren = λ mode. outer_paren frame.bracket mode _ o;
  bracket = λ mode. outer_bracket frame.bracket mode _ o;
}

-- the innermost bracket, by what it is and what opened it
paren_by : (mode : Mode) (bracket : Bracket) (opened : Terminal) → Terminal
paren_by mode bracket opened =
    elim bracket as (λ _. Terminal) [
      | brackets.Paren ↦ if is opened terminals.RawParen then terminals.RawParenEnd else terminals.ParenEnd
      | _ ↦ stray mode
    ]

bracket_by : (mode : Mode) (bracket : Bracket) (opened : Terminal) → Terminal
bracket_by mode bracket opened =
    elim bracket as (λ _. Terminal) [
      | brackets.Bracket ↦ if is opened terminals.RawBracket then terminals.RawBracketEnd else terminals.BracketEnd
      | _ ↦ stray mode
    ]

round_in : (around : Around) (bracket : Bracket) (by : Terminal) (found : Option Frame) (frame : Frame)
    → found ≡ Some frame → frame.bracket ≡ bracket → frame.opened ≡ by
    → (elim bracket as (λ _. Bool) [ brackets.Block ↦ true | _ ↦ false ]) ≡ is_outside around
    → (elim bracket as (λ _. Bool) [ brackets.Brace ↦ true | _ ↦ false ]) ≡ is_braces around
    → ((mode : Mode) → paren_by mode bracket by ≡ (if is_parens around then terminals.RawParenEnd else stray mode))
    → ((mode : Mode)
    → bracket_by mode bracket by ≡ (if is_squares around then terminals.RawBracketEnd else stray mode))
    → Round around found
unfolding paren_by bracket_by
round_in around bracket by found frame is b o outer brace paren square = record {
  outer = ap is_outer is ∙ ap (λ (x : Bracket). elim x as (λ _. Bool) [ brackets.Block ↦ true | _ ↦ false ]) b ∙ outer;
  brace = ap is_brace is ∙ ap (λ (x : Bracket). elim x as (λ _. Bool) [ brackets.Brace ↦ true | _ ↦ false ]) b ∙ brace;
  paren = λ mode. ap (closes_paren mode) is ∙ ap (λ (x : Bracket). paren_by mode x frame.opened) b
      ∙ ap (λ (x : Terminal). paren_by mode bracket x) o ∙ paren mode;
  bracket = λ mode. ap (closes_bracket mode) is ∙ ap (λ (x : Bracket). bracket_by mode x frame.opened) b
      ∙ ap (λ (x : Terminal). bracket_by mode bracket x) o ∙ square mode;
}

pub round_of : (around : Around) (frames : List Frame) → IsAround around frames → Round around (innermost frames)
unfolding paren_by bracket_by
round_of Outside frames o = round_outside (innermost frames) o
round_of Parens frames i =
    round_in Parens brackets.Paren terminals.RawParen (innermost frames) i.frame i.is i.bracket_is i.opened_is refl refl
    (λ mode. refl) (λ mode. refl)
round_of Squares frames i =
    round_in Squares brackets.Bracket terminals.RawBracket (innermost frames) i.frame i.is i.bracket_is i.opened_is refl
    refl (λ mode. refl) (λ mode. refl)
round_of Braces frames i =
    round_in Braces brackets.Brace terminals.RawBrace (innermost frames) i.frame i.is i.bracket_is i.opened_is refl refl
    (λ mode. refl) (λ mode. refl)

-- ---- one token

module _ {mode : Mode} {frames : List Frame} (state : State) (raw : is_raw_mode mode ≡ true)
    (within : Within mode frames state) (plains : List Plain) (at : ℕ) (begins : TextBegins plains state at) where
  facts : Leading state.before
  facts = leading state.before begins.before

  is_one : is_raw_mode state.mode ≡ true
  is_one = ap is_raw_mode within.mode_is ∙ raw

  text : is_text state.mode ≡ true
  text = ap is_text within.mode_is ∙ (raw_mode mode raw).text

  pub token_here : (sort : Sort) → is_raw sort ≡ true → sort_at plains at ≡ sort
      → terminal_of state plains at ≡ terminals.Raw
  unfolding terminal_of
  token_here sorts.Dot r e =
      rw (e, terminal_of)
      (if_false (is state.before terminals.Owner && not (spaced_at plains at)) terminals.OwnerDot _
      (no_and _ _ facts.owner)
      ∙ if_true (is_text state.mode) terminals.Raw _ text)
  token_here sorts.Star r e =
      rw (e, terminal_of)
      (if_false (is state.before terminals.As) terminals.Star _ facts.as_
      ∙ if_false (is state.before terminals.Prefix && not (spaced_at plains at)) terminals.PrefixStar _
      (no_and _ _ facts.prefix)
      ∙ if_true (is_text state.mode) terminals.Raw _ text)
  token_here sorts.Exclamation r e =
      rw (e, terminal_of)
      (if_false (takes_flags state.mode && _) terminals.Ending _
      (no_and _ _ (ap takes_flags within.mode_is ∙ (raw_mode mode raw).flags))
      ∙ if_true (is_text state.mode) terminals.Raw _ text)
  token_here sorts.Hex r e = rw (e, terminal_of) (if_true (is_text state.mode) terminals.Raw _ text)
  token_here sorts.Quoted r e = rw (e, terminal_of) (if_true (is_text state.mode) terminals.Raw _ text)
  token_here sorts.Unnamed r e = rw (e, terminal_of) (if_true (is_text state.mode) terminals.Raw _ text)
  token_here sorts.Template r e = rw (e, terminal_of) (if_true (is_text state.mode) terminals.Raw _ text)
  token_here sorts.Text r e = rw (e, terminal_of) (if_true (is_text state.mode) terminals.Raw _ text)
  token_here sorts.TemplateEnd r e = rw (e, terminal_of) (if_true (is_text state.mode) terminals.Raw _ text)
  token_here sorts.Url r e = rw (e, terminal_of) (if_true (is_text state.mode) terminals.Raw _ text)
  token_here sorts.UrlTemplate r e = rw (e, terminal_of) (if_true (is_text state.mode) terminals.Raw _ text)
  token_here sorts.Piece r e = rw (e, terminal_of) (if_true (is_text state.mode) terminals.Raw _ text)
  token_here sorts.UrlEnd r e = rw (e, terminal_of) (if_true (is_text state.mode) terminals.Raw _ text)
  token_here sorts.Range r e = rw (e, terminal_of) (if_true (is_text state.mode) terminals.Raw _ text)
  token_here sorts.Colon r e = rw (e, terminal_of) (if_true (is_text state.mode) terminals.Raw _ text)
  token_here sorts.Ellipsis r e = rw (e, terminal_of) (if_true (is_text state.mode) terminals.Raw _ text)
  token_here sorts.Hash r e = rw (e, terminal_of) (if_true (is_text state.mode) terminals.Raw _ text)
  token_here sorts.Ampersand r e = rw (e, terminal_of) (if_true (is_text state.mode) terminals.Raw _ text)
  token_here sorts.Slash r e = rw (e, terminal_of) (if_true (is_text state.mode) terminals.Raw _ text)
  token_here sorts.Percent r e = rw (e, terminal_of) (if_true (is_text state.mode) terminals.Raw _ text)
  token_here sorts.Equals r e = rw (e, terminal_of) (if_true (is_text state.mode) terminals.Raw _ text)
  token_here sorts.EqualsEquals r e = rw (e, terminal_of) (if_true (is_text state.mode) terminals.Raw _ text)
  token_here sorts.NotEquals r e = rw (e, terminal_of) (if_true (is_text state.mode) terminals.Raw _ text)
  token_here sorts.Less r e = rw (e, terminal_of) (if_true (is_text state.mode) terminals.Raw _ text)
  token_here sorts.LessEquals r e = rw (e, terminal_of) (if_true (is_text state.mode) terminals.Raw _ text)
  token_here sorts.Greater r e = rw (e, terminal_of) (if_true (is_text state.mode) terminals.Raw _ text)
  token_here sorts.GreaterEquals r e = rw (e, terminal_of) (if_true (is_text state.mode) terminals.Raw _ text)
  token_here sorts.Other r e = rw (e, terminal_of) (if_true (is_text state.mode) terminals.Raw _ text)
  token_here sorts.AtUse r e = rw (e, terminal_of)
      (if_false state.start _ _ within.no_start ∙ if_true (is_text state.mode) terminals.Raw _ text)
  token_here sorts.AtForward r e = rw (e, terminal_of)
      (if_false state.start _ _ within.no_start ∙ if_true (is_text state.mode) terminals.Raw _ text)
  token_here sorts.AtFunction r e = rw (e, terminal_of)
      (if_false state.start _ _ within.no_start ∙ if_true (is_text state.mode) terminals.Raw _ text)
  token_here sorts.AtMixin r e = rw (e, terminal_of)
      (if_false state.start _ _ within.no_start ∙ if_true (is_text state.mode) terminals.Raw _ text)
  token_here sorts.AtInclude r e = rw (e, terminal_of)
      (if_false state.start _ _ within.no_start ∙ if_true (is_text state.mode) terminals.Raw _ text)
  token_here sorts.AtContent r e = rw (e, terminal_of)
      (if_false state.start _ _ within.no_start ∙ if_true (is_text state.mode) terminals.Raw _ text)
  token_here sorts.AtReturn r e = rw (e, terminal_of)
      (if_false state.start _ _ within.no_start ∙ if_true (is_text state.mode) terminals.Raw _ text)
  token_here sorts.AtWarn r e = rw (e, terminal_of)
      (if_false state.start _ _ within.no_start ∙ if_true (is_text state.mode) terminals.Raw _ text)
  token_here sorts.AtDebug r e = rw (e, terminal_of)
      (if_false state.start _ _ within.no_start ∙ if_true (is_text state.mode) terminals.Raw _ text)
  token_here sorts.AtError r e = rw (e, terminal_of)
      (if_false state.start _ _ within.no_start ∙ if_true (is_text state.mode) terminals.Raw _ text)
  token_here sorts.AtIf r e = rw (e, terminal_of)
      (if_false state.start _ _ within.no_start ∙ if_true (is_text state.mode) terminals.Raw _ text)
  token_here sorts.AtElse r e = rw (e, terminal_of)
      (if_false state.start _ _ within.no_start ∙ if_true (is_text state.mode) terminals.Raw _ text)
  token_here sorts.AtElseIf r e = rw (e, terminal_of)
      (if_false state.start _ _ within.no_start ∙ if_true (is_text state.mode) terminals.Raw _ text)
  token_here sorts.AtEach r e = rw (e, terminal_of)
      (if_false state.start _ _ within.no_start ∙ if_true (is_text state.mode) terminals.Raw _ text)
  token_here sorts.AtFor r e = rw (e, terminal_of)
      (if_false state.start _ _ within.no_start ∙ if_true (is_text state.mode) terminals.Raw _ text)
  token_here sorts.AtWhile r e = rw (e, terminal_of)
      (if_false state.start _ _ within.no_start ∙ if_true (is_text state.mode) terminals.Raw _ text)
  token_here sorts.AtMedia r e = rw (e, terminal_of)
      (if_false state.start _ _ within.no_start ∙ if_true (is_text state.mode) terminals.Raw _ text)
  token_here sorts.AtSupports r e = rw (e, terminal_of)
      (if_false state.start _ _ within.no_start ∙ if_true (is_text state.mode) terminals.Raw _ text)
  token_here sorts.AtRoot r e = rw (e, terminal_of)
      (if_false state.start _ _ within.no_start ∙ if_true (is_text state.mode) terminals.Raw _ text)
  token_here sorts.AtCharset r e = rw (e, terminal_of)
      (if_false state.start _ _ within.no_start ∙ if_true (is_text state.mode) terminals.Raw _ text)
  token_here sorts.AtImport r e = rw (e, terminal_of)
      (if_false state.start _ _ within.no_start ∙ if_true (is_text state.mode) terminals.Raw _ text)
  token_here sorts.AtExtend r e = rw (e, terminal_of)
      (if_false state.start _ _ within.no_start ∙ if_true (is_text state.mode) terminals.Raw _ text)
  token_here sorts.AtName r e = rw (e, terminal_of)
      (if_false state.start _ _ within.no_start ∙ if_true (is_text state.mode) terminals.Raw _ text)
  token_here sorts.At r e = rw (e, terminal_of)
      (if_false state.start _ _ within.no_start ∙ if_true (is_text state.mode) terminals.Raw _ text)
  token_here _ r e = absurd (cc)

  pub name_here : is_name (sort_at plains at) ≡ true → terminal_of state plains at ≡ terminals.Raw
  name_here n =
      name_there state plains at n ∙ if_false (continues state plains at) terminals.Part _ begins.word
      ∙ if_true (is_raw_mode state.mode) terminals.Raw _ is_one

  pub number_here : (sort : Sort) → is_number sort ≡ true → sort_at plains at ≡ sort
      → terminal_of state plains at ≡ terminals.Raw
  number_here sorts.Digits n e =
      by_digits state plains at e ∙ if_false (continues state plains at) terminals.Part _ begins.word
      ∙ if_true (is_raw_mode state.mode) terminals.Raw _ is_one
  number_here sorts.Number n e =
      by_number state plains at e ∙ if_true (is_raw_mode state.mode) terminals.Raw _ is_one
  number_here _ n e = absurd (cc)

  pub sign_here : (sort : Sort) → is_text_sign sort ≡ true → sort_at plains at ≡ sort
      → terminal_of state plains at ≡ terminals.Raw
  sign_here sorts.Plus s e =
      by_plus state plains at e ∙ if_true (is_text state.mode) _ _ text
      ∙ if_false (plus_signs state plains at && not (is_raw_mode state.mode)) terminals.Sign _
      (and_no _ _ (ap not is_one))
  sign_here sorts.Minus s e =
      by_minus state plains at e ∙ if_false (continues state plains at) terminals.Part _ begins.word
      ∙ if_true (is_text state.mode) _ _ text
      ∙ if_false (names_rule state plains at && _) terminals.WordMinus _ (no_and _ _ (no_and _ _ facts.rule))
      ∙ if_false (minus_signs state plains at && not (is_raw_mode state.mode)) terminals.Sign _
      (and_no _ _ (ap not is_one))
  sign_here sorts.Dollar s e =
      by_dollar state plains at e ∙ if_true (is_raw_mode state.mode) terminals.Raw _ is_one
  sign_here sorts.Comma s e =
      by_comma state plains at e ∙ ap comma_terminal within.mode_is ∙ (raw_mode mode raw).comma
  sign_here _ s e = absurd (cc)

  raw_stray : not (is_custom mode) ≡ true → stray state.mode ≡ terminals.Raw
  raw_stray c =
      if_true (is_text state.mode && not (is_custom state.mode)) terminals.Raw terminals.Other
      (both _ _ text (ap (λ (m : Mode). not (is_custom m)) within.mode_is ∙ c))

  raw_in_brackets : sign_in_brackets state.mode (innermost state.frames) ≡ terminals.Raw
  raw_in_brackets = go mode state.mode within.mode_is raw
    where
      go : (m n : Mode) → n ≡ m → is_raw_mode m ≡ true → sign_in_brackets n (innermost state.frames) ≡ terminals.Raw
      go modes.Raw n e r = ap (λ (x : Mode). sign_in_brackets x (innermost state.frames)) e
      go modes.Custom n e r = ap (λ (x : Mode). sign_in_brackets x (innermost state.frames)) e
      go _ n e r = absurd (cc)

  module _ (around : Around) (here : Round around (innermost state.frames)) where
    pub stray_here : (sort : Sort) → is_stray mode around sort ≡ true → sort_at plains at ≡ sort
        → terminal_of state plains at ≡ terminals.Raw
    unfolding terminal_of
    stray_here sorts.CloseParen s e =
        closing_paren state plains at e ∙ here.paren state.mode
        ∙ if_false (is_parens around) terminals.RawParenEnd _ (not_false _ (and_right (not (is_custom mode)) _ s))
        ∙ raw_stray (and_left (not (is_custom mode)) _ s)
    stray_here sorts.CloseBracket s e =
        closing_bracket state plains at e ∙ here.bracket state.mode
        ∙ if_false (is_squares around) terminals.RawBracketEnd _ (not_false _ (and_right (not (is_custom mode)) _ s))
        ∙ raw_stray (and_left (not (is_custom mode)) _ s)
    stray_here sorts.OpenBrace s e =
        rw (e, terminal_of)
        (if_false (is_custom state.mode && _) terminals.RawBrace _
        (no_and _ _ (ap is_custom within.mode_is ∙ not_false _ (and_left (not (is_custom mode)) _ s)))
        ∙ if_false (is_outer (innermost state.frames)) terminals.Open _
        (here.outer ∙ not_false _ (and_right (not (is_custom mode)) _ s)) ∙ raw_in_brackets)
    stray_here sorts.CloseBrace s e =
        rw (e, terminal_of)
        (if_false (is_brace (innermost state.frames)) terminals.RawBraceEnd _
        (here.brace ∙ or_right _ _ (not_false _ (and_right (not (is_custom mode)) _ s)))
        ∙ if_false (is_outer (innermost state.frames)) terminals.Close _
        (here.outer ∙ or_left _ _ (not_false _ (and_right (not (is_custom mode)) _ s)))
        ∙ if_false (is_custom state.mode) terminals.Other _
        (ap is_custom within.mode_is ∙ not_false _ (and_left (not (is_custom mode)) _ s)) ∙ raw_in_brackets)
      where
        or_left : (a b : Bool) → (a || b) ≡ false → a ≡ false
        or_left true b e = absurd (cc)
        or_left false b e = refl

        or_right : (a b : Bool) → (a || b) ≡ false → b ≡ false
        or_right true b e = absurd (cc)
        or_right false b e = e
    stray_here sorts.Semicolon s e =
        rw (e, terminal_of)
        (if_false (is_outer (innermost state.frames)) terminals.Semicolon _ (here.outer ∙ not_false _ s)
        ∙ raw_in_brackets)
    stray_here _ s e = absurd (cc)

    pub paren_end_here : is_parens around ≡ true → sort_at plains at ≡ sorts.CloseParen
        → terminal_of state plains at ≡ terminals.RawParenEnd
    paren_end_here p e =
        closing_paren state plains at e ∙ here.paren state.mode ∙ if_true (is_parens around) terminals.RawParenEnd _ p

    pub bracket_end_here : is_squares around ≡ true → sort_at plains at ≡ sorts.CloseBracket
        → terminal_of state plains at ≡ terminals.RawBracketEnd
    bracket_end_here p e =
        closing_bracket state plains at e ∙ here.bracket state.mode
        ∙ if_true (is_squares around) terminals.RawBracketEnd _ p

    pub brace_end_here : is_braces around ≡ true → sort_at plains at ≡ sorts.CloseBrace
        → terminal_of state plains at ≡ terminals.RawBraceEnd
    unfolding terminal_of
    brace_end_here p e =
        rw (e, terminal_of) (if_true (is_brace (innermost state.frames)) terminals.RawBraceEnd _ (here.brace ∙ p))

  pub insert_here : sort_at plains at ≡ sorts.OpenInsert → terminal_of state plains at ≡ terminals.Insert
  insert_here e =
      by_insert state plains at e ∙ if_false (continues state plains at) terminals.PartInsert _ begins.word
      ∙ go mode state.mode within.mode_is raw
    where
      go : (m n : Mode) → n ≡ m → is_raw_mode m ≡ true → insert_in (record state { mode = n }) plains at ≡ terminals.Insert
      go modes.Raw n e r =
          ap (λ (x : Mode). insert_in (record state { mode = x }) plains at) e
          ∙ if_false (names_rule state plains at) terminals.WordInsert _ (no_and _ _ facts.rule)
      go modes.Custom n e r = ap (λ (x : Mode). insert_in (record state { mode = x }) plains at) e
      go _ n e r = absurd (cc)

  pub paren_here : sort_at plains at ≡ sorts.OpenParen → terminal_of state plains at ≡ terminals.RawParen
  paren_here e =
      by_paren state plains at e ∙ if_false (is state.before terminals.Special) terminals.RawParen _ facts.special
      ∙ go mode state.mode within.mode_is raw
    where
      go : (m n : Mode) → n ≡ m → is_raw_mode m ≡ true → paren_in (record state { mode = n }) plains at ≡ terminals.RawParen
      go modes.Raw n e r = ap (λ (x : Mode). paren_in (record state { mode = x }) plains at) e
      go modes.Custom n e r = ap (λ (x : Mode). paren_in (record state { mode = x }) plains at) e
      go _ n e r = absurd (cc)

  pub bracket_here : sort_at plains at ≡ sorts.OpenBracket → terminal_of state plains at ≡ terminals.RawBracket
  bracket_here e = by_bracket state plains at e ∙ if_true (is_text state.mode) terminals.RawBracket _ text

  pub brace_here : is_custom mode ≡ true → AreBraces plains → sort_at plains at ≡ sorts.OpenBrace
      → terminal_of state plains at ≡ terminals.RawBrace
  unfolding terminal_of
  brace_here c braces e =
      rw (e, terminal_of)
      (if_true (is_custom state.mode && nat_lt 0 (length_at plains at)) terminals.RawBrace _
      (both _ _ (ap is_custom within.mode_is ∙ c) (braces at e)))
