-- What each choice between terminals tells of the token and of what stands beside it.
use Rattle.std.proofs.Common.{◌≡◌, ℕ, ◌+◌, Bool, true, false, not, ◌&&◌, ◌||◌, if◌then◌else◌, List, Option, Some, None, refl}
use Rattle.sw_parse_terminals.specs.declared.terminal.Terminal.{Terminal}
use Rattle.sw_parse_terminals.specs.declared.terminal.Terminal.TheVariants as terminals
use Rattle.sw_parse_lexemes.specs.declared.sort.Sort.{Sort}
use Rattle.sw_parse_lexemes.specs.declared.sort.Sort.TheVariants as sorts
use Rattle.sw_parse_lexemes.specs.declared.plain.Plain.{Plain}
use Rattle.sw_parse_lexemes.specs.declared.state.Mode.{Mode}
use Rattle.sw_parse_lexemes.specs.declared.state.Mode.TheVariants as modes
use Rattle.sw_parse_lexemes.specs.declared.state.Bracket.{Bracket}
use Rattle.sw_parse_lexemes.specs.declared.state.Bracket.TheVariants as brackets
use Rattle.sw_parse_lexemes.specs.declared.state.Frame.{Frame}
use Rattle.sw_parse_lexemes.specs.declared.state.State.{State}
use Rattle.sw_parse_lexemes.specs.Classes.{is_name, same}
use Rattle.sw_parse_lexemes.specs.Ahead.{sort_at, spaced_at, is_direct, code_from, next_sort, begins_word}
use Rattle.sw_parse_lexemes.specs.Names.{is, is_raw, is_bang, is_apart, continues, behind_dollar, behind_bang, constant_or_word, is_special_name, name_in_expression, stays_text, owns, name_in_special, word_in_load, before_member, using_or_named, name_in_include, is_only, name_in_media, is_in, is_from, is_bound_end, name_in, name_terminal}
use Rattle.sw_parse_lexemes.specs.Signs.{is_text, or_raw, names_rule, insert_in, comma_terminal}
use Rattle.sw_parse_lexemes.specs.Brackets.{is_inner, is_custom, stray, closes_paren, closes_bracket, sign_in_brackets, plain_paren, opens_condition, paren_in}
use Rattle.sw_parse_lexemes.specs.Terminals.{loaded_url, goes_on, at_terminal}
use Rattle.sw_text_scan.proofs.Bounds.{and_left}
use Rattle.sw_convert_spelling.proofs.Choices.{both}
use Rattle.sw_convert_passing.specs.Kinds.{is_part}
use Rattle.sw_convert_texts.specs.RawKinds.{is_at}

abbrev pub is_url : Sort → Bool
is_url sorts.Url = true
is_url _ = false

abbrev pub is_minus : Sort → Bool
is_minus sorts.Minus = true
is_minus _ = false

abbrev pub is_lone_at : Sort → Bool
is_lone_at sorts.At = true
is_lone_at _ = false

abbrev pub is_comma : Sort → Bool
is_comma sorts.Comma = true
is_comma _ = false

abbrev pub is_open_paren : Sort → Bool
is_open_paren sorts.OpenParen = true
is_open_paren _ = false

abbrev pub is_close_paren : Sort → Bool
is_close_paren sorts.CloseParen = true
is_close_paren _ = false

abbrev pub is_open_bracket : Sort → Bool
is_open_bracket sorts.OpenBracket = true
is_open_bracket _ = false

abbrev pub is_close_bracket : Sort → Bool
is_close_bracket sorts.CloseBracket = true
is_close_bracket _ = false

abbrev pub is_template : Sort → Bool
is_template sorts.Template = true
is_template _ = false

abbrev pub is_template_end : Sort → Bool
is_template_end sorts.TemplateEnd = true
is_template_end _ = false

abbrev pub is_hash : Sort → Bool
is_hash sorts.Hash = true
is_hash _ = false

abbrev pub is_hex : Sort → Bool
is_hex sorts.Hex = true
is_hex _ = false

abbrev pub is_text_sort : Sort → Bool
is_text_sort sorts.Text = true
is_text_sort _ = false

abbrev pub is_opened_insert : Sort → Bool
is_opened_insert sorts.OpenInsert = true
is_opened_insert _ = false

-- comments, and the parts of one, or text in a url
abbrev pub is_whole_comment : Sort → Bool
is_whole_comment sorts.Comment = true
is_whole_comment _ = false

abbrev pub is_opened_comment : Sort → Bool
is_opened_comment sorts.CommentTemplate = true
is_opened_comment _ = false

abbrev pub is_closed_comment : Sort → Bool
is_closed_comment sorts.CommentEnd = true
is_closed_comment _ = false

abbrev pub is_piece : Sort → Bool
is_piece sorts.Piece = true
is_piece _ = false

-- a token of a sort may be a terminal, where it goes on with a word directly before it or not, and where a `#{` stands
-- directly behind it or not; of the terminals that aren't named here nothing is said
abbrev pub comes : Terminal → Sort → Bool → Bool → Bool → Bool
comes terminals.Word sort goes inserts touches = is_name sort
comes terminals.Special sort goes inserts touches = is_name sort
comes terminals.Custom sort goes inserts touches = is_name sort
comes terminals.AtOther sort goes inserts touches = is_at sort
comes terminals.AtInsert sort goes inserts touches = is_lone_at sort
comes terminals.WordMinus sort goes inserts touches = inserts && is_minus sort
comes terminals.Part sort goes inserts touches = goes && is_part sort
comes terminals.PartInsert sort goes inserts touches = goes
comes terminals.Url sort goes inserts touches = is_url sort
comes terminals.Template sort goes inserts touches = is_template sort
comes terminals.TemplateEnd sort goes inserts touches = is_template_end sort
comes terminals.TextPiece sort goes inserts touches = is_text_sort sort
comes terminals.Hash sort goes inserts touches = is_hash sort
comes terminals.HashName sort goes inserts touches = is_hex sort || (touches && is_name sort)
comes terminals.SpecialComma sort goes inserts touches = is_comma sort
comes terminals.RawParen sort goes inserts touches = is_open_paren sort
comes terminals.RawParenEnd sort goes inserts touches = is_close_paren sort
comes terminals.RawBracket sort goes inserts touches = is_open_bracket sort
comes terminals.RawBracketEnd sort goes inserts touches = is_close_bracket sort
comes terminals.WordInsert sort goes inserts touches = is_opened_insert sort
comes terminals.Named sort goes inserts touches = is_name sort
comes terminals.Prefix sort goes inserts touches = is_name sort
comes terminals.CommentWhole sort goes inserts touches = is_whole_comment sort
comes terminals.CommentTemplate sort goes inserts touches = is_opened_comment sort
comes terminals.CommentEnd sort goes inserts touches = is_closed_comment sort
comes terminals.Piece sort goes inserts touches = is_piece sort
comes _ sort goes inserts touches = true

or_more : (a b : Bool) → b ≡ true → (a || b) ≡ true
or_more true b e = refl
or_more false b e = e

part_name : (sort : Sort) → is_name sort ≡ true → is_part sort ≡ true
part_name sorts.Digits n = refl
part_name sorts.Minus n = refl
part_name _ n = n

pub record Fit (sort : Sort) (goes inserts touches : Bool) (terminal : Terminal) : Type 0 where
  pub fit : comes terminal sort goes inserts touches ≡ true

module _ (it : Sort) (goes inserts touches : Bool) where
  pub leaf : (terminal : Terminal) → comes terminal it goes inserts touches ≡ true → Fit it goes inserts touches terminal
  leaf terminal e = record { fit = e }

  pub pick : (b : Bool) (x y : Terminal) → comes x it goes inserts touches ≡ true → comes y it goes inserts touches ≡ true → Fit it goes inserts touches (if b then x else y)
  pick true x y p q = leaf x p
  pick false x y p q = leaf y q

  pub or_fits : (mode : Mode) (terminal : Terminal) → comes terminal it goes inserts touches ≡ true → Fit it goes inserts touches (or_raw mode terminal)
  or_fits mode terminal e = pick (is_text mode) terminals.Raw terminal refl e

  pub choice : (b : Bool) (x y : Terminal) → Fit it goes inserts touches x → Fit it goes inserts touches y → Fit it goes inserts touches (if b then x else y)
  choice true x y p q = p
  choice false x y p q = q

  -- the first where the test holds
  pub when : (b : Bool) (x y : Terminal) → (b ≡ true → Fit it goes inserts touches x) → Fit it goes inserts touches y
      → Fit it goes inserts touches (if b then x else y)
  when true x y p q = p refl
  when false x y p q = q

  pub at_fits : is_at it ≡ true → (state : State) (plains : List Plain) (at : ℕ) (terminal : Terminal) → Fit it goes inserts touches terminal
      → Fit it goes inserts touches (at_terminal state plains at terminal)
  at_fits keyword state plains at terminal calm =
      choice state.start _ _ (choice (goes_on plains at) _ _ (leaf terminals.AtOther keyword) calm)
      (or_fits state.mode terminals.Other refl)

  module _ (n : is_name it ≡ true) where
    constant_fits : (sort : Sort) → Fit it goes inserts touches (constant_or_word sort)
    constant_fits sorts.True = leaf _ refl
    constant_fits sorts.False = leaf _ refl
    constant_fits sorts.Null = leaf _ refl
    constant_fits sorts.And = leaf _ refl
    constant_fits sorts.Or = leaf _ refl
    constant_fits sorts.Not = leaf _ refl
    constant_fits _ = leaf _ n

    flag_fits : (sort : Sort) → Fit it goes inserts touches (behind_bang sort)
    flag_fits sorts.Important = leaf _ refl
    flag_fits sorts.Default = leaf _ refl
    flag_fits sorts.Global = leaf _ refl
    flag_fits _ = leaf _ n

    load_fits : (sort : Sort) → Fit it goes inserts touches (word_in_load sort)
    load_fits sorts.As = leaf _ refl
    load_fits sorts.With = leaf _ refl
    load_fits sorts.Show = leaf _ refl
    load_fits sorts.Hide = leaf _ refl
    load_fits _ = leaf _ n

    using_fits : (sort : Sort) → Fit it goes inserts touches (using_or_named sort)
    using_fits sorts.Using = leaf _ refl
    using_fits _ = leaf _ n

    module _ (state : State) (plains : List Plain) (at : ℕ) where
      expression_fits : Fit it goes inserts touches (name_in_expression state plains at)
      expression_fits =
          choice (is_direct plains (at + 1) sorts.OpenInsert) _ _ (leaf terminals.Word n)
          (choice (is state.before terminals.OwnerDot) _ _ (constant_fits (sort_at plains at))
          (choice (is_direct plains (at + 1) sorts.Dot) _ _ (leaf terminals.Owner refl)
          (choice (is_special_name (sort_at plains at) && is_direct plains (at + 1) sorts.OpenParen) _ _
          (leaf terminals.Special n) (constant_fits (sort_at plains at)))))

      special_fits : Fit it goes inserts touches (name_in_special state plains at)
      special_fits =
          choice (is state.before terminals.OwnerDot) _ _ (leaf terminals.Word n)
          (choice (owns plains at) _ _ (leaf terminals.Owner refl)
          (pick (is_direct plains (at + 1) sorts.OpenParen && not (stays_text (sort_at plains at))) terminals.Word
          terminals.Raw n refl))

      include_fits : Fit it goes inserts touches (name_in_include state plains at)
      include_fits =
          choice (is state.before terminals.AtInclude) _ _
          (pick (is_direct plains (at + 1) sorts.Dot) terminals.Owner terminals.Named refl n)
          (choice (is state.before terminals.OwnerDot) _ _ (leaf terminals.Named n) (using_fits (sort_at plains at)))

      media_fits : Fit it goes inserts touches (name_in_media state plains at)
      media_fits =
          choice (is_direct plains (at + 1) sorts.OpenInsert) _ _ (leaf terminals.Word n)
          (choice (same (sort_at plains at) sorts.Not) _ _
          (pick (is state.before terminals.And
          || (is state.before terminals.ConditionParen || same (next_sort plains at) sorts.OpenParen)) terminals.Not
          terminals.NotType refl refl)
          (choice (is_only (sort_at plains at)) _ _
          (pick (begins_word plains (code_from plains (at + 1))) terminals.Only terminals.Word refl n)
          (constant_fits (sort_at plains at))))

      bounds_fits : (sort : Sort)
          → Fit it goes inserts touches (elim sort as (λ _. Terminal) [
            | sorts.Through ↦ if is_bound_end plains at then terminals.Through else name_in_expression state plains at
            | sorts.To ↦ if is_bound_end plains at then terminals.To else name_in_expression state plains at
            | _ ↦ name_in_expression state plains at
          ])
      bounds_fits sorts.Through =
          choice (is_bound_end plains at) terminals.Through (name_in_expression state plains at)
          (leaf terminals.Through refl)
          expression_fits
      bounds_fits sorts.To =
          choice (is_bound_end plains at) terminals.To (name_in_expression state plains at) (leaf terminals.To refl)
          expression_fits
      bounds_fits _ = expression_fits

      in_mode : (mode : Mode) → Fit it goes inserts touches (name_in (record state { mode = mode }) plains at)
      in_mode modes.Special = special_fits
      in_mode modes.CustomName = leaf terminals.Custom n
      in_mode modes.Use = choice (is state.before terminals.As) _ _ (leaf terminals.Named n)
          (load_fits (sort_at plains at))
      in_mode modes.Forward =
          choice (is state.before terminals.As) _ _ (leaf terminals.Prefix n)
          (choice (before_member state.before) _ _ (leaf terminals.Named n) (load_fits (sort_at plains at)))
      in_mode modes.Head = leaf terminals.Named n
      in_mode modes.Include = include_fits
      in_mode modes.Each =
          pick (is state.before terminals.VariableName && is_in (sort_at plains at)) terminals.In terminals.Named refl n
      in_mode modes.For =
          pick (is state.before terminals.VariableName && is_from (sort_at plains at)) terminals.From terminals.Named refl n
      in_mode modes.Bounds = bounds_fits (sort_at plains at)
      in_mode modes.BoundEnds = bounds_fits (sort_at plains at)
      in_mode modes.Else = leaf terminals.If refl
      in_mode modes.Media = media_fits
      in_mode _ = expression_fits

      pub name_fits : (continues state plains at ≡ true → goes ≡ true) → (not (spaced_at plains at) ≡ true → touches ≡ true)
          → Fit it goes inserts touches (name_terminal state plains at)
      name_fits going touching =
          when (continues state plains at) _ _ (λ c. leaf terminals.Part (both goes (is_part it) (going c) (part_name it n)))
          (choice (is_raw state.mode) _ _ (leaf terminals.Raw refl)
          (choice (not (spaced_at plains at) && behind_dollar state.before) _ _ (leaf terminals.VariableName refl)
          (when (not (spaced_at plains at) && is state.before terminals.Hash) _ _
          (λ c. leaf terminals.HashName (or_more (is_hex it) _ (both touches (is_name it) (touching (and_left (not (spaced_at plains at)) _ c)) n)))
          (choice (is_bang state.before) _ _ (flag_fits (sort_at plains at))
          (choice (is_apart state plains at) _ _ (leaf terminals.Other refl) (in_mode state.mode))))))

  module _ (state : State) (plains : List Plain) (at : ℕ) where
    loaded_fits : (named : Bool) → Fit it goes inserts touches (loaded_url plains at named)
    loaded_fits named =
        pick (named || same (next_sort plains at) sorts.As) terminals.LoadUrl terminals.Other refl refl

    pub string_fits : (named : Bool) (before : Terminal)
        → Fit it goes inserts touches (elim before as (λ _. Terminal) [
          | terminals.AtCharset ↦ terminals.Plain
          | terminals.AtForward ↦ terminals.LoadUrl
          | terminals.AtUse ↦ loaded_url plains at named
          | _ ↦ terminals.Quoted
        ])
    string_fits named terminals.AtCharset = leaf terminals.Plain refl
    string_fits named terminals.AtForward = leaf terminals.LoadUrl refl
    string_fits named terminals.AtUse = loaded_fits named
    string_fits named _ = leaf terminals.Quoted refl

    inserted_fits : is_opened_insert it ≡ true
        → Fit it goes inserts touches (if is_apart state plains at then terminals.Other else terminals.WordInsert)
    inserted_fits opened = pick (is_apart state plains at) terminals.Other terminals.WordInsert refl opened

    pub insert_fits : is_opened_insert it ≡ true → (mode : Mode)
        → Fit it goes inserts touches (insert_in (record state { mode = mode }) plains at)
    insert_fits opened modes.Raw = pick (names_rule state plains at) terminals.WordInsert terminals.Insert opened refl
    insert_fits opened modes.Custom = leaf terminals.Insert refl
    insert_fits opened modes.Special = leaf terminals.Insert refl
    insert_fits opened modes.Text = leaf terminals.Insert refl
    insert_fits opened _ = inserted_fits opened

    opened_fits : Fit it goes inserts touches (if continues state plains at then terminals.CallParen else plain_paren plains at)
    opened_fits =
        choice (continues state plains at) terminals.CallParen (plain_paren plains at) (leaf terminals.CallParen refl)
        (pick (opens_condition plains (code_from plains (at + 1))) terminals.ConditionParen terminals.Paren refl refl)

    pub paren_fits : is_open_paren it ≡ true → (mode : Mode) → Fit it goes inserts touches (paren_in (record state { mode = mode }) plains at)
    paren_fits opened modes.Raw = leaf terminals.RawParen opened
    paren_fits opened modes.Custom = leaf terminals.RawParen opened
    paren_fits opened modes.Special = pick (continues state plains at) terminals.CallParen terminals.RawParen refl opened
    paren_fits opened modes.Use = leaf terminals.HeadParen refl
    paren_fits opened modes.Forward = leaf terminals.HeadParen refl
    paren_fits opened modes.Head = leaf terminals.HeadParen refl
    paren_fits opened modes.Include =
        choice (is state.before terminals.Named && not (spaced_at plains at)) _ _ (leaf terminals.CallParen refl)
        (pick (is state.before terminals.Using) terminals.HeadParen terminals.Other refl refl)
    paren_fits opened modes.Content = leaf terminals.CallParen refl
    paren_fits opened _ = opened_fits

  pub comma_fits : is_comma it ≡ true → (mode : Mode) → Fit it goes inserts touches (comma_terminal mode)
  comma_fits comma modes.Special = leaf terminals.SpecialComma comma
  comma_fits comma modes.Raw = leaf terminals.Raw refl
  comma_fits comma modes.Custom = leaf terminals.Raw refl
  comma_fits comma _ = leaf terminals.Comma refl

  stray_fits : (mode : Mode) → Fit it goes inserts touches (stray mode)
  stray_fits mode = pick (is_text mode && not (is_custom mode)) terminals.Raw terminals.Other refl refl

  pub close_paren_fits : is_close_paren it ≡ true → (mode : Mode) (frame : Option Frame) → Fit it goes inserts touches (closes_paren mode frame)
  close_paren_fits close mode None = stray_fits mode
  close_paren_fits close mode (Some frame) = by_kind frame.bracket
    where
      by_kind : (kind : Bracket)
          → Fit it goes inserts touches (elim kind as (λ _. Terminal) [
            | brackets.Paren ↦ if is frame.opened terminals.RawParen then terminals.RawParenEnd else terminals.ParenEnd
            | _ ↦ stray mode
          ])
      by_kind brackets.Paren = pick (is frame.opened terminals.RawParen) terminals.RawParenEnd terminals.ParenEnd close refl
      by_kind _ = stray_fits mode

  pub close_bracket_fits : is_close_bracket it ≡ true → (mode : Mode) (frame : Option Frame) → Fit it goes inserts touches (closes_bracket mode frame)
  close_bracket_fits close mode None = stray_fits mode
  close_bracket_fits close mode (Some frame) = by_kind frame.bracket
    where
      by_kind : (kind : Bracket)
          → Fit it goes inserts touches (elim kind as (λ _. Terminal) [
            | brackets.Bracket ↦
                if is frame.opened terminals.RawBracket then terminals.RawBracketEnd else terminals.BracketEnd
            | _ ↦ stray mode
          ])
      by_kind brackets.Bracket =
          pick (is frame.opened terminals.RawBracket) terminals.RawBracketEnd terminals.BracketEnd close refl
      by_kind _ = stray_fits mode

  pub inside_fits : (mode : Mode) (frame : Option Frame) → Fit it goes inserts touches (sign_in_brackets mode frame)
  inside_fits modes.Special frame = pick (is_inner frame) terminals.Raw terminals.Other refl refl
  inside_fits modes.Raw frame = leaf terminals.Raw refl
  inside_fits modes.Custom frame = leaf terminals.Raw refl
  inside_fits _ frame = leaf terminals.Other refl
