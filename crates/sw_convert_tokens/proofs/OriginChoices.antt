-- Which tokens each choice between terminals may stem from.
use Rattle.std.proofs.Common.{◌≡◌, ℕ, ◌+◌, Bool, true, false, not, ◌&&◌, ◌||◌, if◌then◌else◌, List, Option, Some, None, refl}
use Rattle.sw_parse_terminals.specs.declared.terminal.Terminal.{Terminal}
use Rattle.sw_parse_terminals.specs.declared.terminal.Terminal.TheVariants as terminals
use Rattle.sw_parse_lexemes.specs.declared.sort.Sort.{Sort}
use Rattle.sw_parse_lexemes.specs.declared.sort.Sort.TheVariants as sorts
use Rattle.sw_parse_lexemes.specs.declared.plain.Plain.{Plain}
use Rattle.sw_parse_lexemes.specs.declared.state.Mode.{Mode}
use Rattle.sw_parse_lexemes.specs.declared.state.Mode.TheVariants as modes
use Rattle.sw_parse_lexemes.specs.declared.state.Bracket.{Bracket}
use Rattle.sw_parse_lexemes.specs.declared.state.Bracket.TheVariants as brackets
use Rattle.sw_parse_lexemes.specs.declared.state.Frame.{Frame}
use Rattle.sw_parse_lexemes.specs.declared.state.State.{State}
use Rattle.sw_parse_lexemes.specs.Classes.{is_name, is_number, same}
use Rattle.sw_parse_lexemes.specs.Ahead.{sort_at, spaced_at, is_direct, code_from, next_sort, begins_word}
use Rattle.sw_parse_lexemes.specs.Names.{is, is_raw, is_bang, is_apart, continues, behind_dollar, behind_bang, constant_or_word, is_special_name, name_in_expression, stays_text, owns, name_in_special, word_in_load, before_member, using_or_named, name_in_include, is_only, name_in_media, is_in, is_from, is_bound_end, name_in, name_terminal}
use Rattle.sw_parse_lexemes.specs.Signs.{is_text, or_raw, names_rule, insert_in, comma_terminal}
use Rattle.sw_parse_lexemes.specs.Brackets.{is_inner, is_custom, stray, closes_paren, closes_bracket, sign_in_brackets, plain_paren, opens_condition, paren_in}
use Rattle.sw_parse_lexemes.specs.Terminals.{loaded_url, goes_on, at_terminal}
use Rattle.sw_convert_passing.specs.Kinds.{is_hash_name, is_part, is_plus_or_minus}

abbrev pub is_url : Sort → Bool
is_url sorts.Url = true
is_url _ = false

abbrev pub is_range : Sort → Bool
is_range sorts.Range = true
is_range _ = false

-- a token of a sort may be a terminal; of those that aren't named here nothing is said
abbrev pub fits : Terminal → Sort → Bool
fits terminals.VariableName sort = is_name sort
fits terminals.Owner sort = is_name sort
fits terminals.Word sort = is_name sort
fits terminals.Special sort = is_name sort
fits terminals.HashName sort = is_hash_name sort
fits terminals.Part sort = is_part sort
fits terminals.Number sort = is_number sort
fits terminals.Sign sort = is_plus_or_minus sort
fits terminals.Url sort = is_url sort
fits terminals.Range sort = is_range sort
fits _ sort = true

pub hash_name : (sort : Sort) → is_name sort ≡ true → is_hash_name sort ≡ true
hash_name sorts.Hex n = refl
hash_name _ n = n

part_name : (sort : Sort) → is_name sort ≡ true → is_part sort ≡ true
part_name sorts.Digits n = refl
part_name sorts.Minus n = refl
part_name _ n = n

pub record Fit (sort : Sort) (terminal : Terminal) : Type 0 where
  pub fit : fits terminal sort ≡ true

module _ (it : Sort) where
  pub leaf : (terminal : Terminal) → fits terminal it ≡ true → Fit it terminal
  leaf terminal e = record { fit = e }

  pub pick : (b : Bool) (x y : Terminal) → fits x it ≡ true → fits y it ≡ true → Fit it (if b then x else y)
  pick true x y p q = leaf x p
  pick false x y p q = leaf y q

  pub or_fits : (mode : Mode) (terminal : Terminal) → fits terminal it ≡ true → Fit it (or_raw mode terminal)
  or_fits mode terminal e = pick (is_text mode) terminals.Raw terminal refl e

  pub choice : (b : Bool) (x y : Terminal) → Fit it x → Fit it y → Fit it (if b then x else y)
  choice true x y p q = p
  choice false x y p q = q

  pub at_fits : (state : State) (plains : List Plain) (at : ℕ) (terminal : Terminal) → Fit it terminal
      → Fit it (at_terminal state plains at terminal)
  at_fits state plains at terminal calm =
      choice state.start _ _ (choice (goes_on plains at) _ _ (leaf terminals.AtOther refl) calm)
      (or_fits state.mode terminals.Other refl)

  module _ (n : is_name it ≡ true) where
    constant_fits : (sort : Sort) → Fit it (constant_or_word sort)
    constant_fits sorts.True = leaf _ refl
    constant_fits sorts.False = leaf _ refl
    constant_fits sorts.Null = leaf _ refl
    constant_fits sorts.And = leaf _ refl
    constant_fits sorts.Or = leaf _ refl
    constant_fits sorts.Not = leaf _ refl
    constant_fits _ = leaf _ n

    flag_fits : (sort : Sort) → Fit it (behind_bang sort)
    flag_fits sorts.Important = leaf _ refl
    flag_fits sorts.Default = leaf _ refl
    flag_fits sorts.Global = leaf _ refl
    flag_fits _ = leaf _ n

    load_fits : (sort : Sort) → Fit it (word_in_load sort)
    load_fits sorts.As = leaf _ refl
    load_fits sorts.With = leaf _ refl
    load_fits sorts.Show = leaf _ refl
    load_fits sorts.Hide = leaf _ refl
    load_fits _ = leaf _ refl

    using_fits : (sort : Sort) → Fit it (using_or_named sort)
    using_fits sorts.Using = leaf _ refl
    using_fits _ = leaf _ refl

    module _ (state : State) (plains : List Plain) (at : ℕ) where
      expression_fits : Fit it (name_in_expression state plains at)
      expression_fits =
          choice (is_direct plains (at + 1) sorts.OpenInsert) _ _ (leaf terminals.Word n)
          (choice (is state.before terminals.OwnerDot) _ _ (constant_fits (sort_at plains at))
          (choice (is_direct plains (at + 1) sorts.Dot) _ _ (leaf terminals.Owner n)
          (choice (is_special_name (sort_at plains at) && is_direct plains (at + 1) sorts.OpenParen) _ _
          (leaf terminals.Special n) (constant_fits (sort_at plains at)))))

      special_fits : Fit it (name_in_special state plains at)
      special_fits =
          choice (is state.before terminals.OwnerDot) _ _ (leaf terminals.Word n)
          (choice (owns plains at) _ _ (leaf terminals.Owner n)
          (pick (is_direct plains (at + 1) sorts.OpenParen && not (stays_text (sort_at plains at))) terminals.Word
          terminals.Raw n refl))

      include_fits : Fit it (name_in_include state plains at)
      include_fits =
          choice (is state.before terminals.AtInclude) _ _
          (pick (is_direct plains (at + 1) sorts.Dot) terminals.Owner terminals.Named n refl)
          (choice (is state.before terminals.OwnerDot) _ _ (leaf terminals.Named refl) (using_fits (sort_at plains at)))

      media_fits : Fit it (name_in_media state plains at)
      media_fits =
          choice (is_direct plains (at + 1) sorts.OpenInsert) _ _ (leaf terminals.Word n)
          (choice (same (sort_at plains at) sorts.Not) _ _
          (pick (is state.before terminals.And
          || (is state.before terminals.ConditionParen || same (next_sort plains at) sorts.OpenParen)) terminals.Not
          terminals.NotType refl refl)
          (choice (is_only (sort_at plains at)) _ _
          (pick (begins_word plains (code_from plains (at + 1))) terminals.Only terminals.Word refl n)
          (constant_fits (sort_at plains at))))

      bounds_fits : (sort : Sort)
          → Fit it (elim sort as (λ _. Terminal) [
            | sorts.Through ↦ if is_bound_end plains at then terminals.Through else name_in_expression state plains at
            | sorts.To ↦ if is_bound_end plains at then terminals.To else name_in_expression state plains at
            | _ ↦ name_in_expression state plains at
          ])
      bounds_fits sorts.Through =
          choice (is_bound_end plains at) terminals.Through (name_in_expression state plains at)
          (leaf terminals.Through refl)
          expression_fits
      bounds_fits sorts.To =
          choice (is_bound_end plains at) terminals.To (name_in_expression state plains at) (leaf terminals.To refl)
          expression_fits
      bounds_fits _ = expression_fits

      in_mode : (mode : Mode) → Fit it (name_in (record state { mode = mode }) plains at)
      in_mode modes.Special = special_fits
      in_mode modes.CustomName = leaf terminals.Custom refl
      in_mode modes.Use = choice (is state.before terminals.As) _ _ (leaf terminals.Named refl)
          (load_fits (sort_at plains at))
      in_mode modes.Forward =
          choice (is state.before terminals.As) _ _ (leaf terminals.Prefix refl)
          (choice (before_member state.before) _ _ (leaf terminals.Named refl) (load_fits (sort_at plains at)))
      in_mode modes.Head = leaf terminals.Named refl
      in_mode modes.Include = include_fits
      in_mode modes.Each =
          pick (is state.before terminals.VariableName && is_in (sort_at plains at)) terminals.In terminals.Named refl refl
      in_mode modes.For =
          pick (is state.before terminals.VariableName && is_from (sort_at plains at)) terminals.From terminals.Named refl refl
      in_mode modes.Bounds = bounds_fits (sort_at plains at)
      in_mode modes.BoundEnds = bounds_fits (sort_at plains at)
      in_mode modes.Else = leaf terminals.If refl
      in_mode modes.Media = media_fits
      in_mode _ = expression_fits

      pub name_fits : Fit it (name_terminal state plains at)
      name_fits =
          choice (continues state plains at) _ _ (leaf terminals.Part (part_name it n))
          (choice (is_raw state.mode) _ _ (leaf terminals.Raw refl)
          (choice (not (spaced_at plains at) && behind_dollar state.before) _ _ (leaf terminals.VariableName n)
          (choice (not (spaced_at plains at) && is state.before terminals.Hash) _ _ (leaf terminals.HashName (hash_name it n))
          (choice (is_bang state.before) _ _ (flag_fits (sort_at plains at))
          (choice (is_apart state plains at) _ _ (leaf terminals.Other refl) (in_mode state.mode))))))

  module _ (state : State) (plains : List Plain) (at : ℕ) where
    loaded_fits : (named : Bool) → Fit it (loaded_url plains at named)
    loaded_fits named =
        pick (named || same (next_sort plains at) sorts.As) terminals.LoadUrl terminals.Other refl refl

    pub string_fits : (named : Bool) (before : Terminal)
        → Fit it (elim before as (λ _. Terminal) [
          | terminals.AtCharset ↦ terminals.Plain
          | terminals.AtForward ↦ terminals.LoadUrl
          | terminals.AtUse ↦ loaded_url plains at named
          | _ ↦ terminals.Quoted
        ])
    string_fits named terminals.AtCharset = leaf terminals.Plain refl
    string_fits named terminals.AtForward = leaf terminals.LoadUrl refl
    string_fits named terminals.AtUse = loaded_fits named
    string_fits named _ = leaf terminals.Quoted refl

    inserted_fits : Fit it (if is_apart state plains at then terminals.Other else terminals.WordInsert)
    inserted_fits = pick (is_apart state plains at) terminals.Other terminals.WordInsert refl refl

    pub insert_fits : (mode : Mode) → Fit it (insert_in (record state { mode = mode }) plains at)
    insert_fits modes.Raw = pick (names_rule state plains at) terminals.WordInsert terminals.Insert refl refl
    insert_fits modes.Custom = leaf terminals.Insert refl
    insert_fits modes.Special = leaf terminals.Insert refl
    insert_fits modes.Text = leaf terminals.Insert refl
    insert_fits _ = inserted_fits

    opened_fits : Fit it (if continues state plains at then terminals.CallParen else plain_paren plains at)
    opened_fits =
        choice (continues state plains at) terminals.CallParen (plain_paren plains at) (leaf terminals.CallParen refl)
        (pick (opens_condition plains (code_from plains (at + 1))) terminals.ConditionParen terminals.Paren refl refl)

    pub paren_fits : (mode : Mode) → Fit it (paren_in (record state { mode = mode }) plains at)
    paren_fits modes.Raw = leaf terminals.RawParen refl
    paren_fits modes.Custom = leaf terminals.RawParen refl
    paren_fits modes.Special = pick (continues state plains at) terminals.CallParen terminals.RawParen refl refl
    paren_fits modes.Use = leaf terminals.HeadParen refl
    paren_fits modes.Forward = leaf terminals.HeadParen refl
    paren_fits modes.Head = leaf terminals.HeadParen refl
    paren_fits modes.Include =
        choice (is state.before terminals.Named && not (spaced_at plains at)) _ _ (leaf terminals.CallParen refl)
        (pick (is state.before terminals.Using) terminals.HeadParen terminals.Other refl refl)
    paren_fits modes.Content = leaf terminals.CallParen refl
    paren_fits _ = opened_fits

  pub comma_fits : (mode : Mode) → Fit it (comma_terminal mode)
  comma_fits modes.Special = leaf terminals.SpecialComma refl
  comma_fits modes.Raw = leaf terminals.Raw refl
  comma_fits modes.Custom = leaf terminals.Raw refl
  comma_fits _ = leaf terminals.Comma refl

  stray_fits : (mode : Mode) → Fit it (stray mode)
  stray_fits mode = pick (is_text mode && not (is_custom mode)) terminals.Raw terminals.Other refl refl

  pub close_paren_fits : (mode : Mode) (frame : Option Frame) → Fit it (closes_paren mode frame)
  close_paren_fits mode None = stray_fits mode
  close_paren_fits mode (Some frame) = by_kind frame.bracket
    where
      by_kind : (kind : Bracket)
          → Fit it (elim kind as (λ _. Terminal) [
            | brackets.Paren ↦ if is frame.opened terminals.RawParen then terminals.RawParenEnd else terminals.ParenEnd
            | _ ↦ stray mode
          ])
      by_kind brackets.Paren = pick (is frame.opened terminals.RawParen) terminals.RawParenEnd terminals.ParenEnd refl refl
      by_kind _ = stray_fits mode

  pub close_bracket_fits : (mode : Mode) (frame : Option Frame) → Fit it (closes_bracket mode frame)
  close_bracket_fits mode None = stray_fits mode
  close_bracket_fits mode (Some frame) = by_kind frame.bracket
    where
      by_kind : (kind : Bracket)
          → Fit it (elim kind as (λ _. Terminal) [
            | brackets.Bracket ↦
                if is frame.opened terminals.RawBracket then terminals.RawBracketEnd else terminals.BracketEnd
            | _ ↦ stray mode
          ])
      by_kind brackets.Bracket =
          pick (is frame.opened terminals.RawBracket) terminals.RawBracketEnd terminals.BracketEnd refl refl
      by_kind _ = stray_fits mode

  pub inside_fits : (mode : Mode) (frame : Option Frame) → Fit it (sign_in_brackets mode frame)
  inside_fits modes.Special frame = pick (is_inner frame) terminals.Raw terminals.Other refl refl
  inside_fits modes.Raw frame = leaf terminals.Raw refl
  inside_fits modes.Custom frame = leaf terminals.Raw refl
  inside_fits _ frame = leaf terminals.Other refl
