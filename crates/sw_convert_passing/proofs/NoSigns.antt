-- Which terminals are no signs before a value: all but those of `+`, `-` and `/`.
use Rattle.std.proofs.Common.{◌≡◌, ℕ, ◌+◌, Bool, true, false, not, ◌&&◌, ◌||◌, if◌then◌else◌, List, Option, Some, None, refl}
use Rattle.sw_parse_terminals.specs.declared.terminal.Terminal.{Terminal}
use Rattle.sw_parse_terminals.specs.declared.terminal.Terminal.TheVariants as terminals
use Rattle.sw_parse_lexemes.specs.declared.sort.Sort.{Sort}
use Rattle.sw_parse_lexemes.specs.declared.sort.Sort.TheVariants as sorts
use Rattle.sw_parse_lexemes.specs.declared.plain.Plain.{Plain}
use Rattle.sw_parse_lexemes.specs.declared.state.Mode.{Mode}
use Rattle.sw_parse_lexemes.specs.declared.state.Mode.TheVariants as modes
use Rattle.sw_parse_lexemes.specs.declared.state.Bracket.{Bracket}
use Rattle.sw_parse_lexemes.specs.declared.state.Bracket.TheVariants as brackets
use Rattle.sw_parse_lexemes.specs.declared.state.Frame.{Frame}
use Rattle.sw_parse_lexemes.specs.declared.state.State.{State}
use Rattle.sw_parse_lexemes.specs.Classes.{same}
use Rattle.sw_parse_lexemes.specs.Ahead.{sort_at, spaced_at, is_direct, code_from, next_sort, begins_word}
use Rattle.sw_parse_lexemes.specs.Names.{is, is_raw, is_bang, is_apart, continues, behind_dollar, behind_bang, constant_or_word, is_special_name, name_in_expression, stays_text, owns, name_in_special, word_in_load, before_member, using_or_named, name_in_include, is_only, name_in_media, is_in, is_from, is_bound_end, name_in, name_terminal}
use Rattle.sw_parse_lexemes.specs.Signs.{is_text, or_raw, names_rule}
use Rattle.sw_parse_lexemes.specs.Brackets.{is_inner, is_custom, stray, closes_paren, closes_bracket, sign_in_brackets, plain_paren, opens_condition, paren_in}
use Rattle.sw_parse_lexemes.specs.Signs.{insert_in, comma_terminal}
use Rattle.sw_parse_lexemes.specs.Terminals.{loaded_url, goes_on, at_terminal}
use Rattle.sw_convert_passing.specs.Standing.{is_prefix_sign, is_number_sign}

-- no sign at all
abbrev pub is_sign : Terminal → Bool
is_sign terminal = is_prefix_sign terminal || is_number_sign terminal

pub record Calm (terminal : Terminal) : Type 0 where
  pub calm : is_sign terminal ≡ false

pub leaf : (terminal : Terminal) → is_sign terminal ≡ false → Calm terminal
leaf terminal e = record { calm = e }

pub pick : (b : Bool) (x y : Terminal) → is_sign x ≡ false → is_sign y ≡ false → Calm (if b then x else y)
pick true x y p q = leaf x p
pick false x y p q = leaf y q

pub or_calm : (mode : Mode) (terminal : Terminal) → is_sign terminal ≡ false → Calm (or_raw mode terminal)
or_calm mode terminal e = pick (is_text mode) terminals.Raw terminal refl e

pub choice : (b : Bool) (x y : Terminal) → Calm x → Calm y → Calm (if b then x else y)
choice true x y p q = p
choice false x y p q = q

pub at_calm : (state : State) (plains : List Plain) (at : ℕ) (terminal : Terminal) → Calm terminal
    → Calm (at_terminal state plains at terminal)
at_calm state plains at terminal calm =
    choice state.start _ _ (choice (goes_on plains at) _ _ (leaf terminals.AtOther refl) calm)
    (or_calm state.mode terminals.Other refl)

constant_calm : (sort : Sort) → Calm (constant_or_word sort)
constant_calm sorts.True = leaf _ refl
constant_calm sorts.False = leaf _ refl
constant_calm sorts.Null = leaf _ refl
constant_calm sorts.And = leaf _ refl
constant_calm sorts.Or = leaf _ refl
constant_calm sorts.Not = leaf _ refl
constant_calm _ = leaf _ refl

flag_calm : (sort : Sort) → Calm (behind_bang sort)
flag_calm sorts.Important = leaf _ refl
flag_calm sorts.Default = leaf _ refl
flag_calm sorts.Global = leaf _ refl
flag_calm _ = leaf _ refl

load_calm : (sort : Sort) → Calm (word_in_load sort)
load_calm sorts.As = leaf _ refl
load_calm sorts.With = leaf _ refl
load_calm sorts.Show = leaf _ refl
load_calm sorts.Hide = leaf _ refl
load_calm _ = leaf _ refl

using_calm : (sort : Sort) → Calm (using_or_named sort)
using_calm sorts.Using = leaf _ refl
using_calm _ = leaf _ refl

module _ (state : State) (plains : List Plain) (at : ℕ) where
  expression_calm : Calm (name_in_expression state plains at)
  expression_calm =
      choice (is_direct plains (at + 1) sorts.OpenInsert) _ _ (leaf terminals.Word refl)
      (choice (is state.before terminals.OwnerDot) _ _ (constant_calm (sort_at plains at))
      (choice (is_direct plains (at + 1) sorts.Dot) _ _ (leaf terminals.Owner refl)
      (choice (is_special_name (sort_at plains at) && is_direct plains (at + 1) sorts.OpenParen) _ _
      (leaf terminals.Special refl) (constant_calm (sort_at plains at)))))

  special_calm : Calm (name_in_special state plains at)
  special_calm =
      choice (is state.before terminals.OwnerDot) _ _ (leaf terminals.Word refl)
      (choice (owns plains at) _ _ (leaf terminals.Owner refl)
      (pick (is_direct plains (at + 1) sorts.OpenParen && not (stays_text (sort_at plains at))) terminals.Word
      terminals.Raw
      refl refl))

  include_calm : Calm (name_in_include state plains at)
  include_calm =
      choice (is state.before terminals.AtInclude) _ _
      (pick (is_direct plains (at + 1) sorts.Dot) terminals.Owner terminals.Named refl refl)
      (choice (is state.before terminals.OwnerDot) _ _ (leaf terminals.Named refl) (using_calm (sort_at plains at)))

  media_calm : Calm (name_in_media state plains at)
  media_calm =
      choice (is_direct plains (at + 1) sorts.OpenInsert) _ _ (leaf terminals.Word refl)
      (choice (same (sort_at plains at) sorts.Not) _ _
      (pick (is state.before terminals.And
      || (is state.before terminals.ConditionParen || same (next_sort plains at) sorts.OpenParen)) terminals.Not
      terminals.NotType refl refl)
      (choice (is_only (sort_at plains at)) _ _
      (pick (begins_word plains (code_from plains (at + 1))) terminals.Only terminals.Word refl refl)
      (constant_calm (sort_at plains at))))

  bounds_calm : (sort : Sort)
      → Calm (elim sort as (λ _. Terminal) [
        | sorts.Through ↦ if is_bound_end plains at then terminals.Through else name_in_expression state plains at
        | sorts.To ↦ if is_bound_end plains at then terminals.To else name_in_expression state plains at
        | _ ↦ name_in_expression state plains at
      ])
  bounds_calm sorts.Through =
      choice (is_bound_end plains at) terminals.Through (name_in_expression state plains at)
      (leaf terminals.Through refl)
      expression_calm
  bounds_calm sorts.To =
      choice (is_bound_end plains at) terminals.To (name_in_expression state plains at) (leaf terminals.To refl)
      expression_calm
  bounds_calm _ = expression_calm

  in_mode : (mode : Mode) → Calm (name_in (record state { mode = mode }) plains at)
  in_mode modes.Special = special_calm
  in_mode modes.CustomName = leaf terminals.Custom refl
  in_mode modes.Use = choice (is state.before terminals.As) _ _ (leaf terminals.Named refl)
      (load_calm (sort_at plains at))
  in_mode modes.Forward =
      choice (is state.before terminals.As) _ _ (leaf terminals.Prefix refl)
      (choice (before_member state.before) _ _ (leaf terminals.Named refl) (load_calm (sort_at plains at)))
  in_mode modes.Head = leaf terminals.Named refl
  in_mode modes.Include = include_calm
  in_mode modes.Each =
      pick (is state.before terminals.VariableName && is_in (sort_at plains at)) terminals.In terminals.Named refl refl
  in_mode modes.For =
      pick (is state.before terminals.VariableName && is_from (sort_at plains at)) terminals.From terminals.Named
      refl refl
  in_mode modes.Bounds = bounds_calm (sort_at plains at)
  in_mode modes.BoundEnds = bounds_calm (sort_at plains at)
  in_mode modes.Else = leaf terminals.If refl
  in_mode modes.Media = media_calm
  in_mode _ = expression_calm

  pub name_calm : Calm (name_terminal state plains at)
  name_calm =
      choice (continues state plains at) _ _ (leaf terminals.Part refl)
      (choice (is_raw state.mode) _ _ (leaf terminals.Raw refl)
      (choice (not (spaced_at plains at) && behind_dollar state.before) _ _ (leaf terminals.VariableName refl)
      (choice (not (spaced_at plains at) && is state.before terminals.Hash) _ _ (leaf terminals.HashName refl)
      (choice (is_bang state.before) _ _ (flag_calm (sort_at plains at))
      (choice (is_apart state plains at) _ _ (leaf terminals.Other refl) (in_mode state.mode))))))

  loaded_calm : (named : Bool) → Calm (loaded_url plains at named)
  loaded_calm named =
      pick (named || same (next_sort plains at) sorts.As) terminals.LoadUrl terminals.Other refl refl

  pub string_calm : (named : Bool) (before : Terminal)
      → Calm (elim before as (λ _. Terminal) [
        | terminals.AtCharset ↦ terminals.Plain
        | terminals.AtForward ↦ terminals.LoadUrl
        | terminals.AtUse ↦ loaded_url plains at named
        | _ ↦ terminals.Quoted
      ])
  string_calm named terminals.AtCharset = leaf terminals.Plain refl
  string_calm named terminals.AtForward = leaf terminals.LoadUrl refl
  string_calm named terminals.AtUse = loaded_calm named
  string_calm named _ = leaf terminals.Quoted refl

  inserted_calm : Calm (if is_apart state plains at then terminals.Other else terminals.WordInsert)
  inserted_calm = pick (is_apart state plains at) terminals.Other terminals.WordInsert refl refl

  pub insert_calm : (mode : Mode) → Calm (insert_in (record state { mode = mode }) plains at)
  insert_calm modes.Raw = pick (names_rule state plains at) terminals.WordInsert terminals.Insert refl refl
  insert_calm modes.Custom = leaf terminals.Insert refl
  insert_calm modes.Special = leaf terminals.Insert refl
  insert_calm modes.Text = leaf terminals.Insert refl
  insert_calm _ = inserted_calm

  opened_calm : Calm (if continues state plains at then terminals.CallParen else plain_paren plains at)
  opened_calm =
      choice (continues state plains at) terminals.CallParen (plain_paren plains at) (leaf terminals.CallParen refl)
      (pick (opens_condition plains (code_from plains (at + 1))) terminals.ConditionParen terminals.Paren refl refl)

  pub paren_calm : (mode : Mode) → Calm (paren_in (record state { mode = mode }) plains at)
  paren_calm modes.Raw = leaf terminals.RawParen refl
  paren_calm modes.Custom = leaf terminals.RawParen refl
  paren_calm modes.Special = pick (continues state plains at) terminals.CallParen terminals.RawParen refl refl
  paren_calm modes.Use = leaf terminals.HeadParen refl
  paren_calm modes.Forward = leaf terminals.HeadParen refl
  paren_calm modes.Head = leaf terminals.HeadParen refl
  paren_calm modes.Include =
      choice (is state.before terminals.Named && not (spaced_at plains at)) _ _ (leaf terminals.CallParen refl)
      (pick (is state.before terminals.Using) terminals.HeadParen terminals.Other refl refl)
  paren_calm modes.Content = leaf terminals.CallParen refl
  paren_calm _ = opened_calm

pub comma_calm : (mode : Mode) → Calm (comma_terminal mode)
comma_calm modes.Special = leaf terminals.SpecialComma refl
comma_calm modes.Raw = leaf terminals.Raw refl
comma_calm modes.Custom = leaf terminals.Raw refl
comma_calm _ = leaf terminals.Comma refl

stray_calm : (mode : Mode) → Calm (stray mode)
stray_calm mode = pick (is_text mode && not (is_custom mode)) terminals.Raw terminals.Other refl refl

pub close_paren_calm : (mode : Mode) (frame : Option Frame) → Calm (closes_paren mode frame)
close_paren_calm mode None = stray_calm mode
close_paren_calm mode (Some frame) = by_kind frame.bracket
  where
    by_kind : (kind : Bracket)
        → Calm (elim kind as (λ _. Terminal) [
          | brackets.Paren ↦ if is frame.opened terminals.RawParen then terminals.RawParenEnd else terminals.ParenEnd
          | _ ↦ stray mode
        ])
    by_kind brackets.Paren = pick (is frame.opened terminals.RawParen) terminals.RawParenEnd terminals.ParenEnd refl
        refl
    by_kind _ = stray_calm mode

pub close_bracket_calm : (mode : Mode) (frame : Option Frame) → Calm (closes_bracket mode frame)
close_bracket_calm mode None = stray_calm mode
close_bracket_calm mode (Some frame) = by_kind frame.bracket
  where
    by_kind : (kind : Bracket)
        → Calm (elim kind as (λ _. Terminal) [
          | brackets.Bracket ↦
              if is frame.opened terminals.RawBracket then terminals.RawBracketEnd else terminals.BracketEnd
          | _ ↦ stray mode
        ])
    by_kind brackets.Bracket =
        pick (is frame.opened terminals.RawBracket) terminals.RawBracketEnd terminals.BracketEnd refl refl
    by_kind _ = stray_calm mode

pub inside_calm : (mode : Mode) (frame : Option Frame) → Calm (sign_in_brackets mode frame)
inside_calm modes.Special frame = pick (is_inner frame) terminals.Raw terminals.Other refl refl
inside_calm modes.Raw frame = leaf terminals.Raw refl
inside_calm modes.Custom frame = leaf terminals.Raw refl
inside_calm _ frame = leaf terminals.Other refl
