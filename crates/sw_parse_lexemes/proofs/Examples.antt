-- What the tokens of a few texts are at their places, by computing.
use Rattle.std.proofs.Common.{◌≡◌, List, [], ◌∷◌, map, true, false, refl}
use Rattle.sw_parse_terminals.specs.declared.terminal.Terminal.{Terminal}
use Rattle.sw_parse_terminals.specs.declared.terminal.Terminal.TheVariants as terminals
use Rattle.sw_parse_terminals.specs.declared.lexeme.Lexeme.{Lexeme}
use Rattle.sw_parse_terminals.specs.Numbers.{these}
use Rattle.sw_parse_lexemes.specs.declared.sort.Sort.{Sort}
use Rattle.sw_parse_lexemes.specs.declared.sort.Sort.TheVariants as sorts
use Rattle.sw_parse_lexemes.specs.declared.plain.Plain.{Plain}
use Rattle.sw_parse_lexemes.specs.Ahead.{sort_at, spaced_at, length_at, walk_from}
use Rattle.sw_parse_lexemes.specs.Modes.{statement_mode}
use Rattle.sw_parse_lexemes.specs.Terminals.{terminal_of}
use Rattle.sw_parse_lexemes.specs.Steps.{after, placed, past_white}
use Rattle.sw_parse_lexemes.specs.Lexemes.{read, lexemes_by, beginning}

-- a token of two bytes behind white space, and one behind none
abbrev s : Sort → Plain
s sort = record {
  sort = sort;
  spaced = true;
  silent = false;
  from = 0;
  to = 2;
  start = record { line = 1; column = 1 };
  end = record { line = 1; column = 1 };
}

abbrev d : Sort → Plain
d sort = record {
  sort = sort;
  spaced = false;
  silent = false;
  from = 0;
  to = 2;
  start = record { line = 1; column = 1 };
  end = record { line = 1; column = 1 };
}

abbrev terminal : Lexeme → Terminal
terminal lexeme = lexeme.terminal

-- these tokens are these terminals
abbrev Are : List Plain → List Terminal → Type 0
Are plains kinds = these (map terminal (lexemes_by plains beginning 0)) ≡ these kinds

-- a{b: 1 -2}
declared_example : Are
    (d sorts.Name ∷ d sorts.OpenBrace ∷ d sorts.Name ∷ d sorts.Colon ∷ s sorts.Digits ∷ s sorts.Minus ∷ d sorts.Digits
    ∷ d sorts.CloseBrace ∷ [])
    (terminals.Raw ∷ terminals.Open ∷ terminals.Word ∷ terminals.Colon ∷ terminals.Number ∷ terminals.Sign ∷
    terminals.Number ∷ terminals.Close ∷ [])
unfolding sort_at spaced_at length_at walk_from statement_mode terminal_of after placed past_white read
declared_example = refl

-- $a:1 - 2-3 +4;
operators_example : Are
    (d sorts.Dollar ∷ d sorts.Name ∷ d sorts.Colon ∷ d sorts.Digits ∷ s sorts.Minus ∷ s sorts.Digits ∷ d sorts.Minus ∷
    d sorts.Digits ∷ s sorts.Plus ∷ d sorts.Digits ∷ d sorts.Semicolon ∷ [])
    (terminals.DollarNamed ∷ terminals.VariableName ∷ terminals.Colon ∷ terminals.Number ∷ terminals.Minus ∷
    terminals.Number ∷ terminals.Minus ∷ terminals.Number ∷ terminals.Plus ∷ terminals.Number ∷ terminals.Semicolon ∷
    [])
unfolding sort_at spaced_at length_at walk_from statement_mode terminal_of after placed past_white read
operators_example = refl

-- a:b{c:d}
rule_example : Are
    (d sorts.Name ∷ d sorts.Colon ∷ d sorts.Name ∷ d sorts.OpenBrace ∷ d sorts.Name ∷ d sorts.Colon ∷ d sorts.Name ∷
    d sorts.CloseBrace ∷ [])
    (terminals.Raw ∷ terminals.Raw ∷ terminals.Raw ∷ terminals.Open ∷ terminals.Word ∷ terminals.Colon ∷ terminals.Word
    ∷ terminals.Close ∷ [])
unfolding sort_at spaced_at length_at walk_from statement_mode terminal_of after placed past_white read
rule_example = refl

-- a: b{c:d}
properties_example : Are
    (d sorts.Name ∷ d sorts.Colon ∷ s sorts.Name ∷ d sorts.OpenBrace ∷ d sorts.Name ∷ d sorts.Colon ∷ d sorts.Name ∷
    d sorts.CloseBrace ∷ [])
    (terminals.Word ∷ terminals.Colon ∷ terminals.Word ∷ terminals.Open ∷ terminals.Word ∷ terminals.Colon ∷
    terminals.Word ∷ terminals.Close ∷ [])
unfolding sort_at spaced_at length_at walk_from statement_mode terminal_of after placed past_white read
properties_example = refl

-- b#{c}-d: 1 -#{f}
words_example : Are
    (d sorts.Name ∷ d sorts.OpenInsert ∷ d sorts.Name ∷ d sorts.CloseInsert ∷ d sorts.Name ∷ d sorts.Colon ∷
    s sorts.Digits ∷ s sorts.Minus ∷ d sorts.OpenInsert ∷ d sorts.Name ∷ d sorts.CloseInsert ∷ [])
    (terminals.Word ∷ terminals.PartInsert ∷ terminals.Word ∷ terminals.InsertEnd ∷ terminals.Part ∷ terminals.Colon ∷
    terminals.Number ∷ terminals.WordMinus ∷ terminals.WordInsert ∷ terminals.Word ∷ terminals.InsertEnd ∷ [])
unfolding sort_at spaced_at length_at walk_from statement_mode terminal_of after placed past_white read
words_example = refl

-- $a: 1 !default;
flags_example : Are
    (d sorts.Dollar ∷ d sorts.Name ∷ d sorts.Colon ∷ s sorts.Digits ∷ s sorts.Exclamation ∷ d sorts.Default ∷
    d sorts.Semicolon ∷ [])
    (terminals.DollarNamed ∷ terminals.VariableName ∷ terminals.Colon ∷ terminals.Number ∷ terminals.Ending ∷
    terminals.Default ∷ terminals.Semicolon ∷ [])
unfolding sort_at spaced_at length_at walk_from statement_mode terminal_of after placed past_white read
flags_example = refl

-- b: f($x: 1) g (2)
calls_example : Are
    (d sorts.Name ∷ d sorts.Colon ∷ s sorts.Name ∷ d sorts.OpenParen ∷ d sorts.Dollar ∷ d sorts.Name ∷ d sorts.Colon ∷
    s sorts.Digits ∷ d sorts.CloseParen ∷ s sorts.Name ∷ s sorts.OpenParen ∷ d sorts.Digits ∷ d sorts.CloseParen ∷ [])
    (terminals.Word ∷ terminals.Colon ∷ terminals.Word ∷ terminals.CallParen ∷ terminals.DollarNamed ∷
    terminals.VariableName ∷ terminals.Colon ∷ terminals.Number ∷ terminals.ParenEnd ∷ terminals.Word ∷
    terminals.Paren ∷ terminals.Number ∷ terminals.ParenEnd ∷ [])
unfolding sort_at spaced_at length_at walk_from statement_mode terminal_of after placed past_white read
calls_example = refl

-- b: n.g() n.$v
owned_example : Are
    (d sorts.Name ∷ d sorts.Colon ∷ s sorts.Name ∷ d sorts.Dot ∷ d sorts.Name ∷ d sorts.OpenParen ∷ d sorts.CloseParen
    ∷ s sorts.Name ∷ d sorts.Dot ∷ d sorts.Dollar ∷ d sorts.Name ∷ [])
    (terminals.Word ∷ terminals.Colon ∷ terminals.Owner ∷ terminals.OwnerDot ∷ terminals.Word ∷ terminals.CallParen ∷
    terminals.ParenEnd ∷ terminals.Owner ∷ terminals.OwnerDot ∷ terminals.OwnerDollar ∷ terminals.VariableName ∷ [])
unfolding sort_at spaced_at length_at walk_from statement_mode terminal_of after placed past_white read
owned_example = refl

-- --a: {b: c};d
custom_example : Are
    (d sorts.DashedName ∷ d sorts.Colon ∷ s sorts.OpenBrace ∷ d sorts.Name ∷ d sorts.Colon ∷ s sorts.Name ∷
    d sorts.CloseBrace ∷ d sorts.Semicolon ∷ d sorts.Name ∷ [])
    (terminals.Custom ∷ terminals.Colon ∷ terminals.RawBrace ∷ terminals.Raw ∷ terminals.Raw ∷ terminals.Raw ∷
    terminals.RawBraceEnd ∷ terminals.Semicolon ∷ terminals.Raw ∷ [])
unfolding sort_at spaced_at length_at walk_from statement_mode terminal_of after placed past_white read
custom_example = refl

-- @use "u" as n with ($a: 1)
loads_example : Are
    (d sorts.AtUse ∷ s sorts.Quoted ∷ s sorts.As ∷ s sorts.Name ∷ s sorts.With ∷ s sorts.OpenParen ∷ d sorts.Dollar ∷
    d sorts.Name ∷ d sorts.Colon ∷ s sorts.Digits ∷ d sorts.CloseParen ∷ [])
    (terminals.AtUse ∷ terminals.LoadUrl ∷ terminals.As ∷ terminals.Named ∷ terminals.With ∷ terminals.HeadParen ∷
    terminals.DollarNamed ∷ terminals.VariableName ∷ terminals.Colon ∷ terminals.Number ∷ terminals.ParenEnd ∷ [])
unfolding sort_at spaced_at length_at walk_from statement_mode terminal_of after placed past_white read
loads_example = refl

-- @forward "u" as p-* hide a, $b
passed_example : Are
    (d sorts.AtForward ∷ s sorts.Quoted ∷ s sorts.As ∷ s sorts.Name ∷ d sorts.Star ∷ s sorts.Hide ∷ s sorts.Name ∷
    d sorts.Comma ∷ s sorts.Dollar ∷ d sorts.Name ∷ [])
    (terminals.AtForward ∷ terminals.LoadUrl ∷ terminals.As ∷ terminals.Prefix ∷ terminals.PrefixStar ∷ terminals.Hide
    ∷ terminals.Named ∷ terminals.Comma ∷ terminals.Dollar ∷ terminals.VariableName ∷ [])
unfolding sort_at spaced_at length_at walk_from statement_mode terminal_of after placed past_white read
passed_example = refl

-- @include n.m(1) using ($c)
include_example : Are
    (d sorts.AtInclude ∷ s sorts.Name ∷ d sorts.Dot ∷ d sorts.Name ∷ d sorts.OpenParen ∷ d sorts.Digits ∷
    d sorts.CloseParen ∷ s sorts.Using ∷ s sorts.OpenParen ∷ d sorts.Dollar ∷ d sorts.Name ∷ d sorts.CloseParen ∷ [])
    (terminals.AtInclude ∷ terminals.Owner ∷ terminals.OwnerDot ∷ terminals.Named ∷ terminals.CallParen ∷
    terminals.Number ∷ terminals.ParenEnd ∷ terminals.Using ∷ terminals.HeadParen ∷ terminals.Dollar ∷
    terminals.VariableName ∷ terminals.ParenEnd ∷ [])
unfolding sort_at spaced_at length_at walk_from statement_mode terminal_of after placed past_white read
include_example = refl

-- @for $i from 1 through -3
bounds_example : Are
    (d sorts.AtFor ∷ s sorts.Dollar ∷ d sorts.Name ∷ s sorts.From ∷ s sorts.Digits ∷ s sorts.Through ∷ s sorts.Minus ∷
    d sorts.Digits ∷ [])
    (terminals.AtFor ∷ terminals.Dollar ∷ terminals.VariableName ∷ terminals.From ∷ terminals.Number ∷
    terminals.Through ∷ terminals.Sign ∷ terminals.Number ∷ [])
unfolding sort_at spaced_at length_at walk_from statement_mode terminal_of after placed past_white read
bounds_example = refl

-- @each $k, $v in $m
each_example : Are
    (d sorts.AtEach ∷ s sorts.Dollar ∷ d sorts.Name ∷ d sorts.Comma ∷ s sorts.Dollar ∷ d sorts.Name ∷ s sorts.In ∷
    s sorts.Dollar ∷ d sorts.Name ∷ [])
    (terminals.AtEach ∷ terminals.Dollar ∷ terminals.VariableName ∷ terminals.Comma ∷ terminals.Dollar ∷
    terminals.VariableName ∷ terminals.In ∷ terminals.Dollar ∷ terminals.VariableName ∷ [])
unfolding sort_at spaced_at length_at walk_from statement_mode terminal_of after placed past_white read
each_example = refl

-- @if a{}@else if b{}
branches_example : Are
    (d sorts.AtIf ∷ s sorts.Name ∷ d sorts.OpenBrace ∷ d sorts.CloseBrace ∷ d sorts.AtElse ∷ s sorts.If ∷ s sorts.Name
    ∷ d sorts.OpenBrace ∷ d sorts.CloseBrace ∷ [])
    (terminals.AtIf ∷ terminals.Word ∷ terminals.Open ∷ terminals.Close ∷ terminals.AtElseIf ∷ terminals.If ∷
    terminals.Word ∷ terminals.Open ∷ terminals.Close ∷ [])
unfolding sort_at spaced_at length_at walk_from statement_mode terminal_of after placed past_white read
branches_example = refl

-- @media not a and (b: 1)
media_example : Are
    (d sorts.AtMedia ∷ s sorts.Not ∷ s sorts.Name ∷ s sorts.And ∷ s sorts.OpenParen ∷ d sorts.Name ∷ d sorts.Colon ∷
    s sorts.Digits ∷ d sorts.CloseParen ∷ [])
    (terminals.AtMedia ∷ terminals.NotType ∷ terminals.Word ∷ terminals.And ∷ terminals.Paren ∷ terminals.Word ∷
    terminals.Colon ∷ terminals.Number ∷ terminals.ParenEnd ∷ [])
unfolding sort_at spaced_at length_at walk_from statement_mode terminal_of after placed past_white read
media_example = refl

-- @media (not (c))
condition_example : Are
    (d sorts.AtMedia ∷ s sorts.OpenParen ∷ d sorts.Not ∷ s sorts.OpenParen ∷ d sorts.Name ∷ d sorts.CloseParen ∷
    d sorts.CloseParen ∷ [])
    (terminals.AtMedia ∷ terminals.ConditionParen ∷ terminals.Not ∷ terminals.Paren ∷ terminals.Word ∷
    terminals.ParenEnd ∷ terminals.ParenEnd ∷ [])
unfolding sort_at spaced_at length_at walk_from statement_mode terminal_of after placed past_white read
condition_example = refl

-- a:not(b;)#{f} {
raw_example : Are
    (d sorts.Name ∷ d sorts.Colon ∷ d sorts.Not ∷ d sorts.OpenParen ∷ d sorts.Name ∷ d sorts.Semicolon ∷
    d sorts.CloseParen ∷ d sorts.OpenInsert ∷ d sorts.Name ∷ d sorts.CloseInsert ∷ s sorts.OpenBrace ∷ [])
    (terminals.Raw ∷ terminals.Raw ∷ terminals.Raw ∷ terminals.RawParen ∷ terminals.Raw ∷ terminals.Raw ∷
    terminals.RawParenEnd ∷ terminals.Insert ∷ terminals.Word ∷ terminals.InsertEnd ∷ terminals.Open ∷ [])
unfolding sort_at spaced_at length_at walk_from statement_mode terminal_of after placed past_white read
raw_example = refl

-- /*a*/b{/*c*/d: /*e*/1
comments_example : Are
    (d sorts.Comment ∷ s sorts.Name ∷ d sorts.OpenBrace ∷ d sorts.Comment ∷ s sorts.Name ∷ d sorts.Colon ∷
    s sorts.Comment ∷ s sorts.Digits ∷ [])
    (terminals.CommentWhole ∷ terminals.Raw ∷ terminals.Open ∷ terminals.CommentWhole ∷ terminals.Word ∷
    terminals.Colon ∷ terminals.Number ∷ [])
unfolding sort_at spaced_at length_at walk_from statement_mode terminal_of after placed past_white read
comments_example = refl

-- @foo#{a}b c {
at_example : Are
    (d sorts.AtName ∷ d sorts.OpenInsert ∷ d sorts.Name ∷ d sorts.CloseInsert ∷ d sorts.Name ∷ s sorts.Name ∷
    s sorts.OpenBrace ∷ [])
    (terminals.AtOther ∷ terminals.PartInsert ∷ terminals.Word ∷ terminals.InsertEnd ∷ terminals.Part ∷ terminals.Raw ∷
    terminals.Open ∷ [])
unfolding sort_at spaced_at length_at walk_from statement_mode terminal_of after placed past_white read
at_example = refl

-- a) b{c: d)
stray_example : Are
    (d sorts.Name ∷ d sorts.CloseParen ∷ s sorts.Name ∷ d sorts.OpenBrace ∷ d sorts.Name ∷ d sorts.Colon ∷ s sorts.Name
    ∷ d sorts.CloseParen ∷ [])
    (terminals.Raw ∷ terminals.Raw ∷ terminals.Raw ∷ terminals.Open ∷ terminals.Word ∷ terminals.Colon ∷ terminals.Word
    ∷ terminals.Other ∷ [])
unfolding sort_at spaced_at length_at walk_from statement_mode terminal_of after placed past_white read
stray_example = refl

-- b: calc(1px + $c, n.$d) 3
special_example : Are
    (d sorts.Name ∷ d sorts.Colon ∷ s sorts.Special ∷ d sorts.OpenParen ∷ d sorts.Digits ∷ s sorts.Plus ∷
    s sorts.Dollar ∷ d sorts.Name ∷ d sorts.Comma ∷ s sorts.Name ∷ d sorts.Dot ∷ d sorts.Dollar ∷ d sorts.Name ∷
    d sorts.CloseParen ∷ s sorts.Digits ∷ [])
    (terminals.Word ∷ terminals.Colon ∷ terminals.Special ∷ terminals.RawParen ∷ terminals.Number ∷ terminals.Raw ∷
    terminals.Dollar ∷ terminals.VariableName ∷ terminals.SpecialComma ∷ terminals.Owner ∷ terminals.OwnerDot ∷
    terminals.OwnerDollar ∷ terminals.VariableName ∷ terminals.RawParenEnd ∷ terminals.Number ∷ [])
unfolding sort_at spaced_at length_at walk_from statement_mode terminal_of after placed past_white read
special_example = refl

-- b: min(f(1), round(2), n.max(3), n.d)
special_calls_example : Are
    (d sorts.Name ∷ d sorts.Colon ∷ s sorts.Special ∷ d sorts.OpenParen ∷ d sorts.Name ∷ d sorts.OpenParen ∷
    d sorts.Digits ∷ d sorts.CloseParen ∷ d sorts.Comma ∷ s sorts.Stays ∷ d sorts.OpenParen ∷ d sorts.Digits ∷
    d sorts.CloseParen ∷ d sorts.Comma ∷ s sorts.Name ∷ d sorts.Dot ∷ d sorts.Special ∷ d sorts.OpenParen ∷
    d sorts.Digits ∷ d sorts.CloseParen ∷ d sorts.Comma ∷ s sorts.Name ∷ d sorts.Dot ∷ d sorts.Name ∷
    d sorts.CloseParen ∷ [])
    (terminals.Word ∷ terminals.Colon ∷ terminals.Special ∷ terminals.RawParen ∷ terminals.Word ∷ terminals.CallParen ∷
    terminals.Number ∷ terminals.ParenEnd ∷ terminals.SpecialComma ∷ terminals.Raw ∷ terminals.RawParen ∷
    terminals.Number ∷ terminals.RawParenEnd ∷ terminals.SpecialComma ∷ terminals.Owner ∷ terminals.OwnerDot ∷
    terminals.Word ∷ terminals.CallParen ∷ terminals.Number ∷ terminals.ParenEnd ∷ terminals.SpecialComma ∷
    terminals.Raw ∷ terminals.Raw ∷ terminals.Raw ∷ terminals.RawParenEnd ∷ [])
unfolding sort_at spaced_at length_at walk_from statement_mode terminal_of after placed past_white read
special_calls_example = refl

-- b: max([;] ; +1 -2 @x)
special_signs_example : Are
    (d sorts.Name ∷ d sorts.Colon ∷ s sorts.Special ∷ d sorts.OpenParen ∷ d sorts.OpenBracket ∷ d sorts.Semicolon ∷
    d sorts.CloseBracket ∷ s sorts.Semicolon ∷ s sorts.Plus ∷ d sorts.Digits ∷ s sorts.Minus ∷ d sorts.Digits ∷
    s sorts.AtName ∷ d sorts.CloseParen ∷ [])
    (terminals.Word ∷ terminals.Colon ∷ terminals.Special ∷ terminals.RawParen ∷ terminals.RawBracket ∷ terminals.Raw ∷
    terminals.RawBracketEnd ∷ terminals.Other ∷ terminals.Sign ∷ terminals.Number ∷ terminals.Sign ∷ terminals.Number
    ∷ terminals.Raw ∷ terminals.RawParenEnd ∷ [])
unfolding sort_at spaced_at length_at walk_from statement_mode terminal_of after placed past_white read
special_signs_example = refl

-- b: calc(#ab 1 / "c" & d)
special_text_example : Are
    (d sorts.Name ∷ d sorts.Colon ∷ s sorts.Special ∷ d sorts.OpenParen ∷ d sorts.Hash ∷ d sorts.Name ∷ s sorts.Digits
    ∷ s sorts.Slash ∷ s sorts.Quoted ∷ s sorts.Ampersand ∷ s sorts.Name ∷ d sorts.CloseParen ∷ [])
    (terminals.Word ∷ terminals.Colon ∷ terminals.Special ∷ terminals.RawParen ∷ terminals.Raw ∷ terminals.Raw ∷
    terminals.Number ∷ terminals.Raw ∷ terminals.Raw ∷ terminals.Raw ∷ terminals.Raw ∷ terminals.RawParenEnd ∷ [])
unfolding sort_at spaced_at length_at walk_from statement_mode terminal_of after placed past_white read
special_text_example = refl

-- b: n.min(1) n. f
owned_special_example : Are
    (d sorts.Name ∷ d sorts.Colon ∷ s sorts.Name ∷ d sorts.Dot ∷ d sorts.Special ∷ d sorts.OpenParen ∷ d sorts.Digits ∷
    d sorts.CloseParen ∷ s sorts.Name ∷ d sorts.Dot ∷ s sorts.Name ∷ [])
    (terminals.Word ∷ terminals.Colon ∷ terminals.Owner ∷ terminals.OwnerDot ∷ terminals.Word ∷ terminals.CallParen ∷
    terminals.Number ∷ terminals.ParenEnd ∷ terminals.Owner ∷ terminals.OwnerDot ∷ terminals.Other ∷ [])
unfolding sort_at spaced_at length_at walk_from statement_mode terminal_of after placed past_white read
owned_special_example = refl

-- b: true.$x null and not c
constants_example : Are
    (d sorts.Name ∷ d sorts.Colon ∷ s sorts.True ∷ d sorts.Dot ∷ d sorts.Dollar ∷ d sorts.Name ∷ s sorts.Null ∷
    s sorts.And ∷ s sorts.Not ∷ s sorts.Name ∷ [])
    (terminals.Word ∷ terminals.Colon ∷ terminals.Owner ∷ terminals.OwnerDot ∷ terminals.OwnerDollar ∷
    terminals.VariableName ∷ terminals.Null ∷ terminals.And ∷ terminals.Not ∷ terminals.Word ∷ [])
unfolding sort_at spaced_at length_at walk_from statement_mode terminal_of after placed past_white read
constants_example = refl

-- @for $i from to.$x to through#{a}
bound_words_example : Are
    (d sorts.AtFor ∷ s sorts.Dollar ∷ d sorts.Name ∷ s sorts.From ∷ s sorts.To ∷ d sorts.Dot ∷ d sorts.Dollar ∷
    d sorts.Name ∷ s sorts.To ∷ s sorts.Through ∷ d sorts.OpenInsert ∷ d sorts.Name ∷ d sorts.CloseInsert ∷ [])
    (terminals.AtFor ∷ terminals.Dollar ∷ terminals.VariableName ∷ terminals.From ∷ terminals.Owner ∷
    terminals.OwnerDot ∷ terminals.OwnerDollar ∷ terminals.VariableName ∷ terminals.To ∷ terminals.Word ∷
    terminals.PartInsert ∷ terminals.Word ∷ terminals.InsertEnd ∷ [])
unfolding sort_at spaced_at length_at walk_from statement_mode terminal_of after placed past_white read
bound_words_example = refl

-- @use "u" as p-*
renamed_example : Are
    (d sorts.AtUse ∷ s sorts.Quoted ∷ s sorts.As ∷ s sorts.Name ∷ d sorts.Star ∷ [])
    (terminals.AtUse ∷ terminals.LoadUrl ∷ terminals.As ∷ terminals.Named ∷ terminals.Times ∷ [])
unfolding sort_at spaced_at length_at walk_from statement_mode terminal_of after placed past_white read
renamed_example = refl

-- @forward "u" as p;
unprefixed_example : Are
    (d sorts.AtForward ∷ s sorts.Quoted ∷ s sorts.As ∷ s sorts.Name ∷ d sorts.Semicolon ∷ [])
    (terminals.AtForward ∷ terminals.LoadUrl ∷ terminals.As ∷ terminals.Prefix ∷ terminals.Semicolon ∷ [])
unfolding sort_at spaced_at length_at walk_from statement_mode terminal_of after placed past_white read
unprefixed_example = refl

-- @include a.b.c
included_example : Are
    (d sorts.AtInclude ∷ s sorts.Name ∷ d sorts.Dot ∷ d sorts.Name ∷ d sorts.Dot ∷ d sorts.Name ∷ [])
    (terminals.AtInclude ∷ terminals.Owner ∷ terminals.OwnerDot ∷ terminals.Named ∷ terminals.Other ∷ terminals.Named ∷
    [])
unfolding sort_at spaced_at length_at walk_from statement_mode terminal_of after placed past_white read
included_example = refl

-- @if a{}/*b*//*c*/@else{}
comments_before_else_example : Are
    (d sorts.AtIf ∷ s sorts.Name ∷ d sorts.OpenBrace ∷ d sorts.CloseBrace ∷ d sorts.Comment ∷ s sorts.Comment ∷
    s sorts.AtElse ∷ d sorts.OpenBrace ∷ d sorts.CloseBrace ∷ [])
    (terminals.AtIf ∷ terminals.Word ∷ terminals.Open ∷ terminals.Close ∷ terminals.AtElse ∷ terminals.Open ∷
    terminals.Close ∷ [])
unfolding sort_at spaced_at length_at walk_from statement_mode terminal_of after placed past_white read
comments_before_else_example = refl

-- a{}/*b*//*c*/d{}
comments_between_example : Are
    (d sorts.Name ∷ d sorts.OpenBrace ∷ d sorts.CloseBrace ∷ d sorts.Comment ∷ s sorts.Comment ∷ s sorts.Name ∷
    d sorts.OpenBrace ∷ d sorts.CloseBrace ∷ [])
    (terminals.Raw ∷ terminals.Open ∷ terminals.Close ∷ terminals.CommentWhole ∷ terminals.CommentWhole ∷ terminals.Raw
    ∷ terminals.Open ∷ terminals.Close ∷ [])
unfolding sort_at spaced_at length_at walk_from statement_mode terminal_of after placed past_white read
comments_between_example = refl

-- --a: @b ) ];
custom_text_example : Are
    (d sorts.DashedName ∷ d sorts.Colon ∷ s sorts.AtName ∷ s sorts.CloseParen ∷ s sorts.CloseBracket ∷
    d sorts.Semicolon ∷ [])
    (terminals.Custom ∷ terminals.Colon ∷ terminals.Raw ∷ terminals.Other ∷ terminals.Other ∷ terminals.Semicolon ∷ [])
unfolding sort_at spaced_at length_at walk_from statement_mode terminal_of after placed past_white read
custom_text_example = refl

-- @mixin m($a..., $b)
parameters_example : Are
    (d sorts.AtMixin ∷ s sorts.Name ∷ d sorts.OpenParen ∷ d sorts.Dollar ∷ d sorts.Name ∷ d sorts.Ellipsis ∷
    d sorts.Comma ∷ s sorts.Dollar ∷ d sorts.Name ∷ d sorts.CloseParen ∷ [])
    (terminals.AtMixin ∷ terminals.Named ∷ terminals.HeadParen ∷ terminals.Dollar ∷ terminals.VariableName ∷
    terminals.Ellipsis ∷ terminals.Comma ∷ terminals.Other ∷ terminals.Word ∷ terminals.ParenEnd ∷ [])
unfolding sort_at spaced_at length_at walk_from statement_mode terminal_of after placed past_white read
parameters_example = refl

-- b: c !important
important_example : Are
    (d sorts.Name ∷ d sorts.Colon ∷ s sorts.Name ∷ s sorts.Exclamation ∷ d sorts.Important ∷ [])
    (terminals.Word ∷ terminals.Colon ∷ terminals.Word ∷ terminals.Bang ∷ terminals.Important ∷ [])
unfolding sort_at spaced_at length_at walk_from statement_mode terminal_of after placed past_white read
important_example = refl

-- @forward "u" with ($a: 1 !default)
configured_example : Are
    (d sorts.AtForward ∷ s sorts.Quoted ∷ s sorts.With ∷ s sorts.OpenParen ∷ d sorts.Dollar ∷ d sorts.Name ∷
    d sorts.Colon ∷ s sorts.Digits ∷ s sorts.Exclamation ∷ d sorts.Default ∷ d sorts.CloseParen ∷ [])
    (terminals.AtForward ∷ terminals.LoadUrl ∷ terminals.With ∷ terminals.HeadParen ∷ terminals.DollarNamed ∷
    terminals.VariableName ∷ terminals.Colon ∷ terminals.Number ∷ terminals.Ending ∷ terminals.Default ∷
    terminals.ParenEnd ∷ [])
unfolding sort_at spaced_at length_at walk_from statement_mode terminal_of after placed past_white read
configured_example = refl

-- true: c
reserved_rule_example : Are
    (d sorts.True ∷ d sorts.Colon ∷ s sorts.Name ∷ [])
    (terminals.Raw ∷ terminals.Raw ∷ terminals.Raw ∷ [])
unfolding sort_at spaced_at length_at walk_from statement_mode terminal_of after placed past_white read
reserved_rule_example = refl
