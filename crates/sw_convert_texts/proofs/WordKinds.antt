-- What kind of token a word or a name with values begins with.
use Rattle.std.proofs.Common.{◌≡◌, ℕ, Bool, true, false, if◌then◌else◌, List, refl, sym, ◌∙◌}
use Rattle.sw_tokens.specs.declared.token.TokenKind.{TokenKind}
use Rattle.sw_tokens.specs.declared.token.TokenKind.TheVariants as kinds
use Rattle.sw_parse_grammar.specs.Grammar.{member}
use Rattle.sw_parse_terminals.specs.declared.terminal.Terminal.{Terminal}
use Rattle.sw_parse_terminals.specs.declared.terminal.Terminal.TheVariants as terminals
use Rattle.sw_parse_terminals.specs.Urls.{has_namespace}
use Rattle.sw_parse_terminals.specs.Numbers.{number_of, just}
use Rattle.sw_parse_lexemes.specs.declared.sort.Sort.{Sort}
use Rattle.sw_parse_lexemes.specs.declared.sort.Sort.TheVariants as sorts
use Rattle.sw_parse_lexemes.specs.Classes.{is_name, is_comment, same}
use Rattle.sw_parse_lexemes.specs.Sorts.{sort_of}
use Rattle.sw_parse_lexemes.specs.Words.{at_sort}
use Rattle.sw_convert_passing.specs.Kinds.{is_part}
use Rattle.sw_convert_tokens.specs.Joints.{text}
use Rattle.sw_convert_tokens.proofs.Words.{name_yes}
use Rattle.sw_convert_texts.specs.RawKinds.{is_at}
use Rattle.sw_convert_texts.proofs.TerminalChoices.{is_minus}
use Rattle.sw_convert_texts.proofs.TokenPairs.{at_yes}

pub only_word : (terminal : Terminal) → member (number_of terminal) (just terminals.Word) ≡ true → terminal ≡ terminals.Word
only_word terminals.Word m = refl
only_word _ m = absurd (cc)

pub only_custom : (terminal : Terminal) → member (number_of terminal) (just terminals.Custom) ≡ true
    → terminal ≡ terminals.Custom
only_custom terminals.Custom m = refl
only_custom _ m = absurd (cc)

pub only_at : (terminal : Terminal) → member (number_of terminal) (just terminals.AtOther) ≡ true → terminal ≡ terminals.AtOther
only_at terminals.AtOther m = refl
only_at _ m = absurd (cc)

pub only_minus : (terminal : Terminal) → member (number_of terminal) (just terminals.WordMinus) ≡ true
    → terminal ≡ terminals.WordMinus
only_minus terminals.WordMinus m = refl
only_minus _ m = absurd (cc)

pub part_name : (sort : Sort) → is_name sort ≡ true → is_part sort ≡ true
part_name sorts.Digits n = refl
part_name sorts.Minus n = refl
part_name _ n = n

pub insert_seen : (sort : Sort) → same sort sorts.OpenInsert ≡ true → is_comment sort ≡ false
insert_seen sorts.Comment e = absurd (cc)
insert_seen sorts.CommentTemplate e = absurd (cc)
insert_seen _ e = refl

name_no_minus : (sort : Sort) → is_name sort ≡ true → is_minus sort ≡ false
name_no_minus sorts.Minus n = absurd (cc)
name_no_minus _ n = refl

at_no_minus : (sort : Sort) → is_at sort ≡ true → is_minus sort ≡ false
at_no_minus sorts.Minus n = absurd (cc)
at_no_minus _ n = refl

quoted_no_minus : (t : Bool) → is_minus (if t then sorts.Quoted else sorts.Unnamed) ≡ false
quoted_no_minus true = refl
quoted_no_minus false = refl

pub kind_of_minus : (kind : TokenKind) (text : List ℕ) → is_minus (sort_of kind text) ≡ true → kind ≡ kinds.Minus
kind_of_minus kinds.Minus text e = refl
kind_of_minus kinds.Word text e =
    absurd (let no : true ≡ false = sym e ∙ name_no_minus (sort_of kinds.Word text) (name_yes kinds.Word text refl) in cc)
kind_of_minus kinds.Name text e =
    absurd (let no : true ≡ false = sym e ∙ name_no_minus (sort_of kinds.Name text) (name_yes kinds.Name text refl) in cc)
kind_of_minus kinds.AtName text e = absurd (let no : true ≡ false = sym e ∙ at_no_minus (at_sort text) (at_yes text) in cc)
kind_of_minus (kinds.Quoted told) text e =
    absurd (let no : true ≡ false = sym e ∙ quoted_no_minus (has_namespace told) in cc)
kind_of_minus _ text e = absurd (cc)

name_no_at : (sort : Sort) → is_name sort ≡ true → is_at sort ≡ false
name_no_at sorts.AtUse n = absurd (cc)
name_no_at sorts.AtForward n = absurd (cc)
name_no_at sorts.AtFunction n = absurd (cc)
name_no_at sorts.AtMixin n = absurd (cc)
name_no_at sorts.AtInclude n = absurd (cc)
name_no_at sorts.AtContent n = absurd (cc)
name_no_at sorts.AtReturn n = absurd (cc)
name_no_at sorts.AtWarn n = absurd (cc)
name_no_at sorts.AtDebug n = absurd (cc)
name_no_at sorts.AtError n = absurd (cc)
name_no_at sorts.AtIf n = absurd (cc)
name_no_at sorts.AtElse n = absurd (cc)
name_no_at sorts.AtElseIf n = absurd (cc)
name_no_at sorts.AtEach n = absurd (cc)
name_no_at sorts.AtFor n = absurd (cc)
name_no_at sorts.AtWhile n = absurd (cc)
name_no_at sorts.AtMedia n = absurd (cc)
name_no_at sorts.AtSupports n = absurd (cc)
name_no_at sorts.AtRoot n = absurd (cc)
name_no_at sorts.AtCharset n = absurd (cc)
name_no_at sorts.AtImport n = absurd (cc)
name_no_at sorts.AtExtend n = absurd (cc)
name_no_at sorts.AtName n = absurd (cc)
name_no_at _ n = refl

quoted_no_at : (t : Bool) → is_at (if t then sorts.Quoted else sorts.Unnamed) ≡ false
quoted_no_at true = refl
quoted_no_at false = refl

pub kind_of_at : (kind : TokenKind) (text : List ℕ) → is_at (sort_of kind text) ≡ true → kind ≡ kinds.AtName
kind_of_at kinds.AtName text e = refl
kind_of_at kinds.Word text e =
    absurd (let no : true ≡ false = sym e ∙ name_no_at (sort_of kinds.Word text) (name_yes kinds.Word text refl) in cc)
kind_of_at kinds.Name text e =
    absurd (let no : true ≡ false = sym e ∙ name_no_at (sort_of kinds.Name text) (name_yes kinds.Name text refl) in cc)
kind_of_at (kinds.Quoted told) text e = absurd (let no : true ≡ false = sym e ∙ quoted_no_at (has_namespace told) in cc)
kind_of_at _ text e = absurd (cc)
