-- Which row of a choice is read, by the terminal that stands there, and what is repeated.
use Rattle.std.proofs.Common.{◌≡◌, ℕ, true, false, not, List, [], ◌∷◌, ◌+◌, refl, ◌∙◌, length}
use Rattle.sw_parse_grammar.specs.Grammar.{Grammar, Got, Unexpected, many, alt, skip, nullable, decided, first, member}
use Rattle.sw_parse_grammar.specs.Readers.{parse}
use Rattle.sw_parse_grammar.proofs.Sets.{at_false}
use Rattle.sw_parse_grammar.proofs.Loops.{at_first, read_left, read_right, read_skip, read_seq, fails_first}
use Rattle.sw_parse_grammar.specs.declared.ReadError.TheVariants as stops
use Rattle.sw_parse_terminals.specs.declared.terminal.Terminal.TheVariants as T
use Rattle.sw_parse_terminals.specs.Numbers.{just}
use Rattle.sw_parse_table.specs.Parts.{Part}
use Rattle.sw_parse_css.specs.declared.body.Within.{Within}
use Rattle.sw_parse_css.specs.declared.body.Within.TheVariants as withins
use Rattle.sw_parse_css.specs.Seen.{Seen, text_of, terminal_at}
use Rattle.sw_parse_css.specs.Sheets.{Form, Outside, InRule, forms, finish, text_item, text_items, text, optional_text, value, colon_value, custom_value, selector_rest, pseudo, pseudo_or_value, declaration, custom, named, dashed, rule, at_rule, import, charset, comment, nameless, other, outer_statement, inner_statement}
use Rattle.sw_parse_css.specs.Rows.{text_starts, starts_of, statement_of}
use Rattle.sw_parse_css.specs.Reads.{reader}

-- what is repeated, and what it begins with
pub record Repeats (seen : Seen) (item : Grammar Part Form) (firsts : List ℕ) : Type 0 where
  pub all : decided (forms seen) (many item) ≡ true
  pub one : decided (forms seen) item ≡ true
  pub some : not (nullable item) ≡ true
  pub starts : first item ≡ firsts

module _ (seen : Seen) where
  pub texts : Repeats seen text_item text_starts
  unfolding text_item text_items
  texts = record { all = refl; one = refl; some = refl; starts = refl }

  pub repeated : (within : Within) → Repeats seen (statement_of seen within) (starts_of within)
  unfolding finish text_item text_items text optional_text value colon_value custom_value selector_rest pseudo pseudo_or_value declaration custom named dashed rule at_rule import charset comment nameless other outer_statement inner_statement
  repeated withins.Outside = record { all = refl; one = refl; some = refl; starts = refl }
  repeated withins.Rule = record { all = refl; one = refl; some = refl; starts = refl }

-- the row of a choice by its first terminals
module _ (seen : Seen) (n i : ℕ) where
  goes_left : (a b : Grammar Part Form) (fs : List ℕ) → first a ≡ fs → member (terminal_at seen i) fs ≡ true
      → reader seen n (alt a b) i ≡ reader seen n a i
  goes_left a b fs e m =
      read_left (forms seen) (text_of seen) (length seen.lexemes) n a b i (at_first a fs (terminal_at seen i) true e m)

  goes_right : (a b : Grammar Part Form) (fs : List ℕ) → first a ≡ fs → member (terminal_at seen i) fs ≡ false
      → reader seen n (alt a b) i ≡ reader seen n b i
  goes_right a b fs e m =
      read_right (forms seen) (text_of seen) (length seen.lexemes) n a b i (at_first a fs (terminal_at seen i) false e m)

  module _ (form : Form) where
    -- the rows of what may stand everywhere, from one on
    abbrev ends : Grammar Part Form
    ends = alt (skip (just T.Semicolon)) nameless

    abbrev notes : Grammar Part Form
    notes = alt (comment seen) ends

    abbrev charsets : Grammar Part Form
    charsets = alt (charset seen) notes

    abbrev imports : Grammar Part Form
    imports = alt (import seen) charsets

    pub other_at_rule : member (terminal_at seen i) (just T.AtOther) ≡ true
        → reader seen n (other seen form) i ≡ reader seen n (at_rule seen form) i
    unfolding other at_rule
    other_at_rule m = goes_left (at_rule seen form) imports (just T.AtOther) refl m

    past_at_rule : member (terminal_at seen i) (just T.AtOther) ≡ false
        → reader seen n (other seen form) i ≡ reader seen n imports i
    unfolding other at_rule
    past_at_rule o = goes_right (at_rule seen form) imports (just T.AtOther) refl o

    pub other_import : member (terminal_at seen i) (just T.AtOther) ≡ false
        → member (terminal_at seen i) (just T.AtImport) ≡ true
        → reader seen n (other seen form) i ≡ reader seen n (import seen) i
    unfolding import
    other_import o m = past_at_rule o ∙ goes_left (import seen) charsets (just T.AtImport) refl m

    past_import : member (terminal_at seen i) (just T.AtOther) ≡ false
        → member (terminal_at seen i) (just T.AtImport) ≡ false
        → reader seen n (other seen form) i ≡ reader seen n charsets i
    unfolding import
    past_import o p = past_at_rule o ∙ goes_right (import seen) charsets (just T.AtImport) refl p

    pub other_charset : member (terminal_at seen i) (just T.AtOther) ≡ false
        → member (terminal_at seen i) (just T.AtImport) ≡ false → member (terminal_at seen i) (just T.AtCharset) ≡ true
        → reader seen n (other seen form) i ≡ reader seen n (charset seen) i
    unfolding charset
    other_charset o p m = past_import o p ∙ goes_left (charset seen) notes (just T.AtCharset) refl m

    past_charset : member (terminal_at seen i) (just T.AtOther) ≡ false
        → member (terminal_at seen i) (just T.AtImport) ≡ false → member (terminal_at seen i) (just T.AtCharset) ≡ false
        → reader seen n (other seen form) i ≡ reader seen n notes i
    unfolding charset
    past_charset o p q = past_import o p ∙ goes_right (charset seen) notes (just T.AtCharset) refl q

    pub other_comment : member (terminal_at seen i) (just T.AtOther) ≡ false
        → member (terminal_at seen i) (just T.AtImport) ≡ false → member (terminal_at seen i) (just T.AtCharset) ≡ false
        → member (terminal_at seen i) (just T.CommentWhole) ≡ true
        → reader seen n (other seen form) i ≡ reader seen n (comment seen) i
    unfolding comment
    other_comment o p q m = past_charset o p q ∙ goes_left (comment seen) ends (just T.CommentWhole) refl m

    past_comment : member (terminal_at seen i) (just T.AtOther) ≡ false
        → member (terminal_at seen i) (just T.AtImport) ≡ false → member (terminal_at seen i) (just T.AtCharset) ≡ false
        → member (terminal_at seen i) (just T.CommentWhole) ≡ false
        → reader seen n (other seen form) i ≡ reader seen n ends i
    unfolding comment
    past_comment o p q r = past_charset o p q ∙ goes_right (comment seen) ends (just T.CommentWhole) refl r

    pub other_semicolon : member (terminal_at seen i) (just T.AtOther) ≡ false
        → member (terminal_at seen i) (just T.AtImport) ≡ false → member (terminal_at seen i) (just T.AtCharset) ≡ false
        → member (terminal_at seen i) (just T.CommentWhole) ≡ false
        → member (terminal_at seen i) (just T.Semicolon) ≡ true → reader seen n (other seen form) i ≡ Got [] (i + 1)
    other_semicolon o p q r m =
        past_comment o p q r ∙ goes_left (skip (just T.Semicolon)) nameless (just T.Semicolon) refl m
        ∙ read_skip (forms seen) (text_of seen) (length seen.lexemes) n (just T.Semicolon) i m

    past_semicolon : member (terminal_at seen i) (just T.AtOther) ≡ false
        → member (terminal_at seen i) (just T.AtImport) ≡ false → member (terminal_at seen i) (just T.AtCharset) ≡ false
        → member (terminal_at seen i) (just T.CommentWhole) ≡ false
        → member (terminal_at seen i) (just T.Semicolon) ≡ false
        → reader seen n (other seen form) i ≡ reader seen n nameless i
    past_semicolon o p q r s =
        past_comment o p q r ∙ goes_right (skip (just T.Semicolon)) nameless (just T.Semicolon) refl s

    pub other_nameless : member (terminal_at seen i) (just T.AtOther) ≡ false
        → member (terminal_at seen i) (just T.AtImport) ≡ false → member (terminal_at seen i) (just T.AtCharset) ≡ false
        → member (terminal_at seen i) (just T.CommentWhole) ≡ false
        → member (terminal_at seen i) (just T.Semicolon) ≡ false
        → member (terminal_at seen i) (just T.AtInsert) ≡ true → reader seen n (other seen form) i ≡ Unexpected (i + 1)
    unfolding parse nameless
    other_nameless o p q r s m =
        past_semicolon o p q r s ∙ read_seq (forms seen) (text_of seen) (length seen.lexemes) n (skip (just T.AtInsert)) (skip []) i (i + 1) [] (read_skip (forms seen) (text_of seen) (length seen.lexemes) n (just T.AtInsert) i m)

    pub other_none : member (terminal_at seen i) (just T.AtOther) ≡ false
        → member (terminal_at seen i) (just T.AtImport) ≡ false → member (terminal_at seen i) (just T.AtCharset) ≡ false
        → member (terminal_at seen i) (just T.CommentWhole) ≡ false
        → member (terminal_at seen i) (just T.Semicolon) ≡ false
        → member (terminal_at seen i) (just T.AtInsert) ≡ false → reader seen n (other seen form) i ≡ Unexpected i
    unfolding parse nameless
    other_none o p q r s z =
        past_semicolon o p q r s ∙ fails_first (forms seen) (text_of seen) (length seen.lexemes) n (skip (just T.AtInsert)) (skip []) i (stops.Unexpected i) (at_false (member (terminal_at seen i) (just T.AtInsert)) _ _ z)

  -- statements outside rules, from one row on
  abbrev ruled : Grammar Part Form
  ruled = alt (rule seen) (other seen Outside)

  abbrev customs : Grammar Part Form
  customs = alt (dashed seen) ruled

  pub outer_named : member (terminal_at seen i) (just T.Word) ≡ true
      → reader seen n (outer_statement seen) i ≡ reader seen n (named seen) i
  unfolding outer_statement named
  outer_named m = goes_left (named seen) customs (just T.Word) refl m

  past_named : member (terminal_at seen i) (just T.Word) ≡ false
      → reader seen n (outer_statement seen) i ≡ reader seen n customs i
  unfolding outer_statement named
  past_named o = goes_right (named seen) customs (just T.Word) refl o

  pub outer_dashed : member (terminal_at seen i) (just T.Word) ≡ false
      → member (terminal_at seen i) (just T.Custom) ≡ true
      → reader seen n (outer_statement seen) i ≡ reader seen n (dashed seen) i
  unfolding dashed
  outer_dashed o m = past_named o ∙ goes_left (dashed seen) ruled (just T.Custom) refl m

  past_dashed : member (terminal_at seen i) (just T.Word) ≡ false
      → member (terminal_at seen i) (just T.Custom) ≡ false
      → reader seen n (outer_statement seen) i ≡ reader seen n ruled i
  unfolding dashed
  past_dashed o p = past_named o ∙ goes_right (dashed seen) ruled (just T.Custom) refl p

  pub outer_rule : member (terminal_at seen i) (just T.Word) ≡ false
      → member (terminal_at seen i) (just T.Custom) ≡ false → member (terminal_at seen i) text_starts ≡ true
      → reader seen n (outer_statement seen) i ≡ reader seen n (rule seen) i
  unfolding rule text_item
  outer_rule o p m = past_dashed o p ∙ goes_left (rule seen) (other seen Outside) text_starts refl m

  pub outer_other : member (terminal_at seen i) (just T.Word) ≡ false
      → member (terminal_at seen i) (just T.Custom) ≡ false → member (terminal_at seen i) text_starts ≡ false
      → reader seen n (outer_statement seen) i ≡ reader seen n (other seen Outside) i
  unfolding rule text_item
  outer_other o p q = past_dashed o p ∙ goes_right (rule seen) (other seen Outside) text_starts refl q

  -- statements in a rule
  abbrev properties : Grammar Part Form
  properties = alt (custom seen) (other seen InRule)

  pub inner_declaration : member (terminal_at seen i) (just T.Word) ≡ true
      → reader seen n (inner_statement seen) i ≡ reader seen n (declaration seen) i
  unfolding inner_statement declaration
  inner_declaration m = goes_left (declaration seen) properties (just T.Word) refl m

  past_declaration : member (terminal_at seen i) (just T.Word) ≡ false
      → reader seen n (inner_statement seen) i ≡ reader seen n properties i
  unfolding inner_statement declaration
  past_declaration o = goes_right (declaration seen) properties (just T.Word) refl o

  pub inner_custom : member (terminal_at seen i) (just T.Word) ≡ false
      → member (terminal_at seen i) (just T.Custom) ≡ true
      → reader seen n (inner_statement seen) i ≡ reader seen n (custom seen) i
  unfolding custom
  inner_custom o m = past_declaration o ∙ goes_left (custom seen) (other seen InRule) (just T.Custom) refl m

  pub inner_other : member (terminal_at seen i) (just T.Word) ≡ false
      → member (terminal_at seen i) (just T.Custom) ≡ false
      → reader seen n (inner_statement seen) i ≡ reader seen n (other seen InRule) i
  unfolding custom
  inner_other o p = past_declaration o ∙ goes_right (custom seen) (other seen InRule) (just T.Custom) refl p
