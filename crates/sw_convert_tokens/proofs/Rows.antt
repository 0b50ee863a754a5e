-- Values with commas and colons between them, and values in brackets.
use Rattle.std.proofs.Common.{ℕ, Bool, true, false, List, [], ◌∷◌, ◌++◌, refl, sym, subst, append_assoc}
use Rattle.std.specs.Prelude.{codes}
use Rattle.sw_text_scan.specs.Bytes.{sign}
use Rattle.sw_tokens.specs.declared.pieces.Before.{Before}
use Rattle.sw_tokens.specs.declared.pieces.Before.TheVariants as befores
use Rattle.sw_tokens.specs.Tokens.{is_spaced}
use Rattle.sw_parse_terminals.specs.declared.terminal.Terminal.TheVariants as terminals
use Rattle.sw_parse_lexemes.specs.declared.sort.Sort.TheVariants as sorts
use Rattle.sw_parse_lexemes.specs.declared.state.Mode.TheVariants as modes
use Rattle.sw_convert_spelling.specs.Spelt.{behind_gap}
use Rattle.sw_convert_passing.specs.Written.{Written}
use Rattle.sw_convert_passing.specs.Written as passing
use Rattle.sw_convert_passing.specs.Values.{Row, in_parens, in_brackets, no_items, items, first, separated, further}
use Rattle.sw_convert_again.specs.Tokens.{Tok}
use Rattle.sw_convert_again.specs.Tokens as again
use Rattle.sw_convert_again.specs.Spells.{within, paren}
use Rattle.sw_convert_tokens.specs.Joints.{Segment}
use Rattle.sw_convert_tokens.specs.Written.{Follows, gap_of, AsValue, AsRow, WrittenAs}
use Rattle.sw_convert_tokens.proofs.Joins.{join, as_text, as_behind}
use Rattle.sw_convert_tokens.proofs.Signs.{Anything, lone_segment}
use Rattle.sw_convert_tokens.proofs.Unclosed.{space_ends, follows_end}

-- one value is a row of values
pub row_of : {signed : Bool} {text : List ℕ} {tokens : List Tok} → WrittenAs (AsValue signed) text tokens
    → WrittenAs AsRow text tokens
row_of value before spaced calm = let it = value before spaced calm in
    record { passed = it.passed; segment = it.segment; told = λ mode free. (true, first (it.told mode free)) }

-- ---- between values

pub comma_segment : (before : Before) → Segment before (codes ",") (again.sign terminals.Comma ∷ [])
    (passing.written sorts.Comma (is_spaced before) terminals.Comma ∷ []) befores.Other Anything
comma_segment before = lone_segment (sign ",") (terminals.Comma ∷ []) before false refl refl refl (λ inside code. refl)

-- a comma and another value
pub comma_written : {signed : Bool} {left right : List ℕ} {ks ls : List Tok} → WrittenAs AsRow left ks
    → WrittenAs (AsValue signed) right ls
    → WrittenAs AsRow (left ++ (codes ", " ++ right)) (ks ++ again.sign terminals.Comma ∷ ls)
comma_written {left = left} {right = right} a b before spaced calm =
    let one = a before spaced calm in
    let two = b befores.Other true refl in record {
      passed = one.passed ++ passing.direct sorts.Comma terminals.Comma ∷ two.passed;
      segment = as_behind (λ after f. follows_end (left ++ codes ",") right (sign " ") space_ends after
          (subst (λ (t : List ℕ). Follows t after) (sym (append_assoc left (codes ",") (sign " " ∷ right))) f))
          (as_text (append_assoc (gap_of spaced) left (codes ", " ++ right))
          (join one.segment (join (comma_segment befores.Other) two.segment (λ after f. tt))
          (λ after f. record { stop = refl; closed = refl })));
      told = λ mode free. (
        true,
        subst (λ (ws : List Written). Row mode (is_spaced (behind_gap before (gap_of spaced))) true ws)
            (append_assoc one.passed (passing.direct sorts.Comma terminals.Comma ∷ []) two.passed)
            (further (separated (one.told mode free).1 sorts.Comma refl) (two.told mode free)),
      );
    }

-- a comma at the end
pub comma_ended : {left : List ℕ} {ks : List Tok} → WrittenAs AsRow left ks
    → WrittenAs AsRow (left ++ codes ",") (ks ++ again.sign terminals.Comma ∷ [])
comma_ended {left} a before spaced calm =
    let one = a before spaced calm in record {
      passed = one.passed ++ passing.direct sorts.Comma terminals.Comma ∷ [];
      segment = as_behind (λ after f. tt) (as_text (append_assoc (gap_of spaced) left (codes ","))
          (join one.segment (comma_segment befores.Other) (λ after f. record { stop = refl; closed = refl })));
      told = λ mode free. (false, separated (one.told mode free).1 sorts.Comma refl);
    }

-- a colon and another value
pub colon_written : {signed : Bool} {left right : List ℕ} {ks ls : List Tok} → WrittenAs AsRow left ks
    → WrittenAs (AsValue signed) right ls
    → WrittenAs AsRow (left ++ (codes ": " ++ right)) (ks ++ again.sign terminals.Colon ∷ ls)
colon_written {left = left} {right = right} a b before spaced calm =
    let one = a before spaced calm in
    let two = b befores.Other true refl in record {
      passed = one.passed ++ passing.direct sorts.Colon terminals.Colon ∷ two.passed;
      segment = as_behind (λ after f. follows_end (left ++ codes ":") right (sign " ") space_ends after
          (subst (λ (t : List ℕ). Follows t after) (sym (append_assoc left (codes ":") (sign " " ∷ right))) f))
          (as_text (append_assoc (gap_of spaced) left (codes ": " ++ right))
          (join one.segment
          (join (lone_segment (sign ":") (terminals.Colon ∷ []) befores.Other false refl refl refl (λ inside code. refl)) two.segment
          (λ after f. tt))
          (λ after f. record { stop = refl; closed = refl })));
      told = λ mode free. (
        true,
        subst (λ (ws : List Written). Row mode (is_spaced (behind_gap before (gap_of spaced))) true ws)
            (append_assoc one.passed (passing.direct sorts.Colon terminals.Colon ∷ []) two.passed)
            (further (separated (one.told mode free).1 sorts.Colon refl) (two.told mode free)),
      );
    }

-- ---- in brackets

-- nothing but what is opened and closed
pub parens_none : WrittenAs (AsValue false) (codes "()") (within paren [] terminals.ParenEnd)
parens_none before spaced calm = record {
  passed = _;
  segment = as_behind (λ after f. tt) (as_text (append_assoc (gap_of spaced) (codes "(") (codes ")"))
      (join (lone_segment (sign "(") (terminals.Paren ∷ terminals.ConditionParen ∷ []) before spaced refl refl refl (λ inside code. refl))
      (lone_segment (sign ")") (terminals.ParenEnd ∷ []) befores.Other false refl refl refl (λ inside code. refl)) (λ after f. tt)));
  told = λ mode free. in_parens no_items;
}

pub brackets_none : WrittenAs (AsValue false) (codes "[]") (within (again.sign terminals.Bracket) [] terminals.BracketEnd)
brackets_none before spaced calm = record {
  passed = _;
  segment = as_behind (λ after f. tt) (as_text (append_assoc (gap_of spaced) (codes "[") (codes "]"))
      (join (lone_segment (sign "[") (terminals.Bracket ∷ []) before spaced refl refl refl (λ inside code. refl))
      (lone_segment (sign "]") (terminals.BracketEnd ∷ []) befores.Other false refl refl refl (λ inside code. refl)) (λ after f. tt)));
  told = λ mode free. in_brackets no_items;
}

pub parens_written : {text : List ℕ} {tokens : List Tok} → WrittenAs AsRow text tokens
    → WrittenAs (AsValue false) (codes "(" ++ (text ++ codes ")")) (within paren tokens terminals.ParenEnd)
parens_written {text} {tokens} inner before spaced calm =
    let it = inner befores.Other false refl in record {
      passed = _;
      segment = as_behind (λ after f. tt) (as_text (append_assoc (gap_of spaced) (codes "(") (text ++ codes ")"))
          (join (lone_segment (sign "(") (terminals.Paren ∷ terminals.ConditionParen ∷ []) before spaced refl refl refl (λ inside code. refl))
          (join it.segment (lone_segment (sign ")") (terminals.ParenEnd ∷ []) befores.Other false refl refl refl (λ inside code. refl))
          (λ after f. record { stop = refl; closed = refl })) (λ after f. tt)));
      told = λ mode free. in_parens (items (it.told modes.Expression refl).1);
    }

pub brackets_written : {text : List ℕ} {tokens : List Tok} → WrittenAs AsRow text tokens
    → WrittenAs (AsValue false) (codes "[" ++ (text ++ codes "]"))
    (within (again.sign terminals.Bracket) tokens terminals.BracketEnd)
brackets_written {text} {tokens} inner before spaced calm =
    let it = inner befores.Other false refl in record {
      passed = _;
      segment = as_behind (λ after f. tt) (as_text (append_assoc (gap_of spaced) (codes "[") (text ++ codes "]"))
          (join (lone_segment (sign "[") (terminals.Bracket ∷ []) before spaced refl refl refl (λ inside code. refl))
          (join it.segment (lone_segment (sign "]") (terminals.BracketEnd ∷ []) befores.Other false refl refl refl (λ inside code. refl))
          (λ after f. record { stop = refl; closed = refl })) (λ after f. tt)));
      told = λ mode free. in_brackets (items (it.told modes.Expression refl).1);
    }
