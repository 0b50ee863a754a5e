-- Arguments of a call, with names and without: the `$` of a name is told by the `:` behind it.
use Rattle.std.proofs.Common.{◌≡◌, ℕ, Bool, true, false, List, [], ◌∷◌, ◌++◌, refl, sym, subst, append_assoc, lit<}
use Rattle.std.specs.Prelude.{codes}
use Rattle.sw_text.specs.Names.{dashed}
use Rattle.sw_text_scan.specs.Bytes.{sign, byte}
use Rattle.sw_tokens.specs.declared.pieces.Before.{Before}
use Rattle.sw_tokens.specs.declared.pieces.Before.TheVariants as befores
use Rattle.sw_tokens.specs.declared.token.TokenKind.TheVariants as kinds
use Rattle.sw_parse_terminals.specs.declared.terminal.Terminal.TheVariants as terminals
use Rattle.sw_parse_terminals.specs.Numbers.{just}
use Rattle.sw_parse_lexemes.specs.declared.sort.Sort.{Sort}
use Rattle.sw_parse_lexemes.specs.declared.sort.Sort.TheVariants as sorts
use Rattle.sw_parse_lexemes.specs.Classes.{is_name}
use Rattle.sw_parse_lexemes.specs.declared.state.Mode.TheVariants as modes
use Rattle.sw_parse_table.specs.declared.source.Source.{Source}
use Rattle.sw_parse_table.specs.Sources.{bytes_at}
use Rattle.sw_convert_written.specs.Names.{dollar_name}
use Rattle.sw_convert_passing.specs.Written.{Written, written, direct}
use Rattle.sw_convert_passing.specs.Values.{dollar, Value, Row, Call, Settles, no_colon, settled_end, settled_same, settled_named, variable, seam, no_items, items, seamed_items, first, separated, further, arguments, settled}
use Rattle.sw_convert_again.specs.Tokens.{Tok, tok, Old, Dashed}
use Rattle.sw_convert_again.specs.Tokens as again
use Rattle.sw_convert_tokens.specs.Joints.{Segment}
use Rattle.sw_convert_tokens.specs.Written.{Follows, gap_of, AsValue, WrittenAs}
use Rattle.sw_convert_tokens.specs.Values.{WasRead}
use Rattle.sw_convert_tokens.proofs.Joins.{join, as_text, as_behind}
use Rattle.sw_convert_tokens.proofs.Rows.{comma_segment}
use Rattle.sw_convert_tokens.proofs.Signs.{lone_segment, sign_segment, sign_token}
use Rattle.sw_convert_tokens.proofs.Spaces.{apart_segment}
use Rattle.sw_convert_tokens.proofs.Unclosed.{space_ends, follows_end}
use Rattle.sw_convert_tokens.proofs.Variables.{Begins, variable_name, variable_segment}

-- ---- the same tokens, told more exactly

pub same_append : {rest more : List Written} → (xs : List Written) → Settles rest more → Settles (xs ++ rest) (xs ++ more)
same_append [] s = s
same_append (x ∷ xs) s = settled_same x (same_append xs s)

pub settles_as : {ws vs us ys : List Written} → ws ≡ us → vs ≡ ys → Settles ws vs → Settles us ys
settles_as {ws} {vs} {us} {ys} e f s = subst (λ (t : List Written). Settles us t) f (subst (λ (t : List Written). Settles t vs) e s)

-- a `:` stands first, or something else
abbrev Ends : Bool → List Written → Type 0
Ends false rest = no_colon rest ≡ true
Ends true [] = ⊥
Ends true (next ∷ rest) = next ≡ direct sorts.Colon terminals.Colon

abbrev pub Exactly : Bool → List Written → List Written → Type 0
Exactly named loose exact =
    (rest more : List Written) → Ends named rest → Settles rest more → Settles (loose ++ rest) (exact ++ more)

behind_it : (before named : Bool) (loose exact tail other : List Written) → Exactly before loose exact
    → ((rest more : List Written) → Ends named rest → Settles rest more → Settles (tail ++ rest) (other ++ more))
    → ((rest : List Written) → Ends before (tail ++ rest)) → Exactly named (loose ++ tail) (exact ++ other)
behind_it before named loose exact tail other left right end rest more e s =
    settles_as (sym (append_assoc loose tail rest)) (sym (append_assoc exact other more))
    (left (tail ++ rest) (other ++ more) (end rest) (right rest more e s))

-- ---- one argument

-- a value in the arguments, or the name before one, behind what stands before it, with a space there or none
pub record IsArgument (before : Before) (named spaced : Bool) (text : List ℕ) (tokens : List Tok) : Type 0 where
  pub loose : List Written
  pub exact : List Written
  pub signed : Bool
  pub segment : Segment before (gap_of spaced ++ text) tokens exact befores.Other (Follows text)
  pub told : Value modes.Expression spaced signed loose
  pub settles : Exactly named loose exact

pub value_argument : (spaced : Bool) → {signed : Bool} {text : List ℕ} {tokens : List Tok}
    → WrittenAs (AsValue signed) text tokens → IsArgument befores.Other false spaced text tokens
value_argument true {signed} value =
    let it = value befores.Other true refl in record {
      loose = it.passed;
      exact = it.passed;
      signed = signed;
      segment = it.segment;
      told = it.told modes.Expression refl;
      settles = λ rest more e s. same_append it.passed s;
    }
value_argument false {signed} value =
    let it = value befores.Other false refl in record {
      loose = it.passed;
      exact = it.passed;
      signed = signed;
      segment = it.segment;
      told = it.told modes.Expression refl;
      settles = λ rest more e s. same_append it.passed s;
    }

-- a name before a value
name_settles : (spaced : Bool) (name : Sort) → is_name name ≡ true
    → Exactly true (dollar spaced ∷ direct name terminals.VariableName ∷ [])
    (written sorts.Dollar spaced terminals.DollarNamed ∷ direct name terminals.VariableName ∷ [])
name_settles spaced name n [] more e s = absurd e
name_settles spaced name n (next ∷ rest) more e s =
    let it = direct name terminals.VariableName in
    subst
    (λ (t : Written). Settles (dollar spaced ∷ it ∷ t ∷ rest) (written sorts.Dollar spaced terminals.DollarNamed ∷ it ∷ more))
    (sym e)
    (settled_named name n (settled_same it (subst (λ (t : Written). Settles (t ∷ rest) more) e s)))

pub name_argument : (spaced : Bool) → (source : Source) (i : ℕ) → WasRead source
    → Old source i (just terminals.VariableName)
    → IsArgument befores.Other true spaced (dollar_name (dashed (bytes_at source i)))
    (again.sign terminals.DollarNamed ∷ tok terminals.VariableName (Dashed (dashed (bytes_at source i))) ∷ [])
name_argument true source i was old =
    let name = variable_name source i was old in record {
      loose = dollar true ∷ direct name.sort terminals.VariableName ∷ [];
      exact = written sorts.Dollar true terminals.DollarNamed ∷ direct name.sort terminals.VariableName ∷ [];
      signed = false;
      segment = variable_segment source i name (terminals.DollarNamed ∷ []) befores.Other true refl;
      told = variable name.sort name.is;
      settles = name_settles true name.sort name.is;
    }
name_argument false source i was old =
    let name = variable_name source i was old in record {
      loose = dollar false ∷ direct name.sort terminals.VariableName ∷ [];
      exact = written sorts.Dollar false terminals.DollarNamed ∷ direct name.sort terminals.VariableName ∷ [];
      signed = false;
      segment = variable_segment source i name (terminals.DollarNamed ∷ []) befores.Other false refl;
      told = variable name.sort name.is;
      settles = name_settles false name.sort name.is;
    }

-- ---- several

-- arguments behind what stands before them, with a space there or none, of which the last is a name alone or not
pub record ArgumentsBehind (before : Before) (spaced named : Bool) (text : List ℕ) (tokens : List Tok) : Type 0 where
  pub loose : List Written
  pub exact : List Written
  pub ended : Bool
  pub segment : Segment before (gap_of spaced ++ text) tokens exact befores.Other (Follows text)
  pub told : Row modes.Expression spaced ended loose
  pub settles : Exactly named loose exact

-- those directly behind a `(`
abbrev pub AreArguments : Bool → List ℕ → List Tok → Type 0
AreArguments = ArgumentsBehind befores.Other false

pub first_argument : {before : Before} {named spaced : Bool} {text : List ℕ} {tokens : List Tok}
    → IsArgument before named spaced text tokens → ArgumentsBehind before spaced named text tokens
first_argument it = record {
  loose = it.loose;
  exact = it.exact;
  ended = true;
  segment = it.segment;
  told = first it.told;
  settles = it.settles;
}

-- a comma and one more
pub further_argument : {before : Before} {spaced named : Bool} {left right : List ℕ} {ks ls : List Tok}
    → ArgumentsBehind before spaced false left ks → IsArgument befores.Other named true right ls
    → ArgumentsBehind before spaced named (left ++ (codes ", " ++ right)) (ks ++ again.sign terminals.Comma ∷ ls)
further_argument {spaced = spaced} {named = named} {left = left} {right = right} a b = record {
  loose = a.loose ++ direct sorts.Comma terminals.Comma ∷ b.loose;
  exact = a.exact ++ direct sorts.Comma terminals.Comma ∷ b.exact;
  ended = true;
  segment = as_behind (λ after f. follows_end (left ++ codes ",") right (sign " ") space_ends after
      (subst (λ (t : List ℕ). Follows t after) (sym (append_assoc left (codes ",") (sign " " ∷ right))) f))
      (as_text (append_assoc (gap_of spaced) left (codes ", " ++ right))
      (join a.segment (join (comma_segment befores.Other) b.segment (λ after f. tt))
      (λ after f. record { stop = refl; closed = refl })));
  told = subst (λ (ws : List Written). Row modes.Expression spaced true ws)
      (append_assoc a.loose (direct sorts.Comma terminals.Comma ∷ []) b.loose)
      (further (separated a.told sorts.Comma refl) b.told);
  settles = behind_it false named a.loose a.exact (direct sorts.Comma terminals.Comma ∷ b.loose) (direct sorts.Comma terminals.Comma ∷ b.exact)
      a.settles (λ rest more e s. settled_same (direct sorts.Comma terminals.Comma) (b.settles rest more e s)) (λ rest. refl);
}

-- a `:` and the value behind the last name
pub colon_argument : {before : Before} {spaced : Bool} {left right : List ℕ} {ks ls : List Tok}
    → ArgumentsBehind before spaced true left ks → IsArgument befores.Other false true right ls
    → ArgumentsBehind before spaced false (left ++ (codes ": " ++ right)) (ks ++ again.sign terminals.Colon ∷ ls)
colon_argument {spaced = spaced} {left = left} {right = right} a b = record {
  loose = a.loose ++ direct sorts.Colon terminals.Colon ∷ b.loose;
  exact = a.exact ++ direct sorts.Colon terminals.Colon ∷ b.exact;
  ended = true;
  segment = as_behind (λ after f. follows_end (left ++ codes ":") right (sign " ") space_ends after
      (subst (λ (t : List ℕ). Follows t after) (sym (append_assoc left (codes ":") (sign " " ∷ right))) f))
      (as_text (append_assoc (gap_of spaced) left (codes ": " ++ right))
      (join a.segment
      (join (lone_segment (sign ":") (terminals.Colon ∷ []) befores.Other false refl refl refl (λ inside code. refl)) b.segment
      (λ after f. tt))
      (λ after f. record { stop = refl; closed = refl })));
  told = subst (λ (ws : List Written). Row modes.Expression spaced true ws)
      (append_assoc a.loose (direct sorts.Colon terminals.Colon ∷ []) b.loose)
      (further (separated a.told sorts.Colon refl) b.told);
  settles = behind_it true false a.loose a.exact (direct sorts.Colon terminals.Colon ∷ b.loose) (direct sorts.Colon terminals.Colon ∷ b.exact)
      a.settles (λ rest more e s. settled_same (direct sorts.Colon terminals.Colon) (b.settles rest more e s)) (λ rest. refl);
}

-- `...` behind them
pub dots_behind : {before : Before} {spaced : Bool} {text : List ℕ} {tokens : List Tok}
    → ArgumentsBehind before spaced false text tokens
    → ArgumentsBehind before spaced false (text ++ codes "...") (tokens ++ again.sign terminals.Ellipsis ∷ [])
unfolding byte
dots_behind {spaced = spaced} {text = text} a = record {
  loose = a.loose ++ direct sorts.Ellipsis terminals.Ellipsis ∷ [];
  exact = a.exact ++ direct sorts.Ellipsis terminals.Ellipsis ∷ [];
  ended = false;
  segment = as_behind (λ after f. f)
      (as_text (append_assoc (gap_of spaced) text (codes "..."))
      (join a.segment
      (sign_segment kinds.Ellipsis (codes "...") (terminals.Ellipsis ∷ []) befores.Other false
      (Follows (text ++ codes "...")) refl refl refl (lit< tt)
      (λ inside after code f. sign_token kinds.Ellipsis after inside befores.Other refl code refl refl))
      (λ after f. record { stop = refl; closed = refl })));
  told = separated a.told sorts.Ellipsis refl;
  settles = behind_it false false a.loose a.exact (direct sorts.Ellipsis terminals.Ellipsis ∷ []) (direct sorts.Ellipsis terminals.Ellipsis ∷ [])
      a.settles (λ rest more e s. settled_same (direct sorts.Ellipsis terminals.Ellipsis) s) (λ rest. refl);
}

-- ---- in the brackets of a call

pub record IsItems (text : List ℕ) (tokens : List Tok) : Type 0 where
  pub passed : List Written
  pub segment : Segment befores.Other text tokens passed befores.Other (Begins (sign ")"))
  pub told : Call
      (direct sorts.OpenParen terminals.CallParen ∷ (passed ++ direct sorts.CloseParen terminals.ParenEnd ∷ []))

pub no_arguments_written : IsItems [] []
no_arguments_written = record {
  passed = [];
  segment = record {
    joints = [];
    spelling = refl;
    seen = refl;
    written = refl;
    last = refl;
    tells = tt;
    stand = λ stack after code ok. refl;
  };
  told = arguments no_items;
}

pub arguments_written : {text : List ℕ} {tokens : List Tok} → AreArguments false text tokens → IsItems text tokens
arguments_written {text} a = record {
  passed = a.exact;
  segment = as_behind (λ after b. subst (Follows text) (sym b.1) (record { stop = refl; closed = refl })) a.segment;
  told =
      let close = direct sorts.CloseParen terminals.ParenEnd in
      settled (arguments (items a.told))
      (settled_same (direct sorts.OpenParen terminals.CallParen)
      (a.settles (close ∷ []) (close ∷ []) refl (settled_same close settled_end)));
}

-- behind an empty comment and a space
pub guarded_written : {text : List ℕ} {tokens : List Tok} → ArgumentsBehind befores.White true false text tokens
    → IsItems (codes "/**/ " ++ text) tokens
guarded_written {text} a = record {
  passed = seam ∷ a.exact;
  segment = as_behind (λ after b. subst (Follows text) (sym b.1) (record { stop = refl; closed = refl }))
      (join apart_segment a.segment (λ after f. tt));
  told =
      let close = direct sorts.CloseParen terminals.ParenEnd in
      settled (arguments (seamed_items a.told))
      (settled_same (direct sorts.OpenParen terminals.CallParen)
      (settled_same seam (a.settles (close ∷ []) (close ∷ []) refl (settled_same close settled_end))));
}
