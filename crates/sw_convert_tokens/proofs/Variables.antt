-- What is written of a variable that was read is its tokens.
use Rattle.std.proofs.Common.{◌≡◌, ℕ, suc, Bool, true, false, List, [], ◌∷◌, ◌++◌, length, refl, sym, ◌∙◌, ap, subst, append_assoc, lit<}
use Rattle.std.specs.Prelude.{codes}
use Rattle.sw_text.specs.Names.{dashed}
use Rattle.sw_text_scan.specs.Bytes.{sign, byte}
use Rattle.sw_tokens.specs.declared.pieces.Before.{Before}
use Rattle.sw_tokens.specs.declared.pieces.Before.TheVariants as befores
use Rattle.sw_tokens.specs.declared.token.TokenKind.TheVariants as kinds
use Rattle.sw_tokens.specs.declared.pieces.Change.TheVariants as changes
use Rattle.sw_parse_grammar.specs.Grammar.{member}
use Rattle.sw_parse_terminals.specs.declared.terminal.Terminal.{Terminal}
use Rattle.sw_parse_terminals.specs.declared.terminal.Terminal.TheVariants as terminals
use Rattle.sw_parse_terminals.specs.Numbers.{number_of, just}
use Rattle.sw_parse_lexemes.specs.declared.sort.Sort.{Sort}
use Rattle.sw_tokens.specs.Tokens.{is_spaced}
use Rattle.sw_parse_lexemes.specs.declared.sort.Sort.TheVariants as sorts
use Rattle.sw_parse_lexemes.specs.declared.state.Mode.{Mode}
use Rattle.sw_parse_lexemes.specs.Classes.{is_name}
use Rattle.sw_parse_lexemes.specs.Sorts.{sort_of}
use Rattle.sw_parse_table.specs.declared.source.Source.{Source}
use Rattle.sw_parse_table.specs.Sources.{bytes_at}
use Rattle.sw_convert_spelling.specs.Spelt.{behind_gap}
use Rattle.sw_parse_table.specs.Values.{qualified_of}
use Rattle.sw_convert_spelling.proofs.MovedRuns.{first_byte}
use Rattle.sw_convert_written.specs.Names.{name_text, dollar_name}
use Rattle.sw_convert_written.specs.Expressions.{qualified_text}
use Rattle.sw_convert_written.proofs.Unrolled as unrolled
use Rattle.sw_convert_passing.specs.Written.{written, direct}
use Rattle.sw_convert_passing.specs.Values.{variable}
use Rattle.sw_convert_passing.specs.Values.{dollar as passed_dollar}
use Rattle.sw_convert_again.specs.Tokens.{tok, Old, Bytes, Dashed}
use Rattle.sw_convert_again.specs.Tokens as again
use Rattle.sw_convert_again.specs.Spells.{dollar}
use Rattle.sw_convert_again.proofs.Tokens.{one_byte}
use Rattle.sw_convert_tokens.specs.Joints.{Segment}
use Rattle.sw_convert_tokens.specs.Written.{Follows, is_calm, gap_of, Shape, AsValue, WrittenAs}
use Rattle.sw_convert_tokens.specs.Values.{WasRead}
use Rattle.sw_convert_tokens.specs.Variables.{VariablesAreWritten}
use Rattle.sw_convert_tokens.proofs.Joins.{join, as_text, as_behind}
use Rattle.sw_convert_tokens.proofs.Signs.{Anything, Fits, token_segment, sign_segment, sign_token}
use Rattle.sw_convert_tokens.proofs.Stops.{Dark, dot_dark, Parted, follows_parts, nothing_parts}
use Rattle.sw_convert_tokens.proofs.Unclosed.{Ends, follows_end}
use Rattle.sw_convert_tokens.proofs.Olds.{old_token}
use Rattle.sw_convert_tokens.proofs.OriginChoices.{fits}
use Rattle.sw_convert_tokens.proofs.Dashes.{kept_name}
use Rattle.sw_convert_tokens.proofs.NamePieces.{name_in, name_run}
use Rattle.sw_convert_tokens.proofs.Names.{run_by, name_dollar, name_black}
use Rattle.sw_convert_tokens.proofs.Words.{kind_of_name, name_yes, name_opens, name_behind, name_comment, bytes_sit, copied_name, copied_bytes}

pub only_owner : (terminal : Terminal) → member (number_of terminal) (just terminals.Owner) ≡ true → terminal ≡ terminals.Owner
only_owner terminals.Owner m = refl
only_owner _ m = absurd (cc)

only_name : (terminal : Terminal) → member (number_of terminal) (just terminals.VariableName) ≡ true
    → terminal ≡ terminals.VariableName
only_name terminals.VariableName m = refl
only_name _ m = absurd (cc)

pub dollar_ends : Ends (sign "$")
dollar_ends = record { slash = refl; digit = refl }

-- the name of a variable behind its `$`, as it is written
pub record VariableName (source : Source) (i : ℕ) : Type 0 where
  pub sort : Sort
  pub is : is_name sort ≡ true
  pub segment : Segment befores.Dollar (name_text (dashed (bytes_at source i)))
      (tok terminals.VariableName (Dashed (dashed (bytes_at source i))) ∷ []) (direct sort terminals.VariableName ∷ [])
      befores.Other (Follows (name_text (dashed (bytes_at source i))))

pub variable_name : (source : Source) (i : ℕ) → WasRead source → Old source i (just terminals.VariableName)
    → VariableName source i
variable_name source i was old =
    let it = old_token source was i old.lexeme old.there in
    let is_variable = only_name old.lexeme.terminal old.kind in
    let k = kind_of_name it.kind it.text (ap (λ (t : Terminal). fits t (sort_of it.kind it.text)) (sym is_variable) ∙ it.fit) in
    let own = it.own (name_opens it.kind k) in
    let bs = it.text ++ own.after in
    let named_piece = name_in it.kind (length it.text) own.change k bs own.inside own.before own.is in
    let kept = kept_name it.text own.after own.some (name_run it.kind (length it.text) own.change k bs named_piece).0
    (run_by it.text own.after [] it.kind own.change k own.some named_piece (nothing_parts it.text) bs named_piece) in
    let text = name_text (dashed it.text) in
    let n : is_name (sort_of kept.kind text) ≡ true = name_yes kept.kind text kept.is in
    let name = token_segment kept.kind text (terminals.VariableName ∷ []) (Dashed (dashed (bytes_at source i))) befores.Dollar
    false (Follows text) (name_opens kept.kind kept.is) (name_comment (sort_of kept.kind text) n)
    (name_black text (dashed own.after) [] kept.kind changes.Keep kept.is kept.some kept.piece_is (nothing_parts text)) kept.some
    (λ new commented at front after sits.
    ap dashed (bytes_sit new commented at front _ after sits) ∙ kept.dashed_is ∙ ap dashed (sym own.bytes_are))
    (λ inside after code f.
    name_dollar text (dashed own.after) after kept.kind changes.Keep kept.is kept.some kept.piece_is (follows_parts text after f) inside code) in
    let shown : text ≡ name_text (dashed (bytes_at source i)) = ap (λ (t : List ℕ). name_text (dashed t)) (sym own.bytes_are) in record {
      sort = sort_of kept.kind text;
      is = n;
      segment = as_behind (λ after f. subst (λ (t : List ℕ). Follows t after) (sym shown) f) (as_text shown
          (subst
          (λ (end : Before). Segment befores.Dollar text (tok terminals.VariableName (Dashed (dashed (bytes_at source i))) ∷ []) (direct (sort_of kept.kind text) terminals.VariableName ∷ []) end (Follows text))
          (name_behind kept.kind kept.is) name));
    }

-- a `$` and the name that was read behind one, where it may be these terminals
pub variable_segment : (source : Source) (i : ℕ) → (name : VariableName source i) → (ts : List Terminal) (before : Before)
    (spaced : Bool) → is_calm (behind_gap before (gap_of spaced)) ≡ true
    → Segment before (gap_of spaced ++ dollar_name (dashed (bytes_at source i)))
    (record { kinds = ts; said = again.Nothing } ∷ tok terminals.VariableName (Dashed (dashed (bytes_at source i))) ∷ [])
    (record { sort = sorts.Dollar; spaced = is_spaced (behind_gap before (gap_of spaced)); may_be = ts }
    ∷ direct name.sort terminals.VariableName ∷ [])
    befores.Other (Follows (dollar_name (dashed (bytes_at source i))))
unfolding byte
variable_segment source i name ts before spaced calm =
    let text = name_text (dashed (bytes_at source i)) in
    as_behind (λ after f. follows_end [] text (sign "$") dollar_ends after f)
    (as_text (append_assoc (gap_of spaced) (codes "$") text)
    (join
    (sign_segment kinds.Dollar (codes "$") ts before spaced Anything refl refl refl (lit< tt)
    (λ inside after code ok. sign_token kinds.Dollar after inside (behind_gap before (gap_of spaced)) refl code calm refl))
    name.segment (λ after f. tt)))

-- what a variable is to be told as, by itself and behind a namespace
abbrev pub Named : Shape → Type 0
Named shape =
    (mode : Mode) (spaced : Bool) (name : Sort) → is_name name ≡ true
    → shape mode spaced (passed_dollar spaced ∷ direct name terminals.VariableName ∷ [])

abbrev pub OwnedNamed : Shape → Type 0
OwnedNamed shape =
    (mode : Mode) (spaced : Bool) (owner name : Sort) → is_name owner ≡ true → is_name name ≡ true
    → shape mode spaced
    (written owner spaced terminals.Owner ∷ direct sorts.Dot terminals.OwnerDot
    ∷ direct sorts.Dollar terminals.OwnerDollar ∷ direct name terminals.VariableName ∷ [])

pub variable_written : {shape : Shape} → Named shape → (source : Source) (i : ℕ) → WasRead source
    → Old source i (just terminals.VariableName)
    → WrittenAs shape (dollar_name (dashed (bytes_at source i)))
    (dollar ∷ tok terminals.VariableName (Dashed (dashed (bytes_at source i))) ∷ [])
variable_written says source i was old before spaced calm =
    let name = variable_name source i was old in record {
      passed = _;
      segment = variable_segment source i name (terminals.Dollar ∷ terminals.DollarNamed ∷ []) before spaced calm;
      told = λ mode b. says mode (is_spaced (behind_gap before (gap_of spaced))) name.sort name.is;
    }

-- this sign stands behind
abbrev pub Begins : ℕ → List ℕ → Type 0
Begins b after = (rest : List ℕ) × (after ≡ b ∷ rest)

pub dot_parts : (value after : List ℕ) → Begins (sign ".") after → Parted value after
dot_parts value after b =
    subst (Parted value) (sym b.1) (record {
      dark = subst Dark (sym (first_byte (sign ".") b.0)) (dot_dark (sign ".") refl);
      closed = refl;
    })

-- a variable behind a namespace
pub qualified_written : {shape : Shape} → OwnedNamed shape → (source : Source) (i : ℕ) → WasRead source
    → Old source i (just terminals.Owner) → Old source (suc (suc (suc i))) (just terminals.VariableName)
    → WrittenAs shape (qualified_text (qualified_of source i (suc (suc (suc i)))))
    (tok terminals.Owner (Bytes 1 (bytes_at source i)) ∷ again.sign terminals.OwnerDot ∷ again.sign terminals.OwnerDollar
    ∷ tok terminals.VariableName (Dashed (dashed (bytes_at source (suc (suc (suc i)))))) ∷ [])
unfolding byte
qualified_written says source i was owner old before spaced calm =
    let it = old_token source was i owner.lexeme owner.there in
    let sort = sort_of it.kind it.text in
    let n : is_name sort ≡ true =
    ap (λ (t : Terminal). fits t sort) (sym (only_owner owner.lexeme.terminal owner.kind)) ∙ it.fit in
    let bytes_are = copied_bytes source i owner.lexeme it n in
    let name = variable_name source (suc (suc (suc i))) was old in
    let text = name_text (dashed (bytes_at source (suc (suc (suc i))))) in
    let first = copied_name source i owner.lexeme it n terminals.Owner (Bytes 1 (bytes_at source i)) before spaced calm
    (Begins (sign ".")) (dot_parts it.text) (λ new at same. one_byte new at ∙ same) in
    let dot = sign_segment kinds.Dot (codes ".") (terminals.OwnerDot ∷ []) befores.Other false (Begins (sign "$")) refl refl refl
    (lit< tt)
    (λ inside after code b.
    sign_token kinds.Dot after inside befores.Other refl code refl
    (subst (λ (t : List ℕ). Fits kinds.Dot t) (sym b.1) refl)) in
    let sign_dollar = sign_segment kinds.Dollar (codes "$") (terminals.OwnerDollar ∷ []) befores.Other false Anything refl refl
    refl (lit< tt) (λ inside after code ok. sign_token kinds.Dollar after inside befores.Other refl code refl refl) in record {
      passed = _;
      segment = as_behind
          (λ after f. follows_end (bytes_at source i ++ codes ".") text (sign "$") dollar_ends after
          (subst (λ (t : List ℕ). Follows t after) (sym (append_assoc (bytes_at source i) (codes ".") (sign "$" ∷ text))) f))
          (as_text (ap (λ (t : List ℕ). (gap_of spaced ++ t) ++ (codes ".$" ++ text)) (sym bytes_are)
          ∙ append_assoc (gap_of spaced) (bytes_at source i) (codes ".$" ++ text))
          (join first
          (join dot (join sign_dollar name.segment (λ after f. tt)) (λ after f. (text ++ after, refl)))
          (λ after f. (codes "$" ++ (text ++ after), refl))));
      told = λ mode b. says mode (is_spaced (behind_gap before (gap_of spaced))) sort name.sort n name.is;
    }

pub variables_written : VariablesAreWritten
variables_written source i span was old =
    subst (λ (t : List ℕ). WrittenAs (AsValue false) t (dollar ∷ tok terminals.VariableName (Dashed (dashed (bytes_at source i))) ∷ []))
    (sym (unrolled.variable_is (dashed (bytes_at source i)))) (variable_written (λ mode spaced name n. variable name n) source i was old)
