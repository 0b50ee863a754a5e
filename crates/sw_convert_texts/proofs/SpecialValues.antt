-- Values in the text of a special function, by themselves and in `#{}`.
use Rattle.std.proofs.Common.{◌≡◌, ℕ, suc, ◌+◌, Bool, true, false, not, ◌&&◌, ◌||◌, List, [], ◌∷◌, ◌++◌, length, refl, sym, ◌∙◌, ap, subst, arith, append_assoc}
use Rattle.std.specs.Prelude.{codes}
use Rattle.std.specs.List.{list_all}
use Rattle.sw_text_scan.specs.Bytes.{sign, byte, is_white}
use Rattle.sw_text_scan.proofs.Bounds.{and_left, and_right, not_true}
use Rattle.sw_tree.specs.declared.expr.Expr.{Expr}
use Rattle.sw_tokens.specs.declared.pieces.Before.TheVariants as befores
use Rattle.sw_tokens.specs.Ends.{opens}
use Rattle.sw_parse_terminals.specs.declared.terminal.Terminal.TheVariants as terminals
use Rattle.sw_parse_lexemes.specs.declared.sort.Sort.TheVariants as sorts
use Rattle.sw_parse_lexemes.specs.declared.state.Mode.TheVariants as modes
use Rattle.sw_parse_lexemes.specs.Classes.{is_number}
use Rattle.sw_parse_table.specs.declared.source.Source.{Source}
use Rattle.sw_parse_terminals.specs.Numbers.{just}
use Rattle.sw_parse_table.specs.Sources.{begun}
use Rattle.sw_convert_spelling.specs.Spelt.{innermost}
use Rattle.sw_convert_spelling.proofs.MovedRuns.{first_byte}
use Rattle.sw_convert_spelling.proofs.Choices.{left_no, right_no}
use Rattle.sw_convert_written.specs.Expressions.{expr_text}
use Rattle.sw_convert_passing.specs.Kinds.{is_dot, is_paren}
use Rattle.sw_convert_passing.specs.Written.{Written, written}
use Rattle.sw_convert_passing.specs.Values.{Special, text_insert}
use Rattle.sw_convert_again.specs.Tokens.{Nothing, Tok, extent, Old}
use Rattle.sw_convert_again.specs.Spells.{Spells}
use Rattle.sw_convert_again.specs.Spells as spells
use Rattle.sw_convert_tokens.specs.Joints.{Token, text, written_of}
use Rattle.sw_convert_tokens.specs.Values.{WasRead}
use Rattle.sw_convert_tokens.specs.Written.{AsRow, WrittenAs}
use Rattle.sw_convert_tokens.proofs.Joins.{behind_append, tell_append}
use Rattle.sw_convert_texts.specs.InText.{is_seen, InText, is_digits, value_fits}
use Rattle.sw_convert_texts.specs.RawKinds.{is_some}
use Rattle.sw_convert_texts.specs.Specials.{value_ends}
use Rattle.sw_convert_texts.proofs.AroundTexts.{Beside, cut_before, CutFrom, cut_insert}
use Rattle.sw_convert_texts.proofs.Inserts.{code_inserts, closing, Inner, inner_items, inner_of, value_stand}
use Rattle.sw_convert_texts.proofs.RawRows.{opened, insert_joints, insert_spelling, insert_seen, insert_tail, insert_placed}
use Rattle.sw_convert_texts.proofs.RawSits.{ends_append, beside_sits}
use Rattle.sw_convert_texts.proofs.TextValues.{code_gap, ends_other, value_is}
use Rattle.sw_convert_texts.proofs.Specials.{value_follows, ItemIs}

module _ (source : Source) (was : WasRead source) where
  -- ---- values

  pub insert_item : {i c : ℕ} {value : Expr} {tokens : List Tok} (opens : Old source i (just terminals.Insert))
      (value_there : Spells source (suc i) c value tokens) (close : Old source c (just terminals.InsertEnd))
      → WrittenAs AsRow (expr_text value) tokens → (ended parens digits : Bool) (behind_text gap : List ℕ)
      → list_all is_white gap ≡ true → ItemIs source was (spells.item_insert opens value_there close) ended parens digits behind_text gap
  insert_item {value = value} {tokens = tokens} opens value_there close has ended parens digits behind_text gap white =
      let inner : Inner (expr_text value) tokens = inner_of (expr_text value) tokens has in
      let list = inner.segment.joints in
      let shut = Token (closing Nothing) in
      let first = opened source was modes.Raw opens value_there close inner befores.Other gap Nothing in record {
        joints = insert_joints source was modes.Raw opens value_there close inner befores.Other gap Nothing;
        spelling = insert_spelling source was modes.Raw opens value_there close inner befores.Other gap Nothing;
        seen = insert_seen source was modes.Raw opens value_there close inner befores.Other gap Nothing;
        last = behind_append befores.Other list (shut ∷ []);
        ended_is = ends_append false list (shut ∷ []);
        tells = (
          λ new commented at front after sit. tt,
          tell_append list (shut ∷ []) inner.segment.tells (λ new commented at front after sit. tt, tt),
        );
        special = λ inside rest next more.
            subst (λ (t : List Written). Special inside ended (written sorts.OpenInsert first.spaced terminals.Insert ∷ t))
            (sym (insert_tail source was modes.Raw opens value_there close inner befores.Other gap Nothing rest))
            (text_insert (inner_items inner) more);
        head = λ rest. record {
          dotless = right_no (not first.spaced) _ refl;
          opener = λ e. right_no (not first.spaced) _ refl;
          numberless = λ e. right_no (not first.spaced) _ refl;
        };
        placed = insert_placed source was modes.Raw opens value_there close inner befores.Other gap Nothing;
        stand = λ stack after code first.
            value_stand stack befores.Other gap terminals.Insert Nothing Nothing inner [] after
            (code_inserts (innermost stack) code)
            (code_gap (innermost stack) gap (codes "#{") code white (ap is_white (first_byte (sign "#") (codes "{")))) refl;
      }

  pub value_item : {i k : ℕ} {value : Expr} {tokens : List Tok} (there : Spells source i k value tokens)
      → WrittenAs (InText (is_digits there) (value_fits there)) (expr_text value) tokens → (ended parens digits : Bool)
      (behind_text gap : List ℕ) → list_all is_white gap ≡ true → value_fits there (is_some gap) ended ≡ true
      → value_ends (expr_text value) (byte behind_text 0) ≡ true
      → ItemIs source was (spells.item_value there) ended parens digits behind_text gap
  value_item {value = value} {tokens = tokens} there has ended parens digits behind_text gap white fits ends =
      let it = value_is (expr_text value) tokens (is_digits there) (value_fits there) has gap white in
      let plain = and_right (is_seen it.first.may_be) _ it.plainly in
      let first = written_of (Token it.first) in
      let apart_of = and_left (not (is_dot first.sort) && not (is_paren first.sort)) _ plain in
      let counts = and_right (not (is_dot first.sort) && not (is_paren first.sort)) _ plain in record {
        joints = Token it.first ∷ it.others;
        spelling = λ t. ap (λ (xs : List ℕ). xs ++ t) it.spelling ∙ append_assoc gap (expr_text value) t;
        seen = it.seen;
        last = it.last;
        ended_is = ends_other befores.Other false (Token it.first ∷ it.others) (λ e. refl) it.last;
        tells = it.tells;
        special = λ inner rest next more. it.special inner ended rest fits more;
        head = λ rest. record {
          dotless = right_no (not first.spaced) _ (not_true (is_dot first.sort) (and_left (not (is_dot first.sort)) _ apart_of));
          opener = λ e. right_no (not first.spaced) _
              (not_true (is_paren first.sort) (and_right (not (is_dot first.sort)) _ apart_of));
          numberless = λ e. numbers (is_digits there) first it.spaced_is counts e;
        };
        placed = λ new at front after to end more cuts here sit rest.
            subst (λ (n : ℕ). CutFrom new to end at (extent n (suc at + length tokens) ∷ more) (begun gap (cut_before cuts)))
            (let z : suc at ≡ suc at + 0 = omega arith in z)
            (subst (λ (n : ℕ). CutFrom new to end at (extent (suc at) n ∷ more) (begun gap (cut_before cuts)))
            (let z : suc (at + length tokens) ≡ suc at + length tokens = omega arith in z)
            (cut_insert new to end at (at + length tokens) gap more cuts
            (subst (Beside new at) it.gap_is (beside_sits new at front it.first (text it.others ++ after) here sit.0)) rest));
        stand = λ stack after code f.
            it.stand stack after code (value_follows (expr_text value) after (ap (value_ends (expr_text value)) f ∙ ends));
      }
    where
      numbers : (d : Bool) (first : Written) → first.spaced ≡ is_some gap → (d || not (is_number first.sort)) ≡ true
          → (d && not (is_some gap)) ≡ false → (not first.spaced && is_number first.sort) ≡ false
      numbers false first s n e = right_no (not first.spaced) _ (not_true (is_number first.sort) n)
      numbers true first s n e = left_no (not first.spaced) _ (ap not s ∙ e)
