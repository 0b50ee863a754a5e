-- The text of an expression reads back.
use Rattle.std.proofs.Common.{◌≡◌, ◌≤◌, ℕ, ◌+◌, Bool, true, false, ◌||◌, List, [], ◌∷◌, ◌++◌, length, Result, Ok, Err, append-nil, refl, sym, ◌∙◌, ap, subst, arith}
use Rattle.std.proofs.lemmas.List.{drop_all}
use Rattle.std.proofs.lemmas.Option.{slice_get_past}
use Rattle.sw_text.specs.Places.{mark_length}
use Rattle.sw_tree.specs.declared.expr.Expr.{Expr}
use Rattle.sw_tokens.specs.declared.pieces.Before.TheVariants as befores
use Rattle.sw_tokens.specs.declared.token.Token.{Token}
use Rattle.sw_tokens.specs.Ends.{tokens_of}
use Rattle.sw_parse_lexemes.specs.declared.plain.Plain.{Plain}
use Rattle.sw_parse_lexemes.specs.declared.state.Mode.TheVariants as modes
use Rattle.sw_parse_lexemes.specs.Ahead.{spaced_in, spaced_at}
use Rattle.sw_parse_lexemes.specs.Plains.{plains_from, plains_of}
use Rattle.sw_parse_lexemes.specs.Lexemes.{lexemes_from, before_value, value_lexemes_of}
use Rattle.sw_parse_table.specs.declared.source.Source.{Source}
use Rattle.sw_parse_table.specs.Parts.{Part, Values, values_of}
use Rattle.sw_convert_alike.specs.Expressions.{Like}
use Rattle.sw_convert_written.specs.Expressions.{expr_text}
use Rattle.sw_convert_passing.specs.Written.{Written, Within}
use Rattle.sw_convert_passing.specs.Values.{Row}
use Rattle.sw_convert_passing.proofs.Told.{rows_are_told}
use Rattle.sw_convert_passing.proofs.Seeing.{passed_is_seen}
use Rattle.sw_convert_again.specs.Tokens.{Stands, Tok}
use Rattle.sw_convert_again.proofs.Values.{values_again}
use Rattle.sw_convert_tokens.specs.Joints.{writtens, toks}
use Rattle.sw_convert_tokens.specs.Written.{Follows, AsRow, WrittenAs}
use Rattle.sw_convert_values.specs.ReadsBack.{IsText, ExpressionsReadBack}
use Rattle.sw_convert_tokens.proofs.Laid.{Laid, listed, tokens_are, all_laid}
use Rattle.sw_convert_tokens.proofs.Sitting.{laid_there, all_sit, all_stand}
use Rattle.sw_convert_values.proofs.Values.{values_written}

-- nothing stands behind a whole text
nothing_follows : (value : List ℕ) → Follows value []
nothing_follows value = record { stop = refl; closed = refl }

-- a value may begin at the beginning
within : Within modes.Expression [] (before_value modes.Expression)
within = record { mode_is = refl; frames_are = refl; no_start = refl; no_comment = refl }

past_spaced : (plains : List Plain) → spaced_at plains (length plains) ≡ true
unfolding spaced_at
past_spaced plains = ap spaced_in (slice_get_past plains (length plains) (let e : length plains ≤ length plains = omega arith in e))

or_true : (a b : Bool) → a ≡ true → (a || b) ≡ true
or_true true b e = refl
or_true false b e = absurd (cc)

-- the same value in a list of one
same_value : (a b : Expr) → Values a ∷ [] ≡ Values b ∷ [] → a ≡ b
same_value a b e = ap (λ (parts : List Part). first_of a (values_of parts)) e
  where
    first_of : Expr → List Expr → Expr
    first_of x [] = x
    first_of x (y ∷ ys) = y

abbrev pub listed_of : List Token → Result (List Token) ℕ → List Token
listed_of default (Ok list) = list
listed_of default (Err k) = default

module _ (written : Source) (value : List ℕ) (tokens : List Tok) (are : WrittenAs AsRow value tokens)
    (it : IsText written value) where
  abbrev list : List Token
  list = written.tokens.now.list

  abbrev plains : List Plain
  plains = plains_of value list

  stand : Stands written 0 tokens (length written.lexemes.now)
  unfolding value_lexemes_of
  stand =
      let one = are befores.Other false refl in
      let segment = one.segment in
      let stands = segment.stand [] [] refl (nothing_follows value) in
      let spelt = segment.spelling in
      let unmarked = ap mark_length spelt ∙ it.unmarked in
      let listed_is : list ≡ listed befores.Other 0 segment.joints =
      ap (listed_of list) (sym it.tokens_are ∙ ap tokens_of (sym spelt) ∙ tokens_are segment.joints stands unmarked) in
      let laid = subst (λ (t : List Token). Laid [] segment.joints (plains_from value 0 t) t) (sym listed_is)
      (all_laid value [] befores.Other [] segment.joints (sym spelt) stands) in
      let there = laid_there plains [] laid refl in
      let told = rows_are_told modes.Expression false (one.told modes.Expression refl).0 (writtens segment.joints)
      (subst (λ (ws : List Written). Row modes.Expression false (one.told modes.Expression refl).0 ws) (sym segment.written)
      (one.told modes.Expression refl).1)
      plains [] (before_value modes.Expression) 0 (length plains) refl refl within refl refl refl refl there
      (or_true (spaced_at plains (length plains)) _ (past_spaced plains)) in
      let passed = told.0.passed in
      let lexemes : written.lexemes.now ≡ told.0.lexemes =
      it.lexemes_are ∙ passed_is_seen plains (before_value modes.Expression) 0 (writtens segment.joints) told.0.lexemes told.0.end (length plains) passed
      ∙ ap (λ (t : List Plain). told.0.lexemes ++ lexemes_from plains told.0.end (length plains) t) (drop_all (length plains) plains (let e : length plains ≤ length plains = omega arith in e))
      ∙ append-nil told.0.lexemes in
      let (sit, count) = all_sit written plains segment.joints [] {done = []} {done_tokens = []} passed laid
      (record { all = refl; here = refl; all_tokens = refl; here_token = refl }) lexemes (it.text_is ∙ sym spelt) in
      subst (λ (t : List Tok). Stands written 0 t (length written.lexemes.now)) segment.seen
      (all_stand written segment.joints false 0 (length written.lexemes.now) [] [] sit segment.tells
      (let a = ap length lexemes in let z : 0 + length (toks segment.joints) ≡ length written.lexemes.now = omega (arith, a, count) in z))

pub expressions_read_back : ExpressionsReadBack
expressions_read_back source written levels i j value was singles led ended reads text =
    let again = values_again source written levels i j (Values value ∷ []) reads in
    let same = same_value value again.value again.is in
    let are = subst (λ (e : Expr). WrittenAs AsRow (expr_text e) again.tokens) (sym same)
    (values_written source was singles i j again.value again.tokens led ended again.spells) in
    let found = again.back 0 (length written.lexemes.now) (stand written (expr_text value) again.tokens are text) in record {
      found = found.found;
      reads = found.reads;
      alike = subst (λ (e : Expr). Like e found.found) (sym same) found.alike;
    }
