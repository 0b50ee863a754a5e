-- Arguments in parentheses.
use Rattle.std.proofs.Common.{◌≡◌, ℕ, suc, Bool, true, false, List, [], ◌∷◌, ◌++◌, map, append-nil, refl, sym, ◌∙◌, ap, subst, append_assoc}
use Rattle.std.specs.Prelude.{codes}
use Rattle.sw_text.specs.Names.{dashed}
use Rattle.sw_text_scan.specs.Bytes.{sign}
use Rattle.sw_tree.specs.declared.expr.Argument.{Argument}
use Rattle.sw_tokens.specs.declared.pieces.Before.TheVariants as befores
use Rattle.sw_parse_terminals.specs.declared.terminal.Terminal.TheVariants as terminals
use Rattle.sw_parse_lexemes.specs.declared.sort.Sort.{Sort}
use Rattle.sw_parse_lexemes.specs.declared.sort.Sort.TheVariants as sorts
use Rattle.sw_parse_table.specs.declared.source.Source.{Source}
use Rattle.sw_parse_table.specs.Sources.{bytes_at}
use Rattle.sw_convert_written.specs.Expressions.{expr_text, argument_text, with_commas}
use Rattle.sw_convert_written.specs.Heads.{given_arguments}
use Rattle.sw_convert_written.specs.Names.{dollar_name}
use Rattle.sw_convert_passing.specs.Written.{Written, direct}
use Rattle.sw_convert_passing.specs.Values.{Call, stays_behind, no_colon, Settles, settled_end, settled_same, settled_dollar, settled_named}
use Rattle.sw_convert_again.specs.Tokens.{Tok, tok, Dashed}
use Rattle.sw_convert_again.specs.Tokens as again
use Rattle.sw_convert_again.specs.Spells.{undollared, SpellsArgument, SpellsMore, SpellsArguments}
use Rattle.sw_convert_again.specs.Spells as spells
use Rattle.sw_convert_again.specs.Statements.{SpellsGiven, no_parens, empty_parens, some_given}
use Rattle.sw_convert_tokens.specs.Joints.{Segment}
use Rattle.sw_convert_tokens.specs.Values.{WasRead}
use Rattle.sw_convert_tokens.proofs.Joins.{join}
use Rattle.sw_convert_tokens.proofs.Signs.{Anything, lone_segment}
use Rattle.sw_convert_tokens.proofs.Arguments.{IsItems, AreArguments, value_argument, name_argument, first_argument, further_argument, colon_argument, dots_behind, no_arguments_written, arguments_written}
use Rattle.sw_convert_tokens.proofs.Undollared.{placed_argument}
use Rattle.sw_convert_values.specs.Values.{is_led, goes_on}
use Rattle.sw_convert_values.proofs.Stops.{before_old, before_more, before_end}
use Rattle.sw_convert_values.proofs.Starts.{behind_old}
use Rattle.sw_convert_statements.specs.Fronts.{ValuesAreKnown}
use Rattle.sw_convert_statements.proofs.Params.{close_segment}

arguments_as : {xs ys : List ℕ} {ks ls : List Tok} → xs ≡ ys → ks ≡ ls → AreArguments false xs ks → AreArguments false ys ls
arguments_as {xs} {ys} {ks} {ls} e f a =
    subst (λ (t : List Tok). AreArguments false ys t) f (subst (λ (t : List ℕ). AreArguments false t ks) e a)

named_text : (name value : List ℕ) → name ++ (codes ": " ++ value) ≡ (name ++ codes ": ") ++ (value ++ [])
named_text name value =
    sym (append_assoc name (codes ": ") value) ∙ ap (λ (t : List ℕ). (name ++ codes ": ") ++ t) (sym (append-nil value))

three : (left space value rest : List ℕ) → (left ++ (space ++ value)) ++ rest ≡ left ++ (space ++ (value ++ rest))
three left space value rest =
    append_assoc left (space ++ value) rest ∙ ap (λ (t : List ℕ). left ++ t) (append_assoc space value rest)

module _ (source : Source) (was : WasRead source) (values : ValuesAreKnown source) where
  argument_in : {i j : ℕ} {arg : Argument} {tokens : List Tok} → is_led source i ≡ false → goes_on source j ≡ false
      → SpellsArgument source i j arg tokens
      → AreArguments false (argument_text arg) tokens
  argument_in led ended (spells.named_argument {i} {value = inner} dollar name colon value) =
      arguments_as (named_text (dollar_name (dashed (bytes_at source (suc i)))) (expr_text inner)) refl
      (colon_argument (first_argument (name_argument false source (suc i) was name))
      (value_argument true (values.plains _ _ _ _ (behind_old colon refl) ended value).1))
  argument_in led ended (spells.placed_argument {value = inner} value) =
      arguments_as (sym (append-nil (expr_text inner))) refl
      (first_argument (placed_argument false (values.plains _ _ _ _ led ended value).1))
  argument_in led ended (spells.spread_argument value dots) =
      dots_behind (first_argument (placed_argument false (values.plains _ _ _ _ led (before_old dots refl) value).1))

  argument_behind : {i j : ℕ} {arg : Argument} {ks tokens : List Tok} {left : List ℕ}
      → is_led source i ≡ false → goes_on source j ≡ false → SpellsArgument source i j arg tokens
      → AreArguments false left ks
      → AreArguments false (left ++ (codes ", " ++ argument_text arg)) (ks ++ again.sign terminals.Comma ∷ tokens)
  argument_behind {ks = ks} {left = left} led ended
      (spells.named_argument {i} {value = inner} {tokens = tokens} dollar name colon value) it =
      let said = dollar_name (dashed (bytes_at source (suc i))) in
      arguments_as
      (three left (codes ", ") said (codes ": " ++ expr_text inner)
      ∙ ap (λ (t : List ℕ). left ++ (codes ", " ++ t)) (named_text said (expr_text inner)))
      (append_assoc ks (again.sign terminals.Comma ∷ again.sign terminals.DollarNamed
      ∷ tok terminals.VariableName (Dashed (dashed (bytes_at source (suc i)))) ∷ []) (again.sign terminals.Colon ∷ tokens))
      (colon_argument (further_argument it (name_argument true source (suc i) was name))
      (value_argument true (values.plains _ _ _ _ (behind_old colon refl) ended value).1))
  argument_behind {left = left} led ended (spells.placed_argument {value = inner} value) it =
      arguments_as (ap (λ (t : List ℕ). left ++ (codes ", " ++ t)) (sym (append-nil (expr_text inner)))) refl
      (further_argument it (placed_argument true (values.plains _ _ _ _ led ended value).1))
  argument_behind {ks = ks} {left = left} led ended (spells.spread_argument {value = inner} {tokens = tokens} value dots) it =
      arguments_as (three left (codes ", ") (expr_text inner) (codes "..."))
      (append_assoc ks (again.sign terminals.Comma ∷ undollared tokens) (again.sign terminals.Ellipsis ∷ []))
      (dots_behind (further_argument it (placed_argument true (values.plains _ _ _ _ led (before_old dots refl) value).1)))

  more_in : {k j : ℕ} {ks others : List Tok} {args : List Argument} {left : List ℕ}
      → goes_on source j ≡ false → SpellsMore source k j args others → AreArguments false left ks
      → AreArguments false (left ++ with_commas false (map argument_text args)) (ks ++ others)
  more_in {ks = ks} {left = left} ended spells.no_more it = arguments_as (sym (append-nil left)) (sym (append-nil ks)) it
  more_in {ks = ks} {left = left} ended
      (spells.more {arg = arg} {args = args} {tokens = tokens} {others = others} comma one rest) it =
      arguments_as (three left (codes ", ") (argument_text arg) (with_commas false (map argument_text args)))
      (append_assoc ks (again.sign terminals.Comma ∷ tokens) others)
      (more_in ended rest (argument_behind (behind_old comma refl) (before_more rest ended) one it))

  arguments_in : {i j : ℕ} {args : List Argument} {tokens : List Tok} → is_led source i ≡ false → goes_on source j ≡ false
      → SpellsArguments source i j args tokens → IsItems (with_commas true (map argument_text args)) tokens
  arguments_in led ended spells.no_arguments = no_arguments_written
  arguments_in led ended (spells.arguments one rest end) =
      let stop = before_end end ended in
      arguments_written (more_in stop rest (argument_in led (before_more rest stop) one))

-- ---- behind a name

-- parentheses, or nothing
pub data IsGiven : List ℕ → List Tok → Type 0 where
  nothing_given : IsGiven [] []
  arguments_given : {text : List ℕ} {tokens : List Tok} {passed : List Written} → Call passed
      → Segment befores.Other (codes "(" ++ text) tokens passed befores.Other Anything → IsGiven (codes "(" ++ text) tokens

open_segment : Segment befores.Other (codes "(") (again.sign terminals.CallParen ∷ [])
    (direct sorts.OpenParen terminals.CallParen ∷ []) befores.Other Anything
open_segment = lone_segment (sign "(") (terminals.CallParen ∷ []) befores.Other false refl refl refl (λ inside code. refl)

pub given_written : (source : Source) → WasRead source → ValuesAreKnown source → {i j : ℕ} {arguments : List Argument}
    {tokens : List Tok} → SpellsGiven source i j arguments tokens → IsGiven (given_arguments arguments) tokens
given_written source was values no_parens = nothing_given
given_written source was values (empty_parens opens closes) = nothing_given
given_written source was values (some_given opens inner closes) =
    let it = arguments_in source was values (behind_old opens refl) (before_old closes refl) inner in
    arguments_given it.told (join open_segment (join it.segment close_segment (λ after ok. (after, refl))) (λ after ok. tt))

-- ---- the same tokens with others around them

stays_more : (sort : Sort) (a b : Bool) → (a ≡ true → b ≡ true) → stays_behind sort a ≡ true → stays_behind sort b ≡ true
stays_more sorts.Comment a b f e = f e
stays_more sorts.CommentTemplate a b f e = absurd (cc)
stays_more sorts.CommentEnd a b f e = absurd (cc)
stays_more sorts.Colon a b f e = absurd (cc)
stays_more _ a b f e = refl

no_colon_more : (rest more : List Written) → no_colon rest ≡ true → no_colon (rest ++ more) ≡ true
no_colon_more [] more e = absurd (cc)
no_colon_more (next ∷ rest) more e =
    stays_more next.sort (no_colon rest) (no_colon (rest ++ more)) (λ f. no_colon_more rest more f) e

same_tokens : (tokens : List Written) → Settles tokens tokens
same_tokens [] = settled_end
same_tokens (one ∷ tokens) = settled_same one (same_tokens tokens)

settles_more : {loose exact : List Written} (more : List Written) → Settles loose exact
    → Settles (loose ++ more) (exact ++ more)
settles_more more settled_end = same_tokens more
settles_more more (settled_same one s) = settled_same one (settles_more more s)
settles_more more (settled_dollar {rest = rest} name e s) = settled_dollar name (no_colon_more rest more e) (settles_more more s)
settles_more more (settled_named name n s) = settled_named name n (settles_more more s)

pub settles_around : {loose exact : List Written} (front more : List Written) → Settles loose exact
    → Settles (front ++ (loose ++ more)) (front ++ (exact ++ more))
settles_around [] more s = settles_more more s
settles_around (one ∷ front) more s = settled_same one (settles_around front more s)
