-- `@content` is read again, with its arguments.
use Rattle.std.proofs.Common.{◌≡◌, ◌⊎◌, ℕ, suc, List, [], ◌∷◌, ◌++◌, inl, inr, refl, sym, ◌∙◌, ap, subst}
use Rattle.sw_parse_grammar.specs.Grammar.{Grammar, alt, empty}
use Rattle.sw_tree.specs.declared.expr.Argument.{Argument}
use Rattle.sw_tree.specs.declared.statement.ContentCall.{ContentCall}
use Rattle.sw_tree.specs.declared.statement.Statement.TheVariants as statements
use Rattle.sw_parse_terminals.specs.declared.terminal.Terminal.TheVariants as terminals
use Rattle.sw_parse_terminals.specs.Numbers.{just}
use Rattle.sw_parse_table.specs.declared.source.Source.{Source}
use Rattle.sw_parse_table.specs.Parts.{Part, Form, Arguments, States}
use Rattle.sw_parse_table.specs.Sources.{span_between}
use Rattle.sw_parse_table.specs.Actions.{to_content, content_call}
use Rattle.sw_parse_table.specs.Expressions.{arguments_in}
use Rattle.sw_parse_table.specs.Statements.{content}
use Rattle.sw_convert_alike.specs.Expressions.{LikeArguments}
use Rattle.sw_convert_alike.specs.Expressions as alike_expressions
use Rattle.sw_convert_alike.specs.Statements as alike
use Rattle.sw_convert_again.specs.Tokens.{Tok, sign, Stands, Old}
use Rattle.sw_convert_again.specs.Spells.{SpellsArguments, call_tokens}
use Rattle.sw_convert_again.specs.Spells as spells
use Rattle.sw_convert_again.specs.Again.{Reads}
use Rattle.sw_convert_again.specs.Statements.{SpellsGiven, no_parens, empty_parens, some_given, ended, content_line}
use Rattle.sw_convert_again.specs.Claims.{StatementAgain}
use Rattle.sw_convert_again.proofs.Tokens.{old_of, is_of, split}
use Rattle.sw_convert_again.proofs.Arguments.{call_again}
use Rattle.sw_convert_again.proofs.Values.{spaces_again}
use Rattle.sw_convert_again.proofs.Statements.{was_ended, is_ended}

-- arguments in parentheses or none
abbrev pub given : Source → Grammar Part Form
given source = alt (arguments_in source) empty

-- what is read of them: none, or a list
abbrev pub IsGiven : List Argument → List Part → Type 0
IsGiven values w = ((w ≡ []) × (values ≡ [])) ⊎ (w ≡ Arguments values ∷ [])

module _ (source written : Source) (n : ℕ) where
  pub record GivenAgain (i j : ℕ) (w : List Part) : Type 0 where
    pub values : List Argument
    pub is : IsGiven values w
    pub tokens : List Tok
    pub spells : SpellsGiven source i j values tokens
    pub back : (p q : ℕ) → Stands written p tokens q
        → (found : List Argument) × (parts : List Part) × Reads written n (given written) p q parts × IsGiven found parts
        × LikeArguments values found

  by_call : (i j : ℕ) (w : List Part) (values : List Argument) (c : ℕ) (tokens : List Tok) → w ≡ Arguments values ∷ []
      → j ≡ suc c → Old source i (just terminals.CallParen) → Old source c (just terminals.ParenEnd)
      → SpellsArguments source (suc i) c values tokens
      → ((p q : ℕ) → Stands written p (call_tokens tokens) q
      → (found : List Argument) × Reads written n (arguments_in written) p q (Arguments found ∷ [])
      × LikeArguments values found) → GivenAgain i j w
  by_call i j w [] c tokens is end o z spells.no_arguments back = record {
    values = [];
    is = inr is;
    tokens = [];
    spells = subst (λ (x : ℕ). SpellsGiven source i x [] []) (sym end) (empty_parens o z);
    back = λ p q e. ([], [], inr (sym e, refl), inl (refl, refl), alike_expressions.no_arguments);
  }
  by_call i j w (value ∷ values) c tokens is end o z s back = record {
    values = value ∷ values;
    is = inr is;
    tokens = call_tokens tokens;
    spells = subst (λ (x : ℕ). SpellsGiven source i x (value ∷ values) (call_tokens tokens)) (sym end) (some_given o s z);
    back = λ p q stand. let (found, reads, same) = back p q stand in
        (found, Arguments found ∷ [], inl reads, inr refl, same);
  }

  pub given_again : (i j : ℕ) (w : List Part) → Reads source n (given source) i j w → GivenAgain i j w
  given_again i j w (inl d) =
      let one = call_again source written n (λ m e. spaces_again source written m) i j w d in
      by_call i j w one.values one.c one.tokens one.is one.end one.opened one.closed one.spells one.back
  given_again i j w (inr (e1, e2)) = record {
    values = [];
    is = inl (e2, refl);
    tokens = [];
    spells = subst (λ (x : ℕ). SpellsGiven source i x [] []) (sym e1) no_parens;
    back = λ p q e. ([], [], inr (sym e, refl), inl (refl, refl), alike_expressions.no_arguments);
  }

  content_is : (s : Source) (at behind : ℕ) (values : List Argument) (w : List Part) → IsGiven values w
      → to_content s at behind w ≡ content_call s at behind values
  content_is s at behind values w (inl (e, f)) =
      ap (to_content s at behind) e ∙ ap (content_call s at behind) (sym f)
  content_is s at behind values w (inr e) = ap (to_content s at behind) e

  pub content_again : StatementAgain source written n content
  unfolding content
  content_again i j w (k, u, v, (x, (k1, x1, x2, (m, e1, e2), d, e3), e4), f, e5) =
      let one = given_again (suc i) k x2 (subst (λ (y : ℕ). Reads source n (given source) y k x2) e1 d) in
      let end = was_ended source written n k j v f in
      let span = span_between source i k in
      let it : ContentCall = record { arguments = one.values; span = span } in
      let parts : x ≡ x2 = e3 ∙ ap (λ (y : List Part). y ++ x2) e2 in
      let tokens = sign terminals.AtContent ∷ one.tokens in record {
        statement = statements.Content it;
        is = e5 ∙ ap (λ (y : List Part). y ++ v)
            (e4 ∙ ap (to_content source i k) parts ∙ content_is source i k one.values x2 one.is)
            ∙ ap (λ (y : List Part). States (statements.Content it) ∷ y) end.1;
        tokens = ended tokens;
        spells = content_line span (old_of source i (just terminals.AtContent) refl m) one.spells end.0;
        back = λ p q stand.
            let (place, left, right) = split written q one.tokens (sign terminals.Semicolon ∷ []) (suc p) stand.1 in
            let (found, others, reads, given_is, same) = one.back (suc p) place left in
            let there = span_between written p place in
            let z : ContentCall = record { arguments = found; span = there } in record {
              found = statements.Content z;
              reads = (
                place,
                States (statements.Content z) ∷ [],
                [],
                (
                  others,
                  (
                    suc p,
                    [],
                    others,
                    (is_of written p (sign terminals.AtContent) (just terminals.AtContent) stand.0 refl, refl, refl),
                    reads,
                    refl,
                  ),
                  sym (content_is written p place found others given_is),
                ),
                is_ended source written n place q right,
                refl,
              );
              alike = alike.content same;
            };
      }
