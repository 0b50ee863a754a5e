-- Calls are read again, with their arguments.
use Rattle.std.proofs.Common.{◌≡◌, ◌⊎◌, ℕ, zero, suc, true, false, Some, None, List, [], ◌∷◌, ◌++◌, map, inl, inr, refl, sym, ◌∙◌, ap, subst}
use Rattle.sw_parse_grammar.specs.Grammar.{Grammar, member, Row, Item, done, then}
use Rattle.sw_text.specs.Names.{dashed}
use Rattle.sw_text.specs.declared.place.Span.{Span}
use Rattle.sw_tree.specs.declared.expr.Argument.{Argument}
use Rattle.sw_tree.specs.declared.expr.Callee.{Callee}
use Rattle.sw_tree.specs.declared.expr.ExprKind.TheVariants as exprs
use Rattle.sw_parse_terminals.specs.declared.terminal.Terminal.TheVariants as terminals
use Rattle.sw_parse_terminals.specs.Numbers.{just}
use Rattle.sw_parse_table.specs.declared.source.Source.{Source}
use Rattle.sw_parse_table.specs.Parts.{Part, Form, Place, Argues, Arguments, Texts as PartTexts, Values, arguments_of}
use Rattle.sw_parse_table.specs.Sources.{text_of, terminal_at, span_between, bytes_at, text_between}
use Rattle.sw_parse_table.specs.Values.{expression, argument_of, callee_of, namespaced, to_named, to_spread, to_called, to_owned}
use Rattle.sw_parse_table.specs.Expressions.{argument, named_argument, plain_argument, arguing, arguments_in, owned_call, space, word, expr}
use Rattle.sw_convert_alike.specs.Expressions.{Like, LikeParts, LikeArguments, like, space_of}
use Rattle.sw_convert_alike.specs.Expressions as alike
use Rattle.sw_convert_again.specs.Tokens.{Tok, tok, sign, Dashed, Bytes, Stands, Old}
use Rattle.sw_convert_again.specs.Spells.{Spells, SpellsPlain, unlisted, SpellsArgument, SpellsMore, SpellsArguments, undollared, call_tokens}
use Rattle.sw_convert_again.specs.Spells as spells
use Rattle.sw_convert_again.specs.Again.{Reads, Again, called_by_name, called_by_owner}
use Rattle.sw_convert_again.proofs.Bare.{spaces_plain}
use Rattle.sw_convert_again.proofs.Tokens.{one_byte, old_of, is_of, split, begins_more}
use Rattle.sw_convert_again.proofs.Dollars.{dollared, undollared_first}
use Rattle.sw_convert_again.proofs.Words.{word_again}
use Rattle.sw_convert_again.proofs.Enclosed.{colon_again}

arguments_listed : (args : List Argument) → arguments_of (map Argues args) ≡ args
arguments_listed [] = refl
arguments_listed (a ∷ args) = ap (λ (x : List Argument). a ∷ x) (arguments_listed args)

-- arguments that differ in where they stand
record LikeArgument (a b : Argument) : Type 0 where
  name : a.name ≡ b.name
  value : Like a.value b.value
  spread : a.spread ≡ b.spread

module _ (source written : Source) (n : ℕ) (operand : Again source written n space) where
  abbrev Was : Grammar Part Form → ℕ → ℕ → List Part → Type 0
  Was g = Reads source n g

  abbrev Is_ : Grammar Part Form → ℕ → ℕ → List Part → Type 0
  Is_ g = Reads written n g

  record ArgumentFound (a : Argument) (p q : ℕ) : Type 0 where
    found : Argument
    reads : Is_ (argument written) p q (Argues found ∷ [])
    alike : LikeArgument a found

  record ArgumentAgain (i j : ℕ) (w : List Part) : Type 0 where
    value : Argument
    is : w ≡ Argues value ∷ []
    tokens : List Tok
    spells : SpellsArgument source i j value tokens
    back : (p q : ℕ) → Stands written p tokens q → ArgumentFound value p q

  argument_again : (i j : ℕ) (w : List Part) → Was (argument source) i j w → ArgumentAgain i j w
  unfolding argument named_argument plain_argument
  -- by its name
  argument_again i j w (inl (u, (k, u1, u2, (k1, a1, a2, (m1, e1, e2), (m2, e3, e4), e5), d, e6), e7)) =
      let end : k ≡ suc (suc i) = e3 ∙ ap suc e1 in
      let one = old_of source i (just terminals.DollarNamed) refl m1 in
      let two = old_of source (suc i) (just terminals.VariableName) refl
      (subst (λ (x : ℕ). member (terminal_at source x) (just terminals.VariableName) ≡ true) e1 m2) in
      let value = colon_again source written n operand k j u2 d in
      let name = dashed (bytes_at source (suc i)) in
      let second = tok terminals.VariableName (Dashed name) in
      let parts : u ≡ Place (suc i) ∷ Values value.value ∷ [] =
      e6 ∙ ap (λ (x : List Part). x ++ u2)
      (e5 ∙ ap (λ (x : List Part). x ++ a2) e2 ∙ e4 ∙ ap (λ (x : ℕ). Place x ∷ []) e1)
      ∙ ap (λ (x : List Part). Place (suc i) ∷ x) value.is in record {
        value = argument_of (Some name) value.value false;
        is = e7 ∙ ap (to_named source i j) parts;
        tokens = sign terminals.DollarNamed ∷ second ∷ sign terminals.Colon ∷ value.tokens;
        spells = spells.named_argument one two (subst (λ (x : ℕ). Old source x (just terminals.Colon)) end value.colon)
            (subst (λ (x : ℕ). SpellsPlain source (suc x) j value.value value.tokens) end value.spells);
        back = λ p q stand. let f = value.back (suc (suc p)) q stand.1.1 in record {
          found = argument_of (Some (dashed (bytes_at written (suc p)))) f.found false;
          reads = inl (
            Place (suc p) ∷ Values f.found ∷ [],
            (
              suc (suc p),
              Place (suc p) ∷ [],
              Values f.found ∷ [],
              (
                suc p,
                [],
                Place (suc p) ∷ [],
                (is_of written p (sign terminals.DollarNamed) (just terminals.DollarNamed) stand.0 refl, refl, refl),
                (is_of written (suc p) second (just terminals.VariableName) stand.1.0 refl, refl, refl),
                refl,
              ),
              f.reads,
              refl,
            ),
            refl,
          );
          alike = record { name = ap Some (sym stand.1.0.said); value = f.alike; spread = refl };
        };
      }
  -- by its place
  argument_again i j w (inr (u, (k, u1, u2, (calm, d), inr (e1, e2), e3), e4)) =
      let one = operand i k u1 d in
      let parts : u ≡ Values one.value ∷ [] =
      e3 ∙ ap (λ (x : List Part). x ++ u2) one.is ∙ ap (λ (x : List Part). Values one.value ∷ x) e2 in record {
        value = argument_of None one.value false;
        is = e4 ∙ ap to_spread parts;
        tokens = undollared one.tokens;
        spells = spells.placed_argument
            (unlisted (spaces_plain source n i k u1 one.value d one.is)
            (subst (λ (x : ℕ). Spells source i x one.value one.tokens) (sym e1) one.spells));
        back = λ p q stand. let f = one.back p q (dollared written p q one.tokens stand) in record {
          found = argument_of None f.found false;
          reads = inr (
            Values f.found ∷ [],
            (
              q,
              Values f.found ∷ [],
              [],
              (undollared_first written p q one.tokens one.begins stand, f.reads),
              inr (refl, refl),
              refl,
            ),
            refl,
          );
          alike = record { name = refl; value = f.alike; spread = refl };
        };
      }
  -- with `...` behind it
  argument_again i j w (inr (u, (k, u1, u2, (calm, d), inl (m, e1, e2), e3), e4)) =
      let one = operand i k u1 d in
      let dots = old_of source k (just terminals.Ellipsis) refl m in
      let parts : u ≡ Values one.value ∷ Place k ∷ [] =
      e3 ∙ ap (λ (x : List Part). x ++ u2) one.is ∙ ap (λ (x : List Part). Values one.value ∷ x) e2 in record {
        value = argument_of None one.value true;
        is = e4 ∙ ap to_spread parts;
        tokens = undollared one.tokens ++ sign terminals.Ellipsis ∷ [];
        spells = subst
            (λ (x : ℕ). SpellsArgument source i x (argument_of None one.value true)
            (undollared one.tokens ++ sign terminals.Ellipsis ∷ []))
            (sym e1)
            (spells.spread_argument (unlisted (spaces_plain source n i k u1 one.value d one.is) one.spells) dots);
        back = λ p q stand.
            let (place, left, right) = split written q (undollared one.tokens) (sign terminals.Ellipsis ∷ []) p stand in
            let f = one.back p place (dollared written p place one.tokens left) in record {
              found = argument_of None f.found true;
              reads = inr (
                Values f.found ∷ Place place ∷ [],
                (
                  place,
                  Values f.found ∷ [],
                  Place place ∷ [],
                  (undollared_first written p place one.tokens one.begins left, f.reads),
                  inl (
                    is_of written place (sign terminals.Ellipsis) (just terminals.Ellipsis) right.0 refl,
                    sym
                        right.1,
                    refl,
                  ),
                  refl,
                ),
                refl,
              );
              alike = record { name = refl; value = f.alike; spread = refl };
            };
      }

  record MoreAgain (i j : ℕ) (w : List Part) : Type 0 where
    values : List Argument
    is : w ≡ map Argues values
    tokens : List Tok
    spells : SpellsMore source i j values tokens
    back : (p q : ℕ) → Stands written p tokens q
        → (found : List Argument) × Row (Item (text_of written) (just terminals.Comma) (Is_ (argument written))) p q
        (map Argues found)
        × LikeArguments values found

  more_again : {i j : ℕ} {w : List Part}
      → Row (Item (text_of source) (just terminals.Comma) (Was (argument source))) i j w
      → MoreAgain i j w
  more_again (done {i}) = record {
    values = [];
    is = refl;
    tokens = [];
    spells = spells.no_more;
    back = λ p q e. (
      [],
      subst (λ (x : ℕ). Row (Item (text_of written) (just terminals.Comma) (Is_ (argument written))) p x []) e done,
      alike.no_arguments,
    );
  }
  more_again (then {i} {k} {j} {u} {v} (m, d) row) =
      let old = old_of source i (just terminals.Comma) refl m in
      let one = argument_again (suc i) k u d in
      let rest = more_again row in record {
        values = one.value ∷ rest.values;
        is = ap (λ (x : List Part). x ++ v) one.is ∙ ap (λ (x : List Part). Argues one.value ∷ x) rest.is;
        tokens = sign terminals.Comma ∷ (one.tokens ++ rest.tokens);
        spells = spells.more old one.spells rest.spells;
        back = λ p q stand.
            let (place, left, right) = split written q one.tokens rest.tokens (suc p) stand.1 in
            let f = one.back (suc p) place left in
            let (found, reads, liked) = rest.back place q right in (
              f.found ∷ found,
              then (is_of written p (sign terminals.Comma) (just terminals.Comma) stand.0 refl, f.reads) reads,
              alike.argument f.alike.name f.alike.value f.alike.spread liked,
            );
      }

  record ArgumentsAgain (i j : ℕ) (w : List Part) : Type 0 where
    values : List Argument
    is : w ≡ Arguments values ∷ []
    tokens : List Tok
    spells : SpellsArguments source i j values tokens
    back : (p q : ℕ) → Stands written p tokens q
        → (found : List Argument) × Is_ (arguing written) p q (Arguments found ∷ []) × LikeArguments values found

  arguing_again : (i j : ℕ) (w : List Part) → Was (arguing source) i j w → ArgumentsAgain i j w
  unfolding arguing
  arguing_again i j w (u, inr (e1, e2), e3) = record {
    values = [];
    is = e3 ∙ ap (λ (x : List Part). Arguments (arguments_of x) ∷ []) e2;
    tokens = [];
    spells = subst (λ (x : ℕ). SpellsArguments source i x [] []) (sym e1) spells.no_arguments;
    back = λ p q e. ([], ([], inr (sym e, refl), refl), alike.no_arguments);
  }
  arguing_again i j w (u, inl (k, u1, u2, d, (stop, row, end), e1), e3) =
      let one = argument_again i k u1 d in
      let rest = more_again row in
      let parts : u ≡ map Argues (one.value ∷ rest.values) =
      e1 ∙ ap (λ (x : List Part). x ++ u2) one.is
      ∙ ap (λ (x : List Part). Argues one.value ∷ x) rest.is in record {
        values = one.value ∷ rest.values;
        is = e3 ∙ ap (λ (x : List Part). Arguments (arguments_of x) ∷ []) parts
            ∙ ap (λ (x : List Argument). Arguments x ∷ []) (arguments_listed (one.value ∷ rest.values));
        tokens = one.tokens ++ rest.tokens;
        spells = spells.arguments one.spells rest.spells (old_end stop j end);
        back = λ p q stand.
            let (place, left, right) = split written q one.tokens rest.tokens p stand in
            let f = one.back p place left in
            let (found, reads, liked) = rest.back place q right in (
              f.found ∷ found,
              (
                map Argues (f.found ∷ found),
                inl (place, Argues f.found ∷ [], map Argues found, f.reads, (q, reads, inl refl), refl),
                sym (ap (λ (x : List Argument). Arguments x ∷ []) (arguments_listed (f.found ∷ found))),
              ),
              alike.argument f.alike.name f.alike.value f.alike.spread liked,
            );
      }
    where
      old_end : (stop j : ℕ)
          → (j ≡ stop) ⊎ ((member (terminal_at source stop) (just terminals.Comma) ≡ true) × (j ≡ suc stop))
          → (j ≡ stop) ⊎ ((j ≡ suc stop) × Old source stop (just terminals.Comma))
      old_end stop j (inl e) = inl e
      old_end stop j (inr (c, e)) = inr (e, old_of source stop (just terminals.Comma) refl c)

-- calls
module _ (source written : Source) where
  pub record CallAgain (n : ℕ) (k j : ℕ) (w : List Part) : Type 0 where
    pub values : List Argument
    pub is : w ≡ Arguments values ∷ []
    pub c : ℕ
    pub end : j ≡ suc c
    pub opened : Old source k (just terminals.CallParen)
    pub closed : Old source c (just terminals.ParenEnd)
    pub tokens : List Tok
    pub spells : SpellsArguments source (suc k) c values tokens
    pub back : (p q : ℕ) → Stands written p (call_tokens tokens) q
        → (found : List Argument) × Reads written n (arguments_in written) p q (Arguments found ∷ [])
        × LikeArguments values found

  pub call_again : (n : ℕ) → ((m : ℕ) → n ≡ suc m → Again source written m space) → (k j : ℕ) (w : List Part)
      → Reads source n (arguments_in source) k j w → CallAgain n k j w
  unfolding arguments_in
  call_again zero deep k j w (m1, c, d, m2, e) = absurd d
  call_again (suc n) deep k j w (m1, c, d, m2, e) =
      let one = arguing_again source written n (deep n refl) (suc k) c w d in record {
        values = one.values;
        is = one.is;
        c = c;
        end = e;
        opened = old_of source k (just terminals.CallParen) refl m1;
        closed = old_of source c (just terminals.ParenEnd) refl m2;
        tokens = one.tokens;
        spells = one.spells;
        back = λ p q stand.
            let (place, left, right) = split written q one.tokens (sign terminals.ParenEnd ∷ []) (suc p) stand.1 in
            let (found, reads, liked) = one.back (suc p) place left in (
              found,
              (
                is_of written p (sign terminals.CallParen) (just terminals.CallParen) stand.0 refl,
                place,
                reads,
                is_of written place (sign terminals.ParenEnd) (just terminals.ParenEnd) right.0 refl,
                sym right.1,
              ),
              liked,
            );
      }

  like_call : (a b : Callee) (xs ys : List Argument) (s s' : Span) → space_of a.namespace ≡ space_of b.namespace
      → LikeParts a.name.parts b.name.parts → LikeArguments xs ys
      → Like (expression (exprs.Call a xs) s) (expression (exprs.Call b ys) s')
  like_call a b xs ys s s' e l ls = like (alike.call a b e l ls)

  module _ (n : ℕ) (deep_expr : (m : ℕ) → n ≡ suc m → Again source written m expr)
      (deep : (m : ℕ) → n ≡ suc m → Again source written m space) where
    pub named_calls_again : Again source written n called_by_name
    named_calls_again i j w (u, (k, u1, u2, dw, d, e1), e2) =
        let name = word_again source written n deep_expr i k u1 dw in
        let args = call_again n deep k j u2 d in
        let span = span_between source i j in
        let callee = callee_of None (text_between source i k name.inserts) in
        let parts : u ≡ PartTexts (text_between source i k name.inserts) ∷ Arguments args.values ∷ [] =
        e1 ∙ ap (λ (x : List Part). x ++ u2) name.is
        ∙ ap (λ (x : List Part). PartTexts (text_between source i k name.inserts) ∷ x) args.is in
        let tokens = name.tokens ++ call_tokens args.tokens in record {
          value = expression (exprs.Call callee args.values) span;
          is = e2 ∙ ap (to_called source i j) parts;
          tokens = tokens;
          spells = subst (λ (x : ℕ). Spells source i x (expression (exprs.Call callee args.values) span) tokens)
              (sym args.end)
              (spells.call span (span_between source i k) name.spells args.opened args.spells args.closed);
          begins = begins_more name.tokens (call_tokens args.tokens) name.begins;
          back = λ p q stand.
              let (place, left, right) = split written q name.tokens (call_tokens args.tokens) p stand in
              let (inserts, reads, liked) = name.back p place left in
              let (found, calls, others) = args.back place q right in
              let new = callee_of None (text_between written p place inserts) in record {
                found = expression (exprs.Call new found) (span_between written p q);
                reads = (
                  PartTexts (text_between written p place inserts) ∷ Arguments found ∷ [],
                  (
                    place,
                    PartTexts (text_between written p place inserts) ∷ [],
                    Arguments found ∷ [],
                    reads,
                    calls,
                    refl,
                  ),
                  refl,
                );
                alike = like_call callee new args.values found span (span_between written p q) refl liked others;
              };
        }

    pub owned_calls_again : Again source written n called_by_owner
    unfolding owned_call
    owned_calls_again i j w
        (u, (k, u1, u2, (m1, e1, e2), (k2, v1, v2, (m2, e3, e4), (k3, x1, x2, dw, d, e5), e6), e7), e8) =
        let start : k2 ≡ suc (suc i) = e3 ∙ ap suc e1 in
        let name = word_again source written n deep_expr (suc (suc i)) k3 x1
        (subst (λ (x : ℕ). Reads source n (word source) x k3 x1) start dw) in
        let args = call_again n deep k3 j x2 d in
        let span = span_between source i j in
        let text = text_between source (suc (suc i)) k3 name.inserts in
        let callee = callee_of (Some (namespaced source i)) text in
        let o1 = old_of source i (just terminals.Owner) refl m1 in
        let o2 = old_of source (suc i) (just terminals.OwnerDot) refl
        (subst (λ (x : ℕ). member (terminal_at source x) (just terminals.OwnerDot) ≡ true) e1 m2) in
        let parts : u ≡ Place i ∷ PartTexts text ∷ Arguments args.values ∷ [] =
        e7 ∙ ap (λ (x : List Part). x ++ u2) e2 ∙ ap (λ (x : List Part). Place i ∷ x)
        (e6 ∙ ap (λ (x : List Part). x ++ v2) e4 ∙ e5 ∙ ap (λ (x : List Part). x ++ x2) name.is
        ∙ ap (λ (x : List Part). PartTexts text ∷ x) args.is) in
        let first = tok terminals.Owner (Bytes 1 (bytes_at source i)) in
        let tokens = first ∷ sign terminals.OwnerDot ∷ (name.tokens ++ call_tokens args.tokens) in record {
          value = expression (exprs.Call callee args.values) span;
          is = e8 ∙ ap (to_owned source i j) parts;
          tokens = tokens;
          spells = subst (λ (x : ℕ). Spells source i x (expression (exprs.Call callee args.values) span) tokens)
              (sym args.end)
              (spells.owned_call span (span_between source (suc (suc i)) k3) o1 o2 name.spells args.opened
              args.spells args.closed);
          begins = refl;
          back = λ p q stand.
              let (place, left, right) = split written q name.tokens (call_tokens args.tokens) (suc (suc p))
              stand.1.1 in
              let (inserts, reads, liked) = name.back (suc (suc p)) place left in
              let (found, calls, others) = args.back place q right in
              let told = text_between written (suc (suc p)) place inserts in
              let new = callee_of (Some (namespaced written p)) told in record {
                found = expression (exprs.Call new found) (span_between written p q);
                reads = (
                  Place p ∷ PartTexts told ∷ Arguments found ∷ [],
                  (
                    suc p,
                    Place p ∷ [],
                    PartTexts told ∷ Arguments found ∷ [],
                    (is_of written p first (just terminals.Owner) stand.0 refl, refl, refl),
                    (
                      suc (suc p),
                      [],
                      PartTexts told ∷ Arguments found ∷ [],
                      (
                        is_of written (suc p) (sign terminals.OwnerDot) (just terminals.OwnerDot) stand.1.0 refl,
                        refl,
                        refl,
                      ),
                      (place, PartTexts told ∷ [], Arguments found ∷ [], reads, calls, refl),
                      refl,
                    ),
                    refl,
                  ),
                  refl,
                );
                alike = like_call callee new args.values found span (span_between written p q)
                    (ap Some (sym stand.0.said ∙ one_byte written p)) liked others;
              };
        }
