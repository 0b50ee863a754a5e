-- Brackets, parentheses and maps are read again, through any number of them in each other.
use Rattle.std.proofs.Common.{◌≡◌, ◌⊎◌, ℕ, zero, suc, true, List, [], ◌∷◌, ◌++◌, map, inl, inr, refl, sym, ◌∙◌, ap, subst}
use Rattle.sw_parse_grammar.specs.Grammar.{Grammar, member, Row, Item, done, then}
use Rattle.sw_text.specs.declared.place.Span.{Span}
use Rattle.sw_tree.specs.declared.expr.Expr.{Expr}
use Rattle.sw_tree.specs.declared.expr.ExprKind.TheVariants as exprs
use Rattle.sw_tree.specs.declared.expr.Pair.{Pair}
use Rattle.sw_tree.specs.declared.expr.Around.TheVariants as arounds
use Rattle.sw_tree.specs.declared.expr.Separator.TheVariants as separators
use Rattle.sw_parse_terminals.specs.declared.terminal.Terminal.TheVariants as terminals
use Rattle.sw_parse_terminals.specs.Numbers.{just}
use Rattle.sw_parse_table.specs.declared.source.Source.{Source}
use Rattle.sw_parse_table.specs.Parts.{Part, Form, Values, Pairs, Marks, pairs_of}
use Rattle.sw_parse_table.specs.Sources.{text_of, terminal_at, span_between}
use Rattle.sw_parse_table.specs.Sets.{parens_opening}
use Rattle.sw_parse_table.specs.Values.{expression, value_of, enclosed, bracketed, in_parens, in_brackets, to_pair, sorted, listed, ends_with_comma}
use Rattle.sw_parse_table.specs.Expressions.{brackets, items, parens, inside, pairs_rest, items_rest, pair, colon_space, space, expr}
use Rattle.sw_convert_alike.specs.Expressions.{Like, LikePairs, like}
use Rattle.sw_convert_alike.specs.Expressions as alike
use Rattle.sw_convert_again.specs.Tokens.{Tok, sign, Stands, Old}
use Rattle.sw_convert_again.specs.Spells.{Spells, SpellsPlain, unlisted, SpellsPairs, no_pairs, more_pairs, within, paren}
use Rattle.sw_convert_again.specs.Spells as spells
use Rattle.sw_convert_again.specs.Again.{Reads, Found, Again}
use Rattle.sw_convert_again.proofs.Bare.{spaces_plain}
use Rattle.sw_convert_again.proofs.Tokens.{old_of, is_of, split}
use Rattle.sw_convert_again.proofs.Around.{like_in_brackets, like_in_parens}
use Rattle.sw_convert_again.proofs.Lists.{values_listed, listed_again}

module _ (source written : Source) where
  -- with no level left no bracket opens
  pub brackets_again : (n : ℕ) → ((m : ℕ) → n ≡ suc m → Again source written m expr) → Again source written n brackets
  unfolding brackets items
  brackets_again zero deep i j w (u, (m1, k, d, m2, e5), e6) = absurd d
  brackets_again (suc n) deep i j w (u, (m1, k, inl d, m2, e5), e6) =
      let one = deep n refl (suc i) k u d in
      let span = span_between source i j in
      let open_old = old_of source i (just terminals.Bracket) refl m1 in
      let close_old = old_of source k (just terminals.BracketEnd) refl m2 in
      let tokens = within (sign terminals.Bracket) one.tokens terminals.BracketEnd in record {
        value = in_brackets span one.value;
        is = e6 ∙ ap (bracketed span) one.is;
        tokens = tokens;
        spells = subst (λ (x : ℕ). Spells source i x (in_brackets span one.value) tokens) (sym e5)
            (spells.in_brackets_some span open_old one.spells close_old);
        begins = refl;
        back = λ p q stand.
            let (place, left, right) = split written q one.tokens (sign terminals.BracketEnd ∷ []) (suc p) stand.1 in
            let f = one.back (suc p) place left in record {
              found = in_brackets (span_between written p q) f.found;
              reads = (
                Values f.found ∷ [],
                (
                  is_of written p (sign terminals.Bracket) (just terminals.Bracket) stand.0 refl,
                  place,
                  inl f.reads,
                  is_of written place (sign terminals.BracketEnd) (just terminals.BracketEnd) right.0 refl,
                  sym right.1,
                ),
                refl,
              );
              alike = like_in_brackets span (span_between written p q) f.alike;
            };
      }
  brackets_again (suc n) deep i j w (u, (m1, k, inr (e1, e2), m2, e5), e6) =
      let span = span_between source i j in
      let open_old = old_of source i (just terminals.Bracket) refl m1 in
      let close_old = old_of source (suc i) (just terminals.BracketEnd) refl
      (subst (λ (x : ℕ). member (terminal_at source x) (just terminals.BracketEnd) ≡ true) e1 m2) in
      let tokens = within (sign terminals.Bracket) [] terminals.BracketEnd in
      let value = expression (exprs.List [] separators.Undecided arounds.Brackets) span in record {
        value = value;
        is = e6 ∙ ap (bracketed span) e2;
        tokens = tokens;
        spells = subst (λ (x : ℕ). Spells source i x value tokens) (sym (e5 ∙ ap suc e1))
            (spells.in_brackets_none span open_old close_old);
        begins = refl;
        back = λ p q stand. record {
          found = expression (exprs.List [] separators.Undecided arounds.Brackets) (span_between written p q);
          reads = (
            [],
            (
              is_of written p (sign terminals.Bracket) (just terminals.Bracket) stand.0 refl,
              suc p,
              inr (refl, refl),
              is_of written (suc p) (sign terminals.BracketEnd) (just terminals.BracketEnd) stand.1.0 refl,
              sym stand.1.1,
            ),
            refl,
          );
          alike = like (alike.list alike.no_items);
        };
      }

pairs_listed : (ps : List Pair) → pairs_of (map Pairs ps) ≡ ps
pairs_listed [] = refl
pairs_listed (p ∷ ps) = ap (λ (x : List Pair). p ∷ x) (pairs_listed ps)

-- keys and values
module _ (source written : Source) (n : ℕ) (operand : Again source written n space) where
  abbrev Was : Grammar Part Form → ℕ → ℕ → List Part → Type 0
  Was g = Reads source n g

  abbrev Is : Grammar Part Form → ℕ → ℕ → List Part → Type 0
  Is g = Reads written n g

  -- a value behind a colon
  pub record ColonAgain (i j : ℕ) (w : List Part) : Type 0 where
    pub value : Expr
    pub is : w ≡ Values value ∷ []
    pub colon : Old source i (just terminals.Colon)
    pub tokens : List Tok
    pub spells : SpellsPlain source (suc i) j value tokens
    pub back : (p q : ℕ) → Stands written p (sign terminals.Colon ∷ tokens) q
        → Found written n (colon_space written) value p q

  pub colon_again : (i j : ℕ) (w : List Part) → Was (colon_space source) i j w → ColonAgain i j w
  unfolding colon_space
  colon_again i j w (k, u, v, (m, e1, e2), d, e3) =
      let one = operand k j v d in record {
        value = one.value;
        is = e3 ∙ ap (λ (x : List Part). x ++ v) e2 ∙ one.is;
        colon = old_of source i (just terminals.Colon) refl m;
        tokens = one.tokens;
        spells = unlisted (spaces_plain source n k j v one.value d one.is)
            (subst (λ (x : ℕ). Spells source x j one.value one.tokens) e1 one.spells);
        back = λ p q stand. let f = one.back (suc p) q stand.1 in record {
          found = f.found;
          reads = (
            suc p,
            [],
            Values f.found ∷ [],
            (is_of written p (sign terminals.Colon) (just terminals.Colon) stand.0 refl, refl, refl),
            f.reads,
            refl,
          );
          alike = f.alike;
        };
      }

  record PairsAgain (i j : ℕ) (w : List Part) : Type 0 where
    pairs : List Pair
    is : w ≡ map Pairs pairs
    tokens : List Tok
    spells : SpellsPairs source i j pairs tokens
    back : (p q : ℕ) → Stands written p tokens q
        → (found : List Pair) × Row (Item (text_of written) (just terminals.Comma) (Is (pair written))) p q
        (map Pairs found)
        × LikePairs pairs found

  pairs_again : {i j : ℕ} {w : List Part} → Row (Item (text_of source) (just terminals.Comma) (Was (pair source))) i j w
      → PairsAgain i j w
  unfolding pair
  pairs_again (done {i}) = record {
    pairs = [];
    is = refl;
    tokens = [];
    spells = no_pairs;
    back = λ p q e. (
      [],
      subst (λ (x : ℕ). Row (Item (text_of written) (just terminals.Comma) (Is (pair written))) p x []) e done,
      alike.no_pairs,
    );
  }
  pairs_again (then {i} {k} {j} {u} {v} (m, (x, (place, y, z, dk, dv, e1), e2)) row) =
      let key = operand (suc i) place y dk in
      let value = colon_again place k z dv in
      let rest = pairs_again row in
      let one : Pair = record { key = key.value; value = value.value } in
      let same : u ≡ Pairs one ∷ [] =
      e2 ∙ ap to_pair
      (e1 ∙ ap (λ (t : List Part). t ++ z) key.is
      ∙ ap (λ (t : List Part). Values key.value ∷ t) value.is) in record {
        pairs = one ∷ rest.pairs;
        is = ap (λ (t : List Part). t ++ v) same ∙ ap (λ (t : List Part). Pairs one ∷ t) rest.is;
        tokens = sign terminals.Comma ∷ (key.tokens ++ sign terminals.Colon ∷ (value.tokens ++ rest.tokens));
        spells = more_pairs (old_of source i (just terminals.Comma) refl m)
            (unlisted (spaces_plain source n (suc i) place y key.value dk key.is) key.spells) value.colon value.spells
            rest.spells;
        back = λ p q stand.
            let (a, left, right) = split written q key.tokens (sign terminals.Colon ∷ (value.tokens ++ rest.tokens))
            (suc p) stand.1 in
            let (b, middle, last) = split written q value.tokens rest.tokens (suc a) right.1 in
            let f = key.back (suc p) a left in
            let g = value.back a b (right.0, middle) in
            let (found, reads, liked) = rest.back b q last in (
              record { key = f.found; value = g.found } ∷ found,
              then (
                is_of written p (sign terminals.Comma) (just terminals.Comma) stand.0 refl,
                (
                  Values f.found ∷ Values g.found ∷ [],
                  (a, Values f.found ∷ [], Values g.found ∷ [], f.reads, g.reads, refl),
                  refl,
                ),
              ) reads,
              alike.pair f.alike g.alike liked,
            );
      }

  -- what stands in parentheses, and what it is there
  record InsideFound (value : Span → Expr) (p q : ℕ) : Type 0 where
    parts : List Part
    reads : Is (inside written) p q parts
    new : Span → Expr
    is : (span : Span) → enclosed span parts ≡ Values (new span) ∷ []
    alike : (span span' : Span) → Like (value span) (new span')

  record InsideAgain (i j : ℕ) (w : List Part) : Type 0 where
    value : Span → Expr
    is : (span : Span) → enclosed span w ≡ Values (value span) ∷ []
    tokens : List Tok
    spells : (open_at : ℕ) → suc open_at ≡ i → Old source open_at parens_opening
        → Old source j (just terminals.ParenEnd) → (span : Span)
        → Spells source open_at (suc j) (value span) (within paren tokens terminals.ParenEnd)
    back : (p q : ℕ) → Stands written p tokens q → InsideFound value p q

  abbrev EndsWith : ℕ → ℕ → Type 0
  EndsWith stop j = (j ≡ stop) ⊎ ((member (terminal_at source stop) (just terminals.Comma) ≡ true) × (j ≡ suc stop))

  old_end : (stop j : ℕ) → EndsWith stop j → (j ≡ stop) ⊎ ((j ≡ suc stop) × Old source stop (just terminals.Comma))
  old_end stop j (inl e) = inl e
  old_end stop j (inr (c, e)) = inr (e, old_of source stop (just terminals.Comma) refl c)

  inside_again : (i j : ℕ) (w : List Part) → Was (inside source) i j w → InsideAgain i j w
  unfolding inside pairs_rest items_rest
  -- nothing
  inside_again i j w (inr (e1, e2)) = record {
    value = λ span. expression (exprs.List [] separators.Undecided arounds.Parens) span;
    is = λ span. ap (enclosed span) e2;
    tokens = [];
    spells = λ open_at e open_old close_old span.
        let at : suc open_at ≡ j = e ∙ sym e1 in
        subst (λ (x : ℕ). Spells source open_at (suc x)
        (expression (exprs.List [] separators.Undecided arounds.Parens) span) (within paren [] terminals.ParenEnd))
        at (spells.in_parens_none span open_old
        (subst (λ (x : ℕ). Old source x (just terminals.ParenEnd)) (sym at) close_old));
    back = λ p q e. record {
      parts = [];
      reads = inr (sym e, refl);
      new = λ span. expression (exprs.List [] separators.Undecided arounds.Parens) span;
      is = λ span. refl;
      alike = λ span span'. like (alike.list alike.no_items);
    };
  }
  -- a value
  inside_again i j w (inl (u, (k, u1, u2, d, inr (v, (stop, row, end), e3), e4), e5)) =
      let found = listed_again source written n operand i j k stop u1 v w d row end
      (λ e es p q. e5 ∙ ap (sorted source i j) (e4 ∙ ap (λ (x : List Part). x ++ u2) p
      ∙ ap (λ (x : List Part). Values e ∷ x) (e3 ∙ ap (λ (x : List Part). Marks 1 ∷ x) q))
      ∙ ap (λ (x : List Expr). listed (span_between source i j) (ends_with_comma source j) (e ∷ x))
      (values_listed es)) in record {
        value = λ span. in_parens span found.value;
        is = λ span. ap (enclosed span) found.is;
        tokens = found.tokens;
        spells = λ open_at e open_old close_old span.
            spells.in_parens_some span open_old
            (subst (λ (x : ℕ). Spells source x j found.value found.tokens) (sym e) found.spells) close_old;
        back = λ p q stand. let f = found.back p q stand in record {
          parts = Values f.new ∷ [];
          reads = inl (
            Values f.first ∷ Marks 1 ∷ map Values f.others,
            (
              f.place,
              Values f.first ∷ [],
              Marks 1 ∷ map Values f.others,
              f.one,
              inr (map Values f.others, (f.stop, f.rest, f.end), refl),
              refl,
            ),
            sym (ap (λ (x : List Expr). listed (span_between written p q) (ends_with_comma written q) (f.first ∷ x))
                (values_listed f.others) ∙ f.is),
          );
          new = λ span. in_parens span f.new;
          is = λ span. refl;
          alike = λ span span'. like_in_parens span span' f.alike;
        };
      }
  -- pairs
  inside_again i j w (inl (u, (k, u1, u2, d, inl (v, (m, v1, v2, dv, (stop, row, end), e2), e3), e4), e5)) =
      let key = operand i k u1 d in
      let value = colon_again k m v1 dv in
      let rest = pairs_again row in
      let one : Pair = record { key = key.value; value = value.value } in
      let parts : w ≡ Pairs one ∷ map Pairs rest.pairs =
      e5 ∙ ap (sorted source i j) (e4 ∙ ap (λ (x : List Part). x ++ u2) key.is
      ∙ ap (λ (x : List Part). Values key.value ∷ x)
      (e3 ∙ ap (λ (x : List Part). Marks 0 ∷ x) (e2 ∙ ap (λ (x : List Part). x ++ v2) value.is
      ∙ ap (λ (x : List Part). Values value.value ∷ x) rest.is))) in
      let tokens = key.tokens ++ sign terminals.Colon ∷ (value.tokens ++ rest.tokens) in record {
        value = λ span. expression (exprs.Map (one ∷ rest.pairs)) span;
        is = λ span. ap (enclosed span) parts
            ∙ ap (λ (x : List Pair). value_of (exprs.Map (one ∷ x)) span) (pairs_listed rest.pairs);
        tokens = tokens;
        spells = λ open_at e open_old close_old span.
            spells.map span open_old
            (unlisted (spaces_plain source n i k u1 key.value d key.is)
            (subst (λ (x : ℕ). Spells source x k key.value key.tokens) (sym e) key.spells))
            value.colon value.spells
            rest.spells (old_end stop j end) close_old;
        back = λ p q stand.
            let (a, left, right) = split written q key.tokens (sign terminals.Colon ∷ (value.tokens ++ rest.tokens))
            p stand in
            let (b, middle, last) = split written q value.tokens rest.tokens (suc a) right.1 in
            let f = key.back p a left in
            let g = value.back a b (right.0, middle) in
            let (found, reads, liked) = rest.back b q last in
            let new : Pair = record { key = f.found; value = g.found } in record {
              parts = Pairs new ∷ map Pairs found;
              reads = inl (
                Values f.found ∷ Marks 0 ∷ Values g.found ∷ map Pairs found,
                (
                  a,
                  Values f.found ∷ [],
                  Marks 0 ∷ Values g.found ∷ map Pairs found,
                  f.reads,
                  inl (
                    Values g.found ∷ map Pairs found,
                    (b, Values g.found ∷ [], map Pairs found, g.reads, (q, reads, inl refl), refl),
                    refl,
                  ),
                  refl,
                ),
                refl,
              );
              new = λ span. expression (exprs.Map (new ∷ found)) span;
              is = λ span. ap (λ (x : List Pair). value_of (exprs.Map (new ∷ x)) span) (pairs_listed found);
              alike = λ span span'. like (alike.map (alike.pair f.alike g.alike liked));
            };
      }

module _ (source written : Source) where
  -- parentheses
  pub parens_again : (n : ℕ) → ((m : ℕ) → n ≡ suc m → Again source written m space) → Again source written n parens
  unfolding parens
  parens_again zero deep i j w (u, (m1, k, d, m2, e5), e6) = absurd d
  parens_again (suc n) deep i j w (u, (m1, k, d, m2, e5), e6) =
      let one = inside_again source written n (deep n refl) (suc i) k u d in
      let span = span_between source i j in
      let open_old = old_of source i parens_opening refl m1 in
      let close_old = old_of source k (just terminals.ParenEnd) refl m2 in
      let tokens = within paren one.tokens terminals.ParenEnd in record {
        value = one.value span;
        is = e6 ∙ one.is span;
        tokens = tokens;
        spells = subst (λ (x : ℕ). Spells source i x (one.value span) tokens) (sym e5)
            (one.spells i refl open_old close_old span);
        begins = refl;
        back = λ p q stand.
            let (place, left, right) = split written q one.tokens (sign terminals.ParenEnd ∷ []) (suc p) stand.1 in
            let f = one.back (suc p) place left in record {
              found = f.new (span_between written p q);
              reads = (
                f.parts,
                (
                  is_of written p paren parens_opening stand.0 refl,
                  place,
                  f.reads,
                  is_of written place (sign terminals.ParenEnd) (just terminals.ParenEnd) right.0 refl,
                  sym right.1,
                ),
                sym (f.is (span_between written p q)),
              );
              alike = f.alike span (span_between written p q);
            };
      }
