-- Signs before an operand, and operators between operands, are read again.
use Rattle.std.proofs.Common.{◌≡◌, ℕ, suc, false, List, [], ◌∷◌, ◌++◌, map, refl, sym, ◌∙◌, ap, subst}
use Rattle.sw_parse_grammar.specs.Grammar.{Grammar, member, Row, done, then}
use Rattle.sw_text.specs.declared.place.Span.{Span}
use Rattle.sw_tree.specs.declared.expr.Expr.{Expr}
use Rattle.sw_tree.specs.declared.expr.ExprKind.TheVariants as exprs
use Rattle.sw_tree.specs.declared.expr.Link.{Link}
use Rattle.sw_tree.specs.declared.expr.Operator.{Operator}
use Rattle.sw_tree.specs.declared.expr.Sign.{Sign}
use Rattle.sw_parse_table.specs.declared.source.Source.{Source}
use Rattle.sw_parse_table.specs.declared.operator.Precedence.{Precedence}
use Rattle.sw_parse_table.specs.declared.operator.Precedence.TheVariants as precedences
use Rattle.sw_parse_table.specs.Parts.{Part, Form, Values, Signs, Links, values_of, signs_of, links_of}
use Rattle.sw_parse_table.specs.Sources.{span_between}
use Rattle.sw_parse_table.specs.Operators.{operator_at, sign_at}
use Rattle.sw_parse_table.specs.Sets.{operators, prefixes}
use Rattle.sw_parse_table.specs.Values.{expression, chained, prefixed, to_link, to_chain, to_unary}
use Rattle.sw_parse_table.specs.Expressions.{prefix, primary, unary, link, linked, product, sum, relation, equality, conjunction, disjunction}
use Rattle.sw_convert_alike.specs.Expressions.{Like, LikeLinks, like}
use Rattle.sw_convert_alike.specs.Expressions as alike
use Rattle.sw_convert_again.specs.Tokens.{Tok, sign, Stands, Begins}
use Rattle.sw_convert_again.specs.Bare.{is_bare}
use Rattle.sw_convert_again.specs.Spells.{Spells, unlisted, SpellsSigns, SpellsLinks, no_signs, more_signs, no_links, more_links}
use Rattle.sw_convert_again.specs.Spells as spells
use Rattle.sw_convert_again.specs.Again.{Reads, Found, Back, IsAgain, Again}
use Rattle.sw_convert_again.proofs.Bare.{Plain, primaries_plain, sides_plain}
use Rattle.sw_convert_again.proofs.Tokens.{old_of, old_begins, split, begins_more, of_set, operator_same, sign_same}

-- what is listed is listed again
signs_listed : (signs : List Sign) (e : Expr) → signs_of (map Signs signs ++ Values e ∷ []) ≡ signs
signs_listed [] e = refl
signs_listed (s ∷ signs) e = ap (λ (x : List Sign). s ∷ x) (signs_listed signs e)

operand_listed : (signs : List Sign) (e : Expr) → values_of (map Signs signs ++ Values e ∷ []) ≡ e ∷ []
operand_listed [] e = refl
operand_listed (s ∷ signs) e = operand_listed signs e

no_values : (links : List Link) → values_of (map Links links) ≡ []
no_values [] = refl
no_values (l ∷ links) = no_values links

links_listed : (links : List Link) → links_of (map Links links) ≡ links
links_listed [] = refl
links_listed (l ∷ links) = ap (λ (x : List Link). l ∷ x) (links_listed links)

no_number : (p : Precedence) → member 0 (operators p) ≡ false
no_number precedences.Product = refl
no_number precedences.Sum = refl
no_number precedences.Relation = refl
no_number precedences.Equality = refl
no_number precedences.And = refl
no_number precedences.Or = refl

module _ (source written : Source) (n : ℕ) where
  abbrev Was : Grammar Part Form → ℕ → ℕ → List Part → Type 0
  Was g = Reads source n g

  abbrev Is : Grammar Part Form → ℕ → ℕ → List Part → Type 0
  Is g = Reads written n g

  -- signs
  record SignsAgain (i k : ℕ) (w : List Part) : Type 0 where
    signs : List Sign
    is : w ≡ map Signs signs
    tokens : List Tok
    spells : SpellsSigns source i k signs tokens
    back : (p q : ℕ) → Stands written p tokens q → Row (Is (prefix written)) p q (map Signs signs)

  signs_again : {i k : ℕ} {w : List Part} → Row (Was (prefix source)) i k w → SignsAgain i k w
  unfolding prefix
  signs_again (done {i}) = record {
    signs = [];
    is = refl;
    tokens = [];
    spells = no_signs;
    back = λ p q e. subst (λ (x : ℕ). Row (Is (prefix written)) p x []) e done;
  }
  signs_again (then {i} {k} {j} {u} {v} (a, (m, e1, e2), e3) row) =
      let rest = signs_again row in
      let old = old_of source i prefixes refl m in
      let token = sign old.lexeme.terminal in record {
        signs = sign_at source i ∷ rest.signs;
        is = ap (λ (x : List Part). x ++ v) e3 ∙ ap (λ (x : List Part). Signs (sign_at source i) ∷ x) rest.is;
        tokens = token ∷ rest.tokens;
        spells = more_signs old (subst (λ (x : ℕ). SpellsSigns source x j rest.signs rest.tokens) e1 rest.spells);
        back = λ p q stand. then (
          [],
          (of_set source written i p prefixes old token stand.0 refl, refl, refl),
          ap (λ (s : Sign). Signs s ∷ []) (sym (sign_same source written i p prefixes old token stand.0 refl)),
        ) (rest.back (suc p) q stand.1);
      }

  sign_begins : {i k : ℕ} {first : Sign} {signs : List Sign} {tokens : List Tok}
      → SpellsSigns source i k (first ∷ signs) tokens
      → Begins tokens
  sign_begins (more_signs {i} old rest) = old_begins source i prefixes old refl

  like_prefixed : (signs : List Sign) (a b : Expr) (s s' : Span) → Like a b
      → Like (expression (exprs.Prefixed signs a) s) (expression (exprs.Prefixed signs b) s')
  like_prefixed signs a b s s' l = like (alike.prefixed l)

  module _ (operand : Again source written n primary) where
    unary_by : (i j k : ℕ) (w : List Part) (signs : List Sign) (tokens : List Tok) → SpellsSigns source i k signs tokens
        → ((p q : ℕ) → Stands written p tokens q → Row (Is (prefix written)) p q (map Signs signs))
        → (e : Expr) (others : List Tok) → Spells source k j e others → is_bare e ≡ false → Begins others
        → Back written n (primary written) e others
        → w ≡ prefixed (span_between source i j) signs (e ∷ []) → IsAgain source written n (unary written) i j w
    unfolding unary
    unary_by i j k w [] tokens before row e others spelled alone begins back is = record {
      value = e;
      is = is;
      tokens = others;
      spells = subst (λ (x : ℕ). Spells source x j e others) (sym (none before)) spelled;
      begins = begins;
      back = λ p q stand. let f = back p q stand in record {
        found = f.found;
        reads = (Values f.found ∷ [], (p, [], Values f.found ∷ [], done, f.reads, refl), refl);
        alike = f.alike;
      };
    }
      where
        none : {x y : ℕ} {ts : List Tok} → SpellsSigns source x y [] ts → x ≡ y
        none no_signs = refl
    unary_by i j k w (first ∷ signs) tokens before row e others spelled alone begins back is =
        let span = span_between source i j in record {
          value = expression (exprs.Prefixed (first ∷ signs) e) span;
          is = is;
          tokens = tokens ++ others;
          spells = spells.prefixed first span before (unlisted alone spelled);
          begins = begins_more tokens others (sign_begins before);
          back = λ p q stand.
              let (place, left, right) = split written q tokens others p stand in
              let f = back place q right in record {
                found = expression (exprs.Prefixed (first ∷ signs) f.found) (span_between written p q);
                reads = (
                  map Signs (first ∷ signs) ++ Values f.found ∷ [],
                  (place, map Signs (first ∷ signs), Values f.found ∷ [], row p place left, f.reads, refl),
                  sym (ap (λ (x : List Sign). prefixed (span_between written p q) (first ∷ x)
                      (values_of (map Signs (first ∷ signs) ++ Values f.found ∷ [])))
                      (signs_listed signs f.found)
                      ∙ ap (prefixed (span_between written p q) (first ∷ signs))
                      (operand_listed (first ∷ signs) f.found)),
                );
                alike = like_prefixed (first ∷ signs) e f.found span (span_between written p q) f.alike;
              };
        }

    pub unary_again : Again source written n unary
    unfolding unary
    unary_again i j w (u, (k, u1, u2, row, d, e5), e6) =
        let before = signs_again row in
        let value = operand k j u2 d in
        let parts : u ≡ map Signs before.signs ++ Values value.value ∷ [] =
        e5 ∙ ap (λ (x : List Part). x ++ u2) before.is
        ∙ ap (λ (x : List Part). map Signs before.signs ++ x) value.is in
        unary_by i j k w before.signs before.tokens before.spells before.back value.value value.tokens value.spells
        (primaries_plain source n k j u2 value.value d value.is) value.begins value.back
        (e6 ∙ ap (to_unary source i j) parts
        ∙ ap (λ (x : List Sign). prefixed (span_between source i j) x
        (values_of (map Signs before.signs ++ Values value.value ∷ [])))
        (signs_listed before.signs value.value)
        ∙ ap (prefixed (span_between source i j) before.signs) (operand_listed before.signs value.value))

  -- operators
  module _ (precedence : Precedence) (side : Source → Grammar Part Form) (operand : Again source written n side)
      (alone : Plain source n (side source)) where
    record LinksAgain (i j : ℕ) (w : List Part) : Type 0 where
      links : List Link
      is : w ≡ map Links links
      tokens : List Tok
      spells : SpellsLinks source i j links tokens
      back : (p q : ℕ) → Stands written p tokens q
          → (found : List Link) × Row (Is (link written precedence (side written))) p q (map Links found) × LikeLinks
          links found

    links_again : {i j : ℕ} {w : List Part} → Row (Was (link source precedence (side source))) i j w → LinksAgain i j w
    unfolding link
    links_again (done {i}) = record {
      links = [];
      is = refl;
      tokens = [];
      spells = no_links;
      back = λ p q e.
          ([], subst (λ (x : ℕ). Row (Is (link written precedence (side written))) p x []) e done, alike.no_links);
    }
    links_again (then {i} {k} {j} {u} {v} (a, (b, v1, v2, (m, e1, e2), d, e3), e4) row) =
        let old = old_of source i (operators precedence) (no_number precedence) m in
        let token = sign old.lexeme.terminal in
        let value = operand b k v2 d in
        let rest = links_again row in
        let one : Link = record { operator = operator_at source i; operand = value.value } in
        let same : u ≡ Links one ∷ [] =
        e4 ∙ ap (to_link source i k) (e3 ∙ ap (λ (x : List Part). x ++ v2) e2 ∙ value.is) in record {
          links = one ∷ rest.links;
          is = ap (λ (x : List Part). x ++ v) same ∙ ap (λ (x : List Part). Links one ∷ x) rest.is;
          tokens = token ∷ (value.tokens ++ rest.tokens);
          spells = more_links precedence old
              (unlisted (alone b k v2 value.value d value.is)
              (subst (λ (x : ℕ). Spells source x k value.value value.tokens) e1 value.spells)) rest.spells;
          back = λ p q stand.
              let (place, left, right) = split written q value.tokens rest.tokens (suc p) stand.1 in
              let f = value.back (suc p) place left in
              let (found, reads, liked) = rest.back place q right in
              let other : Link = record { operator = operator_at source i; operand = f.found } in (
                other ∷ found,
                then (
                  Values f.found ∷ [],
                  (
                    suc p,
                    [],
                    Values f.found ∷ [],
                    (of_set source written i p (operators precedence) old token stand.0 refl, refl, refl),
                    f.reads,
                    refl,
                  ),
                  ap (λ (o : Operator). Links (record { operator = o; operand = f.found }) ∷ [])
                      (sym (operator_same source written i p (operators precedence) old token stand.0 refl)),
                ) reads,
                alike.link refl f.alike liked,
              );
        }

    like_chain : (a b : Expr) (xs ys : List Link) (s s' : Span) → Like a b → LikeLinks xs ys
        → Like (expression (exprs.Chain a xs) s) (expression (exprs.Chain b ys) s')
    like_chain a b xs ys s s' l ls = like (alike.chain l ls)

    chain_by : (i j k : ℕ) (w : List Part) (e : Expr) (tokens : List Tok) → Spells source i k e tokens
        → is_bare e ≡ false → Begins tokens
        → Back written n (side written) e tokens → (links : List Link) (others : List Tok)
        → SpellsLinks source k j links others
        → ((p q : ℕ) → Stands written p others q
        → (found : List Link) × Row (Is (link written precedence (side written))) p q (map Links found) × LikeLinks
        links found)
        → w ≡ chained (span_between source i j) (e ∷ []) links
        → IsAgain source written n (linked written precedence (side written)) i j w
    chain_by i j k w e tokens spelled plain begins back [] others before row is = record {
      value = e;
      is = is;
      tokens = tokens;
      spells = subst (λ (x : ℕ). Spells source i x e tokens) (none before) spelled;
      begins = begins;
      back = λ p q stand. let f = back p q stand in record {
        found = f.found;
        reads = (Values f.found ∷ [], (q, Values f.found ∷ [], [], f.reads, done, refl), refl);
        alike = f.alike;
      };
    }
      where
        none : {x y : ℕ} {ts : List Tok} → SpellsLinks source x y [] ts → x ≡ y
        none no_links = refl
    chain_by i j k w e tokens spelled plain begins back (first ∷ links) others before row is =
        let span = span_between source i j in record {
          value = expression (exprs.Chain e (first ∷ links)) span;
          is = is;
          tokens = tokens ++ others;
          spells = spells.chain first span (unlisted plain spelled) before;
          begins = begins_more tokens others begins;
          back = λ p q stand.
              let (place, left, right) = split written q tokens others p stand in
              let f = back p place left in
              let (found, reads, liked) = row place q right in
              chain_found p q place f found reads liked;
        }
      where
        chain_found : (p q place : ℕ) (f : Found written n (side written) e p place) (found : List Link)
            → Row (Is (link written precedence (side written))) place q (map Links found)
            → LikeLinks (first ∷ links) found
            → Found written n (linked written precedence (side written))
            (expression (exprs.Chain e (first ∷ links)) (span_between source i j)) p q
        chain_found p q place f [] reads liked = absurd (none liked)
          where
            none : {x : Link} {xs : List Link} → LikeLinks (x ∷ xs) [] → ⊥
            none l = elim l [ ]
        chain_found p q place f (l ∷ ls) reads liked = record {
          found = expression (exprs.Chain f.found (l ∷ ls)) (span_between written p q);
          reads = (
            Values f.found ∷ map Links (l ∷ ls),
            (place, Values f.found ∷ [], map Links (l ∷ ls), f.reads, reads, refl),
            sym (ap (λ (x : List Expr). chained (span_between written p q) (f.found ∷ x)
                (links_of (map Links (l ∷ ls)))) (no_values (l ∷ ls))
                ∙ ap (λ (x : List Link). chained (span_between written p q) (f.found ∷ []) (l ∷ x)) (links_listed ls)),
          );
          alike = like_chain e f.found (first ∷ links) (l ∷ ls) (span_between source i j) (span_between written p q)
              f.alike liked;
        }

    linked_again : Again source written n (λ s. linked s precedence (side s))
    linked_again i j w (u, (k, u1, u2, d, row, e5), e6) =
        let value = operand i k u1 d in
        let rest = links_again row in
        let parts : u ≡ Values value.value ∷ map Links rest.links =
        e5 ∙ ap (λ (x : List Part). x ++ u2) value.is
        ∙ ap (λ (x : List Part). Values value.value ∷ x) rest.is in
        chain_by i j k w value.value value.tokens value.spells
        (alone i k u1 value.value d value.is) value.begins value.back rest.links rest.tokens
        rest.spells rest.back
        (e6 ∙ ap (to_chain source i j) parts
        ∙ ap (λ (x : List Expr). chained (span_between source i j) (value.value ∷ x)
        (links_of (map Links rest.links))) (no_values rest.links)
        ∙ ap (chained (span_between source i j) (value.value ∷ [])) (links_listed rest.links))

  -- the six chains
  module _ (operand : Again source written n primary) where
    product_again : Again source written n product
    unfolding product
    product_again = linked_again precedences.Product unary (unary_again operand) (sides_plain source n precedences.Product)

    pub sum_again : Again source written n sum
    unfolding sum
    sum_again = linked_again precedences.Sum product product_again (sides_plain source n precedences.Sum)

    relation_again : Again source written n relation
    unfolding relation
    relation_again = linked_again precedences.Relation sum sum_again (sides_plain source n precedences.Relation)

    equality_again : Again source written n equality
    unfolding equality
    equality_again = linked_again precedences.Equality relation relation_again (sides_plain source n precedences.Equality)

    conjunction_again : Again source written n conjunction
    unfolding conjunction
    conjunction_again = linked_again precedences.And equality equality_again (sides_plain source n precedences.And)

    pub disjunction_again : Again source written n disjunction
    unfolding disjunction
    disjunction_again = linked_again precedences.Or conjunction conjunction_again (sides_plain source n precedences.Or)
