-- `@each` and `@for` are read again, with the names of their variables.
use Rattle.std.proofs.Common.{◌≡◌, ℕ, suc, true, List, [], ◌∷◌, ◌++◌, map, refl, sym, ◌∙◌, ap, subst, append_assoc, append-nil}
use Rattle.sw_parse_grammar.specs.Grammar.{Grammar, skip, seq, member, Row, done, then}
use Rattle.sw_tree.specs.declared.statement.Each.{Each}
use Rattle.sw_tree.specs.declared.statement.For.{For}
use Rattle.sw_tree.specs.declared.statement.Statement.TheVariants as statements
use Rattle.sw_parse_terminals.specs.declared.terminal.Terminal.TheVariants as terminals
use Rattle.sw_parse_terminals.specs.Numbers.{just, these}
use Rattle.sw_parse_table.specs.declared.source.Source.{Source}
use Rattle.sw_parse_table.specs.Parts.{Part, Form, Place, Behind, Blocks, Values}
use Rattle.sw_parse_table.specs.Sets.{dollars}
use Rattle.sw_parse_table.specs.Sources.{terminal_at, span_between}
use Rattle.sw_parse_table.specs.Actions.{stands_at, name_at, names_at, to_behind, each_of, to_each, to_for}
use Rattle.sw_parse_table.specs.Expressions.{space, expr}
use Rattle.sw_parse_table.specs.Statements.{dollar_name, each, for_}
use Rattle.sw_convert_alike.specs.Statements as alike
use Rattle.sw_convert_again.specs.Tokens.{Dashed, Tok, tok, sign, Stands, Old}
use Rattle.sw_convert_again.specs.Spells.{dollar}
use Rattle.sw_convert_again.specs.Again.{Reads}
use Rattle.sw_convert_again.specs.Params.{dollar_tokens}
use Rattle.sw_convert_again.specs.Statements.{SpellsNames, no_names, more_names, each_block, for_block}
use Rattle.sw_convert_again.specs.Claims.{StatementAgain, BlocksAgain}
use Rattle.sw_convert_again.proofs.Tokens.{old_of, is_of, of_set, number_same, split}
use Rattle.sw_convert_again.proofs.Values.{values_again, spaces_again}

-- a name behind a comma
abbrev comma_name : Source → Grammar Part Form
comma_name source = seq (skip (just terminals.Comma)) (dollar_name source)

-- the names stand first
each_names : (source : Source) (at : ℕ) (names places : List ℕ) (rest : List Part)
    → each_of source at names (map Place places ++ rest) ≡ each_of source at (names ++ places) rest
each_names source at names [] rest = ap (λ (x : List ℕ). each_of source at x rest) (sym (append-nil names))
each_names source at names (place ∷ places) rest =
    each_names source at (names ++ place ∷ []) places rest
    ∙ ap (λ (x : List ℕ). each_of source at x rest) (append_assoc names (place ∷ []) places)

module _ (source written : Source) (n : ℕ) where
  -- a variable's name
  pub name_read : (i k : ℕ) (w : List Part) → Reads source n (dollar_name source) i k w
      → (k ≡ suc (suc i)) × (w ≡ Place (suc i) ∷ []) × Old source i dollars
      × Old source (suc i) (just terminals.VariableName)
  unfolding dollar_name
  name_read i k w (a, u, v, (m1, e1, e2), (m2, e3, e4), e5) = (
    e3 ∙ ap suc e1,
    e5 ∙ ap (λ (x : List Part). x ++ v) e2 ∙ e4 ∙ ap (λ (x : ℕ). Place x ∷ []) e1,
    old_of source i dollars refl m1,
    old_of source (suc i) (just terminals.VariableName) refl
        (subst (λ (x : ℕ). member (terminal_at source x) (just terminals.VariableName) ≡ true) e1 m2),
  )

  pub name_back : (name : List ℕ) (p q : ℕ) → Stands written p (dollar_tokens name) q
      → Reads written n (dollar_name written) p q (Place (suc p) ∷ []) × (name_at written (suc p) ≡ name)
  unfolding dollar_name
  name_back name p q (a, (b, e)) = (
    (
      suc p,
      [],
      Place (suc p) ∷ [],
      (is_of written p dollar dollars a refl, refl, refl),
      (is_of written (suc p) (tok terminals.VariableName (Dashed name)) (just terminals.VariableName) b refl, sym e, refl),
      refl,
    ),
    b.said,
  )

  record NamesAgain (i j : ℕ) (w : List Part) : Type 0 where
    places : List ℕ
    is : w ≡ map Place places
    tokens : List Tok
    spells : SpellsNames source i j places tokens
    back : (p q : ℕ) → Stands written p tokens q
        → (found : List ℕ) × Row (Reads written n (comma_name written)) p q (map Place found)
        × (names_at written found ≡ names_at source places)

  names_again : {i j : ℕ} {w : List Part} → Row (Reads source n (comma_name source)) i j w → NamesAgain i j w
  names_again (done {i}) = record {
    places = [];
    is = refl;
    tokens = [];
    spells = no_names;
    back = λ p q e. ([], subst (λ (x : ℕ). Row (Reads written n (comma_name written)) p x []) e done, refl);
  }
  names_again (then {i} {k} {j} {u} {v} (a, u1, u2, (m, e1, e2), d, e3) row) =
      let one = name_read (suc i) k u2 (subst (λ (x : ℕ). Reads source n (dollar_name source) x k u2) e1 d) in
      let rest = names_again row in
      let name = name_at source (suc (suc i)) in
      let at : u ≡ Place (suc (suc i)) ∷ [] = e3 ∙ ap (λ (x : List Part). x ++ u2) e2 ∙ one.1 in record {
        places = suc (suc i) ∷ rest.places;
        is = ap (λ (x : List Part). x ++ v) at ∙ ap (λ (x : List Part). Place (suc (suc i)) ∷ x) rest.is;
        tokens = sign terminals.Comma ∷ (dollar_tokens name ++ rest.tokens);
        spells = more_names (old_of source i (just terminals.Comma) refl m) one.2 one.3
            (subst (λ (x : ℕ). SpellsNames source x j rest.places rest.tokens) one.0 rest.spells);
        back = λ p q stand.
            let (place, left, right) = split written q (dollar_tokens name) rest.tokens (suc p) stand.1 in
            let (reads, same) = name_back name (suc p) place left in
            let (found, rows, others) = rest.back place q right in (
              suc (suc p) ∷ found,
              then (
                suc p,
                [],
                Place (suc (suc p)) ∷ [],
                (is_of written p (sign terminals.Comma) (just terminals.Comma) stand.0 refl, refl, refl),
                reads,
                refl,
              ) rows,
              ap (λ (x : List ℕ). x ∷ names_at written found) same
                  ∙ ap (λ (x : List (List ℕ)). name ∷ x) others,
            );
      }

  module _ (blocks : BlocksAgain source written n) where
    pub each_again : StatementAgain source written n each
    unfolding each
    each_again i j w (
      u,
      (
        k,
        u1,
        u2,
        (x, (k1, x1, x2, (m, e1, e2), (a, y1, y2, d, (c, z1, z2, row, (b, v1, v2, (m2, e3, e4), dv, e5), e6), e7), e8), e9),
        inside,
        e10,
      ),
      e11,
    ) =
        let first = name_read (suc i) a y1 (subst (λ (y : ℕ). Reads source n (dollar_name source) y a y1) e1 d) in
        let names = names_again row in
        let value = values_again source written n (suc c) k v2
        (subst (λ (y : ℕ). Reads source n (expr source) y k v2) e3 dv) in
        let inner = blocks k j u2 inside in
        let span = span_between source i k in
        let places = suc (suc i) ∷ names.places in
        let it : Each = record { names = names_at source places; value = value.value; block = inner.list; span = span } in
        let last : z2 ≡ Values value.value ∷ [] = e5 ∙ ap (λ (y : List Part). y ++ v2) e4 ∙ value.is in
        let head : x ≡ map Place places ++ Values value.value ∷ [] =
        e8 ∙ ap (λ (y : List Part). y ++ x2) e2 ∙ e7 ∙ ap (λ (y : List Part). y ++ y2) first.1
        ∙ ap (λ (y : List Part). Place (suc (suc i)) ∷ y)
        (e6 ∙ ap (λ (y : List Part). y ++ z2) names.is ∙ ap (λ (y : List Part). map Place names.places ++ y) last) in
        let rest = Values value.value ∷ Behind k ∷ Blocks inner.list ∷ [] in
        let parts : u ≡ map Place places ++ rest =
        e10 ∙ ap (λ (y : List Part). y ++ u2) (e9 ∙ ap (to_behind i k) head)
        ∙ ap (λ (y : List Part). ((map Place places ++ Values value.value ∷ []) ++ Behind k ∷ []) ++ y) inner.is
        ∙ append_assoc (map Place places ++ Values value.value ∷ []) (Behind k ∷ []) (Blocks inner.list ∷ [])
        ∙ append_assoc (map Place places) (Values value.value ∷ []) (Behind k ∷ Blocks inner.list ∷ []) in
        let tail = names.tokens ++ sign terminals.In ∷ (value.tokens ++ inner.tokens) in
        let name = name_at source (suc (suc i)) in record {
          statement = statements.Each it;
          is = e11 ∙ ap (to_each source i j) parts ∙ each_names source i [] places rest;
          tokens = sign terminals.AtEach ∷ (dollar_tokens name ++ tail);
          spells = each_block span (old_of source i (just terminals.AtEach) refl m) first.2 first.3
              (subst (λ (y : ℕ). SpellsNames source y c names.places names.tokens) first.0 names.spells)
              (old_of source c (just terminals.In) refl m2) value.spells inner.spells;
          back = λ p q stand.
              let (p1, l1, r1) = split written q (dollar_tokens name) tail (suc p) stand.1 in
              let (p2, l2, r2) = split written q names.tokens (sign terminals.In ∷ (value.tokens ++ inner.tokens)) p1 r1 in
              let (p3, l3, r3) = split written q value.tokens inner.tokens (suc p2) r2.1 in
              let (one, same_one) = name_back name (suc p) p1 l1 in
              let (found, rows, same_names) = names.back p1 p2 l2 in
              let y = value.back (suc p2) p3 l3 in
              let (list, reads, same) = inner.back p3 q r3 in
              let there = span_between written p p3 in
              let all = suc (suc p) ∷ found in
              let z : Each = record { names = names_at written all; value = y.found; block = list; span = there } in
              let body = Values y.found ∷ Behind p3 ∷ Blocks list ∷ [] in record {
                found = statements.Each z;
                reads = (
                  map Place all ++ body,
                  (
                    p3,
                    (map Place all ++ Values y.found ∷ []) ++ Behind p3 ∷ [],
                    Blocks list ∷ [],
                    (
                      map Place all ++ Values y.found ∷ [],
                      (
                        suc p,
                        [],
                        map Place all ++ Values y.found ∷ [],
                        (is_of written p (sign terminals.AtEach) (just terminals.AtEach) stand.0 refl, refl, refl),
                        (
                          p1,
                          Place (suc (suc p)) ∷ [],
                          map Place found ++ Values y.found ∷ [],
                          one,
                          (
                            p2,
                            map Place found,
                            Values y.found ∷ [],
                            rows,
                            (
                              suc p2,
                              [],
                              Values y.found ∷ [],
                              (is_of written p2 (sign terminals.In) (just terminals.In) r2.0 refl, refl, refl),
                              y.reads,
                              refl,
                            ),
                            refl,
                          ),
                          refl,
                        ),
                        refl,
                      ),
                      refl,
                    ),
                    reads,
                    sym (append_assoc (map Place all ++ Values y.found ∷ []) (Behind p3 ∷ []) (Blocks list ∷ [])
                        ∙ append_assoc (map Place all) (Values y.found ∷ []) (Behind p3 ∷ Blocks list ∷ [])),
                  ),
                  sym (each_names written p [] all body),
                );
                alike = alike.each it z
                    (sym (ap (λ (t : List ℕ). t ∷ names_at written found) same_one
                    ∙ ap (λ (t : List (List ℕ)). name ∷ t) same_names)) y.alike same;
              };
        }

    pub for_again : StatementAgain source written n for_
    unfolding for_
    for_again i j w (
      u,
      (
        k,
        u1,
        u2,
        (x, (k1, x1, x2, (m, e1, e2), (a, y1, y2, d, (b, z1, z2, (m2, e3, e4), (c, v1, v2, d1, (t, t1, t2, (m3, e5, e6), d2, e7), e8), e9), e10), e11), e12),
        inside,
        e13,
      ),
      e14,
    ) =
        let first = name_read (suc i) a y1 (subst (λ (y : ℕ). Reads source n (dollar_name source) y a y1) e1 d) in
        let at : b ≡ suc (suc (suc (suc i))) = e3 ∙ ap suc first.0 in
        let from = spaces_again source written n (suc (suc (suc (suc i)))) c v1
        (subst (λ (y : ℕ). Reads source n (space source) y c v1) at d1) in
        let to = spaces_again source written n (suc c) k t2 (subst (λ (y : ℕ). Reads source n (space source) y k t2) e5 d2) in
        let ends = these (terminals.Through ∷ terminals.To ∷ []) in
        let old = old_of source c ends refl m3 in
        let word = sign old.lexeme.terminal in
        let inner = blocks k j u2 inside in
        let span = span_between source i k in
        let name = name_at source (suc (suc i)) in
        let it : For = record {
          name = name;
          bounds = record { from = from.value; to = to.value; through = stands_at source c terminals.Through };
          block = inner.list;
          span = span;
        } in
        let late : t1 ++ t2 ≡ Place c ∷ Values to.value ∷ [] =
        ap (λ (y : List Part). y ++ t2) e6 ∙ ap (λ (y : List Part). Place c ∷ y) to.is in
        let middle : z2 ≡ Values from.value ∷ Place c ∷ Values to.value ∷ [] =
        e8 ∙ ap (λ (y : List Part). y ++ v2) from.is ∙ ap (λ (y : List Part). Values from.value ∷ y) (e7 ∙ late) in
        let head : x ≡ Place (suc (suc i)) ∷ Values from.value ∷ Place c ∷ Values to.value ∷ [] =
        e11 ∙ ap (λ (y : List Part). y ++ x2) e2 ∙ e10 ∙ ap (λ (y : List Part). y ++ y2) first.1
        ∙ ap (λ (y : List Part). Place (suc (suc i)) ∷ y) (e9 ∙ ap (λ (y : List Part). y ++ z2) e4 ∙ middle) in
        let parts : u ≡ Place (suc (suc i)) ∷ Values from.value ∷ Place c ∷ Values to.value ∷ Behind k ∷ Blocks inner.list ∷ [] =
        e13 ∙ ap (λ (y : List Part). y ++ u2) (e12 ∙ ap (to_behind i k) head)
        ∙ ap (λ (y : List Part). Place (suc (suc i)) ∷ Values from.value ∷ Place c ∷ Values to.value ∷ Behind k ∷ y) inner.is in
        let tail = sign terminals.From ∷ (from.tokens ++ word ∷ (to.tokens ++ inner.tokens)) in record {
          statement = statements.For it;
          is = e14 ∙ ap (to_for source i j) parts;
          tokens = sign terminals.AtFor ∷ (dollar_tokens name ++ tail);
          spells = for_block span (old_of source i (just terminals.AtFor) refl m) first.2 first.3
              (old_of source (suc (suc (suc i))) (just terminals.From) refl
              (subst (λ (y : ℕ). member (terminal_at source y) (just terminals.From) ≡ true) first.0 m2))
              from.spells old to.spells inner.spells;
          back = λ p q stand.
              let (p1, l1, r1) = split written q (dollar_tokens name) tail (suc p) stand.1 in
              let (p2, l2, r2) = split written q from.tokens (word ∷ (to.tokens ++ inner.tokens)) (suc p1) r1.1 in
              let (p3, l3, r3) = split written q to.tokens inner.tokens (suc p2) r2.1 in
              let (one, same_one) = name_back name (suc p) p1 l1 in
              let y = from.back (suc p1) p2 l2 in
              let z = to.back (suc p2) p3 l3 in
              let (list, reads, same) = inner.back p3 q r3 in
              let there = span_between written p p3 in
              let b : For = record {
                name = name_at written (suc (suc p));
                bounds = record { from = y.found; to = z.found; through = stands_at written p2 terminals.Through };
                block = list;
                span = there;
              } in
              let through : stands_at source c terminals.Through ≡ stands_at written p2 terminals.Through =
              sym (ap (λ (t : ℕ). member t (just terminals.Through)) (number_same source written c p2 ends old word r2.0 refl)) in record {
                found = statements.For b;
                reads = (
                  Place (suc (suc p)) ∷ Values y.found ∷ Place p2 ∷ Values z.found ∷ Behind p3 ∷ Blocks list ∷ [],
                  (
                    p3,
                    Place (suc (suc p)) ∷ Values y.found ∷ Place p2 ∷ Values z.found ∷ Behind p3 ∷ [],
                    Blocks list ∷ [],
                    (
                      Place (suc (suc p)) ∷ Values y.found ∷ Place p2 ∷ Values z.found ∷ [],
                      (
                        suc p,
                        [],
                        Place (suc (suc p)) ∷ Values y.found ∷ Place p2 ∷ Values z.found ∷ [],
                        (is_of written p (sign terminals.AtFor) (just terminals.AtFor) stand.0 refl, refl, refl),
                        (
                          p1,
                          Place (suc (suc p)) ∷ [],
                          Values y.found ∷ Place p2 ∷ Values z.found ∷ [],
                          one,
                          (
                            suc p1,
                            [],
                            Values y.found ∷ Place p2 ∷ Values z.found ∷ [],
                            (is_of written p1 (sign terminals.From) (just terminals.From) r1.0 refl, refl, refl),
                            (
                              p2,
                              Values y.found ∷ [],
                              Place p2 ∷ Values z.found ∷ [],
                              y.reads,
                              (
                                suc p2,
                                Place p2 ∷ [],
                                Values z.found ∷ [],
                                (of_set source written c p2 ends old word r2.0 refl, refl, refl),
                                z.reads,
                                refl,
                              ),
                              refl,
                            ),
                            refl,
                          ),
                          refl,
                        ),
                        refl,
                      ),
                      refl,
                    ),
                    reads,
                    refl,
                  ),
                  refl,
                );
                alike = alike.for_ it b (sym same_one) (y.alike, z.alike, through) same;
              };
        }
