-- Declarations and `@at-root` are read again.
use Rattle.std.proofs.Common.{◌≡◌, ℕ, suc, List, [], ◌∷◌, ◌++◌, Some, None, inl, inr, refl, sym, ◌∙◌, ap, subst, append_assoc}
use Rattle.sw_tree.specs.declared.statement.AtRoot.{AtRoot}
use Rattle.sw_tree.specs.declared.statement.Properties.{Properties}
use Rattle.sw_tree.specs.declared.statement.Statement.TheVariants as statements
use Rattle.sw_parse_terminals.specs.declared.terminal.Terminal.TheVariants as terminals
use Rattle.sw_parse_terminals.specs.Numbers.{just}
use Rattle.sw_parse_table.specs.declared.source.Source.{Source}
use Rattle.sw_parse_table.specs.Parts.{Part, Behind, Blocks, Texts, Values}
use Rattle.sw_parse_table.specs.Sources.{span_between, parts_between, text_between}
use Rattle.sw_parse_table.specs.Actions.{to_behind, to_declaration, to_at_root}
use Rattle.sw_parse_table.specs.Expressions.{expr}
use Rattle.sw_parse_table.specs.Statements.{block_or_end, property, property_value, declaration, raw, optional_raw, at_root}
use Rattle.sw_convert_alike.specs.Expressions.{LikeParts}
use Rattle.sw_convert_alike.specs.Statements as alike
use Rattle.sw_convert_alike.proofs.AsTheyStand.{raw_as_it_stands}
use Rattle.sw_convert_again.specs.Tokens.{Tok, sign, Stands, Old}
use Rattle.sw_convert_again.specs.Spells.{SpellsWord}
use Rattle.sw_convert_again.specs.RawTexts.{raw_tokens}
use Rattle.sw_convert_again.specs.Again.{Reads}
use Rattle.sw_convert_again.specs.Statements.{ended, SpellsBlock, declaration_line, properties_block, properties_value_block, at_root_block, at_root_text_block}
use Rattle.sw_convert_again.specs.Claims.{StatementAgain, BlocksAgain}
use Rattle.sw_convert_again.proofs.Tokens.{old_of, is_of, split}
use Rattle.sw_convert_again.proofs.Words.{word_again}
use Rattle.sw_convert_again.proofs.Values.{values_again}
use Rattle.sw_convert_again.proofs.RawTexts.{raw_texts_again}
use Rattle.sw_convert_again.proofs.Statements.{was_ended, is_ended}

module _ (source written : Source) (n : ℕ) where
  -- the name of a property, with the `:` behind it
  record PropertyAgain (i j : ℕ) (w : List Part) : Type 0 where
    c : ℕ
    end : j ≡ suc c
    values : List Part
    is : w ≡ Texts (text_between source i c values) ∷ Behind (suc c) ∷ []
    colon : Old source c (just terminals.Colon)
    tokens : List Tok
    spells : SpellsWord source i c (parts_between source i c values) tokens
    back : (p q : ℕ) → Stands written p (tokens ++ sign terminals.Colon ∷ []) q
        → (found : List Part) × (place : ℕ)
        × Reads written n (property written) p q (Texts (text_between written p place found) ∷ Behind q ∷ [])
        × LikeParts (parts_between source i c values) (parts_between written p place found)

  property_again : (i j : ℕ) (w : List Part) → Reads source n (property source) i j w → PropertyAgain i j w
  unfolding property
  property_again i j w (u, (c, u1, u2, d, (m, e1, e2), e3), e4) =
      let one = word_again source written n (λ m e. values_again source written m) i c u1 d in
      let parts : u ≡ Texts (text_between source i c one.inserts) ∷ [] =
      e3 ∙ ap (λ (x : List Part). x ++ u2) one.is
      ∙ ap (λ (x : List Part). Texts (text_between source i c one.inserts) ∷ x) e2 in record {
        c = c;
        end = e1;
        values = one.inserts;
        is = e4 ∙ ap (to_behind i j) parts
            ∙ ap (λ (x : ℕ). Texts (text_between source i c one.inserts) ∷ Behind x ∷ []) e1;
        colon = old_of source c (just terminals.Colon) refl m;
        tokens = one.tokens;
        spells = one.spells;
        back = λ p q stand.
            let (place, left, right) = split written q one.tokens (sign terminals.Colon ∷ []) p stand in
            let (found, reads, same) = one.back p place left in (
              found,
              place,
              (
                Texts (text_between written p place found) ∷ [],
                (
                  place,
                  Texts (text_between written p place found) ∷ [],
                  [],
                  reads,
                  (
                    is_of written place (sign terminals.Colon) (just terminals.Colon) right.0 refl,
                    sym right.1,
                    refl,
                  ),
                  refl,
                ),
                refl,
              ),
              same,
            );
      }

  -- tokens behind a name and its `:`
  regroup : (tokens others : List Tok) → (tokens ++ sign terminals.Colon ∷ []) ++ others ≡ tokens ++ sign terminals.Colon ∷ others
  regroup tokens others = append_assoc tokens (sign terminals.Colon ∷ []) others

  parted : (tokens others : List Tok) (p q : ℕ) → Stands written p (tokens ++ sign terminals.Colon ∷ others) q
      → (place : ℕ) × Stands written p (tokens ++ sign terminals.Colon ∷ []) place × Stands written place others q
  parted tokens others p q stand =
      split written q (tokens ++ sign terminals.Colon ∷ []) others p
      (subst (λ (x : List Tok). Stands written p x q) (sym (regroup tokens others)) stand)

  module _ (blocks : BlocksAgain source written n) where
    pub declaration_again : StatementAgain source written n declaration
    unfolding declaration property_value block_or_end
    -- with a block alone
    declaration_again i j w (u, (k, u1, u2, d, inl b, e1), e2) =
        let name = property_again i k u1 d in
        let inner = blocks k j u2 b in
        let text = text_between source i name.c name.values in
        let span = span_between source i k in
        let parts : u ≡ Texts text ∷ Behind (suc name.c) ∷ Blocks inner.list ∷ [] =
        e1 ∙ ap (λ (x : List Part). x ++ u2) name.is
        ∙ ap (λ (x : List Part). Texts text ∷ Behind (suc name.c) ∷ x) inner.is in
        let a : Properties = record { property = text; value = None; block = inner.list; span = span_between source i (suc name.c) } in record {
          statement = statements.Properties a;
          is = e2 ∙ ap (to_declaration source i j) parts;
          tokens = name.tokens ++ sign terminals.Colon ∷ inner.tokens;
          spells = properties_block (span_between source i (suc name.c)) (span_between source i name.c) name.spells name.colon
              (subst (λ (x : ℕ). SpellsBlock source x j inner.list inner.tokens) name.end inner.spells);
          back = λ p q stand.
              let (place, left, right) = parted name.tokens inner.tokens p q stand in
              let (values, stop, head, same_name) = name.back p place left in
              let (found, reads, same) = inner.back place q right in
              let there = text_between written p stop values in
              let z : Properties = record { property = there; value = None; block = found; span = span_between written p place } in record {
                found = statements.Properties z;
                reads = (
                  Texts there ∷ Behind place ∷ Blocks found ∷ [],
                  (place, Texts there ∷ Behind place ∷ [], Blocks found ∷ [], head, inl reads, refl),
                  refl,
                );
                alike = alike.properties a z same_name tt same;
              };
        }
    -- with a value and a block
    declaration_again i j w (u, (k, u1, u2, d, inr (k2, v1, v2, (x, dv, e4), inl b, e3), e1), e2) =
        let name = property_again i k u1 d in
        let value = values_again source written n (suc name.c) k2 x
        (subst (λ (y : ℕ). Reads source n (expr source) y k2 x) name.end dv) in
        let inner = blocks k2 j v2 b in
        let text = text_between source i name.c name.values in
        let span = span_between source i k2 in
        let tail : u2 ≡ Values value.value ∷ Behind k2 ∷ Blocks inner.list ∷ [] =
        e3 ∙ ap (λ (y : List Part). y ++ v2) (e4 ∙ ap (to_behind k k2) value.is)
        ∙ ap (λ (y : List Part). Values value.value ∷ Behind k2 ∷ y) inner.is in
        let parts : u ≡ Texts text ∷ Behind (suc name.c) ∷ Values value.value ∷ Behind k2 ∷ Blocks inner.list ∷ [] =
        e1 ∙ ap (λ (y : List Part). y ++ u2) name.is
        ∙ ap (λ (y : List Part). Texts text ∷ Behind (suc name.c) ∷ y) tail in
        let a : Properties = record { property = text; value = Some value.value; block = inner.list; span = span } in record {
          statement = statements.Properties a;
          is = e2 ∙ ap (to_declaration source i j) parts;
          tokens = name.tokens ++ sign terminals.Colon ∷ (value.tokens ++ inner.tokens);
          spells = properties_value_block span (span_between source i name.c) name.spells name.colon value.spells inner.spells;
          back = λ p q stand.
              let (place, left, right) = parted name.tokens (value.tokens ++ inner.tokens) p q stand in
              let (values, stop, head, same_name) = name.back p place left in
              let (middle, l1, l2) = split written q value.tokens inner.tokens place right in
              let y = value.back place middle l1 in
              let (found, reads, same) = inner.back middle q l2 in
              let there = text_between written p stop values in
              let z : Properties = record { property = there; value = Some y.found; block = found; span = span_between written p middle } in record {
                found = statements.Properties z;
                reads = (
                  Texts there ∷ Behind place ∷ Values y.found ∷ Behind middle ∷ Blocks found ∷ [],
                  (
                    place,
                    Texts there ∷ Behind place ∷ [],
                    Values y.found ∷ Behind middle ∷ Blocks found ∷ [],
                    head,
                    inr (
                      middle,
                      Values y.found ∷ Behind middle ∷ [],
                      Blocks found ∷ [],
                      (Values y.found ∷ [], y.reads, refl),
                      inl reads,
                      refl,
                    ),
                    refl,
                  ),
                  refl,
                );
                alike = alike.properties a z same_name y.alike same;
              };
        }
    -- with a value alone
    declaration_again i j w (u, (k, u1, u2, d, inr (k2, v1, v2, (x, dv, e4), inr f, e3), e1), e2) =
        let name = property_again i k u1 d in
        let value = values_again source written n (suc name.c) k2 x
        (subst (λ (y : ℕ). Reads source n (expr source) y k2 x) name.end dv) in
        let end = was_ended source written n k2 j v2 f in
        let text = text_between source i name.c name.values in
        let span = span_between source i k2 in
        let tail : u2 ≡ Values value.value ∷ Behind k2 ∷ [] =
        e3 ∙ ap (λ (y : List Part). y ++ v2) (e4 ∙ ap (to_behind k k2) value.is)
        ∙ ap (λ (y : List Part). Values value.value ∷ Behind k2 ∷ y) end.1 in
        let parts : u ≡ Texts text ∷ Behind (suc name.c) ∷ Values value.value ∷ Behind k2 ∷ [] =
        e1 ∙ ap (λ (y : List Part). y ++ u2) name.is
        ∙ ap (λ (y : List Part). Texts text ∷ Behind (suc name.c) ∷ y) tail in
        let tokens = ended (name.tokens ++ sign terminals.Colon ∷ value.tokens) in record {
          statement = statements.Declaration (record { property = text; value = value.value; span = span });
          is = e2 ∙ ap (to_declaration source i j) parts;
          tokens = tokens;
          spells = declaration_line span (span_between source i name.c) name.spells name.colon value.spells end.0;
          back = λ p q stand.
              let (last, l1, l2) = split written q (name.tokens ++ sign terminals.Colon ∷ value.tokens)
              (sign terminals.Semicolon ∷ []) p stand in
              let (place, left, right) = parted name.tokens value.tokens p last l1 in
              let (values, stop, head, same_name) = name.back p place left in
              let y = value.back place last right in
              let there = text_between written p stop values in record {
                found = statements.Declaration (record { property = there; value = y.found; span = span_between written p last });
                reads = (
                  Texts there ∷ Behind place ∷ Values y.found ∷ Behind last ∷ [],
                  (
                    place,
                    Texts there ∷ Behind place ∷ [],
                    Values y.found ∷ Behind last ∷ [],
                    head,
                    inr (
                      last,
                      Values y.found ∷ Behind last ∷ [],
                      [],
                      (Values y.found ∷ [], y.reads, refl),
                      inr (is_ended source written n last q l2),
                      refl,
                    ),
                    refl,
                  ),
                  refl,
                );
                alike = alike.declaration same_name y.alike;
              };
        }

    pub at_root_again : StatementAgain source written n at_root
    unfolding at_root optional_raw
    at_root_again i j w (u, (k, u1, u2, (x, (k1, x1, x2, (m, e1, e2), inl d, e3), e4), b, e5), e6) =
        let one = raw_texts_again source written n (suc i) k x2
        (subst (λ (y : ℕ). Reads source n (raw source) y k x2) e1 d) in
        let text = text_between source (suc i) k one.values in
        let tokens = raw_tokens source (suc i) k one.values one.extents one.tokens in
        let inner = blocks k j u2 b in
        let span = span_between source i k in
        let head : x ≡ Texts text ∷ [] = e3 ∙ ap (λ (y : List Part). y ++ x2) e2 ∙ one.is in
        let parts : u ≡ Texts text ∷ Behind k ∷ Blocks inner.list ∷ [] =
        e5 ∙ ap (λ (y : List Part). y ++ u2) (e4 ∙ ap (to_behind i k) head)
        ∙ ap (λ (y : List Part). Texts text ∷ Behind k ∷ y) inner.is in
        let a : AtRoot = record { selector = Some text; block = inner.list; span = span } in record {
          statement = statements.AtRoot a;
          is = e6 ∙ ap (to_at_root source i j) parts;
          tokens = sign terminals.AtRoot ∷ (tokens ++ inner.tokens);
          spells = at_root_text_block span (old_of source i (just terminals.AtRoot) refl m) one.spells inner.spells;
          back = λ p q stand.
              let (place, left, right) = split written q tokens inner.tokens (suc p) stand.1 in
              let (values, raws, like_text) = one.back (suc p) place left in
              let there = text_between written (suc p) place values in
              let (found, reads, same) = inner.back place q right in
              let z : AtRoot = record { selector = Some there; block = found; span = span_between written p place } in record {
                found = statements.AtRoot z;
                reads = (
                  Texts there ∷ Behind place ∷ Blocks found ∷ [],
                  (
                    place,
                    Texts there ∷ Behind place ∷ [],
                    Blocks found ∷ [],
                    (
                      Texts there ∷ [],
                      (
                        suc p,
                        [],
                        Texts there ∷ [],
                        (is_of written p (sign terminals.AtRoot) (just terminals.AtRoot) stand.0 refl, refl, refl),
                        inl raws,
                        refl,
                      ),
                      refl,
                    ),
                    reads,
                    refl,
                  ),
                  refl,
                );
                alike = alike.at_root a z (raw_as_it_stands like_text) same;
              };
        }
    at_root_again i j w (u, (k, u1, u2, (x, (k1, x1, x2, (m, e1, e2), inr (e7, e8), e3), e4), b, e5), e6) =
        let inner = blocks k j u2 b in
        let at : k ≡ suc i = e7 ∙ e1 in
        let span = span_between source i k in
        let head : x ≡ [] = e3 ∙ ap (λ (y : List Part). y ++ x2) e2 ∙ e8 in
        let parts : u ≡ Behind k ∷ Blocks inner.list ∷ [] =
        e5 ∙ ap (λ (y : List Part). y ++ u2) (e4 ∙ ap (to_behind i k) head)
        ∙ ap (λ (y : List Part). Behind k ∷ y) inner.is in
        let a : AtRoot = record { selector = None; block = inner.list; span = span } in record {
          statement = statements.AtRoot a;
          is = e6 ∙ ap (to_at_root source i j) parts;
          tokens = sign terminals.AtRoot ∷ inner.tokens;
          spells = at_root_block span (old_of source i (just terminals.AtRoot) refl m)
              (subst (λ (y : ℕ). SpellsBlock source y j inner.list inner.tokens) at inner.spells);
          back = λ p q stand.
              let (found, reads, same) = inner.back (suc p) q stand.1 in
              let z : AtRoot = record { selector = None; block = found; span = span_between written p (suc p) } in record {
                found = statements.AtRoot z;
                reads = (
                  Behind (suc p) ∷ Blocks found ∷ [],
                  (
                    suc p,
                    Behind (suc p) ∷ [],
                    Blocks found ∷ [],
                    (
                      [],
                      (
                        suc p,
                        [],
                        [],
                        (is_of written p (sign terminals.AtRoot) (just terminals.AtRoot) stand.0 refl, refl, refl),
                        inr (refl, refl),
                        refl,
                      ),
                      refl,
                    ),
                    reads,
                    refl,
                  ),
                  refl,
                );
                alike = alike.at_root a z tt same;
              };
        }
