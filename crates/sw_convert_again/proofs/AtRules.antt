-- At-rules are read again: their names, and raw text where there is any.
use Rattle.std.proofs.Common.{◌≡◌, ℕ, suc, ◌+◌, ◌-◌, true, List, [], ◌∷◌, ◌++◌, Option, Some, None, inl, inr, refl, sym, ◌∙◌, ap, subst, arith}
use Rattle.sw_parse_grammar.specs.Grammar.{member}
use Rattle.sw_tree.specs.declared.statement.AtRule.{AtRule}
use Rattle.sw_tree.specs.declared.statement.Statement.{Statement}
use Rattle.sw_tree.specs.declared.statement.Statement.TheVariants as statements
use Rattle.sw_tree.specs.declared.text.Text.{Text}
use Rattle.sw_parse_terminals.specs.declared.terminal.Terminal.TheVariants as terminals
use Rattle.sw_parse_terminals.specs.Numbers.{just}
use Rattle.sw_parse_table.specs.declared.source.Source.{Source}
use Rattle.sw_parse_table.specs.Parts.{Part, Inserts, Behind, Blocks, States, Texts}
use Rattle.sw_parse_table.specs.Sources.{terminal_at, from_at, to_at, span_between, parts_between, text_between}
use Rattle.sw_parse_table.specs.Values.{to_text}
use Rattle.sw_parse_table.specs.Actions.{to_behind, to_at_rule}
use Rattle.sw_parse_table.specs.Expressions.{word_insert, word_part, part_insert}
use Rattle.sw_parse_table.specs.Statements.{block_or_end, at_name, at}
use Rattle.sw_convert_alike.specs.Expressions.{LikeParts, LikeText}
use Rattle.sw_convert_alike.specs.Expressions as alike_expressions
use Rattle.sw_convert_alike.specs.Statements.{LikeOption, LikeRaw}
use Rattle.sw_convert_alike.specs.Statements as alike
use Rattle.sw_convert_alike.proofs.AsTheyStand.{raw_as_it_stands}
use Rattle.sw_convert_again.specs.Tokens.{Before, text_up_to, Tok, tok, sign, Stands}
use Rattle.sw_convert_again.specs.Spells.{behind_insert}
use Rattle.sw_convert_again.specs.Again.{Reads}
use Rattle.sw_convert_again.specs.Statements.{SpellsAtName, at_word, at_insert, at_minus, ended, at_rule_line, at_rule_block}
use Rattle.sw_convert_again.specs.Claims.{StatementAgain, BlocksAgain}
use Rattle.sw_convert_again.proofs.Tokens.{old_of, is_of, split}
use Rattle.sw_convert_again.proofs.Rows.{inserting, insert_again, said_behind, up_to_same, text_then}
use Rattle.sw_convert_again.proofs.Words.{WordRow, go_on}
use Rattle.sw_convert_again.proofs.Customs.{deep, name_again, raw_part, optional_raw_again}
use Rattle.sw_convert_again.proofs.Statements.{was_ended, is_ended}

raw_options : (a b : Option Text) → LikeOption LikeText a b → LikeOption LikeRaw a b
raw_options None None l = tt
raw_options (Some a) (Some b) l = raw_as_it_stands l
raw_options None (Some b) l = absurd l
raw_options (Some a) None l = absurd l

module _ (source written : Source) (n : ℕ) where
  record AtNameAgain (i j : ℕ) (w : List Part) : Type 0 where
    values : List Part
    is : w ≡ Texts (text_between source i j values) ∷ []
    tokens : List Tok
    spells : SpellsAtName source i j (parts_between source i j values) tokens
    back : (p q : ℕ) → Stands written p tokens q
        → (found : List Part) × Reads written n (at_name written) p q (Texts (text_between written p q found) ∷ [])
        × LikeParts (parts_between source i j values) (parts_between written p q found)

  at_name_again : (i j : ℕ) (w : List Part) → Reads source n (at_name source) i j w → AtNameAgain i j w
  unfolding at_name word_insert word_part part_insert
  at_name_again i j w (u, inl d, e) =
      let one = name_again source written n terminals.AtOther (record { here = refl; own = refl }) i j w (u, d, e) in record {
        values = one.values;
        is = one.is;
        tokens = one.tokens;
        spells = at_word one.spells;
        back = λ p q stand. let (found, (v, r, f), same) = one.back p q stand in (found, (v, inl r, f), same);
      }
  at_name_again i j w (u, inr (k, u1, u2, (m, e1, e2), (k2, v1, v2, inr d, row, e3), e4), e5) =
      let one = insert_again source written n (deep source written n) terminals.WordInsert refl (suc i) k2 v1
      (subst (λ (x : ℕ). Reads source n (inserting source terminals.WordInsert) x k2 v1) e1 d) in
      let rest : WordRow source written n (deep source written n) (suc one.c) j v2 =
      subst (λ (x : ℕ). WordRow source written n (deep source written n) x j v2) one.end
      (go_on source written n (deep source written n) row) in
      let old = old_of source i (just terminals.AtInsert) refl m in
      let first = tok terminals.AtInsert (Before 1 (text_up_to source (from_at source i) i (i + 1))) in
      let last = tok terminals.InsertEnd (behind_insert source one.c v2 rest.count) in record {
        values = Inserts (suc i) (suc one.c) one.value ∷ v2;
        is = e5 ∙ ap (to_text source i j) (e4 ∙ ap (λ (x : List Part). x ++ u2) e2
            ∙ e3 ∙ ap (λ (x : List Part). x ++ v2) one.is);
        tokens = first ∷ sign terminals.WordInsert ∷ (one.tokens ++ last ∷ rest.tokens);
        spells = at_insert old one.opened one.spells one.closed rest.spells;
        back = λ p q stand.
            let (place, left, right) = split written q one.tokens (last ∷ rest.tokens) (suc (suc p)) stand.1.1 in
            let (f, reads, liked) = one.back (suc p) place left
            (is_of written (suc p) (sign terminals.WordInsert) (just terminals.WordInsert) stand.1.0 refl)
            (is_of written place last (just terminals.InsertEnd) right.0 refl) in
            let r = rest.back (suc place) q right.1 in
            let same = said_behind source written one.c place rest.stop r.stop' v2 rest.count right.0.said rest.at r.at in
            let tail = r.pieces (to_at source (suc one.c - 1)) (suc one.c - 1) (to_at written (suc place - 1)) (suc place - 1)
            same in
            let found = Inserts (suc p) (suc place) f ∷ r.found in (
              found,
              (
                found,
                inr (
                  suc p,
                  [],
                  found,
                  (is_of written p first (just terminals.AtInsert) stand.0 refl, refl, refl),
                  (suc place, Inserts (suc p) (suc place) f ∷ [], r.found, inr reads, r.reads, refl),
                  refl,
                ),
                refl,
              ),
              alike_expressions.mixed (text_then _ _ _ _
                  (up_to_same source written i p 1 (suc i) (suc p) (omega arith) (omega arith) stand.0.said)
                  (alike_expressions.inserted liked tail)),
            );
      }
  at_name_again i j w (u, inr (k, u1, u2, (m, e1, e2), (k2, v1, v2, inl (k3, a1, a2, (m2, e6, e7), d, e8), row, e3), e4), e5) =
      let at : k3 ≡ suc (suc i) = e6 ∙ ap suc e1 in
      let one = insert_again source written n (deep source written n) terminals.WordInsert refl (suc (suc i)) k2 a2
      (subst (λ (x : ℕ). Reads source n (inserting source terminals.WordInsert) x k2 a2) at d) in
      let rest : WordRow source written n (deep source written n) (suc one.c) j v2 =
      subst (λ (x : ℕ). WordRow source written n (deep source written n) x j v2) one.end
      (go_on source written n (deep source written n) row) in
      let old = old_of source i (just terminals.AtInsert) refl m in
      let minus = old_of source (suc i) (just terminals.WordMinus) refl
      (subst (λ (x : ℕ). member (terminal_at source x) (just terminals.WordMinus) ≡ true) e1 m2) in
      let first = tok terminals.AtInsert (Before 2 (text_up_to source (from_at source i) i (i + 2))) in
      let last = tok terminals.InsertEnd (behind_insert source one.c v2 rest.count) in record {
        values = Inserts (suc (suc i)) (suc one.c) one.value ∷ v2;
        is = e5 ∙ ap (to_text source i j) (e4 ∙ ap (λ (x : List Part). x ++ u2) e2
            ∙ e3 ∙ ap (λ (x : List Part). x ++ v2) (e8 ∙ ap (λ (x : List Part). x ++ a2) e7 ∙ one.is));
        tokens = first ∷ sign terminals.WordMinus ∷ sign terminals.WordInsert ∷ (one.tokens ++ last ∷ rest.tokens);
        spells = at_minus old minus one.opened one.spells one.closed rest.spells;
        back = λ p q stand.
            let (place, left, right) = split written q one.tokens (last ∷ rest.tokens) (suc (suc (suc p))) stand.1.1.1 in
            let (f, reads, liked) = one.back (suc (suc p)) place left
            (is_of written (suc (suc p)) (sign terminals.WordInsert) (just terminals.WordInsert) stand.1.1.0 refl)
            (is_of written place last (just terminals.InsertEnd) right.0 refl) in
            let r = rest.back (suc place) q right.1 in
            let same = said_behind source written one.c place rest.stop r.stop' v2 rest.count right.0.said rest.at r.at in
            let tail = r.pieces (to_at source (suc one.c - 1)) (suc one.c - 1) (to_at written (suc place - 1)) (suc place - 1)
            same in
            let it = Inserts (suc (suc p)) (suc place) f in
            let found = it ∷ r.found in (
              found,
              (
                found,
                inr (
                  suc p,
                  [],
                  found,
                  (is_of written p first (just terminals.AtInsert) stand.0 refl, refl, refl),
                  (
                    suc place,
                    it ∷ [],
                    r.found,
                    inl (
                      suc (suc p),
                      [],
                      it ∷ [],
                      (is_of written (suc p) (sign terminals.WordMinus) (just terminals.WordMinus) stand.1.0 refl, refl, refl),
                      reads,
                      refl,
                    ),
                    r.reads,
                    refl,
                  ),
                  refl,
                ),
                refl,
              ),
              alike_expressions.mixed (text_then _ _ _ _
                  (up_to_same source written i p 2 (suc (suc i)) (suc (suc p)) (omega arith) (omega arith) stand.0.said)
                  (alike_expressions.inserted liked tail)),
            );
      }

  -- what is read of an at-rule, with prelude and block or without them
  last_part : Option (List Statement) → List Part
  last_part None = []
  last_part (Some list) = Blocks list ∷ []

  at_rule_is : (s : Source) (i j k : ℕ) (name : Text) (prelude : Option Text) (list : Option (List Statement))
      → to_at_rule s i j (((Texts name ∷ raw_part source written n prelude) ++ Behind k ∷ []) ++ last_part list)
      ≡ States (statements.AtRule (record { name = name; prelude = prelude; block = list; span = span_between s i k })) ∷ []
  unfolding last_part
  at_rule_is s i j k name None None = refl
  at_rule_is s i j k name None (Some list) = refl
  at_rule_is s i j k name (Some text) None = refl
  at_rule_is s i j k name (Some text) (Some list) = refl

  module _ (blocks : BlocksAgain source written n) where
    pub at_rule_again : StatementAgain source written n at
    unfolding at block_or_end last_part
    at_rule_again i j w (u, (k, u1, u2, (x, (c, x1, x2, d, r, e1), e2), inl b, e3), e4) =
        let name = at_name_again i c x1 d in
        let text = optional_raw_again source written n c k x2 r in
        let inner = blocks k j u2 b in
        let named = text_between source i c name.values in
        let span = span_between source i k in
        let it : AtRule = record { name = named; prelude = text.value; block = Some inner.list; span = span } in
        let head : x ≡ Texts named ∷ raw_part source written n text.value =
        e1 ∙ ap (λ (y : List Part). y ++ x2) name.is ∙ ap (λ (y : List Part). Texts named ∷ y) text.is in
        let parts : u ≡ ((Texts named ∷ raw_part source written n text.value) ++ Behind k ∷ []) ++ Blocks inner.list ∷ [] =
        e3 ∙ ap (λ (y : List Part). y ++ u2) (e2 ∙ ap (to_behind i k) head)
        ∙ ap (λ (y : List Part). ((Texts named ∷ raw_part source written n text.value) ++ Behind k ∷ []) ++ y) inner.is in record {
          statement = statements.AtRule it;
          is = e4 ∙ ap (to_at_rule source i j) parts ∙ at_rule_is source i j k named text.value (Some inner.list);
          tokens = name.tokens ++ (text.tokens ++ inner.tokens);
          spells = at_rule_block span (span_between source i c) name.spells text.spells inner.spells;
          back = λ p q stand.
              let (p1, l1, r1) = split written q name.tokens (text.tokens ++ inner.tokens) p stand in
              let (p2, l2, r2) = split written q text.tokens inner.tokens p1 r1 in
              let (values, reads, same) = name.back p p1 l1 in
              let (prelude, raws, alikes) = text.back p1 p2 l2 in
              let (list, others, more) = inner.back p2 q r2 in
              let there = text_between written p p1 values in
              let z : AtRule = record { name = there; prelude = prelude; block = Some list; span = span_between written p p2 } in record {
                found = statements.AtRule z;
                reads = (
                  ((Texts there ∷ raw_part source written n prelude) ++ Behind p2 ∷ []) ++ Blocks list ∷ [],
                  (
                    p2,
                    (Texts there ∷ raw_part source written n prelude) ++ Behind p2 ∷ [],
                    Blocks list ∷ [],
                    (
                      Texts there ∷ raw_part source written n prelude,
                      (p1, Texts there ∷ [], raw_part source written n prelude, reads, raws, refl),
                      refl,
                    ),
                    inl others,
                    refl,
                  ),
                  sym (at_rule_is written p q p2 there prelude (Some list)),
                );
                alike = alike.at_rule it z same (raw_options text.value prelude alikes) (alike.block more);
              };
        }
    at_rule_again i j w (u, (k, u1, u2, (x, (c, x1, x2, d, r, e1), e2), inr f, e3), e4) =
        let name = at_name_again i c x1 d in
        let text = optional_raw_again source written n c k x2 r in
        let end = was_ended source written n k j u2 f in
        let named = text_between source i c name.values in
        let span = span_between source i k in
        let it : AtRule = record { name = named; prelude = text.value; block = None; span = span } in
        let head : x ≡ Texts named ∷ raw_part source written n text.value =
        e1 ∙ ap (λ (y : List Part). y ++ x2) name.is ∙ ap (λ (y : List Part). Texts named ∷ y) text.is in
        let parts : u ≡ ((Texts named ∷ raw_part source written n text.value) ++ Behind k ∷ []) ++ [] =
        e3 ∙ ap (λ (y : List Part). y ++ u2) (e2 ∙ ap (to_behind i k) head)
        ∙ ap (λ (y : List Part). ((Texts named ∷ raw_part source written n text.value) ++ Behind k ∷ []) ++ y) end.1 in
        let tokens = name.tokens ++ text.tokens in record {
          statement = statements.AtRule it;
          is = e4 ∙ ap (to_at_rule source i j) parts ∙ at_rule_is source i j k named text.value None;
          tokens = ended tokens;
          spells = at_rule_line span (span_between source i c) name.spells text.spells end.0;
          back = λ p q stand.
              let (p2, l0, r0) = split written q tokens (sign terminals.Semicolon ∷ []) p stand in
              let (p1, l1, r1) = split written p2 name.tokens text.tokens p l0 in
              let (values, reads, same) = name.back p p1 l1 in
              let (prelude, raws, alikes) = text.back p1 p2 r1 in
              let there = text_between written p p1 values in
              let z : AtRule = record { name = there; prelude = prelude; block = None; span = span_between written p p2 } in record {
                found = statements.AtRule z;
                reads = (
                  ((Texts there ∷ raw_part source written n prelude) ++ Behind p2 ∷ []) ++ [],
                  (
                    p2,
                    (Texts there ∷ raw_part source written n prelude) ++ Behind p2 ∷ [],
                    [],
                    (
                      Texts there ∷ raw_part source written n prelude,
                      (p1, Texts there ∷ [], raw_part source written n prelude, reads, raws, refl),
                      refl,
                    ),
                    inr (is_ended source written n p2 q r0),
                    refl,
                  ),
                  sym (at_rule_is written p q p2 there prelude None),
                );
                alike = alike.at_rule it z same (raw_options text.value prelude alikes) alike.no_block;
              };
        }
