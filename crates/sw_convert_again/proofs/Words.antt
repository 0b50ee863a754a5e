-- Words are read again, with what is inserted in them.
use Rattle.std.proofs.Common.{◌≡◌, ℕ, suc, ◌+◌, ◌-◌, List, [], ◌∷◌, ◌++◌, inl, inr, refl, sym, ◌∙◌, ap, subst, arith}
use Rattle.sw_parse_grammar.specs.Grammar.{Grammar, empty, seq, alt, build, Row}
use Rattle.sw_tree.specs.declared.expr.Expr.{Expr}
use Rattle.sw_tree.specs.declared.expr.ExprKind.TheVariants as exprs
use Rattle.sw_parse_terminals.specs.declared.terminal.Terminal.TheVariants as terminals
use Rattle.sw_parse_terminals.specs.Numbers.{just}
use Rattle.sw_parse_table.specs.declared.source.Source.{Source}
use Rattle.sw_parse_table.specs.Parts.{Part, Form, Inserts, Texts as PartTexts, Values}
use Rattle.sw_parse_table.specs.Sources.{span_between, from_at, to_at, parts_between, text_between}
use Rattle.sw_parse_table.specs.Values.{expression, to_text, to_called}
use Rattle.sw_parse_table.specs.Expressions.{word_insert, part_insert, word_part, word_start, word, arguments_in, called, expr}
use Rattle.sw_convert_alike.specs.Expressions.{Like, LikeParts, like}
use Rattle.sw_convert_alike.specs.Expressions as alike
use Rattle.sw_convert_again.specs.Tokens.{Before, text_up_to, Tok, tok, sign, Stands, Begins}
use Rattle.sw_convert_again.specs.Spells.{Spells, SpellsWord, SpellsRow, named, begun, begun_minus, behind_insert, from_start}
use Rattle.sw_convert_again.specs.Spells as spells
use Rattle.sw_convert_again.specs.Again.{Reads, Again, called_by_name}
use Rattle.sw_convert_again.proofs.Tokens.{old_of, is_of, split}
use Rattle.sw_convert_again.proofs.Rows.{inserting, RowAgain, insert_again, said_behind, said_first, up_to_same, text_then, row_again}

module _ (source written : Source) where
  abbrev Is : ℕ → Grammar Part Form → ℕ → ℕ → List Part → Type 0
  Is n g = Reads written n g

  module _ (n : ℕ) (deep : (m : ℕ) → n ≡ suc m → Again source written m expr) where
    -- what goes on with a word
    abbrev pub WordRow : ℕ → ℕ → List Part → Type 0
    WordRow s j w = RowAgain source written terminals.Part terminals.PartInsert (λ x. x) 0 n s j w

    pub go_on : {s j : ℕ} {w : List Part} → Row (Reads source n (word_part source)) s j w → WordRow s j w
    unfolding word_part part_insert
    go_on row =
        row_again source written terminals.Part terminals.PartInsert (record { here = refl; own = refl })
        (record { here = refl; own = refl }) (λ x. x) 0 (λ x. let z : x ≡ x + 0 = omega arith in z) n deep row

    -- a whole word
    pub record WordAgain (i j : ℕ) (w : List Part) : Type 0 where
      pub inserts : List Part
      pub is : w ≡ PartTexts (text_between source i j inserts) ∷ []
      pub tokens : List Tok
      pub spells : SpellsWord source i j (parts_between source i j inserts) tokens
      pub begins : Begins tokens
      pub back : (p q : ℕ) → Stands written p tokens q
          → (found : List Part) × Is n (word written) p q (PartTexts (text_between written p q found) ∷ [])
          × LikeParts (parts_between source i j inserts) (parts_between written p q found)

    pub word_again : (i j : ℕ) (w : List Part) → Reads source n (word source) i j w → WordAgain i j w
    unfolding word word_start word_insert word_part part_insert
    -- a name
    word_again i j w (u, (k, u1, u2, inl (m, e1, e2), row, e3), e4) =
        let rest : WordRow (suc i) j u2 = subst (λ (x : ℕ). WordRow x j u2) e1 (go_on row) in
        let old = old_of source i (just terminals.Word) refl m in
        let first = tok terminals.Word (from_start source i u2 (suc rest.count)) in record {
          inserts = u2;
          is = e4 ∙ ap (to_text source i j) (e3 ∙ ap (λ (x : List Part). x ++ u2) e2);
          tokens = first ∷ rest.tokens;
          spells = named old rest.spells;
          begins = refl;
          back = λ p q stand.
              let r = rest.back (suc p) q stand.1 in (
                r.found,
                (
                  r.found,
                  (
                    suc p,
                    [],
                    r.found,
                    inl (is_of written p first (just terminals.Word) stand.0 refl, refl, refl),
                    r.reads,
                    refl,
                  ),
                  refl,
                ),
                r.parts (from_at source i) i (from_at written p) p
                    (said_first source written i p rest.stop r.stop' u2 (suc rest.count) stand.0.said
                    (let a : rest.stop ≡ i + suc rest.count = omega (arith, rest.at) in a)
                    (let b : r.stop' ≡ p + suc rest.count = omega (arith, r.at) in b)),
              );
        }
    -- a `#{}`
    word_again i j w (u, (k, u1, u2, inr (inr d), row, e3), e4) =
        let one = insert_again source written n deep terminals.WordInsert refl i k u1 d in
        let rest : WordRow (suc one.c) j u2 = subst (λ (x : ℕ). WordRow x j u2) one.end (go_on row) in
        let first = tok terminals.WordInsert (Before 0 (text_up_to source (from_at source i) i (i + 0))) in
        let last = tok terminals.InsertEnd (behind_insert source one.c u2 rest.count) in record {
          inserts = Inserts i (suc one.c) one.value ∷ u2;
          is = e4 ∙ ap (to_text source i j) (e3 ∙ ap (λ (x : List Part). x ++ u2) one.is);
          tokens = first ∷ (one.tokens ++ last ∷ rest.tokens);
          spells = begun one.opened one.spells one.closed rest.spells;
          begins = refl;
          back = λ p q stand.
              let (place, left, right) = split written q one.tokens (last ∷ rest.tokens) (suc p) stand.1 in
              let (f, reads, liked) = one.back p place left
              (is_of written p first (just terminals.WordInsert) stand.0 refl)
              (is_of written place last (just terminals.InsertEnd) right.0 refl) in
              let r = rest.back (suc place) q right.1 in
              let same = said_behind source written one.c place rest.stop r.stop' u2 rest.count right.0.said rest.at r.at in
              let tail = r.pieces (to_at source (suc one.c - 1)) (suc one.c - 1) (to_at written (suc place - 1))
              (suc place - 1)
              same in (
                Inserts p (suc place) f ∷ r.found,
                (
                  Inserts p (suc place) f ∷ r.found,
                  (suc place, Inserts p (suc place) f ∷ [], r.found, inr (inr reads), r.reads, refl),
                  refl,
                ),
                alike.mixed (text_then _ _ _ _ (up_to_same source written i p 0 i p (omega arith) (omega arith) stand.0.said)
                    (alike.inserted liked tail)),
              );
        }
    -- the same with a `-` before it
    word_again i j w (u, (k, u1, u2, inr (inl (k1, a1, a2, (m, e, e0), d, e2)), row, e3), e4) =
        let one = insert_again source written n deep terminals.WordInsert refl (suc i) k a2
        (subst (λ (x : ℕ). Reads source n (inserting source terminals.WordInsert) x k a2) e d) in
        let rest : WordRow (suc one.c) j u2 = subst (λ (x : ℕ). WordRow x j u2) one.end (go_on row) in
        let old = old_of source i (just terminals.WordMinus) refl m in
        let first = tok terminals.WordMinus (Before 1 (text_up_to source (from_at source i) i (i + 1))) in
        let last = tok terminals.InsertEnd (behind_insert source one.c u2 rest.count) in record {
          inserts = Inserts (suc i) (suc one.c) one.value ∷ u2;
          is = e4 ∙ ap (to_text source i j) (e3 ∙ ap (λ (x : List Part). x ++ u2)
              (e2 ∙ ap (λ (x : List Part). x ++ a2) e0 ∙ one.is));
          tokens = first ∷ sign terminals.WordInsert ∷ (one.tokens ++ last ∷ rest.tokens);
          spells = begun_minus old one.opened one.spells one.closed rest.spells;
          begins = refl;
          back = λ p q stand.
              let (place, left, right) = split written q one.tokens (last ∷ rest.tokens) (suc (suc p)) stand.1.1 in
              let (f, reads, liked) = one.back (suc p) place left
              (is_of written (suc p) (sign terminals.WordInsert) (just terminals.WordInsert) stand.1.0 refl)
              (is_of written place last (just terminals.InsertEnd) right.0 refl) in
              let r = rest.back (suc place) q right.1 in
              let same = said_behind source written one.c place rest.stop r.stop' u2 rest.count right.0.said rest.at r.at in
              let tail = r.pieces (to_at source (suc one.c - 1)) (suc one.c - 1) (to_at written (suc place - 1))
              (suc place - 1)
              same in (
                Inserts (suc p) (suc place) f ∷ r.found,
                (
                  Inserts (suc p) (suc place) f ∷ r.found,
                  (
                    suc place,
                    Inserts (suc p) (suc place) f ∷ [],
                    r.found,
                    inr (inl (
                      suc p,
                      [],
                      Inserts (suc p) (suc place) f ∷ [],
                      (is_of written p first (just terminals.WordMinus) stand.0 refl, refl, refl),
                      reads,
                      refl,
                    )),
                    r.reads,
                    refl,
                  ),
                  refl,
                ),
                alike.mixed (text_then _ _ _ _
                    (up_to_same source written i p 1 (suc i) (suc p) (omega arith) (omega arith) stand.0.said)
                    (alike.inserted liked tail)),
              );
        }

    pub called_again : Again source written n called_by_name → Again source written n called
    unfolding called
    called_again calls i j w (u, (k, u1, u2, d, inl a, e1), e2) =
        let one = calls i j w (u, (k, u1, u2, d, a, e1), e2) in record {
          value = one.value;
          is = one.is;
          tokens = one.tokens;
          spells = one.spells;
          begins = one.begins;
          back = λ p q stand. let x = one.back p q stand in record {
            found = x.found;
            reads = either p q x.found x.reads;
            alike = x.alike;
          };
        }
      where
        either : (p q : ℕ) (e : Expr) → Reads written n (called_by_name written) p q (Values e ∷ [])
            → Reads written n (build (to_called written) (seq (word written) (alt (arguments_in written) empty))) p q
            (Values e ∷ [])
        either p q e (v, (c, v1, v2, x, y, f1), f2) = (v, (c, v1, v2, x, inl y, f1), f2)
    called_again calls i j w (u, (k, u1, u2, d, inr (e3, e4), e1), e2) =
        let one = word_again i k u1 d in
        let span = span_between source i k in
        let value = expression (exprs.Word (parts_between source i k one.inserts)) span in
        let parts : u ≡ PartTexts (text_between source i k one.inserts) ∷ [] =
        e1 ∙ ap (λ (x : List Part). x ++ u2) one.is
        ∙ ap (λ (x : List Part). PartTexts (text_between source i k one.inserts) ∷ x) e4 in record {
          value = value;
          is = e2 ∙ ap (to_called source i j) parts;
          tokens = one.tokens;
          spells = subst (λ (x : ℕ). Spells source i x value one.tokens) (sym e3) (spells.word span one.spells);
          begins = one.begins;
          back = λ p q stand.
              let (found, reads, liked) = one.back p q stand in record {
                found = expression (exprs.Word (parts_between written p q found)) (span_between written p q);
                reads = (
                  PartTexts (text_between written p q found) ∷ [],
                  (q, PartTexts (text_between written p q found) ∷ [], [], reads, inr (refl, refl), refl),
                  refl,
                );
                alike = like (alike.word liked);
              };
        }
