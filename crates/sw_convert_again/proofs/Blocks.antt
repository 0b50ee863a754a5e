-- Lists of statements, blocks and whole sheets are read again where their statements are.
use Rattle.std.proofs.Common.{◌≡◌, ℕ, zero, suc, ◌≤◌, List, [], ◌∷◌, ◌++◌, map, length, refl, sym, ◌∙◌, ap, subst, arith, append_assoc, append-nil}
use Rattle.std.proofs.lemmas.List.{map-append}
use Rattle.sw_parse_grammar.specs.Grammar.{Row, done, then, member}
use Rattle.sw_tree.specs.declared.statement.Statement.{Statement}
use Rattle.sw_parse_terminals.specs.declared.terminal.Terminal.TheVariants as terminals
use Rattle.sw_parse_terminals.specs.Numbers.{just}
use Rattle.sw_parse_table.specs.declared.source.Source.{Source}
use Rattle.sw_parse_table.specs.Parts.{Part, Blocks, States, statements_of}
use Rattle.sw_parse_table.specs.Statements.{block, statement}
use Rattle.sw_parse_table.proofs.Decided.{fit}
use Rattle.sw_convert_alike.specs.Statements.{LikeBlock}
use Rattle.sw_convert_alike.specs.Statements as alike
use Rattle.sw_convert_again.specs.Tokens.{Tok, sign}
use Rattle.sw_convert_again.specs.Spells.{within}
use Rattle.sw_convert_again.specs.Again.{Reads}
use Rattle.sw_convert_again.specs.Statements.{SpellsStatements, SpellsBlock, no_statements, lone_semicolon, more_statements, braces}
use Rattle.sw_convert_again.specs.Claims.{IsListAgain, StatementsAgain, BlocksAgain, SheetsAgain}
use Rattle.sw_convert_again.proofs.Tokens.{old_of, is_of, split}
use Rattle.sw_convert_again.proofs.Whole.{sheets}

-- ---- lists one behind the other

rows_both : {R : ℕ → ℕ → List Part → Type 0} {s e t : ℕ} {w more : List Part} → Row R s e w → Row R e t more
    → Row R s t (w ++ more)
rows_both done rest = rest
rows_both {R} {s} {e} {t} {w} {more} (then {i} {k} {j} {u} {v} d row) rest =
    subst (Row R s t) (sym (append_assoc u v more)) (then d (rows_both row rest))

alike_both : {xs ys vs ws : List Statement} → LikeBlock xs ys → LikeBlock vs ws → LikeBlock (xs ++ vs) (ys ++ ws)
alike_both alike.no_statements more = more
alike_both (alike.statement l ls) more = alike.statement l (alike_both ls more)

spells_both : {source : Source} {at middle to : ℕ} {xs ys : List Statement} {these those : List Tok}
    → SpellsStatements source at middle xs these → SpellsStatements source middle to ys those
    → SpellsStatements source at to (xs ++ ys) (these ++ those)
spells_both no_statements more = more
spells_both (lone_semicolon old s) more = lone_semicolon old (spells_both s more)
spells_both {source} {at} {middle} {to} {xs} {ys} {these} {those}
    (more_statements {i} {k} {j} {one} {list} {tokens} {others} s ss) more =
    subst (SpellsStatements source at to (one ∷ (list ++ ys))) (sym (append_assoc tokens others those))
    (more_statements s (spells_both ss more))

listed : (list : List Statement) → statements_of (map States list) ≡ list
listed [] = refl
listed (one ∷ list) = ap (λ (x : List Statement). one ∷ x) (listed list)

module _ (source written : Source) (n : ℕ) (each : StatementsAgain source written n) where
  pub rows_again : {i j : ℕ} {w : List Part} → Row (Reads source n (statement source)) i j w
      → IsListAgain source written n i j w
  rows_again (done {i}) = record {
    list = [];
    is = refl;
    tokens = [];
    spells = no_statements;
    back = λ p q e. (
      [],
      subst (λ (x : ℕ). Row (Reads written n (statement written)) p x []) e done,
      alike.no_statements,
    );
  }
  rows_again (then {i} {k} {j} {u} {v} d row) =
      let one = each i k u d in
      let rest = rows_again row in record {
        list = one.list ++ rest.list;
        is = ap (λ (x : List Part). x ++ v) one.is ∙ ap (λ (x : List Part). map States one.list ++ x) rest.is
            ∙ sym (map-append States one.list rest.list);
        tokens = one.tokens ++ rest.tokens;
        spells = spells_both one.spells rest.spells;
        back = λ p q stand.
            let (place, left, right) = split written q one.tokens rest.tokens p stand in
            let (f, reads, same) = one.back p place left in
            let (g, others, more) = rest.back place q right in (
              f ++ g,
              subst (λ (x : List Part). Row (Reads written n (statement written)) p q x) (sym (map-append States f g))
                  (rows_both reads others),
              alike_both same more,
            );
      }

pub blocks_again : (source written : Source) (n : ℕ) → ((m : ℕ) → n ≡ suc m → StatementsAgain source written m)
    → BlocksAgain source written n
unfolding block
blocks_again source written zero each i j w (u, (m1, c, d, m2, e1), e2) = absurd d
blocks_again source written (suc n) each i j w (u, (m1, c, d, m2, e1), e2) =
    let all = rows_again source written n (each n refl) d in
    let tokens = within (sign terminals.Open) all.tokens terminals.Close in record {
      list = all.list;
      is = e2 ∙ ap (λ (x : List Part). Blocks (statements_of x) ∷ []) all.is
          ∙ ap (λ (x : List Statement). Blocks x ∷ []) (listed all.list);
      tokens = tokens;
      spells = subst (λ (x : ℕ). SpellsBlock source i x all.list tokens) (sym e1)
          (braces (old_of source i (just terminals.Open) refl m1) all.spells
          (old_of source c (just terminals.Close) refl m2));
      back = λ p q stand.
          let (place, left, right) = split written q all.tokens (sign terminals.Close ∷ []) (suc p) stand.1 in
          let (found, rows, same) = all.back (suc p) place left in (
            found,
            (
              map States found,
              (
                is_of written p (sign terminals.Open) (just terminals.Open) stand.0 refl,
                place,
                rows,
                is_of written place (sign terminals.Close) (just terminals.Close) right.0 refl,
                sym right.1,
              ),
              ap (λ (x : List Statement). Blocks x ∷ []) (sym (listed found)),
            ),
            same,
          );
    }

pub sheets_again : SheetsAgain
sheets_again source written levels each parts (k, u, v, row, (m, e1, e2), e3) =
    let all = rows_again source written levels each row in
    let end = length written.lexemes.now in record {
      list = all.list;
      is = e3 ∙ ap (λ (x : List Part). u ++ x) e2 ∙ append-nil u ∙ all.is;
      tokens = all.tokens;
      spells = subst (λ (x : ℕ). SpellsStatements source 0 x all.list all.tokens) (sym e1) all.spells;
      back = λ stand.
          let (found, rows, same) = all.back 0 end stand in (
            found,
            sheets written levels (map States found) (
              end,
              map States found,
              [],
              rows,
              (
                ap (λ (x : ℕ). member x (0 ∷ [])) ((fit written).past end (let l : end ≤ end = omega arith in l)),
                refl,
                refl,
              ),
              sym (append-nil (map States found)),
            ),
            same,
          );
    }
