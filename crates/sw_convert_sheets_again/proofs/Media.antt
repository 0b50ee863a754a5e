-- `@media` is read again, with its queries.
use Rattle.std.proofs.Common.{◌≡◌, ℕ, suc, List, [], ◌∷◌, ◌++◌, map, refl, sym, ◌∙◌, ap, subst}
use Rattle.sw_tree.specs.declared.statement.Media.{Media}
use Rattle.sw_tree.specs.declared.statement.Statement.TheVariants as statements
use Rattle.sw_tree.specs.declared.text.Piece.{Piece}
use Rattle.sw_parse_terminals.specs.declared.terminal.Terminal.TheVariants as terminals
use Rattle.sw_parse_terminals.specs.Numbers.{just}
use Rattle.sw_parse_table.specs.declared.source.Source.{Source}
use Rattle.sw_parse_table.specs.Parts.{Part, Behind, Blocks, Texts, Pieces, pieces_of}
use Rattle.sw_parse_table.specs.Sources.{span_between}
use Rattle.sw_parse_table.specs.Actions.{to_behind, to_media}
use Rattle.sw_parse_table.specs.Queries.{to_queries, queries}
use Rattle.sw_parse_table.specs.Statements.{media}
use Rattle.sw_convert_alike.specs.Expressions as alike_expressions
use Rattle.sw_convert_alike.specs.Statements as alike
use Rattle.sw_convert_again.specs.Tokens.{sign}
use Rattle.sw_convert_again.specs.Again.{Reads}
use Rattle.sw_convert_again.specs.Statements.{media_block}
use Rattle.sw_convert_again.specs.Claims.{StatementAgain, BlocksAgain}
use Rattle.sw_convert_again.proofs.Tokens.{old_of, is_of, split}
use Rattle.sw_convert_sheets_again.specs.Claims.{queried, QueriesAgain}
use Rattle.sw_convert_sheets_again.proofs.Queries.{list_again}

listed : (list : List Piece) → pieces_of (map Pieces list) ≡ list
listed [] = refl
listed (piece ∷ list) = ap (λ (x : List Piece). piece ∷ x) (listed list)

pub queries_again : (source written : Source) (n : ℕ) → QueriesAgain source written n
unfolding queries
queries_again source written n i j w (u, d, e) =
    let one = list_again source written n i j u d in record {
      list = one.list;
      is = e ∙ ap (to_queries source i j) one.is
          ∙ ap (λ (x : List Piece). Texts (queried x (span_between source i j)) ∷ []) (listed one.list);
      tokens = one.tokens;
      spells = one.spells;
      back = λ p q stand. let (f, reads, like) = one.back p q stand in (
        f,
        (
          map Pieces f,
          reads,
          ap (λ (x : List Piece). Texts (queried x (span_between written p q)) ∷ []) (sym (listed f)),
        ),
        like,
      );
    }

pub media_again : (source written : Source) (n : ℕ) → BlocksAgain source written n
    → StatementAgain source written n media
unfolding media
media_again source written n blocks i j w (u, (k, u1, u2, (x, (k1, x1, x2, (m, e1, e2), d, e3), e4), b, e5), e6) =
    let one = queries_again source written n (suc i) k x2
    (subst (λ (y : ℕ). Reads source n (queries source) y k x2) e1 d) in
    let inner = blocks k j u2 b in
    let span = span_between source i k in
    let text = queried one.list (span_between source (suc i) k) in
    let head : x ≡ Texts text ∷ [] = e3 ∙ ap (λ (y : List Part). y ++ x2) e2 ∙ one.is in
    let parts : u ≡ Texts text ∷ Behind k ∷ Blocks inner.list ∷ [] =
    e5 ∙ ap (λ (y : List Part). y ++ u2) (e4 ∙ ap (to_behind i k) head)
    ∙ ap (λ (y : List Part). Texts text ∷ Behind k ∷ y) inner.is in
    let it : Media = record { queries = text; block = inner.list; span = span } in record {
      statement = statements.Media it;
      is = e6 ∙ ap (to_media source i j) parts;
      tokens = sign terminals.AtMedia ∷ (one.tokens ++ inner.tokens);
      spells = media_block span (span_between source (suc i) k) (old_of source i (just terminals.AtMedia) refl m)
          one.spells inner.spells;
      back = λ p q stand.
          let (place, left, right) = split written q one.tokens inner.tokens (suc p) stand.1 in
          let (f, reads_head, like) = one.back (suc p) place left in
          let (found, reads, same) = inner.back place q right in
          let there = queried f (span_between written (suc p) place) in
          let other : Media = record { queries = there; block = found; span = span_between written p place } in record {
            found = statements.Media other;
            reads = (
              Texts there ∷ Behind place ∷ Blocks found ∷ [],
              (
                place,
                Texts there ∷ Behind place ∷ [],
                Blocks found ∷ [],
                (
                  Texts there ∷ [],
                  (
                    suc p,
                    [],
                    Texts there ∷ [],
                    (is_of written p (sign terminals.AtMedia) (just terminals.AtMedia) stand.0 refl, refl, refl),
                    reads_head,
                    refl,
                  ),
                  refl,
                ),
                reads,
                refl,
              ),
              refl,
            );
            alike = alike.media it other (alike_expressions.mixed like) same;
          };
    }
