-- Strings with `#{}` are read again.
use Rattle.std.proofs.Common.{◌≡◌, ℕ, zero, suc, Bool, true, false, List, [], ◌∷◌, ◌++◌, map, inl, inr, refl, sym, ◌∙◌, ap, subst}
use Rattle.sw_parse_grammar.specs.Grammar.{Row, done, then}
use Rattle.sw_tree.specs.declared.text.Parts.TheVariants.{Mixed}
use Rattle.sw_tree.specs.declared.text.Piece.{Piece}
use Rattle.sw_tree.specs.declared.text.Piece.TheVariants as pieces
use Rattle.sw_tree.specs.declared.expr.Expr.{Expr}
use Rattle.sw_tree.specs.declared.expr.ExprKind.TheVariants as exprs
use Rattle.sw_parse_terminals.specs.declared.terminal.Terminal.TheVariants as terminals
use Rattle.sw_parse_terminals.specs.Numbers.{just}
use Rattle.sw_parse_table.specs.declared.source.Source.{Source}
use Rattle.sw_parse_table.specs.Parts.{Part, Inserts, Pieces, Values, pieces_of}
use Rattle.sw_parse_table.specs.Sources.{span_between, decoded_at}
use Rattle.sw_parse_table.specs.Values.{expression, value_of, to_insert, inserted_piece}
use Rattle.sw_parse_table.specs.Expressions.{insert, text_item, template, expr}
use Rattle.sw_convert_alike.specs.Expressions.{Like, LikePieces, like}
use Rattle.sw_convert_alike.specs.Expressions as alike
use Rattle.sw_convert_again.specs.Tokens.{Tok, tok, sign, Decoded, Stands, Old}
use Rattle.sw_convert_again.specs.Spells.{is_empty, Spells, SpellsPieces, no_pieces, text_piece, empty_piece, within}
use Rattle.sw_convert_again.specs.Spells as spells
use Rattle.sw_convert_again.specs.Again.{Reads, Again}
use Rattle.sw_convert_again.proofs.Tokens.{old_of, is_of, split, stands_both}

texts_listed : (texts : List Piece) → pieces_of (map Pieces texts ++ []) ≡ texts
texts_listed [] = refl
texts_listed (t ∷ texts) = ap (λ (x : List Piece). t ∷ x) (texts_listed texts)

module _ (source written : Source) where
  -- a value in `#{}`
  record InsertAgain (n : ℕ) (i j : ℕ) (w : List Part) : Type 0 where
    value : Expr
    is : w ≡ Inserts i j value ∷ []
    tokens : List Tok
    place : ℕ
    end : j ≡ suc place
    opened : Old source i (just terminals.Insert)
    closed : Old source place (just terminals.InsertEnd)
    spells : Spells source (suc i) place value tokens
    back : (p q : ℕ) → Stands written p (within (sign terminals.Insert) tokens terminals.InsertEnd) q
        → (found : Expr) × Reads written n (insert written) p q (Inserts p q found ∷ []) × Like value found

  insert_again : (n : ℕ) → ((m : ℕ) → n ≡ suc m → Again source written m expr) → (i j : ℕ) (w : List Part)
      → Reads source n (insert source) i j w → InsertAgain n i j w
  unfolding insert
  insert_again zero deep i j w (u, (m1, k, d, m2, e1), e2) = absurd d
  insert_again (suc n) deep i j w (u, (m1, k, d, m2, e1), e2) =
      let one = deep n refl (suc i) k u d in record {
        value = one.value;
        is = e2 ∙ ap (to_insert source i j) one.is;
        tokens = one.tokens;
        place = k;
        end = e1;
        opened = old_of source i (just terminals.Insert) refl m1;
        closed = old_of source k (just terminals.InsertEnd) refl m2;
        spells = one.spells;
        back = λ p q stand.
            let (place, left, right) = split written q one.tokens (sign terminals.InsertEnd ∷ []) (suc p) stand.1 in
            let f = one.back (suc p) place left in (
              f.found,
              (
                Values f.found ∷ [],
                (
                  is_of written p (sign terminals.Insert) (just terminals.Insert) stand.0 refl,
                  place,
                  f.reads,
                  is_of written place (sign terminals.InsertEnd) (just terminals.InsertEnd) right.0 refl,
                  sym right.1,
                ),
                refl,
              ),
              f.alike,
            );
      }

  module _ (n : ℕ) (deep : (m : ℕ) → n ≡ suc m → Again source written m expr) where
    record PiecesAgain (i j : ℕ) (w : List Part) : Type 0 where
      texts : List Piece
      is : w ≡ map Pieces texts
      tokens : List Tok
      spells : SpellsPieces source i j texts tokens
      back : (p q : ℕ) → Stands written p tokens q
          → (found : List Piece) × Row (Reads written n (text_item written)) p q (map Pieces found) × LikePieces
          texts found

    like_text : (a b : List ℕ) (xs ys : List Piece) → a ≡ b → LikePieces xs ys
        → LikePieces (pieces.Text a ∷ xs) (pieces.Text b ∷ ys)
    like_text a b xs ys e l =
        subst (λ (x : List ℕ). LikePieces (pieces.Text a ∷ xs) (pieces.Text x ∷ ys)) e (alike.text l)

    empty_like : (a : List ℕ) {xs ys : List Piece} → is_empty a ≡ true → LikePieces xs ys
        → LikePieces (pieces.Text a ∷ xs) ys
    empty_like [] e l = alike.empty_left l
    empty_like (b ∷ a) e l = absurd (cc)

    -- a text before others, which is empty or not
    text_again : (i j : ℕ) (w : List Part) (texts : List Piece) (tokens : List Tok)
        → Old source i (just terminals.TextPiece) → w ≡ map Pieces (pieces.Text (decoded_at source i) ∷ texts)
        → SpellsPieces source (suc i) j texts tokens
        → ((p q : ℕ) → Stands written p tokens q
        → (found : List Piece) × Row (Reads written n (text_item written)) p q (map Pieces found) × LikePieces texts found)
        → (t : Bool) → is_empty (decoded_at source i) ≡ t → PiecesAgain i j w
    unfolding text_item
    text_again i j w texts tokens old is spells back true e =
        let text = decoded_at source i in record {
          texts = pieces.Text text ∷ texts;
          is = is;
          tokens = tokens;
          spells = empty_piece old e spells;
          back = λ p q stand.
              let (found, reads, liked) = back p q stand in (found, reads, empty_like text e liked);
        }
    text_again i j w texts tokens old is spells back false e =
        let text = decoded_at source i in
        let token = tok terminals.TextPiece (Decoded text) in record {
          texts = pieces.Text text ∷ texts;
          is = is;
          tokens = token ∷ tokens;
          spells = text_piece old e spells;
          back = λ p q stand.
              let (found, reads, liked) = back (suc p) q stand.1 in (
                pieces.Text (decoded_at written p) ∷ found,
                then (inl ([], (is_of written p token (just terminals.TextPiece) stand.0 refl, refl, refl), refl))
                    reads,
                like_text text (decoded_at written p) texts found (sym stand.0.said) liked,
              );
        }

    pieces_again : {i j : ℕ} {w : List Part} → Row (Reads source n (text_item source)) i j w → PiecesAgain i j w
    unfolding text_item
    pieces_again (done {i}) = record {
      texts = [];
      is = refl;
      tokens = [];
      spells = no_pieces;
      back = λ p q e. ([], subst (λ (x : ℕ). Row (Reads written n (text_item written)) p x []) e done, alike.no_pieces);
    }
    pieces_again (then {i} {k} {j} {u} {v} (inl (a, (m, e1, e2), e3)) row) =
        let rest = pieces_again row in
        let text = decoded_at source i in
        text_again i j (u ++ v) rest.texts rest.tokens (old_of source i (just terminals.TextPiece) refl m)
        (ap (λ (x : List Part). x ++ v) e3 ∙ ap (λ (x : List Part). Pieces (pieces.Text text) ∷ x) rest.is)
        (subst (λ (x : ℕ). SpellsPieces source x j rest.texts rest.tokens) e1 rest.spells) rest.back (is_empty text) refl
    pieces_again (then {i} {k} {j} {u} {v} (inr (a, d, e1)) row) =
        let one = insert_again n deep i k a d in
        let rest = pieces_again row in record {
          texts = pieces.Inserted one.value ∷ rest.texts;
          is = ap (λ (x : List Part). x ++ v) (e1 ∙ ap inserted_piece one.is)
              ∙ ap (λ (x : List Part). Pieces (pieces.Inserted one.value) ∷ x) rest.is;
          tokens = sign terminals.Insert ∷ (one.tokens ++ sign terminals.InsertEnd ∷ rest.tokens);
          spells = spells.inserted_piece one.opened one.spells one.closed
              (subst (λ (x : ℕ). SpellsPieces source x j rest.texts rest.tokens) one.end rest.spells);
          back = λ p q stand.
              let (place, left, right) = split written q one.tokens (sign terminals.InsertEnd ∷ rest.tokens) (suc p)
              stand.1 in
              let (value, inserts, liked) = one.back p (suc place) (
                stand.0,
                stands_both written place (suc place) one.tokens (sign terminals.InsertEnd ∷ []) (suc p) left
                    (right.0, refl),
              ) in
              let (found, reads, others) = rest.back (suc place) q right.1 in (
                pieces.Inserted value ∷ found,
                then (inr (Inserts p (suc place) value ∷ [], inserts, refl)) reads,
                alike.inserted liked others,
              );
        }

    pub template_again : Again source written n template
    unfolding template
    template_again i j w (u, (k0, u1, u2, (m1, e1, e2), (k, v1, v2, row, (m2, e3, e4), e5), e6), e7) =
        let rest = pieces_again row in
        let span = span_between source i j in
        let opened = old_of source i (just terminals.Template) refl m1 in
        let closed = old_of source k (just terminals.TemplateEnd) refl m2 in
        let tokens = within (sign terminals.Template) rest.tokens terminals.TemplateEnd in
        let parts : u ≡ map Pieces rest.texts ++ [] =
        e6 ∙ ap (λ (x : List Part). x ++ u2) e2 ∙ e5 ∙ ap (λ (x : List Part). x ++ v2) rest.is
        ∙ ap (λ (x : List Part). map Pieces rest.texts ++ x) e4 in record {
          value = expression (exprs.Quoted (Mixed rest.texts)) span;
          is = e7 ∙ ap (λ (x : List Part). value_of (exprs.Quoted (Mixed (pieces_of x))) span) parts
              ∙ ap (λ (x : List Piece). value_of (exprs.Quoted (Mixed x)) span) (texts_listed rest.texts);
          tokens = tokens;
          spells = subst (λ (x : ℕ). Spells source i x (expression (exprs.Quoted (Mixed rest.texts)) span) tokens)
              (sym e3)
              (spells.template span opened
              (subst (λ (x : ℕ). SpellsPieces source x k rest.texts rest.tokens) e1 rest.spells) closed);
          begins = refl;
          back = λ p q stand.
              let (place, left, right) = split written q rest.tokens (sign terminals.TemplateEnd ∷ []) (suc p)
              stand.1 in
              let (found, reads, liked) = rest.back (suc p) place left in record {
                found = expression (exprs.Quoted (Mixed found)) (span_between written p q);
                reads = (
                  map Pieces found ++ [],
                  (
                    suc p,
                    [],
                    map Pieces found ++ [],
                    (is_of written p (sign terminals.Template) (just terminals.Template) stand.0 refl, refl, refl),
                    (
                      place,
                      map Pieces found,
                      [],
                      reads,
                      (
                        is_of written place (sign terminals.TemplateEnd) (just terminals.TemplateEnd) right.0 refl,
                        sym right.1,
                        refl,
                      ),
                      refl,
                    ),
                    refl,
                  ),
                  sym (ap (λ (x : List Piece). value_of (exprs.Quoted (Mixed x)) (span_between written p q))
                      (texts_listed found)),
                );
                alike = like (alike.quoted (alike.mixed liked));
              };
        }
