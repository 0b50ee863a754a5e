-- Values in a loud comment that was written in lines are read again, with the text of these lines around them.
use Rattle.std.proofs.Common.{◌≡◌, ◌⊎◌, ℕ, suc, ◌+◌, ◌-◌, true, List, [], ◌∷◌, ◌++◌, length, inl, inr, refl, sym, ◌∙◌, ap, subst, arith, append-nil}
use Rattle.sw_parse_grammar.specs.Grammar.{Row, done, then, member}
use Rattle.sw_tree.specs.declared.text.Parts.TheVariants.{Mixed}
use Rattle.sw_tree.specs.declared.text.Piece.{Piece}
use Rattle.sw_parse_terminals.specs.declared.terminal.Terminal.TheVariants as terminals
use Rattle.sw_parse_terminals.specs.Numbers.{just}
use Rattle.sw_parse_table.specs.declared.source.Source.{Source}
use Rattle.sw_parse_table.specs.Parts.{Part, Inserts}
use Rattle.sw_parse_table.specs.Sources.{Texts, terminal_at, to_at, text_piece, text_pieces, pieces_from, parts_from}
use Rattle.sw_parse_table.specs.Lined.{lines, lined_pieces}
use Rattle.sw_convert_alike.specs.Expressions.{LikePieces, LikeParts}
use Rattle.sw_convert_alike.specs.Expressions as alike
use Rattle.sw_convert_again.specs.Tokens.{Between, Behind, text_up_to, text_to_end, Tok, tok, sign, Stands}
use Rattle.sw_convert_again.specs.Again.{Reads}
use Rattle.sw_convert_again.specs.Comments.{lone, text_tokens, before_closing, closed_text, SpellsLines, last_value, next_value}
use Rattle.sw_convert_again.proofs.Tokens.{is_of, split}
use Rattle.sw_convert_again.proofs.Rows.{till, row_item, InsertAgain, insert_again}
use Rattle.sw_convert_again.proofs.Extents.{tokens_long}
use Rattle.sw_convert_again.proofs.Values.{values_again}

-- one text, and what stands behind it
lone_then : (text : List ℕ) (a : Texts) (xs ys : List Piece) → a ≡ lone text → LikePieces xs ys
    → LikePieces (text_piece text ++ xs) (text_pieces a ++ ys)
lone_then text a xs ys e l =
    subst (λ (x : Texts). LikePieces (text_piece text ++ xs) (text_pieces x ++ ys)) (sym e) (go text)
  where
    go : (text : List ℕ) → LikePieces (text_piece text ++ xs) ((text_piece text ++ []) ++ ys)
    go [] = l
    go (b ∷ text) = alike.text l

lone_alone : (text : List ℕ) (a : Texts) → a ≡ lone text → LikePieces (text_piece text) (text_pieces a)
lone_alone text a e = subst (λ (x : Texts). LikePieces (text_piece text) (text_pieces x)) (sym e) (go text)
  where
    go : (text : List ℕ) → LikePieces (text_piece text) (text_piece text ++ [])
    go [] = alike.no_pieces
    go (b ∷ text) = alike.text alike.no_pieces

module _ (source written : Source) (n : ℕ) where
  abbrev pub Items : ℕ → ℕ → List Part → Type 0
  Items = Row (Reads written n (row_item written terminals.Piece terminals.Insert))

  -- a token of text in a comment, where there is one
  pub text_row : (text : List ℕ) (p place q : ℕ) (found : List Part) → Stands written p (text_tokens text) place
      → Items place q found → Items p q found
  text_row [] p place q found e row = subst (λ (x : ℕ). Items x q found) (sym e) row
  text_row (b ∷ text) p place q found (is, e) row =
      then (inl (is_of written p (sign terminals.Piece) (just terminals.Piece) is refl, refl, refl))
      (subst (λ (x : ℕ). Items x q found) (sym e) row)

  module _ (at to : ℕ) where
    -- values in the text that is written, up to the end of the comment
    pub record LinesFound (i : ℕ) (w : List Part) (p q : ℕ) : Type 0 where
      pub stop : ℕ
      pub end : q ≡ suc stop
      pub closed : member (terminal_at written stop) (just terminals.CommentEnd) ≡ true
      pub found : List Part
      pub reads : Items p stop found
      pub pieces : (place from first : ℕ) → text_up_to written from first p ≡ lone (lines source at place i)
          → LikePieces (lined_pieces source at place to w) (pieces_from written (till written q from first) found)
      pub parts : (place from first : ℕ) → text_up_to written from first p ≡ lone (lines source at place i)
          → LikeParts (Mixed (lined_pieces source at place to w))
          (parts_from written (till written q from first) found)

    pub record LinesAgain (i : ℕ) (w : List Part) : Type 0 where
      pub tokens : List Tok
      pub spells : SpellsLines source at to i w tokens
      pub back : (p q : ℕ) → Stands written p tokens q → LinesFound i w p q

    -- no value, or a first one at a place
    abbrev pub LinesRead : List Part → Type 0
    LinesRead w = (w ≡ []) ⊎ ((k : ℕ) × LinesAgain k w)

    last_again : (i k : ℕ) (u : List Part) → InsertAgain source written n terminals.Insert i k u → LinesAgain i u
    last_again i k u one =
        let text = lines source at (suc one.c) to in
        let others = closed_text text in
        let close = tok terminals.InsertEnd (Behind (suc (length others)) (lone text)) in
        let tail = close ∷ (others ++ sign terminals.CommentEnd ∷ []) in
        subst (LinesAgain i) (sym one.is) (record {
          tokens = sign terminals.Insert ∷ (one.tokens ++ tail);
          spells = last_value one.opened one.spells one.closed;
          back = λ p q stand.
              let (place, left, right) = split written q one.tokens tail (suc p) stand.1 in
              let (f, reads, liked) = one.back p place left
              (is_of written p (sign terminals.Insert) (just terminals.Insert) stand.0 refl)
              (is_of written place close (just terminals.InsertEnd) right.0 refl) in
              let (stop, between, last) = split written q others (sign terminals.CommentEnd ∷ []) (suc place) right.1 in
              let long = tokens_long written others (suc place) stop between in
              let says : text_to_end written (to_at written (suc place - 1)) (suc place - 1) q ≡ lone text =
              ap (text_to_end written (to_at written (suc place - 1)) (suc place - 1))
              (let z : q ≡ suc place + suc (length others) = omega (arith, long, last.1) in z) ∙ right.0.said in
              let value = Inserts p (suc place) f in record {
                stop = stop;
                end = sym last.1;
                closed = is_of written stop (sign terminals.CommentEnd) (just terminals.CommentEnd) last.0 refl;
                found = value ∷ [];
                reads = then (inr reads) (text_row_of text (suc place) stop between);
                pieces = λ from_place from first same. lone_then _ _ _ _ same
                    (alike.inserted liked (lone_alone text _ says));
                parts = λ from_place from first same. alike.mixed (lone_then _ _ _ _ same
                    (alike.inserted liked (lone_alone text _ says)));
              };
        })
      where
        text_row_of : (text : List ℕ) (p place : ℕ) → Stands written p (closed_text text) place → Items p place []
        text_row_of text p place stand = text_row (before_closing text) p place place [] stand done

    next_again : (i k next : ℕ) (u v : List Part) → InsertAgain source written n terminals.Insert i k u
        → LinesAgain next v → LinesAgain i (u ++ v)
    next_again i k next u v one rest =
        let text = lines source at (suc one.c) next in
        let others = text_tokens text in
        let close = tok terminals.InsertEnd (Between (length others) (lone text)) in
        let tail = close ∷ (others ++ rest.tokens) in
        subst (λ (x : List Part). LinesAgain i (x ++ v)) (sym one.is) (record {
          tokens = sign terminals.Insert ∷ (one.tokens ++ tail);
          spells = next_value one.opened one.spells one.closed rest.spells;
          back = λ p q stand.
              let (place, left, right) = split written q one.tokens tail (suc p) stand.1 in
              let (f, reads, liked) = one.back p place left
              (is_of written p (sign terminals.Insert) (just terminals.Insert) stand.0 refl)
              (is_of written place close (just terminals.InsertEnd) right.0 refl) in
              let (place2, between, last) = split written q others rest.tokens (suc place) right.1 in
              let long = tokens_long written others (suc place) place2 between in
              let says : text_up_to written (to_at written (suc place - 1)) (suc place - 1) place2 ≡ lone text =
              ap (text_up_to written (to_at written (suc place - 1)) (suc place - 1)) long ∙ right.0.said in
              let r = rest.back place2 q last in
              let value = Inserts p (suc place) f in record {
                stop = r.stop;
                end = r.end;
                closed = r.closed;
                found = value ∷ r.found;
                reads = then (inr reads) (text_row text (suc place) place2 r.stop r.found between r.reads);
                pieces = λ from_place from first same. lone_then _ _ _ _ same
                    (alike.inserted liked (r.pieces (suc one.c) _ _ says));
                parts = λ from_place from first same. alike.mixed (lone_then _ _ _ _ same
                    (alike.inserted liked (r.pieces (suc one.c) _ _ says)));
              };
        })

    pub lines_again : {s j : ℕ} {w : List Part}
        → Row (Reads source n (row_item source terminals.Piece terminals.Insert)) s j w → LinesRead w
    lines_again done = inl refl
    lines_again (then {i} {k} {j} {u} {v} (inl (m, e1, e2)) row) =
        subst (λ (x : List Part). LinesRead (x ++ v)) (sym e2) (lines_again row)
    lines_again (then {i} {k} {j} {u} {v} (inr d) row) =
        inr (i, go (lines_again row))
      where
        one : InsertAgain source written n terminals.Insert i k u
        one = insert_again source written n (λ m e. values_again source written m) terminals.Insert refl i k u d

        go : LinesRead v → LinesAgain i (u ++ v)
        go (inl e) =
            subst (LinesAgain i) (sym (ap (λ (x : List Part). u ++ x) e ∙ append-nil u)) (last_again i k u one)
        go (inr (next, rest)) = next_again i k next u v one rest
