-- What a text goes on with is read again: tokens of it, and values that are inserted in it.
use Rattle.std.proofs.Common.{◌≡◌, ℕ, zero, suc, ◌+◌, ◌-◌, true, false, List, [], ◌∷◌, ◌++◌, inl, inr, refl, sym, ◌∙◌, ap, subst, arith}
use Rattle.sw_parse_grammar.specs.Grammar.{Grammar, skip, alt, group, build, member, Row, done, then}
use Rattle.sw_tree.specs.declared.text.Piece.{Piece}
use Rattle.sw_tree.specs.declared.expr.Expr.{Expr}
use Rattle.sw_parse_terminals.specs.declared.terminal.Terminal.{Terminal}
use Rattle.sw_parse_terminals.specs.declared.terminal.Terminal.TheVariants as terminals
use Rattle.sw_parse_terminals.specs.Numbers.{just}
use Rattle.sw_parse_table.specs.declared.source.Source.{Source}
use Rattle.sw_parse_table.specs.declared.gap.Stretch.{Stretch}
use Rattle.sw_parse_table.specs.Parts.{Part, Form, Value, Inserts, Values}
use Rattle.sw_parse_table.specs.Sources.{Texts, terminal_at, from_at, to_at, pieces_in, plain_parts, text_pieces, pieces_from, parts_from}
use Rattle.sw_parse_table.specs.Values.{to_insert}
use Rattle.sw_parse_table.specs.Expressions.{expr}
use Rattle.sw_convert_alike.specs.Expressions.{Like, LikeParts, LikePieces}
use Rattle.sw_convert_alike.specs.Expressions as alike
use Rattle.sw_convert_again.specs.Tokens.{text_up_to, text_to_end, Tok, tok, sign, Says, Stands, Old}
use Rattle.sw_convert_again.specs.Spells.{Spells, SpellsRow, row_end, row_part, row_insert, behind_insert, from_start}
use Rattle.sw_convert_again.specs.Again.{Reads, Again}
use Rattle.sw_convert_again.proofs.Tokens.{fits, old_of, is_of, split}
use Rattle.sw_convert_again.proofs.Leaves.{pieces_self, plain_self}

-- texts are alike where they are the same
pub same_text : (a b : Texts) → a ≡ b → LikePieces (text_pieces a) (text_pieces b)
same_text a b e =
    subst (λ (x : Texts). LikePieces (text_pieces a) (text_pieces x)) e (pieces_self (a.first ∷ a.rest))

pub same_plain : (a b : Texts) → a ≡ b → LikeParts (plain_parts a) (plain_parts b)
same_plain a b e = subst (λ (x : Texts). LikeParts (plain_parts a) (plain_parts x)) e (plain_self a.first a.rest)

pub texts_then : (texts : List (List ℕ)) (xs ys : List Piece) → LikePieces xs ys
    → LikePieces (pieces_in texts ++ xs) (pieces_in texts ++ ys)
texts_then [] xs ys l = l
texts_then ([] ∷ texts) xs ys l = texts_then texts xs ys l
texts_then ((b ∷ bytes) ∷ texts) xs ys l = alike.text (texts_then texts xs ys l)

pub text_then : (a b : Texts) (xs ys : List Piece) → a ≡ b → LikePieces xs ys
    → LikePieces (text_pieces a ++ xs) (text_pieces b ++ ys)
text_then a b xs ys e l =
    subst (λ (x : Texts). LikePieces (text_pieces a ++ xs) (text_pieces x ++ ys)) e
    (texts_then (a.first ∷ a.rest) xs ys l)

-- from an offset and a token on, up to the one before a place
abbrev pub till : Source → ℕ → ℕ → ℕ → Stretch
till source stop from first =
    record { from = from; to = to_at source (stop - 1); first = first; end = stop - 1 }

-- tokens of a terminal aren't past the end
pub record Plainly (terminal : Terminal) : Type 0 where
  pub here : member 0 (just terminal) ≡ false
  pub own : fits (terminal ∷ []) (just terminal) ≡ true

-- a value in `#{}`
abbrev pub inserting : Source → Terminal → Grammar Part Form
inserting source opening = build (to_insert source) (group (just opening) Value (just terminals.InsertEnd))

-- what a text goes on with: a token of it, or a value in `#{}`
abbrev pub row_item : Source → Terminal → Terminal → Grammar Part Form
row_item source part opening = alt (skip (just part)) (inserting source opening)

module _ (source written : Source) where
  -- the text before the first value that is inserted, or all of it, is the same
  abbrev pub FirstSame : List Part → ℕ → ℕ → ℕ → ℕ → ℕ → ℕ → Type 0
  FirstSame [] stop stop' from first from' first' =
      text_to_end source from first stop ≡ text_to_end written from' first' stop'
  FirstSame (insert ∷ inserts) stop stop' from first from' first' =
      text_up_to source from first stop ≡ text_up_to written from' first' stop'

  abbrev Is : ℕ → Grammar Part Form → ℕ → ℕ → List Part → Type 0
  Is n g = Reads written n g

  -- what a text goes on with, between two places of the text that is written, and the text ends behind it
  pub record RowFound (part opening : Terminal) (ends : ℕ → ℕ) (n : ℕ) (w : List Part) (j stop count p q : ℕ)
      : Type 0 where
    pub found : List Part
    pub reads : Row (Is n (row_item written part opening)) p q found
    pub stop' : ℕ
    pub at : stop' ≡ p + count
    pub pieces : (from first from' first' : ℕ) → FirstSame w stop stop' from first from' first'
        → LikePieces (pieces_from source (till source (ends j) from first) w)
        (pieces_from written (till written (ends q) from' first') found)
    pub parts : (from first from' first' : ℕ) → FirstSame w stop stop' from first from' first'
        → LikeParts (parts_from source (till source (ends j) from first) w)
        (parts_from written (till written (ends q) from' first') found)

  pub record RowAgain (part opening : Terminal) (ends : ℕ → ℕ) (extra n s j : ℕ) (w : List Part) : Type 0 where
    pub count : ℕ
    pub stop : ℕ
    pub at : stop ≡ s + count
    pub tokens : List Tok
    pub spells : SpellsRow source part opening extra s j w count tokens
    pub back : (p q : ℕ) → Stands written p tokens q → RowFound part opening ends n w j stop count p q

  pub record InsertAgain (n : ℕ) (opening : Terminal) (i j : ℕ) (w : List Part) : Type 0 where
    pub value : Expr
    pub c : ℕ
    pub end : j ≡ suc c
    pub is : w ≡ Inserts i (suc c) value ∷ []
    pub opened : Old source i (just opening)
    pub closed : Old source c (just terminals.InsertEnd)
    pub tokens : List Tok
    pub spells : Spells source (suc i) c value tokens
    pub back : (p place : ℕ) → Stands written (suc p) tokens place → member (terminal_at written p) (just opening) ≡ true
        → member (terminal_at written place) (just terminals.InsertEnd) ≡ true
        → (found : Expr) × Is n (inserting written opening) p (suc place) (Inserts p (suc place) found ∷ []) × Like
        value found

  pub insert_again : (n : ℕ) → ((m : ℕ) → n ≡ suc m → Again source written m expr) → (opening : Terminal)
      → member 0 (just opening) ≡ false → (i j : ℕ) (w : List Part) → Reads source n (inserting source opening) i j w
      → InsertAgain n opening i j w
  insert_again zero deep opening z i j w (u, (m1, k, d, m2, e1), e2) = absurd d
  insert_again (suc n) deep opening z i j w (u, (m1, k, d, m2, e1), e2) =
      let one = deep n refl (suc i) k u d in record {
        value = one.value;
        c = k;
        end = e1;
        is = e2 ∙ ap (to_insert source i j) one.is ∙ ap (λ (x : ℕ). Inserts i x one.value ∷ []) e1;
        opened = old_of source i (just opening) z m1;
        closed = old_of source k (just terminals.InsertEnd) refl m2;
        tokens = one.tokens;
        spells = one.spells;
        back = λ p place stand first last. let f = one.back (suc p) place stand in (
          f.found,
          (Values f.found ∷ [], (first, place, f.reads, last, refl), refl),
          f.alike,
        );
      }

  -- what a token says of the text behind it
  pub said_behind : (c place stop stop' : ℕ) (v : List Part) (count : ℕ)
      → Says written place (behind_insert source c v count)
      → stop ≡ suc c + count → stop' ≡ suc place + count
      → FirstSame v stop stop' (to_at source (suc c - 1)) (suc c - 1) (to_at written (suc place - 1)) (suc place - 1)
  said_behind c place stop stop' [] count said e e' =
      ap (text_to_end source (to_at source (suc c - 1)) (suc c - 1)) e ∙ sym said
      ∙ ap (text_to_end written (to_at written (suc place - 1)) (suc place - 1)) (sym e')
  said_behind c place stop stop' (x ∷ v) count said e e' =
      ap (text_up_to source (to_at source (suc c - 1)) (suc c - 1)) e ∙ sym said
      ∙ ap (text_up_to written (to_at written (suc place - 1)) (suc place - 1)) (sym e')

  pub said_first : (i p stop stop' : ℕ) (v : List Part) (count : ℕ) → Says written p (from_start source i v count)
      → stop ≡ i + count → stop' ≡ p + count
      → FirstSame v stop stop' (from_at source i) i (from_at written p) p
  said_first i p stop stop' [] count said e e' =
      ap (text_to_end source (from_at source i) i) e ∙ sym said
      ∙ ap (text_to_end written (from_at written p) p) (sym e')
  said_first i p stop stop' (x ∷ v) count said e e' =
      ap (text_up_to source (from_at source i) i) e ∙ sym said ∙ ap (text_up_to written (from_at written p) p) (sym e')

  pub up_to_same : (i p count stop stop' : ℕ) → stop ≡ i + count → stop' ≡ p + count
      → text_up_to written (from_at written p) p (p + count) ≡ text_up_to source (from_at source i) i (i + count)
      → text_up_to source (from_at source i) i stop ≡ text_up_to written (from_at written p) p stop'
  up_to_same i p count stop stop' e e' said =
      ap (text_up_to source (from_at source i) i) e ∙ sym said ∙ ap (text_up_to written (from_at written p) p) (sym e')

  module _ (part opening : Terminal) (a_part : Plainly part) (an_opening : Plainly opening) (ends : ℕ → ℕ) (extra : ℕ)
      (law : (x : ℕ) → ends x ≡ x + extra) (n : ℕ) (deep : (m : ℕ) → n ≡ suc m → Again source written m expr) where
    -- a token before what the text goes on with
    part_before : (i j k : ℕ) (v : List Part) → k ≡ suc i → member (terminal_at source i) (just part) ≡ true
        → RowAgain part opening ends extra n k j v → RowAgain part opening ends extra n i j v
    part_before i j k v e m rest =
        let old = old_of source i (just part) a_part.here m in record {
          count = suc rest.count;
          stop = rest.stop;
          at = omega (arith, rest.at, e);
          tokens = sign part ∷ rest.tokens;
          spells = row_part old (subst (λ (x : ℕ). SpellsRow source part opening extra x j v rest.count rest.tokens) e rest.spells);
          back = λ p q stand. let f = rest.back (suc p) q stand.1 in record {
            found = f.found;
            reads = then (inl (is_of written p (sign part) (just part) stand.0 a_part.own, refl, refl)) f.reads;
            stop' = f.stop';
            at = omega (arith, f.at);
            pieces = f.pieces;
            parts = f.parts;
          };
        }

    -- a value before it
    insert_before : (i j k : ℕ) (u v : List Part) → InsertAgain n opening i k u
        → RowAgain part opening ends extra n k j v → RowAgain part opening ends extra n i j (u ++ v)
    insert_before i j k u v one row =
        let rest : RowAgain part opening ends extra n (suc one.c) j v = subst (λ (x : ℕ). RowAgain part opening ends extra n x j v) one.end row in
        subst (λ (x : List Part). RowAgain part opening ends extra n i j (x ++ v)) (sym one.is) (record {
          count = 0;
          stop = i;
          at = omega arith;
          tokens = sign opening
              ∷ (one.tokens ++ tok terminals.InsertEnd (behind_insert source one.c v rest.count) ∷ rest.tokens);
          spells = row_insert one.opened one.spells one.closed rest.spells;
          back = λ p q stand.
              let last = tok terminals.InsertEnd (behind_insert source one.c v rest.count) in
              let (place, left, right) = split written q one.tokens (last ∷ rest.tokens) (suc p) stand.1 in
              let (f, reads, liked) = one.back p place left
              (is_of written p (sign opening) (just opening) stand.0 an_opening.own)
              (is_of written place last (just terminals.InsertEnd) right.0 refl) in
              let r = rest.back (suc place) q right.1 in
              let same = said_behind one.c place rest.stop r.stop' v rest.count right.0.said rest.at r.at in
              let tail = r.pieces (to_at source (suc one.c - 1)) (suc one.c - 1) (to_at written (suc place - 1))
              (suc place - 1)
              same in record {
                found = Inserts p (suc place) f ∷ r.found;
                reads = then (inr reads) r.reads;
                stop' = p;
                at = omega arith;
                pieces = λ from first from' first' begins. text_then _ _ _ _ begins (alike.inserted liked tail);
                parts = λ from first from' first' begins. alike.mixed
                    (text_then _ _ _ _ begins (alike.inserted liked tail));
              };
        })

    pub row_again : {s j : ℕ} {w : List Part} → Row (Reads source n (row_item source part opening)) s j w
        → RowAgain part opening ends extra n s j w
    row_again (done {i}) = record {
      count = extra;
      stop = ends i;
      at = law i;
      tokens = [];
      spells = row_end;
      back = λ p q e. record {
        found = [];
        reads = subst (λ (x : ℕ). Row (Reads written n (row_item written part opening)) p x []) e done;
        stop' = ends q;
        at = law q ∙ ap (λ (x : ℕ). x + extra) (sym e);
        pieces = λ from first from' first' same. same_text _ _ same;
        parts = λ from first from' first' same. same_plain _ _ same;
      };
    }
    row_again (then {i} {k} {j} {u} {v} (inl (m, e1, e2)) row) =
        subst (λ (x : List Part). RowAgain part opening ends extra n i j (x ++ v)) (sym e2) (part_before i j k v e1 m (row_again row))
    row_again (then {i} {k} {j} {u} {v} (inr d) row) =
        insert_before i j k u v (insert_again n deep opening an_opening.here i k u d) (row_again row)
