-- Raw text is read again, with what is inserted in it and the brackets in it.
use Rattle.std.proofs.Common.{◌≡◌, ℕ, zero, suc, ◌+◌, List, [], ◌∷◌, ◌++◌, length, inl, inr, refl, sym, ◌∙◌, ap, subst, arith}
use Rattle.sw_parse_grammar.specs.Grammar.{group, Row, done, then}
use Rattle.sw_parse_terminals.specs.declared.terminal.Terminal.{Terminal}
use Rattle.sw_parse_terminals.specs.declared.terminal.Terminal.TheVariants as terminals
use Rattle.sw_parse_terminals.specs.Numbers.{just}
use Rattle.sw_parse_table.specs.declared.source.Source.{Source}
use Rattle.sw_parse_table.specs.Parts.{Part, RawInside, Inserts}
use Rattle.sw_parse_table.specs.Values.{to_text}
use Rattle.sw_parse_table.specs.Expressions.{insert}
use Rattle.sw_parse_table.specs.Statements.{raw_item, raw_inside, raw}
use Rattle.sw_convert_again.specs.Tokens.{Said, Nothing, Says, Extent, extent, shifted, Tok, sign, Stands, saying}
use Rattle.sw_convert_again.specs.Spells.{text_said, within}
use Rattle.sw_convert_again.specs.Again.{Reads}
use Rattle.sw_convert_again.specs.RawTexts.{Brackets, parens, squares, braces, SpellsRawItem, SpellsRawText, raw_token, raw_insert, raw_brackets, raw_end, raw_more, IsRawAgain, RawTextsAgain}
use Rattle.sw_convert_again.proofs.Tokens.{old_of, is_of, split}
use Rattle.sw_convert_again.proofs.Rows.{Plainly, insert_again}
use Rattle.sw_convert_again.proofs.Extents.{LikeValues, none, inserted, shift, both, like_text, tokens_long}
use Rattle.sw_convert_again.proofs.Values.{values_again}

-- the first of these tokens says nothing
abbrev pub Unsaid : List Tok → Type 0
Unsaid [] = ⊥
Unsaid (token ∷ tokens) = token.said ≡ Nothing

pub unsaid_more : (tokens others : List Tok) → Unsaid tokens → Unsaid (tokens ++ others)
unsaid_more [] others u = absurd u
unsaid_more (token ∷ tokens) others u = u

-- what it says where it says something
pub unsaid : (source : Source) (said : Said) (tokens : List Tok) → Unsaid tokens → (p q : ℕ)
    → Stands source p (saying said tokens) q → Stands source p tokens q × Says source p said
unsaid source said [] u p q s = absurd u
unsaid source said (token ∷ tokens) u p q (is, more) = (
  (record { lexeme = is.lexeme; there = is.there; kind = is.kind; said = subst (Says source p) (sym u) tt }, more),
  is.said,
)

module _ (source written : Source) where
  record ItemAgain (n i k : ℕ) (u : List Part) : Type 0 where
    tokens : List Tok
    extents : List Extent
    spells : SpellsRawItem source i k u tokens extents
    unsaid : Unsaid tokens
    back : (p q : ℕ) → Stands written p tokens q
        → (found : List Part) × Reads written n (raw_item written) p q found × LikeValues p u found extents

  ItemsAgain : ℕ → Type 0
  ItemsAgain n = (i k : ℕ) (u : List Part) → Reads source n (raw_item source) i k u → ItemAgain n i k u

  -- items one behind the other
  record TextAgain (n s j : ℕ) (w : List Part) : Type 0 where
    tokens : List Tok
    extents : List Extent
    spells : SpellsRawText source s j w tokens extents
    back : (p q : ℕ) → Stands written p tokens q
        → (found : List Part) × Row (Reads written n (raw_item written)) p q found × LikeValues p w found extents

  text_again : (n : ℕ) → ItemsAgain n → {s j : ℕ} {w : List Part} → Row (Reads source n (raw_item source)) s j w
      → TextAgain n s j w
  unfolding ItemsAgain
  text_again n items (done {i}) = record {
    tokens = [];
    extents = [];
    spells = raw_end;
    back = λ p q e. ([], subst (λ (x : ℕ). Row (Reads written n (raw_item written)) p x []) e done, none);
  }
  text_again n items (then {i} {k} {j} {u} {v} d row) =
      let one = items i k u d in
      let rest = text_again n items row in record {
        tokens = one.tokens ++ rest.tokens;
        extents = one.extents ++ shifted (length one.tokens) rest.extents;
        spells = raw_more one.spells rest.spells;
        back = λ p q stand.
            let (place, left, right) = split written q one.tokens rest.tokens p stand in
            let (f, reads, liked) = one.back p place left in
            let (g, others, more) = rest.back place q right in
            let here : LikeValues (p + length one.tokens) v g rest.extents =
            subst (λ (x : ℕ). LikeValues x v g rest.extents) (tokens_long written one.tokens p place left) more in
            (f ++ g, then reads others, both liked (shift p (length one.tokens) here));
      }

  -- items in brackets
  enclosed_again : (n : ℕ) → ((m : ℕ) → n ≡ suc m → ItemsAgain m) → (opening closing : Terminal)
      → Brackets opening closing → Plainly opening → Plainly closing
      → ((p q : ℕ) (w : List Part) → Reads written n (group (just opening) RawInside (just closing)) p q w
      → Reads written n (raw_item written) p q w) → (i k : ℕ) (u : List Part)
      → Reads source n (group (just opening) RawInside (just closing)) i k u → ItemAgain n i k u
  unfolding raw_inside
  enclosed_again zero inner opening closing kind a b into i k u (m1, c, d, m2, e) = absurd d
  enclosed_again (suc n) inner opening closing kind a b into i k u (m1, c, d, m2, e) =
      let text = text_again n (inner n refl) d in
      let opened = old_of source i (just opening) a.here m1 in
      let closed = old_of source c (just closing) b.here m2 in
      let tokens = within (sign opening) text.tokens closing in record {
        tokens = tokens;
        extents = shifted 1 text.extents;
        spells = subst (λ (x : ℕ). SpellsRawItem source i x u tokens (shifted 1 text.extents)) (sym e)
            (raw_brackets kind opened text.spells closed);
        unsaid = refl;
        back = λ p q stand.
            let (place, left, right) = split written q text.tokens (sign closing ∷ []) (suc p) stand.1 in
            let (f, reads, liked) = text.back (suc p) place left in
            let here : LikeValues (p + 1) u f text.extents =
            subst (λ (x : ℕ). LikeValues x u f text.extents) (let z : suc p ≡ p + 1 = omega arith in z) liked in (
              f,
              into p q f (
                is_of written p (sign opening) (just opening) stand.0 a.own,
                place,
                reads,
                is_of written place (sign closing) (just closing) right.0 b.own,
                sym right.1,
              ),
              shift p 1 here,
            );
      }

  item_again : (n : ℕ) → ((m : ℕ) → n ≡ suc m → ItemsAgain m) → ItemsAgain n
  unfolding ItemsAgain raw_item insert
  item_again n inner i k u (inl (m, e1, e2)) =
      let old = old_of source i (just terminals.Raw) refl m in
      let token = sign terminals.Raw in record {
        tokens = token ∷ [];
        extents = [];
        spells = subst (λ (x : List Part). SpellsRawItem source i k x (token ∷ []) []) (sym e2)
            (subst (λ (x : ℕ). SpellsRawItem source i x [] (token ∷ []) []) (sym e1) (raw_token old));
        unsaid = refl;
        back = λ p q stand. (
          [],
          inl (is_of written p token (just terminals.Raw) stand.0 refl, sym stand.1, refl),
          subst (λ (x : List Part). LikeValues p x [] []) (sym e2) none,
        );
      }
  item_again n inner i k u (inr (inl d)) =
      enclosed_again n inner terminals.RawParen terminals.RawParenEnd parens (record { here = refl; own = refl })
      (record { here = refl; own = refl }) (λ p q w r. inr (inl r)) i k u d
  item_again n inner i k u (inr (inr (inl d))) =
      enclosed_again n inner terminals.RawBracket terminals.RawBracketEnd squares (record { here = refl; own = refl })
      (record { here = refl; own = refl }) (λ p q w r. inr (inr (inl r))) i k u d
  item_again n inner i k u (inr (inr (inr (inl d)))) =
      enclosed_again n inner terminals.RawBrace terminals.RawBraceEnd braces (record { here = refl; own = refl })
      (record { here = refl; own = refl }) (λ p q w r. inr (inr (inr (inl r)))) i k u d
  item_again n inner i k u (inr (inr (inr (inr d)))) =
      let one = insert_again source written n (λ m e. values_again source written m) terminals.Insert refl i k u d in
      let tokens = within (sign terminals.Insert) one.tokens terminals.InsertEnd in
      let extents = extent 0 (2 + length one.tokens) ∷ [] in record {
        tokens = tokens;
        extents = extents;
        spells = subst (λ (x : List Part). SpellsRawItem source i k x tokens extents) (sym one.is)
            (subst (λ (x : ℕ). SpellsRawItem source i x (Inserts i (suc one.c) one.value ∷ []) tokens extents) (sym one.end)
            (raw_insert one.opened one.spells one.closed));
        unsaid = refl;
        back = λ p q stand.
            let (place, left, right) = split written q one.tokens (sign terminals.InsertEnd ∷ []) (suc p) stand.1 in
            let (f, reads, liked) = one.back p place left
            (is_of written p (sign terminals.Insert) (just terminals.Insert) stand.0 refl)
            (is_of written place (sign terminals.InsertEnd) (just terminals.InsertEnd) right.0 refl) in
            let long = tokens_long written one.tokens (suc p) place left in (
              Inserts p (suc place) f ∷ [],
              subst (λ (x : ℕ). Reads written n (raw_item written) p x (Inserts p (suc place) f ∷ [])) right.1
                  (inr (inr (inr (inr reads)))),
              subst (λ (x : List Part). LikeValues p x (Inserts p (suc place) f ∷ []) extents) (sym one.is)
                  (inserted (let a : p ≡ p + 0 = omega arith in a)
                  (let b : suc place ≡ p + (2 + length one.tokens) = omega (arith, long) in b) liked none),
            );
      }

  items_again : (n : ℕ) → ItemsAgain n
  items_again zero = item_again zero (λ m e. absurd (omega (arith, e)))
  items_again (suc n) =
      item_again (suc n) (λ m e. subst ItemsAgain (let z : n ≡ m = omega (arith, e) in z) (items_again n))

  raw_again : (n i j : ℕ) (w : List Part) → Reads source n (raw source) i j w → IsRawAgain source written n i j w
  unfolding raw ItemsAgain
  raw_again n i j w (u, (k, v1, v2, head, row, e1), e2) =
      let values = v1 ++ v2 in
      let one = items_again n i k v1 head in
      let rest = text_again n (items_again n) row in record {
        values = values;
        is = e2 ∙ ap (to_text source i j) e1;
        tokens = one.tokens ++ rest.tokens;
        extents = one.extents ++ shifted (length one.tokens) rest.extents;
        spells = raw_more one.spells rest.spells;
        back = λ p q told.
            let (stand, said) = unsaid written (text_said source i j values (one.extents ++ shifted (length one.tokens) rest.extents)
            (length (one.tokens ++ rest.tokens))) (one.tokens ++ rest.tokens) (unsaid_more one.tokens rest.tokens one.unsaid) p q told in
            let (place, left, right) = split written q one.tokens rest.tokens p stand in
            let (f, reads, liked) = one.back p place left in
            let (g, others, more) = rest.back place q right in
            let here : LikeValues (p + length one.tokens) v2 g rest.extents =
            subst (λ (x : ℕ). LikeValues x v2 g rest.extents) (tokens_long written one.tokens p place left) more in
            let long = tokens_long written (one.tokens ++ rest.tokens) p q stand in (
              f ++ g,
              (f ++ g, (place, f, g, reads, others, refl), refl),
              like_text source written i j p q (length (one.tokens ++ rest.tokens))
                  (both liked (shift p (length one.tokens) here)) said (sym long),
            );
      }

pub raw_texts_again : RawTextsAgain
raw_texts_again = raw_again
