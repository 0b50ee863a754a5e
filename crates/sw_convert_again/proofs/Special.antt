-- Special functions are read again: the text in them, with what is inserted in it and the values that stand in it.
use Rattle.std.proofs.Common.{◌≡◌, ℕ, zero, suc, ◌+◌, true, List, [], ◌∷◌, ◌++◌, length, inl, inr, refl, sym, ◌∙◌, ap, subst, arith}
use Rattle.sw_parse_grammar.specs.Grammar.{group, member, Row, done, then}
use Rattle.sw_text.specs.declared.place.Span.{Span}
use Rattle.sw_tree.specs.declared.expr.Expr.{Expr}
use Rattle.sw_tree.specs.declared.expr.ExprKind.TheVariants as exprs
use Rattle.sw_tree.specs.declared.text.Parts.TheVariants.{Plain as PlainParts}
use Rattle.sw_parse_terminals.specs.declared.terminal.Terminal.{Terminal}
use Rattle.sw_parse_terminals.specs.declared.terminal.Terminal.TheVariants as terminals
use Rattle.sw_parse_terminals.specs.Numbers.{just}
use Rattle.sw_parse_table.specs.declared.source.Source.{Source}
use Rattle.sw_parse_table.specs.Parts.{Part, SpecialItems, Inserts, Values}
use Rattle.sw_parse_table.specs.Parts as parts
use Rattle.sw_parse_table.specs.Sets.{special_texts}
use Rattle.sw_parse_table.specs.Sources.{terminal_at, span_between, bytes_between, parts_between}
use Rattle.sw_parse_table.specs.Values.{expression, value_of, to_stands, to_special}
use Rattle.sw_parse_table.specs.Expressions.{insert, variable, owned, called, special, special_number, special_expr, special_value, special_parens, special_brackets, special_item, special_inside, expr}
use Rattle.sw_convert_alike.specs.Expressions.{Like, LikeParts, LikePieces, like, plain}
use Rattle.sw_convert_alike.specs.Expressions as alike
use Rattle.sw_convert_again.specs.Tokens.{Bytes, Extent, extent, shifted, Tok, tok, sign, Stands, Old}
use Rattle.sw_convert_again.specs.Spells.{Spells, SpellsItem, SpellsText, item_token, item_insert, item_value, item_parens, item_brackets, text_end, text_more, extents_of, text_said, within}
use Rattle.sw_convert_again.specs.Spells as spells
use Rattle.sw_convert_again.specs.Again.{Reads, Again}
use Rattle.sw_convert_again.proofs.Tokens.{old_of, is_of, of_set, split}
use Rattle.sw_convert_again.proofs.Leaves.{variable_again}
use Rattle.sw_convert_again.proofs.Rows.{Plainly, insert_again}
use Rattle.sw_convert_again.proofs.Owned.{into}
use Rattle.sw_convert_again.proofs.Extents.{LikeValues, none, inserted, stands, shift, both, like_text, tokens_long}

-- ---- items

module _ (source written : Source) where
  pub record ItemAgain (n i k : ℕ) (u : List Part) : Type 0 where
    tokens : List Tok
    extents : List Extent
    spells : SpellsItem source i k u tokens extents
    back : (p q : ℕ) → Stands written p tokens q
        → (found : List Part) × Reads written n (special_item written) p q found × LikeValues p u found extents

  abbrev pub ItemsAgain : ℕ → Type 0
  ItemsAgain n = (i k : ℕ) (u : List Part) → Reads source n (special_item source) i k u → ItemAgain n i k u

  -- items one behind the other
  record TextAgain (n s j : ℕ) (w : List Part) : Type 0 where
    tokens : List Tok
    extents : List Extent
    spells : SpellsText source s j w tokens extents
    back : (p q : ℕ) → Stands written p tokens q
        → (found : List Part) × Row (Reads written n (special_item written)) p q found × LikeValues p w found extents

  text_again : (n : ℕ) → ItemsAgain n → {s j : ℕ} {w : List Part} → Row (Reads source n (special_item source)) s j w
      → TextAgain n s j w
  text_again n items (done {i}) = record {
    tokens = [];
    extents = [];
    spells = text_end;
    back = λ p q e. ([], subst (λ (x : ℕ). Row (Reads written n (special_item written)) p x []) e done, none);
  }
  text_again n items (then {i} {k} {j} {u} {v} d row) =
      let one = items i k u d in
      let rest = text_again n items row in record {
        tokens = one.tokens ++ rest.tokens;
        extents = one.extents ++ shifted (length one.tokens) rest.extents;
        spells = text_more one.spells rest.spells;
        back = λ p q stand.
            let (place, left, right) = split written q one.tokens rest.tokens p stand in
            let (f, reads, liked) = one.back p place left in
            let (g, others, more) = rest.back place q right in
            let here : LikeValues (p + length one.tokens) v g rest.extents =
            subst (λ (x : ℕ). LikeValues x v g rest.extents) (tokens_long written one.tokens p place left) more in
            (f ++ g, then reads others, both liked (shift p (length one.tokens) here));
      }

  -- items in brackets
  record EnclosedAgain (n : ℕ) (opening closing : Terminal) (i k : ℕ) (u : List Part) : Type 0 where
    c : ℕ
    end : k ≡ suc c
    opened : Old source i (just opening)
    closed : Old source c (just closing)
    tokens : List Tok
    extents : List Extent
    spells : SpellsText source (suc i) c u tokens extents
    back : (p q : ℕ) → Stands written p (within (sign opening) tokens closing) q
        → (found : List Part) × Reads written n (group (just opening) SpecialItems (just closing)) p q found
        × LikeValues p u found (shifted 1 extents)

  enclosed_again : (n : ℕ) → ((m : ℕ) → n ≡ suc m → ItemsAgain m) → (opening closing : Terminal) → Plainly opening → Plainly closing
      → (i k : ℕ) (u : List Part) → Reads source n (group (just opening) SpecialItems (just closing)) i k u
      → EnclosedAgain n opening closing i k u
  enclosed_again zero inner opening closing a b i k u (m1, c, d, m2, e) = absurd d
  enclosed_again (suc n) inner opening closing a b i k u (m1, c, d, m2, e) =
      let text = text_again n (inner n refl) d in record {
        c = c;
        end = e;
        opened = old_of source i (just opening) a.here m1;
        closed = old_of source c (just closing) b.here m2;
        tokens = text.tokens;
        extents = text.extents;
        spells = text.spells;
        back = λ p q stand.
            let (place, left, right) = split written q text.tokens (sign closing ∷ []) (suc p) stand.1 in
            let (f, reads, liked) = text.back (suc p) place left in
            let here : LikeValues (p + 1) u f text.extents =
            subst (λ (x : ℕ). LikeValues x u f text.extents) (let z : suc p ≡ p + 1 = omega arith in z) liked in (
              f,
              (
                is_of written p (sign opening) (just opening) stand.0 a.own,
                place,
                reads,
                is_of written place (sign closing) (just closing) right.0 b.own,
                sym right.1,
              ),
              shift p 1 here,
            );
      }

  -- ---- values by themselves

  like_stays : (a b : List ℕ) (s s' : Span) → a ≡ b
      → Like (expression (exprs.Special (PlainParts a)) s) (expression (exprs.Special (PlainParts b)) s')
  like_stays a b s s' e =
      subst (λ (x : List ℕ). Like (expression (exprs.Special (PlainParts a)) s)
      (expression (exprs.Special (PlainParts x)) s')) e
      (like (alike.special plain))

  number_stays : (n : ℕ) → Again source written n special_number
  unfolding special_number
  number_stays n i j w (u, inr (m, e1, e2), e3) =
      let text = bytes_between source i (suc i) in
      let span = span_between source i j in
      let old = old_of source i (just terminals.Number) refl m in
      let token = tok terminals.Number (Bytes 1 text) in record {
        value = expression (exprs.Special (PlainParts text)) span;
        is = e3 ∙ ap (λ (k : ℕ). value_of (exprs.Special (PlainParts (bytes_between source i k))) span) e1;
        tokens = token ∷ [];
        spells = subst (λ (k : ℕ). Spells source i k (expression (exprs.Special (PlainParts text)) span) (token ∷ []))
            (sym e1)
            (spells.stays_number span old);
        begins = refl;
        back = λ p q stand. record {
          found = expression (exprs.Special (PlainParts (bytes_between written p q))) (span_between written p q);
          reads = ([], inr (is_of written p token (just terminals.Number) stand.0 refl, sym stand.1, refl), refl);
          alike = like_stays text (bytes_between written p q) span (span_between written p q)
              (sym stand.0.said ∙ ap (λ (k : ℕ). bytes_between written p k) (one_on p q stand.1));
        };
      }
    where
      one_on : (p q : ℕ) → suc p ≡ q → p + 1 ≡ q
      one_on p q e = omega (arith, e)
  number_stays n i j w (u, inl (k, u1, u2, (m1, e1, e2), (m2, e3, e4), e5), e6) =
      let text = bytes_between source i (suc (suc i)) in
      let span = span_between source i j in
      let end : j ≡ suc (suc i) = e3 ∙ ap suc e1 in
      let one = old_of source i (just terminals.Sign) refl m1 in
      let two = old_of source (suc i) (just terminals.Number) refl
      (subst (λ (x : ℕ). member (terminal_at source x) (just terminals.Number) ≡ true) e1 m2) in
      let first = tok terminals.Sign (Bytes 2 text) in
      let tokens = first ∷ sign terminals.Number ∷ [] in record {
        value = expression (exprs.Special (PlainParts text)) span;
        is = e6 ∙ ap (λ (x : ℕ). value_of (exprs.Special (PlainParts (bytes_between source i x))) span) end;
        tokens = tokens;
        spells = subst (λ (x : ℕ). Spells source i x (expression (exprs.Special (PlainParts text)) span) tokens) (sym end)
            (spells.stays_signed span one two);
        begins = refl;
        back = λ p q stand. record {
          found = expression (exprs.Special (PlainParts (bytes_between written p q))) (span_between written p q);
          reads = (
            [],
            inl (
              suc p,
              [],
              [],
              (is_of written p first (just terminals.Sign) stand.0 refl, refl, refl),
              (is_of written (suc p) (sign terminals.Number) (just terminals.Number) stand.1.0 refl, sym stand.1.1, refl),
              refl,
            ),
            refl,
          );
          alike = like_stays text (bytes_between written p q) span (span_between written p q)
              (sym stand.0.said ∙ ap (λ (x : ℕ). bytes_between written p x) (two_on p q stand.1.1));
        };
      }
    where
      two_on : (p q : ℕ) → suc (suc p) ≡ q → p + 2 ≡ q
      two_on p q e = omega (arith, e)

  -- ---- what stands in the text of a special function

  module _ (n : ℕ) (deep : (m : ℕ) → n ≡ suc m → Again source written m expr)
      (inner : (m : ℕ) → n ≡ suc m → ItemsAgain m) (owns : Again source written n owned)
      (calls : Again source written n called) where
    value_again : Again source written n special_expr
    unfolding special_expr
    value_again i j w (inl d) =
        into source written n (special_number written) (special_expr written) (λ p q x r. inl r) i j w
        (number_stays n i j w d)
    value_again i j w (inr (inl d)) =
        into source written n (variable written) (special_expr written) (λ p q x r. inr (inl r)) i j w
        (variable_again source written n i j w d)
    value_again i j w (inr (inr (inl d))) =
        into source written n (owned written) (special_expr written) (λ p q x r. inr (inr (inl r))) i j w (owns i j w d)
    value_again i j w (inr (inr (inr d))) =
        into source written n (called written) (special_expr written) (λ p q x r. inr (inr (inr r))) i j w
        (calls i j w d)

    -- a value in `#{}`, and one by itself
    inserted_item : (i c : ℕ) (value : Expr) (tokens : List Tok) → Old source i (just terminals.Insert)
        → Spells source (suc i) c value tokens → Old source c (just terminals.InsertEnd) → (k : ℕ) (u : List Part)
        → k ≡ suc c → u ≡ Inserts i (suc c) value ∷ []
        → SpellsItem source i k u (within (sign terminals.Insert) tokens terminals.InsertEnd)
        (extent 0 (2 + length tokens) ∷ [])
    inserted_item i c value tokens o s z k u e f =
        subst (λ (x : List Part). SpellsItem source i k x (within (sign terminals.Insert) tokens terminals.InsertEnd)
        (extent 0 (2 + length tokens) ∷ [])) (sym f)
        (subst (λ (x : ℕ). SpellsItem source i x (Inserts i (suc c) value ∷ [])
        (within (sign terminals.Insert) tokens terminals.InsertEnd) (extent 0 (2 + length tokens) ∷ [])) (sym e)
        (item_insert o s z))

    pub item_again : ItemsAgain n
    unfolding special_item insert special_value special_parens special_brackets
    item_again i k u (inl (m, e1, e2)) =
        let old = old_of source i special_texts refl m in
        let token = sign old.lexeme.terminal in record {
          tokens = token ∷ [];
          extents = [];
          spells = subst (λ (x : List Part). SpellsItem source i k x (token ∷ []) []) (sym e2)
              (subst (λ (x : ℕ). SpellsItem source i x [] (token ∷ []) []) (sym e1) (item_token old));
          back = λ p q stand. (
            [],
            inl (of_set source written i p special_texts old token stand.0 refl, sym stand.1, refl),
            subst (λ (x : List Part). LikeValues p x [] []) (sym e2) none,
          );
        }
    item_again i k u (inr (inl d)) =
        let one = insert_again source written n deep terminals.Insert refl i k u d in
        let tokens = within (sign terminals.Insert) one.tokens terminals.InsertEnd in record {
          tokens = tokens;
          extents = extent 0 (2 + length one.tokens) ∷ [];
          spells = inserted_item i one.c one.value one.tokens one.opened one.spells one.closed k u one.end one.is;
          back = λ p q stand.
              let (place, left, right) = split written q one.tokens (sign terminals.InsertEnd ∷ []) (suc p) stand.1 in
              let (f, reads, liked) = one.back p place left
              (is_of written p (sign terminals.Insert) (just terminals.Insert) stand.0 refl)
              (is_of written place (sign terminals.InsertEnd) (just terminals.InsertEnd) right.0 refl) in
              let long = tokens_long written one.tokens (suc p) place left in (
                Inserts p (suc place) f ∷ [],
                subst (λ (x : ℕ). Reads written n (special_item written) p x (Inserts p (suc place) f ∷ [])) right.1
                    (inr (inl reads)),
                subst (λ (x : List Part). LikeValues p x (Inserts p (suc place) f ∷ []) (extent 0 (2 + length one.tokens) ∷ []))
                    (sym one.is)
                    (inserted (let a : p ≡ p + 0 = omega arith in a)
                    (let b : suc place ≡ p + (2 + length one.tokens) = omega (arith, long) in b) liked none),
              );
        }
    item_again i k u (inr (inr (inl (x, d, e)))) =
        let one = value_again i k x d in
        let is : u ≡ parts.Stands i k one.value ∷ [] = e ∙ ap (to_stands source i k) one.is in record {
          tokens = one.tokens;
          extents = extent 0 (length one.tokens) ∷ [];
          spells = subst (λ (x : List Part). SpellsItem source i k x one.tokens (extent 0 (length one.tokens) ∷ [])) (sym is)
              (item_value one.spells);
          back = λ p q stand.
              let f = one.back p q stand in
              let long = tokens_long written one.tokens p q stand in (
                parts.Stands p q f.found ∷ [],
                inr (inr (inl (Values f.found ∷ [], f.reads, refl))),
                subst (λ (x : List Part). LikeValues p x (parts.Stands p q f.found ∷ []) (extent 0 (length one.tokens) ∷ []))
                    (sym is)
                    (stands (let a : p ≡ p + 0 = omega arith in a) long f.alike none),
              );
        }
    item_again i k u (inr (inr (inr (inl d)))) =
        let one = enclosed_again n inner terminals.RawParen terminals.RawParenEnd (record { here = refl; own = refl })
        (record { here = refl; own = refl }) i k u d in
        let tokens = within (sign terminals.RawParen) one.tokens terminals.RawParenEnd in record {
          tokens = tokens;
          extents = shifted 1 one.extents;
          spells = subst (λ (x : ℕ). SpellsItem source i x u tokens (shifted 1 one.extents)) (sym one.end)
              (item_parens one.opened one.spells one.closed);
          back = λ p q stand. let (f, reads, liked) = one.back p q stand in (f, inr (inr (inr (inl reads))), liked);
        }
    item_again i k u (inr (inr (inr (inr d)))) =
        let one = enclosed_again n inner terminals.RawBracket terminals.RawBracketEnd (record { here = refl; own = refl })
        (record { here = refl; own = refl }) i k u d in
        let tokens = within (sign terminals.RawBracket) one.tokens terminals.RawBracketEnd in record {
          tokens = tokens;
          extents = shifted 1 one.extents;
          spells = subst (λ (x : ℕ). SpellsItem source i x u tokens (shifted 1 one.extents)) (sym one.end)
              (item_brackets one.opened one.spells one.closed);
          back = λ p q stand. let (f, reads, liked) = one.back p q stand in (f, inr (inr (inr (inr reads))), liked);
        }

  -- ---- the whole call

  pub special_again : (n : ℕ) → ((m : ℕ) → n ≡ suc m → ItemsAgain m) → Again source written n special
  unfolding special special_inside
  special_again zero inner i j w (u, (k0, u1, u2, (m1, e1, e2), (m2, c, d, m3, e3), e4), e5) = absurd d
  special_again (suc n) inner i j w
      (u, (k0, u1, u2, (m1, e1, e2), (m2, c, (k, v1, v2, head, row, e6), m3, e3), e4), e5) =
      let one = inner n refl (suc k0) k v1 head in
      let rest = text_again n (inner n refl) row in
      let values = v1 ++ v2 in
      let tokens = one.tokens ++ rest.tokens in
      let extents = one.extents ++ shifted (length one.tokens) rest.extents in
      let span = span_between source i j in
      let value = expression (exprs.Special (parts_between source i (suc c) values)) span in
      let old = old_of source i (just terminals.Special) refl m1 in
      let opened = old_of source (suc i) (just terminals.RawParen) refl
      (subst (λ (x : ℕ). member (terminal_at source x) (just terminals.RawParen) ≡ true) e1 m2) in
      let closed = old_of source c (just terminals.RawParenEnd) refl m3 in
      let text : SpellsText source (suc (suc i)) c values tokens extents =
      subst (λ (x : ℕ). SpellsText source (suc x) c values tokens extents) e1 (text_more one.spells rest.spells) in
      let first = tok terminals.Special (text_said source i (suc c) values (shifted 2 extents) (3 + length tokens)) in
      let all = first ∷ within (sign terminals.RawParen) tokens terminals.RawParenEnd in
      let is : u ≡ values = e4 ∙ ap (λ (x : List Part). x ++ u2) e2 ∙ e6 in record {
        value = value;
        is = e5 ∙ ap (to_special source i j) is
            ∙ ap (λ (x : ℕ). value_of (exprs.Special (parts_between source i x values)) span) e3;
        tokens = all;
        spells = subst (λ (x : ℕ). Spells source i x value all) (sym e3) (spells.special span old opened text closed);
        begins = refl;
        back = λ p q stand.
            let (place, left, right) = split written q tokens (sign terminals.RawParenEnd ∷ []) (suc (suc p)) stand.1.1 in
            let (middle, l1, l2) = split written place one.tokens rest.tokens (suc (suc p)) left in
            let (f, reads, liked) = one.back (suc (suc p)) middle l1 in
            let (g, others, more) = rest.back middle place l2 in
            let found = f ++ g in
            let here : LikeValues (suc (suc p) + length one.tokens) v2 g rest.extents =
            subst (λ (x : ℕ). LikeValues x v2 g rest.extents) (tokens_long written one.tokens (suc (suc p)) middle l1) more in
            let both_like : LikeValues (p + 2) values found extents =
            subst (λ (x : ℕ). LikeValues x values found extents) (let z : suc (suc p) ≡ p + 2 = omega arith in z)
            (both liked (shift (suc (suc p)) (length one.tokens) here)) in
            let long = tokens_long written tokens (suc (suc p)) place left in
            let there = span_between written p q in record {
              found = expression (exprs.Special (parts_between written p q found)) there;
              reads = (
                found,
                (
                  suc p,
                  [],
                  found,
                  (is_of written p first (just terminals.Special) stand.0 refl, refl, refl),
                  (
                    is_of written (suc p) (sign terminals.RawParen) (just terminals.RawParen) stand.1.0 refl,
                    place,
                    (middle, f, g, reads, others, refl),
                    is_of written place (sign terminals.RawParenEnd) (just terminals.RawParenEnd) right.0 refl,
                    sym right.1,
                  ),
                  refl,
                ),
                refl,
              );
              alike = like (alike.special (like_text source written i (suc c) p q (3 + length tokens) (shift p 2 both_like) stand.0.said
                  (let z : p + (3 + length tokens) ≡ q = omega (arith, long, right.1) in z)));
            };
      }
