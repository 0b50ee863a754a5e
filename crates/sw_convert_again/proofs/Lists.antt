-- Lists are read again, with spaces or commas between their items.
use Rattle.std.proofs.Common.{◌≡◌, ◌⊎◌, ℕ, suc, ◌-◌, ◌<◌, ◌≤◌, Bool, true, false, List, [], ◌∷◌, ◌++◌, map, inl, inr, refl, sym, ◌∙◌, ap, subst, arith}
use Rattle.sw_parse_grammar.specs.Grammar.{Grammar, member, nullable, disjoint, Row, Item, done, then, Derives}
use Rattle.sw_parse_grammar.proofs.Sets.{apart}
use Rattle.sw_text.specs.declared.place.Span.{Span}
use Rattle.sw_tree.specs.declared.expr.Expr.{Expr}
use Rattle.sw_tree.specs.declared.expr.ExprKind.TheVariants as exprs
use Rattle.sw_tree.specs.declared.expr.Around.{Around}
use Rattle.sw_tree.specs.declared.expr.Around.TheVariants as arounds
use Rattle.sw_tree.specs.declared.expr.Separator.{Separator}
use Rattle.sw_tree.specs.declared.expr.Separator.TheVariants as separators
use Rattle.sw_parse_terminals.specs.declared.terminal.Terminal.TheVariants as terminals
use Rattle.sw_parse_terminals.specs.Numbers.{just}
use Rattle.sw_parse_table.specs.declared.source.Source.{Source}
use Rattle.sw_parse_table.specs.Parts.{Part, Form, Values, values_of}
use Rattle.sw_parse_table.specs.Sources.{text_of, terminal_at, span_between}
use Rattle.sw_parse_table.specs.Table.{forms}
use Rattle.sw_parse_table.specs.Values.{expression, spaced, comma_list, listed, ends_with_comma, to_space, to_list}
use Rattle.sw_parse_table.specs.Expressions.{number, insert, quoted, text_item, url_item, template, hash, constant, url, url_template, special, variable, word_insert, part_insert, word_part, word_start, word, arguments_in, called, owned_variable, owned_call, owned, range, parent, important, parens, brackets, literal, other, primary, prefix, unary, link, product, sum, relation, equality, conjunction, disjunction, space_item, space, list_item, expr, colon_space, pair, pairs_rest, items_rest, inside, items, named_argument, plain_argument, argument, arguing, special_number, special_expr, special_value, special_parens, special_brackets, special_item, special_inside}
use Rattle.sw_convert_alike.specs.Expressions.{Like, LikeItems, like}
use Rattle.sw_convert_alike.specs.Expressions as alike
use Rattle.sw_convert_again.specs.Lasts.{last}
use Rattle.sw_convert_again.specs.Tokens.{Tok, sign, Stands, Old, Begins}
use Rattle.sw_convert_again.specs.Bare.{is_bare}
use Rattle.sw_convert_again.specs.Spells.{Spells, unlisted, SpellsItems, SpellsCommas, no_items, more_items, no_commas, more_commas}
use Rattle.sw_convert_again.specs.Spells as spells
use Rattle.sw_convert_again.specs.Again.{Reads, Found, Back, IsAgain, Again}
use Rattle.sw_convert_again.proofs.Lasts.{le, null, ends, derives_le}
use Rattle.sw_convert_again.proofs.Bare.{disjunctions_plain, spaces_plain}
use Rattle.sw_convert_again.proofs.Tokens.{old_of, is_of, split, begins_more, unending}

pub values_listed : (es : List Expr) → values_of (map Values es) ≡ es
values_listed [] = refl
values_listed (e ∷ es) = ap (λ (x : List Expr). e ∷ x) (values_listed es)

like_list : (xs ys : List Expr) (separator : Separator) (around : Around) (s s' : Span) → LikeItems xs ys
    → Like (expression (exprs.List xs separator around) s) (expression (exprs.List ys separator around) s')
like_list xs ys separator around s s' l = like (alike.list l)

some_more : {x : Expr} {xs : List Expr} → LikeItems (x ∷ xs) [] → ⊥
some_more l = elim l [ ]

behind_comma : (source : Source) (p : ℕ) → member (terminal_at source p) (just terminals.Comma) ≡ true
    → ends_with_comma source (suc p) ≡ true
unfolding ends_with_comma
behind_comma source p m =
    subst (λ (x : ℕ). member (terminal_at source x) (just terminals.Comma) ≡ true)
    (let z : p ≡ suc p - 1 = omega arith in z) m

unless : (b : Bool) → (b ≡ true → ⊥) → b ≡ false
unless true n = absurd (n refl)
unless false n = refl

full_list : (written : Source) → nullable (space written) ≡ false
unfolding number insert quoted text_item url_item template hash constant url url_template special variable word_insert part_insert word_part word_start word arguments_in called owned_variable owned_call owned range parent important parens brackets literal other primary prefix unary link product sum relation equality conjunction disjunction space_item space list_item expr colon_space pair pairs_rest items_rest inside items named_argument plain_argument argument arguing special_number special_expr special_value special_parens special_brackets special_item special_inside
full_list written = refl

comma_no_end : (written : Source) → disjoint (last (space written)) (just terminals.Comma) ≡ true
unfolding number insert quoted text_item url_item template hash constant url url_template special variable word_insert part_insert word_part word_start word arguments_in called owned_variable owned_call owned range parent important parens brackets literal other primary prefix unary link product sum relation equality conjunction disjunction space_item space list_item expr colon_space pair pairs_rest items_rest inside items named_argument plain_argument argument arguing special_number special_expr special_value special_parens special_brackets special_item special_inside
comma_no_end written = refl

later : (p q : ℕ) → p ≤ q → (q ≡ p → ⊥) → p < q
later p q l n = go (before p q l)
  where
    before : (a b : ℕ) → a ≤ b → (a < b) ⊎ (b ≡ a)
    before a b l = grind arith

    go : (p < q) ⊎ (q ≡ p) → p < q
    go (inl l) = l
    go (inr e) = absurd (n e)

-- a list without commas doesn't end with one
pub uncommaed : (written : Source) (n p q : ℕ) (w : List Part) → Reads written n (space written) p q w
    → ends_with_comma written q ≡ false
unfolding ends_with_comma
uncommaed written n p q w d =
    unless (member (terminal_at written (q - 1)) (just terminals.Comma))
    (apart (terminal_at written (q - 1)) (last (space written)) (just terminals.Comma) (comma_no_end written)
    (ends (text_of written) (Derives (forms written) (text_of written) n)
    (derives_le (forms written) (text_of written) n)
    (space written) p q w d
    (later p q (le (text_of written) (Derives (forms written) (text_of written) n)
    (derives_le (forms written) (text_of written) n)
    (space written) p q w d)
    (λ e. full (null (text_of written) (Derives (forms written) (text_of written) n)
    (derives_le (forms written) (text_of written) n)
    (space written) p q w d e)))))
  where
    full : nullable (space written) ≡ true → ⊥
    full t = let f = full_list written in absurd (cc)

module _ (source written : Source) (n : ℕ) where
  abbrev Was : Grammar Part Form → ℕ → ℕ → List Part → Type 0
  Was g = Reads source n g

  abbrev Is : Grammar Part Form → ℕ → ℕ → List Part → Type 0
  Is g = Reads written n g

  -- items with spaces between them
  module _ (operand : Again source written n disjunction) where
    record ItemsAgain (i j : ℕ) (w : List Part) : Type 0 where
      values : List Expr
      is : w ≡ map Values values
      tokens : List Tok
      spells : SpellsItems source i j values tokens
      back : (p q : ℕ) → Stands written p tokens q
          → (found : List Expr) × Row (Is (space_item written)) p q (map Values found) × LikeItems values found

    items_again : {i j : ℕ} {w : List Part} → Row (Was (space_item source)) i j w → ItemsAgain i j w
    unfolding space_item
    items_again (done {i}) = record {
      values = [];
      is = refl;
      tokens = [];
      spells = no_items;
      back = λ p q e. ([], subst (λ (x : ℕ). Row (Is (space_item written)) p x []) e done, alike.no_items);
    }
    items_again (then {i} {k} {j} {u} {v} (calm, d) row) =
        let one = operand i k u d in
        let rest = items_again row in record {
          values = one.value ∷ rest.values;
          is = ap (λ (x : List Part). x ++ v) one.is ∙ ap (λ (x : List Part). Values one.value ∷ x) rest.is;
          tokens = one.tokens ++ rest.tokens;
          spells = more_items (unlisted (disjunctions_plain source n i k u one.value d one.is) one.spells) rest.spells;
          back = λ p q stand.
              let (place, left, right) = split written q one.tokens rest.tokens p stand in
              let f = one.back p place left in
              let (found, reads, liked) = rest.back place q right in (
                f.found ∷ found,
                then (unending written p place one.tokens one.begins left, f.reads) reads,
                alike.item
                    f.alike liked,
              );
        }

    space_by : (i j k : ℕ) (w : List Part) (e : Expr) (tokens : List Tok) → Spells source i k e tokens
        → is_bare e ≡ false → Begins tokens
        → Back written n (disjunction written) e tokens → (es : List Expr) (others : List Tok)
        → SpellsItems source k j es others
        → ((p q : ℕ) → Stands written p others q
        → (found : List Expr) × Row (Is (space_item written)) p q (map Values found) × LikeItems es found)
        → w ≡ spaced (span_between source i j) (e ∷ es) → IsAgain source written n (space written) i j w
    unfolding space
    space_by i j k w e tokens spelled alone begins back [] others before row is = record {
      value = e;
      is = is;
      tokens = tokens;
      spells = subst (λ (x : ℕ). Spells source i x e tokens) (none before) spelled;
      begins = begins;
      back = λ p q stand. let f = back p q stand in record {
        found = f.found;
        reads = (Values f.found ∷ [], (q, Values f.found ∷ [], [], f.reads, done, refl), refl);
        alike = f.alike;
      };
    }
      where
        none : {x y : ℕ} {ts : List Tok} → SpellsItems source x y [] ts → x ≡ y
        none no_items = refl
    space_by i j k w e tokens spelled alone begins back (next ∷ es) others before row is = record {
      value = expression (exprs.List (e ∷ next ∷ es) separators.Space arounds.Nothing) (span_between source i j);
      is = is;
      tokens = tokens ++ others;
      spells = spells.spaced next (span_between source i j) (unlisted alone spelled) before;
      begins = begins_more tokens others begins;
      back = λ p q stand.
          let (place, left, right) = split written q tokens others p stand in
          let f = back p place left in
          let (found, reads, liked) = row place q right in
          space_found p q place f found reads liked;
    }
      where
        space_found : (p q place : ℕ) (f : Found written n (disjunction written) e p place) (found : List Expr)
            → Row (Is (space_item written)) place q (map Values found) → LikeItems (next ∷ es) found
            → Found written n (space written)
            (expression (exprs.List (e ∷ next ∷ es) separators.Space arounds.Nothing) (span_between source i j)) p q
        space_found p q place f [] reads liked = absurd (some_more liked)
        space_found p q place f (x ∷ xs) reads liked = record {
          found = expression (exprs.List (f.found ∷ x ∷ xs) separators.Space arounds.Nothing)
              (span_between written p q);
          reads = (
            Values f.found ∷ map Values (x ∷ xs),
            (place, Values f.found ∷ [], map Values (x ∷ xs), f.reads, reads, refl),
            sym (ap (λ (y : List Expr). spaced (span_between written p q) (f.found ∷ x ∷ y)) (values_listed xs)),
          );
          alike = like_list (e ∷ next ∷ es) (f.found ∷ x ∷ xs) separators.Space arounds.Nothing
              (span_between source i j) (span_between written p q)
              (alike.item f.alike liked);
        }

    pub space_again : Again source written n space
    unfolding space
    space_again i j w (u, (k, u1, u2, d, row, e5), e6) =
        let one = operand i k u1 d in
        let rest = items_again row in
        let parts : u ≡ Values one.value ∷ map Values rest.values =
        e5 ∙ ap (λ (x : List Part). x ++ u2) one.is ∙ ap (λ (x : List Part). Values one.value ∷ x) rest.is in
        space_by i j k w one.value one.tokens one.spells (disjunctions_plain source n i k u1 one.value d one.is) one.begins
        one.back rest.values rest.tokens rest.spells
        rest.back
        (e6 ∙ ap (to_space source i j) parts
        ∙ ap (λ (x : List Expr). spaced (span_between source i j) (one.value ∷ x)) (values_listed rest.values))

  -- items with commas between them
  module _ (operand : Again source written n space) where
    pub record CommasAgain (i j : ℕ) (w : List Part) : Type 0 where
      pub values : List Expr
      pub is : w ≡ map Values values
      pub tokens : List Tok
      pub spells : SpellsCommas source i j values tokens
      pub back : (p q : ℕ) → Stands written p tokens q
          → (found : List Expr) × Row (Item (text_of written) (just terminals.Comma) (Is (list_item written))) p q
          (map Values found)
          × LikeItems values found

    pub commas_again : {i j : ℕ} {w : List Part}
        → Row (Item (text_of source) (just terminals.Comma) (Was (list_item source))) i j w
        → CommasAgain i j w
    unfolding list_item
    commas_again (done {i}) = record {
      values = [];
      is = refl;
      tokens = [];
      spells = no_commas;
      back = λ p q e. (
        [],
        subst (λ (x : ℕ). Row (Item (text_of written) (just terminals.Comma) (Is (list_item written))) p x []) e done,
        alike.no_items,
      );
    }
    commas_again (then {i} {k} {j} {u} {v} (m, (calm, d)) row) =
        let old = old_of source i (just terminals.Comma) refl m in
        let one = operand (suc i) k u d in
        let rest = commas_again row in record {
          values = one.value ∷ rest.values;
          is = ap (λ (x : List Part). x ++ v) one.is ∙ ap (λ (x : List Part). Values one.value ∷ x) rest.is;
          tokens = sign terminals.Comma ∷ (one.tokens ++ rest.tokens);
          spells = more_commas old (unlisted (spaces_plain source n (suc i) k u one.value d one.is) one.spells) rest.spells;
          back = λ p q stand.
              let (place, left, right) = split written q one.tokens rest.tokens (suc p) stand.1 in
              let f = one.back (suc p) place left in
              let (found, reads, liked) = rest.back place q right in (
                f.found ∷ found,
                then (
                  is_of written p (sign terminals.Comma) (just terminals.Comma) stand.0 refl,
                  (unending written (suc p) place one.tokens one.begins left, f.reads),
                ) reads,
                alike.item f.alike liked,
              );
        }

  -- one item, that keeps the comma behind it, or more, as they are listed
  pub record ListedFound (value : Expr) (p q : ℕ) : Type 0 where
    pub first : Expr
    pub others : List Expr
    pub place : ℕ
    pub stop : ℕ
    pub one : Is (space written) p place (Values first ∷ [])
    pub rest : Row (Item (text_of written) (just terminals.Comma) (Is (list_item written))) place stop
        (map Values others)
    pub end : (q ≡ stop) ⊎ ((member (terminal_at written stop) (just terminals.Comma) ≡ true) × (q ≡ suc stop))
    pub new : Expr
    pub is : listed (span_between written p q) (ends_with_comma written q) (first ∷ others) ≡ Values new ∷ []
    pub alike : Like value new

  pub record ListedAgain (i j : ℕ) (w : List Part) : Type 0 where
    pub value : Expr
    pub is : w ≡ Values value ∷ []
    pub tokens : List Tok
    pub spells : Spells source i j value tokens
    pub begins : Begins tokens
    pub back : (p q : ℕ) → Stands written p tokens q → ListedFound value p q

  abbrev pub End : ℕ → ℕ → Type 0
  End m j = (j ≡ m) ⊎ ((member (terminal_at source m) (just terminals.Comma) ≡ true) × (j ≡ suc m))

  no_comma_end : (j k : ℕ) → End k j → ends_with_comma source j ≡ false → j ≡ k
  no_comma_end j k (inl e) c = e
  no_comma_end j k (inr (m, e)) c =
      let t : ends_with_comma source j ≡ true = ap (ends_with_comma source) e ∙ behind_comma source k m in absurd (cc)

  comma_end : (j k : ℕ) → End k j → ends_with_comma source k ≡ false → ends_with_comma source j ≡ true
      → (j ≡ suc k) × Old source k (just terminals.Comma)
  comma_end j k (inl e) f t = let g : ends_with_comma source j ≡ false = ap (ends_with_comma source) e
      ∙ f in absurd (cc)
  comma_end j k (inr (m, e)) f t = (e, old_of source k (just terminals.Comma) refl m)

  old_end : (m j : ℕ) → End m j → (j ≡ m) ⊎ ((j ≡ suc m) × Old source m (just terminals.Comma))
  old_end m j (inl e) = inl e
  old_end m j (inr (c, e)) = inr (e, old_of source m (just terminals.Comma) refl c)

  none_left : {x y : ℕ} {ts : List Tok} → SpellsCommas source x y [] ts → x ≡ y
  none_left no_commas = refl

  module _ (i j k m : ℕ) (w : List Part) (e : Expr) (tokens : List Tok) (spelled : Spells source i k e tokens)
      (alone : is_bare e ≡ false) (begins : Begins tokens)
      (back : Back written n (space written) e tokens) (calm : ends_with_comma source k ≡ false) (end : End m j) where
    listed_by : (ended : Bool) → ends_with_comma source j ≡ ended → (es : List Expr) (others : List Tok)
        → SpellsCommas source k m es others
        → ((p q : ℕ) → Stands written p others q
        → (found : List Expr) × Row (Item (text_of written) (just terminals.Comma) (Is (list_item written))) p q
        (map Values found)
        × LikeItems es found)
        → w ≡ listed (span_between source i j) ended (e ∷ es) → ListedAgain i j w
    listed_by false c [] others before row is =
        let at : j ≡ k = no_comma_end j k (subst (λ (x : ℕ). End x j) (sym (none_left before)) end) c in record {
          value = e;
          is = is;
          tokens = tokens;
          spells = subst (λ (x : ℕ). Spells source i x e tokens) (sym at) spelled;
          begins = begins;
          back = λ p q stand. let f = back p q stand in record {
            first = f.found;
            others = [];
            place = q;
            stop = q;
            one = f.reads;
            rest = done;
            end = inl refl;
            new = f.found;
            is = ap (λ (b : Bool). listed (span_between written p q) b (f.found ∷ []))
                (uncommaed written n p q (Values f.found ∷ []) f.reads);
            alike = f.alike;
          };
        }
    listed_by true c [] others before row is =
        let (at, old) = comma_end j k (subst (λ (x : ℕ). End x j) (sym (none_left before)) end) calm c in record {
          value = comma_list (span_between source i j) (e ∷ []);
          is = is;
          tokens = tokens ++ sign terminals.Comma ∷ [];
          spells = subst
              (λ (x : ℕ). Spells source i x (comma_list (span_between source i j) (e ∷ []))
              (tokens ++ sign terminals.Comma ∷ [])) (sym at)
              (spells.comma_one (span_between source i j) (unlisted alone spelled) old);
          begins = begins_more tokens (sign terminals.Comma ∷ []) begins;
          back = λ p q stand.
              let (place, left, right) = split written q tokens (sign terminals.Comma ∷ []) p stand in
              let f = back p place left in
              let m2 = is_of written place (sign terminals.Comma) (just terminals.Comma) right.0 refl in record {
                first = f.found;
                others = [];
                place = place;
                stop = place;
                one = f.reads;
                rest = done;
                end = inr (m2, sym right.1);
                new = comma_list (span_between written p q) (f.found ∷ []);
                is = ap (λ (b : Bool). listed (span_between written p q) b (f.found ∷ []))
                    (ap (ends_with_comma written) (sym right.1) ∙ behind_comma written place m2);
                alike = like_list (e ∷ []) (f.found ∷ []) separators.Comma arounds.Nothing (span_between source i j)
                    (span_between written p q)
                    (alike.item f.alike alike.no_items);
              };
        }
    listed_by ended c (next ∷ es) others before row is = record {
      value = comma_list (span_between source i j) (e ∷ next ∷ es);
      is = is;
      tokens = tokens ++ others;
      spells = spells.comma_more next (span_between source i j) (unlisted alone spelled) before (old_end m j end);
      begins = begins_more tokens others begins;
      back = λ p q stand.
          let (place, left, right) = split written q tokens others p stand in
          let f = back p place left in
          let (found, reads, liked) = row place q right in
          listed_found p q place f found reads liked;
    }
      where
        listed_found : (p q place : ℕ) (f : Found written n (space written) e p place) (found : List Expr)
            → Row (Item (text_of written) (just terminals.Comma) (Is (list_item written))) place q (map Values found)
            → LikeItems (next ∷ es) found
            → ListedFound (comma_list (span_between source i j) (e ∷ next ∷ es)) p q
        listed_found p q place f [] reads liked = absurd (some_more liked)
        listed_found p q place f (x ∷ xs) reads liked = record {
          first = f.found;
          others = x ∷ xs;
          place = place;
          stop = q;
          one = f.reads;
          rest = reads;
          end = inl refl;
          new = comma_list (span_between written p q) (f.found ∷ x ∷ xs);
          is = refl;
          alike = like_list (e ∷ next ∷ es) (f.found ∷ x ∷ xs) separators.Comma arounds.Nothing
              (span_between source i j) (span_between written p q)
              (alike.item f.alike liked);
        }

  module _ (operand : Again source written n space) where
    pub listed_again : (i j k m : ℕ) (u v w : List Part) → Was (space source) i k u
        → Row (Item (text_of source) (just terminals.Comma) (Was (list_item source))) k m v → End m j
        → ((e : Expr) (es : List Expr) → u ≡ Values e ∷ [] → v ≡ map Values es
        → w ≡ listed (span_between source i j) (ends_with_comma source j) (e ∷ es))
        → ListedAgain i j w
    listed_again i j k m u v w d row end is =
        let one = operand i k u d in
        let rest = commas_again operand row in
        listed_by i j k m w one.value one.tokens one.spells (spaces_plain source n i k u one.value d one.is) one.begins
        one.back (uncommaed source n i k u d) end
        (ends_with_comma source j)
        refl rest.values rest.tokens rest.spells rest.back (is one.value rest.values one.is rest.is)

    pub expr_again : Again source written n expr
    unfolding expr
    expr_again i j w (u, (k, u1, u2, d, (m, row, end), e5), e6) =
        let found = listed_again i j k m u1 u2 w d row end
        (λ e es p q. e6
        ∙ ap (to_list source i j)
        (e5 ∙ ap (λ (x : List Part). x ++ u2) p ∙ ap (λ (x : List Part). Values e ∷ x) q)
        ∙ ap (λ (x : List Expr). listed (span_between source i j) (ends_with_comma source j) (e ∷ x))
        (values_listed es)) in record {
          value = found.value;
          is = found.is;
          tokens = found.tokens;
          spells = found.spells;
          begins = found.begins;
          back = λ p q stand. let f = found.back p q stand in record {
            found = f.new;
            reads = (
              Values f.first ∷ map Values f.others,
              (f.place, Values f.first ∷ [], map Values f.others, f.one, (f.stop, f.rest, f.end), refl),
              sym (ap (λ (x : List Expr). listed (span_between written p q) (ends_with_comma written q)
                  (f.first ∷ x)) (values_listed f.others) ∙ f.is),
            );
            alike = f.alike;
          };
        }
