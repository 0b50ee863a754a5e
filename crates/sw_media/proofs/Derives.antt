-- The reader finds what the grammar derives, and derives what it finds.
use Rattle.std.proofs.Common.{◌≡◌, ℕ, zero, suc, ◌+◌, ◌-◌, ◌≤◌, ◌<◌, Bool, true, false, ◌&&◌, ◌||◌, List, [], ◌∷◌, ◌++◌, length, refl, sym, ◌∙◌, ap, subst, arith, Option, Some, None, append_assoc, append-nil}
use Rattle.std.specs.Prelude.{◌==◌, nat_lt, if◌then◌else◌, unwrap_or, codes}
use Rattle.std.proofs.lemmas.Bool.Decides.{nat_tests}
use Rattle.sw_text_scan.specs.declared.brackets.Stops.TheVariants as stops
use Rattle.sw_text_scan.specs.declared.runs.Class.TheVariants as classes
use Rattle.sw_text_scan.specs.declared.signs.TheConstants.{END}
use Rattle.sw_text_scan.specs.Bytes.{sign, byte}
use Rattle.sw_text_scan.specs.Pieces.{piece}
use Rattle.sw_text_scan.specs.Brackets.{stop_at}
use Rattle.sw_text_scan.proofs.Bounds.{in_text, run_forward, if_true, if_false}
use Rattle.sw_media.specs.declared.query.Modifier.{Modifier}
use Rattle.sw_media.specs.declared.query.Modifier.TheVariants as modifiers
use Rattle.sw_media.specs.declared.query.Condition.{Condition}
use Rattle.sw_media.specs.declared.query.Condition.TheVariants as conditions
use Rattle.sw_media.specs.declared.query.Query.{Query}
use Rattle.sw_media.specs.Words.{white, name_end, word, is_at, is_type_at}
use Rattle.sw_media.specs.Features.{trimmed, sum_by, sum_at, in_parens, closed_by, declared_text, value_by, is_comparison, comparison_end, compared_text, compared_by, compared_at, last_by, range_by, sides_by, plain_at}
use Rattle.sw_media.specs.Writing.{condition_text}
use Rattle.sw_media.specs.Reading.{Conditions as Reader, nested_by, inside_at, feature_at, more_by, more_from, features_at, as_condition, denied, joined_by, condition_at, conditions_in, query_of, with_condition, all_by, typed_condition, conditioned, typed_at, untyped_at, modifies, query_at, list_by, list_from, queries_in}
use Rattle.sw_media.specs.Grammar as g
use Rattle.sw_media.specs.Grammar.{Inner, behind, Side, opens_condition, Plain, Feature, More, Conditions, Behind, IsQuery, Listed, Nested, IsQueryList}

pub equal : (b n : ℕ) → (b == n) ≡ true → b ≡ n
equal b n e = grind (arith, nat_tests)

pub split : {A P : Type 0} (b : Bool) (x y r : A) → (b ≡ true → x ≡ r → P) → (b ≡ false → y ≡ r → P) → (if b then x else y) ≡ r → P
split true x y r f g e = f refl e
split false x y r f g e = g refl e

same_first : {A B : Type 0} {a c : A} {b d : B} → ◌≡◌ {A = Option (A × B)} (Some (a, b)) (Some (c, d)) → a ≡ c
same_first {A} {B} {a} {c} {b} {d} e = ap (λ (o : Option (A × B)). (unwrap_or o (a, b)).0) e

same_second : {A B : Type 0} {a c : A} {b d : B} → ◌≡◌ {A = Option (A × B)} (Some (a, b)) (Some (c, d)) → b ≡ d
same_second {A} {B} {a} {c} {b} {d} e = ap (λ (o : Option (A × B)). (unwrap_or o (a, b)).1) e

some_is : {A : Type 0} {a b : A} → Some a ≡ Some b → a ≡ b
some_is e = cc

module _ (bs : List ℕ) where
  white_forward : (i : ℕ) → i ≤ white bs i
  white_forward i = run_forward bs classes.White i

  behind_forward : (i : ℕ) → i ≤ behind bs i
  behind_forward i = let a = run_forward bs classes.Name i in let b = white_forward (name_end bs i) in omega arith

  comparison_forward : (i : ℕ) → i < comparison_end bs i
  unfolding comparison_end
  comparison_forward i = go (((byte bs i == sign "<") || (byte bs i == sign ">")) && (byte bs (i + 1) == sign "="))
    where
      go : (t : Bool) → i < (if t then i + 2 else i + 1)
      go true = omega arith
      go false = omega arith

  at_sign : (i n : ℕ) → byte bs i ≡ n → (byte bs i == n) ≡ true
  at_sign i n e = subst (λ (b : ℕ). (b == n) ≡ true) (sym e) (same n)
    where
      same : (n : ℕ) → (n == n) ≡ true
      same n = grind (arith, nat_tests)

  paren_within : (i : ℕ) → byte bs i ≡ sign "(" → i < length bs
  paren_within i e = in_text (λ b. b == sign "(") bs i refl (at_sign i (sign "(") e)

  comma_within : (i : ℕ) → byte bs i ≡ sign "," → i < length bs
  comma_within i e = in_text (λ b. b == sign ",") bs i refl (at_sign i (sign ",") e)

  -- sides
  side_found : (i j : ℕ) → Side bs i j → sum_at bs i ≡ Some (trimmed bs i j, j)
  unfolding sum_by
  side_found i j s = ap (sum_by bs i) s.0 ∙ if_true (nat_lt (white bs i) j) _ None (let lt = s.1 in grind (arith, nat_tests))

  record SideTold (i : ℕ) (x : List ℕ × ℕ) : Type 0 where
    side : Side bs i x.1
    text : trimmed bs i x.1 ≡ x.0

  side_by : (i : ℕ) (o : Option ℕ) (x : List ℕ × ℕ) → stop_at stops.Sum bs i ≡ o → sum_by bs i o ≡ Some x → SideTold i x
  unfolding sum_by
  side_by i None x e f = absurd (cc)
  side_by i (Some j) x e f =
      split (nat_lt (white bs i) j) (Some (trimmed bs i j, j)) None (Some x)
      (λ t h. let same : (trimmed bs i j, j) ≡ x = some_is h in
      subst (SideTold i) same (record { side = (e, grind (arith, nat_tests)); text = refl })) (λ t h. absurd (cc)) f

  side_told : (i : ℕ) (x : List ℕ × ℕ) → sum_at bs i ≡ Some x → SideTold i x
  side_told i x e = side_by i (stop_at stops.Sum bs i) x refl e

  side_further : (i j : ℕ) → Side bs i j → i < j
  side_further i j s = let a = white_forward i in let b = s.1 in omega arith

  -- features without conditions; the place of their `)` is told behind them
  closed_found : (text : List ℕ) (j : ℕ) → byte bs j ≡ sign ")" → closed_by bs text j ≡ Some (in_parens text, j + 1)
  closed_found text j e = if_true (byte bs j == sign ")") _ None (at_sign j (sign ")") e)

  compared_found : (left : List ℕ) (k j : ℕ) → is_comparison (byte bs k) ≡ true → Side bs (comparison_end bs k) j
      → compared_at bs left k ≡ Some (compared_text left (piece bs k (comparison_end bs k)) (trimmed bs (comparison_end bs k) j), j)
  unfolding compared_at
  compared_found left k j c s = if_true (is_comparison (byte bs k)) _ None c ∙ ap (compared_by bs left k) (side_found (comparison_end bs k) j s)

  not_paren : (b : ℕ) → is_comparison b ≡ true → (b == sign ")") ≡ false
  not_paren b e = grind (arith, nat_tests)

  not_colon : (b : ℕ) → is_comparison b ≡ true → (b == sign ":") ≡ false
  not_colon b e = grind (arith, nat_tests)

  sides_alone : (text : List ℕ) (j : ℕ) → byte bs j ≡ sign ")" → sides_by bs (Some (text, j)) ≡ Some (in_parens text, j + 1)
  unfolding sides_by
  sides_alone text j e = if_true (byte bs j == sign ")") _ _ (at_sign j (sign ")") e)

  sides_valued : (text : List ℕ) (k j : ℕ) → byte bs k ≡ sign ":" → Side bs (k + 1) j → byte bs j ≡ sign ")"
      → sides_by bs (Some (text, k)) ≡ Some (in_parens (declared_text text (trimmed bs (k + 1) j)), j + 1)
  unfolding sides_by value_by
  sides_valued text k j e s f =
      if_false (byte bs k == sign ")") _ _ (ap (λ (b : ℕ). b == sign ")") e) ∙ if_true (byte bs k == sign ":") _ _ (at_sign k (sign ":") e)
      ∙ ap (value_by bs text) (side_found (k + 1) j s) ∙ closed_found (declared_text text (trimmed bs (k + 1) j)) j f

  sides_range : (text : List ℕ) (k : ℕ) → is_comparison (byte bs k) ≡ true → sides_by bs (Some (text, k)) ≡ range_by bs (compared_at bs text k)
  unfolding sides_by
  sides_range text k c =
      if_false (byte bs k == sign ")") _ _ (not_paren (byte bs k) c) ∙ if_false (byte bs k == sign ":") _ _ (not_colon (byte bs k) c)

  range_ends : (text : List ℕ) (j : ℕ) → byte bs j ≡ sign ")" → range_by bs (Some (text, j)) ≡ Some (in_parens text, j + 1)
  unfolding range_by
  range_ends text j e = if_true (byte bs j == sign ")") _ _ (at_sign j (sign ")") e)

  range_goes : (text : List ℕ) (l : ℕ) → is_comparison (byte bs l) ≡ true → range_by bs (Some (text, l)) ≡ last_by bs (compared_at bs text l)
  unfolding range_by
  range_goes text l c = if_false (byte bs l == sign ")") _ _ (not_paren (byte bs l) c)

  plain_found : (i j : ℕ) (text : List ℕ) → Plain bs i j text → plain_at bs i ≡ Some (in_parens text, j + 1)
  plain_found i j text (g.Plain.alone s e) = ap (sides_by bs) (side_found i j s) ∙ sides_alone (trimmed bs i j) j e
  plain_found i j text (g.Plain.valued {k} s c v e) = ap (sides_by bs) (side_found i k s) ∙ sides_valued (trimmed bs i k) k j c v e
  plain_found i j text (g.Plain.compared {k} s c r e) =
      ap (sides_by bs) (side_found i k s) ∙ sides_range (trimmed bs i k) k c ∙ ap (range_by bs) (compared_found (trimmed bs i k) k j c r) ∙ range_ends _ j e
  plain_found i j text (g.Plain.between {k} {l} s c r d t e) =
      ap (sides_by bs) (side_found i k s) ∙ sides_range (trimmed bs i k) k c ∙ ap (range_by bs) (compared_found (trimmed bs i k) k l c r) ∙ range_goes _ l d
      ∙ ap (last_by bs) (compared_found _ l j d t) ∙ closed_found _ j e

  -- what the reader finds between parentheses
  record PlainTold (i : ℕ) (x : List ℕ × ℕ) : Type 0 where
    text : List ℕ
    end : ℕ
    plain : Plain bs i end text
    is : (in_parens text, end + 1) ≡ x

  told_as : (i j : ℕ) (text left : List ℕ) (x : List ℕ × ℕ) → text ≡ left → Plain bs i j text → (in_parens left, j + 1) ≡ x → PlainTold i x
  told_as i j text left x e p f = record { text = left; end = j; plain = subst (Plain bs i j) e p; is = f }

  close_told : (text : List ℕ) (j : ℕ) (x : List ℕ × ℕ) → closed_by bs text j ≡ Some x → (byte bs j ≡ sign ")") × ((in_parens text, j + 1) ≡ x)
  close_told text j x e =
      split (byte bs j == sign ")") (Some (in_parens text, j + 1)) None (Some x) (λ t f. (equal (byte bs j) (sign ")") t, some_is f)) (λ t f. absurd (cc)) e

  record ComparedTold (left : List ℕ) (k : ℕ) (x : List ℕ × ℕ) : Type 0 where
    test : is_comparison (byte bs k) ≡ true
    side : Side bs (comparison_end bs k) x.1
    text : compared_text left (piece bs k (comparison_end bs k)) (trimmed bs (comparison_end bs k) x.1) ≡ x.0

  compared_by_told : (left : List ℕ) (k : ℕ) (o : Option (List ℕ × ℕ)) (x : List ℕ × ℕ) → is_comparison (byte bs k) ≡ true
      → sum_at bs (comparison_end bs k) ≡ o → compared_by bs left k o ≡ Some x → ComparedTold left k x
  compared_by_told left k None x c e f = absurd (cc)
  compared_by_told left k (Some y) x c e f =
      let side = side_told (comparison_end bs k) y e in
      let same : (compared_text left (piece bs k (comparison_end bs k)) y.0, y.1) ≡ x = some_is f in
      subst (ComparedTold left k) same
      (record { test = c; side = side.side; text = ap (compared_text left (piece bs k (comparison_end bs k))) side.text })

  compared_told : (left : List ℕ) (k : ℕ) (x : List ℕ × ℕ) → compared_at bs left k ≡ Some x → ComparedTold left k x
  unfolding compared_at
  compared_told left k x e =
      split (is_comparison (byte bs k)) (compared_by bs left k (sum_at bs (comparison_end bs k))) None (Some x)
      (λ c f. compared_by_told left k (sum_at bs (comparison_end bs k)) x c refl f) (λ c f. absurd (cc)) e

  last_told : (i k : ℕ) (left : List ℕ) (o : Option (List ℕ × ℕ)) (x y : List ℕ × ℕ) → Side bs i k → left ≡ trimmed bs i k → ComparedTold left k y
      → compared_at bs y.0 y.1 ≡ o → last_by bs o ≡ Some x → PlainTold i x
  last_told i k left None x y s l c e f = absurd (cc)
  last_told i k left (Some z) x y s l c e f =
      let last = compared_told y.0 y.1 z e in
      let close = close_told z.0 z.1 x f in
      told_as i z.1 _ z.0 x
      (ap (λ (t : List ℕ). compared_text (compared_text t (piece bs k (comparison_end bs k)) (trimmed bs (comparison_end bs k) y.1)) (piece bs y.1 (comparison_end bs y.1)) (trimmed bs (comparison_end bs y.1) z.1)) (sym l)
      ∙ ap (λ (t : List ℕ). compared_text t (piece bs y.1 (comparison_end bs y.1)) (trimmed bs (comparison_end bs y.1) z.1)) c.text ∙ last.text)
      (g.Plain.between s c.test c.side last.test last.side close.0) close.1

  range_told : (i k : ℕ) (left : List ℕ) (o : Option (List ℕ × ℕ)) (x : List ℕ × ℕ) → Side bs i k → left ≡ trimmed bs i k
      → compared_at bs left k ≡ o → range_by bs o ≡ Some x → PlainTold i x
  unfolding range_by
  range_told i k left None x s l e f = absurd (cc)
  range_told i k left (Some y) x s l e f =
      let c = compared_told left k y e in
      split (byte bs y.1 == sign ")") (Some (in_parens y.0, y.1 + 1)) (last_by bs (compared_at bs y.0 y.1)) (Some x)
      (λ t h. told_as i y.1 _ y.0 x (ap (λ (u : List ℕ). compared_text u (piece bs k (comparison_end bs k)) (trimmed bs (comparison_end bs k) y.1)) (sym l) ∙ c.text)
      (g.Plain.compared s c.test c.side (equal (byte bs y.1) (sign ")") t)) (some_is h))
      (λ t h. last_told i k left (compared_at bs y.0 y.1) x y s l c refl h) f

  value_told : (i k : ℕ) (left : List ℕ) (o : Option (List ℕ × ℕ)) (x : List ℕ × ℕ) → Side bs i k → left ≡ trimmed bs i k → byte bs k ≡ sign ":"
      → sum_at bs (k + 1) ≡ o → value_by bs left o ≡ Some x → PlainTold i x
  unfolding value_by
  value_told i k left None x s l c e f = absurd (cc)
  value_told i k left (Some y) x s l c e f =
      let value = side_told (k + 1) y e in
      let close = close_told (declared_text left y.0) y.1 x f in
      told_as i y.1 _ (declared_text left y.0) x
      (ap (λ (t : List ℕ). declared_text t (trimmed bs (k + 1) y.1)) (sym l) ∙ ap (declared_text left) value.text)
      (g.Plain.valued s c value.side close.0) close.1

  sides_told : (i : ℕ) (o : Option (List ℕ × ℕ)) (x : List ℕ × ℕ) → sum_at bs i ≡ o → sides_by bs o ≡ Some x → PlainTold i x
  unfolding sides_by
  sides_told i None x e f = absurd (cc)
  sides_told i (Some y) x e f =
      let first = side_told i y e in
      split (byte bs y.1 == sign ")") (Some (in_parens y.0, y.1 + 1)) _ (Some x)
      (λ t h. told_as i y.1 _ y.0 x first.text (g.Plain.alone first.side (equal (byte bs y.1) (sign ")") t)) (some_is h))
      (λ t r. split (byte bs y.1 == sign ":") (value_by bs y.0 (sum_at bs (y.1 + 1))) (range_by bs (compared_at bs y.0 y.1)) (Some x)
      (λ c h. value_told i y.1 y.0 (sum_at bs (y.1 + 1)) x first.side (sym first.text) (equal (byte bs y.1) (sign ":") c) refl h)
      (λ c h. range_told i y.1 y.0 (compared_at bs y.0 y.1) x first.side (sym first.text) refl h) r) f

  plain_told : (i : ℕ) (x : List ℕ × ℕ) → plain_at bs i ≡ Some x → PlainTold i x
  plain_told i x e = sides_told i (sum_at bs i) x refl e

  plain_further : (i j : ℕ) (text : List ℕ) → Plain bs i j text → i < j
  plain_further i j text (g.Plain.alone s e) = side_further i j s
  plain_further i j text (g.Plain.valued {k} s c v e) = let a = side_further i k s in let b = side_further (k + 1) j v in omega arith
  plain_further i j text (g.Plain.compared {k} s c r e) =
      let a = side_further i k s in let b = comparison_forward k in let d = side_further (comparison_end bs k) j r in omega arith
  plain_further i j text (g.Plain.between {k} {l} s c r d t e) =
      let a = side_further i k s in let b = comparison_forward k in let m = side_further (comparison_end bs k) l r in
      let n = comparison_forward l in let o = side_further (comparison_end bs l) j t in omega arith

-- what is read in parentheses is what the grammar has there
pub record Fits (bs : List ℕ) (deeper : Reader) (inner : Inner) : Type 0 where
  pub sound : (i j : ℕ) (condition : Condition) → deeper i ≡ Some (condition, j) → inner i j condition
  pub complete : (i j : ℕ) (condition : Condition) → inner i j condition → deeper i ≡ Some (condition, j)
  pub forward : (i j : ℕ) (condition : Condition) → inner i j condition → i ≤ j

module _ (bs : List ℕ) (deeper : Reader) (inner : Inner) (fits : Fits bs deeper inner) where
  -- features
  feature_opens : (i : ℕ) → byte bs i ≡ sign "(" → feature_at deeper bs i ≡ inside_at deeper bs (white bs (i + 1))
  unfolding feature_at
  feature_opens i e = if_true (byte bs i == sign "(") _ None (at_sign bs i (sign "(") e)

  inside_nested : (i : ℕ) → opens_condition bs i ≡ true → inside_at deeper bs i ≡ nested_by bs (deeper i)
  unfolding inside_at
  inside_nested i e = if_true (opens_condition bs i) _ _ e

  inside_plain : (i : ℕ) → opens_condition bs i ≡ false → inside_at deeper bs i ≡ plain_at bs i
  unfolding inside_at
  inside_plain i e = if_false (opens_condition bs i) _ _ e

  nested_found : (i k : ℕ) (condition : Condition) → inner i k condition → byte bs (white bs k) ≡ sign ")"
      → nested_by bs (deeper i) ≡ Some (in_parens (condition_text condition), white bs k + 1)
  unfolding nested_by
  nested_found i k condition c e = ap (nested_by bs) (fits.complete i k condition c) ∙ closed_found bs (condition_text condition) (white bs k) e

  feature_found : (i j : ℕ) (text : List ℕ) → Feature inner bs i j text → feature_at deeper bs i ≡ Some (text, j)
  feature_found i j text (g.Feature.nested {k} {condition} s o c e) =
      feature_opens i s ∙ inside_nested (white bs (i + 1)) o ∙ nested_found (white bs (i + 1)) k condition c e
  feature_found i j text (g.Feature.plain {k} {text = inside} s o p) =
      feature_opens i s ∙ inside_plain (white bs (i + 1)) o ∙ plain_found bs (white bs (i + 1)) k inside p

  feature_further : (i j : ℕ) (text : List ℕ) → Feature inner bs i j text → i < j
  feature_further i j text (g.Feature.nested {k} {condition} s o c e) =
      let a = white_forward bs (i + 1) in let b = fits.forward (white bs (i + 1)) k condition c in let d = white_forward bs k in omega arith
  feature_further i j text (g.Feature.plain {k} {text = inside} s o p) =
      let a = white_forward bs (i + 1) in let b = plain_further bs (white bs (i + 1)) k inside p in omega arith

  feature_within : (i j : ℕ) (text : List ℕ) → Feature inner bs i j text → i < length bs
  feature_within i j text (g.Feature.nested s o c e) = paren_within bs i s
  feature_within i j text (g.Feature.plain s o p) = paren_within bs i s

  nested_told : (i : ℕ) (o : Option (Condition × ℕ)) (x : List ℕ × ℕ) → byte bs i ≡ sign "(" → opens_condition bs (white bs (i + 1)) ≡ true
      → deeper (white bs (i + 1)) ≡ o → nested_by bs o ≡ Some x → Feature inner bs i x.1 x.0
  unfolding nested_by
  nested_told i None x s t e f = absurd (cc)
  nested_told i (Some y) x s t e f =
      let close = close_told bs (condition_text y.0) (white bs y.1) x f in
      subst (λ (z : List ℕ × ℕ). Feature inner bs i z.1 z.0) close.1 (g.Feature.nested s t (fits.sound (white bs (i + 1)) y.1 y.0 e) close.0)

  feature_told : (i : ℕ) (x : List ℕ × ℕ) → feature_at deeper bs i ≡ Some x → Feature inner bs i x.1 x.0
  unfolding feature_at inside_at
  feature_told i x e =
      split (byte bs i == sign "(") (inside_at deeper bs (white bs (i + 1))) None (Some x)
      (λ s f. split (opens_condition bs (white bs (i + 1))) (nested_by bs (deeper (white bs (i + 1)))) (plain_at bs (white bs (i + 1))) (Some x)
      (λ o h. nested_told i (deeper (white bs (i + 1))) x (equal (byte bs i) (sign "(") s) o refl h)
      (λ o h. let told = plain_told bs (white bs (i + 1)) x h in
      subst (λ (z : List ℕ × ℕ). Feature inner bs i z.1 z.0) told.is (g.Feature.plain (equal (byte bs i) (sign "(") s) o told.plain)) f)
      (λ s f. absurd (cc)) e

  -- further features
  more_found_from : (keyword : List ℕ) (i j : ℕ) (list : List (List ℕ)) → More inner bs keyword i j list → (n : ℕ) (done : List (List ℕ)) → length bs - i < n
      → more_from deeper bs keyword n done i ≡ Some (done ++ list, j)
  more_found_from keyword i j list m zero done enough = absurd (omega arith)
  more_found_from keyword i j list (g.More.none e) (suc n) done enough =
      if_false (is_at keyword bs (white bs i)) _ _ e ∙ ap (λ (x : List (List ℕ)). Some (x, i)) (sym (append-nil done))
  more_found_from keyword i j list (g.More.more {k} {feature} {list = rest} e f more) (suc n) done enough =
      let a = white_forward bs i in let b = behind_forward bs (white bs i) in
      let within = feature_within (behind bs (white bs i)) k feature f in
      let further = feature_further (behind bs (white bs i)) k feature f in
      if_true (is_at keyword bs (white bs i)) _ _ e
      ∙ ap (more_by (more_from deeper bs keyword n) done) (feature_found (behind bs (white bs i)) k feature f)
      ∙ more_found_from keyword k j rest more n (done ++ feature ∷ []) (omega arith)
      ∙ ap (λ (x : List (List ℕ)). Some (x, j)) (append_assoc done (feature ∷ []) rest)

  features_found : (keyword first : List ℕ) (i j : ℕ) (list : List (List ℕ)) → More inner bs keyword i j list → features_at deeper bs keyword (first ∷ []) i ≡ Some (first ∷ list, j)
  unfolding features_at
  features_found keyword first i j list m = more_found_from keyword i j list m (length bs + 1) (first ∷ []) (omega arith)

  record MoreTold (keyword : List ℕ) (done : List (List ℕ)) (i : ℕ) (x : List (List ℕ) × ℕ) : Type 0 where
    list : List (List ℕ)
    more : More inner bs keyword i x.1 list
    is : done ++ list ≡ x.0

  more_told_from : (keyword : List ℕ) (n : ℕ) (done : List (List ℕ)) (i : ℕ) (x : List (List ℕ) × ℕ) → more_from deeper bs keyword n done i ≡ Some x → MoreTold keyword done i x
  more_told_from keyword zero done i x e = absurd (cc)
  more_told_from keyword (suc n) done i x e =
      split (is_at keyword bs (white bs i)) (more_by (more_from deeper bs keyword n) done (feature_at deeper bs (behind bs (white bs i)))) (Some (done, i)) (Some x)
      (λ t f. go t (feature_at deeper bs (behind bs (white bs i))) (λ y h. feature_told (behind bs (white bs i)) y h) (λ d k h. more_told_from keyword n d k x h) f)
      (λ t f. let same : (done, i) ≡ x = some_is f in subst (MoreTold keyword done i) same (record { list = []; more = g.More.none t; is = append-nil done })) e
    where
      go : is_at keyword bs (white bs i) ≡ true → (o : Option (List ℕ × ℕ)) → ((y : List ℕ × ℕ) → o ≡ Some y → Feature inner bs (behind bs (white bs i)) y.1 y.0)
          → ((d : List (List ℕ)) (k : ℕ) → more_from deeper bs keyword n d k ≡ Some x → MoreTold keyword d k x)
          → more_by (more_from deeper bs keyword n) done o ≡ Some x → MoreTold keyword done i x
      go t None is ih f = absurd (cc)
      go t (Some y) is ih f =
          let on = ih (done ++ y.0 ∷ []) y.1 f in
          record { list = y.0 ∷ on.list; more = g.More.more t (is y refl) on.more; is = sym (append_assoc done (y.0 ∷ []) on.list) ∙ on.is }

  features_told : (keyword first : List ℕ) (i : ℕ) (x : List (List ℕ) × ℕ) → features_at deeper bs keyword (first ∷ []) i ≡ Some x → MoreTold keyword (first ∷ []) i x
  unfolding features_at
  features_told keyword first i x e = more_told_from keyword (length bs + 1) (first ∷ []) i x e

  more_forward : (keyword : List ℕ) (i j : ℕ) (list : List (List ℕ)) → More inner bs keyword i j list → i ≤ j
  more_forward keyword i j list (g.More.none e) = omega arith
  more_forward keyword i j list (g.More.more {k} {feature} {list = rest} e f more) =
      let a = white_forward bs i in let b = behind_forward bs (white bs i) in
      let d = feature_further (behind bs (white bs i)) k feature f in let m = more_forward keyword k j rest more in omega arith

  -- conditions
  condition_found : (i j : ℕ) (condition : Condition) → Conditions inner bs i j condition → condition_at deeper bs i ≡ Some (condition, j)
  unfolding condition_at joined_by
  condition_found i j condition (g.Conditions.all {k} {feature} {list} n f o more) =
      if_false (is_at (codes "not") bs i) _ _ n ∙ ap (joined_by deeper bs) (feature_found i k feature f)
      ∙ if_false (is_at (codes "or") bs (white bs k)) _ _ o ∙ ap (as_condition conditions.And) (features_found (codes "and") feature k j list more)
  condition_found i j condition (g.Conditions.some {k} {feature} {list} n f o more) =
      if_false (is_at (codes "not") bs i) _ _ n ∙ ap (joined_by deeper bs) (feature_found i k feature f)
      ∙ if_true (is_at (codes "or") bs (white bs k)) _ _ o ∙ ap (as_condition conditions.Or) (features_found (codes "or") feature k j list more)
  condition_found i j condition (g.Conditions.denied {feature} n f) =
      if_true (is_at (codes "not") bs i) _ _ n ∙ ap denied (feature_found (behind bs i) j feature f)

  record AsTold (kind : List (List ℕ) → Condition) (keyword first : List ℕ) (i : ℕ) (x : Condition × ℕ) : Type 0 where
    list : List (List ℕ)
    more : More inner bs keyword i x.1 list
    is : kind (first ∷ list) ≡ x.0

  as_told : (kind : List (List ℕ) → Condition) (keyword first : List ℕ) (i : ℕ) (o : Option (List (List ℕ) × ℕ)) (x : Condition × ℕ)
      → features_at deeper bs keyword (first ∷ []) i ≡ o → as_condition kind o ≡ Some x → AsTold kind keyword first i x
  as_told kind keyword first i None x e f = absurd (cc)
  as_told kind keyword first i (Some y) x e f =
      let told = features_told keyword first i y e in
      let same : (kind y.0, y.1) ≡ x = some_is f in
      subst (AsTold kind keyword first i) same (record { list = told.list; more = told.more; is = ap kind told.is })

  denied_told : (R : ℕ → Condition → Type 0) (i : ℕ) (o : Option (List ℕ × ℕ)) (x : Condition × ℕ) → feature_at deeper bs i ≡ o → denied o ≡ Some x
      → ((j : ℕ) (feature : List ℕ) → Feature inner bs i j feature → R j (conditions.Not feature)) → R x.1 x.0
  denied_told R i None x e f make = absurd (cc)
  denied_told R i (Some y) x e f make =
      let same : (conditions.Not y.0, y.1) ≡ x = some_is f in
      subst (λ (z : Condition × ℕ). R z.1 z.0) same (make y.1 y.0 (feature_told i y e))

  joined_told : (i : ℕ) (o : Option (List ℕ × ℕ)) (x : Condition × ℕ) → is_at (codes "not") bs i ≡ false → feature_at deeper bs i ≡ o
      → joined_by deeper bs o ≡ Some x → Conditions inner bs i x.1 x.0
  unfolding joined_by
  joined_told i None x n e f = absurd (cc)
  joined_told i (Some y) x n e f =
      split (is_at (codes "or") bs (white bs y.1)) (as_condition conditions.Or (features_at deeper bs (codes "or") (y.0 ∷ []) y.1)) (as_condition conditions.And (features_at deeper bs (codes "and") (y.0 ∷ []) y.1)) (Some x)
      (λ t h. let told = as_told conditions.Or (codes "or") y.0 y.1 (features_at deeper bs (codes "or") (y.0 ∷ []) y.1) x refl h in
      subst (Conditions inner bs i x.1) told.is (g.Conditions.some n (feature_told i y e) t told.more))
      (λ t h. let told = as_told conditions.And (codes "and") y.0 y.1 (features_at deeper bs (codes "and") (y.0 ∷ []) y.1) x refl h in
      subst (Conditions inner bs i x.1) told.is (g.Conditions.all n (feature_told i y e) t told.more)) f

  condition_told : (i : ℕ) (x : Condition × ℕ) → condition_at deeper bs i ≡ Some x → Conditions inner bs i x.1 x.0
  unfolding condition_at
  condition_told i x e =
      split (is_at (codes "not") bs i) (denied (feature_at deeper bs (behind bs i))) (joined_by deeper bs (feature_at deeper bs i)) (Some x)
      (λ t f. denied_told (λ j c. Conditions inner bs i j c) (behind bs i) (feature_at deeper bs (behind bs i)) x refl f (λ j feature h. g.Conditions.denied t h))
      (λ t f. joined_told i (feature_at deeper bs i) x t refl f) e

  condition_forward : (i j : ℕ) (condition : Condition) → Conditions inner bs i j condition → i ≤ j
  condition_forward i j condition (g.Conditions.all {k} {feature} {list} n f o more) =
      let a = feature_further i k feature f in let b = more_forward (codes "and") k j list more in omega arith
  condition_forward i j condition (g.Conditions.some {k} {feature} {list} n f o more) =
      let a = feature_further i k feature f in let b = more_forward (codes "or") k j list more in omega arith
  condition_forward i j condition (g.Conditions.denied {feature} n f) =
      let a = behind_forward bs i in let b = feature_further (behind bs i) j feature f in omega arith

  -- behind a type
  behind_found : (i j : ℕ) (condition : Condition) → Behind inner bs i j condition → conditioned deeper bs i ≡ Some (condition, j)
  unfolding conditioned typed_condition all_by
  behind_found i j condition (g.Behind.nothing a) = if_false (is_at (codes "and") bs (white bs i)) _ _ a
  behind_found i j condition (g.Behind.all {k} {feature} {list} a n f more) =
      if_true (is_at (codes "and") bs (white bs i)) _ _ a ∙ if_false (is_at (codes "not") bs (behind bs (white bs i))) _ _ n
      ∙ ap (all_by deeper bs) (feature_found (behind bs (white bs i)) k feature f)
      ∙ ap (as_condition conditions.And) (features_found (codes "and") feature k j list more)
  behind_found i j condition (g.Behind.denied {feature} a n f) =
      if_true (is_at (codes "and") bs (white bs i)) _ _ a ∙ if_true (is_at (codes "not") bs (behind bs (white bs i))) _ _ n
      ∙ ap denied (feature_found (behind bs (behind bs (white bs i))) j feature f)

  all_told : (i : ℕ) (o : Option (List ℕ × ℕ)) (x : Condition × ℕ) → is_at (codes "and") bs (white bs i) ≡ true → is_at (codes "not") bs (behind bs (white bs i)) ≡ false
      → feature_at deeper bs (behind bs (white bs i)) ≡ o → all_by deeper bs o ≡ Some x → Behind inner bs i x.1 x.0
  unfolding all_by
  all_told i None x a n e f = absurd (cc)
  all_told i (Some y) x a n e f =
      let told = as_told conditions.And (codes "and") y.0 y.1 (features_at deeper bs (codes "and") (y.0 ∷ []) y.1) x refl f in
      subst (Behind inner bs i x.1) told.is (g.Behind.all a n (feature_told (behind bs (white bs i)) y e) told.more)

  behind_told : (i : ℕ) (x : Condition × ℕ) → conditioned deeper bs i ≡ Some x → Behind inner bs i x.1 x.0
  unfolding conditioned typed_condition
  behind_told i x e =
      split (is_at (codes "and") bs (white bs i)) (typed_condition deeper bs (behind bs (white bs i))) (Some (conditions.And [], i)) (Some x)
      (λ a f. split (is_at (codes "not") bs (behind bs (white bs i))) (denied (feature_at deeper bs (behind bs (behind bs (white bs i))))) (all_by deeper bs (feature_at deeper bs (behind bs (white bs i)))) (Some x)
      (λ n h. denied_told (λ j c. Behind inner bs i j c) (behind bs (behind bs (white bs i))) (feature_at deeper bs (behind bs (behind bs (white bs i)))) x refl h (λ j feature d. g.Behind.denied a n d))
      (λ n h. all_told i (feature_at deeper bs (behind bs (white bs i))) x a n refl h) f)
      (λ a f. let same : (conditions.And [], i) ≡ x = some_is f in subst (λ (z : Condition × ℕ). Behind inner bs i z.1 z.0) same (g.Behind.nothing a)) e

  behind_type_forward : (i j : ℕ) (condition : Condition) → Behind inner bs i j condition → i ≤ j
  behind_type_forward i j condition (g.Behind.nothing a) = omega arith
  behind_type_forward i j condition (g.Behind.all {k} {feature} {list} a n f more) =
      let w = white_forward bs i in let b = behind_forward bs (white bs i) in
      let d = feature_further (behind bs (white bs i)) k feature f in let m = more_forward (codes "and") k j list more in omega arith
  behind_type_forward i j condition (g.Behind.denied {feature} a n f) =
      let w = white_forward bs i in let b = behind_forward bs (white bs i) in let c = behind_forward bs (behind bs (white bs i)) in
      let d = feature_further (behind bs (behind bs (white bs i))) j feature f in omega arith

  -- queries
  typed_found : (modifier : Modifier) (i j : ℕ) (condition : Condition) → Behind inner bs (name_end bs i) j condition
      → typed_at deeper bs modifier i ≡ Some (query_of modifier (Some (word bs i)) condition, j)
  unfolding typed_at
  typed_found modifier i j condition b = ap (with_condition modifier (Some (word bs i))) (behind_found (name_end bs i) j condition b)

  query_found : (i j : ℕ) (query : Query) → IsQuery inner bs i j query → query_at deeper bs i ≡ Some (query, j)
  unfolding query_at
  query_found i j query (g.IsQuery.denied {condition} n b) =
      if_true (modifies (codes "not") bs i) _ _ n ∙ typed_found modifiers.Not (behind bs i) j condition b
  query_found i j query (g.IsQuery.only {condition} n o b) =
      if_false (modifies (codes "not") bs i) _ _ n ∙ if_true (modifies (codes "only") bs i) _ _ o ∙ typed_found modifiers.Only (behind bs i) j condition b
  query_found i j query (g.IsQuery.typed {condition} n o t b) =
      if_false (modifies (codes "not") bs i) _ _ n ∙ if_false (modifies (codes "only") bs i) _ _ o ∙ if_true (is_type_at bs i) _ _ t
      ∙ typed_found modifiers.Unmodified i j condition b
  query_found i j query (g.IsQuery.untyped {condition} n o t c) =
      if_false (modifies (codes "not") bs i) _ _ n ∙ if_false (modifies (codes "only") bs i) _ _ o ∙ if_false (is_type_at bs i) _ _ t
      ∙ ap (with_condition modifiers.Unmodified None) (condition_found i j condition c)

  with_told : (R : ℕ → Query → Type 0) (modifier : Modifier) (medium : Option (List ℕ)) (o : Option (Condition × ℕ)) (x : Query × ℕ) → with_condition modifier medium o ≡ Some x
      → ((y : Condition × ℕ) → o ≡ Some y → R y.1 (query_of modifier medium y.0)) → R x.1 x.0
  with_told R modifier medium None x e make = absurd (cc)
  with_told R modifier medium (Some y) x e make =
      let same : (query_of modifier medium y.0, y.1) ≡ x = some_is e in
      subst (λ (z : Query × ℕ). R z.1 z.0) same (make y refl)

  typed_told : (R : ℕ → Query → Type 0) (modifier : Modifier) (i : ℕ) (x : Query × ℕ) → typed_at deeper bs modifier i ≡ Some x
      → ((j : ℕ) (condition : Condition) → Behind inner bs (name_end bs i) j condition → R j (query_of modifier (Some (word bs i)) condition)) → R x.1 x.0
  unfolding typed_at
  typed_told R modifier i x e make =
      with_told R modifier (Some (word bs i)) (conditioned deeper bs (name_end bs i)) x e (λ y f. make y.1 y.0 (behind_told (name_end bs i) y f))

  query_told : (i : ℕ) (x : Query × ℕ) → query_at deeper bs i ≡ Some x → IsQuery inner bs i x.1 x.0
  unfolding query_at
  query_told i x e =
      split (modifies (codes "not") bs i) (typed_at deeper bs modifiers.Not (behind bs i)) _ (Some x)
      (λ n f. typed_told (λ j q. IsQuery inner bs i j q) modifiers.Not (behind bs i) x f (λ j c b. g.IsQuery.denied n b))
      (λ n r. split (modifies (codes "only") bs i) (typed_at deeper bs modifiers.Only (behind bs i)) _ (Some x)
      (λ o f. typed_told (λ j q. IsQuery inner bs i j q) modifiers.Only (behind bs i) x f (λ j c b. g.IsQuery.only n o b))
      (λ o r. split (is_type_at bs i) (typed_at deeper bs modifiers.Unmodified i) (untyped_at deeper bs i) (Some x)
      (λ t f. typed_told (λ j q. IsQuery inner bs i j q) modifiers.Unmodified i x f (λ j c b. g.IsQuery.typed n o t b))
      (λ t f. with_told (λ j q. IsQuery inner bs i j q) modifiers.Unmodified None (condition_at deeper bs i) x f (λ y h. g.IsQuery.untyped n o t (condition_told i y h))) r) r) e

  query_forward : (i j : ℕ) (query : Query) → IsQuery inner bs i j query → i ≤ j
  query_forward i j query (g.IsQuery.denied {condition} n b) =
      let a = behind_forward bs i in let c = run_forward bs classes.Name (behind bs i) in let d = behind_type_forward (name_end bs (behind bs i)) j condition b in omega arith
  query_forward i j query (g.IsQuery.only {condition} n o b) =
      let a = behind_forward bs i in let c = run_forward bs classes.Name (behind bs i) in let d = behind_type_forward (name_end bs (behind bs i)) j condition b in omega arith
  query_forward i j query (g.IsQuery.typed {condition} n o t b) =
      let c = run_forward bs classes.Name i in let d = behind_type_forward (name_end bs i) j condition b in omega arith
  query_forward i j query (g.IsQuery.untyped {condition} n o t c) = condition_forward i j condition c

  -- whole texts
  listed_found_from : (i : ℕ) (list : List Query) → Listed inner bs i list → (n : ℕ) (done : List Query) → length bs - i < n → list_from deeper bs n done i ≡ Some (done ++ list)
  listed_found_from i list l zero done enough = absurd (omega arith)
  listed_found_from i list (g.Listed.last {j} {query} q e) (suc n) done enough =
      ap (list_by (list_from deeper bs n) bs done) (query_found (white bs i) j query q)
      ∙ if_false (byte bs (white bs j) == sign ",") _ _ (ap (λ (b : ℕ). b == sign ",") e)
      ∙ if_true (byte bs (white bs j) == END) _ None (at_sign bs (white bs j) END e)
  listed_found_from i list (g.Listed.more {j} {query} {list = rest} q e more) (suc n) done enough =
      let a = white_forward bs i in let b = query_forward (white bs i) j query q in let c = white_forward bs j in
      let within = comma_within bs (white bs j) e in
      ap (list_by (list_from deeper bs n) bs done) (query_found (white bs i) j query q)
      ∙ if_true (byte bs (white bs j) == sign ",") _ _ (at_sign bs (white bs j) (sign ",") e)
      ∙ listed_found_from (white bs j + 1) rest more n (done ++ query ∷ []) (omega arith)
      ∙ ap Some (append_assoc done (query ∷ []) rest)

  record ListTold (i : ℕ) (done out : List Query) : Type 0 where
    list : List Query
    rest : Listed inner bs i list
    is : done ++ list ≡ out

  listed_told_from : (n : ℕ) (done out : List Query) (i : ℕ) → list_from deeper bs n done i ≡ Some out → ListTold i done out
  listed_told_from zero done out i e = absurd (cc)
  listed_told_from (suc n) done out i e =
      go (query_at deeper bs (white bs i)) (λ x f. query_told (white bs i) x f) (λ done k f. listed_told_from n done out k f) e
    where
      go : (o : Option (Query × ℕ)) → ((x : Query × ℕ) → o ≡ Some x → IsQuery inner bs (white bs i) x.1 x.0)
          → ((done : List Query) (k : ℕ) → list_from deeper bs n done k ≡ Some out → ListTold k done out)
          → list_by (list_from deeper bs n) bs done o ≡ Some out → ListTold i done out
      go None is ih f = absurd (cc)
      go (Some x) is ih f =
          split (byte bs (white bs x.1) == sign ",") (list_from deeper bs n (done ++ x.0 ∷ []) (white bs x.1 + 1)) _ (Some out)
          (λ t h. let on = ih (done ++ x.0 ∷ []) (white bs x.1 + 1) h in
          record { list = x.0 ∷ on.list; rest = g.Listed.more (is x refl) (equal (byte bs (white bs x.1)) (sign ",") t) on.rest; is = sym (append_assoc done (x.0 ∷ []) on.list) ∙ on.is })
          (λ t r. split (byte bs (white bs x.1) == END) (Some (done ++ x.0 ∷ [])) None (Some out)
          (λ u h. record { list = x.0 ∷ []; rest = g.Listed.last (is x refl) (equal (byte bs (white bs x.1)) END u); is = some_is h }) (λ u h. absurd (cc)) r) f

-- with each number of levels
levels_fit : (bs : List ℕ) (levels : ℕ) → Fits bs (conditions_in bs levels) (Nested bs levels)
levels_fit bs zero = record { sound = λ i j c e. absurd (cc); complete = λ i j c e. absurd e; forward = λ i j c e. absurd e }
levels_fit bs (suc levels) =
    let fits = levels_fit bs levels in
    record {
      sound = λ i j c e. condition_told bs (conditions_in bs levels) (Nested bs levels) fits i (c, j) e;
      complete = λ i j c d. condition_found bs (conditions_in bs levels) (Nested bs levels) fits i j c d;
      forward = λ i j c d. condition_forward bs (conditions_in bs levels) (Nested bs levels) fits i j c d;
    }

pub list_found : (levels : ℕ) (bs : List ℕ) (list : List Query) → IsQueryList levels bs list → queries_in bs levels ≡ Some list
unfolding queries_in
list_found levels bs list l = listed_found_from bs (conditions_in bs levels) (Nested bs levels) (levels_fit bs levels) 0 list l (length bs + 1) [] (omega arith)

pub list_told : (levels : ℕ) (bs : List ℕ) (list : List Query) → queries_in bs levels ≡ Some list → IsQueryList levels bs list
unfolding queries_in
list_told levels bs list e =
    let on = listed_told_from bs (conditions_in bs levels) (Nested bs levels) (levels_fit bs levels) (length bs + 1) [] list 0 e in
    subst (Listed (Nested bs levels) bs 0) on.is on.rest
