-- What a list of media queries is (Media Queries Level 4), row by row. A row says that what stands from one place of a
-- text to another is such a thing, and what it reads as.
use Rattle.std.specs.Prelude.{◌≡◌, ℕ, zero, suc, ◌+◌, ◌<◌, Bool, true, false, ◌||◌, List, [], ◌∷◌, Some, None, ◌==◌, codes}
use Rattle.sw_text_scan.specs.declared.brackets.Stops.TheVariants as stops
use Rattle.sw_text_scan.specs.declared.signs.TheConstants.{END}
use Rattle.sw_text_scan.specs.Bytes.{sign, byte}
use Rattle.sw_text_scan.specs.Pieces.{piece}
use Rattle.sw_text_scan.specs.Brackets.{stop_at}
use Rattle.sw_media.specs.declared.query.Modifier.TheVariants as modifiers
use Rattle.sw_media.specs.declared.query.Condition.{Condition}
use Rattle.sw_media.specs.declared.query.Condition.TheVariants as conditions
use Rattle.sw_media.specs.declared.query.Query.{Query}
use Rattle.sw_media.specs.Words.{white, name_end, word, is_at, is_type_at}
use Rattle.sw_media.specs.Features.{trimmed, in_parens, declared_text, is_comparison, comparison_end, compared_text}
use Rattle.sw_media.specs.Writing.{condition_text}
use Rattle.sw_media.specs.Reading.{query_of, modifies}

-- what reads as a condition from a place to another, in parentheses
abbrev pub Inner : Type 1
Inner = ℕ → ℕ → Condition → Type 0

-- behind the keyword at i and white space
abbrev pub behind : List ℕ → ℕ → ℕ
behind bs i = white bs (name_end bs i)

-- a text that isn't blank, whose strings and brackets are closed, up to the first `)`, `:`, `<`, `>` or `=` outside
-- them
abbrev pub Side : List ℕ → ℕ → ℕ → Type 0
Side bs i j = (stop_at stops.Sum bs i ≡ Some j) × (white bs i < j)

-- in parentheses a condition stands exactly where `(` or `not` comes next
abbrev pub opens_condition : List ℕ → ℕ → Bool
opens_condition bs i = (byte bs i == sign "(") || is_at (codes "not") bs i

-- one side, a name with a value, and two or three sides that are compared, up to the `)` at j
pub data Plain (bs : List ℕ) : ℕ → ℕ → List ℕ → Type 0 where
  alone : {i j : ℕ} → Side bs i j → byte bs j ≡ sign ")" → Plain bs i j (trimmed bs i j)
  valued : {i k j : ℕ} → Side bs i k → byte bs k ≡ sign ":" → Side bs (k + 1) j → byte bs j ≡ sign ")"
      → Plain bs i j (declared_text (trimmed bs i k) (trimmed bs (k + 1) j))
  compared : {i k j : ℕ} → Side bs i k → is_comparison (byte bs k) ≡ true → Side bs (comparison_end bs k) j
      → byte bs j ≡ sign ")"
      → Plain bs i j
      (compared_text (trimmed bs i k) (piece bs k (comparison_end bs k)) (trimmed bs (comparison_end bs k) j))
  between : {i k l j : ℕ} → Side bs i k → is_comparison (byte bs k) ≡ true → Side bs (comparison_end bs k) l
      → is_comparison (byte bs l) ≡ true → Side bs (comparison_end bs l) j → byte bs j ≡ sign ")"
      → Plain bs i j (compared_text
      (compared_text (trimmed bs i k) (piece bs k (comparison_end bs k)) (trimmed bs (comparison_end bs k) l))
      (piece bs l (comparison_end bs l)) (trimmed bs (comparison_end bs l) j))

-- a feature, in parentheses
pub data Feature (inner : Inner) (bs : List ℕ) : ℕ → ℕ → List ℕ → Type 0 where
  nested : {i k : ℕ} {condition : Condition} → byte bs i ≡ sign "(" → opens_condition bs (white bs (i + 1)) ≡ true
      → inner (white bs (i + 1)) k condition → byte bs (white bs k) ≡ sign ")"
      → Feature inner bs i (white bs k + 1) (in_parens (condition_text condition))
  plain : {i k : ℕ} {text : List ℕ} → byte bs i ≡ sign "(" → opens_condition bs (white bs (i + 1)) ≡ false
      → Plain bs (white bs (i + 1)) k text → Feature inner bs i (k + 1) (in_parens text)

-- further features, each behind this keyword, as long as it stands there
pub data More (inner : Inner) (bs keyword : List ℕ) : ℕ → ℕ → List (List ℕ) → Type 0 where
  none : {i : ℕ} → is_at keyword bs (white bs i) ≡ false → More inner bs keyword i i []
  more : {i k j : ℕ} {feature : List ℕ} {list : List (List ℕ)} → is_at keyword bs (white bs i) ≡ true
      → Feature inner bs (behind bs (white bs i)) k feature → More inner bs keyword k j list
      → More inner bs keyword i j (feature ∷ list)

-- features with `and` between, or with `or`, or `not` and one feature
pub data Conditions (inner : Inner) (bs : List ℕ) : ℕ → ℕ → Condition → Type 0 where
  all : {i k j : ℕ} {feature : List ℕ} {list : List (List ℕ)} → is_at (codes "not") bs i ≡ false
      → Feature inner bs i k feature
      → is_at (codes "or") bs (white bs k) ≡ false → More inner bs (codes "and") k j list
      → Conditions inner bs i j (conditions.And (feature ∷ list))
  some : {i k j : ℕ} {feature : List ℕ} {list : List (List ℕ)} → is_at (codes "not") bs i ≡ false
      → Feature inner bs i k feature
      → is_at (codes "or") bs (white bs k) ≡ true → More inner bs (codes "or") k j list
      → Conditions inner bs i j (conditions.Or (feature ∷ list))
  denied : {i j : ℕ} {feature : List ℕ} → is_at (codes "not") bs i ≡ true → Feature inner bs (behind bs i) j feature
      → Conditions inner bs i j (conditions.Not feature)

-- what stands behind a type: nothing, or `and` and features, or `and not` and one feature
pub data Behind (inner : Inner) (bs : List ℕ) : ℕ → ℕ → Condition → Type 0 where
  nothing : {i : ℕ} → is_at (codes "and") bs (white bs i) ≡ false → Behind inner bs i i (conditions.And [])
  all : {i k j : ℕ} {feature : List ℕ} {list : List (List ℕ)} → is_at (codes "and") bs (white bs i) ≡ true
      → is_at (codes "not") bs (behind bs (white bs i)) ≡ false → Feature inner bs (behind bs (white bs i)) k feature
      → More inner bs (codes "and") k j list → Behind inner bs i j (conditions.And (feature ∷ list))
  denied : {i j : ℕ} {feature : List ℕ} → is_at (codes "and") bs (white bs i) ≡ true
      → is_at (codes "not") bs (behind bs (white bs i)) ≡ true
      → Feature inner bs (behind bs (behind bs (white bs i))) j feature
      → Behind inner bs i j (conditions.Not feature)

-- a type with `not`, `only` or neither before it, and where none of these can stand a condition
pub data IsQuery (inner : Inner) (bs : List ℕ) : ℕ → ℕ → Query → Type 0 where
  denied : {i j : ℕ} {condition : Condition} → modifies (codes "not") bs i ≡ true
      → Behind inner bs (name_end bs (behind bs i)) j condition
      → IsQuery inner bs i j (query_of modifiers.Not (Some (word bs (behind bs i))) condition)
  only : {i j : ℕ} {condition : Condition} → modifies (codes "not") bs i ≡ false → modifies (codes "only") bs i ≡ true
      → Behind inner bs (name_end bs (behind bs i)) j condition
      → IsQuery inner bs i j (query_of modifiers.Only (Some (word bs (behind bs i))) condition)
  typed : {i j : ℕ} {condition : Condition} → modifies (codes "not") bs i ≡ false → modifies (codes "only") bs i ≡ false
      → is_type_at bs i ≡ true → Behind inner bs (name_end bs i) j condition
      → IsQuery inner bs i j (query_of modifiers.Unmodified (Some (word bs i)) condition)
  untyped : {i j : ℕ} {condition : Condition} → modifies (codes "not") bs i ≡ false
      → modifies (codes "only") bs i ≡ false
      → is_type_at bs i ≡ false → Conditions inner bs i j condition
      → IsQuery inner bs i j (query_of modifiers.Unmodified None condition)

-- queries up to the end of the text, with commas between
pub data Listed (inner : Inner) (bs : List ℕ) : ℕ → List Query → Type 0 where
  last : {i j : ℕ} {query : Query} → IsQuery inner bs (white bs i) j query → byte bs (white bs j) ≡ END
      → Listed inner bs i (query ∷ [])
  more : {i j : ℕ} {query : Query} {list : List Query} → IsQuery inner bs (white bs i) j query
      → byte bs (white bs j) ≡ sign ","
      → Listed inner bs (white bs j + 1) list → Listed inner bs i (query ∷ list)

-- a condition in parentheses, in which at most so many of them stand in each other, this one counted
abbrev pub Nested : List ℕ → ℕ → Inner
Nested bs zero i j condition = ⊥
Nested bs (suc levels) i j condition = Conditions (Nested bs levels) bs i j condition

-- the text is a list of media queries, and these are they
abbrev pub IsQueryList : ℕ → List ℕ → List Query → Type 0
IsQueryList levels bs list = Listed (Nested bs levels) bs 0 list
