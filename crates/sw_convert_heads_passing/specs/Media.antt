-- Media queries as they are written: `and`, `or` and `not` between features in parentheses, media types, and `#{}` in their
-- places.
use Rattle.std.specs.Prelude.{◌≡◌, ℕ, Bool, true, false, not, ◌&&◌, ◌||◌, if◌then◌else◌, List, [], ◌∷◌, ◌++◌}
use Rattle.sw_parse_terminals.specs.declared.terminal.Terminal.{Terminal}
use Rattle.sw_parse_terminals.specs.declared.terminal.Terminal.TheVariants as terminals
use Rattle.sw_parse_lexemes.specs.declared.sort.Sort.{Sort}
use Rattle.sw_parse_lexemes.specs.declared.sort.Sort.TheVariants as sorts
use Rattle.sw_parse_lexemes.specs.declared.plain.Plain.{Plain}
use Rattle.sw_parse_lexemes.specs.declared.state.Mode.TheVariants as modes
use Rattle.sw_parse_lexemes.specs.declared.state.Frame.{Frame}
use Rattle.sw_parse_lexemes.specs.declared.state.State.{State}
use Rattle.sw_parse_lexemes.specs.Classes.{is_name, is_reserved, same}
use Rattle.sw_convert_passing.specs.Written.{Written, written, direct, apart, Stand}
use Rattle.sw_convert_passing.specs.Places.{Told, IsClosed}
use Rattle.sw_convert_passing.specs.Values.{Value, Row, Items, Parts, ahead, enclosed, inserted, begins_insert}
use Rattle.sw_convert_passing.specs.Heads.{Starts}

abbrev pub is_insert : Sort → Bool
is_insert sort = same sort sorts.OpenInsert

-- tokens before which a `(` opens a condition: another `(`, or `not`
abbrev pub opens : List Written → Bool
opens [] = false
opens (token ∷ tokens) =
    same token.sort sorts.OpenParen || (same token.sort sorts.Not && not (ahead is_insert 0 tokens))

-- and others, of which the first is no comment
abbrev pub is_code : Sort → Bool
is_code sorts.Comment = false
is_code sorts.CommentTemplate = false
is_code sorts.CommentEnd = false
is_code _ = true

abbrev pub opens_no_condition : List Written → Bool
opens_no_condition [] = false
opens_no_condition (token ∷ tokens) = is_code token.sort && not (opens (token ∷ tokens))

-- a word begins with them: a name, a `#{`, or a `-` before one
abbrev pub begins_type : List Written → Bool
begins_type [] = false
begins_type (token ∷ tokens) =
    if is_name token.sort then not (is_reserved token.sort) || ahead is_insert 0 tokens
    else (is_insert token.sort || (same token.sort sorts.Minus && ahead is_insert 0 tokens))

-- the two words between features
pub data Joins : Sort → Terminal → Type 0 where
  and_joins : Joins sorts.And terminals.And
  or_joins : Joins sorts.Or terminals.Or

-- values with `=` between them, in which other operators stand
pub data Compared : Bool → List Written → Type 0 where
  one_side : {spaced signed : Bool} {value : List Written} → Value modes.Expression spaced signed value
      → Compared spaced value
  equal_sides : {spaced signed : Bool} {left right : List Written} → Compared spaced left
      → Value modes.Expression true signed right
      → Compared spaced (left ++ apart sorts.Equals terminals.Equals ∷ right)

-- a feature in its parentheses
pub data Inside : List Written → Type 0 where
  feature_row : {ended : Bool} {row : List Written} → Row modes.Expression false ended row → Inside row
  feature_compared : {values : List Written} → Compared false values → Inside values

mutual
  -- a feature, with white space before it or not
  pub data Feature : Bool → List Written → Type 0 where
    insert_feature : {spaced : Bool} {inner : List Written} → Items inner
        → Feature spaced (inserted spaced terminals.WordInsert inner [])
    condition_feature : {spaced : Bool} {inner : List Written} → Condition inner → opens inner ≡ true
        → Feature spaced
        (enclosed (written sorts.OpenParen spaced terminals.ConditionParen) inner
        (direct sorts.CloseParen terminals.ParenEnd) [])
    inside_feature : {spaced : Bool} {inner : List Written} → Inside inner → opens_no_condition inner ≡ true
        → Feature spaced
        (enclosed (written sorts.OpenParen spaced terminals.Paren) inner (direct sorts.CloseParen terminals.ParenEnd) [])

  -- features with a word before each
  pub data Features : Sort → Terminal → List Written → Type 0 where
    no_feature : {word : Sort} {terminal : Terminal} → Features word terminal []
    more_features : {word : Sort} {terminal : Terminal} {one rest : List Written} → Feature true one → Features word terminal rest
        → Features word terminal (apart word terminal ∷ (one ++ rest))

  -- what stands in the parentheses of a condition
  pub data Condition : List Written → Type 0 where
    not_condition : {one : List Written} → Feature true one → Condition (direct sorts.Not terminals.Not ∷ one)
    joined_condition : {word : Sort} {terminal : Terminal} {one rest : List Written} → Joins word terminal
        → Feature false one → Features word terminal rest → Condition (one ++ rest)

-- the name of a media type: no operator, and no `only` or `not`
abbrev pub is_type : Sort → Bool
is_type sorts.Only = false
is_type sort = is_name sort && not (is_reserved sort)

pub data TypeName : Bool → List Written → Type 0 where
  named_type : {spaced : Bool} {parts : List Written} → (sort : Sort) → is_name sort ≡ true
      → (begins_insert parts || is_type sort) ≡ true → Parts parts
      → TypeName spaced (written sort spaced terminals.Word ∷ parts)
  inserted_type : {spaced : Bool} {inner parts : List Written} → Items inner → Parts parts
      → TypeName spaced (inserted spaced terminals.WordInsert inner parts)
  minus_type : {spaced : Bool} {inner parts : List Written} → Items inner → Parts parts
      → TypeName spaced
      (written sorts.Minus spaced terminals.WordMinus ∷ inserted false terminals.WordInsert inner parts)

-- the features behind it
pub data TypeRest : List Written → Type 0 where
  type_features : {rest : List Written} → Features sorts.And terminals.And rest → TypeRest rest
  type_not : {one : List Written} → Feature true one
      → TypeRest (apart sorts.And terminals.And ∷ apart sorts.Not terminals.Not ∷ one)

pub data Typed : List Written → Type 0 where
  typed : {name rest : List Written} → TypeName true name → TypeRest rest → Typed (name ++ rest)

-- a query, with white space before it
pub data Query : List Written → Type 0 where
  only_query : {media : List Written} → Typed media → begins_type media ≡ true
      → Query (apart sorts.Only terminals.Only ∷ media)
  not_type_query : {media : List Written} → Typed media → Query (apart sorts.Not terminals.NotType ∷ media)
  typed_query : {media : List Written} → Typed media → Query media
  -- `not` before parentheses
  not_query : {one : List Written} → Feature true one → opens one ≡ true
      → Query (apart sorts.Not terminals.Not ∷ one)
  joined_query : {word : Sort} {terminal : Terminal} {one rest : List Written} → Joins word terminal
      → Feature true one → Features word terminal rest → Query (one ++ rest)

pub data Queries : List Written → Type 0 where
  one_query : {one : List Written} → Query one → Queries one
  more_queries : {one rest : List Written} → Query one → Queries rest
      → Queries (one ++ direct sorts.Comma terminals.Comma ∷ rest)

abbrev pub media_tokens : Bool → List Written → List Written
media_tokens spaced queries = written sorts.AtMedia spaced terminals.AtMedia ∷ queries

-- where a statement begins the head of `@media` is what it is written as, before white space
abbrev pub MediaIsTold : Type 0
MediaIsTold =
    (spaced : Bool) (queries : List Written) → Queries queries → (plains : List Plain) (frames : List Frame)
    (state : State) (at to : ℕ) → Starts frames state → Stand plains at (media_tokens spaced queries) to
    → IsClosed plains to → Told plains modes.Media frames state at (media_tokens spaced queries) to
