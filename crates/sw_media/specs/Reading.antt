-- What media queries a text is (Media Queries Level 4): queries joined by commas. A query is a type with conditions,
-- where the text can be read so, else a condition.
use Rattle.std.specs.Prelude.{◌≡◌, ℕ, zero, suc, ◌+◌, List, [], ◌∷◌, ◌++◌, length, Option, Some, None, Result, Ok, Err, Bool, ◌&&◌, ◌||◌, ◌==◌, nat_lt, codes, if◌then◌else◌}
use Rattle.sw_text_scan.specs.declared.signs.TheConstants.{END}
use Rattle.sw_text_scan.specs.Bytes.{sign, byte}
use Rattle.sw_media.specs.declared.reader.TheConstants.{LEVELS, MOST_QUERIES}
use Rattle.sw_media.specs.declared.fault.MediaFault.{MediaFault}
use Rattle.sw_media.specs.declared.fault.MediaFault.TheVariants.{BadQuery, MediaJoin, TooLarge, Memory}
use Rattle.sw_media.specs.declared.query.Modifier.{Modifier}
use Rattle.sw_media.specs.declared.query.Modifier.TheVariants as modifiers
use Rattle.sw_media.specs.declared.query.Condition.{Condition}
use Rattle.sw_media.specs.declared.query.Condition.TheVariants as conditions
use Rattle.sw_media.specs.declared.query.Query.{Query}
use Rattle.sw_media.specs.declared.query.Queries.{Queries}
use Rattle.sw_media.specs.Words.{white, name_end, word, is_at, is_type_at}
use Rattle.sw_media.specs.Features.{closed_by, plain_at}
use Rattle.sw_media.specs.Writing.{condition_text}

-- a condition and the place behind it, from a place on
abbrev pub Conditions : Type 0
Conditions = ℕ → Option (Condition × ℕ)

-- a condition in parentheses
unfoldable pub nested_by : List ℕ → Option (Condition × ℕ) → Option (List ℕ × ℕ)
nested_by bs None = None
nested_by bs (Some x) = closed_by bs (condition_text x.0) (white bs x.1)

-- the inside of parentheses
unfoldable pub inside_at : Conditions → List ℕ → ℕ → Option (List ℕ × ℕ)
inside_at deeper bs i =
    if (byte bs i == sign "(") || is_at (codes "not") bs i then nested_by bs (deeper i) else plain_at bs i

-- the text of a feature, and the place behind it
unfoldable pub feature_at : Conditions → List ℕ → ℕ → Option (List ℕ × ℕ)
feature_at deeper bs i = if byte bs i == sign "(" then inside_at deeper bs (white bs (i + 1)) else None

abbrev pub more_by : (List (List ℕ) → ℕ → Option (List (List ℕ) × ℕ)) → List (List ℕ) → Option (List ℕ × ℕ)
    → Option (List (List ℕ) × ℕ)
more_by on list None = None
more_by on list (Some x) = on (list ++ x.0 ∷ []) x.1

-- further features, each behind this keyword, from behind a feature on; at most n
abbrev pub more_from : Conditions → List ℕ → List ℕ → ℕ → List (List ℕ) → ℕ → Option (List (List ℕ) × ℕ)
more_from deeper bs keyword zero list i = None
more_from deeper bs keyword (suc n) list i =
    if is_at keyword bs (white bs i)
    then more_by (more_from deeper bs keyword n) list (feature_at deeper bs (white bs (name_end bs (white bs i))))
    else Some (list, i)

unfoldable pub features_at : Conditions → List ℕ → List ℕ → List (List ℕ) → ℕ → Option (List (List ℕ) × ℕ)
features_at deeper bs keyword list i = more_from deeper bs keyword (length bs + 1) list i

abbrev pub as_condition : (List (List ℕ) → Condition) → Option (List (List ℕ) × ℕ) → Option (Condition × ℕ)
as_condition kind None = None
as_condition kind (Some x) = Some (kind x.0, x.1)

abbrev pub denied : Option (List ℕ × ℕ) → Option (Condition × ℕ)
denied None = None
denied (Some x) = Some (conditions.Not x.0, x.1)

-- behind a first feature
unfoldable pub joined_by : Conditions → List ℕ → Option (List ℕ × ℕ) → Option (Condition × ℕ)
joined_by deeper bs None = None
joined_by deeper bs (Some x) =
    if is_at (codes "or") bs (white bs x.1)
    then as_condition conditions.Or (features_at deeper bs (codes "or") (x.0 ∷ []) x.1)
    else as_condition conditions.And (features_at deeper bs (codes "and") (x.0 ∷ []) x.1)

-- features with `and` between, or with `or`, or `not` and one feature
unfoldable pub condition_at : Conditions → List ℕ → Conditions
condition_at deeper bs i =
    if is_at (codes "not") bs i then denied (feature_at deeper bs (white bs (name_end bs i)))
    else joined_by deeper bs (feature_at deeper bs i)

-- a condition in parentheses from i on, with so many of them in each other, this one counted
abbrev pub conditions_in : List ℕ → ℕ → Conditions
conditions_in bs zero i = None
conditions_in bs (suc levels) i = condition_at (conditions_in bs levels) bs i

abbrev pub query_of : Modifier → Option (List ℕ) → Condition → Query
query_of modifier medium condition = record { modifier = modifier; medium = medium; condition = condition }

abbrev pub with_condition : Modifier → Option (List ℕ) → Option (Condition × ℕ) → Option (Query × ℕ)
with_condition modifier medium None = None
with_condition modifier medium (Some x) = Some (query_of modifier medium x.0, x.1)

-- behind a first feature: further ones with `and` between
unfoldable pub all_by : Conditions → List ℕ → Option (List ℕ × ℕ) → Option (Condition × ℕ)
all_by deeper bs None = None
all_by deeper bs (Some x) = as_condition conditions.And (features_at deeper bs (codes "and") (x.0 ∷ []) x.1)

-- behind the `and` of a type
unfoldable pub typed_condition : Conditions → List ℕ → ℕ → Option (Condition × ℕ)
typed_condition deeper bs i =
    if is_at (codes "not") bs i then denied (feature_at deeper bs (white bs (name_end bs i)))
    else all_by deeper bs (feature_at deeper bs i)

-- behind a type
unfoldable pub conditioned : Conditions → List ℕ → ℕ → Option (Condition × ℕ)
conditioned deeper bs i =
    if is_at (codes "and") bs (white bs i)
    then typed_condition deeper bs (white bs (name_end bs (white bs i))) else Some (conditions.And [], i)

-- a type, with what stands before it
unfoldable pub typed_at : Conditions → List ℕ → Modifier → ℕ → Option (Query × ℕ)
typed_at deeper bs modifier i = with_condition modifier (Some (word bs i)) (conditioned deeper bs (name_end bs i))

abbrev pub untyped_at : Conditions → List ℕ → ℕ → Option (Query × ℕ)
untyped_at deeper bs i = with_condition modifiers.Unmodified None (condition_at deeper bs i)

-- `not` or `only` stands before a type
abbrev pub modifies : List ℕ → List ℕ → ℕ → Bool
modifies keyword bs i = is_at keyword bs i && is_type_at bs (white bs (name_end bs i))

unfoldable pub query_at : Conditions → List ℕ → ℕ → Option (Query × ℕ)
query_at deeper bs i =
    if modifies (codes "not") bs i then typed_at deeper bs modifiers.Not (white bs (name_end bs i))
    else (if modifies (codes "only") bs i then typed_at deeper bs modifiers.Only (white bs (name_end bs i))
    else (if is_type_at bs i then typed_at deeper bs modifiers.Unmodified i
    else untyped_at deeper bs i))

abbrev pub list_by : (List Query → ℕ → Option (List Query)) → List ℕ → List Query → Option (Query × ℕ)
    → Option (List Query)
list_by on bs list None = None
list_by on bs list (Some x) =
    if byte bs (white bs x.1) == sign "," then on (list ++ x.0 ∷ []) (white bs x.1 + 1)
    else (if byte bs (white bs x.1) == END then Some (list ++ x.0 ∷ []) else None)

abbrev pub list_from : Conditions → List ℕ → ℕ → List Query → ℕ → Option (List Query)
list_from deeper bs zero list i = None
list_from deeper bs (suc n) list i = list_by (list_from deeper bs n) bs list (query_at deeper bs (white bs i))

-- the queries of a text, in which at most so many conditions stand in each other in parentheses
unfoldable pub queries_in : List ℕ → ℕ → Option (List Query)
queries_in bs levels = list_from (conditions_in bs levels) bs (length bs + 1) [] 0

abbrev pub within_limit : List Query → Result (List Query) MediaFault
within_limit list = if nat_lt MOST_QUERIES (length list) then Err TooLarge else Ok list

abbrev pub limited : Option (List Query) → Result (List Query) MediaFault
limited None = Err BadQuery
limited (Some list) = within_limit list

-- the queries of a text, or why it has none
unfoldable pub queries_of : List ℕ → Result (List Query) MediaFault
queries_of bs = limited (queries_in bs LEVELS)

-- these are the queries, or this is why there are none; or no memory was found
abbrev pub IsAnswer : Result Queries MediaFault → Result (List Query) MediaFault → Type 0
IsAnswer (Ok queries) said = said ≡ Ok queries
IsAnswer (Err Memory) said = Unit {0}
IsAnswer (Err BadQuery) said = said ≡ Err BadQuery
IsAnswer (Err MediaJoin) said = said ≡ Err MediaJoin
IsAnswer (Err TooLarge) said = said ≡ Err TooLarge
