-- How media queries are written: ` and ` and ` or ` between features, `, ` between queries.
use Rattle.std.specs.Prelude.{ℕ, List, [], ◌∷◌, ◌++◌, length, Option, Some, None, ◌==◌, codes, if◌then◌else◌}
use Rattle.sw_media.specs.declared.query.Modifier.{Modifier}
use Rattle.sw_media.specs.declared.query.Modifier.TheVariants as modifiers
use Rattle.sw_media.specs.declared.query.Condition.{Condition}
use Rattle.sw_media.specs.declared.query.Condition.TheVariants as conditions
use Rattle.sw_media.specs.declared.query.Query.{Query}

abbrev pub separated : List ℕ → List ℕ → List ℕ
separated separator out = if length out == 0 then out else out ++ separator

-- texts behind what is written, with a separator between
abbrev pub joined_from : List ℕ → List ℕ → List (List ℕ) → List ℕ
joined_from separator out [] = out
joined_from separator out (text ∷ texts) = joined_from separator (separated separator out ++ text) texts

unfoldable pub joined : List ℕ → List (List ℕ) → List ℕ
joined separator texts = joined_from separator [] texts

abbrev pub condition_text : Condition → List ℕ
condition_text (conditions.And features) = joined (codes " and ") features
condition_text (conditions.Or features) = joined (codes " or ") features
condition_text (conditions.Not feature) = codes "not " ++ feature

abbrev pub modifier_text : Modifier → List ℕ
modifier_text modifiers.Unmodified = []
modifier_text modifiers.Not = codes "not "
modifier_text modifiers.Only = codes "only "

-- a condition behind a type
unfoldable pub behind_type : List ℕ → List ℕ
behind_type text = if length text == 0 then [] else codes " and " ++ text

abbrev pub typed_text : Modifier → Option (List ℕ) → List ℕ → List ℕ
typed_text modifier None text = text
typed_text modifier (Some medium) text = modifier_text modifier ++ medium ++ behind_type text

unfoldable pub query_text : Query → List ℕ
query_text query = typed_text query.modifier query.medium (condition_text query.condition)

abbrev pub queries_from : List ℕ → List Query → List ℕ
queries_from out [] = out
queries_from out (query ∷ list) = queries_from (separated (codes ", ") out ++ query_text query) list

-- the text of media queries
unfoldable pub queries_text : List Query → List ℕ
queries_text list = queries_from [] list
