-- Sets of terminals that the grammar of expressions speaks of.
use Rattle.std.specs.Prelude.{ℕ, List, [], ◌∷◌, ◌++◌}
use Rattle.sw_parse_terminals.specs.declared.terminal.Terminal.TheVariants.{Raw, SpecialComma, RawParen, RawBracket, Insert, Number, Sign, Quoted, Template, Hash, True, False, Null, Url, UrlTemplate, Special, Dollar, DollarNamed, Owner, Word, WordMinus, WordInsert, Range, Ampersand, Bang, Paren, ConditionParen, Bracket, PrefixPlus, PrefixMinus, PrefixSlash, Not, Ending, Or, And, Equal, NotEqual, Less, LessEqual, Greater, GreaterEqual, Plus, Minus, Times, Divide, Modulo}
use Rattle.sw_parse_terminals.specs.Numbers.{these, just}
use Rattle.sw_parse_table.specs.declared.operator.Precedence.{Precedence}
use Rattle.sw_parse_table.specs.declared.operator.Precedence.TheVariants as precedences

-- the operators of each chain
abbrev pub ors : List ℕ
ors = just Or

abbrev pub ands : List ℕ
ands = just And

abbrev pub equalities : List ℕ
equalities = these (Equal ∷ NotEqual ∷ [])

abbrev pub relations : List ℕ
relations = these (Less ∷ LessEqual ∷ Greater ∷ GreaterEqual ∷ [])

abbrev pub sums : List ℕ
sums = these (Plus ∷ Minus ∷ [])

abbrev pub products : List ℕ
products = these (Times ∷ Divide ∷ Modulo ∷ [])

-- the same by how they bind
abbrev pub operators : Precedence → List ℕ
operators precedences.Product = products
operators precedences.Sum = sums
operators precedences.Relation = relations
operators precedences.Equality = equalities
operators precedences.And = ands
operators precedences.Or = ors

abbrev pub prefixes : List ℕ
prefixes = these (PrefixPlus ∷ PrefixMinus ∷ PrefixSlash ∷ Not ∷ [])

abbrev pub numbers : List ℕ
numbers = these (Sign ∷ Number ∷ [])

abbrev pub constants : List ℕ
constants = these (True ∷ False ∷ Null ∷ [])

abbrev pub words : List ℕ
words = these (Word ∷ WordMinus ∷ WordInsert ∷ [])

abbrev pub dollars : List ℕ
dollars = these (Dollar ∷ DollarNamed ∷ [])

abbrev pub bangs : List ℕ
bangs = these (Bang ∷ Ending ∷ [])

abbrev pub parens_opening : List ℕ
parens_opening = these (Paren ∷ ConditionParen ∷ [])

-- those with which a literal begins, an operand, and a value
abbrev pub literals : List ℕ
literals = numbers ++ these (Quoted ∷ Template ∷ Hash ∷ []) ++ constants ++ these (Url ∷ UrlTemplate ∷ [])

abbrev pub others : List ℕ
others = words ++ these (Range ∷ Ampersand ∷ []) ++ bangs ++ parens_opening ++ just Bracket

abbrev pub primaries : List ℕ
primaries = literals ++ just Special ++ dollars ++ just Owner ++ others

abbrev pub starts : List ℕ
starts = prefixes ++ primaries

-- text as it stands in a special function's text, with what a value by itself begins there, and any item of that text
abbrev pub special_texts : List ℕ
special_texts = these (Raw ∷ SpecialComma ∷ [])

abbrev pub special_values : List ℕ
special_values = numbers ++ dollars ++ just Owner ++ words

abbrev pub special_starts : List ℕ
special_starts = special_texts ++ just Insert ++ special_values ++ these (RawParen ∷ RawBracket ∷ [])

-- what ends a value where it could go on
abbrev pub endings : List ℕ
endings = just Ending
