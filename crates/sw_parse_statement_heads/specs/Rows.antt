-- Parts of the table's rows of statements that readers answer, and what was read of each.
use Rattle.std.specs.Prelude.{ℕ, List, [], ◌∷◌, ◌++◌, map, Option, Some, None}
use Rattle.sw_parse_grammar.specs.Grammar.{Grammar, keep, skip, seq, alt, many, build}
use Rattle.sw_parse_terminals.specs.declared.terminal.Terminal.{Terminal}
use Rattle.sw_parse_terminals.specs.declared.terminal.Terminal.TheVariants as terminals
use Rattle.sw_parse_terminals.specs.Numbers.{these, just}
use Rattle.sw_tree.specs.declared.load.Url.{Url as LoadedUrl}
use Rattle.sw_tree.specs.declared.load.Filter.{Filter}
use Rattle.sw_tree.specs.declared.load.Given.{Given}
use Rattle.sw_tree.specs.declared.statement.Level.{Level}
use Rattle.sw_tree.specs.declared.statement.Statement.{Statement}
use Rattle.sw_tree.specs.declared.statement.Statement.TheVariants as statements
use Rattle.sw_text.specs.declared.place.Span.{Span}
use Rattle.sw_parse_table.specs.declared.source.Source.{Source}
use Rattle.sw_parse_table.specs.Parts.{Part, Form, Place, Behind, Owns, Values, Gives}
use Rattle.sw_parse_table.specs.Sets.{endings}
use Rattle.sw_parse_table.specs.Sources.{bytes_at}
use Rattle.sw_parse_table.specs.Actions.{to_behind, to_say, to_return}
use Rattle.sw_parse_table.specs.Expressions.{signed_insert, word_part}
use Rattle.sw_parse_table.specs.Statements.{finish, dollar_name, colon_expr, owner, as_prefix, filter, with_passed, return}
use Rattle.sw_parse_statement_text.specs.Rows.{place_in, passed_in}
use Rattle.sw_parse_statement_heads.specs.declared.set.Target.{Target}
use Rattle.sw_parse_statement_heads.specs.declared.set.Target.TheVariants as targets
use Rattle.sw_parse_statement_heads.specs.declared.set.Assigned.{Assigned}
use Rattle.sw_parse_statement_heads.specs.declared.set.Owned.{Owned}
use Rattle.sw_parse_statement_heads.specs.declared.set.OwnedValue.{OwnedValue}
use Rattle.sw_parse_statement_heads.specs.declared.forward.Loaded.{Loaded}
use Rattle.sw_parse_statement_heads.specs.declared.forward.Passing.{Passing as PassedOn}
use Rattle.sw_parse_statement_heads.specs.declared.forward.Forwarded.{Forwarded}
use Rattle.sw_parse_statement_heads.specs.Heads.{worded_expr}

-- `!global` may stand behind the value of a sheet's own variable alone
abbrev pub flag_words : Target → List ℕ
flag_words targets.Own = these (terminals.Default ∷ terminals.Global ∷ [])
flag_words targets.Foreign = just terminals.Default

abbrev pub flag_row : Target → Grammar Part Form
flag_row target = seq (skip endings) (keep (flag_words target))

abbrev pub valued_row : Source → Target → Grammar Part Form
valued_row source target = seq (colon_expr source) (many (flag_row target))

abbrev pub valued_parts : Assigned → List Part
valued_parts assigned = Values assigned.value ∷ map Place assigned.flags

abbrev pub set_row : Source → Grammar Part Form
set_row source = seq (dollar_name source) (valued_row source targets.Own)

abbrev pub owned_part : Owned → Part
owned_part owned = Owns owned.target owned.span

abbrev pub owned_row : Source → Grammar Part Form
owned_row source = seq (owner source) (valued_row source targets.Foreign)

abbrev pub owned_parts : OwnedValue → List Part
owned_parts read = owned_part read.owned ∷ valued_parts read.assigned

-- a message, and `@return`, which has another name here, since `return` is a word of the code
abbrev pub say_row : Source → Terminal → Level → Grammar Part Form
say_row source word level = seq (build (to_say source level) (worded_expr source word)) (finish source)

abbrev pub returning : Source → Grammar Part Form
returning source = return source

abbrev pub return_row : Source → Grammar Part Form
return_row source = seq (build (to_return source) (worded_expr source terminals.AtReturn)) (finish source)

-- the name of an at-rule
abbrev pub inserted_name : Source → Grammar Part Form
inserted_name source = seq (signed_insert source) (many (word_part source))

abbrev pub at_name_row : Source → Grammar Part Form
at_name_row source =
    alt (seq (skip (just terminals.AtOther)) (many (word_part source))) (seq (skip (just terminals.AtInsert))
    (inserted_name source))

-- `@forward`: its address and its prefix, what it passes on, and both
abbrev pub loaded_row : Source → Grammar Part Form
loaded_row source = seq (skip (just terminals.AtForward)) (seq (keep (just terminals.LoadUrl)) (as_prefix source))

abbrev pub loaded_head : Source → Grammar Part Form
loaded_head source = build to_behind (loaded_row source)

abbrev pub loaded_parts : Loaded → List Part
loaded_parts loaded = Place loaded.url ∷ place_in loaded.prefix

abbrev pub passing_row : Source → Grammar Part Form
passing_row source = seq (filter source) (with_passed source)

abbrev pub passing_parts : PassedOn → List Part
passing_parts passing = passed_in passing.passed ++ map Gives passing.configuration

abbrev pub forward_row : Source → Grammar Part Form
forward_row source = seq (loaded_head source) (passing_row source)

abbrev pub forward_parts : Forwarded → List Part
forward_parts read = (loaded_parts read.loaded ++ Behind read.head ∷ []) ++ passing_parts read.passing

abbrev pub forward_statement : LoadedUrl → Option (List ℕ) → Filter → List Given → Span → Statement
forward_statement url prefix filter configuration span =
    statements.Forward (record
    { url = url; prefix = prefix; filter = filter; configuration = configuration; span = span })

abbrev pub prefix_in : Source → Option ℕ → Option (List ℕ)
prefix_in source None = None
prefix_in source (Some place) = Some (bytes_at source place)
