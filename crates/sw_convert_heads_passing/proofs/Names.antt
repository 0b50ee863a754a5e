-- The names of variables in the heads of `@each` and `@for` are told.
use Rattle.std.proofs.Common.{◌≡◌, ◌⊎◌, ℕ, ◌+◌, Bool, true, false, List, [], ◌∷◌, ◌++◌, inl, inr, refl, ◌∙◌, ap}
use Rattle.sw_parse_terminals.specs.declared.terminal.Terminal.{Terminal}
use Rattle.sw_parse_terminals.specs.declared.terminal.Terminal.TheVariants as terminals
use Rattle.sw_parse_lexemes.specs.declared.sort.Sort.{Sort}
use Rattle.sw_parse_lexemes.specs.declared.sort.Sort.TheVariants as sorts
use Rattle.sw_parse_lexemes.specs.declared.plain.Plain.{Plain}
use Rattle.sw_parse_lexemes.specs.declared.state.Mode.{Mode}
use Rattle.sw_parse_lexemes.specs.declared.state.Mode.TheVariants as modes
use Rattle.sw_parse_lexemes.specs.declared.state.Frame.{Frame}
use Rattle.sw_parse_lexemes.specs.declared.state.State.{State}
use Rattle.sw_parse_lexemes.specs.Classes.{is_name}
use Rattle.sw_parse_lexemes.specs.Ahead.{spaced_at}
use Rattle.sw_parse_lexemes.specs.Names.{is_raw, behind_dollar}
use Rattle.sw_parse_lexemes.specs.Signs.{is_text, is_params, comma_terminal}
use Rattle.sw_parse_lexemes.specs.Terminals.{terminal_of}
use Rattle.sw_parse_lexemes.specs.Steps.{begins_statement, passes, further_mode}
use Rattle.sw_convert_passing.specs.Written.{Written, direct, Among, Stand}
use Rattle.sw_convert_passing.specs.Values.{dollar}
use Rattle.sw_convert_passing.proofs.Facts.{name_code}
use Rattle.sw_convert_passing.proofs.BySort.{by_comma}
use Rattle.sw_convert_passing.proofs.Tokens.{variable_name_here}
use Rattle.sw_convert_passing.proofs.Entries.{one_of}
use Rattle.sw_convert_passing.proofs.Leaves.{never}
use Rattle.sw_convert_heads_passing.specs.Flow.{Names, last_name, more_names}
use Rattle.sw_convert_heads_passing.proofs.Loads.{Behind, Place, Quiet, place_of, and_then, same_behind}
use Rattle.sw_convert_heads_passing.proofs.Moves.{Passes, moved, dollar_here}
use Rattle.sw_convert_heads_passing.proofs.Firsts.{comma_passes, dollar_named_passes, dollar_passes, quiet_comma, variable_passes}

abbrev lists_names : Mode → Bool
lists_names modes.Each = true
lists_names modes.For = true
lists_names _ = false

record NameMode (mode : Mode) : Type 0 where
  raw : is_raw mode ≡ false
  text : is_text mode ≡ false
  params : is_params mode ≡ false
  dollar : further_mode mode terminals.Dollar ≡ mode
  dollar_named : further_mode mode terminals.DollarNamed ≡ mode
  name : further_mode mode terminals.VariableName ≡ mode

name_mode : (mode : Mode) → lists_names mode ≡ true → NameMode mode
name_mode modes.Each l = record
    { raw = refl; text = refl; params = refl; dollar = refl; dollar_named = refl; name = refl }
name_mode modes.For l = record
    { raw = refl; text = refl; params = refl; dollar = refl; dollar_named = refl; name = refl }
name_mode _ l = absurd (cc)

module _ {mode : Mode} {frames : List Frame} {before : Terminal} (lists : lists_names mode ≡ true)
    (plains : List Plain) (state : State) (at to : ℕ) (place : Place mode frames state before) (quiet : Quiet before) where
  behind_first : (name : Sort) → is_name name ≡ true
      → Stand plains at (dollar true ∷ direct name terminals.VariableName ∷ []) to → (first : Terminal)
      → terminal_of state plains at ≡ first → Among first (dollar true).may_be → Passes first
      → further_mode mode first ≡ mode → begins_statement first ≡ false → behind_dollar first ≡ true
      → Behind plains mode frames state at (dollar true ∷ direct name terminals.VariableName ∷ [])
      terminals.VariableName to
  behind_first name n (there, (second, e)) first told among passes steady b d =
      let facts = name_mode mode lists in
      let one = moved plains state at place (dollar true) first there refl told among passes steady b in
      let is_two = variable_name_here facts.raw one.end one.within plains (at + 1) (ap is_name second.sort ∙ n)
      (never one.end plains (at + 1) one.word) (ap behind_dollar one.before_is ∙ d) second.spaced in
      let two = moved plains one.end (at + 1) (place_of one) (direct name terminals.VariableName)
      terminals.VariableName second (name_code name n) is_two one_of variable_passes facts.name refl in
      and_then one.reads (and_then two.reads (same_behind (place_of two) e))

  pub variable_told : (name : Sort) → is_name name ≡ true
      → Stand plains at (dollar true ∷ direct name terminals.VariableName ∷ []) to
      → Behind plains mode frames state at (dollar true ∷ direct name terminals.VariableName ∷ [])
      terminals.VariableName to
  variable_told name n stand =
      let facts = name_mode mode lists in
      go facts (dollar_here plains state at place quiet facts.raw facts.text facts.params stand.0.sort)
    where
      go : NameMode mode
          → (terminal_of state plains at ≡ terminals.Dollar) ⊎ (terminal_of state plains at ≡ terminals.DollarNamed)
          → Behind plains mode frames state at (dollar true ∷ direct name terminals.VariableName ∷ [])
          terminals.VariableName to
      go facts (inl t) =
          behind_first name n stand terminals.Dollar t (inl refl) dollar_passes facts.dollar refl refl
      go facts (inr t) =
          behind_first name n stand terminals.DollarNamed t (inr (inl refl)) dollar_named_passes facts.dollar_named refl
          refl

pub names_told : {tokens : List Written} → Names tokens → {before : Terminal} → Quiet before → (plains : List Plain)
    (frames : List Frame) (state : State) (at to : ℕ) → Place modes.Each frames state before → Stand plains at tokens to
    → Behind plains modes.Each frames state at tokens terminals.VariableName to
names_told (last_name name n) quiet plains frames state at to place stand =
    variable_told refl plains state at to place quiet name n stand
names_told (more_names {rest} name n more) quiet plains frames state at to place (first, (second, (third, stand))) =
    let comma = direct sorts.Comma terminals.Comma in
    let one = variable_told refl plains state at ((at + 1) + 1) place quiet name n (first, (second, refl)) in
    let told = by_comma one.end plains ((at + 1) + 1) third.sort ∙ ap comma_terminal one.within.mode_is in
    let two = moved plains one.end ((at + 1) + 1) (place_of one) comma terminals.Comma third refl told one_of comma_passes
    refl refl in
    let rest_told = names_told more quiet_comma plains frames two.end (((at + 1) + 1) + 1) to (place_of two) stand in
    and_then one.reads (and_then two.reads rest_told)

pub names_apart : {tokens : List Written} → Names tokens → (rest : List Written) (plains : List Plain) (at to : ℕ)
    → Stand plains at (tokens ++ rest) to → spaced_at plains at ≡ true
names_apart (last_name _ n) rest plains at to stand = stand.0.spaced
names_apart (more_names _ n more) rest plains at to stand = stand.0.spaced
