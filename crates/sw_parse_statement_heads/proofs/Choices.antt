-- What is repeated in statements.
use Rattle.std.proofs.Common.{refl}
use Rattle.sw_parse_terminals.specs.declared.terminal.Terminal.TheVariants as T
use Rattle.sw_parse_terminals.specs.Numbers.{just}
use Rattle.sw_parse_table.specs.declared.source.Source.{Source}
use Rattle.sw_parse_table.specs.Sets.{endings}
use Rattle.sw_parse_table.specs.Statements.{dollar_name}
use Rattle.sw_parse_table.proofs.Decided.{Repeats}
use Rattle.sw_parse_statement_heads.specs.declared.set.Target.{Target}
use Rattle.sw_parse_statement_heads.specs.declared.set.Target.TheVariants as targets
use Rattle.sw_parse_statement_heads.specs.Heads.{comma_name}
use Rattle.sw_parse_statement_heads.specs.Rows.{flag_row}

module _ (source : Source) where
  pub flags : (target : Target) → Repeats source (flag_row target) endings
  flags targets.Own = record { all = refl; one = refl; some = refl; starts = refl }
  flags targets.Foreign = record { all = refl; one = refl; some = refl; starts = refl }

  pub names : Repeats source (comma_name source) (just T.Comma)
  unfolding dollar_name
  names = record { all = refl; one = refl; some = refl; starts = refl }
