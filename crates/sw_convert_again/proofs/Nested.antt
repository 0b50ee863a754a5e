-- Statements are read again, those with a block where their blocks are.
use Rattle.std.proofs.Common.{ℕ}
use Rattle.sw_parse_table.specs.declared.source.Source.{Source}
use Rattle.sw_convert_again.specs.Claims.{BlocksAgain, LinesAgain, NestedAgain}
use Rattle.sw_convert_again.proofs.Statements.{lines_again, while_again, supports_again, rule_again}
use Rattle.sw_convert_again.proofs.Declarations.{declaration_again, at_root_again}
use Rattle.sw_convert_again.proofs.Branches.{if_again}
use Rattle.sw_convert_again.proofs.Variables.{variable_again, assignment_again}
use Rattle.sw_convert_again.proofs.Customs.{custom_again}
use Rattle.sw_convert_again.proofs.Contents.{content_again}
use Rattle.sw_convert_again.proofs.Loops.{each_again, for_again}
use Rattle.sw_convert_again.proofs.AtRules.{at_rule_again}
use Rattle.sw_convert_again.proofs.Callables.{function_again, mixin_again}
use Rattle.sw_convert_again.proofs.Includes.{include_again}

pub all_lines_again : (source written : Source) (n : ℕ) → LinesAgain source written n
all_lines_again source written n = lines_again source written n (variable_again source written n)
    (assignment_again source written n) (custom_again source written n)
    (content_again source written n)

pub all_nested_again : (source written : Source) (n : ℕ) → BlocksAgain source written n → NestedAgain source written n
all_nested_again source written n blocks = record {
  ifs = if_again source written n blocks;
  eaches = each_again source written n blocks;
  fors = for_again source written n blocks;
  whiles = while_again source written n blocks;
  supports = supports_again source written n blocks;
  rules = rule_again source written n blocks;
  functions = function_again source written n blocks;
  mixins = mixin_again source written n blocks;
  includes = include_again source written n blocks;
  at_roots = at_root_again source written n blocks;
  at_rules = at_rule_again source written n blocks;
  declarations = declaration_again source written n blocks;
}
