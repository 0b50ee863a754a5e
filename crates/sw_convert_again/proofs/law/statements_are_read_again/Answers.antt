use Rattle.sw_convert_again.proofs.Nested.{all_lines_again, all_nested_again}
use Rattle.sw_convert_again.proofs.law.statements_are_read_again.Goals as goal

pub returns : goal.returns
returns c = record { lines = all_lines_again; nested = all_nested_again }
