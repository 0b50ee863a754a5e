use Rattle.sw_convert_lines_laid.proofs.Fronts.{fronts_are_lines, rules_are_lines}
use Rattle.sw_convert_lines_laid.proofs.laws.fronts_are_lines.Goals as goal

pub returns : goal.returns
returns c = record { fronts = fronts_are_lines; rules = rules_are_lines }
