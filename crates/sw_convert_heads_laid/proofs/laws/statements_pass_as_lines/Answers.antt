use Rattle.sw_convert_heads_laid.proofs.Lines.{fronts_pass, rules_pass}
use Rattle.sw_convert_heads_laid.proofs.laws.statements_pass_as_lines.Goals as goal

pub returns-clause-fronts : goal.returns-clause-fronts
returns-clause-fronts c = fronts_pass

pub returns-clause-rules : goal.returns-clause-rules
returns-clause-rules c = rules_pass
