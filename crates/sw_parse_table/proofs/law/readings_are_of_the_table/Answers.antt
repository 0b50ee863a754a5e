use Rattle.std.proofs.Common.{refl}
use Rattle.sw_parse_grammar.proofs.Whole.{parse_reads_deep, parse_deep_exactly}
use Rattle.sw_parse_table.specs.Table.{opening, closing}
use Rattle.sw_parse_table.proofs.Decided.{fit, forms_nested}
use Rattle.sw_parse_table.proofs.law.readings_are_of_the_table.Goals as goal

pub returns : goal.returns
returns c =
    record {
      grammar = λ source levels at form. parse_reads_deep (fit source) opening closing (forms_nested source) levels form at _ refl;
      depth = λ source levels at form. parse_deep_exactly (fit source) opening closing (forms_nested source) levels form at _ refl;
    }
