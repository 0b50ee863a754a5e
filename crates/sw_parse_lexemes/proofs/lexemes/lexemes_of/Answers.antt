use Rattle.std.proofs.Common.{subst, sym, ◌∙◌, All}
use Rattle.sw_parse_lexemes.specs.Plains.{PlainLies}
use Rattle.sw_parse_lexemes.proofs.Lies.{lexemes_lie}
use Rattle.sw_parse_lexemes.proofs.lexemes.lexemes_of.Goals as goal

pub returns-clause-lie : goal.returns-clause-lie
returns-clause-lie c =
    lexemes_lie c.args.tokens.now.sheet.bytes c.as_slice.result.now c.beginning.result 0 c.from_vec.result
    (subst (All (PlainLies c.args.tokens.now.sheet.bytes)) (sym c.as_slice.ensures.value) c.in_ok-plains.ensures.lie)
    (c.from_vec.ensures ∙ c.in_ok-lexemes.ensures)
