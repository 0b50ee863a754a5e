use Rattle.std.proofs.Common.{subst, sym, ◌∙◌, All}
use Rattle.sw_parse_lexemes.specs.Plains.{PlainLies}
use Rattle.sw_parse_lexemes.proofs.Listed.{plains_long}
use Rattle.sw_parse_lexemes.proofs.Lies.{lexemes_lie}
use Rattle.sw_parse_lexemes.proofs.lexemes.value_lexemes_of.Goals as goal

pub lexemes_by-requires-clause-within : goal.lexemes_by-requires-clause-within
lexemes_by-requires-clause-within c =
    rw (c.as_slice.ensures.value, c.in_ok-plains.ensures.plains, plains_long) c.requires

pub returns-clause-lie : goal.returns-clause-lie
returns-clause-lie c =
    lexemes_lie c.args.tokens.now.sheet.bytes c.as_slice.result.now c.before_value.result c.args.at c.from_vec.result
    (subst (All (PlainLies c.args.tokens.now.sheet.bytes)) (sym c.as_slice.ensures.value) c.in_ok-plains.ensures.lie)
    (c.from_vec.ensures ∙ c.in_ok-lexemes.ensures)
