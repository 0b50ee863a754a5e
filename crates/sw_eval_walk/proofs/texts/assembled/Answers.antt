use Rattle.std.proofs.Common.{refl}
use Rattle.sw_eval_calls.proofs.Answering.{without_memory}
use Rattle.sw_eval_walk.proofs.texts.assembled.Goals as goal

pub returns-in-Expression : goal.returns-in-Expression
returns-in-Expression c = rw c.in-Expression.is c.joined.ensures

pub returns-in_err-whole_text-in-Sheet : goal.returns-in_err-whole_text-in-Sheet
returns-in_err-whole_text-in-Sheet c = without_memory _ _ c.from_residual.ensures

pub returns-in_ok-whole_text-in-Sheet : goal.returns-in_ok-whole_text-in-Sheet
returns-in_ok-whole_text-in-Sheet c = rw (c.in-Sheet.is, c.in_ok-whole_text-in-Sheet.ensures) refl
