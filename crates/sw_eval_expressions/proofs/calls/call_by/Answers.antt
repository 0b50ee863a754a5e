use Rattle.sw_eval_expressions.proofs.calls.call_by.Goals as goal

pub returns-in-Sheet : goal.returns-in-Sheet
returns-in-Sheet g c = rw c.in-Sheet.is c.sheet_call.ensures

pub returns-in-BuiltIn : goal.returns-in-BuiltIn
returns-in-BuiltIn g c = rw c.in-BuiltIn.is c.built_in_by.ensures

pub returns-in-Css : goal.returns-in-Css
returns-in-Css g c = rw c.in-Css.is c.css_called.ensures
