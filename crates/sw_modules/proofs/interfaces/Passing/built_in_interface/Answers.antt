use Rattle.std.proofs.Common.{[], Some, sym, ap, ◌∙◌, arith}
use Rattle.sw_builtins.specs.Tables.{rows_of, member_of}
use Rattle.sw_modules.proofs.PassedOn.{all_given, passed_rows}
use Rattle.sw_modules.proofs.Rows.{few_rows, row_next}
use Rattle.sw_modules.proofs.interfaces.Passing.built_in_interface.Goals as goal

pub members-preserved : goal.members-preserved
members-preserved c =
    row_next c.args.self.now.prefix.now c.args.self.now.which.now c.args.url.now (rows_of c.args.url.now) c.members.at c.in-Some.kind c.in_ok-name-in-Some.name
    (ap (λ u. member_of u c.members.at) (sym c.as_str.ensures) ∙ c.in-Some.ensures ∙ ap (λ n. Some (c.in-Some.kind, n)) (sym c.in_ok-name-in-Some.ensures))
    c.members.brought c.pass.new.brought c.members.invariant c.in_ok-pass-in-Some.ensures

pub returns : goal.returns
returns c =
    all_given (passed_rows c.args.self.now.prefix.now c.args.self.now.which.now c.args.url.now) (rows_of c.args.url.now) c.members.at
    (omega (arith, few_rows c.args.url.now, c.members-test.false)) [] c.members.brought c.members.invariant
