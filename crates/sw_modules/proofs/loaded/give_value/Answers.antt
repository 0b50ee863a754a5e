use Rattle.std.proofs.Common.{◌≡◌, bytes_eq, OnErr, Result, Ok, Err, sym, ap, ◌∙◌}
use Rattle.std.specs.Map.{set_value}
use Rattle.std.proofs.lemmas.Map.Steps.{set_value_same}
use Rattle.sw_modules.specs.declared.module.Module.{Module}
use Rattle.sw_modules.proofs.loaded.give_value.Goals as goal

on_err : {T E P : Type 0} → (r : Result T E) → P → OnErr r P
on_err (Ok x) p = tt
on_err (Err x) p = p

pub returns-in_err-set-clause-err : goal.returns-in_err-set-clause-err
returns-in_err-set-clause-err c =
    let held : Module = c.in-Some.held.now in
    let left : Module = record held { variables = c.set.new.self } in
    let same : left ≡ held = ap (λ v. record held { variables = v }) c.in_err-set.ensures.err in
    on_err c.from_residual.result (
    (c.get_mut.follows.holds left).0
    ∙ ap (λ m. set_value (bytes_eq c.args.owner.now) c.args.entries.now.entries m) same
    ∙ set_value_same (bytes_eq c.args.owner.now) c.args.entries.now.entries held (sym c.in-Some.ensures.value)
    )
