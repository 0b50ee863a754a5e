use Rattle.std.proofs.Common.{◌≡◌, ◌++◌, ℕ, List, ap, ◌∙◌}
use Rattle.std.specs.Map.{keys_of}
use Rattle.sw_tree.specs.declared.callable.Kind.TheVariants.{Variable, Function, Mixin}
use Rattle.sw_values.specs.declared.plain.Plain.{Plain}
use Rattle.sw_modules.specs.declared.members.Entry.{Entry}
use Rattle.sw_modules.specs.Interfaces.{own_entries, unhidden, passed}
use Rattle.sw_modules.proofs.PassedOn.{both, passed-append}
use Rattle.sw_modules.proofs.interfaces.Passing.interface.Goals as goal

pub returns : goal.returns
returns c =
    let give : List Entry → List Entry = passed c.args.self.now.prefix.now c.args.self.now.which.now in
    let splits = passed-append c.args.self.now.prefix.now c.args.self.now.which.now in
    let held = c.args.held.now in
    let forwarded = c.args.forwarded.now in
    let variables : List (List ℕ × Plain) → List Entry = λ t. own_entries Variable c.args.path.now (keys_of t) in
    let a : List Entry = variables held.variables in
    let b : List Entry = own_entries Function c.args.path.now (keys_of held.callables.functions) in
    let d : List Entry = own_entries Mixin c.args.path.now (keys_of held.callables.mixins) in
    let e : List Entry = unhidden Variable held forwarded in
    let f : List Entry = unhidden Function held forwarded in
    let h : List Entry = unhidden Mixin held forwarded in
    let one : c.pass_owns.new.brought ≡ give a =
    c.in_ok-pass_owns.ensures ∙ ap (λ l. l ++ give (variables c.table.result.now)) c.new-brought.ensures ∙ ap (λ t. give (variables t)) c.table.ensures in
    let two : c.pass_some.new.brought ≡ give (a ++ b) = both give splits a b c.pass_owns.new.brought c.pass_some.new.brought one c.in_ok-pass_some.ensures in
    let three : c.pass_some-2.new.brought ≡ give (a ++ b ++ d) = both give splits (a ++ b) d c.pass_some.new.brought c.pass_some-2.new.brought two c.in_ok-pass_some-2.ensures in
    let four : c.pass_forwarded.new.brought ≡ give (a ++ b ++ d ++ e) = both give splits (a ++ b ++ d) e c.pass_some-2.new.brought c.pass_forwarded.new.brought three c.in_ok-pass_forwarded.ensures in
    let five : c.pass_forwarded-2.new.brought ≡ give (a ++ b ++ d ++ e ++ f) = both give splits (a ++ b ++ d ++ e) f c.pass_forwarded.new.brought c.pass_forwarded-2.new.brought four c.in_ok-pass_forwarded-2.ensures in
    both give splits (a ++ b ++ d ++ e ++ f) h c.pass_forwarded-2.new.brought c.pass_forwarded-3.new.brought five c.in_ok-pass_forwarded-3.ensures
