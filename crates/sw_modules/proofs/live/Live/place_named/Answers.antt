use Rattle.std.proofs.Common.{◌≡◌, false, bytes_eq, Some, sym, ◌∙◌}
use Rattle.std.specs.Map.{lookup}
use Rattle.sw_modules.specs.BuiltIns.{is_sass}
use Rattle.sw_modules.proofs.Confirming.{named_answers}
use Rattle.sw_modules.proofs.live.Live.place_named.Goals as goal

pub returns-then-holds_all : goal.returns-then-holds_all
returns-then-holds_all c =
    let s = c.args.self.now in
    let named = c.args.named.now in
    let sass : is_sass named.path ≡ false = rw c.as_str.ensures at (sym c.is_sass.ensures ∙ c.if-is_sass.false) in
    let loaded : lookup (bytes_eq named.path) s.loaded ≡ Some c.in-Some-find.held.now = rw c.loaded.ensures at (sym c.in-Some-find.ensures) in
    named_answers s named c.in-Some-find.held.now sass c.in-Some.ensures loaded c.if-holds_all.ensures
