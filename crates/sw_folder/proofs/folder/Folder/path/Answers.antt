use Rattle.std.proofs.Common.{◌≡◌, Some, None, true, false, is_some, sym, ap, ◌∙◌, if◌then◌else◌}
use Rattle.std.specs.FinMap.{contains_key}
use Rattle.sw_folder.proofs.Tables.{is_there, key_is}
use Rattle.sw_folder.proofs.folder.Folder.path.Goals as goal

pub returns-in-Some : goal.returns-in-Some
returns-in-Some c =
    let there : contains_key c.args.self.now c.args.path.now ≡ true
    = ap (λ f. contains_key f c.args.path.now) (sym c.self.view_is) ∙ is_there c.args.path.now c.self.inside.table.entries ∙ ap is_some (sym (rw c.new.ensures at c.in-Some.ensures.value)) in
    ap Some (key_is c.args.path.now c.in-Some.own.now c.self.inside.table.entries (sym (rw c.new.ensures at c.in-Some.ensures.key))) ∙ sym (ap (λ b. if b then Some c.args.path.now else None) there)

pub returns-in-None : goal.returns-in-None
returns-in-None c =
    let there : contains_key c.args.self.now c.args.path.now ≡ false
    = ap (λ f. contains_key f c.args.path.now) (sym c.self.view_is) ∙ is_there c.args.path.now c.self.inside.table.entries ∙ ap is_some (sym (rw c.new.ensures at c.in-None.ensures.value)) in
    sym (ap (λ b. if b then Some c.args.path.now else None) there)
