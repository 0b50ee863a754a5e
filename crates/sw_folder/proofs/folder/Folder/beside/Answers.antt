use Rattle.std.proofs.Common.{sym, subst}
use Rattle.sw_folder.specs.Resolution.{IsResolution, first_choice, groups_at}
use Rattle.sw_folder.proofs.Walks.{walk-lone}
use Rattle.sw_folder.proofs.folder.Folder.beside.Goals as goal

pub returns-in-Some-Some : goal.returns-in-Some-Some
returns-in-Some-Some c =
    subst (λ place. IsResolution c.named.result (first_choice c.args.self.now (groups_at place)))
    (sym (walk-lone c.args.from.now c.args.url.now c.in-Some-Some.field-0-0.now c.in-Some-Some.name.now c.in-Some-Some.ensures c.in-Some-Some.ensures'))
    (rw c.new.ensures.bytes at c.named.ensures)
