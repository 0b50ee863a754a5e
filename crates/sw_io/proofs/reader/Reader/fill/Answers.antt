use Rattle.std.proofs.Common.{◌≡◌, length, take, drop, ap, ◌∙◌, arith, length-drop}
use Rattle.std.proofs.lemmas.List.{length-take}
use Rattle.sw_io.proofs.reader.Reader.fill.Goals as goal

pub returns-then-self-clause-ok : goal.returns-then-self-clause-ok
returns-then-self-clause-ok g c =
    λ e. let r = c.self.inside in
    let none : length (drop r.from (take r.to r.buffer.items)) ≡ 0 = ap length (c.self.view_is ∙ e) in
    absurd (omega (arith, length-drop r.from (take r.to r.buffer.items), length-take r.to r.buffer.items, r.buffer.ok.0))
