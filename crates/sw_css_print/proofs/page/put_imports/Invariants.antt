use Rattle.std.proofs.Common.{◌≡◌, ◌++◌, drop}
use Rattle.std.specs.List.{flat_map}
use Rattle.sw_css_print.proofs.page.put_imports.Given as goal

abbrev pub invariant-loop-part : goal.invariant-loop-part
invariant-loop-part l = l.out.items ++ flat_map (λ part. part.imports) (drop l.part-index l.parts) ≡ l.initial.out.items ++ flat_map (λ part. part.imports) l.parts
