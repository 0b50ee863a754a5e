use Rattle.std.proofs.Common.{◌≡◌, ◌++◌, drop}
use Rattle.sw_css_print.specs.Page.{imports_text}
use Rattle.sw_css_print.proofs.part.imports_text.Given as goal

abbrev pub invariant-loop-text : goal.invariant-loop-text
invariant-loop-text l = l.out.items ++ imports_text (drop l.text-index l.texts) ≡ imports_text l.texts
