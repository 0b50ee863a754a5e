use Rattle.std.proofs.Common.{List, ℕ, sym, ap, subst, ◌∙◌, arith}
use Rattle.std.specs.Str.{IsCharBoundary}
use Rattle.sw_text_scan.specs.declared.runs.Class.TheVariants as classes
use Rattle.sw_text_scan.specs.Runs.{run_end}
use Rattle.sw_tokens.proofs.Cuts.{IsText, css_text_cut}
use Rattle.sw_tokens.proofs.css.css_text_end.Goals as goal

pub returns-clause-cut : goal.returns-clause-cut
returns-clause-cut c =
    let text : IsText c.args.text.now = record { utf8 = c.utf8.text; small = λ i. let fits = c.type_inv.text i in omega arith } in
    subst (IsCharBoundary c.args.text.now) (sym (c.run_end.ensures.end ∙ ap (λ (xs : List ℕ). run_end (classes.Text c.args.quote) xs c.args.from) c.as_bytes.ensures.value)) (css_text_cut c.args.text.now text c.args.quote c.args.from c.requires.quote c.requires.within)
