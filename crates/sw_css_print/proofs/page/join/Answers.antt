use Rattle.std.proofs.Common.{ap, ◌∙◌}
use Rattle.sw_css_print.specs.Parts.{join}
use Rattle.sw_css_print.proofs.Joins.{joins}
use Rattle.sw_css_print.proofs.page.join.Goals as goal

pub returns-clause-page : goal.returns-clause-page
returns-clause-page c = λ trees is. rw (c.in_ok-put_page.ensures, c.reserve.ensures.items, c.new-out.ensures.items, is) (joins trees)
