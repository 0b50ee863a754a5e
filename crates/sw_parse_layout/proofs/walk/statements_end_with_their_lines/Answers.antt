use Rattle.std.proofs.Common.{arith}
use Rattle.sw_tokens.proofs.Cuts.{IsText}
use Rattle.sw_parse_layout.proofs.Spanned.{layout_lines}
use Rattle.sw_parse_layout.proofs.walk.statements_end_with_their_lines.Goals as goal

pub returns : goal.returns
returns c =
    let text : IsText c.args.text.now = record {
      utf8 = c.utf8.text;
      small = λ i. let fit = c.type_inv.text i in omega
          arith;
    } in
    layout_lines c.args.text.now text
