use Rattle.std.proofs.Common.{arith}
use Rattle.sw_tokens.proofs.Cuts.{IsText}
use Rattle.sw_parse_layout.proofs.Progress.{walk_whole}
use Rattle.sw_parse_layout.proofs.walk.walks_come_to_an_end.Goals as goal

pub returns : goal.returns
returns c =
    let text : IsText c.args.text.now = record {
      utf8 = c.utf8.text;
      small = λ i. let fit = c.type_inv.text i in omega
          arith;
    } in
    λ steps enough. walk_whole c.args.text.now text steps enough
