use Rattle.std.proofs.Common.{arith}
use Rattle.sw_tokens.proofs.Cuts.{IsText}
use Rattle.sw_convert_laid.proofs.LaidBlocks.{all_laid}
use Rattle.sw_convert_laid.proofs.laws.statements_are_laid.Goals as goal

pub returns : goal.returns
returns c =
    let text : IsText c.args.text.now = record {
      utf8 = c.utf8.text;
      small = λ i. let fit = c.type_inv.text i in omega
          arith;
    } in
    λ mark statements. all_laid c.args.text.now text mark statements
