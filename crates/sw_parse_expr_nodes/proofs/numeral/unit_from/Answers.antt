use Rattle.std.proofs.Common.{◌≡◌, ℕ, List, sym, ap, subst, ◌∙◌, arith}
use Rattle.std.specs.Str.{IsCharBoundary}
use Rattle.sw_text_scan.specs.Words.{unit_start}
use Rattle.sw_parse_table.specs.Numerals.{sign_length, unit_from}
use Rattle.sw_tokens.proofs.Cuts.{IsText}
use Rattle.sw_parse_expr_nodes.proofs.Cuts.{unit_cut, sign_cut}
use Rattle.sw_parse_expr_nodes.proofs.numeral.unit_from.Goals as goal

pub returns : goal.returns
returns c =
    let bytes = c.args.text.now in
    let text : IsText bytes = record { utf8 = c.utf8.text; small = λ i. let fits = c.type_inv.text i in omega arith } in
    let sign = sign_cut bytes text in
    let from : c.unit_start.result ≡ unit_from bytes =
    c.unit_start.ensures.start ∙ ap (λ (x : ℕ). unit_start c.as_bytes-bytes.result.now x) c.sign_length.ensures.length ∙ ap (λ (x : List ℕ). unit_start x (sign_length x)) c.as_bytes-bytes.ensures.value in
    record { from = from; cut = subst (IsCharBoundary bytes) (sym from) (unit_cut bytes text (sign_length bytes) sign.0 sign) }
