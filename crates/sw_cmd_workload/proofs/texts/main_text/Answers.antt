use Rattle.std.proofs.Common.{codes, string_bytes, ◌∙◌, arith}
use Rattle.sw_cmd_workload.proofs.Uses.{no_uses, one_more, all_uses}
use Rattle.sw_cmd_workload.proofs.texts.main_text.Goals as goal

pub parts-init : goal.parts-init
parts-init c = c.in_ok-text.ensures.ok ∙ no_uses (codes "@use \"lib\";")

pub parts-preserved : goal.parts-preserved
parts-preserved c =
    one_more (codes "@use \"lib\";") (string_bytes c.parts.text) c.as_str.result.now (string_bytes c.push_str.new.self) c.parts.place c.parts.invariant
    (c.as_str.ensures.value ∙ c.in_ok-part.ensures) c.in_ok-push_str.ensures.bytes

pub returns : goal.returns
returns c =
    all_uses (codes "@use \"lib\";") (string_bytes c.parts.text) (codes " .main { w: lib.$c; }") (string_bytes c.push_str-2.new.self) c.parts.place c.args.parts (omega arith) c.parts.invariant
    c.in_ok-push_str-2.ensures.bytes
