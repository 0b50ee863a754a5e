use Rattle.std.proofs.Common.{◌+◌, ◌-◌, ℕ, List, ◌++◌, ap, ◌∙◌, string_bytes}
use Rattle.sw_parse_css.specs.Seen.{seen, comment_at, before_comment, said_from}
use Rattle.sw_parse_css.proofs.Saying.{said_more}
use Rattle.sw_parse_css.proofs.said.add_said.Goals as goal

pub places-preserved : goal.places-preserved
places-preserved c =
    let s = seen c.args.source.now in
    let at = c.places.at in
    let left = c.args.last - (at + 1) in
    record {
      added =
          ap (λ (x : List ℕ). x ++ said_from s c.args.offsets.1 c.in_ok-from.from (at + 1) left) c.in_ok-from.ensures.text
          ∙ ap (λ (x : ℕ). (string_bytes c.places.text ++ before_comment s c.places.from (comment_at s (at + 1))) ++ said_from s c.args.offsets.1 x (at + 1) left) c.in_ok-from.ensures.next
          ∙ said_more s (string_bytes c.places.text) _ c.args.offsets.1 c.places.from at c.args.last c.places-test.true c.places.invariant.added;
      boundary = c.in_ok-from.ensures.boundary;
    }
