use Rattle.std.proofs.Common.{◌≡◌, ℕ, ◌+◌, ◌-◌, List, ◌++◌, ap, ◌∙◌, false, string_bytes}
use Rattle.std.specs.Prelude.{max}
use Rattle.std.specs.Str.{IsCharBoundary}
use Rattle.sw_parse_table.specs.Sources.{bytes, blank, blank_from, bytes_from, token_from}
use Rattle.sw_parse_table.proofs.Gaps.{gap_more, of_max}
use Rattle.sw_parse_table.proofs.gap.add_gap.Goals as goal

pub comments-preserved : goal.comments-preserved
comments-preserved c =
    let s = c.args.source.now in
    let gap : c.as_bytes.result.now ≡ bytes_from s c.comments.from (token_from s c.comments.place) =
    c.as_bytes.ensures.value ∙ c.bytes_from-gap.ensures ∙ ap (bytes_from s c.comments.from) c.token_from.ensures.offset in
    let next = c.max-from.ensures ∙ ap (λ (x : ℕ). max c.comments.from x) c.token_to.ensures.offset in
    let text = c.in_ok-add_blank.ensures ∙ ap (λ (x : List ℕ). string_bytes c.comments.text ++ blank false x) gap in
    record {
      added =
          ap (λ (x : List ℕ). x ++ blank_from s c.from_at-to.result c.max-from.result (c.comments.place + 1) (c.token_at-end.result - (c.comments.place + 1))) text
          ∙ ap (λ (x : ℕ). (string_bytes c.comments.text ++ blank false (bytes_from s c.comments.from (token_from s c.comments.place))) ++ blank_from s c.from_at-to.result x (c.comments.place + 1) (c.token_at-end.result - (c.comments.place + 1))) next
          ∙ gap_more s (string_bytes c.comments.text) _ c.from_at-to.result c.comments.from c.comments.place c.token_at-end.result c.comments-test.true c.comments.invariant.added;
      boundary = rw c.max-from.ensures (of_max (IsCharBoundary (bytes s)) c.comments.from c.token_to.result c.comments.invariant.boundary c.token_to.ensures.boundary);
    }
