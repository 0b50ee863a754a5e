use Rattle.std.proofs.Common.{◌+◌, ◌-◌, ◌++◌, ap, sym, ◌∙◌, string_bytes}
use Rattle.sw_parse_table.specs.Sources.{Texts, begun, texts_list, texts_from}
use Rattle.sw_parse_table.proofs.Gaps.{texts_step}
use Rattle.sw_parse_table.proofs.gap.texts.Goals as goal

pub places-preserved : goal.places-preserved
places-preserved c =
    let s = c.args.source.now in
    let stretch = c.args.stretch.now in
    let at = c.places.at in
    let left = stretch.end - (at + 1) in
    let next = texts_from s stretch.to c.in_ok-from.from (at + 1) left in
    record {
      added =
          c.in_ok-from.ensures.texts next
          ∙ ap (λ (x : Texts). c.places.list ++ texts_list (begun (string_bytes c.places.text) x))
          (sym (texts_step s stretch.to c.places.from c.in_ok-from.from at stretch.end c.places-test.true c.in_ok-from.ensures.next))
          ∙ c.places.invariant.added;
      boundary = c.in_ok-from.ensures.boundary;
    }
