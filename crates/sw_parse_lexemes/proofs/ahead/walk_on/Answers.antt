use Rattle.std.proofs.Common.{◌≡◌, ◌<◌, Bool, Some, length, sym, ◌∙◌, ap, arith}
use Rattle.sw_parse_lexemes.specs.declared.sort.Sort.{Sort}
use Rattle.sw_parse_lexemes.specs.Ahead.{sort_at, spaced_at, walk_step}
use Rattle.sw_parse_lexemes.proofs.Walks.{walk_more}
use Rattle.sw_parse_lexemes.proofs.ahead.walk_on.Goals as goal

pub items-preserved : goal.items-preserved
items-preserved c =
    let plains = c.args.plains.now in
    let place = c.items.place in
    let lt : place < length plains = c.items-test.true in
    let step : walk_step c.args.walk (sort_at plains place) (spaced_at plains place) c.items.open ≡ Some c.in-Some.more =
    ap (λ (x : Sort). walk_step c.args.walk x (spaced_at plains place) c.items.open) (sym c.sort_at-sort.ensures)
    ∙ ap (λ (b : Bool). walk_step c.args.walk c.sort_at-sort.result b c.items.open) (sym c.spaced_at-spaced.ensures)
    ∙ sym c.in-Some.ensures.value in
    record {
      value = walk_more c.args.walk plains c.items.open c.in-Some.more place lt step ∙ c.items.invariant.value;
      fits = omega (arith, c.in-Some.ensures.more, c.items.invariant.fits);
      near = omega (arith, lt);
      within = λ x. omega (arith, lt);
    }
