use Rattle.std.proofs.Common.{sym, ◌∙◌}
use Rattle.sw_scope.proofs.Bindings.{known_step, apart_step}
use Rattle.sw_scope.proofs.binding.named_table.Goals as goal

pub named-preserved : goal.named-preserved
named-preserved c = record {
  known = known_step c.args.named.now c.named.table c.add.new.self c.named.at c.index-named-at.result c.in_ok-share.field-0 c.in_ok-share-2.field-0 c.named-test.true c.index-named-at.is c.in_ok-share.ensures c.in_ok-share-2.ensures c.in_ok-add.ensures.ok (sym c.has.ensures ∙ c.if-has.false) c.named.invariant.known;
  apart = apart_step c.args.named.now c.named.table c.add.new.self c.named.at c.index-named-at.result c.in_ok-share.field-0 c.in_ok-share-2.field-0 c.named-test.true c.index-named-at.is c.in_ok-share.ensures c.in_ok-share-2.ensures c.in_ok-add.ensures.ok (sym c.has.ensures ∙ c.if-has.false) c.named.invariant.apart;
}
