use Rattle.std.proofs.Common.{sym, subst, arith}
use Rattle.sw_tokens.specs.Order.{InOrder}
use Rattle.sw_tokens.proofs.Cuts.{IsText}
use Rattle.sw_parse_layout.specs.Layout.{IsPlace}
use Rattle.sw_parse_layout.proofs.Endings.{fits, end_stands, laid_stands, told_order, told_place, place_stands}
use Rattle.sw_parse_layout.proofs.Alike.{told_statements}
use Rattle.sw_parse_layout.proofs.Filled.{told_fills}
use Rattle.sw_parse_layout.proofs.walk.layout.Goals as goal

pub place_of-requires : goal.place_of-requires
place_of-requires c =
    let text : IsText c.args.text.now = record {
      utf8 = c.utf8.text;
      small = λ i. let fit = c.type_inv.text i in omega
          arith;
    } in
    fits c.args.text.now c.in-Err.end (end_stands c.args.text.now text c.in-Err.end c.in-Err.ensures) c.requires

pub returns-in_ok-reached-in-Ok-clause-order : goal.returns-in_ok-reached-in-Ok-clause-order
returns-in_ok-reached-in-Ok-clause-order c =
    let text : IsText c.args.text.now = record {
      utf8 = c.utf8.text;
      small = λ i. let fit = c.type_inv.text i in omega
          arith;
    } in
    let stands = laid_stands c.args.text.now text c.in-Ok.laid c.in-Ok.ensures in
    told_order c.args.text.now c.in_ok-reached-in-Ok.field-0 c.in-Ok.laid.refused c.told_by.result
    (subst (InOrder c.args.text.now 0) (sym c.in_ok-reached-in-Ok.ensures) stands.order) c.told_by.ensures

pub returns-in_ok-reached-in-Ok-clause-statements : goal.returns-in_ok-reached-in-Ok-clause-statements
returns-in_ok-reached-in-Ok-clause-statements c =
    let text : IsText c.args.text.now = record {
      utf8 = c.utf8.text;
      small = λ i. let fit = c.type_inv.text i in omega
          arith;
    } in
    told_statements c.args.text.now text c.in-Ok.laid c.in_ok-reached-in-Ok.field-0 c.told_by.result c.in-Ok.ensures
    c.in_ok-reached-in-Ok.ensures c.told_by.ensures

pub returns-in_ok-reached-in-Ok-clause-text : goal.returns-in_ok-reached-in-Ok-clause-text
returns-in_ok-reached-in-Ok-clause-text c =
    let text : IsText c.args.text.now = record {
      utf8 = c.utf8.text;
      small = λ i. let fit = c.type_inv.text i in omega
          arith;
    } in
    told_fills c.args.text.now text c.in-Ok.laid c.in_ok-reached-in-Ok.field-0 c.told_by.result c.in-Ok.ensures
    c.in_ok-reached-in-Ok.ensures c.told_by.ensures

pub returns-in_ok-reached-in-Ok-clause-place : goal.returns-in_ok-reached-in-Ok-clause-place
returns-in_ok-reached-in-Ok-clause-place c =
    let text : IsText c.args.text.now = record {
      utf8 = c.utf8.text;
      small = λ i. let fit = c.type_inv.text i in omega
          arith;
    } in
    let stands = laid_stands c.args.text.now text c.in-Ok.laid c.in-Ok.ensures in
    told_place c.args.text.now c.in_ok-reached-in-Ok.field-0 c.in-Ok.laid.refused c.told_by.result
    (subst (InOrder c.args.text.now 0) (sym c.in_ok-reached-in-Ok.ensures) stands.order) stands.refused
    c.told_by.ensures

pub returns-in-Err-clause-place : goal.returns-in-Err-clause-place
returns-in-Err-clause-place c =
    let text : IsText c.args.text.now = record {
      utf8 = c.utf8.text;
      small = λ i. let fit = c.type_inv.text i in omega
          arith;
    } in
    subst (IsPlace c.args.text.now) (sym c.place_of.ensures) (place_stands c.args.text.now c.in-Err.end (end_stands
    c.args.text.now text c.in-Err.end c.in-Err.ensures))
