use Rattle.std.proofs.Common.{refl, sym, ap, ◌∙◌, arith}
use Rattle.std.proofs.lemmas.List.Elements.{All-nil, All-push}
use Rattle.sw_text.specs.Places.{Text}
use Rattle.sw_tokens.specs.Order.{StandsIn}
use Rattle.sw_parse_lexemes.specs.Plains.{PlainLies, plain_of, plains_of}
use Rattle.sw_parse_lexemes.proofs.Cursors.{start_stands}
use Rattle.sw_parse_lexemes.proofs.Listed.{plains_step, plains_all}
use Rattle.sw_parse_lexemes.proofs.plains.plains_of.Goals as goal

pub end_at-to-requires-clause-stands : goal.end_at-to-requires-clause-stands
end_at-to-requires-clause-stands c = c.in-Some.ensures.stands c.in-Some.token.now (sym c.in-Some.ensures.value)

pub ends_of-ends-requires-clause-from : goal.ends_of-ends-requires-clause-from
ends_of-ends-requires-clause-from c =
    let stands : StandsIn c.args.tokens.now.sheet.bytes c.in-Some.token.now = c.in-Some.ensures.stands c.in-Some.token.now (sym c.in-Some.ensures.value) in
    rw c.tokens.invariant.text stands.from

pub tokens-init : goal.tokens-init
tokens-init c = record {
  plains = rw c.in_ok-plains.ensures.items refl;
  lie = rw c.in_ok-plains.ensures.items (All-nil (PlainLies c.args.tokens.now.sheet.bytes));
  text = c.marked-text.ensures ∙ c.sheet.ensures;
  near = start_stands c.marked-text.result.bytes.now 0 _ (omega arith) (omega arith) refl;
}

pub plain_of-requires-clause-stands : goal.plain_of-requires-clause-stands
plain_of-requires-clause-stands c =
    let stands : StandsIn c.args.tokens.now.sheet.bytes c.in-Some.token.now = c.in-Some.ensures.stands c.in-Some.token.now (sym c.in-Some.ensures.value) in
    rw c.tokens.invariant.text stands

pub tokens-preserved : goal.tokens-preserved
tokens-preserved c = record {
  plains = plains_step c.args.tokens.now.sheet.bytes c.args.tokens.now.list c.tokens.gap c.tokens.at c.end_at-to.result c.in-Some.token.now c.plain_of.result
      c.tokens.plains.items c.push.new.self.items (plains_of c.args.tokens.now.sheet.bytes c.args.tokens.now.list) c.in-Some.ensures.value
      c.end_at-to.ensures.value
      (c.plain_of.ensures.plain ∙ ap (λ (t : Text). plain_of t.bytes c.tokens.gap c.in-Some.token.now c.ends_of-ends.result.to) c.tokens.invariant.text
      ∙ ap (plain_of c.args.tokens.now.sheet.bytes c.tokens.gap c.in-Some.token.now) c.ends_of-ends.ensures.to)
      c.in_ok-push.ensures.items c.tokens.invariant.plains;
  lie = rw c.in_ok-push.ensures.items (All-push (PlainLies c.args.tokens.now.sheet.bytes) _ _ c.tokens.invariant.lie (rw c.tokens.invariant.text at c.plain_of.ensures.lies));
  text = c.tokens.invariant.text;
  near = c.ends_of-ends.ensures.stands;
}

pub returns-clause-plains : goal.returns-clause-plains
returns-clause-plains c =
    plains_all c.args.tokens.now.sheet.bytes c.args.tokens.now.list c.tokens.gap c.tokens.at c.tokens.plains.items
    (plains_of c.args.tokens.now.sheet.bytes c.args.tokens.now.list) c.in_default.ensures.value c.tokens.invariant.plains
