use Rattle.std.proofs.Common.{◌≡◌, false, Bor, Option, Some, None, refl, sym, ◌∙◌}
use Rattle.std.specs.Option.{is_some, option_copied}
use Rattle.sw_tokens.specs.declared.token.Token.{Token}
use Rattle.sw_parse_css.specs.Seen.{seen}
use Rattle.sw_parse_css.proofs.Saying.{said_past}
use Rattle.sw_parse_css.proofs.said.has_comments.Goals as goal

none : (o : Option (Bor Token)) → is_some o ≡ false → option_copied o ≡ None
none None e = refl
none (Some x) e = absurd (cc)

pub places-preserved : goal.places-preserved
places-preserved c to from =
    c.places.invariant to from
    ∙ said_past (seen c.args.source.now) to from c.places.at c.args.last c.places-test.true
    (sym c.comment_at.ensures.comment ∙ none c.comment_at.result (sym c.is_some.ensures ∙ c.if-is_some.false))
