use Rattle.std.proofs.Common.{◌≡◌, drop}
use Rattle.sw_tokens.specs.Ends.{holds_closing}
use Rattle.sw_tokens.proofs.ends.holds_closing.Given as goal

abbrev pub invariant-tokens : goal.invariant-tokens
invariant-tokens l = holds_closing (drop l.token-index l.tokens) ≡ holds_closing l.tokens
