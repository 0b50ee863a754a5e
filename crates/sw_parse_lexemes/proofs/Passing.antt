-- The state behind a terminal that neither opens nor closes anything.
use Rattle.std.proofs.Common.{◌≡◌, true, refl, ap, ◌∙◌}
use Rattle.sw_parse_terminals.specs.declared.terminal.Terminal.{Terminal}
use Rattle.sw_parse_terminals.specs.declared.terminal.Terminal.TheVariants as terminals
use Rattle.sw_parse_lexemes.specs.declared.state.Mode.{Mode}
use Rattle.sw_parse_lexemes.specs.declared.state.Mode.TheVariants as modes
use Rattle.sw_parse_lexemes.specs.declared.state.State.{State}
use Rattle.sw_parse_lexemes.specs.Steps.{further_mode, in_word, passes, stays, stepped, after}

passing : (state : State) (terminal : Terminal) → passes terminal ≡ true
    → after state terminal ≡ stepped state (further_mode state.mode terminal) (in_word terminal) terminal
unfolding after
passing state terminals.Open e = absurd (cc)
passing state terminals.Close e = absurd (cc)
passing state terminals.RawParen e = absurd (cc)
passing state terminals.RawBracket e = absurd (cc)
passing state terminals.RawBrace e = absurd (cc)
passing state terminals.Insert e = absurd (cc)
passing state terminals.RawParenEnd e = absurd (cc)
passing state terminals.RawBracketEnd e = absurd (cc)
passing state terminals.RawBraceEnd e = absurd (cc)
passing state terminals.InsertEnd e = absurd (cc)
passing state terminals.TemplateEnd e = absurd (cc)
passing state terminals.UrlEnd e = absurd (cc)
passing state terminals.CommentEnd e = absurd (cc)
passing state terminals.Template e = absurd (cc)
passing state terminals.UrlTemplate e = absurd (cc)
passing state terminals.WordInsert e = absurd (cc)
passing state terminals.Paren e = absurd (cc)
passing state terminals.ConditionParen e = absurd (cc)
passing state terminals.Bracket e = absurd (cc)
passing state terminals.PartInsert e = absurd (cc)
passing state terminals.CallParen e = absurd (cc)
passing state terminals.ParenEnd e = absurd (cc)
passing state terminals.BracketEnd e = absurd (cc)
passing state terminals.CommentTemplate e = absurd (cc)
passing state terminals.HeadParen e = absurd (cc)
passing state _ e = refl

keeps : (mode : Mode) (terminal : Terminal) → stays mode ≡ true → further_mode mode terminal ≡ mode
keeps modes.Each terminal e = absurd (cc)
keeps modes.For terminal e = absurd (cc)
keeps modes.Else terminal e = absurd (cc)
keeps modes.CustomName terminal e = absurd (cc)
keeps _ terminal e = refl

pub passing_after : (state : State) (terminal : Terminal) → passes terminal ≡ true → stays state.mode ≡ true
    → after state terminal ≡ stepped state state.mode (in_word terminal) terminal
passing_after state terminal p s =
    passing state terminal p ∙ ap (λ (mode : Mode). stepped state mode (in_word terminal) terminal) (keeps state.mode terminal s)
