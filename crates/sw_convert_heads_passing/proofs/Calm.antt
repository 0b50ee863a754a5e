-- Comments are white space where the first of them was told so: behind any other token that is forgotten.
use Rattle.std.proofs.Common.{◌≡◌, ℕ, Bool, true, false, List, ◌∷◌, Option, Some, None, refl, ◌∙◌, ap}
use Rattle.sw_text_scan.proofs.Bounds.{if_false}
use Rattle.sw_parse_terminals.specs.declared.terminal.Terminal.{Terminal}
use Rattle.sw_parse_terminals.specs.declared.terminal.Terminal.TheVariants as terminals
use Rattle.sw_parse_terminals.specs.declared.lexeme.Lexeme.{Lexeme}
use Rattle.sw_parse_lexemes.specs.declared.sort.Sort.{Sort}
use Rattle.sw_parse_lexemes.specs.declared.plain.Plain.{Plain}
use Rattle.sw_parse_lexemes.specs.declared.state.Bracket.{Bracket}
use Rattle.sw_parse_lexemes.specs.declared.state.Comments.TheVariants as comments
use Rattle.sw_parse_lexemes.specs.declared.state.State.{State}
use Rattle.sw_parse_lexemes.specs.Classes.{is_comment}
use Rattle.sw_parse_lexemes.specs.Ahead.{sort_at}
use Rattle.sw_parse_lexemes.specs.Modes.{statement_mode}
use Rattle.sw_parse_lexemes.specs.Names.{is}
use Rattle.sw_parse_lexemes.specs.Terminals.{terminal_of}
use Rattle.sw_parse_lexemes.specs.Steps.{opened_by, closes, after_opening, placed, after, comments_by, are_white, past_white}
use Rattle.sw_convert_passing.specs.Written.{Written, Passed, nothing, token, begins, comment}
use Rattle.sw_convert_passing.proofs.Heads.{placed_is}

abbrev pub Calm : State → Type 0
Calm state = are_white state.comments ≡ false

-- tokens change nothing of it
opening_keeps : (state : State) (terminal : Terminal) (opening : Option Bracket)
    → (after_opening state terminal opening).comments ≡ state.comments
opening_keeps state terminal (Some kind) = refl
opening_keeps state terminal None = go (is terminal terminals.InsertEnd) (closes terminal) refl refl
  where
    go : (a b : Bool) → is terminal terminals.InsertEnd ≡ a → closes terminal ≡ b
        → (after_opening state terminal None).comments ≡ state.comments
    go true b e f = rw e refl
    go false true e f = rw (e, f) refl
    go false false e f = rw (e, f) refl

pub after_keeps : (state : State) (terminal : Terminal) → (after state terminal).comments ≡ state.comments
unfolding after
after_keeps state terminal = opening_keeps state terminal (opened_by terminal)

white_keeps : (state : State) (sort : Sort) → (past_white state sort).comments ≡ state.comments
unfolding past_white
white_keeps state sort = refl

placed_calm : (state : State) (plains : List Plain) (at : ℕ) → state.start ≡ true
    → is_comment (sort_at plains at) ≡ false → Calm (placed state plains at)
placed_calm state plains at start code =
    ap (λ (s : State). are_white s.comments) (placed_is state plains at (statement_mode plains at) start refl)
    ∙ ap are_white
    (if_false (is_comment (sort_at plains at)) (comments_by state.comments plains at) comments.Unknown code)

pub passed_calm : {plains : List Plain} {state end : State} {at to : ℕ} {tokens : List Written} {lexemes : List Lexeme}
    → Passed plains state at tokens lexemes end to → Calm state → Calm end
passed_calm nothing c = c
passed_calm {plains} (token {state} {at = at} plain one is_plain code start ignored among p) c =
    passed_calm p (ap are_white (after_keeps state (terminal_of state plains at)) ∙ c)
passed_calm {plains} (begins {state} {at = at} plain one is_plain code start ignored among p) c =
    passed_calm p
    (ap are_white (after_keeps (placed state plains at) (terminal_of (placed state plains at) plains at))
    ∙ placed_calm state plains at start code)
passed_calm (comment {state} plain one none is_plain here start ignored p) c =
    passed_calm p (ap are_white (white_keeps state plain.sort) ∙ c)

-- behind the first token of a statement, and others
pub first_calm : {plains : List Plain} {state end : State} {at to : ℕ} {one : Written} {rest : List Written}
    {lexemes : List Lexeme} → Passed plains state at (one ∷ rest) lexemes end to → state.start ≡ true → Calm end
first_calm (token plain one is_plain code start ignored among p) s = absurd (cc)
first_calm {plains} (begins {state} {at = at} plain one is_plain code start ignored among p) s =
    passed_calm p
    (ap are_white (after_keeps (placed state plains at) (terminal_of (placed state plains at) plains at))
    ∙ placed_calm state plains at start code)
first_calm (comment plain one none is_plain here start ignored p) s = absurd (cc)

pub begun_calm : {plains : List Plain} {state end : State} {at to : ℕ} {tokens : List Written} {lexemes : List Lexeme}
    → Passed plains state at tokens lexemes end to → state.start ≡ true → end.start ≡ false → Calm end
begun_calm nothing s e = absurd (cc)
begun_calm (token plain one i c b g m p) s e = first_calm (token plain one i c b g m p) s
begun_calm (begins plain one i c b g m p) s e = first_calm (begins plain one i c b g m p) s
begun_calm (comment plain one n i c b g p) s e = first_calm (comment plain one n i c b g p) s
