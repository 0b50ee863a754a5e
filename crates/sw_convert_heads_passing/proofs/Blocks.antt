-- The ends of statements and the braces around blocks are told.
use Rattle.std.proofs.Common.{◌≡◌, ℕ, ◌+◌, ◌-◌, ◌&&◌, nat_lt, List, [], ◌∷◌, ◌++◌, length, take, refl, ◌∙◌, ap, subst}
use Rattle.sw_text_scan.proofs.Bounds.{if_true, if_false}
use Rattle.sw_parse_terminals.specs.declared.terminal.Terminal.TheVariants as terminals
use Rattle.sw_parse_lexemes.specs.declared.sort.Sort.TheVariants as sorts
use Rattle.sw_parse_lexemes.specs.declared.plain.Plain.{Plain}
use Rattle.sw_parse_lexemes.specs.declared.state.Mode.{Mode}
use Rattle.sw_parse_lexemes.specs.declared.state.Frame.{Frame}
use Rattle.sw_parse_lexemes.specs.declared.state.State.{State}
use Rattle.sw_parse_lexemes.specs.Ahead.{sort_at, length_at}
use Rattle.sw_parse_lexemes.specs.Modes.{statement_mode}
use Rattle.sw_parse_lexemes.specs.Brackets.{innermost, is_outer, is_brace, is_custom, open_brace, close_brace, semicolon}
use Rattle.sw_parse_lexemes.specs.Terminals.{terminal_of}
use Rattle.sw_parse_lexemes.specs.Steps.{after}
use Rattle.sw_convert_passing.specs.Written.{Written, Within}
use Rattle.sw_convert_passing.specs.Heads.{Starts}
use Rattle.sw_convert_passing.proofs.Steps.{Reads, join, step, start_step, stay_at, innermost_is, outer_are}
use Rattle.sw_convert_passing.proofs.Entries.{one_of}
use Rattle.sw_convert_passing.proofs.Heads.{placed_as, placed_is}
use Rattle.sw_convert_heads_passing.specs.Blocks.{end_sign, open_sign, close_sign, block_in, StartTold, EndsAreTold, BlocksOpen, BlocksClose, BlocksEnd}

module _ (state : State) (plains : List Plain) (at : ℕ) where
  by_end : sort_at plains at ≡ sorts.Semicolon
      → terminal_of state plains at ≡ semicolon state.mode (innermost state.frames)
  unfolding terminal_of
  by_end e = rw (e, terminal_of) refl

  by_open : sort_at plains at ≡ sorts.OpenBrace
      → terminal_of state plains at ≡ open_brace state.mode (innermost state.frames) (length_at plains at)
  unfolding terminal_of
  by_open e = rw (e, terminal_of) refl

  by_close : sort_at plains at ≡ sorts.CloseBrace
      → terminal_of state plains at ≡ close_brace state.mode (innermost state.frames)
  unfolding terminal_of
  by_close e = rw (e, terminal_of) refl

pub start_told : {plains : List Plain} {frames : List Frame} {state : State} {at to : ℕ} {tokens : List Written} (end : State)
    → Reads plains state at tokens end to → Starts frames end → StartTold plains frames state at tokens to
start_told end (lexemes, passed) starts = record { end = end; lexemes = lexemes; passed = passed; starts = starts }

ends_starts : {frames : List Frame} (state : State) → state.frames ≡ frames → Starts frames (after state terminals.Semicolon)
unfolding after
ends_starts state e = record { frames_are = e; start = refl; no_comment = refl; word = refl; before = refl }

opens_starts : {mode : Mode} {frames : List Frame} (state : State) → Within mode frames state
    → Starts (frames ++ block_in mode ∷ []) (after state terminals.Open)
unfolding after
opens_starts {mode} {frames} state within = record {
  frames_are = ap (λ (m : Mode). state.frames ++ block_in m ∷ []) within.mode_is
      ∙ ap (λ (x : List Frame). x ++ block_in mode ∷ []) within.frames_are;
  start = refl;
  no_comment = refl;
  word = refl;
  before = refl;
}

closes_starts : {frames : List Frame} (mode : Mode) (state : State) → state.frames ≡ frames ++ block_in mode ∷ []
    → Starts frames (after state terminals.Close)
unfolding after
closes_starts {frames} mode state e = record {
  frames_are = ap (λ (x : List Frame). take (length x - 1) x) e ∙ outer_are frames (block_in mode);
  start = refl;
  no_comment = refl;
  word = refl;
  before = refl;
}

close_here : (frames : List Frame) (mode : Mode) (state : State) (plains : List Plain) (at : ℕ)
    → state.frames ≡ frames ++ block_in mode ∷ [] → sort_at plains at ≡ sorts.CloseBrace
    → terminal_of state plains at ≡ terminals.Close
close_here frames mode state plains at f e =
    let here = ap innermost f ∙ innermost_is frames (block_in mode) in
    by_close state plains at e
    ∙ if_false (is_brace (innermost state.frames)) terminals.RawBraceEnd _ (ap is_brace here)
    ∙ if_true (is_outer (innermost state.frames)) terminals.Close _ (ap is_outer here)

pub ends_are_told : EndsAreTold
ends_are_told spaced plains mode frames state at to outer within (there, e) =
    let told = by_end state plains at there.sort
    ∙ if_true (is_outer (innermost state.frames)) terminals.Semicolon _
    (ap (λ (x : List Frame). is_outer (innermost x)) within.frames_are ∙ outer) in
    start_told (after state terminals.Semicolon)
    (join (step plains state at (end_sign spaced) terminals.Semicolon within there refl told one_of) (stay_at e))
    (ends_starts state within.frames_are)

pub blocks_open : BlocksOpen
blocks_open spaced plains mode frames state at to outer no_text within (there, e) =
    let told = by_open state plains at there.sort
    ∙ if_false (is_custom state.mode && nat_lt 0 (length_at plains at)) terminals.RawBrace _
    (ap (λ (m : Mode). is_custom m && nat_lt 0 (length_at plains at)) within.mode_is ∙ no_text)
    ∙ if_true (is_outer (innermost state.frames)) terminals.Open _
    (ap (λ (x : List Frame). is_outer (innermost x)) within.frames_are ∙ outer) in
    start_told (after state terminals.Open)
    (join (step plains state at (open_sign spaced) terminals.Open within there refl told one_of) (stay_at e))
    (opens_starts state within)

pub blocks_close : BlocksClose
blocks_close spaced plains mode frames state at to starts (there, e) =
    let s0 = placed_as state plains at (statement_mode plains at) in
    let is_placed = placed_is state plains at (statement_mode plains at) starts.start refl in
    let told = ap (λ (s : State). terminal_of s plains at) is_placed
    ∙ close_here frames mode s0 plains at starts.frames_are there.sort in
    start_told (after s0 terminals.Close)
    (join (subst (λ (s : State). Reads plains state at (close_sign spaced ∷ []) (after s terminals.Close) (at + 1)) is_placed
    (start_step plains state at (close_sign spaced) terminals.Close starts.start starts.no_comment there refl told one_of))
    (stay_at e)) (closes_starts mode s0 starts.frames_are)

pub blocks_end : BlocksEnd
blocks_end spaced plains inner mode frames state at to within (there, e) =
    start_told (after state terminals.Close)
    (join (step plains state at (close_sign spaced) terminals.Close within there refl
    (close_here frames mode state plains at within.frames_are there.sort) one_of) (stay_at e))
    (closes_starts mode state within.frames_are)
