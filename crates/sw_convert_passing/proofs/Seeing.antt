-- The pass over tokens takes what is passed one by one.
use Rattle.std.proofs.Common.{◌≡◌, ℕ, suc, ◌+◌, ◌<◌, Bool, false, not, ◌||◌, List, ◌∷◌, ◌++◌, length, drop, Some, slice_get, refl, ◌∙◌, ap, add-one, drop-cons}
use Rattle.std.specs.Prelude.{nat_lt}
use Rattle.std.proofs.lemmas.Option.{slice_get_within, get_or_from_slice_get}
use Rattle.sw_text_scan.proofs.Bounds.{if_true, if_false}
use Rattle.sw_parse_terminals.specs.declared.lexeme.Lexeme.{Lexeme}
use Rattle.sw_parse_lexemes.specs.declared.sort.Sort.TheVariants as sorts
use Rattle.sw_parse_lexemes.specs.declared.plain.Plain.{Plain}
use Rattle.sw_parse_lexemes.specs.declared.state.State.{State}
use Rattle.sw_parse_lexemes.specs.Classes.{is_comment}
use Rattle.sw_parse_lexemes.specs.Ahead.{sort_at}
use Rattle.sw_parse_lexemes.specs.Terminals.{terminal_of}
use Rattle.sw_parse_lexemes.specs.Steps.{placed, is_white, are_white}
use Rattle.sw_parse_lexemes.specs.Lexemes.{Reading, lexeme_of, skipped, kept, read_placed, read, optional, lexemes_from, lexemes_by}
use Rattle.sw_convert_passing.specs.Written.{Written, Passed, nothing, token, begins, comment, PassedIsSeen}
use Rattle.sw_convert_passing.proofs.Facts.{no_and, both}

module _ (plains : List Plain) where
  -- within a statement a token is read where it stands
  read_there : (state : State) (at : ℕ) (plain : Plain) → state.start ≡ false → state.ignored ≡ 0
      → read state plains at plain ≡ read_placed state plains at plain
  unfolding read placed
  read_there state at plain start ignored =
      if_false (nat_lt 0 state.ignored) (skipped state plain) _ (ap (nat_lt 0) ignored)
      ∙ ap (λ (s : State). read_placed s plains at plain) (if_false state.start _ state start)

  read_kept : (state : State) (at : ℕ) (plain : Plain) → state.start ≡ false → state.ignored ≡ 0
      → is_comment (sort_at plains at) ≡ false
      → read state plains at plain ≡ kept state at plain (terminal_of state plains at)
  read_kept state at plain start ignored code =
      read_there state at plain start ignored
      ∙ if_false (is_white state plains at) (skipped state plain) _ (no_and (is_comment (sort_at plains at)) _ code)

  read_begun : (state : State) (at : ℕ) (plain : Plain) → state.ignored ≡ 0 → is_comment (sort_at plains at) ≡ false
      → read state plains at plain
      ≡ kept (placed state plains at) at plain (terminal_of (placed state plains at) plains at)
  unfolding read
  read_begun state at plain ignored code =
      if_false (nat_lt 0 state.ignored) (skipped state plain) _ (ap (nat_lt 0) ignored)
      ∙ if_false (is_white (placed state plains at) plains at) (skipped (placed state plains at) plain) _
      (no_and (is_comment (sort_at plains at)) _ code)

  read_skipped : (state : State) (at : ℕ) (plain : Plain) → state.start ≡ false → state.ignored ≡ 0
      → sort_at plains at ≡ sorts.Comment → read state plains at plain ≡ skipped state plain
  read_skipped state at plain start ignored here =
      read_there state at plain start ignored
      ∙ if_true (is_white state plains at) (skipped state plain) _
      (both (is_comment (sort_at plains at)) _ (ap is_comment here)
      (ap (λ (b : Bool). not b || are_white state.comments) start))

  next_is : (at : ℕ) (plain : Plain) → slice_get plains at ≡ Some plain → drop at plains ≡ plain ∷ drop (at + 1) plains
  next_is at plain e =
      let lt : at < length plains = slice_get_within plains at plain e in
      rw add-one (drop-cons plains at plain lt
      ∙ ap (λ (x : Plain). x ∷ drop (suc at) plains) (get_or_from_slice_get plains at plain plain e))

  pub one : (state : State) (at : ℕ) (plain : Plain) (reading : Reading) → slice_get plains at ≡ Some plain
      → read state plains at plain ≡ reading
      → lexemes_by plains state at ≡ optional reading.lexeme ++ lexemes_by plains reading.state (at + 1)
  one state at plain reading is_plain e =
      ap (lexemes_from plains state at) (next_is at plain is_plain)
      ∙ ap (λ (r : Reading). optional r.lexeme ++ lexemes_from plains r.state (at + 1) (drop (at + 1) plains)) e

  seen : {state : State} {at : ℕ} {tokens : List Written} {lexemes : List Lexeme} {end : State} {to : ℕ}
      → Passed plains state at tokens lexemes end to
      → lexemes_by plains state at ≡ lexemes ++ lexemes_by plains end to
  seen nothing = refl
  seen (token {state} {end} {at} {to} {tokens} {lexemes} plain another is_plain code start ignored among p) =
      one state at plain (kept state at plain (terminal_of state plains at)) is_plain
      (read_kept state at plain start ignored code)
      ∙ ap (λ (x : List Lexeme). lexeme_of plain at state.commented (terminal_of state plains at) ∷ x) (seen p)
  seen (begins {state} {end} {at} {to} {tokens} {lexemes} plain another is_plain code start ignored among p) =
      one state at plain (kept (placed state plains at) at plain (terminal_of (placed state plains at) plains at))
      is_plain
      (read_begun state at plain ignored code)
      ∙ ap (λ (x : List Lexeme).
      lexeme_of plain at (placed state plains at).commented (terminal_of (placed state plains at) plains at) ∷ x)
      (seen p)
  seen (comment {state} {end} {at} {to} {tokens} {lexemes} plain another none is_plain here start ignored p) =
      one state at plain (skipped state plain) is_plain (read_skipped state at plain start ignored here)
      ∙ seen p

pub passed_is_seen : PassedIsSeen
passed_is_seen plains state at tokens lexemes end to p = seen plains p
