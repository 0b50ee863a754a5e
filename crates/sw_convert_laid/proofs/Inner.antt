-- The steps of the walk in a string, url or `#{}` of a line.
use Rattle.std.proofs.Common.{◌≡◌, ℕ, ◌+◌, ◌<◌, true, false, List, [], ◌∷◌, ◌++◌, length, Some, None, Ok, refl, ◌∙◌, ap, arith}
use Rattle.std.specs.Prelude.{◌==◌}
use Rattle.std.specs.List.{list_all}
use Rattle.sw_text_scan.specs.Bytes.{byte, is_white}
use Rattle.sw_text_scan.specs.declared.runs.Class.TheVariants as classes
use Rattle.sw_text_scan.proofs.Bounds.{if_false, and_left}
use Rattle.sw_tokens.specs.declared.pieces.Before.{Before}
use Rattle.sw_tokens.specs.declared.pieces.Before.TheVariants as befores
use Rattle.sw_tokens.specs.declared.pieces.Change.TheVariants as changes
use Rattle.sw_tokens.specs.declared.pieces.Piece.{Piece}
use Rattle.sw_tokens.specs.declared.scan.Opened.{Opened}
use Rattle.sw_tokens.specs.declared.skips.Inside.{Inside}
use Rattle.sw_tokens.specs.Pieces.{piece, made_white}
use Rattle.sw_tokens.specs.Tokens.{changed, before_of, is_spaced}
use Rattle.sw_parse_layout.specs.declared.blocks.Blocks.{Blocks}
use Rattle.sw_parse_layout.specs.declared.sorts.Sort.{Sort}
use Rattle.sw_parse_layout.specs.declared.state.Bracket.{Bracket}
use Rattle.sw_parse_layout.specs.declared.state.Line.{Line}
use Rattle.sw_parse_layout.specs.declared.state.Mode.TheVariants as modes
use Rattle.sw_parse_layout.specs.declared.state.State.{State}
use Rattle.sw_parse_layout.specs.Pieces.{is_outside, end_by, is_refused, kept_behind, piece_found, piece_taken, piece_step}
use Rattle.sw_parse_layout.specs.Steps.{step}
use Rattle.sw_convert_spelling.specs.Spelt.{Spelt, innermost, takes_gap, IsToken}
use Rattle.sw_convert_spelling.proofs.Choices.{left_no}
use Rattle.sw_convert_spelling.proofs.MovedRuns.{first_byte}
use Rattle.sw_convert_laid.proofs.Going.{Goes, to_same}
use Rattle.sw_convert_laid.proofs.Behind.{run_over, Behind, byte_first, within, run_there, piece_there}
use Rattle.sw_convert_laid.proofs.Sorts.{is_fresh, same_name}
use Rattle.sw_convert_laid.proofs.Steps.{in_line, piece_goes, line_in}
use Rattle.sw_convert_laid.proofs.Taken.{Holds, top_is}
use Rattle.sw_convert_laid.proofs.White.{white_piece}

module _ (bs : List ℕ) (depth : ℕ) (blocks : Blocks) (brackets : List Bracket) (sort : Sort) (end : ℕ)
    (begun : is_fresh sort ≡ false) (os : List Opened) (stack : List Inside) (held : Holds os stack)
    (some_open : (length os == 0) ≡ false) where
  abbrev inside : ℕ → Before → State
  inside at before = in_line at depth os before brackets sort end [] blocks

  inner_step : (at : ℕ) (before : Before) (p : Piece) → piece bs (innermost stack) before at ≡ Some p
      → step bs (inside at before) ≡ Ok (piece_found (inside at before) p)
  unfolding step piece_step
  inner_step at before p e =
      if_false (is_outside (inside at before).line) _ _ some_open
      ∙ ap (piece_taken (inside at before)) (ap (λ (i : Inside). piece bs i before at) (top_is os stack held) ∙ e)

  inner_goes : (at : ℕ) (before : Before) (p : Piece) → at < length bs → piece bs (innermost stack) before at ≡ Some p
      → Goes bs (inside at before) (kept_behind [] p.token at p.to before)
      (in_line p.to depth (changed os p.change at) (before_of p.token) brackets sort (end_by p.token end p.to) [] blocks)
  unfolding is_refused
  inner_goes at before p l e =
      to_same bs
      (piece_goes bs depth blocks (inside at before) p p.token l (inner_step at before p e) (same_name sort p.token begun)
      (left_no (is_outside (inside at before).line) _ some_open))
      (ap (λ (line : Line). let s : State = record { at = p.to; mode = modes.Statement depth; line = line; blocks = blocks } in s)
      (line_in bs depth blocks (inside at before).line p.token p.change p.to at some_open))

  -- white space
  pub gap_goes : (gap rest : List ℕ) {at : ℕ} (before : Before) → Behind bs at (gap ++ rest) → 0 < length gap
      → takes_gap (innermost stack) ≡ true → list_all is_white gap ≡ true → is_white (byte rest 0) ≡ false
      → Goes bs (inside at before) [] (inside (at + length gap) befores.White)
  gap_goes gap rest {at} before b some takes white black =
      inner_goes at before (record { token = None; to = at + length gap; change = changes.Keep }) (within bs b (long gap some))
      (white_piece bs at (ap is_white (byte_first bs b) ∙ first_white gap white some) (innermost stack) before takes
      ∙ ap made_white
      (run_there bs b classes.White
      ∙ ap (λ (n : ℕ). at + n) (run_over classes.White is_white (λ xs i. refl) gap rest white black)))
    where
      long : (xs : List ℕ) → 0 < length xs → 0 < length (xs ++ rest)
      long [] l = absurd (omega (arith, l))
      long (x ∷ xs) l = omega arith

      first_white : (xs : List ℕ) → list_all is_white xs ≡ true → 0 < length xs → is_white (byte (xs ++ rest) 0) ≡ true
      first_white [] w s = absurd (omega (arith, s))
      first_white (x ∷ xs) w s = ap is_white (first_byte x (xs ++ rest)) ∙ and_left (is_white x) _ w

  -- a token
  pub inner_token : (spelt : Spelt) (after : List ℕ) {at : ℕ} (before : Before) → Behind bs at (spelt.bytes ++ after)
      → 0 < length spelt.bytes → IsToken (innermost stack) before spelt after
      → Goes bs (inside at before)
      (record { kind = spelt.kind; from = at; to = at + length spelt.bytes; spaced = is_spaced before } ∷ [])
      (in_line (at + length spelt.bytes) depth (changed os spelt.change at) (before_of (Some spelt.kind)) brackets sort
      (at + length spelt.bytes) [] blocks)
  inner_token spelt after {at} before b some is =
      inner_goes at before (record { token = Some spelt.kind; to = at + length spelt.bytes; change = spelt.change })
      (within bs b (long spelt.bytes some)) (piece_there bs b (innermost stack) before _ is)
    where
      long : (xs : List ℕ) → 0 < length xs → 0 < length (xs ++ after)
      long [] l = absurd (omega (arith, l))
      long (x ∷ xs) l = omega arith
