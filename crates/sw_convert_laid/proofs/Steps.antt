-- The steps of the walk within a line: over white space, over a token and over an empty comment.
use Rattle.std.proofs.Common.{◌≡◌, ℕ, ◌+◌, ◌<◌, Bool, true, false, ◌&&◌, ◌||◌, if◌then◌else◌, List, [], ◌∷◌, ◌++◌, length, Option, Some, Ok, refl, ◌∙◌, ap, subst, arith}
use Rattle.std.specs.Prelude.{◌==◌, codes}
use Rattle.std.specs.List.{list_all}
use Rattle.std.proofs.lemmas.Bool.Decides.{nat_tests}
use Rattle.sw_text_scan.specs.Bytes.{sign, byte, is_break, is_white, begins_silent, begins_loud, ends_loud}
use Rattle.sw_text_scan.proofs.Bounds.{if_true, if_false, and_left, and_right}
use Rattle.sw_tokens.specs.declared.pieces.Before.{Before}
use Rattle.sw_tokens.specs.declared.pieces.Before.TheVariants as befores
use Rattle.sw_tokens.specs.declared.pieces.Change.{Change}
use Rattle.sw_tokens.specs.declared.pieces.Piece.{Piece}
use Rattle.sw_tokens.specs.declared.scan.Opened.{Opened}
use Rattle.sw_tokens.specs.declared.skips.Inside.{Inside}
use Rattle.sw_tokens.specs.declared.skips.Inside.TheVariants as insides
use Rattle.sw_tokens.specs.declared.token.Token.{Token}
use Rattle.sw_tokens.specs.declared.token.TokenKind.{TokenKind}
use Rattle.sw_tokens.specs.declared.token.TokenKind.TheVariants as kinds
use Rattle.sw_tokens.specs.Pieces.{piece}
use Rattle.sw_tokens.specs.Tokens.{changed, before_of, is_spaced}
use Rattle.sw_parse_layout.specs.declared.blocks.Blocks.{Blocks}
use Rattle.sw_parse_layout.specs.declared.sorts.Sort.{Sort}
use Rattle.sw_parse_layout.specs.declared.state.Bracket.{Bracket}
use Rattle.sw_parse_layout.specs.declared.state.Found.{Found}
use Rattle.sw_parse_layout.specs.declared.state.Line.{Line}
use Rattle.sw_parse_layout.specs.declared.state.Mode.TheVariants as modes
use Rattle.sw_parse_layout.specs.declared.state.State.{State}
use Rattle.sw_parse_layout.specs.declared.lines.Reach.{Reach}
use Rattle.sw_parse_layout.specs.declared.lines.Reach.TheVariants as reaches
use Rattle.sw_parse_layout.specs.declared.lines.Over.TheVariants as overs
use Rattle.sw_parse_layout.specs.Laid.{refused_at}
use Rattle.sw_parse_layout.specs.Lines.{is_blank, ends_at_sign, look_over, comment_with, comment_from, comment_end}
use Rattle.sw_parse_layout.specs.Sorts.{sorted}
use Rattle.sw_parse_layout.specs.Pieces.{moved, passed, bracketed, is_outside, end_by, sorted_by, renamed, line_after, is_refused_sign, is_refused, kept_behind, piece_found, piece_taken, piece_step}
use Rattle.sw_parse_layout.specs.Steps.{reach_in, statement_step, step}
use Rattle.sw_convert_spelling.specs.Spelt.{Spelt, behind_gap, IsToken}
use Rattle.sw_convert_laid.specs.Heads.{is_comment, opens_comment}
use Rattle.sw_convert_laid.proofs.Going.{Goes, stays, then_on, stepped, to_same}
use Rattle.sw_convert_laid.proofs.Behind.{Behind, byte_first, byte_there, within, piece_there, one_on, byte_here}
use Rattle.sw_convert_laid.proofs.Taken.{nothing, top_is, no_white, no_break, no_silent, no_loud}

-- the walk stands in a line
abbrev pub in_line : ℕ → ℕ → List Opened → Before → List Bracket → Sort → ℕ → List Token → Blocks → State
in_line at depth os before brackets sort end comments blocks = record {
  at = at;
  mode = modes.Statement depth;
  line = record { opened = os; before = before; brackets = brackets; sort = sort; end = end; comments = comments };
  blocks = blocks;
}

blank_white : (b : ℕ) → is_blank b ≡ true → is_white b ≡ true
blank_white b e = grind (arith, nat_tests)

blank_no_break : (b : ℕ) → is_blank b ≡ true → is_break b ≡ false
blank_no_break b e = grind (arith, nat_tests)

pub still_white : (gap : List ℕ) → behind_gap befores.White gap ≡ befores.White
still_white [] = refl
still_white (b ∷ gap) = refl

module _ (bs : List ℕ) (depth : ℕ) (blocks : Blocks) where
  -- what is found with a piece, once its name is known
  abbrev found_with : State → Piece → Option TokenKind → Found
  found_with s p token = record {
    laid = record {
      tokens = kept_behind s.line.comments token s.at p.to s.line.before;
      refused = refused_at (is_refused s.mode s.line token) s.at;
    };
    state = record { at = p.to; mode = s.mode; line = line_after s.line token p.change p.to s.at; blocks = s.blocks };
  }

  found_is : (s : State) (p : Piece) (token : Option TokenKind) → renamed s.line.sort p.token ≡ token
      → piece_found s p ≡ found_with s p token
  unfolding piece_found
  found_is s p token e = ap (found_with s p) e

  pub piece_goes : (s : State) (p : Piece) (token : Option TokenKind) → s.at < length bs
      → step bs s ≡ Ok (piece_found s p) → renamed s.line.sort p.token ≡ token
      → is_refused s.mode s.line token ≡ false
      → Goes bs s (kept_behind s.line.comments token s.at p.to s.line.before)
      (record { at = p.to; mode = s.mode; line = line_after s.line token p.change p.to s.at; blocks = s.blocks })
  piece_goes s p token l e r f =
      stepped bs s (found_with s p token) l (e ∙ ap Ok (found_is s p token r)) (ap (λ (t : Bool). refused_at t s.at) f)

  -- ---- outside strings, urls and `#{}`

  module _ (brackets : List Bracket) (sort : Sort) (end : ℕ) (comments : List Token) where
    abbrev ground : ℕ → Before → State
    ground at before = in_line at depth [] before brackets sort end comments blocks

    blank_step : (at : ℕ) (before : Before) → is_blank (byte bs at) ≡ true
        → step bs (ground at before) ≡ Ok (moved (ground at before) (at + 1))
    unfolding step statement_step
    blank_step at before e =
        if_false (is_break (byte bs at)) _ _ (blank_no_break (byte bs at) e)
        ∙ if_true (is_white (byte bs at)) _ _ (blank_white (byte bs at) e)

    pub blanks_go : (gap rest : List ℕ) {at : ℕ} (before : Before) → Behind bs at (gap ++ rest)
        → list_all is_blank gap ≡ true
        → Goes bs (ground at before) [] (ground (at + length gap) (behind_gap before gap))
    blanks_go [] rest {at} before b e =
        to_same bs (stays bs (ground at before)) (ap (λ (k : ℕ). ground k before) (let p : at ≡ at + 0 = omega arith in p))
    blanks_go (x ∷ gap) rest {at} before b e =
        let one : is_blank (byte bs at) ≡ true = ap is_blank (byte_here bs b) ∙ and_left (is_blank x) _ e in
        to_same bs
        (then_on bs
        (stepped bs (ground at before) (moved (ground at before) (at + 1)) (within bs b (let z : 0 < length (x ∷ (gap ++ rest)) = omega arith in z))
        (blank_step at before one) refl)
        (blanks_go gap rest befores.White (one_on bs b) (and_right (is_blank x) _ e)))
        (ap (λ (w : Before). ground ((at + 1) + length gap) w) (still_white gap)
        ∙ ap (λ (k : ℕ). ground k befores.White) (let p : (at + 1) + length gap ≡ at + length (x ∷ gap) = omega arith in p))

    module _ {at : ℕ} (before : Before) (spelt : Spelt) (after : List ℕ) (b : Behind bs at (spelt.bytes ++ after))
        (some : 0 < length spelt.bytes) where
      starts : at < length bs
      starts =
          within bs b (long spelt.bytes some)
        where
          long : (xs : List ℕ) → 0 < length xs → 0 < length (xs ++ after)
          long [] l = absurd (omega (arith, l))
          long (x ∷ xs) l = omega arith

      abbrev taken : Piece
      taken = record { token = Some spelt.kind; to = at + length spelt.bytes; change = spelt.change }

      token_step : IsToken insides.Sheet before spelt after → (is_comment spelt.kind || opens_comment spelt.kind) ≡ false
          → step bs (ground at before) ≡ Ok (piece_found (ground at before) taken)
      unfolding step statement_step piece_step
      token_step is silent =
          let e = piece_there bs b insides.Sheet before _ is in
          let to = at + length spelt.bytes in
          if_false (is_break (byte bs at)) _ _ (no_break bs before at to spelt.kind spelt.change e)
          ∙ if_false (is_white (byte bs at)) _ _ (no_white bs before at to spelt.kind spelt.change e)
          ∙ if_false (begins_silent bs at) _ _ (no_silent bs before at to spelt.kind spelt.change e)
          ∙ if_false (begins_loud bs at) _ _ (no_loud bs before at to spelt.kind spelt.change e silent)
          ∙ ap (piece_taken (ground at before))
          (ap (λ (inside : Inside). piece bs inside before at) (top_is [] [] nothing) ∙ e)

      pub token_goes : IsToken insides.Sheet before spelt after
          → (is_comment spelt.kind || opens_comment spelt.kind) ≡ false
          → is_refused_sign brackets (Some spelt.kind) ≡ false → renamed sort (Some spelt.kind) ≡ Some spelt.kind
          → Goes bs (ground at before)
          (comments ++ record { kind = spelt.kind; from = at; to = at + length spelt.bytes; spaced = is_spaced before } ∷ [])
          (in_line (at + length spelt.bytes) depth (changed [] spelt.change at) (before_of (Some spelt.kind))
          (bracketed brackets (Some spelt.kind)) (sorted sort spelt.kind (is_spaced before)) (at + length spelt.bytes) [] blocks)
      unfolding is_refused line_after
      token_goes is silent allowed named =
          piece_goes (ground at before) taken (Some spelt.kind) starts (token_step is silent) named allowed

      -- an empty comment
      abbrev noted : ℕ → State
      noted to = in_line to depth [] befores.White brackets sort end
          (comments ++ record { kind = kinds.Comment; from = at; to = to; spaced = is_spaced before } ∷ []) blocks

      note_end : (i : ℕ) (reach : Reach) → ends_at_sign reach ≡ true → ends_loud bs i ≡ true
          → comment_end bs reach i ≡ i + 2
      unfolding comment_end look_over
      note_end i reach r l =
          ap (comment_with (comment_from bs reach (length bs)))
          (if_true (ends_at_sign reach && ends_loud bs i) (overs.Stops (i + 2)) _ (both (ends_at_sign reach) (ends_loud bs i) r l))
        where
          both : (x y : Bool) → x ≡ true → y ≡ true → (x && y) ≡ true
          both true y e f = f
          both false y e f = absurd (cc)

      at_sign : (line : Line) → ends_at_sign (reach_in line depth) ≡ true
      at_sign line = go (length line.brackets == 0)
        where
          go : (t : Bool) → ends_at_sign (if t then reaches.Sign depth else reaches.Joined) ≡ true
          go true = refl
          go false = refl

      module _ (empty : spelt.bytes ≡ codes "/**/") where
        note_text : Behind bs at (codes "/**/" ++ after)
        note_text = subst (λ (t : List ℕ). Behind bs at (t ++ after)) empty b

        note_byte : (k : ℕ) → byte bs (at + k) ≡ byte (codes "/**/" ++ after) k
        note_byte k = byte_there bs note_text k

        slash : byte bs at ≡ sign "/"
        unfolding byte
        slash = byte_first bs note_text

        star : byte bs (at + 1) ≡ sign "*"
        unfolding byte
        star = note_byte 1

        closing_star : byte bs (at + 2) ≡ sign "*"
        unfolding byte
        closing_star = note_byte 2

        closing_slash : byte bs ((at + 2) + 1) ≡ sign "/"
        unfolding byte
        closing_slash = ap (byte bs) (let e : (at + 2) + 1 ≡ at + 3 = omega arith in e) ∙ note_byte 3

        note_step : step bs (ground at before)
            ≡ Ok (passed (ground at before) (comment_end bs (reach_in (ground at before).line depth) (at + 2)))
        unfolding step statement_step
        note_step =
            if_false (is_break (byte bs at)) _ _ (ap is_break slash)
            ∙ if_false (is_white (byte bs at)) _ _ (ap is_white slash)
            ∙ if_false (begins_silent bs at) _ _ (ap (λ (x : ℕ). (byte bs at == sign "/") && (x == sign "/")) star ∙ ap (λ (x : ℕ). (x == sign "/") && false) slash)
            ∙ if_true (begins_loud bs at) _ _ (ap (λ (x : ℕ). (byte bs at == sign "/") && (x == sign "*")) star ∙ ap (λ (x : ℕ). (x == sign "/") && true) slash)

        note_to : comment_end bs (reach_in (ground at before).line depth) (at + 2) ≡ at + length spelt.bytes
        note_to =
            note_end (at + 2) (reach_in (ground at before).line depth) (at_sign (ground at before).line)
            (ap (λ (x : ℕ). (x == sign "*") && (byte bs ((at + 2) + 1) == sign "/")) closing_star
            ∙ ap (λ (x : ℕ). x == sign "/") closing_slash)
            ∙ (let e : length spelt.bytes ≡ 4 = ap length empty in let f : (at + 2) + 2 ≡ at + length spelt.bytes = omega (arith, e) in f)

        pub note_goes : Goes bs (ground at before) [] (noted (at + length spelt.bytes))
        note_goes =
            to_same bs
            (stepped bs (ground at before) _ starts note_step refl) (ap noted note_to)

  -- ---- in a string, url or `#{}`

  pub line_in : (line : Line) (token : Option TokenKind) (change : Change) (to at : ℕ) → is_outside line ≡ false
      → line_after line token change to at
      ≡ record { opened = changed line.opened change at; before = before_of token; brackets = line.brackets; sort = line.sort; end = end_by token line.end to; comments = [] }
  unfolding line_after
  line_in line token change to at e =
      ap (λ (t : Bool). let l : Line = record { opened = changed line.opened change at; before = before_of token; brackets = if t then bracketed line.brackets token else line.brackets; sort = if t then sorted_by line.sort token (is_spaced line.before) else line.sort; end = end_by token line.end to; comments = [] } in l) e
