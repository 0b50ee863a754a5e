-- A step lays tokens that stand in order in the text, and goes on where a character ends.
use Rattle.std.proofs.Common.{◌≡◌, ℕ, zero, suc, ◌+◌, ◌-◌, ◌≤◌, ◌<◌, Bool, true, false, not, ◌&&◌, List, [], ◌∷◌, refl, arith, length, Option, Some, None, Result, Ok, Err}
use Rattle.std.specs.Prelude.{◌==◌, nat_lt, if◌then◌else◌}
use Rattle.std.specs.Str.{IsCharBoundary}
use Rattle.std.proofs.lemmas.Bool.Decides.{nat_tests}
use Rattle.sw_tokens.specs.declared.token.Syntax.TheVariants as syntaxes
use Rattle.sw_tokens.specs.declared.token.Token.{Token}
use Rattle.sw_tokens.specs.declared.token.TokenKind.{TokenKind}
use Rattle.sw_tokens.specs.declared.token.TokenKind.TheVariants as kinds
use Rattle.sw_text_scan.specs.declared.signs.TheConstants.{END}
use Rattle.sw_text_scan.specs.declared.runs.Class.TheVariants as classes
use Rattle.sw_tokens.specs.declared.pieces.Before.{Before}
use Rattle.sw_tokens.specs.declared.pieces.Piece.{Piece}
use Rattle.sw_text_scan.specs.Bytes.{byte, is_break, is_white, is_wide, opens_at, begins_silent, begins_loud, ends_loud}
use Rattle.sw_text_scan.specs.Runs.{run_end, white_end}
use Rattle.sw_tokens.specs.Pieces.{piece}
use Rattle.sw_tokens.specs.Tokens.{top, kept_by}
use Rattle.sw_text_scan.proofs.Bounds.{in_text}
use Rattle.sw_text_scan.proofs.Progress.{either}
use Rattle.sw_tokens.proofs.Forward.{piece_onward}
use Rattle.sw_tokens.proofs.Cuts.{IsText, Cut, cut_to, cut_opens, cut_plain, piece_cut}
use Rattle.sw_tokens.proofs.Ordered.{AllStarted, IsAsciiAt, plain_top, started_changed, last_start_ascii}
use Rattle.sw_parse_layout.specs.declared.lines.Reach.{Reach}
use Rattle.sw_parse_layout.specs.declared.lines.Reach.TheVariants as reaches
use Rattle.sw_parse_layout.specs.declared.state.Extent.{Extent}
use Rattle.sw_parse_layout.specs.declared.state.Mode.{Mode}
use Rattle.sw_parse_layout.specs.declared.state.Mode.TheVariants as modes
use Rattle.sw_parse_layout.specs.declared.state.State.{State}
use Rattle.sw_parse_layout.specs.declared.state.Found.{Found}
use Rattle.sw_parse_layout.specs.Lines.{is_blank, ends_line, comment_end}
use Rattle.sw_parse_layout.specs.Laid.{told_token}
use Rattle.sw_parse_layout.specs.Blocks.{line_laid}
use Rattle.sw_parse_layout.specs.Pieces.{moved, passed, line_over, kept_behind, renamed, line_after, end_by, is_refused, piece_found, piece_taken, piece_step, is_outside}
use Rattle.sw_parse_layout.specs.Comments.{trimmed_from, trimmed, text_found, text_end, next_line, comment_closed, comment_over, comment_step, comment_signs, comment_begun}
use Rattle.sw_parse_layout.specs.Steps.{is_comma, reach_in, break_found, statement_step, behind_break, behind_step, statement_begun, text_step, line_step, outside_step, step}
use Rattle.sw_parse_layout.proofs.Ahead.{sign_within, sign_cut, comment_end_stands}
use Rattle.sw_parse_layout.proofs.Runs.{Runs, runs_both, runs_later, Lays}
use Rattle.sw_parse_layout.proofs.Reaching.{past_white, past_break, past_silent, past_loud, blanks_reach, line_reach, comment_line_reach, white_end_reach}
use Rattle.sw_parse_layout.proofs.Brought.{nothing_laid, empty_stands, refused_cut, line_lays}

module _ (bs : List ℕ) where
  -- where a walk stands
  pub record Stands (s : State) : Type 0 where
    pub within : s.at ≤ length bs
    pub cut : IsCharBoundary bs s.at
    pub started : AllStarted bs s.line.opened
    pub order : s.line.end ≤ s.at
    pub last : IsCharBoundary bs s.line.end
    pub comments : Runs bs s.line.end s.at s.line.comments

  pub data Steps (s : State) : Result Found ℕ → Type 0 where
    goes : {f : Found} → Stands f.state → Lays bs s.line.end f.state.line.end f.laid → Steps s (Ok f)
    unclosed : {k : ℕ} → IsAsciiAt bs k → Steps s (Err k)

module _ (bs : List ℕ) (text : IsText bs) where
  -- moves

  moved_steps : (s : State) (to : ℕ) → Stands bs s → s.at ≤ to → to ≤ length bs → IsCharBoundary bs to
      → Steps bs s (Ok (moved s to))
  moved_steps s to st f w cut =
      let o = st.order in
      goes (record {
        within = w;
        cut = cut;
        started = st.started;
        order = omega arith;
        last = st.last;
        comments =
            runs_later bs s.line.end s.at to s.line.comments f st.comments;
      })
      (nothing_laid bs text s.line.end s.line.end (omega arith))

  passed_steps : (s : State) (to : ℕ) → Stands bs s → s.at ≤ to → to ≤ length bs → IsCharBoundary bs to
      → Steps bs s (Ok (passed s to))
  passed_steps s to st f w cut =
      let o = st.order in
      goes (record {
        within = w;
        cut = cut;
        started = st.started;
        order = omega arith;
        last = st.last;
        comments = runs_both bs s.line.end s.at to s.line.comments _ st.comments (
          omega arith,
          record {
            from = st.cut;
            to = cut;
            order = f;
          },
          f,
        );
      })
      (nothing_laid bs text s.line.end s.line.end (omega arith))

  over_steps : (s : State) → Stands bs s → s.at < length bs → IsCharBoundary bs (s.at + 1)
      → Steps bs s (Ok (line_over s))
  over_steps s st l cut =
      let o = st.order in
      goes (record {
        within = omega arith;
        cut = cut;
        started = st.started;
        order = omega arith;
        last = st.last;
        comments = runs_later bs s.line.end s.at (s.at + 1) s.line.comments (omega arith) st.comments;
      })
      (nothing_laid bs text s.line.end s.line.end (omega arith))

  -- pieces

  kept_runs : (comments : List Token) (token : Option TokenKind) (end from to : ℕ) (before : Before)
      → Runs bs end from comments → from ≤ to → IsCharBoundary bs from → IsCharBoundary bs to
      → Runs bs end (end_by token end to) (kept_behind comments token from to before)
  kept_runs comments None end from to before r m cf ct = omega arith
  kept_runs comments (Some kind) end from to before r m cf ct =
      runs_both bs end from to comments (kept_by (Some kind) from to before) r (
        omega arith,
        record {
          from = cf;
          to =
              ct;
          order = m;
        },
        m,
      )

  end_by_order : (token : Option TokenKind) (end to : ℕ) → end ≤ to → end_by token end to ≤ to
  end_by_order None end to l = l
  end_by_order (Some kind) end to l = omega arith

  end_by_cut : (token : Option TokenKind) (end to : ℕ) → IsCharBoundary bs end → IsCharBoundary bs to
      → IsCharBoundary bs (end_by token end to)
  end_by_cut None end to ce ct = ce
  end_by_cut (Some kind) end to ce ct = ct

  found_stands : (s : State) (p : Piece) → Stands bs s → s.at < length bs → s.at + 1 ≤ p.to → p.to ≤ length bs
      → Cut bs s.at (Some p) → Stands bs (piece_found s p).state
  unfolding piece_found line_after
  found_stands s p st l f w c =
      let o = st.order in
      record {
        within = w;
        cut = cut_to c;
        started = started_changed bs s.line.opened p.change s.at st.started l (cut_opens c);
        order = end_by_order (renamed s.line.sort p.token) s.line.end p.to (omega arith);
        comments = end_by_order (renamed s.line.sort p.token) s.line.end p.to (omega arith);
        last = end_by_cut (renamed s.line.sort p.token) s.line.end p.to st.last (cut_to c);
      }

  found_lays : (s : State) (p : Piece) → Stands bs s → s.at + 1 ≤ p.to → Cut bs s.at (Some p)
      → Lays bs s.line.end (piece_found s p).state.line.end (piece_found s p).laid
  unfolding piece_found line_after
  found_lays s p st f c = record {
    runs = kept_runs s.line.comments (renamed s.line.sort p.token) s.line.end s.at p.to s.line.before st.comments (omega
        arith) st.cut (cut_to c);
    refused = refused_cut bs text (is_refused s.mode s.line (renamed s.line.sort p.token)) s.at st.cut;
  }

  piece_steps : (s : State) → Stands bs s → s.at < length bs → Steps bs s (piece_step bs s)
  unfolding piece_step
  piece_steps s st l =
      go (piece bs (top syntaxes.Scss s.line.opened) s.line.before s.at) refl (piece_cut bs text s.at l st.cut (top
      syntaxes.Scss s.line.opened) s.line.before (plain_top bs syntaxes.Scss s.line.opened st.started))
    where
      go : (o : Option Piece) → piece bs (top syntaxes.Scss s.line.opened) s.line.before s.at ≡ o → Cut bs s.at o
          → Steps bs s (piece_taken s o)
      go None e c = unclosed (last_start_ascii bs syntaxes.Scss s.line.opened s.at s.line.before st.started l e)
      go (Some p) e c =
          let on = piece_onward bs (top syntaxes.Scss s.line.opened) s.line.before s.at p l e in
          goes (found_stands s p st l on.forward on.within c) (found_lays s p st on.forward c)

  -- statements

  break_steps : (s : State) → Stands bs s → is_break (byte bs s.at) ≡ true → Steps bs s (Ok (break_found s))
  break_steps s st m =
      let past = past_break bs text s.at m in
      let l = past.0 in
      either (λ (f : Found). Steps bs s (Ok f)) ((length s.line.brackets == 0) && not (is_comma s.line.sort)) _ _
      (λ _. over_steps s st l past.1) (λ _. moved_steps s (s.at + 1) st (omega arith) (omega arith) past.1)

  white_steps : (s : State) → Stands bs s → is_white (byte bs s.at) ≡ true → Steps bs s (Ok (moved s (s.at + 1)))
  white_steps s st m =
      let past = past_white bs text s.at m in let l = past.0 in moved_steps s (s.at + 1) st (omega arith) (omega arith)
      past.1

  silent_steps : (s : State) → Stands bs s → begins_silent bs s.at ≡ true
      → Steps bs s (Ok (moved s (run_end classes.Line bs (s.at + 2))))
  silent_steps s st m =
      let past = past_silent bs text s.at m in
      let r = line_reach bs text (s.at + 2) past.0 in
      let f = r.forward in
      moved_steps s (run_end classes.Line bs (s.at + 2)) st (omega arith) r.within r.cut

  white_comment_steps : (s : State) (reach : Reach) → Stands bs s → begins_loud bs s.at ≡ true
      → Steps bs s (Ok (moved s (comment_end bs reach (s.at + 2))))
  white_comment_steps s reach st m =
      let past = past_loud bs text s.at m in
      let r = comment_end_stands bs text reach (s.at + 2) past.0 in
      let f = r.forward in
      moved_steps s (comment_end bs reach (s.at + 2)) st (omega arith) r.within r.cut

  inner_steps : (s : State) (reach : Reach) → Stands bs s → begins_loud bs s.at ≡ true
      → Steps bs s (Ok (passed s (comment_end bs reach (s.at + 2))))
  inner_steps s reach st m =
      let past = past_loud bs text s.at m in
      let r = comment_end_stands bs text reach (s.at + 2) past.0 in
      let f = r.forward in
      passed_steps s (comment_end bs reach (s.at + 2)) st (omega arith) r.within r.cut

  statement_steps : (s : State) (depth : ℕ) → Stands bs s → s.at < length bs → Steps bs s (statement_step bs s depth)
  unfolding statement_step
  statement_steps s depth st l =
      either (Steps bs s) (is_break (byte bs s.at)) _ _ (λ m. break_steps s st m)
      (λ _. either (Steps bs s) (is_white (byte bs s.at)) _ _ (λ m. white_steps s st m)
      (λ _. either (Steps bs s) (begins_silent bs s.at) _ _ (λ m. silent_steps s st m)
      (λ _. either (Steps bs s) (begins_loud bs s.at) _ _ (λ m. inner_steps s (reach_in s.line depth) st m) (λ _.
      piece_steps s st l))))

  -- comments

  record Trims (from to end : ℕ) : Type 0 where
    low : end ≤ to
    cut : IsCharBoundary bs end

  -- without blanks at its end
  trimmed_trims : (n from to : ℕ) → to ≤ length bs → n ≤ to - from → IsCharBoundary bs to
      → Trims from to (trimmed_from n bs to)
  trimmed_trims zero from to w e cut = record { low = omega arith; cut = cut }
  trimmed_trims (suc n) from to w e cut =
      either (Trims from to) (is_blank (byte bs (to - 1))) _ _
      (λ m.
      let less = trimmed_trims n from (to - 1) (omega arith) (omega arith) (blank_before (to - 1) m) in
      let low = less.low in record { low = omega arith; cut = less.cut })
      (λ _. record { low = omega arith; cut = cut })
    where
      narrow : (b : ℕ) → is_blank b ≡ true → is_wide b ≡ false
      narrow b m = grind (arith, nat_tests)

      blank_before : (i : ℕ) → is_blank (byte bs i) ≡ true → IsCharBoundary bs i
      blank_before i m =
          let lt = in_text is_blank bs i refl m in cut_plain bs text i (omega arith) (narrow (byte bs i) m)

  text_end_trims : (from to : ℕ) → to ≤ length bs → IsCharBoundary bs to → Trims from to (text_end bs from to)
  unfolding trimmed
  text_end_trims from to w cut =
      either (Trims from to) (ends_line (byte bs to)) _ _
      (λ _. trimmed_trims (to - from) from to w (omega arith) cut) (λ _. record { low = omega arith; cut = cut })

  text_steps : (s : State) (end to : ℕ) → Stands bs s → s.at ≤ to → to ≤ length bs → IsCharBoundary bs to → end ≤ to
      → IsCharBoundary bs end → Steps bs s (Ok (text_found s end to))
  text_steps s end to st f w cut low ecut = by (nat_lt s.at end) refl
    where
      o : s.line.end ≤ s.at
      o = st.order

      runs : (t : Bool) → nat_lt s.at end ≡ t
          → Runs bs s.line.end (if t then end else s.line.end) (if t then told_token kinds.Piece s.at end ∷ [] else [])
      runs true e = let lt : s.at < end = grind (arith, nat_tests) in (
        o,
        record {
          from = st.cut;
          to = ecut;
          order =
              omega arith;
        },
        omega arith,
      )
      runs false e = omega arith

      ends : (t : Bool) → (if t then end else s.line.end) ≤ to
      ends true = low
      ends false = omega arith

      cuts : (t : Bool) → IsCharBoundary bs (if t then end else s.line.end)
      cuts true = ecut
      cuts false = st.last

      by : (t : Bool) → nat_lt s.at end ≡ t → Steps bs s (Ok (text_found s end to))
      by t e =
          goes (record {
            within = w;
            cut = cut;
            started = st.started;
            order = ends (nat_lt s.at end);
            last = cuts
                (nat_lt s.at end);
            comments = ends (nat_lt s.at end);
          }) (record {
            runs = runs (nat_lt s.at end) refl;
            refused
                = tt;
          })

  next_steps : (s : State) → Stands bs s → is_break (byte bs s.at) ≡ true
      → Steps bs s (Ok (next_line s (white_end bs s.at) (run_end classes.Blank bs (white_end bs s.at))))
  next_steps s st m =
      let r = white_end_reach bs text s.at m in
      let f = r.forward in
      let q = blanks_reach bs text (white_end bs s.at) r.within r.cut in
      let o = st.order in
      goes (record {
        within = q.within;
        cut = q.cut;
        started = st.started;
        order = q.forward;
        last = r.cut;
        comments =
            q.forward;
      })
      (record {
        runs = (omega arith, empty_stands bs text kinds.CommentLine (white_end bs s.at) false r.cut, omega arith);
        refused = tt;
      })

  closed_steps : (s : State) (extent : Extent) → Stands bs s → ends_loud bs s.at ≡ true
      → Steps bs s (Ok (comment_closed s extent))
  closed_steps s extent st m =
      let cut = sign_cut bs s.at m text in
      let o = st.order in
      goes (record {
        within = sign_within bs s.at m;
        cut = cut;
        started = st.started;
        order = omega arith;
        last = cut;
        comments = omega arith;
      })
      (record { runs = (o, record { from = st.cut; to = cut; order = omega arith }, omega arith); refused = tt })

  comment_over_steps : (s : State) → Stands bs s → is_break (byte bs s.at) ≡ true → Steps bs s (Ok (comment_over s))
  comment_over_steps s st m =
      let past = past_break bs text s.at m in
      let l = past.0 in
      let o = st.order in
      goes (record {
        within = omega arith;
        cut = past.1;
        started = st.started;
        order = omega arith;
        last = st.last;
        comments = omega arith;
      })
      (record {
        runs = (omega arith, empty_stands bs text kinds.CommentEnd s.line.end false st.last, omega arith);
        refused = tt;
      })

  comment_steps : (s : State) (extent : Extent) → Stands bs s → s.at < length bs → Steps bs s (comment_step bs s extent)
  unfolding comment_step
  comment_steps s extent st l =
      either (Steps bs s) (ends_loud bs s.at) _ _ (λ m. closed_steps s extent st m)
      (λ _. either (Steps bs s) (opens_at bs s.at) _ _ (λ _. piece_steps s st l)
      (λ _. either (Steps bs s) (not (is_break (byte bs s.at))) _ _
      (λ _.
      let r = comment_line_reach bs text s.at (omega arith) in
      let t = text_end_trims s.at (run_end classes.CommentLine bs s.at) r.within r.cut in
      text_steps s (text_end bs s.at (run_end classes.CommentLine bs s.at)) (run_end classes.CommentLine bs s.at) st
      r.forward r.within r.cut t.low t.cut)
      (λ other. let m = not_false (is_break (byte bs s.at)) other in
      either (Steps bs s) (nat_lt s.at extent.stop) _ _ (λ _. next_steps s st m) (λ _. comment_over_steps s st m))))
    where
      not_false : (b : Bool) → not b ≡ false → b ≡ true
      not_false true e = refl
      not_false false e = absurd (cc)

  behind_break_steps : (s : State) (stop : ℕ) → Stands bs s → is_break (byte bs s.at) ≡ true
      → Steps bs s (Ok (behind_break s stop))
  behind_break_steps s stop st m =
      let past = past_break bs text s.at m in
      let l = past.0 in
      either (λ (f : Found). Steps bs s (Ok f)) (nat_lt s.at stop) _ _
      (λ _. moved_steps s (s.at + 1) st (omega arith) (omega arith) past.1) (λ _. over_steps s st l past.1)

  behind_steps : (s : State) (extent : Extent) → Stands bs s → s.at < length bs → Steps bs s (behind_step bs s extent)
  unfolding behind_step
  behind_steps s extent st l =
      either (Steps bs s) (is_break (byte bs s.at)) _ _ (λ m. behind_break_steps s extent.stop st m)
      (λ _. either (Steps bs s) (is_white (byte bs s.at)) _ _ (λ m. white_steps s st m)
      (λ _. either (Steps bs s) (begins_silent bs s.at) _ _ (λ m. silent_steps s st m)
      (λ _. either (Steps bs s) (begins_loud bs s.at) _ _ (λ m. white_comment_steps s (reaches.Sign extent.depth) st m)
      (λ _. piece_steps s st l))))

  -- lines

  statement_begins : (s : State) (at : ℕ) → Stands bs s → s.at ≤ at → at ≤ length bs → IsCharBoundary bs at
      → Steps bs s (Ok (statement_begun bs s at))
  statement_begins s at st f w cut =
      let o = st.order in
      goes (record {
        within = w;
        cut = cut;
        started = st.started;
        order = omega arith;
        last = cut;
        comments = omega
            arith;
      }) (line_lays bs text s.blocks s.line.end s.at at (omega arith) st.last cut)

  comment_begins : (s : State) (at : ℕ) → Stands bs s → s.at ≤ at → at ≤ length bs → IsCharBoundary bs at
      → begins_loud bs at ≡ true → Steps bs s (Ok (comment_begun bs s at))
  comment_begins s at st f w cut m =
      let o = st.order in
      let past = past_loud bs text at m in
      let r = blanks_reach bs text (at + 2) past.0 past.1 in
      let laid = line_lays bs text s.blocks s.line.end s.at at (omega arith) st.last cut in
      goes (record {
        within = r.within;
        cut = r.cut;
        started = st.started;
        order = r.forward;
        last = past.1;
        comments =
            r.forward;
      })
      (record {
        runs = runs_both bs s.line.end at (at + 2) (line_laid bs s.blocks s.line.end s.at at).tokens (comment_signs at)
            laid.runs (
              omega arith,
              record { from = cut; to = past.1; order = omega arith },
              (
                omega arith,
                empty_stands bs text kinds.CommentLine (at + 2) false past.1,
                omega arith,
              ),
            );
        refused = laid.refused;
      })

  at_text_steps : (s : State) (at : ℕ) → Stands bs s → s.at ≤ at → at ≤ length bs → IsCharBoundary bs at
      → Steps bs s (text_step bs s at)
  unfolding text_step
  at_text_steps s at st f w cut =
      either (Steps bs s) (byte bs at == END) _ _ (λ _. moved_steps s at st f w cut)
      (λ _. either (Steps bs s) (is_break (byte bs at)) _ _ (λ m. let past = past_break bs text at m in let l = past.0
      in
      moved_steps s (at + 1) st (omega arith) (omega arith) past.1)
      (λ _. either (Steps bs s) (begins_silent bs at) _ _
      (λ m.
      let r = comment_end_stands bs text (reaches.Lines (at - s.at)) at w in
      let g = r.forward in moved_steps s (comment_end bs (reaches.Lines (at - s.at)) at) st (omega arith) r.within
      r.cut)
      (λ _. either (Steps bs s) (begins_loud bs at) _ _ (λ m. comment_begins s at st f w cut m) (λ _. statement_begins s
      at st f w cut))))

  line_steps : (s : State) → Stands bs s → Steps bs s (line_step bs s)
  line_steps s st =
      let r = blanks_reach bs text s.at st.within st.cut in at_text_steps s (run_end classes.Blank bs s.at) st r.forward
      r.within r.cut

  outside_steps : (s : State) (mode : Mode) → Stands bs s → s.at < length bs → Steps bs s (outside_step bs s mode)
  outside_steps s modes.Between st l = line_steps s st
  outside_steps s (modes.Statement depth) st l = statement_steps s depth st l
  outside_steps s (modes.Comment extent) st l = comment_steps s extent st l
  outside_steps s (modes.Behind extent) st l = behind_steps s extent st l

  pub step_steps : (s : State) → Stands bs s → s.at < length bs → Steps bs s (step bs s)
  unfolding step
  step_steps s st l =
      either (Steps bs s) (is_outside s.line) _ _ (λ _. outside_steps s s.mode st l) (λ _. piece_steps s st l)
