-- Each step takes a byte at least, but for one at the beginning of each statement: so the walk over a text comes to its
-- end.
use Rattle.std.proofs.Common.{◌≡◌, ℕ, zero, suc, ◌+◌, ◌-◌, ◌*◌, ◌≤◌, ◌<◌, Bool, true, false, not, ◌&&◌, ◌||◌, List, refl, sym, ◌∙◌, ap, arith, length, Option, Some, None, Result, Ok, Err}
use Rattle.std.specs.Prelude.{◌==◌, nat_lt, if◌then◌else◌}
use Rattle.std.proofs.lemmas.Bool.Decides.{nat_tests}
use Rattle.sw_text.specs.Places.{mark_length}
use Rattle.sw_text_scan.specs.declared.signs.TheConstants.{END}
use Rattle.sw_text_scan.specs.declared.runs.Class.TheVariants as classes
use Rattle.sw_tokens.specs.declared.token.Syntax.TheVariants as syntaxes
use Rattle.sw_tokens.specs.declared.pieces.Piece.{Piece}
use Rattle.sw_text_scan.specs.Bytes.{sign, byte, is_break, is_white, opens_at, begins_silent, begins_loud, ends_loud}
use Rattle.sw_text_scan.specs.Runs.{next, run_end, white_end}
use Rattle.sw_tokens.specs.Pieces.{piece}
use Rattle.sw_tokens.specs.Tokens.{top}
use Rattle.sw_text_scan.proofs.Bounds.{and_left, if_true, if_false}
use Rattle.sw_text_scan.proofs.Progress.{either}
use Rattle.sw_tokens.proofs.Forward.{piece_onward, run_progress}
use Rattle.sw_tokens.proofs.Cuts.{IsText, byte_is}
use Rattle.sw_parse_layout.specs.declared.lines.Reach.{Reach}
use Rattle.sw_parse_layout.specs.declared.lines.Reach.TheVariants as reaches
use Rattle.sw_parse_layout.specs.declared.lines.Over.TheVariants as overs
use Rattle.sw_parse_layout.specs.declared.state.Extent.{Extent}
use Rattle.sw_parse_layout.specs.declared.state.Mode.{Mode}
use Rattle.sw_parse_layout.specs.declared.state.Mode.TheVariants as modes
use Rattle.sw_parse_layout.specs.declared.state.State.{State}
use Rattle.sw_parse_layout.specs.declared.state.Found.{Found}
use Rattle.sw_parse_layout.specs.Lines.{look_over, comment_with, comment_from, comment_end}
use Rattle.sw_parse_layout.specs.Pieces.{moved, passed, line_over, piece_found, piece_taken, piece_step, is_outside}
use Rattle.sw_parse_layout.specs.Comments.{text_found, text_end, next_line, comment_closed, comment_over, comment_step, comment_begun}
use Rattle.sw_parse_layout.specs.Steps.{is_comma, reach_in, statement_step, behind_step, statement_begun, text_step, outside_step, step}
use Rattle.sw_parse_layout.specs.Laid.{behind}
use Rattle.sw_parse_layout.specs.Layout.{walk_on, walk, start_at, laid_of}
use Rattle.sw_parse_layout.proofs.Ahead.{comment_end_stands, comment_forward}
use Rattle.sw_parse_layout.proofs.Loops.{walk_past}
use Rattle.sw_parse_layout.proofs.Reaching.{past_silent, past_loud, white_end_reach, blanks_reach, line_reach}
use Rattle.sw_parse_layout.proofs.Stands.{Stands, Steps, goes, unclosed, step_steps}
use Rattle.sw_parse_layout.proofs.Endings.{start_stands}

pub busy : Mode → ℕ
busy modes.Between = 0
busy (modes.Statement depth) = 1
busy (modes.Comment extent) = 1
busy (modes.Behind extent) = 1

busy_small : (mode : Mode) → busy mode ≤ 1
unfolding busy
busy_small modes.Between = omega arith
busy_small (modes.Statement depth) = omega arith
busy_small (modes.Comment extent) = omega arith
busy_small (modes.Behind extent) = omega arith

busy_between : busy modes.Between ≡ 0
unfolding busy
busy_between = refl

pub busy_statement : (depth : ℕ) → busy (modes.Statement depth) ≡ 1
unfolding busy
busy_statement depth = refl

pub weight : State → ℕ
weight s = 2 * s.at + busy s.mode

pub weight_of : (s : State) → weight s ≡ 2 * s.at + busy s.mode
unfolding weight
weight_of s = refl

module _ (bs : List ℕ) (text : IsText bs) where
  pub data Grows (s : State) : Result Found ℕ → Type 0 where
    on : {f : Found} → weight s < weight f.state → Grows s (Ok f)
    ends : {k : ℕ} → Grows s (Err k)

  further : (s t : State) → s.at < t.at → weight s < weight t
  further s t l =
      let a = weight_of s in
      let b = weight_of t in
      let c = busy_small s.mode in omega arith

  not_past : (i : ℕ) → i < length bs → (byte bs i == END) ≡ true → ⊥
  not_past i l m = let e = byte_is bs i l in let small = text.small i in go (byte bs i) (omega arith) m
    where
      go : (b : ℕ) → b < END → (b == END) ≡ true → ⊥
      go b small m = grind (arith, nat_tests)

  moves : (s : State) (to : ℕ) → s.at < to → Grows s (Ok (moved s to))
  moves s to l = on (further s (moved s to).state l)

  over : (s : State) → Grows s (Ok (line_over s))
  over s = on (further s (line_over s).state (omega arith))

  pieces : (s : State) → s.at < length bs → Grows s (piece_step bs s)
  unfolding piece_step piece_found
  pieces s l = go (piece bs (top syntaxes.Scss s.line.opened) s.line.before s.at) refl
    where
      go : (o : Option Piece) → piece bs (top syntaxes.Scss s.line.opened) s.line.before s.at ≡ o
          → Grows s (piece_taken s o)
      go None e = ends
      go (Some p) e =
          let a = piece_onward bs (top syntaxes.Scss s.line.opened) s.line.before s.at p l e in let f = a.forward in on
          (further s (piece_found s p).state (omega arith))

  silent : (s : State) → begins_silent bs s.at ≡ true → Grows s (Ok (moved s (run_end classes.Line bs (s.at + 2))))
  silent s m =
      let past = past_silent bs text s.at m in let r = line_reach bs text (s.at + 2) past.0 in let f = r.forward in
      moves s _ (omega arith)

  inner : (s : State) (reach : Reach) → begins_loud bs s.at ≡ true
      → Grows s (Ok (passed s (comment_end bs reach (s.at + 2))))
  inner s reach m =
      let past = past_loud bs text s.at m in let r = comment_end_stands bs text reach (s.at + 2) past.0 in let f =
      r.forward in on (further s (passed s (comment_end bs reach (s.at + 2))).state (omega arith))

  white_comment : (s : State) (reach : Reach) → begins_loud bs s.at ≡ true
      → Grows s (Ok (moved s (comment_end bs reach (s.at + 2))))
  white_comment s reach m =
      let past = past_loud bs text s.at m in let r = comment_end_stands bs text reach (s.at + 2) past.0 in let f =
      r.forward in moves s _ (omega arith)

  statements : (s : State) (depth : ℕ) → s.at < length bs → Grows s (statement_step bs s depth)
  unfolding statement_step
  statements s depth l =
      either (Grows s) (is_break (byte bs s.at)) _ _
      (λ _. either (λ (f : Found). Grows s (Ok f)) ((length s.line.brackets == 0) && not (is_comma s.line.sort)) _ _ (λ
      _. over s) (λ _. moves s (s.at + 1) (omega arith)))
      (λ _. either (Grows s) (is_white (byte bs s.at)) _ _ (λ _. moves s (s.at + 1) (omega arith))
      (λ _. either (Grows s) (begins_silent bs s.at) _ _ (λ m. silent s m)
      (λ _. either (Grows s) (begins_loud bs s.at) _ _ (λ m. inner s (reach_in s.line depth) m) (λ _. pieces s l))))

  behinds : (s : State) (extent : Extent) → s.at < length bs → Grows s (behind_step bs s extent)
  unfolding behind_step
  behinds s extent l =
      either (Grows s) (is_break (byte bs s.at)) _ _
      (λ _. either (λ (f : Found). Grows s (Ok f)) (nat_lt s.at extent.stop) _ _ (λ _. moves s (s.at + 1) (omega arith))
      (λ _. over s))
      (λ _. either (Grows s) (is_white (byte bs s.at)) _ _ (λ _. moves s (s.at + 1) (omega arith))
      (λ _. either (Grows s) (begins_silent bs s.at) _ _ (λ m. silent s m)
      (λ _. either (Grows s) (begins_loud bs s.at) _ _ (λ m. white_comment s (reaches.Sign extent.depth) m) (λ _. pieces
      s l))))

  comment_line_taken : (i : ℕ) → i < length bs → is_break (byte bs i) ≡ false → ends_loud bs i ≡ false
      → opens_at bs i ≡ false → i < next classes.CommentLine bs i
  comment_line_taken i l b e o =
      go (is_break (byte bs i)) (ends_loud bs i) (opens_at bs i) (byte bs i == END) refl b e o
    where
      go : (b e o p : Bool) → (byte bs i == END) ≡ p → b ≡ false → e ≡ false → o ≡ false
          → i < (if b then i else (if e || (o || p) then i else i + 1))
      go false false false true q x y z = absurd (not_past i l q)
      go false false false false q x y z = omega arith
      go false false true p q x y z = absurd (cc)
      go false true o p q x y z = absurd (cc)
      go true e o p q x y z = absurd (cc)

  comments : (s : State) (extent : Extent) → s.at < length bs → Grows s (comment_step bs s extent)
  unfolding comment_step
  comments s extent l =
      either (Grows s) (ends_loud bs s.at) _ _ (λ _. on (further s (comment_closed s extent).state (omega arith)))
      (λ e. either (Grows s) (opens_at bs s.at) _ _ (λ _. pieces s l)
      (λ o. either (Grows s) (not (is_break (byte bs s.at))) _ _
      (λ m.
      let p = run_progress bs classes.CommentLine s.at l (comment_line_taken s.at l (not_true (is_break (byte bs s.at))
      m) e o) in
      let f = p.forward in
      on (further s (text_found s (text_end bs s.at (run_end classes.CommentLine bs s.at)) (run_end classes.CommentLine
      bs s.at)).state (omega arith)))
      (λ m. let b = not_false (is_break (byte bs s.at)) m in
      either (Grows s) (nat_lt s.at extent.stop) _ _
      (λ _.
      let r = white_end_reach bs text s.at b in
      let q = blanks_reach bs text (white_end bs s.at) r.within r.cut in
      let f = r.forward in
      let g = q.forward in
      on (further s (next_line s (white_end bs s.at) (run_end classes.Blank bs (white_end bs s.at))).state (omega
      arith)))
      (λ _. on (further s (comment_over s).state (omega arith))))))
    where
      not_false : (b : Bool) → not b ≡ false → b ≡ true
      not_false true e = refl
      not_false false e = absurd (cc)

      not_true : (b : Bool) → not b ≡ true → b ≡ false
      not_true true e = absurd (cc)
      not_true false e = refl

  -- a silent comment is one byte long at least
  silent_look : (depth i : ℕ) → begins_silent bs i ≡ true → look_over bs (reaches.Lines depth) i ≡ overs.Goes (i + 1)
  unfolding look_over
  silent_look depth i m =
      if_false (byte bs i == END) _ _ (no_end (byte bs i) slash) ∙ if_false (is_break (byte bs i)) _ _ (no_break (byte
      bs i) slash)
    where
      slash : (byte bs i == sign "/") ≡ true
      slash = and_left (byte bs i == sign "/") (byte bs (i + 1) == sign "/") m

      no_end : (b : ℕ) → (b == sign "/") ≡ true → (b == END) ≡ false
      no_end b m = grind (arith, nat_tests)

      no_break : (b : ℕ) → (b == sign "/") ≡ true → is_break b ≡ false
      no_break b m = grind (arith, nat_tests)

  silent_first : (depth i : ℕ) → begins_silent bs i ≡ true
      → comment_end bs (reaches.Lines depth) i ≡ comment_from bs (reaches.Lines depth) (length bs) (i + 1)
  unfolding comment_end
  silent_first depth i m = ap (comment_with (comment_from bs (reaches.Lines depth) (length bs))) (silent_look depth i m)

  silent_comment : (depth i : ℕ) → i < length bs → begins_silent bs i ≡ true
      → i < comment_end bs (reaches.Lines depth) i
  silent_comment depth i l m =
      let e = silent_first depth i m in
      let r = comment_forward bs (reaches.Lines depth) (length bs) (i + 1) (omega arith) in omega arith

  texts : (s : State) (at : ℕ) → s.mode ≡ modes.Between → s.at < length bs → s.at ≤ at → at ≤ length bs
      → Grows s (text_step bs s at)
  unfolding text_step
  texts s at e l f w =
      either (Grows s) (byte bs at == END) _ _ (λ m. moves s at (past at f m))
      (λ _. either (Grows s) (is_break (byte bs at)) _ _ (λ _. moves s (at + 1) (omega arith))
      (λ _. either (Grows s) (begins_silent bs at) _ _
      (λ m. let g = past_silent bs text at m in let k = g.0 in let c = silent_comment (at - s.at) at (omega arith) m in
      moves s _ (omega arith))
      (λ _. either (Grows s) (begins_loud bs at) _ _
      (λ m.
      let g = past_loud bs text at m in
      let r = blanks_reach bs text (at + 2) g.0 g.1 in
      let k = r.forward in on (further s (comment_begun bs s at).state (omega arith)))
      (λ _.
      let a = weight_of s in
      let b = weight_of (statement_begun bs s at).state in
      let c = ap busy e ∙ busy_between in
      let d = busy_statement (at - s.at) in on (omega arith)))))
    where
      past : (at : ℕ) → s.at ≤ at → (byte bs at == END) ≡ true → s.at < at
      past at f m = go (nat_lt s.at at) refl
        where
          go : (t : Bool) → nat_lt s.at at ≡ t → s.at < at
          go true x = grind (arith, nat_tests)
          go false x = absurd (not_past s.at l (ap (λ (i : ℕ). byte bs i == END) same ∙ m))
            where
              same : s.at ≡ at
              same = grind (arith, nat_tests)

  outsides : (s : State) (mode : Mode) → s.mode ≡ mode → Stands bs s → s.at < length bs
      → Grows s (outside_step bs s mode)
  outsides s modes.Between e st l =
      let r = blanks_reach bs text s.at st.within st.cut in texts s (run_end classes.Blank bs s.at) e l r.forward
      r.within
  outsides s (modes.Statement depth) e st l = statements s depth l
  outsides s (modes.Comment extent) e st l = comments s extent l
  outsides s (modes.Behind extent) e st l = behinds s extent l

  pub grows : (s : State) → Stands bs s → s.at < length bs → Grows s (step bs s)
  unfolding step
  grows s st l = either (Grows s) (is_outside s.line) _ _ (λ _. outsides s s.mode refl st l) (λ _. pieces s l)

  lt_or_past : (at : ℕ) (P : Type 0) → (at < length bs → P) → (length bs ≤ at → P) → P
  lt_or_past at P f g = go (nat_lt at (length bs)) refl
    where
      go : (t : Bool) → nat_lt at (length bs) ≡ t → P
      go true e = f (grind (arith, nat_tests))
      go false e = g (grind (arith, nat_tests))

  pub spent : (s : State) → 2 * length bs ≤ weight s → length bs ≤ s.at
  spent s l = let a = weight_of s in let b = busy_small s.mode in omega arith

  fuel : (n m : ℕ) (s : State) → Stands bs s → 2 * length bs ≤ n + weight s → 2 * length bs ≤ m + weight s
      → walk bs n s ≡ walk bs m s
  fuel zero m s st a b = sym (walk_past bs m s (spent s (omega arith)))
  fuel (suc n) zero s st a b = walk_past bs (suc n) s (spent s (omega arith))
  fuel (suc n) (suc m) s st a b =
      lt_or_past s.at (walk bs (suc n) s ≡ walk bs (suc m) s)
      (λ lt. if_true (nat_lt s.at (length bs)) _ _ (grind (arith, nat_tests))
      ∙ go (step bs s) (step_steps bs text s st lt) (grows s st lt) (λ t here x y. fuel n m t here x y)
      ∙ sym (if_true (nat_lt s.at (length bs)) _ _ (grind (arith, nat_tests))))
      (λ past. walk_past bs (suc n) s past ∙ sym (walk_past bs (suc m) s past))
    where
      go : (r : Result Found ℕ) → Steps bs s r → Grows s r → ((t : State) → Stands bs t
          → 2 * length bs ≤ n + weight t → 2 * length bs ≤ m + weight t → walk bs n t ≡ walk bs m t)
          → walk_on (walk bs n) r ≡ walk_on (walk bs m) r
      go (Ok f) (goes here ls) (on w) ih = ap (behind f.laid) (ih f.state here (omega arith) (omega arith))
      go (Err k) (unclosed x) ends ih = refl

  -- more steps change nothing
  pub walk_whole : (n : ℕ) → 2 * length bs ≤ n → walk bs n (start_at (mark_length bs)) ≡ laid_of bs
  unfolding laid_of
  walk_whole n l =
      fuel n (2 * length bs) (start_at (mark_length bs)) (start_stands bs text (mark_length bs) refl) (omega arith)
      (omega arith)
