-- How far white space and lines reach: within the text, and to where a character ends.
use Rattle.std.proofs.Common.{◌≡◌, ℕ, ◌+◌, ◌-◌, ◌≤◌, ◌<◌, Bool, true, false, ◌&&◌, ◌||◌, List, refl, subst, arith, length}
use Rattle.std.specs.Prelude.{◌==◌, if◌then◌else◌}
use Rattle.std.specs.Str.{IsCharBoundary}
use Rattle.std.proofs.lemmas.Bool.Decides.{nat_tests}
use Rattle.sw_text_scan.specs.declared.signs.TheConstants.{END, LINE_FEED, CARRIAGE_RETURN, FIRST_WIDE}
use Rattle.sw_text_scan.specs.declared.runs.Class.TheVariants as classes
use Rattle.sw_text_scan.specs.Bytes.{sign, byte, is_break, is_white, is_wide, begins_silent, begins_loud}
use Rattle.sw_text_scan.specs.Runs.{next, run_end, white_end}
use Rattle.sw_text_scan.proofs.Bounds.{in_text, and_right, run_onward}
use Rattle.sw_text_scan.proofs.Progress.{either, run_stops}
use Rattle.sw_tokens.proofs.Cuts.{IsText, cut_plain, cut_after, run_cut, line_cut}
use Rattle.sw_parse_layout.specs.Lines.{is_blank}

module _ (bs : List ℕ) (text : IsText bs) where
  white_ascii : (b : ℕ) → is_white b ≡ true → b < FIRST_WIDE
  white_ascii b m = grind (arith, nat_tests)

  break_ascii : (b : ℕ) → is_break b ≡ true → b < FIRST_WIDE
  break_ascii b m = grind (arith, nat_tests)

  blank_ascii : (b : ℕ) → is_blank b ≡ true → b < FIRST_WIDE
  blank_ascii b m = grind (arith, nat_tests)

  pub past_white : (i : ℕ) → is_white (byte bs i) ≡ true → (i < length bs) × IsCharBoundary bs (i + 1)
  past_white i m = let l = in_text is_white bs i refl m in (l, cut_after bs text i l (white_ascii (byte bs i) m))

  pub past_break : (i : ℕ) → is_break (byte bs i) ≡ true → (i < length bs) × IsCharBoundary bs (i + 1)
  past_break i m = let l = in_text is_break bs i refl m in (l, cut_after bs text i l (break_ascii (byte bs i) m))

  -- behind two signs of which the second is c
  past_two : (i c : ℕ) → c < FIRST_WIDE → (byte bs (i + 1) == c) ≡ true
      → (i + 2 ≤ length bs) × IsCharBoundary bs (i + 2)
  past_two i c small m = (
    (let l = lt in omega arith),
    subst (IsCharBoundary bs) same (cut_after bs text (i + 1) lt (go (byte bs (i + 1))
        m)),
  )
    where
      go : (b : ℕ) → (b == c) ≡ true → b < FIRST_WIDE
      go b m = grind (arith, nat_tests)

      narrow : (END == c) ≡ false
      narrow = grind (arith, nat_tests)

      lt : i + 1 < length bs
      lt = in_text (λ b. b == c) bs (i + 1) narrow m

      same : (i + 1) + 1 ≡ i + 2
      same = omega arith

  pub past_silent : (i : ℕ) → begins_silent bs i ≡ true → (i + 2 ≤ length bs) × IsCharBoundary bs (i + 2)
  past_silent i m =
      past_two i (sign "/") (omega arith) (and_right (byte bs i == sign "/") (byte bs (i + 1) == sign "/") m)

  pub past_loud : (i : ℕ) → begins_loud bs i ≡ true → (i + 2 ≤ length bs) × IsCharBoundary bs (i + 2)
  past_loud i m =
      past_two i (sign "*") (omega arith) (and_right (byte bs i == sign "/") (byte bs (i + 1) == sign "*") m)

  blank_steps : (i : ℕ) → i ≤ length bs → IsCharBoundary bs i → IsCharBoundary bs (next classes.Blank bs i)
  blank_steps i l cut =
      either (IsCharBoundary bs) (is_blank (byte bs i)) (i + 1) i
      (λ m. cut_after bs text i (in_text is_blank bs i refl m) (blank_ascii (byte bs i) m)) (λ _. cut)

  pub record Reaches (i j : ℕ) : Type 0 where
    pub forward : i ≤ j
    pub within : j ≤ length bs
    pub cut : IsCharBoundary bs j

  pub blanks_reach : (i : ℕ) → i ≤ length bs → IsCharBoundary bs i → Reaches i (run_end classes.Blank bs i)
  blanks_reach i l cut =
      let on = run_onward bs classes.Blank i l in
      record { forward = on.forward; within = on.within; cut = run_cut bs text classes.Blank blank_steps i l cut }

  pub line_reach : (i : ℕ) → i ≤ length bs → Reaches i (run_end classes.Line bs i)
  line_reach i l =
      let on = run_onward bs classes.Line i l in record {
        forward = on.forward;
        within = on.within;
        cut = line_cut bs
            text i l;
      }

  -- a line of a comment ends at a sign of ASCII, or with the text
  comment_line_stop : (j : ℕ) → next classes.CommentLine bs j ≤ j → is_wide (byte bs j) ≡ false
  comment_line_stop j l = go (byte bs j) (byte bs (j + 1) == sign "/") (byte bs (j + 1) == sign "{") l
    where
      narrow : (b : ℕ) (slash brace : Bool)
          → (((b == sign "*") && slash) || (((b == sign "#") && brace) || (b == END))) ≡ true → is_wide b ≡ false
      narrow b slash brace e = grind (arith, nat_tests)

      at_break : (b : ℕ) → is_break b ≡ true → is_wide b ≡ false
      at_break b e = grind (arith, nat_tests)

      left_then : (b : Bool) (i : ℕ) → (if b then i else i + 1) ≤ i → b ≡ true
      left_then true i l = refl
      left_then false i l = absurd (omega arith)

      go : (b : ℕ) (slash brace : Bool)
          → (if is_break b then j else (if ((b == sign "*") && slash) || (((b == sign "#") && brace) || (b == END)) then
          j else j + 1)) ≤ j → is_wide b ≡ false
      go b slash brace l = by (is_break b) refl l
        where
          by : (t : Bool) → is_break b ≡ t
              → (if t then j else (if ((b == sign "*") && slash) || (((b == sign "#") && brace) || (b == END)) then j
              else j + 1)) ≤ j → is_wide b ≡ false
          by true e l = at_break b e
          by false e l = narrow b slash brace (left_then _ j l)

  pub comment_line_reach : (i : ℕ) → i ≤ length bs → Reaches i (run_end classes.CommentLine bs i)
  comment_line_reach i l =
      let on = run_onward bs classes.CommentLine i l in
      record {
        forward = on.forward;
        within = on.within;
        cut = cut_plain bs text (run_end classes.CommentLine bs i)
            on.within (comment_line_stop (run_end classes.CommentLine bs i) (run_stops bs classes.CommentLine i));
      }

  pub white_end_reach : (i : ℕ) → is_break (byte bs i) ≡ true → Reaches (i + 1) (white_end bs i)
  white_end_reach i m =
      let past = past_break i m in
      let l = past.0 in
      either (Reaches (i + 1)) ((byte bs i == CARRIAGE_RETURN) && (byte bs (i + 1) == LINE_FEED)) _ _
      (λ two. let r = past_two i LINE_FEED (omega arith) (and_right (byte bs i == CARRIAGE_RETURN) (byte bs (i + 1) ==
      LINE_FEED) two) in record { forward = omega arith; within = r.0; cut = r.1 })
      (λ _. either (Reaches (i + 1)) (is_white (byte bs i)) _ _ (λ _. record {
        forward = omega arith;
        within = omega
            arith;
        cut = past.1;
      })
      (λ dark. absurd (never (byte bs i) m dark)))
    where
      never : (b : ℕ) → is_break b ≡ true → is_white b ≡ false → ⊥
      never b m dark = grind (arith, nat_tests)
