-- What a step does: it stays in a statement and lays tokens of it, or begins one at the text of a line.
use Rattle.std.proofs.Common.{◌≡◌, ℕ, zero, suc, ◌+◌, ◌-◌, ◌≤◌, ◌<◌, Bool, true, false, not, ◌&&◌, List, [], ◌∷◌, ◌++◌, refl, sym, subst, ◌∙◌, arith, length, Option, Some, None, Result, Ok, Err}
use Rattle.std.specs.Prelude.{◌==◌, nat_lt, if◌then◌else◌}
use Rattle.std.specs.List.{AllByRecursion}
use Rattle.std.proofs.lemmas.Bool.Decides.{nat_tests}
use Rattle.sw_text_scan.specs.declared.signs.TheConstants.{END}
use Rattle.sw_text_scan.specs.declared.runs.Class.TheVariants as classes
use Rattle.sw_text_scan.specs.Bytes.{byte, is_break, is_white, opens_at, begins_silent, begins_loud, ends_loud}
use Rattle.sw_text_scan.specs.Runs.{next, run_from, run_end, white_end}
use Rattle.sw_tokens.specs.declared.token.TokenKind.{TokenKind}
use Rattle.sw_tokens.specs.declared.token.Token.{Token}
use Rattle.sw_tokens.specs.declared.token.Syntax.TheVariants as syntaxes
use Rattle.sw_tokens.specs.declared.pieces.Before.{Before}
use Rattle.sw_tokens.specs.declared.pieces.Piece.{Piece}
use Rattle.sw_tokens.specs.Pieces.{piece}
use Rattle.sw_tokens.specs.Tokens.{top, kept_by}
use Rattle.sw_text_scan.proofs.Bounds.{byte_past, in_text, not_end}
use Rattle.sw_text_scan.proofs.Progress.{either, run_stops}
use Rattle.sw_text_scan.proofs.Bounds.{run_forward, run_stop}
use Rattle.sw_tokens.proofs.Forward.{piece_onward}
use Rattle.sw_parse_layout.specs.declared.lines.Reach.TheVariants as reaches
use Rattle.sw_parse_layout.specs.declared.lines.Over.{Over}
use Rattle.sw_parse_layout.specs.declared.state.Extent.{Extent}
use Rattle.sw_parse_layout.specs.declared.state.Mode.{Mode}
use Rattle.sw_parse_layout.specs.declared.state.Mode.TheVariants as modes
use Rattle.sw_parse_layout.specs.declared.state.State.{State}
use Rattle.sw_parse_layout.specs.declared.state.Found.{Found}
use Rattle.sw_parse_layout.specs.Lines.{is_blank, ends_line, deeper, onto, look_over, comment_with, comment_from, comment_end}
use Rattle.sw_parse_layout.specs.Pieces.{moved, passed, line_over, renamed, kept_behind, line_after, piece_found, piece_taken, piece_step, is_outside}
use Rattle.sw_parse_layout.specs.Comments.{text_found, text_end, next_line, comment_closed, comment_over, comment_step, comment_begun}
use Rattle.sw_parse_layout.specs.Steps.{is_comma, reach_in, statement_step, behind_step, statement_begun, text_step, line_step, outside_step, step}
use Rattle.sw_parse_layout.specs.Laws.{StartsLine, later, BeginsLine, is_line_sign, IsOwn}
use Rattle.sw_parse_layout.proofs.Ahead.{Onto, none, some, deeper_onto}
use Rattle.sw_parse_layout.proofs.Nesting.{Deep}

pub all_more : (xs ys : List Token) → AllByRecursion IsOwn xs → AllByRecursion IsOwn ys → AllByRecursion IsOwn (xs ++ ys)
all_more [] ys a b = b
all_more (x ∷ xs) ys a b = (a.0, all_more xs ys a.1 b)

-- a token that isn't empty isn't made
pub long_own : (kind : TokenKind) (from to : ℕ) → from < to → (is_line_sign kind && (from == to)) ≡ false
long_own kind from to l = by (is_line_sign kind) (from == to) refl
  where
    by : (a b : Bool) → (from == to) ≡ b → (a && b) ≡ false
    by false b e = refl
    by true false e = refl
    by true true e = absurd (same e)
      where
        same : (from == to) ≡ true → ⊥
        same e = grind (arith, nat_tests)

module _ (bs : List ℕ) where
  -- at the start of a line, or at its end
  pub data AtLine (i : ℕ) : Type 0 where
    starts : StartsLine bs i → AtLine i
    ends : ends_line (byte bs i) ≡ true → AtLine i

  at_end : (b : ℕ) → (b == END) ≡ true → ends_line b ≡ true
  at_end b m = grind (arith, nat_tests)

  at_break : (b : ℕ) → is_break b ≡ true → ends_line b ≡ true
  at_break b m = grind (arith, nat_tests)

  -- a silent comment that stands alone in its line ends where a line does
  silent_from : (depth n i : ℕ) → length bs < n + i
      → ends_line (byte bs (comment_from bs (reaches.Lines depth) n i)) ≡ true
  unfolding look_over
  silent_from depth zero i l = subst (λ (b : ℕ). ends_line b ≡ true) (sym (byte_past bs i (omega arith))) refl
  silent_from depth (suc n) i l =
      either (λ (o : Over). ends_line (byte bs (comment_with (comment_from bs (reaches.Lines depth) n) o)) ≡ true) (byte
      bs i == END) _ _ (λ m. at_end (byte bs i) m)
      (λ _. either (λ (o : Over). ends_line (byte bs (comment_with (comment_from bs (reaches.Lines depth) n) o)) ≡ true)
      (is_break (byte bs i)) _ _
      (λ m. over m (deeper bs depth i) (deeper_onto bs depth i (in_text is_break bs i refl m) m) (λ j k. silent_from depth
      n j k))
      (λ _. silent_from depth n (i + 1) (omega arith)))
    where
      over : is_break (byte bs i) ≡ true → (o : Option ℕ) → Onto bs i o → ((j : ℕ) → length bs < n + j
          → ends_line (byte bs (comment_from bs (reaches.Lines depth) n j)) ≡ true)
          → ends_line (byte bs (comment_with (comment_from bs (reaches.Lines depth) n) (onto o i))) ≡ true
      over m None none ih = at_break (byte bs i) m
      over m (Some j) (some f w) ih = ih j (omega arith)

  silent_ends : (depth i : ℕ) → ends_line (byte bs (comment_end bs (reaches.Lines depth) i)) ≡ true
  unfolding comment_end
  silent_ends depth i = silent_from depth (suc (length bs)) i (omega arith)

  -- blanks alone stand before the text of a line
  blanks_from : (n i j : ℕ) → i ≤ j → j < run_from classes.Blank bs n i → is_blank (byte bs j) ≡ true
  blanks_from zero i j a b = absurd (omega arith)
  blanks_from (suc n) i j a b =
      either (λ (k : ℕ). j < k → is_blank (byte bs j) ≡ true) (nat_lt i (next classes.Blank bs i)) _ _
      (λ m c. taken (is_blank (byte bs i)) refl m (λ l d. blanks_from n (i + 1) j l d) c) (λ _ c. absurd (omega arith)) b
    where
      taken : (t : Bool) → is_blank (byte bs i) ≡ t → nat_lt i (if t then i + 1 else i) ≡ true → (i + 1 ≤ j
          → j < run_from classes.Blank bs n (i + 1) → is_blank (byte bs j) ≡ true)
          → j < run_from classes.Blank bs n (if t then i + 1 else i) → is_blank (byte bs j) ≡ true
      taken true e m ih b = here (nat_lt i j) refl
        where
          here : (u : Bool) → nat_lt i j ≡ u → is_blank (byte bs j) ≡ true
          here true x = ih (let l : i < j = grind (arith, nat_tests) in omega arith) b
          here false x =
              let same : i ≡ j = grind (arith, nat_tests) in subst (λ (k : ℕ). is_blank (byte bs k) ≡ true) same e
      taken false e m ih b = absurd (never m)
        where
          never : nat_lt i i ≡ true → ⊥
          never m = grind (arith, nat_tests)

  pub begins_line : (i : ℕ) → AtLine i → (byte bs (run_end classes.Blank bs i) == END) ≡ false
      → is_break (byte bs (run_end classes.Blank bs i)) ≡ false
      → BeginsLine bs (run_end classes.Blank bs i - i) (run_end classes.Blank bs i)
  unfolding run_end
  begins_line i (starts s) e b = record {
    within = omega arith;
    start = subst (StartsLine bs) back s;
    blank = λ j l m. blanks_from (length bs - i) i j (omega (arith, forward)) m;
    text = dark (byte bs (run_end classes.Blank bs i)) (stuck (is_blank (byte bs (run_end classes.Blank bs i))) (run_end classes.Blank bs i) (run_stops bs classes.Blank i)) b;
  }
    where
      forward : i ≤ run_end classes.Blank bs i
      forward = run_forward bs classes.Blank i

      back : i ≡ run_end classes.Blank bs i - (run_end classes.Blank bs i - i)
      back = omega (arith, forward)

      stuck : (t : Bool) (k : ℕ) → (if t then k + 1 else k) ≤ k → t ≡ false
      stuck true k l = absurd (omega arith)
      stuck false k l = refl

      dark : (c : ℕ) → is_blank c ≡ false → is_break c ≡ false → is_white c ≡ false
      dark c e f = grind (arith, nat_tests)
  begins_line i (ends m) e b = absurd (never (byte bs i) m (subst (λ (k : ℕ). (byte bs k == END) ≡ false) stays e) (subst (λ (k : ℕ). is_break (byte bs k) ≡ false) stays b))
    where
      never : (c : ℕ) → ends_line c ≡ true → (c == END) ≡ false → is_break c ≡ false → ⊥
      never c m e f = grind (arith, nat_tests)

      bright : (c : ℕ) → ends_line c ≡ true → is_blank c ≡ false
      bright c m = grind (arith, nat_tests)

      none_taken : (t : Bool) → t ≡ false → (if t then i + 1 else i) ≤ i
      none_taken true e = absurd (cc)
      none_taken false e = omega arith

      stays : run_end classes.Blank bs i ≡ i
      stays = run_stop bs classes.Blank i (none_taken (is_blank (byte bs i)) (bright (byte bs i) m))

  -- what a walk knows
  pub record Known (s : State) : Type 0 where
    pub line : s.mode ≡ modes.Between → AtLine s.at × (is_outside s.line ≡ true)
    pub first : s.blocks.first ≡ true → (s.mode ≡ modes.Between) × (s.blocks.due ≡ false) × (s.blocks.depths ≡ [])
    pub deep : Deep (length s.blocks.depths) s.blocks.depths
    pub comments : AllByRecursion IsOwn s.line.comments

  pub record AtText (s : State) (at : ℕ) : Type 0 where
    pub outside : is_outside s.line ≡ true
    pub within : at < length bs
    pub begins : BeginsLine bs (at - s.at) at

  pub data Kind (s : State) : Result Found ℕ → Type 0 where
    stays : {f : Found} → f.state.blocks ≡ s.blocks → AllByRecursion IsOwn f.laid.tokens
        → (s.blocks.first ≡ true → f.laid.tokens ≡ []) → Known f.state → Kind s (Ok f)
    states : (at : ℕ) → AtText s at → begins_silent bs at ≡ false → begins_loud bs at ≡ false
        → Kind s (Ok (statement_begun bs s at))
    comments : (at : ℕ) → AtText s at → Kind s (Ok (comment_begun bs s at))
    refuses : {k : ℕ} → Kind s (Err k)

  -- inside a statement or a comment
  module _ (s : State) (known : Known s) (busy : s.mode ≡ modes.Between → ⊥) where
    unfirst : s.blocks.first ≡ true → ⊥
    unfirst e = busy (known.first e).0

    moves : (to : ℕ) → Kind s (Ok (moved s to))
    moves to =
        stays refl tt (λ _. refl) (record {
          line = λ e. absurd (busy e);
          first = known.first;
          deep = known.deep;
          comments = known.comments;
        })

    passes : (to : ℕ) → Kind s (Ok (passed s to))
    passes to =
        stays refl tt (λ _. refl) (record {
          line = λ e. absurd (busy e);
          first = known.first;
          deep = known.deep;
          comments = all_more s.line.comments _ known.comments (refl, tt);
        })

    ends_over : is_outside s.line ≡ true → is_break (byte bs s.at) ≡ true → Kind s (Ok (line_over s))
    ends_over o m =
        stays refl tt (λ _. refl) (record {
          line = λ _. (starts (later s.at m), o);
          first = λ e. absurd (unfirst e);
          deep = known.deep;
          comments = known.comments;
        })

    kept_own : (token : Option TokenKind) (to : ℕ) (before : Before) → s.at < to
        → AllByRecursion IsOwn (kept_behind s.line.comments token s.at to before)
    kept_own None to before l = tt
    kept_own (Some kind) to before l =
        all_more s.line.comments (kept_by (Some kind) s.at to before) known.comments (long_own kind s.at to l, tt)

    pub pieces : s.at < length bs → Kind s (piece_step bs s)
    unfolding piece_step piece_found line_after
    pieces l = go (piece bs (top syntaxes.Scss s.line.opened) s.line.before s.at) refl
      where
        go : (o : Option Piece) → piece bs (top syntaxes.Scss s.line.opened) s.line.before s.at ≡ o
            → Kind s (piece_taken s o)
        go None e = refuses
        go (Some p) e =
            let on = piece_onward bs (top syntaxes.Scss s.line.opened) s.line.before s.at p l e in
            let f = on.forward in
            stays {f = piece_found s p} refl (kept_own (renamed s.line.sort p.token) p.to s.line.before (omega arith)) (λ
            e. absurd (unfirst e)) (record {
              line = λ e. absurd (busy e);
              first = λ e. absurd (unfirst e);
              deep = known.deep;
              comments = tt;
            })

    breaks : is_outside s.line ≡ true → is_break (byte bs s.at) ≡ true → (over : Bool)
        → Kind s (Ok (if over then line_over s else moved s (s.at + 1)))
    breaks o m true = ends_over o m
    breaks o m false = moves (s.at + 1)

    breaks_not : is_outside s.line ≡ true → is_break (byte bs s.at) ≡ true → (over : Bool)
        → Kind s (Ok (if over then moved s (s.at + 1) else line_over s))
    breaks_not o m true = moves (s.at + 1)
    breaks_not o m false = ends_over o m

    statements : (depth : ℕ) → is_outside s.line ≡ true → s.at < length bs → Kind s (statement_step bs s depth)
    unfolding statement_step
    statements depth o l =
        either (Kind s) (is_break (byte bs s.at)) _ _ (λ m. breaks o m ((length s.line.brackets == 0) && not (is_comma
        s.line.sort)))
        (λ _. either (Kind s) (is_white (byte bs s.at)) _ _ (λ _. moves (s.at + 1))
        (λ _. either (Kind s) (begins_silent bs s.at) _ _ (λ _. moves (run_end classes.Line bs (s.at + 2)))
        (λ _. either (Kind s) (begins_loud bs s.at) _ _ (λ _. passes (comment_end bs (reach_in s.line depth) (s.at + 2)))
        (λ _. pieces l))))

    behinds : (extent : Extent) → is_outside s.line ≡ true → s.at < length bs → Kind s (behind_step bs s extent)
    unfolding behind_step
    behinds extent o l =
        either (Kind s) (is_break (byte bs s.at)) _ _ (λ m. breaks_not o m (nat_lt s.at extent.stop))
        (λ _. either (Kind s) (is_white (byte bs s.at)) _ _ (λ _. moves (s.at + 1))
        (λ _. either (Kind s) (begins_silent bs s.at) _ _ (λ _. moves (run_end classes.Line bs (s.at + 2)))
        (λ _. either (Kind s) (begins_loud bs s.at) _ _ (λ _. moves (comment_end bs (reaches.Sign extent.depth) (s.at +
        2)))
        (λ _. pieces l))))

    texts : (end to : ℕ) → Kind s (Ok (text_found s end to))
    texts end to =
        stays refl (either (AllByRecursion IsOwn) (nat_lt s.at end) _ _ (λ _. (refl, tt)) (λ _. tt)) (λ e. absurd
        (unfirst e)) (record {
          line = λ e. absurd (busy e);
          first = λ e. absurd (unfirst e);
          deep = known.deep;
          comments = tt;
        })

    next_lines : (start at : ℕ) → Kind s (Ok (next_line s start at))
    next_lines start at =
        stays refl (refl, tt) (λ e. absurd (unfirst e)) (record {
          line = λ e. absurd (busy e);
          first = λ e. absurd (unfirst e);
          deep = known.deep;
          comments = tt;
        })

    closes : (extent : Extent) → Kind s (Ok (comment_closed s extent))
    closes extent =
        stays refl (refl, tt) (λ e. absurd (unfirst e)) (record {
          line = λ e. absurd (cc);
          first = λ e. absurd (unfirst e);
          deep = known.deep;
          comments = tt;
        })

    comments_over : is_outside s.line ≡ true → is_break (byte bs s.at) ≡ true → Kind s (Ok (comment_over s))
    comments_over o m =
        stays refl (refl, tt) (λ e. absurd (unfirst e)) (record {
          line = λ _. (starts (later s.at m), o);
          first = λ e. absurd (unfirst e);
          deep = known.deep;
          comments = tt;
        })

    in_comments : (extent : Extent) → is_outside s.line ≡ true → s.at < length bs → Kind s (comment_step bs s extent)
    unfolding comment_step
    in_comments extent o l =
        either (Kind s) (ends_loud bs s.at) _ _ (λ _. closes extent)
        (λ _. either (Kind s) (opens_at bs s.at) _ _ (λ _. pieces l)
        (λ _. either (Kind s) (not (is_break (byte bs s.at))) _ _ (λ _. texts (text_end bs s.at (run_end
        classes.CommentLine bs s.at)) (run_end classes.CommentLine bs s.at))
        (λ m. either (Kind s) (nat_lt s.at extent.stop) _ _ (λ _. next_lines (white_end bs s.at) (run_end classes.Blank bs
        (white_end bs s.at)))
        (λ _. comments_over o (not_false (is_break (byte bs s.at)) m)))))
      where
        not_false : (b : Bool) → not b ≡ false → b ≡ true
        not_false true e = refl
        not_false false e = absurd (cc)

  -- between statements
  line_moves : (s : State) (to : ℕ) → Known s → is_outside s.line ≡ true → AtLine to → Kind s (Ok (moved s to))
  line_moves s to known o at =
      stays refl tt (λ _. refl) (record {
        line = λ _. (at, o);
        first = known.first;
        deep = known.deep;
        comments = known.comments;
      })

  at_texts : (s : State) → Known s → AtLine s.at → is_outside s.line ≡ true → Kind s (line_step bs s)
  unfolding text_step
  at_texts s known line o = go (run_end classes.Blank bs s.at) (begins_line s.at line)
    where
      go : (at : ℕ) → ((byte bs at == END) ≡ false → is_break (byte bs at) ≡ false → BeginsLine bs (at - s.at) at)
          → Kind s (text_step bs s at)
      go at begins =
          either (Kind s) (byte bs at == END) _ _ (λ m. line_moves s at known o (ends (at_end (byte bs at) m)))
          (λ e. either (Kind s) (is_break (byte bs at)) _ _ (λ m. line_moves s (at + 1) known o (starts (later at m)))
          (λ b. either (Kind s) (begins_silent bs at) _ _
          (λ _. line_moves s (comment_end bs (reaches.Lines (at - s.at)) at) known o (ends (silent_ends (at - s.at) at)))
          (λ silent. either (Kind s) (begins_loud bs at) _ _
          (λ _. comments at (record { outside = o; within = not_end bs at e; begins = begins e b }))
          (λ loud. states at (record { outside = o; within = not_end bs at e; begins = begins e b }) silent loud))))

  outsides : (s : State) (mode : Mode) → s.mode ≡ mode → Known s → is_outside s.line ≡ true → s.at < length bs
      → Kind s (outside_step bs s mode)
  outsides s modes.Between e known o l = at_texts s known (known.line e).0 o
  outsides s (modes.Statement depth) e known o l =
      statements s known (λ f. let x : modes.Statement depth ≡ modes.Between = sym e ∙ f in absurd (cc)) depth o l
  outsides s (modes.Comment extent) e known o l =
      in_comments s known (λ f. let x : modes.Comment extent ≡ modes.Between = sym e ∙ f in absurd (cc)) extent o l
  outsides s (modes.Behind extent) e known o l =
      behinds s known (λ f. let x : modes.Behind extent ≡ modes.Between = sym e ∙ f in absurd (cc)) extent o l

  pub step_kind : (s : State) → Known s → s.at < length bs → Kind s (step bs s)
  unfolding step
  step_kind s known l =
      either (Kind s) (is_outside s.line) _ _ (λ o. outsides s s.mode refl known o l)
      (λ i. pieces s known (λ e. never (is_outside s.line) (known.line e).1 i) l)
    where
      never : (b : Bool) → b ≡ true → b ≡ false → ⊥
      never true e f = absurd (cc)
      never false e f = absurd (cc)
