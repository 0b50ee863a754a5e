-- What a whole walk lays fills the text.
use Rattle.std.proofs.Common.{◌≡◌, ℕ, zero, suc, ◌+◌, ◌-◌, ◌*◌, ◌≤◌, ◌<◌, Bool, true, false, not, ◌&&◌, List, [], ◌∷◌, ◌++◌, refl, subst, arith, length, take, Option, Some, None, Result, Ok, Err}
use Rattle.std.specs.Prelude.{◌==◌, nat_lt, if◌then◌else◌}
use Rattle.std.proofs.lemmas.Bool.Decides.{nat_tests}
use Rattle.sw_text.specs.Places.{mark_length}
use Rattle.sw_text_scan.specs.declared.signs.TheConstants.{END}
use Rattle.sw_text_scan.specs.declared.runs.Class.TheVariants as classes
use Rattle.sw_text_scan.specs.Bytes.{byte, is_break, is_white, opens_at, begins_silent, begins_loud, ends_loud}
use Rattle.sw_text_scan.specs.Runs.{run_end, white_end}
use Rattle.sw_tokens.specs.declared.token.TokenKind.{TokenKind}
use Rattle.sw_tokens.specs.declared.token.TokenKind.TheVariants as kinds
use Rattle.sw_tokens.specs.declared.token.Token.{Token}
use Rattle.sw_tokens.specs.declared.token.Syntax.TheVariants as syntaxes
use Rattle.sw_tokens.specs.declared.pieces.Piece.{Piece}
use Rattle.sw_tokens.specs.Pieces.{piece}
use Rattle.sw_tokens.specs.Tokens.{top, first_start}
use Rattle.sw_text_scan.proofs.Progress.{either}
use Rattle.sw_text_scan.proofs.Bounds.{run_forward}
use Rattle.sw_tokens.proofs.Cuts.{IsText}
use Rattle.sw_parse_layout.specs.declared.lines.Reach.{Reach}
use Rattle.sw_parse_layout.specs.declared.lines.Reach.TheVariants as reaches
use Rattle.sw_parse_layout.specs.declared.sorts.Sort.{Sort}
use Rattle.sw_parse_layout.specs.declared.sorts.Sort.TheVariants as sorts
use Rattle.sw_parse_layout.specs.declared.laid.Laid.{Laid}
use Rattle.sw_parse_layout.specs.declared.blocks.Blocks.{Blocks}
use Rattle.sw_parse_layout.specs.declared.blocks.Shut.{Shut}
use Rattle.sw_parse_layout.specs.declared.blocks.Entry.{Entry}
use Rattle.sw_parse_layout.specs.declared.state.Extent.{Extent}
use Rattle.sw_parse_layout.specs.declared.state.Mode.{Mode}
use Rattle.sw_parse_layout.specs.declared.state.Mode.TheVariants as modes
use Rattle.sw_parse_layout.specs.declared.state.Line.{Line}
use Rattle.sw_parse_layout.specs.declared.state.State.{State}
use Rattle.sw_parse_layout.specs.declared.state.Found.{Found}
use Rattle.sw_parse_layout.specs.Lines.{ends_line, ends_at_sign, comment_end}
use Rattle.sw_parse_layout.specs.Blocks.{top_depth, shut_from, shut_blocks, due_sign, entered, line_laid}
use Rattle.sw_parse_layout.specs.Laid.{behind}
use Rattle.sw_parse_layout.specs.Pieces.{moved, passed, line_over, end_by, kept_behind, renamed, line_after, piece_found, piece_taken, piece_step, is_outside}
use Rattle.sw_parse_layout.specs.Comments.{trimmed, text_found, text_end, next_line, comment_closed, comment_over, comment_step, comment_signs, comment_begun}
use Rattle.sw_parse_layout.specs.Steps.{is_comma, reach_in, statement_step, behind_step, statement_begun, text_step, outside_step, step}
use Rattle.sw_parse_layout.specs.Layout.{comment_end_sign, last_tokens, finished_by, finished, walk_on, walk, start_at, laid_of}
use Rattle.sw_parse_layout.specs.LawsOfText.{InComment, silent, silent_lines, loud, Gap, nothing, comment, IsKind, same, mixin, included, scss, inner, begins, text, ends, Fills, ended, made, token}
use Rattle.sw_parse_layout.proofs.Progress.{weight, Grows, on, grows, spent}
use Rattle.sw_parse_layout.proofs.Stands.{Stands, Steps, goes, step_steps}
use Rattle.sw_parse_layout.proofs.Endings.{start_stands}
use Rattle.sw_parse_layout.proofs.Gaps.{comment_text, gap_both, fills_both, fills_on, one_white, broken, blanks, break_gap, trimmed_gap, piece_gap}

-- what a kind is renamed to
pub data Renamed : Option TokenKind → Option TokenKind → Type 0 where
  none : Renamed None None
  some : {kind : TokenKind} {o : Option TokenKind} → IsKind kind o → Renamed (Some kind) o

keeps : (o : Option TokenKind) → Renamed o o
keeps None = none
keeps (Some kind) = some same

fresh : (o : Option TokenKind) → Renamed (renamed sorts.Fresh o) o
fresh None = none
fresh (Some kinds.Equals) = some (mixin refl)
fresh (Some kinds.Plus) = some (included refl)
fresh (Some _) = some same

pub renames : (sort : Sort) (o : Option TokenKind) → Renamed (renamed sort o) o
renames sorts.Fresh o = fresh o
renames sorts.Minus o = keeps o
renames sorts.Named o = keeps o
renames sorts.Dotted o = keeps o
renames sorts.Word o = keeps o
renames sorts.Dashed o = keeps o
renames sorts.Colon o = keeps o
renames sorts.Selector o = keeps o
renames sorts.Comma o = keeps o
renames sorts.Other o = keeps o

module _ (bs : List ℕ) where
  -- signs that lines stand for

  AllMade : List Token → Type 0
  AllMade ts = (i j : ℕ) → Gap bs i j → Fills bs i j ts

  no_made : AllMade []
  unfolding AllMade
  no_made i j g = ended g

  made_more : (ts us : List Token) → AllMade ts → AllMade us → AllMade (ts ++ us)
  unfolding AllMade
  made_more ts us f h i j g = fills_both bs i i j ts us (f i i nothing) (h i j g)

  due_made : (due : Bool) (end : ℕ) → AllMade (due_sign due end)
  unfolding AllMade
  due_made true end i j g = made refl refl (ended g)
  due_made false end i j g = ended g

  shut_made : (n end depth : ℕ) (depths : List ℕ) → AllMade (shut_from n end depth depths).tokens
  unfolding AllMade
  shut_made zero end depth depths i j g = ended g
  shut_made (suc n) end depth depths i j g =
      either (λ (s : Shut). Fills bs i j s.tokens) (nat_lt depth (top_depth depths)) _ _
      (λ _. made refl refl (shut_made n end depth (take (length depths - 1) depths) i j g)) (λ _. ended g)

  shut_all_made : (end depth : ℕ) (depths : List ℕ) → AllMade (shut_blocks end depth depths).tokens
  unfolding shut_blocks
  shut_all_made end depth depths = shut_made (length depths) end depth depths

  entered_made : (b : Blocks) (end depth at : ℕ) → AllMade (entered b end depth at).tokens
  unfolding entered AllMade
  entered_made b end depth at i j g =
      either (λ (r : Entry). Fills bs i j r.tokens) b.first _ _ (λ _. ended g)
      (λ _. either (λ (r : Entry). Fills bs i j r.tokens) (nat_lt (top_depth b.depths) depth) _ _
      (λ _. made refl refl (ended g))
      (λ _. made_more (due_sign b.due end) (shut_blocks end depth b.depths).tokens (due_made b.due end) (shut_all_made
      end depth b.depths) i j g))

  line_made : (b : Blocks) (end start at i j : ℕ) → Gap bs i j → Fills bs i j (line_laid bs b end start at).tokens
  unfolding line_laid AllMade
  line_made b end start at i j g = entered_made b end (at - start) at i j g

  sign_made : (mode : Mode) (end : ℕ) → AllMade (comment_end_sign mode end)
  unfolding AllMade
  sign_made modes.Between end i j g = ended g
  sign_made (modes.Statement depth) end i j g = ended g
  sign_made (modes.Comment extent) end i j g = made refl refl (ended g)
  sign_made (modes.Behind extent) end i j g = ended g

  last_made : (s : State) (i j : ℕ) → Gap bs i j → Fills bs i j (last_tokens s)
  unfolding AllMade
  last_made s i j g =
      made_more (comment_end_sign s.mode s.line.end) (due_sign s.blocks.due s.line.end ++ (shut_blocks s.line.end 0
      s.blocks.depths).tokens) (sign_made s.mode s.line.end) (made_more (due_sign s.blocks.due s.line.end) (shut_blocks
      s.line.end 0 s.blocks.depths).tokens (due_made s.blocks.due s.line.end) (shut_all_made s.line.end 0
      s.blocks.depths)) i j g

  -- what a walk has behind its last token
  pub record Held (s : State) : Type 0 where
    pub gap : Gap bs s.line.end s.at
    pub comments : Fills bs s.line.end s.at s.line.comments

  pub data Fill (s : State) : Result Found ℕ → Type 0 where
    fills : {f : Found} → Fills bs s.line.end f.state.line.end f.laid.tokens → Held f.state → Fill s (Ok f)
    refuses : {k : ℕ} → Fill s (Err k)

  abbrev pub FillsIn : ℕ → Result Laid ℕ → Type 0
  FillsIn i (Ok l) = Fills bs i (length bs) l.tokens
  FillsIn i (Err k) = Unit {0}

  module _ (s : State) (held : Held s) where
    -- moves

    moves : (to : ℕ) → Gap bs s.at to → Fill s (Ok (moved s to))
    moves to g =
        fills (ended nothing) (record {
          gap = gap_both bs s.line.end s.at to held.gap g;
          comments = fills_on bs s.line.end s.at to s.line.comments held.comments g;
        })

    overs : is_break (byte bs s.at) ≡ true → Fill s (Ok (line_over s))
    overs m =
        let g = one_white bs s.at (broken bs (byte bs s.at) m) in
        fills (ended nothing) (record {
          gap = gap_both bs s.line.end s.at (s.at + 1) held.gap g;
          comments = fills_on bs s.line.end s.at (s.at + 1) s.line.comments held.comments g;
        })

    breaks : is_break (byte bs s.at) ≡ true → (over : Bool)
        → Fill s (Ok (if over then line_over s else moved s (s.at + 1)))
    breaks m true = overs m
    breaks m false = moves (s.at + 1) (one_white bs s.at (broken bs (byte bs s.at) m))

    breaks_not : is_break (byte bs s.at) ≡ true → (over : Bool)
        → Fill s (Ok (if over then moved s (s.at + 1) else line_over s))
    breaks_not m true = moves (s.at + 1) (one_white bs s.at (broken bs (byte bs s.at) m))
    breaks_not m false = overs m

    passes : (reach : Reach) → ends_at_sign reach ≡ true → begins_loud bs s.at ≡ true
        → Fill s (Ok (passed s (comment_end bs reach (s.at + 2))))
    passes reach e m =
        fills (ended nothing) (record {
          gap = gap_both bs s.line.end s.at (comment_end bs reach (s.at + 2)) held.gap (comment (loud reach e m) nothing);
          comments = fills_both bs s.line.end s.at (comment_end bs reach (s.at + 2)) s.line.comments _ held.comments
              (token nothing (inner reach refl e m) (λ _. refl) (ended nothing));
        })

    -- pieces

    found : (p : Piece) (o : Option TokenKind)
        → piece bs (top syntaxes.Scss s.line.opened) s.line.before s.at ≡ Some p → Renamed o p.token
        → (Fills bs s.line.end (end_by o s.line.end p.to) (kept_behind s.line.comments o s.at p.to s.line.before)) × Gap
        bs (end_by o s.line.end p.to) p.to
    found p None e r = (
      ended nothing,
      gap_both bs s.line.end s.at p.to held.gap (piece_gap bs s.at (top syntaxes.Scss
          s.line.opened) s.line.before p e (empty p.token r)),
    )
      where
        empty : (o : Option TokenKind) → Renamed None o → o ≡ None
        empty _ none = refl
    found p (Some kind) e r = (
      fills_both bs s.line.end s.at p.to s.line.comments _ held.comments (token nothing (scss (top syntaxes.Scss s.line.opened) s.line.before p e (is p.token r)) (λ _.
          refl) (ended nothing)),
      nothing,
    )
      where
        is : (o : Option TokenKind) → Renamed (Some kind) o → IsKind kind o
        is o (some k) = k

    pieces : Fill s (piece_step bs s)
    unfolding piece_step piece_found line_after
    pieces = go (piece bs (top syntaxes.Scss s.line.opened) s.line.before s.at) refl
      where
        go : (o : Option Piece) → piece bs (top syntaxes.Scss s.line.opened) s.line.before s.at ≡ o
            → Fill s (piece_taken s o)
        go None e = refuses
        go (Some p) e =
            let both = found p (renamed s.line.sort p.token) e (renames s.line.sort p.token) in
            fills {f = piece_found s p} both.0 (record { gap = both.1; comments = ended both.1 })

    -- statements

    sign_reach : (line : Line) (depth : ℕ) → ends_at_sign (reach_in line depth) ≡ true
    sign_reach line depth =
        either (λ (r : Reach). ends_at_sign r ≡ true) (length line.brackets == 0) _ _ (λ _. refl) (λ _. refl)

    statements : (depth : ℕ) → Fill s (statement_step bs s depth)
    unfolding statement_step
    statements depth =
        either (Fill s) (is_break (byte bs s.at)) _ _ (λ m. breaks m ((length s.line.brackets == 0) && not (is_comma
        s.line.sort)))
        (λ _. either (Fill s) (is_white (byte bs s.at)) _ _ (λ m. moves (s.at + 1) (one_white bs s.at m))
        (λ _. either (Fill s) (begins_silent bs s.at) _ _ (λ m. moves (run_end classes.Line bs (s.at + 2)) (comment
        (silent m) nothing))
        (λ _. either (Fill s) (begins_loud bs s.at) _ _ (λ m. passes (reach_in s.line depth) (sign_reach s.line depth) m)
        (λ _. pieces))))

    behinds : (extent : Extent) → Fill s (behind_step bs s extent)
    unfolding behind_step
    behinds extent =
        either (Fill s) (is_break (byte bs s.at)) _ _ (λ m. breaks_not m (nat_lt s.at extent.stop))
        (λ _. either (Fill s) (is_white (byte bs s.at)) _ _ (λ m. moves (s.at + 1) (one_white bs s.at m))
        (λ _. either (Fill s) (begins_silent bs s.at) _ _ (λ m. moves (run_end classes.Line bs (s.at + 2)) (comment
        (silent m) nothing))
        (λ _. either (Fill s) (begins_loud bs s.at) _ _ (λ m. moves (comment_end bs (reaches.Sign extent.depth) (s.at +
        2)) (comment (loud (reaches.Sign extent.depth) refl m) nothing))
        (λ _. pieces))))

    -- comments

    texts : (end to : ℕ) → Gap bs end to → s.at ≤ end → ((i : ℕ) → s.at ≤ i → i < end → InComment bs i)
        → Fill s (Ok (text_found s end to))
    texts end to g low within = fills (lays (nat_lt s.at end) refl) (record { gap = later; comments = ended later })
      where
        lays : (t : Bool) → nat_lt s.at end ≡ t
            → Fills bs s.line.end (if t then end else s.line.end) (if t then record {
              kind = kinds.Piece;
              from = s.at;
              to = end;
              spaced = false;
            } ∷ [] else [])
        lays true e =
            token held.gap (text refl (let l : s.at < end = grind (arith, nat_tests) in l) within) (λ _. refl) (ended nothing)
        lays false e = ended nothing

        leaves : (t : Bool) → nat_lt s.at end ≡ t → Gap bs (if t then end else s.line.end) to
        leaves true e = g
        leaves false e =
            let here : end ≡ s.at = (let l : end ≤ s.at = grind (arith, nat_tests) in omega arith) in
            gap_both bs s.line.end s.at to held.gap (subst (λ (k : ℕ). Gap bs k to) here g)

        later : Gap bs (if nat_lt s.at end then end else s.line.end) to
        later = leaves (nat_lt s.at end) refl

    trims : (to : ℕ) → s.at ≤ to → ((i : ℕ) → s.at ≤ i → i < to → InComment bs i)
        → Fill s (Ok (text_found s (text_end bs s.at to) to))
    unfolding trimmed
    trims to f within = go (ends_line (byte bs to))
      where
        go : (t : Bool) → Fill s (Ok (text_found s (if t then trimmed bs s.at to else to) to))
        go true =
            let cut = trimmed_gap bs (to - s.at) s.at to (omega arith) f in
            let high = cut.high in
            texts (trimmed bs s.at to) to cut.gap cut.low (λ i a b. within i a (omega arith))
        go false = texts to to nothing f within

    next_lines : (start : ℕ) → Gap bs s.at start → Fill s (Ok (next_line s start (run_end classes.Blank bs start)))
    next_lines start g =
        fills (made refl refl (ended (gap_both bs s.line.end s.at start held.gap g))) (record {
          gap = blanks bs start;
          comments = ended (blanks bs start);
        })

    closes : (extent : Extent) → ends_loud bs s.at ≡ true → Fill s (Ok (comment_closed s extent))
    closes extent m =
        fills (token held.gap (ends refl m) (λ _. refl) (ended nothing)) (record { gap = nothing; comments = ended nothing })

    comments_over : is_break (byte bs s.at) ≡ true → Fill s (Ok (comment_over s))
    comments_over m =
        let g = gap_both bs s.line.end s.at (s.at + 1) held.gap (one_white bs s.at (broken bs (byte bs s.at) m)) in
        fills (made refl refl (ended nothing)) (record { gap = g; comments = ended g })

    in_comments : (extent : Extent) → Fill s (comment_step bs s extent)
    unfolding comment_step
    in_comments extent =
        either (Fill s) (ends_loud bs s.at) _ _ (λ m. closes extent m)
        (λ _. either (Fill s) (opens_at bs s.at) _ _ (λ _. pieces)
        (λ _. either (Fill s) (not (is_break (byte bs s.at))) _ _ (λ _. trims (run_end classes.CommentLine bs s.at)
        (run_forward bs classes.CommentLine s.at) (λ i a c. comment_text bs s.at i a c))
        (λ m. let b = not_false (is_break (byte bs s.at)) m in
        either (Fill s) (nat_lt s.at extent.stop) _ _ (λ _. next_lines (white_end bs s.at) (break_gap bs s.at b)) (λ _.
        comments_over b))))
      where
        not_false : (b : Bool) → not b ≡ false → b ≡ true
        not_false true e = refl
        not_false false e = absurd (cc)

    -- lines

    statement_begins : (at : ℕ) → Gap bs s.at at → Fill s (Ok (statement_begun bs s at))
    statement_begins at g =
        fills (line_made s.blocks s.line.end s.at at s.line.end at (gap_both bs s.line.end s.at at held.gap g)) (record {
          gap = nothing;
          comments = ended nothing;
        })

    comment_begins : (at : ℕ) → Gap bs s.at at → begins_loud bs at ≡ true → Fill s (Ok (comment_begun bs s at))
    comment_begins at g m =
        fills (fills_both bs s.line.end at (at + 2) (line_laid bs s.blocks s.line.end s.at at).tokens (comment_signs at)
        (line_made s.blocks s.line.end s.at at s.line.end at (gap_both bs s.line.end s.at at held.gap g))
        (token nothing (begins refl m) (λ _. refl) (made refl refl (ended nothing)))) (record {
          gap = blanks bs (at + 2);
          comments = ended (blanks bs (at + 2));
        })

    at_texts : (at : ℕ) → Gap bs s.at at → Fill s (text_step bs s at)
    unfolding text_step
    at_texts at g =
        either (Fill s) (byte bs at == END) _ _ (λ _. moves at g)
        (λ _. either (Fill s) (is_break (byte bs at)) _ _ (λ m. moves (at + 1) (gap_both bs s.at at (at + 1) g (one_white
        bs at (broken bs (byte bs at) m))))
        (λ _. either (Fill s) (begins_silent bs at) _ _ (λ m. moves (comment_end bs (reaches.Lines (at - s.at)) at)
        (gap_both bs s.at at (comment_end bs (reaches.Lines (at - s.at)) at) g (comment (silent_lines (at - s.at) m)
        nothing)))
        (λ _. either (Fill s) (begins_loud bs at) _ _ (λ m. comment_begins at g m) (λ _. statement_begins at g))))

    outsides : (mode : Mode) → Fill s (outside_step bs s mode)
    outsides modes.Between = at_texts (run_end classes.Blank bs s.at) (blanks bs s.at)
    outsides (modes.Statement depth) = statements depth
    outsides (modes.Comment extent) = in_comments extent
    outsides (modes.Behind extent) = behinds extent

    pub step_fills : Fill s (step bs s)
    unfolding step
    step_fills = either (Fill s) (is_outside s.line) _ _ (λ _. outsides s.mode) (λ _. pieces)

    pub finished_fills : s.at ≡ length bs → FillsIn s.line.end (finished s)
    unfolding finished
    finished_fills e = go (first_start s.line.opened)
      where
        go : (o : Option ℕ) → FillsIn s.line.end (finished_by s o)
        go None = last_made s s.line.end (length bs) (subst (Gap bs s.line.end) e held.gap)
        go (Some k) = tt

module _ (bs : List ℕ) (utf : IsText bs) where
  at_last : (s : State) → Stands bs s → length bs ≤ s.at → s.at ≡ length bs
  at_last s st l = let w = st.within in omega arith

  behind_fills : (i j : ℕ) (x : Laid) (r : Result Laid ℕ) → Fills bs i j x.tokens → FillsIn bs j r
      → FillsIn bs i (behind x r)
  behind_fills i j x (Ok y) f g = fills_both bs i j (length bs) x.tokens y.tokens f g
  behind_fills i j x (Err k) f g = tt

  walk_fills : (n : ℕ) (s : State) → Stands bs s → Held bs s → 2 * length bs ≤ n + weight s
      → FillsIn bs s.line.end (walk bs n s)
  walk_fills zero s st held enough =
      finished_fills bs s held (at_last s st (spent bs utf s (omega arith)))
  walk_fills (suc n) s st held enough =
      either (FillsIn bs s.line.end) (nat_lt s.at (length bs)) _ _
      (λ m. let lt = before s.at m in go (step bs s) (step_steps bs utf s st lt) (grows bs utf s st lt) (step_fills bs s
      held) (λ t here more left. walk_fills n t here more left))
      (λ m. finished_fills bs s held (at_last s st (after s.at m)))
    where
      before : (at : ℕ) → nat_lt at (length bs) ≡ true → at < length bs
      before at m = grind (arith, nat_tests)

      after : (at : ℕ) → nat_lt at (length bs) ≡ false → length bs ≤ at
      after at m = grind (arith, nat_tests)

      go : (r : Result Found ℕ) → Steps bs s r → Grows bs utf s r → Fill bs s r → ((t : State) → Stands bs t
          → Held bs t → 2 * length bs ≤ n + weight t → FillsIn bs t.line.end (walk bs n t))
          → FillsIn bs s.line.end (walk_on (walk bs n) r)
      go (Ok f) (goes here ls) (on w) (fills lays more) ih =
          behind_fills s.line.end f.state.line.end f.laid (walk bs n f.state) lays (ih f.state here more (omega arith))
      go (Err k) st gr refuses ih = tt

  laid_fills : FillsIn bs (mark_length bs) (laid_of bs)
  unfolding laid_of
  laid_fills =
      walk_fills (2 * length bs) (start_at (mark_length bs)) (start_stands bs utf (mark_length bs) refl) (record {
        gap = nothing;
        comments = ended nothing;
      }) (omega arith)

  pub laid_filled : (l : Laid) → laid_of bs ≡ Ok l → Fills bs (mark_length bs) (length bs) l.tokens
  laid_filled l e = subst (FillsIn bs (mark_length bs)) e laid_fills
