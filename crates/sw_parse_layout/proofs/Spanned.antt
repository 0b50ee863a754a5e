-- A walk lays the tokens of statements, each of which goes on over no end of a line but in what is open and behind a
-- comma of a selector.
use Rattle.std.proofs.Common.{◌≡◌, ℕ, zero, suc, ◌+◌, ◌-◌, ◌*◌, ◌≤◌, ◌<◌, true, false, not, List, [], ◌∷◌, ◌++◌, refl, sym, subst, ◌∙◌, arith, length, Option, Some, None, Result, Ok, Err, append_assoc, append-nil, inl, inr}
use Rattle.std.specs.Prelude.{◌==◌, nat_lt, IfOk}
use Rattle.std.proofs.lemmas.Bool.Decides.{nat_tests}
use Rattle.sw_text.specs.Places.{mark_length}
use Rattle.sw_text_scan.specs.declared.signs.TheConstants.{END}
use Rattle.sw_text_scan.specs.declared.runs.Class.TheVariants as classes
use Rattle.sw_text_scan.specs.Bytes.{byte, is_break, is_white, opens_at, begins_silent, begins_loud, ends_loud}
use Rattle.sw_text_scan.specs.Runs.{run_end, white_end}
use Rattle.sw_tokens.specs.declared.token.TokenKind.{TokenKind}
use Rattle.sw_tokens.specs.declared.token.TokenKind.TheVariants as kinds
use Rattle.sw_tokens.specs.declared.token.Token.{Token}
use Rattle.sw_tokens.specs.declared.token.Syntax.TheVariants as syntaxes
use Rattle.sw_tokens.specs.declared.pieces.Piece.{Piece}
use Rattle.sw_tokens.specs.declared.scan.Opened.{Opened}
use Rattle.sw_tokens.specs.Pieces.{piece}
use Rattle.sw_tokens.specs.Tokens.{top, changed, kept_by, first_start}
use Rattle.sw_tokens.specs.Ends.{opens as opens_end, last_end, reaching, reached}
use Rattle.sw_text_scan.proofs.Bounds.{if_false}
use Rattle.sw_text_scan.proofs.Progress.{either}
use Rattle.sw_tokens.proofs.Cuts.{IsText}
use Rattle.sw_parse_layout.specs.declared.lines.Reach.TheVariants as reaches
use Rattle.sw_parse_layout.specs.declared.laid.Laid.{Laid}
use Rattle.sw_parse_layout.specs.declared.state.Extent.{Extent}
use Rattle.sw_parse_layout.specs.declared.state.Mode.{Mode}
use Rattle.sw_parse_layout.specs.declared.state.Mode.TheVariants as modes
use Rattle.sw_parse_layout.specs.declared.state.State.{State}
use Rattle.sw_parse_layout.specs.declared.state.Found.{Found}
use Rattle.sw_parse_layout.specs.Lines.{comment_end}
use Rattle.sw_parse_layout.specs.Blocks.{shut_blocks, due_sign, line_laid, line_blocks}
use Rattle.sw_parse_layout.specs.Laid.{behind, earlier, refused_at}
use Rattle.sw_parse_layout.specs.Pieces.{moved, line_over, kept_behind, renamed, line_after, is_refused, piece_found, piece_taken, piece_step, is_outside}
use Rattle.sw_parse_layout.specs.Comments.{text_found, text_end, next_line, comment_closed, comment_over, comment_step, comment_signs, comment_begun}
use Rattle.sw_parse_layout.specs.Steps.{behind_step, statement_begun, text_step, outside_step, step}
use Rattle.sw_parse_layout.specs.Layout.{comment_end_sign, last_tokens, finished_by, finished, walk_on, walk, start_at, laid_of, told_by, told, layout}
use Rattle.sw_parse_layout.specs.Laws.{is_line_sign}
use Rattle.sw_parse_layout.specs.LawsOfText.{IsKind, Gap}
use Rattle.sw_parse_layout.specs.LawsOfLines.{unseen, spans_lines, empty, Phase, between, statement, comment, Ends, idle, single, last, Lines, ended, sign, begins, token, inner, opens, text, inserted, closes}
use Rattle.sw_parse_layout.proofs.Progress.{weight, Grows, on, grows, spent}
use Rattle.sw_parse_layout.proofs.Stands.{Stands, Steps, goes, step_steps}
use Rattle.sw_parse_layout.proofs.Endings.{start_stands}
use Rattle.sw_parse_layout.proofs.Begun.{none_open}
use Rattle.sw_parse_layout.proofs.Gaps.{piece_keeps}
use Rattle.sw_parse_layout.proofs.Filling.{Renamed, none, some, renames}
use Rattle.sw_parse_layout.proofs.Alike.{Alike, reached_alike}
use Rattle.sw_parse_layout.proofs.Spanning.{seen_of, within_opened, unnamed, space_gap, shut_all_signs, due_run, line_run, is_token, Fits, over, lined, within, noted, closed, Goes, Step, steps, refuses, pieces, statements}

no_start : (o : Option ℕ) (k : ℕ) → o ≡ Some k → o ≡ None → ⊥
no_start None k e n = absurd (cc)
no_start (Some j) k e n = absurd (cc)

module _ (bs : List ℕ) where
  -- in a comment that is a statement

  note_ends : (os : List Opened) (t : Token) (ts : List Token) → os ≡ [] → t.kind ≡ kinds.CommentEnd
      → Lines bs between ts → Lines bs (comment os) (t ∷ ts)
  note_ends os t ts o k l = subst (λ (x : List Opened). Lines bs (comment x) (t ∷ ts)) (sym o) (closes k l)

  module _ (s : State) (extent : Extent) (m : s.mode ≡ modes.Comment extent) (d : s.blocks.due ≡ false)
      (none_pending : s.line.comments ≡ []) where
    abbrev inside : Phase
    inside = comment s.line.opened

    abbrev found_as : Piece → Option TokenKind → Found
    found_as x o = record {
      laid = record {
        tokens = kept_behind s.line.comments o s.at x.to s.line.before;
        refused = refused_at (is_refused s.mode s.line o) s.at;
      };
      state = record { at = x.to; mode = s.mode; line = line_after s.line o x.change x.to s.at; blocks = s.blocks };
    }

    is_kind : {kind : TokenKind} {o : Option TokenKind} → Renamed (Some kind) o → IsKind kind o
    is_kind (some k) = k

    piece_runs : (x : Piece) (o : Option TokenKind)
        → piece bs (top syntaxes.Scss s.line.opened) s.line.before s.at ≡ Some x → Renamed o x.token
        → Goes bs inside (found_as x o)
    unfolding line_after
    piece_runs x (Some kind) e r = record {
      next = comment (changed s.line.opened x.change s.at);
      fits = noted m d refl;
      run = λ ts l. subst (λ (cs : List Token). Lines bs inside ((cs ++ kept_by (Some kind) s.at x.to s.line.before) ++ ts))
          (sym none_pending) (inserted s.line.before x e (is_kind r) l);
    }
    piece_runs x None e r =
        let kept = piece_keeps bs s.at (top syntaxes.Scss s.line.opened) s.line.before x e (unnamed None x.token r refl) in
        record {
          next = comment (changed s.line.opened x.change s.at);
          fits = noted m d refl;
          run = λ ts l. subst (λ c. Lines bs (comment (changed s.line.opened c s.at)) ts) kept l;
        }

    note_pieces : Step bs inside (piece_step bs s)
    unfolding piece_step piece_found
    note_pieces = go (piece bs (top syntaxes.Scss s.line.opened) s.line.before s.at) refl
      where
        go : (o : Option Piece) → piece bs (top syntaxes.Scss s.line.opened) s.line.before s.at ≡ o
            → Step bs inside (piece_taken s o)
        go None e = refuses
        go (Some x) e = steps (λ _. piece_runs x (renamed s.line.sort x.token) e (renames s.line.sort x.token))

    notes_text : (end to : ℕ) → Step bs inside (Ok (text_found s end to))
    notes_text end to = steps (λ _. record {
      next = inside;
      fits = noted m d refl;
      run = λ ts l. either (λ (xs : List Token). Lines bs inside (xs ++ ts)) (nat_lt s.at end) _ _ (λ _. text (inl refl) l) (λ _. l);
    })

    notes_line : (start at : ℕ) → Step bs inside (Ok (next_line s start at))
    notes_line start at = steps (λ _. record {
      next = inside;
      fits = noted m d refl;
      run = λ ts l. text (inr refl) l;
    })

    note_closes : s.line.opened ≡ [] → Step bs inside (Ok (comment_closed s extent))
    note_closes o = steps (λ _. record {
      next = between;
      fits = closed refl d o;
      run = λ ts l. note_ends s.line.opened _ ts o refl l;
    })

    note_over : s.line.opened ≡ [] → Step bs inside (Ok (comment_over s))
    note_over o = steps (λ _. record {
      next = between;
      fits = lined refl d o;
      run = λ ts l. note_ends s.line.opened _ ts o refl l;
    })

    notes : s.line.opened ≡ [] → Step bs inside (comment_step bs s extent)
    unfolding comment_step
    notes o =
        either (Step bs inside) (ends_loud bs s.at) _ _ (λ _. note_closes o)
        (λ _. either (Step bs inside) (opens_at bs s.at) _ _ (λ _. note_pieces)
        (λ _. either (Step bs inside) (not (is_break (byte bs s.at))) _ _
        (λ _. notes_text (text_end bs s.at (run_end classes.CommentLine bs s.at)) (run_end classes.CommentLine bs s.at))
        (λ _. either (Step bs inside) (nat_lt s.at extent.stop) _ _
        (λ _. notes_line (white_end bs s.at) (run_end classes.Blank bs (white_end bs s.at))) (λ _. note_over o))))

  -- behind its end: a token there is refused
  module _ (s : State) (extent : Extent) (m : s.mode ≡ modes.Behind extent) (d : s.blocks.due ≡ false)
      (o : s.line.opened ≡ []) where
    stays : (to : ℕ) → Step bs between (Ok (moved s to))
    stays to = steps (λ _. record { next = between; fits = closed m d o; run = λ ts l. l })

    leaves : Step bs between (Ok (line_over s))
    leaves = steps (λ _. record { next = between; fits = lined refl d o; run = λ ts l. l })

    refused : (x : Piece) (kind : Option TokenKind) → (kind ≡ None → ⊥) → (mode : Mode) → mode ≡ modes.Behind extent
        → refused_at (is_refused mode s.line kind) s.at ≡ None → ⊥
    unfolding is_refused
    refused x None n mode e r = n refl
    refused x (Some kind) n (modes.Behind extent) e r = absurd (cc)
    refused x (Some kind) n modes.Between e r = absurd (cc)
    refused x (Some kind) n (modes.Statement depth) e r = absurd (cc)
    refused x (Some kind) n (modes.Comment extent) e r = absurd (cc)

    all_refused : is_white (byte bs s.at) ≡ false → begins_silent bs s.at ≡ false → begins_loud bs s.at ≡ false
        → Step bs between (piece_step bs s)
    unfolding piece_step piece_found
    all_refused w i l = go (piece bs (top syntaxes.Scss s.line.opened) s.line.before s.at) refl
      where
        go : (x : Option Piece) → piece bs (top syntaxes.Scss s.line.opened) s.line.before s.at ≡ x
            → Step bs between (piece_taken s x)
        go None e = refuses
        go (Some x) e = steps (λ r. absurd (refused x (renamed s.line.sort x.token)
            (λ n. is_token bs s x o e w i l (unnamed (renamed s.line.sort x.token) x.token (renames s.line.sort x.token) n))
            s.mode m r))

    behinds : Step bs between (behind_step bs s extent)
    unfolding behind_step
    behinds =
        either (Step bs between) (is_break (byte bs s.at)) _ _
        (λ _. either (λ (x : Found). Step bs between (Ok x)) (nat_lt s.at extent.stop) _ _ (λ _. stays (s.at + 1)) (λ _. leaves))
        (λ _. either (Step bs between) (is_white (byte bs s.at)) _ _ (λ _. stays (s.at + 1))
        (λ w. either (Step bs between) (begins_silent bs s.at) _ _ (λ _. stays (run_end classes.Line bs (s.at + 2)))
        (λ i. either (Step bs between) (begins_loud bs s.at) _ _
        (λ _. stays (comment_end bs (reaches.Sign extent.depth) (s.at + 2))) (λ l. all_refused w i l))))

  -- between statements
  module _ (s : State) (phase : Phase) (o : s.line.opened ≡ []) (e : Ends bs phase)
      (due : s.blocks.due ≡ false → phase ≡ between) (first : s.blocks.first ≡ true → phase ≡ between)
      (fits : (to : ℕ) → Fits bs (moved s to).state phase) where
    lines_on : (to : ℕ) → Step bs phase (Ok (moved s to))
    lines_on to = steps (λ _. record { next = phase; fits = fits to; run = λ ts l. l })

    statement_begins : (at : ℕ) → Step bs phase (Ok (statement_begun bs s at))
    unfolding line_blocks
    statement_begins at = steps (λ _. record {
      next = statement (seen_of (statement_begun bs s at).state.line) at;
      fits = within refl refl refl (record { end = at; behind = empty; whole = empty; run = λ ts l. l });
      run = λ ts l. line_run bs s.blocks phase s.line.end s.at at ts e due first
          (begins at (subst (λ (os : List Opened). Lines bs (statement (record unseen { opened = os }) at) ts) o l));
    })

    comment_begins : (at : ℕ) → begins_loud bs at ≡ true → Step bs phase (Ok (comment_begun bs s at))
    unfolding line_blocks
    comment_begins at m = steps (λ _. record {
      next = comment s.line.opened;
      fits = noted refl refl refl;
      run = λ ts l. subst (Lines bs phase)
          (sym (append_assoc (line_laid bs s.blocks s.line.end s.at at).tokens (comment_signs at) ts))
          (line_run bs s.blocks phase s.line.end s.at at (comment_signs at ++ ts) e due first
          (opens refl m (text (inr refl) (subst (λ (os : List Opened). Lines bs (comment os) ts) o l))));
    })

    at_texts : (at : ℕ) → Step bs phase (text_step bs s at)
    unfolding text_step
    at_texts at =
        either (Step bs phase) (byte bs at == END) _ _ (λ _. lines_on at)
        (λ _. either (Step bs phase) (is_break (byte bs at)) _ _ (λ _. lines_on (at + 1))
        (λ _. either (Step bs phase) (begins_silent bs at) _ _ (λ _. lines_on (comment_end bs (reaches.Lines (at - s.at)) at))
        (λ _. either (Step bs phase) (begins_loud bs at) _ _ (λ m. comment_begins at m) (λ _. statement_begins at))))

  -- one step

  abbrev inside_is : State → Type 0
  inside_is s = is_outside s.line ≡ false

  busy : (s : State) → s.line.opened ≡ [] → is_outside s.line ≡ false → ⊥
  busy s o i = absurd (cc)

  step_lines : (s : State) (phase : Phase) → Fits bs s phase → Step bs phase (step bs s)
  unfolding step
  step_lines s phase fits =
      either (Step bs phase) (is_outside s.line) _ _ (λ o. outside s phase fits (none_open s.line.opened o))
      (λ i. inner_step s phase fits i)
    where
      outside : (s : State) (phase : Phase) → Fits bs s phase → s.line.opened ≡ [] → Step bs phase (outside_step bs s s.mode)
      outside s _ (over m f d o e) _ =
          subst (λ mode. Step bs (statement (seen_of s.line) s.line.end) (outside_step bs s mode)) (sym m)
          (at_texts s (statement (seen_of s.line) s.line.end) o (single e) (λ n. absurd (cc)) (λ n. absurd (cc))
          (λ to. over m f d o e) (run_end classes.Blank bs s.at))
      outside s _ (lined m d o) _ =
          subst (λ mode. Step bs between (outside_step bs s mode)) (sym m)
          (at_texts s between o idle (λ n. refl) (λ n. refl) (λ to. lined m d o) (run_end classes.Blank bs s.at))
      outside s _ (within {depth = depth} m f d p) o =
          subst (λ mode. Step bs (statement (seen_of s.line) s.line.end) (outside_step bs s mode)) (sym m)
          (statements bs s depth m f d p o)
      outside s _ (noted {extent = extent} m d n) o =
          subst (λ mode. Step bs (comment s.line.opened) (outside_step bs s mode)) (sym m) (notes s extent m d n o)
      outside s _ (closed {extent = extent} m d o) _ =
          subst (λ mode. Step bs between (outside_step bs s mode)) (sym m) (behinds s extent m d o)

      inner_step : (s : State) (phase : Phase) → Fits bs s phase → is_outside s.line ≡ false → Step bs phase (piece_step bs s)
      inner_step s _ (over m f d o e) i = absurd (busy s o i)
      inner_step s _ (lined m d o) i = absurd (busy s o i)
      inner_step s _ (within {depth = depth} m f d p) i =
          pieces bs s depth m f d p (λ x e n. within_opened (length s.line.opened == 0) _ i)
      inner_step s _ (noted {extent = extent} m d n) i = note_pieces s extent m d n
      inner_step s _ (closed m d o) i = absurd (busy s o i)

  -- the end of the text

  abbrev LinesIn : Phase → Result Laid ℕ → Type 0
  LinesIn phase (Ok l) = l.refused ≡ None → Lines bs phase l.tokens
  LinesIn phase (Err k) = Unit {0}

  ending : (s : State) (phase : Phase) → Ends bs phase → (s.blocks.due ≡ false → phase ≡ between)
      → Lines bs phase (due_sign s.blocks.due s.line.end ++ (shut_blocks s.line.end 0 s.blocks.depths).tokens)
  ending s phase e d =
      subst (Lines bs phase) (append-nil _)
      (due_run bs s.blocks.due phase s.line.end (shut_blocks s.line.end 0 s.blocks.depths).tokens [] e d
      (shut_all_signs bs s.line.end 0 s.blocks.depths) ended)

  abbrev LastLines : State → Phase → Mode → Type 0
  LastLines s phase mode = Lines bs phase (comment_end_sign mode s.line.end
      ++ (due_sign s.blocks.due s.line.end ++ (shut_blocks s.line.end 0 s.blocks.depths).tokens))

  none_left : (os : List Opened) → first_start os ≡ None → os ≡ []
  none_left [] e = refl
  none_left (o ∷ os) e = absurd (cc)

  last_run : (s : State) (phase : Phase) → Fits bs s phase → s.at ≡ length bs → first_start s.line.opened ≡ None
      → Lines bs phase (last_tokens s)
  last_run s _ (over m f d o e) at n =
      subst (LastLines s (statement (seen_of s.line) s.line.end)) (sym m)
      (ending s (statement (seen_of s.line) s.line.end) (single e) (λ n. absurd (cc)))
  last_run s _ (lined m d o) at n = subst (LastLines s between) (sym m) (ending s between idle (λ _. refl))
  last_run s _ (within m f d p) at n =
      subst (LastLines s (statement (seen_of s.line) s.line.end)) (sym m)
      (ending s (statement (seen_of s.line) s.line.end)
      (last (subst (Gap bs s.line.end) at (space_gap bs (spans_lines (seen_of s.line)) s.line.end s.at p.whole)))
      (λ n. absurd (cc)))
  last_run s _ (noted m d c) at n =
      subst (LastLines s (comment s.line.opened)) (sym m)
      (note_ends s.line.opened _ _ (none_left s.line.opened n) refl (ending s between idle (λ _. refl)))
  last_run s _ (closed m d o) at n = subst (LastLines s between) (sym m) (ending s between idle (λ _. refl))

  finished_lines : (s : State) (phase : Phase) → Fits bs s phase → s.at ≡ length bs → LinesIn phase (finished s)
  unfolding finished
  finished_lines s phase fits at = go (first_start s.line.opened) refl
    where
      go : (o : Option ℕ) → first_start s.line.opened ≡ o → LinesIn phase (finished_by s o)
      go None e = λ _. last_run s phase fits at e
      go (Some k) e = tt

  -- a whole walk

  earlier_none : (x y : Option ℕ) → earlier x y ≡ None → (x ≡ None) × (y ≡ None)
  earlier_none None y e = (refl, e)
  earlier_none (Some k) y e = absurd (cc)

module _ (bs : List ℕ) (utf : IsText bs) where
  at_last : (s : State) → Stands bs s → length bs ≤ s.at → s.at ≡ length bs
  at_last s st l = let w = st.within in omega arith

  walk_lines : (n : ℕ) (s : State) (phase : Phase) → Stands bs s → Fits bs s phase → 2 * length bs ≤ n + weight s
      → LinesIn bs phase (walk bs n s)
  walk_lines zero s phase st fits enough =
      finished_lines bs s phase fits (at_last s st (spent bs utf s (omega arith)))
  walk_lines (suc n) s phase st fits enough =
      either (LinesIn bs phase) (nat_lt s.at (length bs)) _ _
      (λ m. let lt = before s.at m in go (step bs s) (step_steps bs utf s st lt) (grows bs utf s st lt)
      (step_lines bs s phase fits) (λ t next here more left. walk_lines n t next here more left))
      (λ m. finished_lines bs s phase fits (at_last s st (after s.at m)))
    where
      before : (at : ℕ) → nat_lt at (length bs) ≡ true → at < length bs
      before at m = grind (arith, nat_tests)

      after : (at : ℕ) → nat_lt at (length bs) ≡ false → length bs ≤ at
      after at m = grind (arith, nat_tests)

      go : (r : Result Found ℕ) → Steps bs s r → Grows bs utf s r → Step bs phase r
          → ((t : State) (next : Phase) → Stands bs t → Fits bs t next → 2 * length bs ≤ n + weight t
          → LinesIn bs next (walk bs n t))
          → LinesIn bs phase (walk_on (walk bs n) r)
      go (Ok f) (goes here ls) (on w) (steps some_goes) ih = by f.laid.refused refl (walk bs n f.state)
          (λ none. ih f.state (some_goes none).next here (some_goes none).fits (omega arith))
        where
          by : (o : Option ℕ) → f.laid.refused ≡ o → (r : Result Laid ℕ)
              → ((none : f.laid.refused ≡ None) → LinesIn bs (some_goes none).next r)
              → LinesIn bs phase (behind f.laid r)
          by None e (Ok y) rest = λ none. (some_goes e).run y.tokens (rest e (earlier_none bs f.laid.refused y.refused none).1)
          by (Some k) e (Ok y) rest = λ none. absurd (no_start f.laid.refused k e (earlier_none bs f.laid.refused y.refused none).0)
          by o e (Err k) rest = tt
      go (Err k) st gr refuses ih = tt

  laid_lines : LinesIn bs between (laid_of bs)
  unfolding laid_of
  laid_lines =
      walk_lines (2 * length bs) (start_at (mark_length bs)) between (start_stands bs utf (mark_length bs) refl)
      (lined refl refl refl) (omega arith)

-- tokens that are given their ends

sign_unopened : (kind : TokenKind) → is_line_sign kind ≡ true → opens_end kind ≡ false
sign_unopened kinds.Template e = absurd (cc)
sign_unopened kinds.UrlTemplate e = absurd (cc)
sign_unopened kinds.CommentTemplate e = absurd (cc)
sign_unopened _ e = refl

sign_still : (t : Token) (later : List ℕ) → is_line_sign t.kind ≡ true → t.from ≡ t.to
    → (reaching t later).from ≡ (reaching t later).to
sign_still t later s e = e ∙ sym (if_false (opens_end t.kind) (last_end later t.to) t.to (sign_unopened t.kind s))

module _ (bs : List ℕ) where
  lines_alike : (phase : Phase) (ts us : List Token) → Lines bs phase ts → Alike ts us → Lines bs phase us
  lines_alike phase _ us (begins at l) a = begins at (lines_alike (statement unseen at) _ us l a)
  lines_alike phase _ [] ended a = ended
  lines_alike phase _ (u ∷ us) ended a = absurd a
  lines_alike phase _ [] (sign s e k l) a = absurd a
  lines_alike phase _ (u ∷ us) (sign {t = t} s e k l) a =
      subst (λ (x : Token). Lines bs phase (x ∷ us)) (sym a.0.1)
      (sign s (sign_still t a.0.0 s e) k (lines_alike between _ us l a.1))
  lines_alike phase _ [] (token before p sp e r l) a = absurd a
  lines_alike phase _ (u ∷ us) (token before p sp e r l) a =
      subst (λ (x : Token). Lines bs phase (x ∷ us)) (sym a.0.1) (token before p sp e r (lines_alike _ _ us l a.1))
  lines_alike phase _ [] (inner reach sp k e m l) a = absurd a
  lines_alike phase _ (u ∷ us) (inner reach sp k e m l) a =
      subst (λ (x : Token). Lines bs phase (x ∷ us)) (sym a.0.1) (inner reach sp k e m (lines_alike _ _ us l a.1))
  lines_alike phase _ [] (opens k m l) a = absurd a
  lines_alike phase _ (u ∷ us) (opens k m l) a =
      subst (λ (x : Token). Lines bs phase (x ∷ us)) (sym a.0.1) (opens k m (lines_alike _ _ us l a.1))
  lines_alike phase _ [] (text k l) a = absurd a
  lines_alike phase _ (u ∷ us) (text k l) a =
      subst (λ (x : Token). Lines bs phase (x ∷ us)) (sym a.0.1) (text k (lines_alike _ _ us l a.1))
  lines_alike phase _ [] (inserted before p e r l) a = absurd a
  lines_alike phase _ (u ∷ us) (inserted before p e r l) a =
      subst (λ (x : Token). Lines bs phase (x ∷ us)) (sym a.0.1) (inserted before p e r (lines_alike _ _ us l a.1))
  lines_alike phase _ [] (closes k l) a = absurd a
  lines_alike phase _ (u ∷ us) (closes k l) a =
      subst (λ (x : Token). Lines bs phase (x ∷ us)) (sym a.0.1) (closes k (lines_alike _ _ us l a.1))

-- the tokens of a text
pub layout_lines : (bs : List ℕ) → IsText bs → IfOk (layout bs) (λ ts. Lines bs between ts)
unfolding layout
layout_lines bs utf = all (laid_of bs) (laid_lines bs utf)
  where
    one : (ts : List Token) (o : Option ℕ) → (o ≡ None → Lines bs between ts)
        → IfOk (told_by ts o) (λ us. Lines bs between us)
    one ts None l = l refl
    one ts (Some k) l = tt

    all : (r : Result Laid ℕ) → LinesIn bs between r → IfOk (told r) (λ ts. Lines bs between ts)
    all (Ok l) lines =
        one (reached l.tokens).list l.refused
        (λ none. lines_alike bs between l.tokens (reached l.tokens).list (lines none) (reached_alike l.tokens))
    all (Err k) lines = tt
