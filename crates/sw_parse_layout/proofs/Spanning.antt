-- A statement goes on over the end of a line in what is open and behind a comma of a selector, and nowhere else.
use Rattle.std.proofs.Common.{◌≡◌, ℕ, zero, suc, ◌+◌, ◌-◌, Bool, true, false, not, ◌&&◌, ◌||◌, List, [], ◌∷◌, ◌++◌, refl, sym, subst, ◌∙◌, ap, length, take, Option, Some, None, Result, Ok, Err, append_assoc}
use Rattle.std.specs.Prelude.{◌==◌, nat_lt, if◌then◌else◌}
use Rattle.sw_text_scan.specs.declared.runs.Class.TheVariants as classes
use Rattle.sw_text_scan.specs.Bytes.{byte, is_break, is_white, begins_silent, begins_loud}
use Rattle.sw_text_scan.specs.Runs.{run_end}
use Rattle.sw_tokens.specs.declared.token.TokenKind.{TokenKind}
use Rattle.sw_tokens.specs.declared.token.TokenKind.TheVariants as kinds
use Rattle.sw_tokens.specs.declared.token.Token.{Token}
use Rattle.sw_tokens.specs.declared.token.Syntax.TheVariants as syntaxes
use Rattle.sw_tokens.specs.declared.pieces.Change.TheVariants as changes
use Rattle.sw_tokens.specs.declared.pieces.Piece.{Piece}
use Rattle.sw_tokens.specs.declared.scan.Opened.{Opened}
use Rattle.sw_tokens.specs.declared.skips.Inside.TheVariants as insides
use Rattle.sw_tokens.specs.Pieces.{piece}
use Rattle.sw_tokens.specs.Tokens.{top, changed, kept_by, is_spaced}
use Rattle.sw_text_scan.proofs.Progress.{either}
use Rattle.sw_parse_layout.specs.declared.lines.Reach.{Reach}
use Rattle.sw_parse_layout.specs.declared.lines.Reach.TheVariants as reaches
use Rattle.sw_parse_layout.specs.declared.blocks.Blocks.{Blocks}
use Rattle.sw_parse_layout.specs.declared.blocks.Shut.{Shut}
use Rattle.sw_parse_layout.specs.declared.blocks.Entry.{Entry}
use Rattle.sw_parse_layout.specs.declared.state.Extent.{Extent}
use Rattle.sw_parse_layout.specs.declared.state.Mode.TheVariants as modes
use Rattle.sw_parse_layout.specs.declared.state.Line.{Line}
use Rattle.sw_parse_layout.specs.declared.state.State.{State}
use Rattle.sw_parse_layout.specs.declared.state.Found.{Found}
use Rattle.sw_parse_layout.specs.Lines.{ends_at_sign, comment_end}
use Rattle.sw_parse_layout.specs.Blocks.{top_depth, shut_from, shut_blocks, due_sign, entered, line_laid}
use Rattle.sw_parse_layout.specs.Laid.{behind, refused_at}
use Rattle.sw_parse_layout.specs.Pieces.{moved, passed, line_over, kept_behind, renamed, line_after, is_refused, piece_found, piece_taken, piece_step, is_outside}
use Rattle.sw_parse_layout.specs.Steps.{is_comma, reach_in, break_found, statement_step}
use Rattle.sw_parse_layout.specs.Layout.{walk}
use Rattle.sw_parse_layout.specs.Laws.{is_line_sign}
use Rattle.sw_parse_layout.specs.LawsOfText.{silent, loud, Gap, nothing, white, comment as commented}
use Rattle.sw_parse_layout.specs.LawsOfLines.{Seen, seen_with, spans_lines, Space, empty, blank, line_end, note, Phase, between, statement, comment, Ends, idle, last, Lines, sign, token, inner}
use Rattle.sw_parse_layout.proofs.Progress.{on}
use Rattle.sw_parse_layout.proofs.Stands.{goes}
use Rattle.sw_parse_layout.proofs.Firsts.{Tells, token as telling, code_tells}
use Rattle.sw_parse_layout.proofs.Begun.{top_ground}
use Rattle.sw_parse_layout.proofs.Gaps.{broken, piece_gap, piece_keeps}
use Rattle.sw_parse_layout.proofs.Filling.{Renamed, none, some, renames}

abbrev pub seen_of : Line → Seen
seen_of line = record { opened = line.opened; brackets = line.brackets; sort = line.sort }

-- where nothing is open, brackets and a comma decide
ends_line : (opened brackets comma : Bool) → opened ≡ true → (brackets && not comma) ≡ true
    → (not opened || (not brackets || comma)) ≡ false
ends_line true true false o e = refl
ends_line true true true o e = absurd (cc)
ends_line true false comma o e = absurd (cc)
ends_line false brackets comma o e = absurd (cc)

goes_over : (opened brackets comma : Bool) → (brackets && not comma) ≡ false
    → (not opened || (not brackets || comma)) ≡ true
goes_over true true true e = refl
goes_over true true false e = absurd (cc)
goes_over true false comma e = refl
goes_over false brackets comma e = refl

pub within_opened : (opened more : Bool) → opened ≡ false → (not opened || more) ≡ true
within_opened false more e = refl
within_opened true more e = absurd (cc)

-- what has no other name has none
pub unnamed : (o kind : Option TokenKind) → Renamed o kind → o ≡ None → kind ≡ None
unnamed _ _ none n = refl
unnamed _ _ (some k) n = absurd (cc)

module _ (bs : List ℕ) where
  -- white space

  any_space : (i j : ℕ) → Gap bs i j → Space bs true i j
  any_space i j nothing = empty
  any_space i j (white m g) = by (is_break (byte bs i)) refl (any_space (i + 1) j g)
    where
      by : (b : Bool) → is_break (byte bs i) ≡ b → Space bs true (i + 1) j → Space bs true i j
      by true e s = line_end e refl s
      by false e s = blank m e s
  any_space i j (commented {mid = mid} c g) = note c (any_space mid j g)

  open_space : (lines : Bool) (i j : ℕ) → lines ≡ true → Gap bs i j → Space bs lines i j
  open_space lines i j e g = subst (λ b. Space bs b i j) (sym e) (any_space i j g)

  pub space_gap : (lines : Bool) (i j : ℕ) → Space bs lines i j → Gap bs i j
  space_gap lines i j empty = nothing
  space_gap lines i j (blank m e s) = white m (space_gap lines (i + 1) j s)
  space_gap lines i j (line_end m e s) = white (broken bs (byte bs i) m) (space_gap lines (i + 1) j s)
  space_gap lines i j (note {mid = mid} c s) = commented c (space_gap lines mid j s)

  space_both : (lines : Bool) (i j k : ℕ) → Space bs lines i j → Space bs lines j k → Space bs lines i k
  space_both lines i j k empty t = t
  space_both lines i j k (blank m e s) t = blank m e (space_both lines (i + 1) j k s t)
  space_both lines i j k (line_end m e s) t = line_end m e (space_both lines (i + 1) j k s t)
  space_both lines i j k (note {mid = mid} c s) t = note c (space_both lines mid j k s t)

  -- signs that lines stand for

  abbrev pub AllSigns : List Token → Type 0
  AllSigns [] = Unit {0}
  AllSigns (t ∷ ts) = ((is_line_sign t.kind ≡ true) × (t.from ≡ t.to)) × AllSigns ts

  shut_signs : (n end depth : ℕ) (depths : List ℕ) → AllSigns (shut_from n end depth depths).tokens
  shut_signs zero end depth depths = tt
  shut_signs (suc n) end depth depths =
      either (λ (s : Shut). AllSigns s.tokens) (nat_lt depth (top_depth depths)) _ _
      (λ _. ((refl, refl), shut_signs n end depth (take (length depths - 1) depths))) (λ _. tt)

  pub shut_all_signs : (end depth : ℕ) (depths : List ℕ) → AllSigns (shut_blocks end depth depths).tokens
  unfolding shut_blocks
  shut_all_signs end depth depths = shut_signs (length depths) end depth depths

  signs_between : (ss ts : List Token) → AllSigns ss → Lines bs between ts → Lines bs between (ss ++ ts)
  signs_between [] ts all l = l
  signs_between (s ∷ ss) ts all l = sign all.0.0 all.0.1 idle (signs_between ss ts all.1 l)

  -- behind a statement a sign is due, and none between statements
  pub due_run : (due : Bool) (phase : Phase) (end : ℕ) (ss ts : List Token) → Ends bs phase → (due ≡ false → phase ≡ between)
      → AllSigns ss → Lines bs between ts → Lines bs phase ((due_sign due end ++ ss) ++ ts)
  due_run true phase end ss ts e n all l = sign refl refl e (signs_between ss ts all l)
  due_run false phase end ss ts e n all l = subst (λ x. Lines bs x (ss ++ ts)) (sym (n refl)) (signs_between ss ts all l)

  entered_run : (b : Blocks) (phase : Phase) (end depth at : ℕ) (ts : List Token) → Ends bs phase
      → (b.due ≡ false → phase ≡ between) → (b.first ≡ true → phase ≡ between) → Lines bs between ts
      → Lines bs phase ((entered b end depth at).tokens ++ ts)
  unfolding entered
  entered_run b phase end depth at ts e n f l =
      either (λ (r : Entry). Lines bs phase (r.tokens ++ ts)) b.first _ _
      (λ m. subst (λ x. Lines bs x ts) (sym (f m)) l)
      (λ _. either (λ (r : Entry). Lines bs phase (r.tokens ++ ts)) (nat_lt (top_depth b.depths) depth) _ _
      (λ _. sign refl refl e l)
      (λ _. due_run b.due phase end (shut_blocks end depth b.depths).tokens ts e n (shut_all_signs end depth b.depths) l))

  pub line_run : (b : Blocks) (phase : Phase) (end start at : ℕ) (ts : List Token) → Ends bs phase
      → (b.due ≡ false → phase ≡ between) → (b.first ≡ true → phase ≡ between) → Lines bs between ts
      → Lines bs phase ((line_laid bs b end start at).tokens ++ ts)
  unfolding line_laid
  line_run b phase end start at ts e n f l = entered_run b phase end (at - start) at ts e n f l

  -- states

  -- behind the last token of a statement: white space and comments, some of which a token follows
  pub record Pending (s : State) : Type 0 where
    pub end : ℕ
    pub behind : Space bs (spans_lines (seen_of s.line)) end s.at
    pub whole : Space bs (spans_lines (seen_of s.line)) s.line.end s.at
    pub run : (ts : List Token) → Lines bs (statement (seen_of s.line) end) ts
        → Lines bs (statement (seen_of s.line) s.line.end) (s.line.comments ++ ts)

  -- the phase in which a state of the walk is
  pub data Fits (s : State) : Phase → Type 0 where
    over : s.mode ≡ modes.Between → s.blocks.first ≡ false → s.blocks.due ≡ true → s.line.opened ≡ []
        → spans_lines (seen_of s.line) ≡ false → Fits s (statement (seen_of s.line) s.line.end)
    lined : s.mode ≡ modes.Between → s.blocks.due ≡ false → s.line.opened ≡ [] → Fits s between
    within : {depth : ℕ} → s.mode ≡ modes.Statement depth → s.blocks.first ≡ false → s.blocks.due ≡ true → Pending s
        → Fits s (statement (seen_of s.line) s.line.end)
    noted : {extent : Extent} → s.mode ≡ modes.Comment extent → s.blocks.due ≡ false → s.line.comments ≡ []
        → Fits s (comment s.line.opened)
    closed : {extent : Extent} → s.mode ≡ modes.Behind extent → s.blocks.due ≡ false → s.line.opened ≡ [] → Fits s between

  pub record Goes (phase : Phase) (f : Found) : Type 0 where
    pub next : Phase
    pub fits : Fits f.state next
    pub run : (ts : List Token) → Lines bs next ts → Lines bs phase (f.laid.tokens ++ ts)

  pub data Step (phase : Phase) : Result Found ℕ → Type 0 where
    steps : {f : Found} → (f.laid.refused ≡ None → Goes phase f) → Step phase (Ok f)
    refuses : {k : ℕ} → Step phase (Err k)

  never : (b : Bool) → b ≡ true → b ≡ false → ⊥
  never b t f = absurd (cc)

  pub is_open : (line : Line) → line.opened ≡ [] → is_outside line ≡ true
  is_open line e = ap (λ (os : List Opened). length os == 0) e

  ground : (s : State) → s.line.opened ≡ [] → top syntaxes.Scss s.line.opened ≡ insides.Sheet
  ground s e = ap (top syntaxes.Scss) e ∙ top_ground

  -- where nothing is open, what is neither white space nor a comment is a token
  pub is_token : (s : State) (p : Piece) → s.line.opened ≡ []
      → piece bs (top syntaxes.Scss s.line.opened) s.line.before s.at ≡ Some p → is_white (byte bs s.at) ≡ false
      → begins_silent bs s.at ≡ false → begins_loud bs s.at ≡ false → p.token ≡ None → ⊥
  is_token s p o e w i l n =
      told (subst Tells e (subst (λ x. Tells (piece bs x s.line.before s.at)) (sym (ground s o))
      (code_tells bs s.at s.line.before w i l)))
    where
      told : Tells (Some p) → ⊥
      told (telling kind is dark) = absurd (cc)

  -- in a statement

  module _ (s : State) (depth : ℕ) (m : s.mode ≡ modes.Statement depth) (f : s.blocks.first ≡ false)
      (d : s.blocks.due ≡ true) (p : Pending s) where
    abbrev here : Phase
    here = statement (seen_of s.line) s.line.end

    abbrev lines_here : Bool
    lines_here = spans_lines (seen_of s.line)

    moves : (to : ℕ) → Space bs lines_here s.at to → Step here (Ok (moved s to))
    moves to sp = steps (λ _. record {
      next = here;
      fits = within m f d (record {
        end = p.end;
        behind = space_both lines_here p.end s.at to p.behind sp;
        whole = space_both lines_here s.line.end s.at to p.whole sp;
        run = p.run;
      });
      run = λ ts l. l;
    })

    passes : (reach : Reach) → ends_at_sign reach ≡ true → begins_loud bs s.at ≡ true
        → Step here (Ok (passed s (comment_end bs reach (s.at + 2))))
    passes reach e b = steps (λ _. record {
      next = here;
      fits = within m f d (record {
        end = comment_end bs reach (s.at + 2);
        behind = empty;
        whole = space_both lines_here s.line.end s.at (comment_end bs reach (s.at + 2)) p.whole (note (loud reach e b) empty);
        run = λ ts l. subst (Lines bs here)
            (sym (append_assoc s.line.comments (kept_by (Some kinds.Comment) s.at (comment_end bs reach (s.at + 2)) s.line.before) ts))
            (p.run (kept_by (Some kinds.Comment) s.at (comment_end bs reach (s.at + 2)) s.line.before ++ ts)
            (inner reach p.behind refl e b l));
      });
      run = λ ts l. l;
    })

    overs : s.line.opened ≡ [] → lines_here ≡ false → Step here (Ok (line_over s))
    overs o e = steps (λ _. record {
      next = here;
      fits = over refl f d o e;
      run = λ ts l. l;
    })

    breaks : (o : s.line.opened ≡ []) → is_break (byte bs s.at) ≡ true → Step here (Ok (break_found s))
    breaks o b =
        either (λ (x : Found). Step here (Ok x)) ((length s.line.brackets == 0) && not (is_comma s.line.sort)) _ _
        (λ e. overs o (ends_line (length s.line.opened == 0) (length s.line.brackets == 0) (is_comma s.line.sort) (is_open s.line o) e))
        (λ e. moves (s.at + 1) (line_end b (goes_over (length s.line.opened == 0) (length s.line.brackets == 0) (is_comma s.line.sort) e) empty))

    -- what a piece finds, where its token is named
    abbrev found_as : Piece → Option TokenKind → Found
    found_as x o = record {
      laid = record {
        tokens = kept_behind s.line.comments o s.at x.to s.line.before;
        refused = refused_at (is_refused s.mode s.line o) s.at;
      };
      state = record { at = x.to; mode = s.mode; line = line_after s.line o x.change x.to s.at; blocks = s.blocks };
    }

    kept_if : {A : Type 0} (b : Bool) (x : A) → (if b then x else x) ≡ x
    kept_if true x = refl
    kept_if false x = refl

    piece_runs : (x : Piece) (o : Option TokenKind)
        → piece bs (top syntaxes.Scss s.line.opened) s.line.before s.at ≡ Some x → renamed s.line.sort x.token ≡ o
        → (o ≡ None → (x.token ≡ None) × (lines_here ≡ true)) → Goes here (found_as x o)
    unfolding line_after
    piece_runs x (Some kind) e r inside = record {
      next = statement (seen_of (line_after s.line (Some kind) x.change x.to s.at)) x.to;
      fits = within m f d (record {
        end = x.to;
        behind = empty;
        whole = empty;
        run = λ ts l. l;
      });
      run = λ ts l. subst (Lines bs here)
          (sym (append_assoc s.line.comments (kept_by (Some kind) s.at x.to s.line.before) ts))
          (p.run (kept_by (Some kind) s.at x.to s.line.before ++ ts) (token s.line.before x p.behind e r
          (subst (λ seen. Lines bs (statement seen x.to) ts) (sym (same r)) l)));
    }
      where
        same : renamed s.line.sort x.token ≡ Some kind
            → seen_with (seen_of s.line) x s.at (is_spaced s.line.before)
            ≡ seen_of (line_after s.line (Some kind) x.change x.to s.at)
        same e = ap (λ (o : Option TokenKind). seen_of (line_after s.line o x.change x.to s.at)) e
    piece_runs x None e r inside =
        let quiet = (inside refl).0 in
        let kept = piece_keeps bs s.at (top syntaxes.Scss s.line.opened) s.line.before x e quiet in
        let gap = open_space lines_here s.at x.to (inside refl).1 (piece_gap bs s.at (top syntaxes.Scss s.line.opened) s.line.before x e quiet) in
        let all = space_both lines_here s.line.end s.at x.to p.whole gap in
        let still = still_seen kept in
        record {
          next = statement (seen_of (line_after s.line None x.change x.to s.at)) s.line.end;
          fits = within m f d (record {
            end = s.line.end;
            behind = subst (λ seen. Space bs (spans_lines seen) s.line.end x.to) (sym still) all;
            whole = subst (λ seen. Space bs (spans_lines seen) s.line.end x.to) (sym still) all;
            run = λ ts l. l;
          });
          run = λ ts l. subst (λ seen. Lines bs (statement seen s.line.end) ts) still l;
        }
      where
        still_seen : x.change ≡ changes.Keep → seen_of (line_after s.line None x.change x.to s.at) ≡ seen_of s.line
        still_seen k =
            ap (λ c. record {
              opened = changed s.line.opened c s.at;
              brackets = if is_outside s.line then s.line.brackets else s.line.brackets;
              sort = if is_outside s.line then s.line.sort else s.line.sort;
            }) k
            ∙ ap (λ (x : List _). record {
              opened = s.line.opened;
              brackets = x;
              sort = if is_outside s.line then s.line.sort else s.line.sort;
            }) (kept_if (is_outside s.line) s.line.brackets)
            ∙ ap (λ x. record { opened = s.line.opened; brackets = s.line.brackets; sort = x })
            (kept_if (is_outside s.line) s.line.sort)

    pub pieces : ((x : Piece) → piece bs (top syntaxes.Scss s.line.opened) s.line.before s.at ≡ Some x → x.token ≡ None
        → lines_here ≡ true) → Step here (piece_step bs s)
    unfolding piece_step piece_found
    pieces inside = go (piece bs (top syntaxes.Scss s.line.opened) s.line.before s.at) refl
      where
        go : (o : Option Piece) → piece bs (top syntaxes.Scss s.line.opened) s.line.before s.at ≡ o
            → Step here (piece_taken s o)
        go None e = refuses
        go (Some x) e = steps (λ _. piece_runs x (renamed s.line.sort x.token) e refl (λ n.
            let quiet = unnamed (renamed s.line.sort x.token) x.token (renames s.line.sort x.token) n in (quiet, inside x e quiet)))

    pub statements : s.line.opened ≡ [] → Step here (statement_step bs s depth)
    unfolding statement_step
    statements o =
        either (Step here) (is_break (byte bs s.at)) _ _ (λ b. breaks o b)
        (λ b. either (Step here) (is_white (byte bs s.at)) _ _ (λ w. moves (s.at + 1) (blank w b empty))
        (λ w. either (Step here) (begins_silent bs s.at) _ _
        (λ i. moves (run_end classes.Line bs (s.at + 2)) (note (silent i) empty))
        (λ i. either (Step here) (begins_loud bs s.at) _ _
        (λ l. passes (reach_in s.line depth) (sign_reach s.line) l)
        (λ l. pieces (λ x e n. absurd (is_token s x o e w i l n))))))
      where
        sign_reach : (line : Line) → ends_at_sign (reach_in line depth) ≡ true
        sign_reach line =
            either (λ (r : Reach). ends_at_sign r ≡ true) (length line.brackets == 0) _ _ (λ _. refl) (λ _. refl)
