-- Loud comments are told where a statement may begin, and what is read of statements with such comments is seen.
use Rattle.std.proofs.Common.{◌≡◌, ℕ, ◌+◌, ◌-◌, Bool, true, false, not, ◌||◌, List, [], ◌∷◌, ◌++◌, length, take, refl, sym, ◌∙◌, ap, subst, append_assoc}
use Rattle.std.specs.Prelude.{nat_lt}
use Rattle.sw_text_scan.proofs.Bounds.{if_true, if_false}
use Rattle.sw_parse_terminals.specs.declared.terminal.Terminal.{Terminal}
use Rattle.sw_parse_terminals.specs.declared.terminal.Terminal.TheVariants as terminals
use Rattle.sw_parse_terminals.specs.declared.lexeme.Lexeme.{Lexeme}
use Rattle.sw_parse_lexemes.specs.declared.sort.Sort.{Sort}
use Rattle.sw_parse_lexemes.specs.declared.sort.Sort.TheVariants as sorts
use Rattle.sw_parse_lexemes.specs.declared.plain.Plain.{Plain}
use Rattle.sw_parse_lexemes.specs.declared.state.Mode.{Mode}
use Rattle.sw_parse_lexemes.specs.declared.state.Mode.TheVariants as modes
use Rattle.sw_parse_lexemes.specs.declared.state.Walk.TheVariants as walks
use Rattle.sw_parse_lexemes.specs.declared.state.Bracket.TheVariants as brackets
use Rattle.sw_parse_lexemes.specs.declared.state.Comments.{Comments}
use Rattle.sw_parse_lexemes.specs.declared.state.Comments.TheVariants as comments
use Rattle.sw_parse_lexemes.specs.declared.state.Frame.{Frame}
use Rattle.sw_parse_lexemes.specs.declared.state.State.{State}
use Rattle.sw_parse_lexemes.specs.Classes.{is_comment, is_else}
use Rattle.sw_parse_lexemes.specs.Ahead.{sort_at, over_comment, walk_from, code_from}
use Rattle.sw_parse_lexemes.specs.Modes.{statement_mode}
use Rattle.sw_parse_lexemes.specs.Terminals.{terminal_of}
use Rattle.sw_parse_lexemes.specs.Steps.{inner_mode, placed, after, is_white, are_white, comments_by}
use Rattle.sw_parse_lexemes.specs.Lexemes.{lexeme_of, skipped, kept, read, lexemes_by}
use Rattle.sw_convert_passing.specs.Written.{Written, written, direct, Among, IsThere, Stand}
use Rattle.sw_convert_passing.specs.Heads.{Starts}
use Rattle.sw_convert_passing.proofs.Facts.{and_no}
use Rattle.sw_convert_passing.proofs.Steps.{Reads, join, step, stay_at, framed, outer_are}
use Rattle.sw_convert_passing.proofs.Entries.{split, reads, one_of}
use Rattle.sw_convert_passing.proofs.Seeing.{passed_is_seen, one}
use Rattle.sw_convert_passing.proofs.Steps.{plain_at}
use Rattle.sw_convert_passing.proofs.Heads.{placed_is}
use Rattle.sw_convert_passing.proofs.Told.{pieces_told, url_texts}
use Rattle.sw_convert_heads_passing.specs.Comments.{Comment, whole, with_values, Run, passed, loud, joined, RunsAreSeen, ends_comment}
use Rattle.sw_convert_heads_passing.proofs.Parts.{opens_from}
use Rattle.sw_convert_heads_passing.proofs.Selectors.{goes}
use Rattle.sw_convert_heads_passing.proofs.Bare.{pieces}
use Rattle.sw_convert_heads_passing.proofs.Calm.{Calm, after_keeps, passed_calm}

-- ---- runs

-- tokens are read as some lexemes
abbrev pub Runs : List Plain → State → ℕ → List Written → State → ℕ → Type 0
Runs plains state at tokens end to = (lexemes : List Lexeme) × Run plains state at tokens lexemes end to

pub runs : {plains : List Plain} {state end : State} {at to : ℕ} {tokens : List Written}
    → Reads plains state at tokens end to → Runs plains state at tokens end to
runs (lexemes, p) = (lexemes, passed p)

pub follow : {plains : List Plain} {state middle end : State} {at place to : ℕ} {tokens others : List Written}
    → Runs plains state at tokens middle place → Runs plains middle place others end to
    → Runs plains state at (tokens ++ others) end to
follow (lexemes, r) (more, q) = (lexemes ++ more, joined r q)

read_loud : (plains : List Plain) (state : State) (at : ℕ) (plain : Plain) → state.ignored ≡ 0
    → is_white (placed state plains at) plains at ≡ false
    → read state plains at plain
    ≡ kept (placed state plains at) at plain (terminal_of (placed state plains at) plains at)
unfolding read
read_loud plains state at plain ignored w =
    if_false (nat_lt 0 state.ignored) (skipped state plain) _ (ap (nat_lt 0) ignored)
    ∙ if_false (is_white (placed state plains at) plains at) (skipped (placed state plains at) plain) _ w

run_seen : {plains : List Plain} {state end : State} {at to : ℕ} {tokens : List Written} {lexemes : List Lexeme}
    → Run plains state at tokens lexemes end to → lexemes_by plains state at ≡ lexemes ++ lexemes_by plains end to
run_seen {plains} {state} {end} {at} {to} {tokens} {lexemes} (passed p) =
    passed_is_seen plains state at tokens lexemes end to p
run_seen {plains} {state} {at = at} (loud plain token is_plain ignored w among) =
    one plains state at plain
    (kept (placed state plains at) at plain (terminal_of (placed state plains at) plains at)) is_plain
    (read_loud plains state at plain ignored w)
run_seen {plains} {end = end} {to = to} (joined {middle = middle} {place = place} {lexemes = lexemes} {more = more} r q) =
    run_seen r ∙ ap (λ (l : List Lexeme). lexemes ++ l) (run_seen q)
    ∙ sym (append_assoc lexemes more (lexemes_by plains end to))

pub runs_are_seen : RunsAreSeen
runs_are_seen plains state at tokens lexemes end to r = run_seen r

-- ---- the first token of a comment

loud_step : (plains : List Plain) (state : State) (at : ℕ) (token : Written) (terminal : Terminal) → state.ignored ≡ 0
    → IsThere plains at token → is_white (placed state plains at) plains at ≡ false
    → terminal_of (placed state plains at) plains at ≡ terminal → Among terminal token.may_be
    → Runs plains state at (token ∷ []) (after (placed state plains at) terminal) (at + 1)
loud_step plains state at token terminal ignored there w told among =
    let (plain, is_plain) = plain_at plains at there.within in
    subst (λ (t : Terminal). Runs plains state at (token ∷ []) (after (placed state plains at) t) (at + 1)) told (
      lexeme_of plain at (placed state plains at).commented (terminal_of (placed state plains at) plains at) ∷ [],
      loud plain token is_plain ignored w
          (subst (λ (t : Terminal). Among t token.may_be) (sym told) among),
    )

-- it is no white space where no `@else` comes behind all comments
module _ (plains : List Plain) (state : State) (at : ℕ) (start : state.start ≡ true)
    (here : is_comment (sort_at plains at) ≡ true) (calm : Calm state)
    (no_else : is_else (sort_at plains (code_from plains at)) ≡ false) where
  by_comments : (known : Comments) → are_white known ≡ false → are_white (comments_by known plains at) ≡ false
  by_comments comments.Unknown w =
      ap are_white (if_false (is_else (sort_at plains (code_from plains at))) comments.White comments.Statements no_else)
  by_comments comments.White w = absurd (cc)
  by_comments comments.Statements w = refl

  placed_calm : Calm (placed state plains at)
  placed_calm =
      ap (λ (s : State). are_white s.comments) (placed_is state plains at (statement_mode plains at) start refl)
      ∙ ap are_white
      (if_true (is_comment (sort_at plains at)) (comments_by state.comments plains at) comments.Unknown here)
      ∙ by_comments state.comments calm

  no_white : is_white (placed state plains at) plains at ≡ false
  no_white =
      and_no (is_comment (sort_at plains at)) _
      (ap (λ (b : Bool). not b || are_white (placed state plains at).comments)
      (ap (λ (s : State). s.start) (placed_is state plains at (statement_mode plains at) start refl) ∙ start)
      ∙ placed_calm)

module _ (state : State) (plains : List Plain) (at : ℕ) where
  by_whole : sort_at plains at ≡ sorts.Comment → terminal_of state plains at ≡ terminals.CommentWhole
  unfolding terminal_of
  by_whole e = rw (e, terminal_of) refl

  by_template : sort_at plains at ≡ sorts.CommentTemplate → terminal_of state plains at ≡ terminals.CommentTemplate
  unfolding terminal_of
  by_template e = rw (e, terminal_of) refl

  by_end : sort_at plains at ≡ sorts.CommentEnd → terminal_of state plains at ≡ terminals.CommentEnd
  unfolding terminal_of
  by_end e = rw (e, terminal_of) refl

whole_starts : {frames : List Frame} (state : State) → state.frames ≡ frames
    → Starts frames (after state terminals.CommentWhole)
unfolding after
whole_starts state e = record { frames_are = e; start = refl; no_comment = refl; word = refl; before = refl }

end_starts : {frames : List Frame} (frame : Frame) (state : State) → state.frames ≡ frames ++ frame ∷ []
    → Starts frames (after state terminals.CommentEnd)
unfolding after
end_starts {frames} frame state e = record {
  frames_are = ap (λ (x : List Frame). take (length x - 1) x) e ∙ outer_are frames frame;
  start = refl;
  no_comment = refl;
  word = refl;
  before = refl;
}

comment_inner : (mode : Mode) → inner_mode mode terminals.CommentTemplate ≡ modes.Text
comment_inner modes.Media = refl
comment_inner _ = refl

-- ---- whole comments

-- a comment is told, and the next is loud as well
pub record CommentTold (plains : List Plain) (frames : List Frame) (state : State) (at : ℕ) (tokens : List Written)
    (to : ℕ) : Type 0 where
  pub end : State
  pub reads : Runs plains state at tokens end to
  pub starts : Starts frames end
  pub calm : Calm end

pub comment_told : {tokens : List Written} → Comment tokens → (plains : List Plain) (frames : List Frame) (state : State)
    (at to : ℕ) → Starts frames state → Calm state → is_else (sort_at plains (code_from plains at)) ≡ false
    → Stand plains at tokens to → CommentTold plains frames state at tokens to
comment_told (whole {spaced}) plains frames state at to starts calm no_else (there, e) =
    let is_placed = placed_is state plains at (statement_mode plains at) starts.start refl in
    let here : is_comment (sort_at plains at) ≡ true = ap is_comment there.sort in
    record {
      end = after (placed state plains at) terminals.CommentWhole;
      reads = follow
          (loud_step plains state at (written sorts.Comment spaced terminals.CommentWhole) terminals.CommentWhole
          starts.no_comment there (no_white plains state at starts.start here calm no_else)
          (by_whole (placed state plains at) plains at there.sort) one_of) (runs (stay_at e));
      starts = whole_starts (placed state plains at)
          (ap (λ (s : State). s.frames) is_placed ∙ starts.frames_are);
      calm = ap are_white (after_keeps (placed state plains at) terminals.CommentWhole)
          ∙ placed_calm plains state at starts.start here calm no_else;
    }
comment_told (with_values {spaced} {inner} inside) plains frames state at to starts calm no_else (there, stand) =
    let mode = statement_mode plains at in
    let s0 = placed state plains at in
    let is_placed = placed_is state plains at mode starts.start refl in
    let here : is_comment (sort_at plains at) ≡ true = ap is_comment there.sort in
    let frame = framed brackets.Text terminals.CommentTemplate mode in
    let (place, stands, (last, e)) = split plains to inner (direct sorts.CommentEnd terminals.CommentEnd ∷ []) (at + 1)
    stand in
    let n = opens_from {mode = mode} {frames = frames} s0 (ap (λ (s : State). s.mode) is_placed)
    (ap (λ (s : State). s.frames) is_placed ∙ starts.frames_are) terminals.CommentTemplate brackets.Text modes.Text refl
    refl (comment_inner mode) in
    let s1 = after s0 terminals.CommentTemplate in
    let t = pieces_told inside url_texts plains (frames ++ frame ∷ []) s1 (at + 1) place n.within n.word stands in
    record {
      end = after t.end terminals.CommentEnd;
      reads = follow
          (loud_step plains state at (written sorts.CommentTemplate spaced terminals.CommentTemplate)
          terminals.CommentTemplate starts.no_comment there (no_white plains state at starts.start here calm no_else)
          (by_template s0 plains at there.sort) one_of)
          (runs (join (reads t)
          (join (step plains t.end place (direct sorts.CommentEnd terminals.CommentEnd) terminals.CommentEnd t.within last
          refl (by_end t.end plains place last.sort) one_of) (stay_at e))));
      starts = end_starts frame t.end t.within.frames_are;
      calm = ap are_white (after_keeps t.end terminals.CommentEnd)
          ∙ passed_calm t.passed
          (ap are_white (after_keeps s0 terminals.CommentTemplate)
          ∙ placed_calm plains state at starts.start here calm no_else);
    }

-- ---- what stands behind comments

-- behind a comment the walk over comments goes on
pub comment_over : {tokens : List Written} → Comment tokens → (plains : List Plain) (at to : ℕ)
    → Stand plains at tokens to → code_from plains at ≡ code_from plains to
comment_over whole plains at to (there, e) =
    goes walks.Comments plains at 0 0 there.within (ap (λ (x : Sort). over_comment x 0) there.sort)
    ∙ ap (walk_from walks.Comments plains 0) e
comment_over (with_values {inner = inner} inside) plains at to (there, stand) =
    let (place, stands, (last, e)) = split plains to inner (direct sorts.CommentEnd terminals.CommentEnd ∷ []) (at + 1)
    stand in
    goes walks.Comments plains at 0 1 there.within (ap (λ (x : Sort). over_comment x 0) there.sort)
    ∙ (pieces refl inside).walks_over plains (at + 1) place stands
    ∙ goes walks.Comments plains place 1 0 last.within (ap (λ (x : Sort). over_comment x 1) last.sort)
    ∙ ap (walk_from walks.Comments plains 0) e

-- the last token of these is that of what stands behind
pub ends_over : (left : List Written) (before : Bool) (right : List Written)
    → ends_comment before (left ++ right) ≡ ends_comment (ends_comment before left) right
ends_over [] before right = refl
ends_over (one ∷ left) before right = ends_over left _ right

pub comment_ends : {tokens : List Written} → Comment tokens → (before : Bool) → ends_comment before tokens ≡ true
comment_ends whole before = refl
comment_ends (with_values {spaced} {inner} inside) before =
    ends_over inner true (direct sorts.CommentEnd terminals.CommentEnd ∷ [])
