-- The tokens of a loud comment, by their bytes.
use Rattle.std.proofs.Common.{◌≡◌, ◌<◌, ℕ, ◌+◌, Bool, true, false, not, ◌&&◌, ◌||◌, List, [], ◌∷◌, ◌++◌, length, refl, sym, ◌∙◌, ap, arith}
use Rattle.std.specs.Prelude.{◌==◌, nat_lt, codes}
use Rattle.std.proofs.lemmas.Bool.Decides.{nat_tests}
use Rattle.sw_text_scan.specs.declared.signs.TheConstants.{END}
use Rattle.sw_text_scan.specs.declared.runs.Class.TheVariants as classes
use Rattle.sw_text_scan.specs.Bytes.{sign, byte, opens_at, ends_loud}
use Rattle.sw_text_scan.specs.Runs.{next, run_end}
use Rattle.sw_text_scan.proofs.Bounds.{if_true, if_false, and_left, and_right, or_left, or_right, run_step, run_stop, not_true}
use Rattle.sw_tokens.specs.declared.pieces.Before.{Before}
use Rattle.sw_tokens.specs.declared.pieces.Change.TheVariants as changes
use Rattle.sw_tokens.specs.declared.skips.Inside.TheVariants as insides
use Rattle.sw_tokens.specs.declared.token.TokenKind.TheVariants as kinds
use Rattle.sw_tokens.specs.Pieces.{made, piece, code_piece, loud_piece, comment_piece}
use Rattle.sw_convert_spelling.proofs.MovedRuns.{run_moved, ends_moved}
use Rattle.sw_convert_spelling.proofs.Choices.{neither, right_no}
use Rattle.sw_convert_texts.specs.Comments.{ends_at, is_comment_text}

-- there a text in a comment ends
abbrev pub ends_there : List ℕ → ℕ → Bool
ends_there bs i = ends_loud bs i || (opens_at bs i || (byte bs i == END))

pub record Stops (after : List ℕ) : Type 0 where
  pub slash : (byte after 0 == sign "/") ≡ false
  pub brace : (byte after 0 == sign "{") ≡ false
  pub ends : ends_there after 0 ≡ true

pub end_stops : (after : List ℕ) → Stops (codes "*/" ++ after)
unfolding byte
end_stops after = record { slash = refl; brace = refl; ends = refl }

pub insert_stops : (after : List ℕ) → Stops (codes "#{" ++ after)
unfolding byte
insert_stops after = record { slash = refl; brace = refl; ends = refl }

-- a byte of it goes on, before further text and before what ends it
goes_on : (b : ℕ) (text after : List ℕ) → Stops after → is_comment_text (b ∷ text) ≡ true
    → ends_there (b ∷ (text ++ after)) 0 ≡ false
unfolding byte
goes_on b [] after stops told =
    let none = not_true (ends_at b []) (and_left (not (ends_at b [])) _ told) in
    neither _ _ (right_no (b == sign "*") _ stops.slash)
    (neither _ _ (right_no (b == sign "#") _ stops.brace)
    (or_right ((b == sign "#") && (byte [] 0 == sign "{")) (b == END)
    (or_right ((b == sign "*") && (byte [] 0 == sign "/")) _ none)))
goes_on b (c ∷ text) after stops told = not_true (ends_at b (c ∷ text)) (and_left (not (ends_at b (c ∷ text))) _ told)

pub comment_run : (text after : List ℕ) → is_comment_text text ≡ true → Stops after
    → run_end classes.Comment (text ++ after) 0 ≡ length text
comment_run [] after told stops =
    run_stop after classes.Comment 0
    (let e : next classes.Comment after 0 ≡ 0 = if_true (ends_there after 0) 0 (0 + 1) stops.ends in omega (arith, e))
comment_run (b ∷ text) after told stops =
    let goes : next classes.Comment (b ∷ (text ++ after)) 0 ≡ 1 =
    if_false (ends_there (b ∷ (text ++ after)) 0) 0 (0 + 1) (goes_on b text after stops told) in
    sym (run_step (b ∷ (text ++ after)) classes.Comment 0 (omega (arith, goes)))
    ∙ ap (run_end classes.Comment (b ∷ (text ++ after))) goes
    ∙ run_moved (b ∷ []) (text ++ after) classes.Comment 0
    ∙ ap (λ (n : ℕ). 1 + n) (comment_run text after (and_right (not (ends_at b text)) (is_comment_text text) told) stops)
    ∙ (let e : 1 + length text ≡ length (b ∷ text) = omega arith in e)

some_of : (n : ℕ) → 0 < n → nat_lt 0 n ≡ true
some_of n some = grind (arith, nat_tests)

-- ---- in a comment

pub piece_token : (b : ℕ) (text after : List ℕ) → is_comment_text (b ∷ text) ≡ true → Stops after → (before : Before)
    → piece ((b ∷ text) ++ after) insides.Comment before 0 ≡ made kinds.Piece (length (b ∷ text)) changes.Keep
unfolding comment_piece
piece_token b text after told stops before =
    let bs = b ∷ (text ++ after) in
    let run = comment_run (b ∷ text) after told stops in
    let goes = goes_on b text after stops told in
    if_false (ends_loud bs 0) _ _ (or_left (ends_loud bs 0) _ goes)
    ∙ if_false (opens_at bs 0) _ _ (or_left (opens_at bs 0) _ (or_right (ends_loud bs 0) _ goes))
    ∙ if_true (nat_lt 0 (run_end classes.Comment bs 0)) _ _
    (ap (nat_lt 0) run ∙ some_of (length (b ∷ text)) (let z : 0 < length (b ∷ text) = omega arith in z))
    ∙ ap (λ (n : ℕ). made kinds.Piece n changes.Keep) run

pub end_token : (after : List ℕ) (before : Before)
    → piece (codes "*/" ++ after) insides.Comment before 0 ≡ made kinds.CommentEnd 2 changes.Pop
unfolding comment_piece byte
end_token after before = refl

-- ---- its first token

loud_code : (rest : List ℕ) (before : Before)
    → piece (codes "/*" ++ rest) insides.Sheet before 0 ≡ loud_piece (codes "/*" ++ rest) 0
unfolding code_piece byte
loud_code rest before = refl

-- where the run from behind the `/*` on ends
opened_run : (text after : List ℕ) → is_comment_text text ≡ true → Stops after
    → run_end classes.Comment (codes "/*" ++ (text ++ after)) (0 + 2) ≡ 2 + length text
opened_run text after told stops =
    run_moved (codes "/*") (text ++ after) classes.Comment 0
    ∙ ap (λ (n : ℕ). 2 + n) (comment_run text after told stops)

there_ends : (text after : List ℕ)
    → ends_loud (codes "/*" ++ (text ++ after)) (2 + length text) ≡ ends_loud after 0
there_ends text after =
    ends_moved (codes "/*") (text ++ after) (length text)
    ∙ ap (ends_loud (text ++ after)) (let z : length text ≡ length text + 0 = omega arith in z)
    ∙ ends_moved text after 0

pub whole_token : (text after : List ℕ) → is_comment_text text ≡ true → (before : Before)
    → piece (codes "/*" ++ (text ++ (codes "*/" ++ after))) insides.Sheet before 0
    ≡ made kinds.Comment ((2 + length text) + 2) changes.Keep
unfolding loud_piece byte
whole_token text after told before =
    let bs = codes "/*" ++ (text ++ (codes "*/" ++ after)) in
    let run = opened_run text (codes "*/" ++ after) told (end_stops after) in
    loud_code (text ++ (codes "*/" ++ after)) before
    ∙ if_true (ends_loud bs (run_end classes.Comment bs (0 + 2))) _ _
    (ap (ends_loud bs) run ∙ there_ends text (codes "*/" ++ after))
    ∙ ap (λ (n : ℕ). made kinds.Comment (n + 2) changes.Keep) run

pub template_token : (text after : List ℕ) → is_comment_text text ≡ true → (before : Before)
    → piece (codes "/*" ++ (text ++ (codes "#{" ++ after))) insides.Sheet before 0
    ≡ made kinds.CommentTemplate 2 (changes.Push insides.Comment)
unfolding loud_piece byte
template_token text after told before =
    let bs = codes "/*" ++ (text ++ (codes "#{" ++ after)) in
    let run = opened_run text (codes "#{" ++ after) told (insert_stops after) in
    loud_code (text ++ (codes "#{" ++ after)) before
    ∙ if_false (ends_loud bs (run_end classes.Comment bs (0 + 2))) _ _
    (ap (ends_loud bs) run ∙ there_ends text (codes "#{" ++ after))
