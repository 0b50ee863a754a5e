-- Whole sheets of statements are told.
use Rattle.std.proofs.Common.{◌≡◌, ℕ, ◌-◌, false, List, [], ◌∷◌, ◌++◌, length, None, slice_get, refl, sym, ◌∙◌, ap, subst, arith}
use Rattle.std.proofs.Math.Seq.{drop-length}
use Rattle.std.proofs.lemmas.List.{append-nil}
use Rattle.sw_parse_terminals.specs.declared.lexeme.Lexeme.{Lexeme}
use Rattle.sw_parse_lexemes.specs.declared.sort.Sort.TheVariants as sorts
use Rattle.sw_parse_lexemes.specs.declared.plain.Plain.{Plain}
use Rattle.sw_parse_lexemes.specs.declared.state.Walk.TheVariants as walks
use Rattle.sw_parse_lexemes.specs.declared.state.State.{State}
use Rattle.sw_parse_lexemes.specs.Classes.{is_else}
use Rattle.sw_parse_lexemes.specs.Ahead.{sort_in, sort_at, walk_by, walk_from, code_from}
use Rattle.sw_parse_lexemes.specs.Plains.{plains_of}
use Rattle.sw_parse_lexemes.specs.Lexemes.{lexemes_from, lexemes_by, lexemes_of, lexeme_of, beginning}
use Rattle.sw_parse_lexemes.specs.Terminals.{terminal_of}
use Rattle.sw_parse_lexemes.specs.Steps.{placed}
use Rattle.sw_convert_passing.specs.Written.{Written, Stand, Passed, nothing, token, begins, comment}
use Rattle.sw_convert_passing.proofs.Entries.{split}
use Rattle.sw_convert_heads_passing.specs.Comments.{Run, passed, loud, joined}
use Rattle.sw_convert_heads_passing.specs.Sheets.{Seen, nothing_seen, seen, unseen, SheetsAreTold}
use Rattle.sw_convert_heads_passing.proofs.Loud.{runs_are_seen}
use Rattle.sw_convert_heads_passing.proofs.Statements.{statements_are_told}

seen_of : {plains : List Plain} {state end : State} {at to : ℕ} {tokens : List Written} {lexemes : List Lexeme}
    → Passed plains state at tokens lexemes end to → Stand plains at tokens to → Seen at tokens lexemes
seen_of nothing e = nothing_seen
seen_of {plains} (token {state} {at = at} plain one is_plain code start ignored among p) (there, stand) =
    seen one (lexeme_of plain at state.commented (terminal_of state plains at)) refl among (seen_of p stand)
seen_of {plains} (begins {state} {at = at} plain one is_plain code start ignored among p) (there, stand) =
    seen one (lexeme_of plain at (placed state plains at).commented (terminal_of (placed state plains at) plains at)) refl
    among (seen_of p stand)
seen_of (comment plain one none is_plain here start ignored p) (there, stand) =
    unseen one (sym there.sort ∙ here) (seen_of p stand)

passed_to : {plains : List Plain} {state end : State} {at to : ℕ} {tokens : List Written} {lexemes : List Lexeme}
    → Passed plains state at tokens lexemes end to → (place : ℕ) → Stand plains at tokens place → place ≡ to
passed_to nothing place e = sym e
passed_to (token plain one is_plain code start ignored among p) place (there, stand) = passed_to p place stand
passed_to (begins plain one is_plain code start ignored among p) place (there, stand) = passed_to p place stand
passed_to (comment plain one none is_plain here start ignored p) place (there, stand) = passed_to p place stand

run_to : {plains : List Plain} {state end : State} {at to : ℕ} {tokens : List Written} {lexemes : List Lexeme}
    → Run plains state at tokens lexemes end to → (place : ℕ) → Stand plains at tokens place → place ≡ to
run_to (passed p) place stand = passed_to p place stand
run_to (loud plain one is_plain ignored w among) place (there, e) = sym e
run_to {plains} {at = at} (joined {place = middle} {to} {tokens} {others} r q) place stand =
    let (found, first, second) = split plains place tokens others at stand in
    run_to q place (subst (λ (k : ℕ). Stand plains k others place) (run_to r found first) second)

seen_both : {at : ℕ} {tokens others : List Written} {lexemes more : List Lexeme} (plains : List Plain) (place : ℕ)
    → Seen at tokens lexemes → Stand plains at tokens place → Seen place others more
    → Seen at (tokens ++ others) (lexemes ++ more)
seen_both {others = others} {more = more} plains place nothing_seen e rest =
    subst (λ (k : ℕ). Seen k others more) (sym e) rest
seen_both plains place (seen one lexeme is among s) (there, stand) rest =
    seen one lexeme is among (seen_both plains place s stand rest)
seen_both plains place (unseen one is s) (there, stand) rest = unseen one is (seen_both plains place s stand rest)

run_seen_of : {plains : List Plain} {state end : State} {at to : ℕ} {tokens : List Written} {lexemes : List Lexeme}
    → Run plains state at tokens lexemes end to → Stand plains at tokens to → Seen at tokens lexemes
run_seen_of (passed p) stand = seen_of p stand
run_seen_of {plains} {state} {at = at} (loud plain one is_plain ignored w among) stand =
    seen one (lexeme_of plain at (placed state plains at).commented (terminal_of (placed state plains at) plains at)) refl
    among nothing_seen
run_seen_of {plains} {at = at} {to = to} (joined {place = place} {tokens = tokens} {others = others} r q) stand =
    let (found, first, second) = split plains to tokens others at stand in
    let e = run_to r found first in
    let front = subst (λ (k : ℕ). Stand plains at tokens k) e first in
    seen_both plains place (run_seen_of r front) front
    (run_seen_of q (subst (λ (k : ℕ). Stand plains k others to) e second))

pub no_more : (plains : List Plain) (state : State) → lexemes_by plains state (length plains) ≡ []
no_more plains state = ap (lexemes_from plains state (length plains)) (drop-length plains)

-- behind all tokens stands nothing
end_code : (plains : List Plain) → code_from plains (length plains) ≡ length plains
unfolding walk_from
end_code plains =
    ap (λ (n : ℕ). walk_by walks.Comments plains n 0 (length plains))
    (let z : length plains - length plains ≡ 0 = omega arith in z)

end_sort : (plains : List Plain) → sort_at plains (length plains) ≡ sorts.Other
unfolding sort_at
end_sort plains = ap sort_in (none plains)
  where
    none : (l : List Plain) → slice_get l (length l) ≡ None
    none [] = refl
    none (x ∷ l) = none l

pub no_else : (plains : List Plain) → is_else (sort_at plains (code_from plains (length plains))) ≡ false
no_else plains = ap (λ (k : ℕ). is_else (sort_at plains k)) (end_code plains) ∙ ap is_else (end_sort plains)

pub sheets_are_told : SheetsAreTold
unfolding lexemes_of
sheets_are_told bytes tokens first statements listed braces keywords stand =
    let plains = plains_of bytes tokens in
    let t = statements_are_told first statements listed plains [] beginning 0 (length plains) braces keywords
    refl (record { frames_are = refl; start = refl; no_comment = refl; word = refl; before = refl })
    (record { first = λ c. refl; last = λ c. no_else plains }) stand in
    let e = runs_are_seen plains beginning 0 statements t.lexemes t.end (length plains) t.run
    ∙ ap (λ (l : List Lexeme). t.lexemes ++ l) (no_more plains t.end) ∙ append-nil t.lexemes in
    subst (λ (l : List Lexeme). Seen 0 statements l) (sym e) (run_seen_of t.run stand)
