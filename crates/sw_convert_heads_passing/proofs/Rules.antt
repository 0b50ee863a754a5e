-- Rules are told: those whose text begins with a sign, whatever stands behind it, and all others before a block.
use Rattle.std.proofs.Common.{◌≡◌, ℕ, ◌+◌, Bool, true, false, not, ◌&&◌, ◌||◌, List, [], ◌∷◌, ◌++◌, Option, Some, None, if◌then◌else◌, refl, sym, ◌∙◌, ap, subst}
use Rattle.sw_text_scan.proofs.Bounds.{if_false}
use Rattle.sw_parse_terminals.specs.declared.terminal.Terminal.{Terminal}
use Rattle.sw_parse_terminals.specs.declared.terminal.Terminal.TheVariants as terminals
use Rattle.sw_parse_terminals.specs.declared.lexeme.Lexeme.{Lexeme}
use Rattle.sw_parse_lexemes.specs.declared.sort.Sort.{Sort}
use Rattle.sw_parse_lexemes.specs.declared.sort.Sort.TheVariants as sorts
use Rattle.sw_parse_lexemes.specs.declared.plain.Plain.{Plain}
use Rattle.sw_parse_lexemes.specs.declared.state.Mode.{Mode}
use Rattle.sw_parse_lexemes.specs.declared.state.Mode.TheVariants as modes
use Rattle.sw_parse_lexemes.specs.declared.state.Bracket.{Bracket}
use Rattle.sw_parse_lexemes.specs.declared.state.Frame.{Frame}
use Rattle.sw_parse_lexemes.specs.declared.state.State.{State}
use Rattle.sw_parse_lexemes.specs.Classes.{same, is_name, is_reserved, is_comment}
use Rattle.sw_parse_lexemes.specs.Ahead.{sort_at, is_direct, begins_word}
use Rattle.sw_parse_lexemes.specs.Modes.{plain_mode, statement_mode}
use Rattle.sw_parse_lexemes.specs.Brackets.{innermost, is_outer}
use Rattle.sw_parse_lexemes.specs.Terminals.{terminal_of}
use Rattle.sw_parse_lexemes.specs.Steps.{opened_by, begins_statement, after_opening, placed, after}
use Rattle.sw_parse_lexemes.specs.Lexemes.{lexeme_of}
use Rattle.sw_convert_passing.specs.Written.{Written, Stand, Within, Among, Passed, token, begins, comment}
use Rattle.sw_convert_passing.specs.Places.{Told}
use Rattle.sw_convert_passing.specs.Heads.{Starts}
use Rattle.sw_convert_passing.proofs.Facts.{no_and}
use Rattle.sw_convert_passing.proofs.Steps.{Reads}
use Rattle.sw_convert_passing.proofs.Heads.{placed_as, placed_is}
use Rattle.sw_convert_heads_passing.specs.RawTexts.{RawText, Outside, AreBraces, precedes_text}
use Rattle.sw_convert_heads_passing.specs.Blocks.{open_sign}
use Rattle.sw_convert_heads_passing.specs.Rules.{begins_other, is_rule}
use Rattle.sw_convert_heads_passing.specs.Statements.{begins_rule}
use Rattle.sw_convert_heads_passing.proofs.RawTexts.{raw_texts_are_told}
use Rattle.sw_convert_heads_passing.proofs.Moves.{told_by}
use Rattle.sw_convert_heads_passing.proofs.Selectors.{rule_mode, first_is}

-- a state in which the statement has begun already
abbrev begun_at : State → State
begun_at state = record state { start = false }

same_opening : (state : State) (terminal : Terminal) (opening : Option Bracket)
    → after_opening (begun_at state) terminal opening ≡ after_opening state terminal opening
same_opening state terminal (Some kind) = refl
same_opening state terminal None = refl

same_after : (state : State) (terminal : Terminal) → after (begun_at state) terminal ≡ after state terminal
unfolding after
same_after state terminal = same_opening state terminal (opened_by terminal)

abbrev word_by : Bool → Sort → Bool
word_by inserted sort =
    if is_name sort then not (is_reserved sort) || inserted
    else (same sort sorts.OpenInsert || (same sort sorts.Minus && inserted))

plain_is : (plains : List Plain) (at : ℕ) → is_name (sort_at plains at) ≡ false → begins_word plains at ≡ false
    → plain_mode plains at ≡ modes.Raw
plain_is plains at n w =
    if_false (is_name (sort_at plains at) && is_direct plains (at + 1) sorts.Dot) _ _ (no_and _ _ n)
    ∙ if_false (begins_word plains at) _ modes.Raw w

rule_plain : (sort : Sort) → begins_rule sort ≡ true → (plains : List Plain) (at : ℕ) → sort_at plains at ≡ sort
    → (mode : Mode) → plain_mode plains at ≡ mode → statement_mode plains at ≡ mode
unfolding statement_mode
rule_plain sorts.Dot b plains at e mode p = rw (e, statement_mode) p
rule_plain sorts.Hash b plains at e mode p = rw (e, statement_mode) p
rule_plain sorts.Hex b plains at e mode p = rw (e, statement_mode) p
rule_plain sorts.Ampersand b plains at e mode p = rw (e, statement_mode) p
rule_plain sorts.Star b plains at e mode p = rw (e, statement_mode) p
rule_plain sorts.Percent b plains at e mode p = rw (e, statement_mode) p
rule_plain sorts.Greater b plains at e mode p = rw (e, statement_mode) p
rule_plain sorts.Colon b plains at e mode p = rw (e, statement_mode) p
rule_plain sorts.OpenBracket b plains at e mode p = rw (e, statement_mode) p
rule_plain _ b plains at e mode p = absurd (cc)

record Sign (sort : Sort) : Type 0 where
  named : is_name sort ≡ false
  word : (inserted : Bool) → word_by inserted sort ≡ false
  other : begins_other sort ≡ false

sign : (sort : Sort) → begins_rule sort ≡ true → Sign sort
sign sorts.Dot b = record { named = refl; word = λ inserted. refl; other = refl }
sign sorts.Hash b = record { named = refl; word = λ inserted. refl; other = refl }
sign sorts.Hex b = record { named = refl; word = λ inserted. refl; other = refl }
sign sorts.Ampersand b = record { named = refl; word = λ inserted. refl; other = refl }
sign sorts.Star b = record { named = refl; word = λ inserted. refl; other = refl }
sign sorts.Percent b = record { named = refl; word = λ inserted. refl; other = refl }
sign sorts.Greater b = record { named = refl; word = λ inserted. refl; other = refl }
sign sorts.Colon b = record { named = refl; word = λ inserted. refl; other = refl }
sign sorts.OpenBracket b = record { named = refl; word = λ inserted. refl; other = refl }
sign _ b = absurd (cc)

sign_mode : (sort : Sort) → begins_rule sort ≡ true → (plains : List Plain) (at : ℕ) → sort_at plains at ≡ sort
    → statement_mode plains at ≡ modes.Raw
sign_mode sort b plains at e =
    let inserted = is_direct plains (at + 1) sorts.OpenInsert in
    rule_plain sort b plains at e modes.Raw
    (plain_is plains at (ap is_name e ∙ (sign sort b).named) (ap (word_by inserted) e ∙ (sign sort b).word inserted))

-- but at-keywords, which begin statements, each token is told there as it is where a statement begins
same_terminal : (sort : Sort) → begins_other sort ≡ false → (state : State) (plains : List Plain) (at : ℕ)
    → sort_at plains at ≡ sort → terminal_of (begun_at state) plains at ≡ terminal_of state plains at
unfolding terminal_of
same_terminal sorts.At b state plains at e = absurd (cc)
same_terminal sorts.AtUse b state plains at e = absurd (cc)
same_terminal sorts.AtForward b state plains at e = absurd (cc)
same_terminal sorts.AtFunction b state plains at e = absurd (cc)
same_terminal sorts.AtMixin b state plains at e = absurd (cc)
same_terminal sorts.AtInclude b state plains at e = absurd (cc)
same_terminal sorts.AtContent b state plains at e = absurd (cc)
same_terminal sorts.AtReturn b state plains at e = absurd (cc)
same_terminal sorts.AtWarn b state plains at e = absurd (cc)
same_terminal sorts.AtDebug b state plains at e = absurd (cc)
same_terminal sorts.AtError b state plains at e = absurd (cc)
same_terminal sorts.AtIf b state plains at e = absurd (cc)
same_terminal sorts.AtElse b state plains at e = absurd (cc)
same_terminal sorts.AtElseIf b state plains at e = absurd (cc)
same_terminal sorts.AtEach b state plains at e = absurd (cc)
same_terminal sorts.AtFor b state plains at e = absurd (cc)
same_terminal sorts.AtWhile b state plains at e = absurd (cc)
same_terminal sorts.AtMedia b state plains at e = absurd (cc)
same_terminal sorts.AtSupports b state plains at e = absurd (cc)
same_terminal sorts.AtRoot b state plains at e = absurd (cc)
same_terminal sorts.AtCharset b state plains at e = absurd (cc)
same_terminal sorts.AtImport b state plains at e = absurd (cc)
same_terminal sorts.AtExtend b state plains at e = absurd (cc)
same_terminal sorts.AtName b state plains at e = absurd (cc)
same_terminal _ b state plains at e = rw (e, terminal_of) refl

other_code : (sort : Sort) → begins_other sort ≡ false → is_comment sort ≡ false
other_code sorts.Comment b = absurd (cc)
other_code sorts.CommentTemplate b = absurd (cc)
other_code _ b = refl

-- what is read where the statement has begun already is read the same where it begins
restart : {plains : List Plain} {begun end : State} {at to : ℕ} {one : Written} {rest : List Written}
    {lexemes : List Lexeme} → Passed plains begun at (one ∷ rest) lexemes end to → begun.start ≡ false
    → is_comment (sort_at plains at) ≡ false → (state : State) → state.start ≡ true → state.ignored ≡ 0
    → terminal_of begun plains at ≡ terminal_of (placed state plains at) plains at
    → ((terminal : Terminal) → after begun terminal ≡ after (placed state plains at) terminal)
    → Reads plains state at (one ∷ rest) end to
restart {plains} {end = end} {at = at} {to = to} (token {tokens = rest} {lexemes = lexemes} plain one is_plain code off
    ignored among p) b c state start free told same = (
      lexeme_of plain at (placed state plains at).commented (terminal_of (placed state plains at) plains at) ∷ lexemes,
      begins plain one is_plain c start free (subst (λ (t : Terminal). Among t one.may_be) told among)
          (subst (λ (s : State). Passed plains s (at + 1) rest lexemes end to) (same _ ∙ ap (after (placed state plains at)) told)
          p),
    )
restart (begins plain one is_plain code on ignored among p) b c state start free told same = absurd (cc)
restart (comment plain one none is_plain here off ignored p) b c state start free told same =
    absurd (true_no (sym (ap is_comment here) ∙ c))
  where
    true_no : true ≡ false → ⊥
    true_no e = absurd (cc)

begins_text : (before : Terminal) → begins_statement before ≡ true → precedes_text before ≡ true
begins_text terminals.Semicolon b = refl
begins_text terminals.Open b = refl
begins_text terminals.Close b = refl
begins_text terminals.CommentWhole b = refl
begins_text terminals.CommentEnd b = refl
begins_text _ b = absurd (cc)

-- raw text with which a statement begins that is read so
text_begins : (one : Written) (rest : List Written) → begins_other one.sort ≡ false
    → RawText modes.Raw Outside (one ∷ rest) → (plains : List Plain) (frames : List Frame) (state : State) (at to : ℕ)
    → AreBraces plains → is_outer (innermost frames) ≡ true → Starts frames state → Stand plains at (one ∷ rest) to
    → statement_mode plains at ≡ modes.Raw → Told plains modes.Raw frames state at (one ∷ rest) to
text_begins one rest b text plains frames state at to braces outer starts (there, stand) m =
    let s0 = placed_as state plains at modes.Raw in
    let s1 = begun_at s0 in
    let is_placed = placed_is state plains at modes.Raw starts.start m in
    let within : Within modes.Raw frames s1 = record {
      mode_is = refl;
      frames_are = starts.frames_are;
      no_start = refl;
      no_comment = starts.no_comment;
    } in
    let t = raw_texts_are_told modes.Raw Outside (one ∷ rest) text plains frames s1 at to refl braces within outer
    (record { before = begins_text state.before starts.before; word = no_and state.word _ starts.word }) (there, stand) in
    told_by t.told.end
    (restart t.told.passed refl (ap is_comment there.sort ∙ other_code one.sort b) state starts.start starts.no_comment
    (same_terminal one.sort b s0 plains at there.sort ∙ ap (λ (s : State). terminal_of s plains at) (sym is_placed))
    (λ terminal. same_after s0 terminal ∙ ap (λ (s : State). after s terminal) (sym is_placed))) t.told.within

pub rule_told : (one : Written) (rest : List Written) → begins_rule one.sort ≡ true
    → RawText modes.Raw Outside (one ∷ rest) → (plains : List Plain) (frames : List Frame) (state : State) (at to : ℕ)
    → AreBraces plains → is_outer (innermost frames) ≡ true → Starts frames state → Stand plains at (one ∷ rest) to
    → Told plains modes.Raw frames state at (one ∷ rest) to
rule_told one rest b text plains frames state at to braces outer starts stand =
    text_begins one rest (sign one.sort b).other text plains frames state at to braces outer starts stand
    (sign_mode one.sort b plains at stand.0.sort)

-- the same before a block, whatever it begins with
pub selector_told : (text : List Written) (spaced : Bool) → is_rule (text ++ open_sign spaced ∷ []) ≡ true
    → RawText modes.Raw Outside text → (plains : List Plain) (frames : List Frame) (state : State) (at to : ℕ)
    → AreBraces plains → is_outer (innermost frames) ≡ true → Starts frames state → Stand plains at text to
    → Stand plains at (text ++ open_sign spaced ∷ []) (to + 1) → Told plains modes.Raw frames state at text to
selector_told [] spaced r text plains frames state at to braces outer starts stand whole = absurd (cc)
selector_told (one ∷ []) spaced r text plains frames state at to braces outer starts stand whole =
    text_begins one [] (first_is one.sort one (open_sign spaced) [] r) text plains frames state at to braces outer starts
    stand (rule_mode plains at (to + 1) (one ∷ open_sign spaced ∷ []) whole r)
selector_told (one ∷ next ∷ rest) spaced r text plains frames state at to braces outer starts stand whole =
    text_begins one (next ∷ rest) (first_is one.sort one next (rest ++ open_sign spaced ∷ []) r) text plains frames state
    at to braces outer starts stand (rule_mode plains at (to + 1) (one ∷ next ∷ (rest ++ open_sign spaced ∷ [])) whole r)
