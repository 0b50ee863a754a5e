-- Where a statement begins, a name that `--` begins is no word and no namespace.
use Rattle.std.proofs.Common.{◌≡◌, ℕ, zero, suc, Bool, true, false, not, ◌&&◌, ◌||◌, if◌then◌else◌, List, [], ◌∷◌, Option, Some, None, refl, sym, ◌∙◌, ap, subst}
use Rattle.sw_parse_terminals.specs.declared.terminal.Terminal.{Terminal}
use Rattle.sw_parse_terminals.specs.declared.terminal.Terminal.TheVariants as terminals
use Rattle.sw_parse_terminals.specs.declared.lexeme.Lexeme.{Lexeme}
use Rattle.sw_parse_terminals.specs.Numbers.{number_of}
use Rattle.sw_parse_grammar.specs.Grammar.{member}
use Rattle.sw_parse_lexemes.specs.declared.plain.Plain.{Plain}
use Rattle.sw_parse_lexemes.specs.declared.sort.Sort.{Sort}
use Rattle.sw_parse_lexemes.specs.declared.sort.Sort.TheVariants as sorts
use Rattle.sw_parse_lexemes.specs.declared.state.Mode.{Mode}
use Rattle.sw_parse_lexemes.specs.declared.state.Mode.TheVariants as modes
use Rattle.sw_parse_lexemes.specs.declared.state.State.{State}
use Rattle.sw_parse_lexemes.specs.Ahead.{sort_at, spaced_at}
use Rattle.sw_parse_lexemes.specs.Classes.{is_name, same}
use Rattle.sw_parse_lexemes.specs.Laws.{EachBehind}
use Rattle.sw_parse_lexemes.specs.Lexemes.{lexeme_of}
use Rattle.sw_parse_lexemes.specs.Modes.{custom_mode, statement_mode}
use Rattle.sw_parse_lexemes.specs.Names.{is, is_raw, is_bang, is_apart, continues, behind_dollar, name_in, name_terminal}
use Rattle.sw_parse_lexemes.specs.Plains.{plains_of}
use Rattle.sw_parse_lexemes.specs.Sorts.{sort_of}
use Rattle.sw_parse_lexemes.specs.Steps.{begins_statement}
use Rattle.sw_parse_lexemes.specs.Terminals.{terminal_of}
use Rattle.sw_parse_lexemes.proofs.Knowing.{Placed, of_text}
use Rattle.sw_parse_lexemes.proofs.NameLaws.{name_there}
use Rattle.sw_parse_table.specs.declared.source.Source.{Source}
use Rattle.sw_parse_table.specs.Sources.{bytes, lexeme_at, terminal_at, terminal_in}
use Rattle.sw_convert_spelling.proofs.Choices.{by_test}
use Rattle.sw_convert_again.specs.Tokens.{Old}
use Rattle.sw_convert_again.specs.Statements.{is_last}
use Rattle.sw_convert_tokens.specs.Values.{WasRead}
use Rattle.sw_convert_tokens.proofs.Olds.{OldToken}
use Rattle.sw_convert_heads_passing.specs.Properties.{is_dashed}
use Rattle.sw_convert_values.specs.Values.{leads, leads_in, is_led}
use Rattle.sw_convert_values.proofs.Reserved.{first_law, next_law}
use Rattle.sw_convert_statements.specs.Starts.{begins_behind, starts, may_begin}

-- a word or a namespace
abbrev pub is_plain : Terminal → Bool
is_plain terminals.Word = true
is_plain terminals.Owner = true
is_plain _ = false

calm : (terminal : Terminal) → begins_statement terminal ≡ true → leads terminal ≡ false
calm terminals.OwnerDot e = absurd (cc)
calm terminals.Bang e = absurd (cc)
calm terminals.Ending e = absurd (cc)
calm _ e = refl

no_bang : (terminal : Terminal) → begins_statement terminal ≡ true → is_bang terminal ≡ false
no_bang terminals.Bang e = absurd (cc)
no_bang terminals.Ending e = absurd (cc)
no_bang _ e = refl

pub dashed_sort : (sort : Sort) → is_dashed sort ≡ true → sort ≡ sorts.DashedName
dashed_sort sorts.DashedName d = refl
dashed_sort _ d = absurd (cc)

-- ---- in any text

module _ (state : State) (plains : List Plain) (at : ℕ) where
  choice : (b : Bool) (x y : Terminal) → (b ≡ true → is_plain x ≡ false) → (b ≡ false → is_plain y ≡ false)
      → is_plain (if b then x else y) ≡ false
  choice true x y p q = p refl
  choice false x y p q = q refl

  -- a name with two `-` is text, or that of a custom property
  dashed_in : (t : Bool) → state.mode ≡ (if t then modes.CustomName else modes.Raw) → is_raw state.mode ≡ false
      → is_plain (name_in state plains at) ≡ false
  dashed_in true e r = rw e refl
  dashed_in false e r = absurd (let wrong : true ≡ false = sym (ap is_raw e) ∙ r in cc)

  dashed_no : (t : Bool) → state.mode ≡ (if t then modes.CustomName else modes.Raw) → is_bang state.before ≡ false
      → is_plain (name_terminal state plains at) ≡ false
  dashed_no t e quiet =
      choice (continues state plains at) _ _ (λ c. refl)
      (λ c. choice (is_raw state.mode) _ _ (λ r. refl)
      (λ r. choice (not (spaced_at plains at) && behind_dollar state.before) _ _ (λ v. refl)
      (λ v. choice (not (spaced_at plains at) && is state.before terminals.Hash) _ _ (λ h. refl)
      (λ h. choice (is_bang state.before) _ _ (λ b. absurd (let wrong : true ≡ false = sym b ∙ quiet in cc))
      (λ b. choice (is_apart state plains at) _ _ (λ a. refl) (λ a. dashed_in t e r))))))

  custom_cases : (P : Mode → Type 0) → ((t : Bool) → P (if t then modes.CustomName else modes.Raw)) → (colon : ℕ)
      → P (custom_mode plains colon)
  custom_cases P f colon = f (same (sort_at plains colon) sorts.Colon)

  -- the modes of a statement that it begins
  dashed_modes : (P : Mode → Type 0) → sort_at plains at ≡ sorts.DashedName
      → ((t : Bool) → P (if t then modes.CustomName else modes.Raw)) → P (statement_mode plains at)
  unfolding statement_mode
  dashed_modes P e f = rw (e, statement_mode) (custom_cases P f _)

record FirstIs (plains : List Plain) (before : Terminal) (lexeme : Lexeme) : Type 0 where
  undashed : begins_statement before ≡ true → is_plain lexeme.terminal ≡ true
      → is_dashed (sort_at plains lexeme.token) ≡ false

first_is : (plains : List Plain) (at : ℕ) (plain : Plain) (old new : State) → Placed plains at old new
    → FirstIs plains new.before (lexeme_of plain at new.commented (terminal_of new plains at))
first_is plains at plain old new there = record {
  undashed = λ b p.
      by_test (is_dashed (sort_at plains at) ≡ false) (is_dashed (sort_at plains at))
      (λ d. absurd (wrong b p (dashed_sort (sort_at plains at) d))) (λ d. d);
}
  where
    wrong : begins_statement new.before ≡ true → is_plain (terminal_of new plains at) ≡ true
        → sort_at plains at ≡ sorts.DashedName → ⊥
    wrong b p s =
        let no =
        dashed_modes new plains at (λ (m : Mode). new.mode ≡ m → is_plain (name_terminal new plains at) ≡ false) s
        (λ t e. dashed_no new plains at t e (no_bang new.before b)) (there.mode (there.known.start ∙ b)) in
        let fault : true ≡ false = sym p ∙ ap is_plain (name_there new plains at (ap is_name s)) ∙ no in cc

-- ---- in a sheet that was read

starts_calm : (source : Source) (i : ℕ) → starts source i ≡ true → is_led source i ≡ false
starts_calm source zero s = refl
starts_calm source (suc i) s = by (lexeme_at source i) s
  where
    by : (there : Option Lexeme) → begins_behind there ≡ true → leads_in there ≡ false
    by None e = absurd (cc)
    by (Some lexeme) e = calm lexeme.terminal e

-- no word and no namespace stands where no statement does
no_last : (terminal : Terminal) → is_plain terminal ≡ true
    → member (number_of terminal) (number_of terminals.Close ∷ 0 ∷ []) ≡ false
no_last terminals.Word p = refl
no_last terminals.Owner p = refl
no_last _ p = absurd (cc)

module _ (source : Source) {i : ℕ} {set : List ℕ} (old : Old source i set) (p : is_plain old.lexeme.terminal ≡ true) where
  begun : may_begin source i ≡ true → starts source i ≡ true
  unfolding terminal_at
  begun m =
      by (starts source i) m
      (ap (λ (n : ℕ). member n (number_of terminals.Close ∷ 0 ∷ [])) (ap terminal_in old.there) ∙ no_last old.lexeme.terminal p)
    where
      by : (s : Bool) → (s || is_last source i) ≡ true → is_last source i ≡ false → s ≡ true
      by true m e = refl
      by false m e = absurd (let wrong : true ≡ false = sym m ∙ e in cc)

  -- no `.` of a namespace and no `!` stands before it
  pub first_calm : may_begin source i ≡ true → is_led source i ≡ false
  first_calm m = starts_calm source i (begun m)

  -- and no `--` begins it
  pub first_undashed : WasRead source → (it : OldToken source i old.lexeme) → may_begin source i ≡ true
      → is_dashed (sort_of it.kind it.text) ≡ false
  first_undashed was it m = ap is_dashed (sym it.sort) ∙ by i (begun m) old.there
    where
      plains : List Plain
      plains = plains_of (bytes source) source.tokens.now.list

      each : EachBehind (FirstIs plains) terminals.Semicolon source.lexemes.now
      each =
          subst (λ (l : List Lexeme). EachBehind (FirstIs plains) terminals.Semicolon l) (sym was.lexemes)
          (of_text FirstIs first_is (bytes source) source.tokens.now.list)

      by : (k : ℕ) → starts source k ≡ true → lexeme_at source k ≡ Some old.lexeme
          → is_dashed (sort_at plains old.lexeme.token) ≡ false
      by zero s there =
          let law = first_law (FirstIs plains) terminals.Semicolon source.lexemes.now old.lexeme each there in
          law.undashed refl p
      by (suc k) s there =
          let (a, got, law) = next_law (FirstIs plains) terminals.Semicolon source.lexemes.now k old.lexeme each there in
          law.undashed (ap begins_behind (sym got) ∙ s) p
