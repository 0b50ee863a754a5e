-- A `$` stands before the name of an argument where a `:` is behind it, and where something else comes it doesn't.
use Rattle.std.proofs.Common.{◌≡◌, ℕ, ◌+◌, Bool, true, false, not, ◌&&◌, if◌then◌else◌, List, [], ◌∷◌, inl, inr, refl, sym, ◌∙◌, ap, subst, arith}
use Rattle.sw_parse_terminals.specs.declared.lexeme.Lexeme.{Lexeme}
use Rattle.sw_parse_terminals.specs.declared.terminal.Terminal.{Terminal}
use Rattle.sw_parse_terminals.specs.declared.terminal.Terminal.TheVariants as terminals
use Rattle.sw_parse_lexemes.specs.declared.sort.Sort.{Sort}
use Rattle.sw_parse_lexemes.specs.declared.sort.Sort.TheVariants as sorts
use Rattle.sw_parse_lexemes.specs.declared.plain.Plain.{Plain}
use Rattle.sw_parse_lexemes.specs.declared.state.State.{State}
use Rattle.sw_parse_lexemes.specs.Ahead.{sort_at, spaced_at, name_direct, code_from}
use Rattle.sw_parse_lexemes.specs.declared.state.Mode.{Mode}
use Rattle.sw_parse_lexemes.specs.declared.state.Mode.TheVariants as modes
use Rattle.sw_parse_lexemes.specs.Classes.{is_name, same}
use Rattle.sw_parse_lexemes.specs.Names.{is, is_raw}
use Rattle.sw_parse_lexemes.specs.Signs.{is_text, is_behind_rest}
use Rattle.sw_parse_lexemes.specs.Steps.{further_mode, after, placed}
use Rattle.sw_parse_lexemes.specs.Terminals.{terminal_of}
use Rattle.sw_convert_passing.specs.Written.{Written, written, direct, Among, Stand, Passed, token, begins, comment}
use Rattle.sw_convert_passing.specs.Values.{stays_behind, no_colon, Settles, settled_end, settled_same, settled_dollar, settled_named}
use Rattle.sw_convert_passing.proofs.Walks.{is_code, code_stays, code_further}

-- ---- a `$` is told by what stands behind its name

record Unnamed (terminal : Terminal) : Type 0 where
  no : terminal ≡ terminals.DollarNamed → ⊥

abbrev is_named : Terminal → Bool
is_named terminals.DollarNamed = true
is_named _ = false

other : (terminal : Terminal) → is_named terminal ≡ false → Unnamed terminal
other terminal e =
    record { no = λ f. let wrong : true ≡ false = sym (ap is_named f) ∙ e in cc }

either : (b : Bool) (x y : Terminal) → Unnamed x → Unnamed y → Unnamed (if b then x else y)
either true x y p q = p
either false x y p q = q

abbrev is_white : Sort → Bool
is_white sorts.Comment = true
is_white _ = false

dark_code : (sort : Sort) (rest : Bool) → stays_behind sort rest ≡ true → is_white sort ≡ false
    → (is_code sort ≡ true) × (same sort sorts.Colon ≡ false)
dark_code sorts.Comment rest e other_is = absurd (cc)
dark_code sorts.CommentTemplate rest e other_is = absurd (cc)
dark_code sorts.CommentEnd rest e other_is = absurd (cc)
dark_code sorts.Colon rest e other_is = absurd (cc)
dark_code _ rest e other_is = (refl, refl)

white_further : (sort : Sort) (rest : Bool) → stays_behind sort rest ≡ true → is_white sort ≡ true
    → (sort ≡ sorts.Comment) × (rest ≡ true)
white_further sorts.Comment rest e is = (refl, e)
white_further _ rest e is = absurd (cc)

module _ (plains : List Plain) where
  unnamed : (state : State) (at : ℕ) → sort_at plains at ≡ sorts.Dollar
      → same (sort_at plains (code_from plains (at + 2))) sorts.Colon ≡ false → Unnamed (terminal_of state plains at)
  unfolding terminal_of
  unnamed state at e colon = rw (e, terminal_of)
      (either (is_raw state.mode) terminals.Raw _ (other terminals.Raw refl)
      (either (is state.before terminals.OwnerDot && not (spaced_at plains at)) terminals.OwnerDollar _
      (other terminals.OwnerDollar refl)
      (either (is_text state.mode) _ _
      (either (name_direct plains (at + 1)) terminals.Dollar terminals.Raw (other terminals.Dollar refl)
      (other terminals.Raw refl))
      (either (is_behind_rest state) terminals.Other _ (other terminals.Other refl)
      (last (same (sort_at plains (code_from plains (at + 2))) sorts.Colon) colon)))))
    where
      last : (b : Bool) → b ≡ false → Unnamed (if b then terminals.DollarNamed else terminals.Dollar)
      last true c = absurd (cc)
      last false c = other terminals.Dollar refl

  -- no `:` comes there
  none_comes : (rest : List Written) (at to : ℕ) → no_colon rest ≡ true → Stand plains at rest to
      → same (sort_at plains (code_from plains at)) sorts.Colon ≡ false
  none_comes [] at to e stand = absurd (cc)
  none_comes (next ∷ rest) at to e (there, stand) =
      go (is_white next.sort) refl (λ f. none_comes rest (at + 1) to f stand)
    where
      go : (t : Bool) → is_white next.sort ≡ t
          → (no_colon rest ≡ true → same (sort_at plains (code_from plains (at + 1))) sorts.Colon ≡ false)
          → same (sort_at plains (code_from plains at)) sorts.Colon ≡ false
      go true t more =
          let (white, further) = white_further next.sort (no_colon rest) e t in
          ap (λ (n : ℕ). same (sort_at plains n) sorts.Colon) (code_further plains at (there.sort ∙ white) there.within)
          ∙ more further
      go false t more =
          let (code, dark) = dark_code next.sort (no_colon rest) e t in
          ap (λ (n : ℕ). same (sort_at plains n) sorts.Colon) (code_stays plains at (ap is_code there.sort ∙ code))
          ∙ ap (λ (s : Sort). same s sorts.Colon) there.sort ∙ dark

  none_there : (at to : ℕ) (rest : List Written) → no_colon rest ≡ true → Stand plains ((at + 1) + 1) rest to
      → same (sort_at plains (code_from plains (at + 2))) sorts.Colon ≡ false
  none_there at to rest e stand =
      ap (λ (n : ℕ). same (sort_at plains (code_from plains n)) sorts.Colon) (let place : at + 2 ≡ (at + 1) + 1 = omega arith in place)
      ∙ none_comes rest ((at + 1) + 1) to e stand

  only : (terminal : Terminal) → Unnamed terminal → Among terminal (terminals.Dollar ∷ terminals.DollarNamed ∷ [])
      → Among terminal (terminals.Dollar ∷ [])
  only terminal u (inl e) = inl e
  only terminal u (inr (inl e)) = absurd (u.no e)
  only terminal u (inr (inr e)) = absurd e

  -- where a `:` stands it is none in a text, and the `$` before is that of a name
  colon_here : (at : ℕ) → sort_at plains ((at + 1) + 1) ≡ sorts.Colon
      → same (sort_at plains (code_from plains (at + 2))) sorts.Colon ≡ true
  colon_here at there =
      let place : (at + 1) + 1 ≡ at + 2 = omega arith in
      let sort : sort_at plains (at + 2) ≡ sorts.Colon = ap (sort_at plains) (sym place) ∙ there in
      ap (λ (n : ℕ). same (sort_at plains n) sorts.Colon) (code_stays plains (at + 2) (ap is_code sort))
      ∙ ap (λ (s : Sort). same s sorts.Colon) sort

  abbrev NoDollar : Terminal → Type 0
  NoDollar terminal = terminal ≡ terminals.Dollar → ⊥

  not_dollar : (state : State) (at : ℕ) → sort_at plains at ≡ sorts.Dollar → is_text state.mode ≡ false
      → same (sort_at plains (code_from plains (at + 2))) sorts.Colon ≡ true → NoDollar (terminal_of state plains at)
  unfolding terminal_of
  not_dollar state at e no_text colon = rw (e, terminal_of)
      (choose (is_raw state.mode) terminals.Raw _ (λ f. cc)
      (choose (is state.before terminals.OwnerDot && not (spaced_at plains at)) terminals.OwnerDollar _ (λ f. cc)
      (skipped (is_text state.mode) _ _ no_text
      (choose (is_behind_rest state) terminals.Other _ (λ f. cc)
      (taken (same (sort_at plains (code_from plains (at + 2))) sorts.Colon) colon)))))
    where
      choose : (b : Bool) (x y : Terminal) → NoDollar x → NoDollar y → NoDollar (if b then x else y)
      choose true x y p q = p
      choose false x y p q = q

      skipped : (b : Bool) (x y : Terminal) → b ≡ false → NoDollar y → NoDollar (if b then x else y)
      skipped true x y e q = absurd (cc)
      skipped false x y e q = q

      taken : (b : Bool) → b ≡ true → NoDollar (if b then terminals.DollarNamed else terminals.Dollar)
      taken true e = λ f. cc
      taken false e = absurd (cc)

  text_same : (mode : Mode) → is_text (further_mode mode terminals.VariableName) ≡ is_text mode
  text_same modes.Each = refl
  text_same modes.For = refl
  text_same modes.Else = refl
  text_same modes.CustomName = refl
  text_same _ = refl

  dollar_same : (mode : Mode) (terminal : Terminal) → Among terminal (terminals.Dollar ∷ terminals.DollarNamed ∷ [])
      → is_text (further_mode mode terminal) ≡ is_text mode
  dollar_same mode terminal (inl e) = ap (λ (t : Terminal). is_text (further_mode mode t)) e ∙ first mode
    where
      first : (mode : Mode) → is_text (further_mode mode terminals.Dollar) ≡ is_text mode
      first modes.Each = refl
      first modes.For = refl
      first modes.Else = refl
      first modes.CustomName = refl
      first _ = refl
  dollar_same mode terminal (inr (inl e)) = ap (λ (t : Terminal). is_text (further_mode mode t)) e ∙ first mode
    where
      first : (mode : Mode) → is_text (further_mode mode terminals.DollarNamed) ≡ is_text mode
      first modes.Each = refl
      first modes.For = refl
      first modes.Else = refl
      first modes.CustomName = refl
      first _ = refl
  dollar_same mode terminal (inr (inr e)) = absurd e

  -- the mode behind a `$` or a name, where no statement begins
  record Behind (state : State) (terminal : Terminal) : Type 0 where
    mode : (after state terminal).mode ≡ further_mode state.mode terminal
    start : (after state terminal).start ≡ false

  name_behind : (state : State) (terminal : Terminal) → Among terminal (terminals.VariableName ∷ []) → Behind state terminal
  unfolding after
  name_behind state terminal (inl e) = subst (Behind state) (sym e) (record { mode = refl; start = refl })
  name_behind state terminal (inr e) = absurd e

  dollar_behind : (state : State) (terminal : Terminal) → Among terminal (terminals.Dollar ∷ terminals.DollarNamed ∷ [])
      → Behind state terminal
  unfolding after
  dollar_behind state terminal (inl e) = subst (Behind state) (sym e) (record { mode = refl; start = refl })
  dollar_behind state terminal (inr (inl e)) = subst (Behind state) (sym e) (record { mode = refl; start = refl })
  dollar_behind state terminal (inr (inr e)) = absurd e

  no_text_colon : (state : State) (at : ℕ) → sort_at plains at ≡ sorts.Colon
      → Among (terminal_of state plains at) (terminals.Colon ∷ []) → is_text state.mode ≡ false
  unfolding terminal_of
  no_text_colon state at e (inl t) = go (is_text state.mode) refl (sym (told e) ∙ t)
    where
      told : sort_at plains at ≡ sorts.Colon
          → terminal_of state plains at ≡ (if is_text state.mode then terminals.Raw else terminals.Colon)
      told e = rw (e, terminal_of) refl

      go : (b : Bool) → is_text state.mode ≡ b → (if b then terminals.Raw else terminals.Colon) ≡ terminals.Colon
          → is_text state.mode ≡ false
      go true e f = absurd (cc)
      go false e f = e
  no_text_colon state at e (inr t) = absurd t

  name_code : (sort : Sort) → is_name sort ≡ true → sort ≡ sorts.Comment → ⊥
  name_code sort n e = let wrong : true ≡ false = sym n ∙ ap is_name e in cc

  colon_code : (sort : Sort) → sort ≡ sorts.Colon → sort ≡ sorts.Comment → ⊥
  colon_code sort n e = let wrong : true ≡ false = ap (λ (s : Sort). same s sorts.Colon) (sym n ∙ e) in cc

  starts_no : {t : Bool} → t ≡ false → t ≡ true → ⊥
  starts_no e f = cc

  -- a name and a `:` that was passed as one stand in no text
  no_text : {state end : State} {at to : ℕ} {lexemes : List Lexeme} {rest : List Written} → (name : Sort)
      → is_name name ≡ true
      → Passed plains state at (direct name terminals.VariableName ∷ direct sorts.Colon terminals.Colon ∷ rest) lexemes end to
      → Stand plains at (direct name terminals.VariableName ∷ direct sorts.Colon terminals.Colon ∷ rest) to
      → state.start ≡ false → is_text state.mode ≡ false
  no_text {state = state} {at = at} name n (token _ _ _ _ _ _ kind (token _ _ _ _ _ _ colon _)) (there, (next, _)) start =
      let behind = name_behind state (terminal_of state plains at) kind in
      sym (text_same_of state at kind) ∙ ap is_text (sym behind.mode)
      ∙ no_text_colon (after state (terminal_of state plains at)) (at + 1) next.sort colon
    where
      text_same_of : (state : State) (at : ℕ) → Among (terminal_of state plains at) (terminals.VariableName ∷ [])
          → is_text (further_mode state.mode (terminal_of state plains at)) ≡ is_text state.mode
      text_same_of state at (inl e) =
          ap (λ (t : Terminal). is_text (further_mode state.mode t)) e ∙ text_same state.mode
      text_same_of state at (inr e) = absurd e
  no_text {state = state} {at = at} name n (token _ _ _ _ _ _ kind (begins _ _ _ _ begun _ _ _)) stand start =
      absurd (starts_no (name_behind state (terminal_of state plains at) kind).start begun)
  no_text name n (token _ _ _ _ _ _ kind (comment _ _ _ _ white _ _ _)) (there, (next, _)) start =
      absurd (colon_code _ next.sort white)
  no_text name n (begins _ _ _ _ begun _ _ _) stand start = absurd (starts_no start begun)
  no_text name n (comment _ _ _ _ white _ _ _) (there, _) start = absurd (name_code _ n (sym there.sort ∙ white))

  named_only : (terminal : Terminal) → NoDollar terminal → Among terminal (terminals.Dollar ∷ terminals.DollarNamed ∷ [])
      → Among terminal (terminals.DollarNamed ∷ [])
  named_only terminal u (inl e) = absurd (u e)
  named_only terminal u (inr (inl e)) = inl e
  named_only terminal u (inr (inr e)) = absurd e

  -- the `$` before them
  named_here : (state : State) (at : ℕ) → sort_at plains at ≡ sorts.Dollar
      → (kind : Among (terminal_of state plains at) (terminals.Dollar ∷ terminals.DollarNamed ∷ []))
      → {end : State} {to : ℕ} {lexemes : List Lexeme} {rest : List Written} → (name : Sort) → is_name name ≡ true
      → Passed plains (after state (terminal_of state plains at)) (at + 1)
      (direct name terminals.VariableName ∷ direct sorts.Colon terminals.Colon ∷ rest) lexemes end to
      → Stand plains (at + 1) (direct name terminals.VariableName ∷ direct sorts.Colon terminals.Colon ∷ rest) to
      → Among (terminal_of state plains at) (terminals.DollarNamed ∷ [])
  named_here state at e kind name n more stand =
      let behind = dollar_behind state (terminal_of state plains at) kind in
      named_only (terminal_of state plains at)
      (not_dollar state at e
      (sym (dollar_same state.mode (terminal_of state plains at) kind) ∙ ap is_text (sym behind.mode)
      ∙ no_text name n more stand behind.start)
      (colon_here at stand.1.0.sort)) kind

  pub settle : {ws vs : List Written} → Settles ws vs → {state end : State} {at to : ℕ} {lexemes : List Lexeme}
      → Passed plains state at ws lexemes end to → Stand plains at ws to → Passed plains state at vs lexemes end to
  settle settled_end passed stand = passed
  settle (settled_same one s) (token plain _ got code start ignored kind more) (there, stand) =
      token plain one got code start ignored kind (settle s more stand)
  settle (settled_same one s) (begins plain _ got code start ignored kind more) (there, stand) =
      begins plain one got code start ignored kind (settle s more stand)
  settle (settled_same one s) (comment plain _ none got white start ignored more) (there, stand) =
      comment plain one none got white start ignored (settle s more stand)
  settle (settled_dollar {spaced = spaced} {rest = rest} name e s) {state = state} {at = at} {to = to}
      (token plain _ got code start ignored kind more) (there, stand) =
      token plain (written sorts.Dollar spaced terminals.Dollar) got code start ignored
      (only (terminal_of state plains at) (unnamed state at there.sort (none_there at to rest e stand.1)) kind)
      (settle s more stand)
  settle (settled_dollar {spaced = spaced} {rest = rest} name e s) {state = state} {at = at} {to = to}
      (begins plain _ got code start ignored kind more) (there, stand) =
      begins plain (written sorts.Dollar spaced terminals.Dollar) got code start ignored
      (only (terminal_of (placed state plains at) plains at)
      (unnamed (placed state plains at) at there.sort (none_there at to rest e stand.1)) kind)
      (settle s more stand)
  settle (settled_named {spaced = spaced} name n s) {state = state} {at = at}
      (token plain _ got code start ignored kind more) (there, stand) =
      token plain (written sorts.Dollar spaced terminals.DollarNamed) got code start ignored
      (named_here state at there.sort kind name n more stand) (settle s more stand)
  settle (settled_named {spaced = spaced} name n s) {state = state} {at = at}
      (begins plain _ got code start ignored kind more) (there, stand) =
      begins plain (written sorts.Dollar spaced terminals.DollarNamed) got code start ignored
      (named_here (placed state plains at) at there.sort kind name n more stand) (settle s more stand)
  settle (settled_named name n s) (comment plain _ none got white start ignored more) (there, stand) =
      absurd (let wrong : sorts.Dollar ≡ sorts.Comment = sym there.sort ∙ white in dollar_code wrong)
    where
      dollar_code : sorts.Dollar ≡ sorts.Comment → ⊥
      dollar_code e = cc
  settle (settled_dollar name e s) (comment plain _ none got white start ignored more) (there, stand) =
      absurd (let wrong : sorts.Dollar ≡ sorts.Comment = sym there.sort ∙ white in no_dollar wrong)
    where
      no_dollar : sorts.Dollar ≡ sorts.Comment → ⊥
      no_dollar e = cc

  -- they stand at the same places
  pub stand_loose : {ws vs : List Written} → Settles ws vs → (at to : ℕ) → Stand plains at vs to → Stand plains at ws to
  stand_loose settled_end at to stand = stand
  stand_loose (settled_same one s) at to (there, stand) = (there, stand_loose s (at + 1) to stand)
  stand_loose (settled_dollar name e s) at to (there, stand) =
      (record { within = there.within; sort = there.sort; spaced = there.spaced }, stand_loose s (at + 1) to stand)
  stand_loose (settled_named name n s) at to (there, stand) =
      (record { within = there.within; sort = there.sort; spaced = there.spaced }, stand_loose s (at + 1) to stand)
