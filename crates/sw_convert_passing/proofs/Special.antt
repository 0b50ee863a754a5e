-- Special functions, and their text.
use Rattle.std.proofs.Common.{◌≡◌, ℕ, ◌+◌, Bool, true, false, not, ◌&&◌, ◌||◌, inl, List, [], ◌∷◌, refl, ◌∙◌, ap, arith}
use Rattle.sw_parse_terminals.specs.declared.terminal.Terminal.{Terminal}
use Rattle.sw_parse_terminals.specs.declared.terminal.Terminal.TheVariants as terminals
use Rattle.sw_parse_lexemes.specs.declared.sort.Sort.{Sort}
use Rattle.sw_parse_lexemes.specs.declared.sort.Sort.TheVariants as sorts
use Rattle.sw_parse_lexemes.specs.declared.plain.Plain.{Plain}
use Rattle.sw_parse_lexemes.specs.declared.state.Mode.TheVariants as modes
use Rattle.sw_parse_lexemes.specs.declared.state.Frame.{Frame}
use Rattle.sw_parse_lexemes.specs.declared.state.State.{State}
use Rattle.sw_parse_lexemes.specs.Classes.{is_name, is_number, is_comment}
use Rattle.sw_parse_lexemes.specs.Ahead.{sort_at, spaced_at, number_direct}
use Rattle.sw_parse_lexemes.specs.Names.{behind_dollar, stays_text}
use Rattle.sw_parse_lexemes.specs.Names.{owns as owns_at}
use Rattle.sw_parse_lexemes.specs.Signs.{ends_operand, plus_signs, minus_signs}
use Rattle.sw_parse_lexemes.specs.Brackets.{innermost, is_outer, is_brace, is_inner}
use Rattle.sw_parse_lexemes.specs.Terminals.{terminal_of}
use Rattle.sw_parse_lexemes.specs.Steps.{begins_statement, in_word, passes, after, past_white}
use Rattle.sw_convert_passing.specs.Written.{Written, written, direct, IsThere, Among, Stand, Within}
use Rattle.sw_convert_passing.specs.Places.{Told}
use Rattle.sw_convert_passing.specs.Kinds.{is_raw, is_raw_sign, is_dot, is_dollar, is_paren, is_sign, is_plus_or_minus}
use Rattle.sw_convert_passing.specs.Values.{ahead, owns, is_raw_name, dollar_among, seam}
use Rattle.sw_convert_passing.proofs.Facts.{no_and, and_no, both, and_left, and_right, name_code, number_code}
use Rattle.sw_convert_passing.proofs.Steps.{Reads, join, step, stay_at, seam_step, seam_next, next}
use Rattle.sw_convert_passing.proofs.Tokens.{number_here, variable_name_here}
use Rattle.sw_convert_passing.proofs.SpecialTokens.{in_text, Loose, loose, raw_here, raw_sign_here, comma_in_text, dollar_in_text, raw_dollar_here, raw_plus_here, plus_sign_here, raw_minus_here, minus_sign_here, raw_name_here}
use Rattle.sw_convert_passing.proofs.Entries.{reads, one_of}
use Rattle.sw_convert_passing.proofs.Leaves.{never}

-- what ends a text
abbrev pub is_shut : Sort → Bool
is_shut sorts.CloseParen = true
is_shut sorts.CloseBracket = true
is_shut _ = false

-- the brackets round a text are brackets in it
pub record Inside (frames : List Frame) : Type 0 where
  pub outer : is_outer (innermost frames) ≡ false
  pub brace : is_brace (innermost frames) ≡ false
  pub inner : is_inner (innermost frames) ≡ true

abbrev pub IsInside : Bool → List Frame → Type 0
IsInside true frames = Inside frames
IsInside false frames = Unit {0}

pub record InText (ended : Bool) (state : State) : Type 0 where
  pub before : in_text state.before ≡ true
  pub word : state.word ≡ false
  pub operand : ends_operand state.before ≡ ended

abbrev pub IsSpecial : Bool → Bool → List Written → Type 0
IsSpecial inner ended tokens =
    (plains : List Plain) (frames : List Frame) (state : State) (at to : ℕ) → Within modes.Special frames state
    → IsInside inner frames → InText ended state → Stand plains at tokens to → is_shut (sort_at plains to) ≡ true
    → Told plains modes.Special frames state at tokens to

pub told_by : {plains : List Plain} {frames : List Frame} {state : State} {at to : ℕ} {tokens : List Written}
    (end : State)
    → Reads plains state at tokens end to → Within modes.Special frames end
    → Told plains modes.Special frames state at tokens to
told_by end (lexemes, passed) within = record { lexemes = lexemes; end = end; passed = passed; within = within }

pub text_end_told : (inner ended : Bool) → IsSpecial inner ended []
text_end_told inner ended plains frames state at to within inside before stand shut = told_by state (stay_at stand)
    within

-- what stands ahead
pub two : (at : ℕ) → at + 2 ≡ (at + 1) + 1
two at = omega arith

pub three : (at : ℕ) → at + 3 ≡ ((at + 1) + 1) + 1
three at = omega arith

abbrev Misses : (Sort → Bool) → Type 0
Misses test = (test sorts.CloseParen ≡ false) × (test sorts.CloseBracket ≡ false)

shut_misses : (test : Sort → Bool) → Misses test → (sort : Sort) → is_shut sort ≡ true → test sort ≡ false
shut_misses test (p, b) sorts.CloseParen s = p
shut_misses test (p, b) sorts.CloseBracket s = b
shut_misses test (p, b) _ s = absurd (cc)

abbrev direct_at : (Sort → Bool) → List Plain → ℕ → Bool
direct_at test plains at = not (spaced_at plains at) && test (sort_at plains at)

ahead_is : (test : Sort → Bool) → Misses test → (plains : List Plain) (at to : ℕ) (rest : List Written)
    → Stand plains at rest to
    → is_shut (sort_at plains to) ≡ true → direct_at test plains at ≡ ahead test 0 rest
ahead_is test misses plains at to [] stand shut =
    and_no (not (spaced_at plains at)) _
    (shut_misses test misses (sort_at plains at) (ap (λ (k : ℕ). is_shut (sort_at plains k)) stand ∙ shut))
ahead_is test misses plains at to (one ∷ rest) (there, stand) shut =
    ap (λ (b : Bool). not b && test (sort_at plains at)) there.spaced
    ∙ ap (λ (x : Sort). not one.spaced && test x) there.sort

first_no : (a b : Bool) → a ≡ false → (a && b) ≡ false
first_no a b e = no_and a b e

abbrev owning : Bool → Bool → Bool → Bool → Bool → Bool
owning a b c d e = a && ((b && c) || (d && e))

owning_no : (a b c d e : Bool) → b ≡ false → d ≡ false → owning a b c d e ≡ false
owning_no true true c d e p q = absurd (cc)
owning_no true false c true e p q = absurd (cc)
owning_no true false c false e p q = refl
owning_no false b c d e p q = refl

owned_ahead : (plains : List Plain) (at to : ℕ) (rest : List Written) → Stand plains (at + 1) rest to
    → is_shut (sort_at plains to) ≡ true → owns rest ≡ false → owns_at plains at ≡ false
owned_ahead plains at to [] stand shut o = no_and _ _ (ahead_is is_dot (refl, refl) plains (at + 1) to [] stand shut)
owned_ahead plains at to (x ∷ []) (there, stand) shut o =
    rw (two, three) (owning_no _ _ _ _ _
    (ahead_is is_dollar (refl, refl) plains ((at + 1) + 1) to [] stand shut)
    (ahead_is is_name (refl, refl) plains ((at + 1) + 1) to [] stand shut))
owned_ahead plains at to (x ∷ y ∷ rest) (there, stand) shut o =
    rw (two, three)
    (ap (λ (a : Bool). owning a (direct_at is_dollar plains ((at + 1) + 1))
    (direct_at is_name plains (((at + 1) + 1) + 1))
    (direct_at is_name plains ((at + 1) + 1)) (direct_at is_paren plains (((at + 1) + 1) + 1)))
    (ahead_is is_dot (refl, refl) plains (at + 1) to (x ∷ y ∷ rest) (there, stand) shut)
    ∙ ap (λ (b : Bool). owning (ahead is_dot 0 (x ∷ y ∷ rest)) b (direct_at is_name plains (((at + 1) + 1) + 1))
    (direct_at is_name plains ((at + 1) + 1)) (direct_at is_paren plains (((at + 1) + 1) + 1)))
    (ahead_is is_dollar (refl, refl) plains ((at + 1) + 1) to (y ∷ rest) stand shut)
    ∙ ap (λ (c : Bool). owning (ahead is_dot 0 (x ∷ y ∷ rest)) (ahead is_dollar 0 (y ∷ rest)) c
    (direct_at is_name plains ((at + 1) + 1)) (direct_at is_paren plains (((at + 1) + 1) + 1)))
    (ahead_is is_name (refl, refl) plains (((at + 1) + 1) + 1) to rest stand.1 shut)
    ∙ ap (λ (d : Bool). owning (ahead is_dot 0 (x ∷ y ∷ rest)) (ahead is_dollar 0 (y ∷ rest)) (ahead is_name 0 rest) d
    (direct_at is_paren plains (((at + 1) + 1) + 1)))
    (ahead_is is_name (refl, refl) plains ((at + 1) + 1) to (y ∷ rest) stand shut)
    ∙ ap (λ (e : Bool). owning (ahead is_dot 0 (x ∷ y ∷ rest)) (ahead is_dollar 0 (y ∷ rest)) (ahead is_name 0 rest)
    (ahead is_name 0 (y ∷ rest)) e)
    (ahead_is is_paren (refl, refl) plains (((at + 1) + 1) + 1) to rest stand.1 shut)
    ∙ o)

-- a terminal that is an item, or ends one
pub record Item (terminal : Terminal) (ended : Bool) : Type 0 where
  pub goes : passes terminal ≡ true
  pub begins : begins_statement terminal ≡ false
  pub before : in_text terminal ≡ true
  pub word : in_word terminal ≡ false
  pub operand : ends_operand terminal ≡ ended

raw_item : Item terminals.Raw false
raw_item = record { goes = refl; begins = refl; before = refl; word = refl; operand = refl }

pub behind_item : {state : State} {terminal : Terminal} {ended : Bool} → state.before ≡ terminal → state.word ≡ false
    → in_text terminal ≡ true → ends_operand terminal ≡ ended → InText ended state
behind_item e w i o = record { before = ap in_text e ∙ i; word = w; operand = ap ends_operand e ∙ o }

-- one token, and then the rest
module _ {plains : List Plain} {frames : List Frame} {at to : ℕ} (state : State)
    (within : Within modes.Special frames state) where
  pub one_then : (inner : Bool) {ended : Bool} (one : Written) (terminal : Terminal) (rest : List Written)
      → Item terminal ended
      → IsInside inner frames → IsThere plains at one → Stand plains (at + 1) rest to
      → is_shut (sort_at plains to) ≡ true
      → is_comment one.sort ≡ false → terminal_of state plains at ≡ terminal → Among terminal one.may_be
      → IsSpecial inner ended rest → Told plains modes.Special frames state at (one ∷ rest) to
  one_then inner one terminal rest item inside there stand shut code told among more =
      let n = next state within refl terminal item.goes item.begins in
      let t = more plains frames (after state terminal) (at + 1) to n.within inside
      (behind_item n.before (n.word ∙ item.word) item.before item.operand) stand shut in
      told_by t.end (join (step plains state at one terminal within there code told among) (reads t)) t.within

raw_code : (sort : Sort) → is_raw sort ≡ true → is_comment sort ≡ false
raw_code sorts.Comment r = absurd (cc)
raw_code sorts.CommentTemplate r = absurd (cc)
raw_code _ r = refl

raw_sign_code : (sort : Sort) → is_raw_sign sort ≡ true → is_comment sort ≡ false
raw_sign_code sorts.Comment r = absurd (cc)
raw_sign_code sorts.CommentTemplate r = absurd (cc)
raw_sign_code _ r = refl

sign_code : (sort : Sort) → is_plus_or_minus sort ≡ true → is_comment sort ≡ false
sign_code sorts.Plus r = refl
sign_code sorts.Minus r = refl
sign_code _ r = absurd (cc)

pub loose_in : {ended : Bool} {state : State} → InText ended state → Loose state.before
loose_in {ended} {state} before = loose state.before before.before

module _ (inner ended spaced : Bool) (rest : List Written) where
  pub text_token_told : (sort : Sort) → is_raw sort ≡ true → IsSpecial inner false rest
      → IsSpecial inner ended (written sort spaced terminals.Raw ∷ rest)
  text_token_told sort r more plains frames state at to within inside before (there, stand) shut =
      one_then state within inner (written sort spaced terminals.Raw) terminals.Raw rest raw_item inside there stand
      shut (raw_code sort r)
      (raw_here state within plains at sort r there.sort (loose_in before)) one_of more

  pub text_name_told : (sort : Sort) → is_name sort ≡ true → is_raw_name sort rest ≡ true → IsSpecial inner false rest
      → IsSpecial inner ended (written sort spaced terminals.Raw ∷ rest)
  text_name_told sort n r more plains frames state at to within inside before (there, stand) shut =
      one_then state within inner (written sort spaced terminals.Raw) terminals.Raw rest raw_item inside there stand
      shut (name_code sort n)
      (raw_name_here state within plains at (ap is_name there.sort ∙ n) before.word (loose_in before)
      (owned_ahead plains at to rest stand shut (not_true _ (and_left (not (owns rest)) _ r)))
      (ap (λ (b : Bool). b && not (stays_text (sort_at plains at)))
      (ahead_is is_paren (refl, refl) plains (at + 1) to rest stand shut)
      ∙ ap (λ (x : Sort). ahead is_paren 0 rest && not (stays_text x)) there.sort
      ∙ not_true _ (and_right (not (owns rest)) _ r))) one_of more
    where
      not_true : (b : Bool) → not b ≡ true → b ≡ false
      not_true true e = absurd (cc)
      not_true false e = refl

  pub text_dollar_told : ahead is_name 0 rest ≡ false → IsSpecial inner false rest
      → IsSpecial inner ended (written sorts.Dollar spaced terminals.Raw ∷ rest)
  text_dollar_told n more plains frames state at to within inside before (there, stand) shut =
      one_then state within inner (written sorts.Dollar spaced terminals.Raw) terminals.Raw rest raw_item inside
      there stand shut refl
      (raw_dollar_here state within plains at there.sort (loose_in before).owned
      (ahead_is is_name (refl, refl) plains (at + 1) to rest stand shut ∙ n)) one_of more

  -- whether a number makes a `+` or `-` its sign
  signs_plus : (plains : List Plain) (state : State) (at : ℕ) → InText ended state
      → plus_signs state plains at ≡ (number_direct plains (at + 1) && is_sign sorts.Plus spaced ended)
  signs_plus plains state at before = ap (λ (b : Bool). number_direct plains (at + 1) && not b) before.operand

  signs_minus : (plains : List Plain) (state : State) (at : ℕ) → InText ended state → spaced_at plains at ≡ spaced
      → minus_signs state plains at ≡ (number_direct plains (at + 1) && is_sign sorts.Minus spaced ended)
  signs_minus plains state at before s =
      ap (λ (b : Bool). number_direct plains (at + 1) && (b || not (ends_operand state.before))) s
      ∙ ap (λ (b : Bool). number_direct plains (at + 1) && (spaced || not b)) before.operand

  raw_sign : {frames : List Frame} (sort : Sort) (plains : List Plain) (state : State) (at : ℕ)
      → is_plus_or_minus sort ≡ true
      → Within modes.Special frames state → InText ended state → sort_at plains at ≡ sort → spaced_at plains at ≡ spaced
      → (number_direct plains (at + 1) && is_sign sort spaced ended) ≡ false
      → terminal_of state plains at ≡ terminals.Raw
  raw_sign sorts.Plus plains state at p within before e s n =
      raw_plus_here state within plains at e (signs_plus plains state at before ∙ n)
  raw_sign sorts.Minus plains state at p within before e s n =
      raw_minus_here state within plains at e before.word (loose_in before) (signs_minus plains state at before s ∙ n)
  raw_sign _ plains state at p within before e s n = absurd (cc)

  pub text_sign_told : (sort : Sort) → is_plus_or_minus sort ≡ true
      → (ahead is_number 0 rest && is_sign sort spaced ended) ≡ false → IsSpecial inner false rest
      → IsSpecial inner ended (written sort spaced terminals.Raw ∷ rest)
  text_sign_told sort p n more plains frames state at to within inside before (there, stand) shut =
      one_then state within inner (written sort spaced terminals.Raw) terminals.Raw rest raw_item inside there stand
      shut (sign_code sort p)
      (raw_sign sort plains state at p within before there.sort there.spaced
      (ap (λ (b : Bool). b && is_sign sort spaced ended)
      (ahead_is is_number (refl, refl) plains (at + 1) to rest stand shut) ∙ n))
      one_of more

  pub text_comma_told : IsSpecial inner false rest
      → IsSpecial inner ended (written sorts.Comma spaced terminals.SpecialComma ∷ rest)
  text_comma_told more plains frames state at to within inside before (there, stand) shut =
      one_then state within inner (written sorts.Comma spaced terminals.SpecialComma) terminals.SpecialComma rest
      (record { goes = refl; begins = refl; before = refl; word = refl; operand = refl }) inside there stand shut refl
      (comma_in_text state within plains at there.sort) one_of more

  pub text_number_told : (sort : Sort) → is_number sort ≡ true → IsSpecial inner true rest
      → IsSpecial inner ended (written sort spaced terminals.Number ∷ rest)
  text_number_told sort n more plains frames state at to within inside before (there, stand) shut =
      one_then state within inner (written sort spaced terminals.Number) terminals.Number rest
      (record { goes = refl; begins = refl; before = refl; word = refl; operand = refl }) inside there stand shut
      (number_code sort n)
      (number_here refl state within plains at sort n there.sort (never state plains at before.word)) one_of more

  signed_sign : {frames : List Frame} (sort : Sort) (plains : List Plain) (state : State) (at : ℕ)
      → is_sign sort spaced ended ≡ true
      → Within modes.Special frames state → InText ended state → sort_at plains at ≡ sort → spaced_at plains at ≡ spaced
      → number_direct plains (at + 1) ≡ true
      → (terminal_of state plains at ≡ terminals.Sign) × (is_comment sort ≡ false)
  signed_sign sorts.Plus plains state at p within before e s n = (
    plus_sign_here state within plains at e (signs_plus plains state at before ∙ both _ _ n p),
    refl,
  )
  signed_sign sorts.Minus plains state at p within before e s n = (
    minus_sign_here state within plains at e before.word (loose_in before)
        (signs_minus plains state at before s ∙ both _ _ n p),
    refl,
  )
  signed_sign _ plains state at p within before e s n = absurd (cc)

  pub text_signed_told : (sort number : Sort) → is_number number ≡ true → is_sign sort spaced ended ≡ true
      → IsSpecial inner true rest
      → IsSpecial inner ended (written sort spaced terminals.Sign ∷ direct number terminals.Number ∷ rest)
  text_signed_told sort number n p more plains frames state at to within inside before (there, (second, stand)) shut =
      let (told, code) = signed_sign sort plains state at p within before there.sort there.spaced
      (both _ _ (ap not second.spaced) (ap is_number second.sort ∙ n)) in
      let m = next state within refl terminals.Sign refl refl in
      let s1 = after state terminals.Sign in
      let t = one_then s1 m.within inner (direct number terminals.Number) terminals.Number rest
      (record { goes = refl; begins = refl; before = refl; word = refl; operand = refl }) inside second stand
      shut
      (number_code number n)
      (number_here refl s1 m.within plains (at + 1) number n second.sort (never s1 plains (at + 1) m.word))
      one_of more in
      told_by t.end
      (join (step plains state at (written sort spaced terminals.Sign) terminals.Sign within there code told
      one_of) (reads t))
      t.within

  pub text_variable_told : (others : List Terminal) (name : Sort) → is_name name ≡ true → IsSpecial inner true rest
      → IsSpecial inner ended (dollar_among spaced others ∷ direct name terminals.VariableName ∷ rest)
  text_variable_told others name n more plains frames state at to within inside before (there, (second, stand)) shut =
      let told = dollar_in_text state within plains at there.sort (loose_in before).owned
      (both _ _ (ap not second.spaced) (ap is_name second.sort ∙ n)) in
      let m = next state within refl terminals.Dollar refl refl in
      let s1 = after state terminals.Dollar in
      let t = one_then s1 m.within inner (direct name terminals.VariableName) terminals.VariableName rest
      (record { goes = refl; begins = refl; before = refl; word = refl; operand = refl }) inside second stand
      shut
      (name_code name n)
      (variable_name_here refl s1 m.within plains (at + 1) (ap is_name second.sort ∙ n)
      (never s1 plains (at + 1) m.word)
      (ap behind_dollar m.before) second.spaced) one_of more in
      told_by t.end
      (join (step plains state at (dollar_among spaced others) terminals.Dollar within there refl told (inl refl)) (reads t))
      t.within

  pub text_seam_told : IsSpecial inner ended rest → IsSpecial inner ended (seam ∷ rest)
  text_seam_told more plains frames state at to within inside before (there, stand) shut =
      let n = seam_next state within in
      let t = more plains frames (past_white state sorts.Comment) (at + 1) to n.within inside
      (record {
        before = ap in_text n.before ∙ before.before;
        word = n.word
            ∙ before.word;
        operand = ap ends_operand n.before ∙ before.operand;
      })
      stand shut in
      told_by t.end (join (seam_step plains state at within there) (reads t)) t.within

pub text_brace_told : (ended spaced : Bool) (rest : List Written) (sort : Sort) → is_raw_sign sort ≡ true
    → IsSpecial true false rest
    → IsSpecial true ended (written sort spaced terminals.Raw ∷ rest)
text_brace_told ended spaced rest sort r more plains frames state at to within inside before (there, stand) shut =
    one_then state within true (written sort spaced terminals.Raw) terminals.Raw rest raw_item inside there stand
    shut (raw_sign_code sort r)
    (raw_sign_here state within plains at sort r there.sort
    (ap (λ (f : List Frame). is_outer (innermost f)) within.frames_are ∙ inside.outer)
    (ap (λ (f : List Frame). is_brace (innermost f)) within.frames_are ∙ inside.brace)
    (ap (λ (f : List Frame). is_inner (innermost f)) within.frames_are ∙ inside.inner)) one_of more
