-- What the writer of lines tells of a text is so of its tokens.
use Rattle.std.proofs.Common.{◌≡◌, ℕ, suc, ◌+◌, ◌-◌, Bool, true, false, not, ◌&&◌, ◌||◌, List, [], ◌∷◌, ◌++◌, length, Some, refl, sym, ◌∙◌, ap, arith}
use Rattle.std.specs.Prelude.{◌==◌}
use Rattle.std.specs.List.{list_all}
use Rattle.std.proofs.lemmas.Bool.Decides.{nat_tests}
use Rattle.sw_text_scan.proofs.Bounds.{and_left, and_right, not_true}
use Rattle.sw_tokens.specs.declared.pieces.Before.{Before}
use Rattle.sw_tokens.specs.declared.pieces.Before.TheVariants as befores
use Rattle.sw_tokens.specs.declared.pieces.Change.{Change}
use Rattle.sw_tokens.specs.declared.skips.Inside.{Inside}
use Rattle.sw_tokens.specs.declared.skips.Inside.TheVariants as insides
use Rattle.sw_tokens.specs.declared.token.Token.{Token}
use Rattle.sw_tokens.specs.declared.token.TokenKind.{TokenKind}
use Rattle.sw_tokens.specs.declared.token.TokenKind.TheVariants as kinds
use Rattle.sw_tokens.specs.Ends.{reached}
use Rattle.sw_tokens.specs.Tokens.{is_code, is_spaced, before_of}
use Rattle.sw_parse_layout.specs.Lines.{is_blank}
use Rattle.sw_convert_spelling.specs.Spelt.{Spelt, text_of, behind_gap, end_of, placed_behind, placed, innermost, opened, AreTokens}
use Rattle.sw_convert_spelling.proofs.Walked.{these}
use Rattle.sw_convert_spelling.proofs.Choices.{both, by_test, right_no}
use Rattle.sw_convert_lines.specs.declared.held.Look.{Look}
use Rattle.sw_convert_lines.specs.Held as lines
use Rattle.sw_convert_lines.specs.Held.{is_refused, inserts_behind, unlooked, look_with, look_over, is_kept, held_by, is_held}
use Rattle.sw_convert_heads_laid.specs.Holds.{is_line_sign, is_comma, are_kept, ends_line, begins_line}
use Rattle.sw_convert_heads_laid.proofs.Fits.{is_deep, leaves, pops, keeps, is_text, fits, token_fits_there, deep_behind}
use Rattle.sw_convert_heads_laid.proofs.Tests.{inserts, keep_is, pop_is, insert_is, count_stays, ground_count}
use Rattle.sw_convert_lines_laid.specs.Held.{are_blank, ends_black, HeldTextsHold}

-- ---- tokens of these kinds

abbrev AreKinds : List Token → List Spelt → Type 0
AreKinds [] [] = Unit {0}
AreKinds [] (spelt ∷ list) = ⊥
AreKinds (t ∷ ts) [] = ⊥
AreKinds (t ∷ ts) (spelt ∷ list) = (t.kind ≡ spelt.kind) × AreKinds ts list

placed_kinds : (before : Before) (at : ℕ) (list : List Spelt) → AreKinds (placed_behind before at list) list
placed_kinds before at [] = tt
placed_kinds before at (spelt ∷ list) = (refl, placed_kinds (before_of (Some spelt.kind)) (end_of at spelt) list)

reached_kinds : (ts : List Token) (list : List Spelt) → AreKinds ts list → AreKinds (reached ts).list list
reached_kinds [] [] same = tt
reached_kinds [] (spelt ∷ list) same = absurd same
reached_kinds (t ∷ ts) [] same = absurd same
reached_kinds (t ∷ ts) (spelt ∷ list) (one, same) = (one, reached_kinds ts list same)

-- ---- how many `#{` are open

inserts_next : (stack : List Inside) (kind : TokenKind) (change : Change) → fits (innermost stack) kind change ≡ true
    → inserts_behind (inserts stack) kind ≡ inserts (opened stack change)
inserts_next stack kinds.OpenInterpolation change f =
    let e : inserts stack + 1 ≡ suc (inserts stack) = omega arith in
    e ∙ sym (ap (λ (c : Change). inserts (opened stack c)) (insert_is change f))
inserts_next [] kinds.CloseInterpolation change f =
    absurd (let none = right_no (pops change) false refl in let wrong : true ≡ false = sym f ∙ none in cc)
inserts_next (insides.Interpolation ∷ outer) kinds.CloseInterpolation change f =
    let e : suc (inserts outer) - 1 ≡ inserts outer = omega arith in
    e ∙ sym (ap (λ (c : Change). inserts (opened (insides.Interpolation ∷ outer) c)) (pop_is change (and_left (pops change) _ f)))
inserts_next (inside ∷ outer) kinds.CloseInterpolation change f =
    absurd (let none = right_no (pops change) false refl in let wrong : true ≡ false = sym f ∙ none in cc)
inserts_next stack kinds.Comma change f =
    sym (ap (λ (c : Change). inserts (opened stack c)) (keep_is change (and_right (is_code (innermost stack)) (keeps change) f)))
inserts_next [] kind change f = sym (ground_count change f)
inserts_next (inside ∷ outer) kind change f =
    sym (count_stays inside outer change (and_right (is_code inside || is_text kind) (leaves inside change) f))

-- ---- what is told stays told

module _ (custom : Bool) (bytes : List ℕ) where
  refused_stays : (ts : List Token) (look : Look) → look.refused ≡ true → (look_over custom bytes look ts).refused ≡ true
  refused_stays [] look e = e
  refused_stays (t ∷ ts) look e = refused_stays ts (look_with custom bytes look t) (first look.refused _ e)
    where
      first : (a b : Bool) → a ≡ true → (a || b) ≡ true
      first true b f = refl
      first false b f = absurd (cc)

  unrefused : (ts : List Token) (look : Look) → is_kept (look_over custom bytes look ts) ≡ true → look.refused ≡ false
  unrefused ts look e =
      by_test (look.refused ≡ false) look.refused
      (λ r. absurd
      (let held = not_true (look_over custom bytes look ts).refused (and_left (not (look_over custom bytes look ts).refused) _ e) in
      let wrong : true ≡ false = sym (refused_stays ts look r) ∙ held in cc))
      (λ r. r)

  -- a sign for which lines stand is refused outside `#{}`
  sign_refused : (look : Look) (t : Token) → look.inserts ≡ 0 → (look_with custom bytes look t).refused ≡ false
      → lines.is_line_sign custom t.kind ≡ false
  sign_refused look t none e =
      left (lines.is_line_sign custom t.kind) _
      (second (look.inserts == 0) _ (zero_is look.inserts none) (right look.cut _ (right look.refused _ e)))
    where
      zero_is : (n : ℕ) → n ≡ 0 → (n == 0) ≡ true
      zero_is n f = grind (arith, nat_tests)

      right : (a b : Bool) → (a || b) ≡ false → b ≡ false
      right true b f = absurd (cc)
      right false b f = f

      left : (a b : Bool) → (a || b) ≡ false → a ≡ false
      left true b f = absurd (cc)
      left false b f = refl

      second : (a b : Bool) → a ≡ true → (a && b) ≡ false → b ≡ false
      second true b f g = g
      second false b f g = absurd (cc)

  same_sign : (kind : TokenKind) → lines.is_line_sign custom kind ≡ is_line_sign custom kind
  same_sign kinds.Semicolon = refl
  same_sign kinds.OpenBrace = refl
  same_sign kinds.CloseBrace = refl
  same_sign _ = refl

  same_comma : (kind : TokenKind) → lines.is_comma kind ≡ is_comma kind
  same_comma kinds.Comma = refl
  same_comma _ = refl

  -- what is told behind a token
  record Next (stack : List Inside) (spelt : Spelt) (t : Token) (look : Look) : Type 0 where
    deep : list_all is_deep (opened stack spelt.change) ≡ true
    count : (look_with custom bytes look t).inserts ≡ inserts (opened stack spelt.change)

  next_told : (stack : List Inside) (before : Before) (spelt : Spelt) (list : List Spelt) (t : Token) (look : Look)
      → t.kind ≡ spelt.kind → list_all is_deep stack ≡ true → AreTokens stack before (spelt ∷ list)
      → look.inserts ≡ inserts stack → Next stack spelt t look
  next_told stack before spelt list t look one deep (gap, some, token, more) count =
      let fit = token_fits_there (spelt.bytes ++ text_of list) 0 stack (behind_gap before spelt.gap) spelt.kind (length spelt.bytes)
      spelt.change deep token in record {
        deep = deep_behind stack spelt.kind spelt.change deep fit;
        count = ap (λ (n : ℕ). inserts_behind n t.kind) count ∙ ap (inserts_behind (inserts stack)) one
            ∙ inserts_next stack spelt.kind spelt.change fit;
      }

  -- each token is kept
  all_kept : (stack : List Inside) (before : Before) (list : List Spelt) (ts : List Token) (look : Look) → AreKinds ts list
      → list_all is_deep stack ≡ true → AreTokens stack before list → look.inserts ≡ inserts stack
      → is_kept (look_over custom bytes look ts) ≡ true → are_blank stack list ≡ true → are_kept custom stack list ≡ true
  all_kept stack before [] ts look same deep tokens count held blank = refl
  all_kept stack before (spelt ∷ list) [] look same deep tokens count held blank = absurd same
  all_kept [] before (spelt ∷ list) (t ∷ ts) look (one, same) deep tokens count held blank =
      let next = next_told [] before spelt list t look one deep tokens count in
      let sign = sign_refused look t count (unrefused ts (look_with custom bytes look t) held) in
      both (list_all is_blank spelt.gap && not (is_line_sign custom spelt.kind)) _
      (both (list_all is_blank spelt.gap) _ (and_left (list_all is_blank spelt.gap) _ blank)
      (ap not (sym (same_sign spelt.kind) ∙ sym (ap (lines.is_line_sign custom) one) ∙ sign)))
      (all_kept (opened [] spelt.change) (before_of (Some spelt.kind)) list ts (look_with custom bytes look t) same next.deep
      tokens.3 next.count held (and_right (list_all is_blank spelt.gap) _ blank))
  all_kept (inside ∷ outer) before (spelt ∷ list) (t ∷ ts) look (one, same) deep tokens count held blank =
      let next = next_told (inside ∷ outer) before spelt list t look one deep tokens count in
      all_kept (opened (inside ∷ outer) spelt.change) (before_of (Some spelt.kind)) list ts (look_with custom bytes look t) same next.deep
      tokens.3 next.count held blank

  -- and the last one ends a line
  comma_or : (a b : Bool) → (not a && not b) ≡ not (a || b)
  comma_or true b = refl
  comma_or false b = refl

  line_ends : (ends black : Bool) (list : List Spelt) (ts : List Token) (look : Look) → AreKinds ts list
      → (not look.comma && black) ≡ ends → is_kept (look_over custom bytes look ts) ≡ true → ends_black black list ≡ true
      → ends_line ends list ≡ true
  line_ends ends black [] [] look same e held last =
      sym e ∙ both (not look.comma) black (and_right (not look.refused) _ held) last
  line_ends ends black [] (t ∷ ts) look same e held last = absurd same
  line_ends ends black (spelt ∷ list) [] look same e held last = absurd same
  line_ends ends black (spelt ∷ list) (t ∷ ts) look (one, same) e held last =
      line_ends (not (is_comma spelt.kind || is_spaced (before_of (Some spelt.kind)))) (not (is_spaced (before_of (Some spelt.kind)))) list ts
      (look_with custom bytes look t) same
      (ap (λ (c : Bool). not c && not (is_spaced (before_of (Some spelt.kind)))) (ap lines.is_comma one ∙ same_comma spelt.kind)
      ∙ comma_or (is_comma spelt.kind) (is_spaced (before_of (Some spelt.kind))))
      held last

-- ---- the whole text

pub held_texts_hold : HeldTextsHold
unfolding is_held
held_texts_hold custom list tokens mark held begins blank last =
    let ts = (reached (placed 0 list)).list in
    let told : is_kept (look_over custom (text_of list) unlooked ts) ≡ true =
    sym (ap (held_by custom (text_of list)) (these [] list mark tokens)) ∙ held in
    let same = reached_kinds (placed 0 list) list (placed_kinds befores.Other 0 list) in
    both (begins_line list) _ begins
    (both (are_kept custom [] list) _
    (all_kept custom (text_of list) [] befores.Other list ts unlooked same refl tokens refl told blank)
    (line_ends custom (text_of list) false false list ts unlooked same refl told last))
