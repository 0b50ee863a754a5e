-- A value by itself in the text of a special function, behind any white space.
use Rattle.std.proofs.Common.{◌≡◌, ◌<◌, ℕ, suc, Bool, true, false, not, List, [], ◌∷◌, ◌++◌, length, Some, refl, sym, ◌∙◌, ap, subst, arith, append-nil}
use Rattle.std.specs.List.{list_all}
use Rattle.sw_text_scan.specs.Bytes.{byte, is_white}
use Rattle.sw_text_scan.specs.Runs.{run_end}
use Rattle.sw_text_scan.specs.declared.runs.Class.TheVariants as classes
use Rattle.sw_text_scan.proofs.Bounds.{if_true, and_left, and_right}
use Rattle.sw_text_locality.proofs.Written.{byte_before}
use Rattle.sw_tokens.specs.declared.pieces.Before.{Before}
use Rattle.sw_tokens.specs.declared.pieces.Before.TheVariants as befores
use Rattle.sw_tokens.specs.declared.pieces.Change.{Change}
use Rattle.sw_tokens.specs.declared.skips.Inside.{Inside}
use Rattle.sw_tokens.specs.declared.skips.Inside.TheVariants as insides
use Rattle.sw_tokens.specs.declared.token.TokenKind.{TokenKind}
use Rattle.sw_tokens.specs.Pieces.{made, piece, code_piece}
use Rattle.sw_tokens.specs.Tokens.{before_of, is_spaced}
use Rattle.sw_parse_lexemes.specs.declared.state.Mode.TheVariants as modes
use Rattle.sw_convert_spelling.specs.Spelt.{behind_gap, innermost, is_sheet_code, takes_gap, is_gap}
use Rattle.sw_convert_spelling.proofs.Choices.{both, by_test, no_white_piece}
use Rattle.sw_convert_spelling.proofs.MovedRuns.{first_byte}
use Rattle.sw_convert_passing.specs.Written.{Written}
use Rattle.sw_convert_passing.specs.Values.{seam, Special}
use Rattle.sw_convert_again.specs.Tokens.{Tok}
use Rattle.sw_convert_tokens.specs.Joints.{Seen, Joint, Token, Apart, text, toks, writtens, written_of, behind, Sits, Sit, Stand, Tell}
use Rattle.sw_convert_tokens.specs.Written.{Follows, is_calm, WrittenAs}
use Rattle.sw_convert_texts.specs.InText.{is_seen, begins_plainly, InText}
use Rattle.sw_convert_texts.specs.RawKinds.{is_some}
use Rattle.sw_convert_texts.proofs.RawSits.{ends_apart}

pub code_gap : (inside : Inside) (gap own : List ℕ) → is_sheet_code inside ≡ true → list_all is_white gap ≡ true
    → is_white (byte own 0) ≡ false → is_gap inside gap own ≡ true
code_gap inside [] own code white black = refl
code_gap inside (b ∷ gap) own code white black =
    both (takes_gap inside) _ (takes inside code) (both (list_all is_white (b ∷ gap)) (not (is_white (byte own 0))) white (ap not black))
  where
    takes : (i : Inside) → is_sheet_code i ≡ true → takes_gap i ≡ true
    takes insides.Sheet c = refl
    takes insides.Interpolation c = refl
    takes _ c = absurd (cc)

pub calm_gap : (gap : List ℕ) → is_calm (behind_gap befores.Other gap) ≡ true
calm_gap [] = refl
calm_gap (b ∷ gap) = refl

pub spaced_some : (gap : List ℕ) → is_spaced (behind_gap befores.Other gap) ≡ is_some gap
spaced_some [] = refl
spaced_some (b ∷ gap) = refl

-- no comment is the last of what leaves no white space
pub ends_other : (before : Before) (c : Bool) (xs : List Joint) → (before ≡ befores.Other → c ≡ false)
    → behind before xs ≡ befores.Other → ends_apart c xs ≡ false
ends_other before c [] e l = e l
ends_other before c (Token seen ∷ xs) e l = ends_other (before_of (Some seen.kind)) false xs (λ f. refl) l
ends_other before c (Apart ∷ xs) e l =
    ends_other befores.White true xs (λ f. absurd (let wrong : true ≡ false = ap is_spaced f in cc)) l

-- a value as it is written
pub record ValueIs (value : List ℕ) (tokens : List Tok) (digits : Bool) (fits : Bool → Bool → Bool) (gap : List ℕ) :
    Type 0 where
  pub first : Seen
  pub others : List Joint
  pub gap_is : first.gap ≡ gap
  pub spelling : text (Token first ∷ others) ≡ gap ++ value
  pub seen : toks (Token first ∷ others) ≡ tokens
  pub last : behind befores.Other (Token first ∷ others) ≡ befores.Other
  pub tells : Tell (Token first ∷ others)
  pub special : (inner ended : Bool) (rest : List Written) → fits (is_some gap) ended ≡ true → Special inner true rest
      → Special inner ended (writtens (Token first ∷ others) ++ rest)
  pub plainly : begins_plainly digits (written_of (Token first)) ≡ true
  pub spaced_is : first.spaced ≡ is_some gap
  pub stand : (stack : List Inside) (after : List ℕ) → is_sheet_code (innermost stack) ≡ true → Follows value after
      → Stand stack befores.Other (Token first ∷ others) stack after

-- ---- its first token

abbrev head_of : Written → List Written → Written
head_of default [] = default
head_of default (one ∷ list) = one

some_may : (a b : Written) → a ≡ b → is_seen b.may_be ≡ true → is_seen a.may_be ≡ true
some_may a b e s = ap (λ (w : Written). is_seen w.may_be) e ∙ s

may_seen : (digits : Bool) (one : Written) → begins_plainly digits one ≡ true → is_seen one.may_be ≡ true
may_seen digits one e = and_left (is_seen one.may_be) _ e

-- it begins with no white space
module _ (b : ℕ) (rest : List ℕ) (kind : TokenKind) (n : ℕ) (change : Change)
    (is : piece (b ∷ rest) insides.Sheet befores.Other 0 ≡ made kind n change) where
  no_white : is_white b ≡ true → ⊥
  unfolding code_piece byte
  no_white e = no_white_piece (run_end classes.White (b ∷ rest) 0) (sym (if_true (is_white b) _ _ e) ∙ is)

  black_byte : is_white b ≡ false
  black_byte = by_test (is_white b ≡ false) (is_white b) (λ t. absurd (no_white t)) (λ t. t)

black_in : (joints : List Joint) (first : Written) (others : List Written) → writtens joints ≡ first ∷ others
    → first.spaced ≡ false → is_seen first.may_be ≡ true → Stand [] befores.Other joints [] []
    → is_white (byte (text joints) 0) ≡ false
black_in [] first others e spaced seen stand = absurd (let none = ap length e in omega (arith, none))
black_in (Apart ∷ xs) first others e spaced seen stand =
    absurd (let wrong : false ≡ true = some_may seam first (ap (head_of seam) e) seen in cc)
black_in (Token one ∷ xs) first others e spaced seen (fits, some, (told, known), opening, token, more) = by_gap one.gap refl
  where
    direct : one.spaced ≡ false
    direct = ap (λ (w : Written). w.spaced) (ap (head_of seam) e) ∙ spaced

    by_bytes : (own : List ℕ) → one.bytes ≡ own → one.gap ≡ [] → is_white (byte (text (Token one ∷ xs)) 0) ≡ false
    by_bytes [] b g = absurd (let none = ap (λ (t : List ℕ). length t) b in omega (arith, some, none))
    by_bytes (b ∷ own) is g =
        ap (λ (t : List ℕ). is_white (byte (t ++ (one.bytes ++ text xs)) 0)) g
        ∙ ap (λ (t : List ℕ). is_white (byte (t ++ text xs) 0)) is
        ∙ ap is_white (first_byte b (own ++ text xs))
        ∙ black_byte b (own ++ (text xs ++ [])) one.kind (length one.bytes) one.change
        (ap (λ (t : List ℕ). piece (t ++ (text xs ++ [])) insides.Sheet befores.Other 0) (sym is)
        ∙ ap (λ (t : List ℕ). piece (one.bytes ++ (text xs ++ [])) insides.Sheet (behind_gap befores.Other t) 0) (sym g) ∙ token)

    by_gap : (gap : List ℕ) → one.gap ≡ gap → is_white (byte (text (Token one ∷ xs)) 0) ≡ false
    by_gap [] g = by_bytes one.bytes refl g
    by_gap (b ∷ gap) g =
        absurd
        (let wrong : false ≡ true = sym direct ∙ told ∙ ap (λ (t : List ℕ). is_spaced (behind_gap befores.Other t)) g in cc)

-- ---- behind other white space

module _ (value : List ℕ) (tokens : List Tok) (digits : Bool) (fits : Bool → Bool → Bool) (gap : List ℕ)
    (white : list_all is_white gap ≡ true) (black : is_white (byte value 0) ≡ false) where
  abbrev before : Before
  before = behind_gap befores.Other gap

  abbrev Told : List Written → Type 0
  Told passed = InText digits fits modes.Expression (is_spaced before) passed

  abbrev Stands : List Joint → Type 0
  Stands joints =
      (stack : List Inside) (after : List ℕ) → is_sheet_code (innermost stack) ≡ true → Follows value after
      → Stand stack before joints stack after

  regapped : (seen : Seen) (xs : List Joint) → seen.gap ≡ [] → text (Token seen ∷ xs) ≡ value → toks (Token seen ∷ xs) ≡ tokens
      → behind before (Token seen ∷ xs) ≡ befores.Other → Tell (Token seen ∷ xs) → Told (writtens (Token seen ∷ xs))
      → Stands (Token seen ∷ xs) → ValueIs value tokens digits fits gap
  regapped seen xs none spelling toks_are last (tells, more_tell) told stands = record {
    first = record {
      gap = gap;
      kind = seen.kind;
      bytes = seen.bytes;
      change = seen.change;
      spaced = seen.spaced;
      may_be = seen.may_be;
      said = seen.said;
    };
    others = xs;
    gap_is = refl;
    spelling = ap (λ (t : List ℕ). gap ++ t) own_is;
    seen = toks_are;
    last = last;
    tells = (
      λ source commented at front after (sits, sit).
          let same : front ++ gap ≡ (front ++ gap) ++ seen.gap =
          sym (ap (λ (t : List ℕ). (front ++ gap) ++ t) none ∙ append-nil (front ++ gap)) in
          tells source commented at (front ++ gap) after
          (subst
          (λ (t : List ℕ). Sits source commented at t seen (text xs ++ after) × Sit source false (suc at) (t ++ seen.bytes) xs after)
          same (
            record {
              lexeme = sits.lexeme;
              there = sits.there;
              from = sits.from;
              to = sits.to;
              commented_is = sits.commented_is;
              text_is = sits.text_is;
              decoded_is = sits.decoded_is;
              kind = sits.kind;
            },
            sit,
          )),
      more_tell,
    );
    special = λ inner ended rest f more. told.goes inner ended rest (ap (λ (t : Bool). fits t ended) (spaced_some gap) ∙ f) more;
    plainly = ap (begins_plainly digits) head_is ∙ told.plainly;
    spaced_is = ap (λ (w : Written). w.spaced) head_is ∙ told.spaced_is ∙ spaced_some gap;
    stand = λ stack after code f.
        let (fits, some, (spaced, known), opening, token, rest) = stands stack after code f in (
          code_gap (innermost stack) gap seen.bytes code white (own_black some),
          some,
          (spaced ∙ ap (λ (t : List ℕ). is_spaced (behind_gap before t)) none, known),
          opening,
          sym (ap (λ (t : List ℕ). piece (seen.bytes ++ (text xs ++ after)) (innermost stack) (behind_gap before t) 0) none)
              ∙ token,
          rest,
        );
  }
    where
      own_is : seen.bytes ++ text xs ≡ value
      own_is = sym (ap (λ (t : List ℕ). t ++ (seen.bytes ++ text xs)) none) ∙ spelling

      own_black : 0 < length seen.bytes → is_white (byte seen.bytes 0) ≡ false
      own_black some =
          ap is_white (sym (byte_before seen.bytes (text xs) 0 some)) ∙ ap (λ (t : List ℕ). is_white (byte t 0)) own_is ∙ black

      head_is : written_of (Token seen) ≡ told.first
      head_is = ap (head_of seam) told.is

  -- white space before the first would stand in the value
  no_gap : (seen : Seen) (xs : List Joint) → text (Token seen ∷ xs) ≡ value → Stand [] before (Token seen ∷ xs) [] []
      → seen.gap ≡ []
  no_gap seen xs spelling (gap_is, some, told, opening, token, more) = by seen.gap refl
    where
      by : (t : List ℕ) → seen.gap ≡ t → seen.gap ≡ []
      by [] e = e
      by (b ∷ t) e =
          let all = and_right (takes_gap insides.Sheet) _ (sym (ap (λ (x : List ℕ). is_gap insides.Sheet x seen.bytes) e) ∙ gap_is) in
          let is_one : is_white b ≡ true = and_left (is_white b) _ (and_left (list_all is_white (b ∷ t)) _ all) in
          let there : byte value 0 ≡ b =
          ap (λ (x : List ℕ). byte x 0) (sym spelling ∙ ap (λ (x : List ℕ). x ++ (seen.bytes ++ text xs)) e)
          ∙ first_byte b (t ++ (seen.bytes ++ text xs)) in
          absurd (let wrong : true ≡ false = sym is_one ∙ sym (ap is_white there) ∙ black in cc)

  -- whatever its tokens are
  in_text : (joints : List Joint) → text joints ≡ value → toks joints ≡ tokens → behind before joints ≡ befores.Other
      → Tell joints → Told (writtens joints) → Stands joints → ValueIs value tokens digits fits gap
  in_text [] spelling toks_are last tells told stands =
      absurd (let none = ap length told.is in omega (arith, none))
  in_text (Apart ∷ xs) spelling toks_are last tells told stands =
      absurd
      (let wrong : false ≡ true =
      some_may seam told.first (ap (head_of seam) told.is) (may_seen digits told.first told.plainly) in cc)
  in_text (Token seen ∷ xs) spelling toks_are last tells told stands =
      regapped seen xs
      (no_gap seen xs spelling (stands [] [] refl (record { stop = refl; closed = refl }))) spelling toks_are last tells told stands

pub value_is : (value : List ℕ) (tokens : List Tok) (digits : Bool) (fits : Bool → Bool → Bool)
    → WrittenAs (InText digits fits) value tokens → (gap : List ℕ) → list_all is_white gap ≡ true
    → ValueIs value tokens digits fits gap
value_is value tokens digits fits written gap white =
    let near = written befores.Other false refl in
    let near_told = near.told modes.Expression refl in
    let black : is_white (byte value 0) ≡ false =
    sym (ap (λ (t : List ℕ). is_white (byte t 0)) near.segment.spelling)
    ∙ black_in near.segment.joints near_told.first near_told.others (near.segment.written ∙ near_told.is) near_told.spaced_is
    (may_seen digits near_told.first near_told.plainly)
    (near.segment.stand [] [] refl (record { stop = refl; closed = refl })) in
    let it = written (behind_gap befores.Other gap) false (calm_gap gap) in
    in_text value tokens digits fits gap white black it.segment.joints it.segment.spelling it.segment.seen it.segment.last
    it.segment.tells
    (subst (InText digits fits modes.Expression (is_spaced (behind_gap befores.Other gap))) (sym it.segment.written)
    (it.told modes.Expression refl))
    it.segment.stand
