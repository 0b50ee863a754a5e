-- Where the tokens of lines stand, and the signs that lines stand for.
use Rattle.std.proofs.Common.{◌≡◌, ℕ, zero, suc, ◌+◌, List, [], ◌∷◌, ◌++◌, length, Some, refl, sym, ◌∙◌, ap, arith, length-append}
use Rattle.sw_tokens.specs.declared.pieces.Before.{Before}
use Rattle.sw_tokens.specs.declared.pieces.Before.TheVariants as befores
use Rattle.sw_tokens.specs.declared.token.Token.{Token}
use Rattle.sw_tokens.specs.declared.token.TokenKind.TheVariants as kinds
use Rattle.sw_tokens.specs.Tokens.{before_of, is_spaced}
use Rattle.sw_parse_layout.specs.Laid.{sign_at}
use Rattle.sw_convert_spelling.specs.Spelt.{Spelt, text_of, behind_gap, end_of, placed_behind}
use Rattle.sw_convert_laid.specs.Rows.{Sign, own, own_behind, ends, ended, placed}
use Rattle.sw_convert_laid.proofs.Depths.{braces}
use Rattle.sw_convert_laid.proofs.Steps.{still_white}

-- what stands directly before the place behind tokens
abbrev pub before_behind : Before → List Spelt → Before
before_behind before [] = before
before_behind before (spelt ∷ list) = before_behind (before_of (Some spelt.kind)) list

pub end_behind : (at : ℕ) (spelt : Spelt) (list : List Spelt)
    → end_of at spelt + length (text_of list) ≡ at + length (text_of (spelt ∷ list))
end_behind at spelt list =
    let e = length-append spelt.gap (spelt.bytes ++ text_of list) in
    let f = length-append spelt.bytes (text_of list) in omega (arith, e, f)

pub placed_own : (list : List Spelt) (before : Before) (at : ℕ) (tail : List Sign)
    → placed before at (own list ++ tail)
    ≡ placed_behind before at list ++ placed (before_behind before list) (at + length (text_of list)) tail
placed_own [] before at tail = ap (λ (k : ℕ). placed before k tail) (let e : at ≡ at + 0 = omega arith in e)
placed_own (spelt ∷ list) before at tail =
    let token : Token = record {
      kind = spelt.kind;
      from = at + length spelt.gap;
      to = end_of at spelt;
      spaced = is_spaced (behind_gap before spelt.gap);
    } in
    let next = before_of (Some spelt.kind) in
    ap (λ (ts : List Token). token ∷ ts) (placed_own list next (end_of at spelt) tail)
    ∙ ap (λ (k : ℕ). token ∷ (placed_behind next (end_of at spelt) list ++ placed (before_behind next list) k tail))
    (end_behind at spelt list)

placed_ends : (count end : ℕ) (tail : List Sign)
    → placed befores.White end (ends count ++ tail) ≡ braces end count ++ placed befores.White end tail
placed_ends zero end tail = refl
placed_ends (suc count) end tail =
    ap (λ (k : ℕ). sign_at kinds.CloseBrace k ∷ placed befores.White k (ends count ++ tail)) (let e : end + 0 ≡ end = omega arith in e)
    ∙ ap (λ (ts : List Token). sign_at kinds.CloseBrace end ∷ ts) (placed_ends count end tail)

pub placed_ended : (count : ℕ) (before : Before) (end : ℕ) (tail : List Sign)
    → placed before end (ended count ++ tail)
    ≡ sign_at kinds.Semicolon end ∷ (braces end count ++ placed befores.White end tail)
placed_ended count before end tail =
    ap (λ (k : ℕ). sign_at kinds.Semicolon k ∷ placed befores.White k (ends count ++ tail)) (let e : end + 0 ≡ end = omega arith in e)
    ∙ ap (λ (ts : List Token). sign_at kinds.Semicolon end ∷ ts) (placed_ends count end tail)

-- tokens behind the end of a line
pub placed_line : (spelt : Spelt) (list : List Spelt) (before : Before) (end byte : ℕ) (gap : List ℕ) (tail : List Sign)
    → placed before end (own_behind (byte ∷ gap) (spelt ∷ list) ++ tail)
    ≡ placed_behind befores.White (end + length (byte ∷ gap)) (spelt ∷ list)
    ++ placed (before_behind befores.White (spelt ∷ list)) ((end + length (byte ∷ gap)) + length (text_of (spelt ∷ list))) tail
placed_line spelt list before end byte gap tail =
    let at = end + length (byte ∷ gap) in
    let next = before_of (Some spelt.kind) in
    ap (λ (k : ℕ). token_at k befores.White ∷ placed next (k + length spelt.bytes) (own list ++ tail))
    (let e = length-append (byte ∷ gap) spelt.gap in let f : end + length ((byte ∷ gap) ++ spelt.gap) ≡ at + length spelt.gap = omega (arith, e) in f)
    ∙ ap (λ (w : Before). token_at (at + length spelt.gap) w ∷ placed next (end_of at spelt) (own list ++ tail))
    (sym (still_white spelt.gap))
    ∙ placed_own (spelt ∷ list) befores.White at tail
  where
    token_at : ℕ → Before → Token
    token_at from before = record {
      kind = spelt.kind;
      from = from;
      to = from + length spelt.bytes;
      spaced = is_spaced before;
    }
