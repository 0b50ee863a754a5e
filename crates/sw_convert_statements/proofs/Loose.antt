-- Behind a text at whose end an escape is open a comment may stand directly.
use Rattle.std.proofs.Common.{◌≡◌, ◌<◌, ℕ, suc, ◌-◌, Bool, true, false, List, [], ◌∷◌, ◌++◌, length, Some, append-nil, inl, refl, sym, ◌∙◌, ap, append_assoc, arith}
use Rattle.std.specs.Prelude.{codes}
use Rattle.std.proofs.lemmas.Bool.Decides.{nat_tests}
use Rattle.sw_text_scan.specs.Bytes.{sign, byte}
use Rattle.sw_tokens.specs.declared.pieces.Before.{Before}
use Rattle.sw_tokens.specs.declared.pieces.Before.TheVariants as befores
use Rattle.sw_tokens.specs.declared.skips.Inside.{Inside}
use Rattle.sw_tokens.specs.declared.token.TokenKind.{TokenKind}
use Rattle.sw_tokens.specs.declared.token.TokenKind.TheVariants as kinds
use Rattle.sw_tokens.specs.Tokens.{before_of}
use Rattle.sw_parse_lexemes.specs.declared.state.Mode.{Mode}
use Rattle.sw_convert_spelling.specs.Spelt.{behind_gap, innermost, opened}
use Rattle.sw_convert_written.specs.Escapes.{ends_unclosed}
use Rattle.sw_convert_again.specs.Tokens.{Tok}
use Rattle.sw_convert_tokens.specs.Joints.{Joint, spelt_of, text, behind, Stand}
use Rattle.sw_convert_tokens.proofs.Unclosed.{Ends, space_ends, unclosed_behind, unclosed_never}
use Rattle.sw_convert_texts.specs.RawTexts.{RawWritten}
use Rattle.sw_convert_statements.specs.Segments.{TextWritten}
use Rattle.sw_convert_statements.proofs.TokenEnds.{is_ending, is_end, token_ends}

plain_before : (kind : TokenKind) → is_ending kind ≡ false → before_of (Some kind) ≡ befores.Other
unfolding is_ending
plain_before kinds.Hash e = absurd (cc)
plain_before kinds.Dollar e = absurd (cc)
plain_before kinds.Comment e = absurd (cc)
plain_before kinds.CommentEnd e = absurd (cc)
plain_before _ e = refl

-- the last byte of a text
record HasLast (bytes more : List ℕ) : Type 0 where
  init : List ℕ
  last : ℕ
  is : bytes ≡ init ++ last ∷ []
  there : byte (bytes ++ more) (length bytes - 1) ≡ last

last_of : (bytes more : List ℕ) → 0 < length bytes → HasLast bytes more
unfolding byte
last_of [] more some = absurd (omega (arith, some))
last_of (b ∷ []) more some = record { init = []; last = b; is = refl; there = refl }
last_of (b ∷ c ∷ bytes) more some =
    let it = last_of (c ∷ bytes) more (positive bytes) in record {
      init = b ∷ it.init;
      last = it.last;
      is = ap (λ (t : List ℕ). b ∷ t) it.is;
      there = ap (byte (b ∷ c ∷ (bytes ++ more))) (further bytes) ∙ it.there;
    }
  where
    positive : (xs : List ℕ) → 0 < length (c ∷ xs)
    positive xs = omega arith

    further : (xs : List ℕ) → length (b ∷ c ∷ xs) - 1 ≡ suc (length (c ∷ xs) - 1)
    further xs = omega arith

end_closes : (b : ℕ) → is_end b ≡ true → Ends b
unfolding is_end
end_closes b e = record { slash = grind (arith, nat_tests); digit = grind (arith, nat_tests) }

pub loose_in : (x : Joint) (joints : List Joint) (stack : List Inside) (before : Before) (after front : List ℕ)
    → Stand stack before (x ∷ joints) [] after → ends_unclosed (front ++ text (x ∷ joints)) ≡ true
    → behind before (x ∷ joints) ≡ befores.Other
loose_in x [] stack before after front (gap, some, told, opening, token, rest) open_end =
    go (is_ending (spelt_of x).kind) refl
  where
    go : (t : Bool) → is_ending (spelt_of x).kind ≡ t → before_of (Some (spelt_of x).kind) ≡ befores.Other
    go false e = plain_before (spelt_of x).kind e
    go true e =
        let s = spelt_of x in
        let ends = token_ends (s.bytes ++ after) (innermost stack) (behind_gap before s.gap) s.kind (length s.bytes) s.change
        token e in
        let it = last_of s.bytes after some in
        let closes = end_closes it.last (ap is_end (sym it.there) ∙ ends) in
        let same : front ++ (s.gap ++ (s.bytes ++ [])) ≡ ((front ++ s.gap) ++ it.init) ++ it.last ∷ [] =
        sym (append_assoc front s.gap (s.bytes ++ []))
        ∙ ap (λ (t : List ℕ). (front ++ s.gap) ++ t) (append-nil s.bytes ∙ it.is)
        ∙ sym (append_assoc (front ++ s.gap) it.init (it.last ∷ [])) in
        absurd
        (let wrong : true ≡ false =
        sym open_end ∙ ap ends_unclosed same ∙ unclosed_never ((front ++ s.gap) ++ it.init) it.last closes in cc)
loose_in x (y ∷ joints) stack before after front (gap, some, told, opening, token, rest) open_end =
    let s = spelt_of x in
    loose_in y joints (opened stack s.change) (before_of (Some s.kind)) after ((front ++ s.gap) ++ s.bytes) rest
    (ap ends_unclosed
    (append_assoc (front ++ s.gap) s.bytes (text (y ∷ joints))
    ∙ append_assoc front s.gap (s.bytes ++ text (y ∷ joints))) ∙ open_end)

first_byte_of : List ℕ → ℕ
first_byte_of [] = 0
first_byte_of (b ∷ bytes) = b

-- raw text behind a space, as statements have it
pub text_of_raw : {mode : Mode} {value : List ℕ} {tokens : List Tok} → RawWritten mode value tokens
    → TextWritten mode value tokens
unfolding first_byte_of
text_of_raw {value = value} it before =
    let one = it before true refl in record {
      passed = one.passed;
      raw = one.told;
      end = one.end;
      loose = λ u.
          sym one.segment.last
          ∙ loose one.segment.joints (one.segment.stand (codes ";") (record { ends = inl refl; closed = refl }))
          (one.segment.spelling) u;
      segment = one.segment;
    }
  where
    loose : (joints : List Joint) → Stand [] before joints [] (codes ";") → text joints ≡ codes " " ++ value
        → ends_unclosed value ≡ true → behind before joints ≡ befores.Other
    loose [] stand spelling u = absurd (let wrong : 0 ≡ sign " " = ap first_byte_of spelling in omega (arith, wrong))
    loose (x ∷ joints) stand spelling u =
        loose_in x joints [] before (codes ";") [] stand
        (ap ends_unclosed spelling ∙ unclosed_behind [] value (sign " ") space_ends ∙ u)
