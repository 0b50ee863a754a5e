-- Tokens at the level of a sheet, one behind the other.
use Rattle.std.proofs.Common.{◌≡◌, ◌⊎◌, ℕ, Bool, true, false, ◌||◌, List, [], ◌∷◌, ◌++◌, inl, inr, append-nil, refl, sym, ◌∙◌, ap, subst, arith}
use Rattle.std.specs.Prelude.{◌==◌, codes}
use Rattle.std.proofs.lemmas.Bool.Decides.{nat_tests}
use Rattle.sw_text_scan.specs.Bytes.{sign}
use Rattle.sw_tokens.specs.declared.pieces.Before.{Before}
use Rattle.sw_tokens.specs.declared.pieces.Before.TheVariants as befores
use Rattle.sw_convert_written.specs.Escapes.{apart, ends_unclosed}
use Rattle.sw_convert_passing.specs.Written.{Written}
use Rattle.sw_convert_again.specs.Tokens.{Tok}
use Rattle.sw_convert_tokens.specs.Joints.{Segment, text, behind, Stand, writtens, toks}
use Rattle.sw_convert_tokens.specs.Written.{Follows, is_stop, stops}
use Rattle.sw_convert_tokens.proofs.Joins.{text_append, toks_append, writtens_append, behind_append, tell_append, stand_append}
use Rattle.sw_convert_tokens.proofs.Spaces.{apart_segment, BeginsSpace, pad}
use Rattle.sw_convert_texts.specs.RawTexts.{SheetSegment, ends_statement, EndsText}
use Rattle.sw_convert_statements.specs.Segments.{seams}

pub sheet : {before end : Before} {xs : List ℕ} {ks : List Tok} {vs : List Written} {P : List ℕ → Type 0}
    → Segment before xs ks vs end P → SheetSegment before xs ks vs end P
sheet a = record {
  joints = a.joints;
  spelling = a.spelling;
  seen = a.seen;
  written = a.written;
  last = a.last;
  tells = a.tells;
  stand = λ after ok. a.stand [] after refl ok;
}

-- a segment and another behind it
pub join : {before mid end : Before} {xs ys : List ℕ} {ks ls : List Tok} {vs ws : List Written} {P Q : List ℕ → Type 0}
    → SheetSegment before xs ks vs mid P → SheetSegment mid ys ls ws end Q → ((after : List ℕ) → Q after → P (ys ++ after))
    → SheetSegment before (xs ++ ys) (ks ++ ls) (vs ++ ws) end Q
join {before} {mid} {end} {xs} {ys} {ks} {ls} {vs} {ws} {P} {Q} a b fits = record {
  joints = a.joints ++ b.joints;
  spelling = text_append a.joints b.joints ∙ ap (λ (t : List ℕ). t ++ text b.joints) a.spelling
      ∙ ap (λ (t : List ℕ). xs ++ t) b.spelling;
  seen = toks_append a.joints b.joints ∙ ap (λ (t : List Tok). t ++ toks b.joints) a.seen
      ∙ ap (λ (t : List Tok). ks ++ t) b.seen;
  written = writtens_append a.joints b.joints ∙ ap (λ (t : List Written). t ++ writtens b.joints) a.written
      ∙ ap (λ (t : List Written). vs ++ t) b.written;
  last = behind_append before a.joints b.joints ∙ ap (λ (m : Before). behind m b.joints) a.last ∙ b.last;
  tells = tell_append a.joints b.joints a.tells b.tells;
  stand = λ after ok.
      stand_append [] [] [] before a.joints b.joints after
      (a.stand (text b.joints ++ after) (subst (λ (t : List ℕ). P (t ++ after)) (sym b.spelling) (fits after ok)))
      (subst (λ (m : Before). Stand [] m b.joints [] after) (sym a.last) (b.stand after ok));
}

-- the same segment, of which more is known
pub as_text : {before end : Before} {xs ys : List ℕ} {ks : List Tok} {vs : List Written} {P : List ℕ → Type 0} → xs ≡ ys
    → SheetSegment before xs ks vs end P → SheetSegment before ys ks vs end P
as_text {before} {end} {xs} {ys} {ks} {vs} {P} e a = subst (λ (t : List ℕ). SheetSegment before t ks vs end P) e a

pub as_toks : {before end : Before} {xs : List ℕ} {ks ls : List Tok} {vs : List Written} {P : List ℕ → Type 0} → ks ≡ ls
    → SheetSegment before xs ks vs end P → SheetSegment before xs ls vs end P
as_toks {before} {end} {xs} {ks} {ls} {vs} {P} e a = subst (λ (t : List Tok). SheetSegment before xs t vs end P) e a

pub as_passed : {before end : Before} {xs : List ℕ} {ks : List Tok} {vs ws : List Written} {P : List ℕ → Type 0} → vs ≡ ws
    → SheetSegment before xs ks vs end P → SheetSegment before xs ks ws end P
as_passed {before} {end} {xs} {ks} {vs} {ws} {P} e a = subst (λ (t : List Written). SheetSegment before xs ks t end P) e a

-- where fewer texts may stand behind it
pub as_behind : {before end : Before} {xs : List ℕ} {ks : List Tok} {vs : List Written} {P Q : List ℕ → Type 0}
    → ((after : List ℕ) → Q after → P after) → SheetSegment before xs ks vs end P → SheetSegment before xs ks vs end Q
as_behind fits a = record {
  joints = a.joints;
  spelling = a.spelling;
  seen = a.seen;
  written = a.written;
  last = a.last;
  tells = a.tells;
  stand = λ after ok. a.stand after (fits after ok);
}

-- ---- what stands behind a statement's text

end_stops : (b : ℕ) → ((b == sign ";") || (b == sign " ")) ≡ true → is_stop b ≡ true
end_stops b e = grind (arith, nat_tests)

or_left : (a b : Bool) → a ≡ true → (a || b) ≡ true
or_left true b e = refl
or_left false b e = absurd (cc)

pub text_follows : (value after : List ℕ) → EndsText value after → Follows value after
text_follows value after f = record { stop = go f.ends; closed = f.closed }
  where
    stop : (t : List ℕ) → ends_statement t ≡ true → stops t ≡ true
    stop [] e = absurd (cc)
    stop (b ∷ rest) e = or_left (is_stop b) _ (end_stops b e)

    go : (ends_statement after ≡ true) ⊎ ((ends_unclosed value ≡ true) × (rest : List ℕ) × (after ≡ codes "/**/" ++ rest))
        → stops after ≡ true
    go (inl e) = stop after e
    go (inr (u, rest, e)) = subst (λ (t : List ℕ). stops t ≡ true) (sym e) refl

-- ---- the comment that an open escape needs before a space

-- a text, with that comment behind it or without
pub record Padded (before : Before) (unclosed : Bool) (value : List ℕ) (tokens : List Tok) (passed : List Written) :
    Type 0 where
  pub end : Before
  pub segment : SheetSegment before (value ++ pad unclosed) tokens (passed ++ seams unclosed) end BeginsSpace

-- what may stand behind a text: a space where no escape is open, and else the comment
pub record Pads (value : List ℕ) (P : List ℕ → Type 0) : Type 0 where
  pub spaced : ends_unclosed value ≡ false → (rest : List ℕ) → P (sign " " ∷ rest)
  pub parted : ends_unclosed value ≡ true → (rest : List ℕ) → P (apart ++ rest)

pub value_pads : (value : List ℕ) → Pads value (Follows value)
value_pads value = record {
  spaced = λ e rest. record { stop = refl; closed = e };
  parted = λ e rest. record { stop = refl; closed = refl };
}

pub text_pads : (value : List ℕ) → Pads value (EndsText value)
text_pads value = record {
  spaced = λ e rest. record { ends = inl refl; closed = e };
  parted = λ e rest. record { ends = inr (e, rest, refl); closed = refl };
}

pub padded : {before end : Before} {value : List ℕ} {tokens : List Tok} {passed : List Written} {P : List ℕ → Type 0}
    (unclosed : Bool) → ends_unclosed value ≡ unclosed → (unclosed ≡ true → end ≡ befores.Other) → Pads value P
    → SheetSegment before value tokens passed end P → Padded before unclosed value tokens passed
padded {end = end} {value = value} {P = P} false e loose pads it = record {
  end = end;
  segment = as_text (sym (append-nil value))
      (as_passed (sym (append-nil _))
      (as_behind (λ after space. subst P (sym space.1) (pads.spaced e space.0)) it));
}
padded {before} {value = value} {tokens} {passed} {P} true e loose pads it = record {
  end = befores.White;
  segment = as_toks (append-nil _)
      (as_behind (λ after space. tt)
      (join (subst (λ (b : Before). SheetSegment before value tokens passed b P) (loose refl) it) (sheet apart_segment)
      (λ after ok. pads.parted e after)));
}
