-- Tokens behind one another.
use Rattle.std.proofs.Common.{◌≡◌, ℕ, suc, Bool, true, false, List, [], ◌∷◌, ◌++◌, Some, refl, sym, ◌∙◌, ap, subst, append_assoc}
use Rattle.sw_tokens.specs.declared.pieces.Before.{Before}
use Rattle.sw_tokens.specs.declared.skips.Inside.{Inside}
use Rattle.sw_tokens.specs.Tokens.{before_of}
use Rattle.sw_parse_table.specs.declared.source.Source.{Source}
use Rattle.sw_convert_spelling.specs.Spelt.{behind_gap, innermost, opened, IsToken}
use Rattle.sw_convert_written.specs.Escapes.{apart}
use Rattle.sw_convert_passing.specs.Written.{Written}
use Rattle.sw_convert_again.specs.Tokens.{Tok}
use Rattle.sw_convert_tokens.specs.Joints.{Joint, Token, Apart, Segment, spelt_of, text, behind, Direct, Stand, written_of, writtens, toks, Sits, Sit, Tell}

pub text_append : (xs ys : List Joint) → text (xs ++ ys) ≡ text xs ++ text ys
text_append [] ys = refl
text_append (x ∷ xs) ys =
    let gap = (spelt_of x).gap in
    let bytes = (spelt_of x).bytes in
    ap (λ (t : List ℕ). gap ++ (bytes ++ t)) (text_append xs ys)
    ∙ ap (λ (t : List ℕ). gap ++ t) (sym (append_assoc bytes (text xs) (text ys)))
    ∙ sym (append_assoc gap (bytes ++ text xs) (text ys))

pub text_behind : (xs ys : List Joint) (after : List ℕ) → text (xs ++ ys) ++ after ≡ text xs ++ (text ys ++ after)
text_behind xs ys after = ap (λ (t : List ℕ). t ++ after) (text_append xs ys) ∙ append_assoc (text xs) (text ys) after

pub writtens_append : (xs ys : List Joint) → writtens (xs ++ ys) ≡ writtens xs ++ writtens ys
writtens_append [] ys = refl
writtens_append (x ∷ xs) ys = ap (λ (t : List Written). written_of x ∷ t) (writtens_append xs ys)

pub toks_append : (xs ys : List Joint) → toks (xs ++ ys) ≡ toks xs ++ toks ys
toks_append [] ys = refl
toks_append (Token seen ∷ xs) ys =
    ap (λ (t : List Tok). record { kinds = seen.may_be; said = seen.said } ∷ t) (toks_append xs ys)
toks_append (Apart ∷ xs) ys = toks_append xs ys

pub behind_append : (before : Before) (xs ys : List Joint) → behind before (xs ++ ys) ≡ behind (behind before xs) ys
behind_append before [] ys = refl
behind_append before (x ∷ xs) ys = behind_append (before_of (Some (spelt_of x).kind)) xs ys

direct_more : (xs ys : List Joint) → Direct xs → Direct (xs ++ ys)
direct_more [] ys d = absurd d
direct_more (x ∷ xs) ys d = d

pub stand_append : (stack mid end : List Inside) (before : Before) (xs ys : List Joint) (after : List ℕ)
    → Stand stack before xs mid (text ys ++ after) → Stand mid (behind before xs) ys end after
    → Stand stack before (xs ++ ys) end after
stand_append stack mid end before [] ys after is more =
    subst (λ (s : List Inside). Stand s before ys end after) (sym is) more
stand_append stack mid end before (x ∷ xs) ys after (gap, some, told, opening, token, rest) more = (
  gap,
  some,
  told,
  λ e. direct_more xs ys (opening e),
  subst (λ (t : List ℕ). IsToken (innermost stack) (behind_gap before (spelt_of x).gap) (spelt_of x) t)
      (sym (text_behind xs ys after)) token,
  stand_append (opened stack (spelt_of x).change) mid end (before_of (Some (spelt_of x).kind)) xs ys after rest more,
)

pub sit_left : (source : Source) (commented : Bool) (at : ℕ) (front : List ℕ) (xs ys : List Joint) (after : List ℕ)
    → Sit source commented at front (xs ++ ys) after → Sit source commented at front xs (text ys ++ after)
sit_left source commented at front [] ys after sit = tt
sit_left source commented at front (Token seen ∷ xs) ys after (sits, more) = (
  subst (λ (t : List ℕ). Sits source commented at (front ++ seen.gap) seen t) (text_behind xs ys after) sits,
  sit_left source false (suc at) ((front ++ seen.gap) ++ seen.bytes) xs ys after more,
)
sit_left source commented at front (Apart ∷ xs) ys after more =
    sit_left source true at (front ++ apart) xs ys after more

pub tell_append : (xs ys : List Joint) → Tell xs → Tell ys → Tell (xs ++ ys)
tell_append [] ys told more = more
tell_append (Token seen ∷ xs) ys (one, told) more = (
  λ source commented at front after sit.
      one source commented at front (text ys ++ after)
      (sit_left source commented at front (Token seen ∷ xs) ys after sit),
  tell_append xs ys told more,
)
tell_append (Apart ∷ xs) ys told more = tell_append xs ys told more

-- ---- segments

-- a segment and another behind it
pub join : {before mid end : Before} {xs ys : List ℕ} {ks ls : List Tok} {vs ws : List Written} {P Q : List ℕ → Type 0}
    → Segment before xs ks vs mid P → Segment mid ys ls ws end Q → ((after : List ℕ) → Q after → P (ys ++ after))
    → Segment before (xs ++ ys) (ks ++ ls) (vs ++ ws) end Q
join {before} {mid} {end} {xs} {ys} {ks} {ls} {vs} {ws} {P} {Q} a b fits = record {
  joints = a.joints ++ b.joints;
  spelling = text_append a.joints b.joints ∙ ap (λ (t : List ℕ). t ++ text b.joints) a.spelling
      ∙ ap (λ (t : List ℕ). xs ++ t) b.spelling;
  seen = toks_append a.joints b.joints ∙ ap (λ (t : List Tok). t ++ toks b.joints) a.seen
      ∙ ap (λ (t : List Tok). ks ++ t) b.seen;
  written = writtens_append a.joints b.joints ∙ ap (λ (t : List Written). t ++ writtens b.joints) a.written
      ∙ ap (λ (t : List Written). vs ++ t) b.written;
  last = behind_append before a.joints b.joints ∙ ap (λ (m : Before). behind m b.joints) a.last ∙ b.last;
  tells = tell_append a.joints b.joints a.tells b.tells;
  stand = λ stack after code ok.
      stand_append stack stack stack before a.joints b.joints after
      (a.stand stack (text b.joints ++ after) code
      (subst (λ (t : List ℕ). P (t ++ after)) (sym b.spelling) (fits after ok)))
      (subst (λ (m : Before). Stand stack m b.joints stack after) (sym a.last) (b.stand stack after code ok));
}

-- the same segment, of which more is known
pub as_text : {before end : Before} {xs ys : List ℕ} {ks : List Tok} {vs : List Written} {P : List ℕ → Type 0} → xs ≡ ys
    → Segment before xs ks vs end P → Segment before ys ks vs end P
as_text {before} {end} {xs} {ys} {ks} {vs} {P} e a = subst (λ (t : List ℕ). Segment before t ks vs end P) e a

pub as_toks : {before end : Before} {xs : List ℕ} {ks ls : List Tok} {vs : List Written} {P : List ℕ → Type 0} → ks ≡ ls
    → Segment before xs ks vs end P → Segment before xs ls vs end P
as_toks {before} {end} {xs} {ks} {ls} {vs} {P} e a = subst (λ (t : List Tok). Segment before xs t vs end P) e a

-- where fewer texts may stand behind it
pub as_behind : {before end : Before} {xs : List ℕ} {ks : List Tok} {vs : List Written} {P Q : List ℕ → Type 0}
    → ((after : List ℕ) → Q after → P after) → Segment before xs ks vs end P → Segment before xs ks vs end Q
as_behind fits a = record {
  joints = a.joints;
  spelling = a.spelling;
  seen = a.seen;
  written = a.written;
  last = a.last;
  tells = a.tells;
  stand = λ stack after code ok. a.stand stack after code (fits after ok);
}
