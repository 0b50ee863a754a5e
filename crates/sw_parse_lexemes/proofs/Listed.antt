-- One more token by itself.
use Rattle.std.proofs.Common.{◌≡◌, ℕ, zero, suc, ◌+◌, ◌<◌, List, [], ◌∷◌, ◌++◌, Option, Some, None, Bool, true, false, if◌then◌else◌, refl, sym, ap, ◌∙◌, length, drop, drop-cons, add-one, inl, inr, append_assoc, append-nil}
use Rattle.std.proofs.lemmas.List.{drop_all}
use Rattle.std.proofs.lemmas.Option.{slice_get_within, slice_get_cases, get_or_from_slice_get}
use Rattle.std.specs.List.{slice_get}
use Rattle.std.specs.Str.{IsCharBoundary}
use Rattle.sw_tokens.specs.Ends.{opens}
use Rattle.sw_tokens.specs.Order.{StandsIn}
use Rattle.sw_tokens.specs.declared.token.Token.{Token}
use Rattle.sw_parse_lexemes.specs.declared.plain.Plain.{Plain}
use Rattle.sw_parse_lexemes.specs.Plains.{end_by, plain_of, plains_from}

pub next_is : (tokens : List Token) (at : ℕ) (token : Token) → Some token ≡ slice_get tokens at → drop at tokens ≡ token ∷ drop (at + 1) tokens
next_is tokens at token e =
    let lt : at < length tokens = slice_get_within tokens at token (sym e) in
    rw add-one (drop-cons tokens at token lt ∙ ap (λ (x : Token). x ∷ drop (suc at) tokens) (get_or_from_slice_get tokens at token token (sym e)))

pub head_is : (tokens : List Token) (at : ℕ) → slice_get (drop at tokens) 0 ≡ slice_get tokens at
head_is [] zero = refl
head_is [] (suc n) = refl
head_is (x ∷ xs) zero = refl
head_is (x ∷ xs) (suc n) = head_is xs n

-- the tokens from one on
from_one : (bytes : List ℕ) (tokens : List Token) (gap at : ℕ) (token : Token) → Some token ≡ slice_get tokens at
    → plains_from bytes gap (drop at tokens)
    ≡ plain_of bytes gap token (end_by token (slice_get tokens (at + 1))) ∷ plains_from bytes (end_by token (slice_get tokens (at + 1))) (drop (at + 1) tokens)
from_one bytes tokens gap at token e =
    ap (plains_from bytes gap) (next_is tokens at token e)
    ∙ ap (λ (next : Option Token). plain_of bytes gap token (end_by token next) ∷ plains_from bytes (end_by token next) (drop (at + 1) tokens)) (head_is tokens (at + 1))

pub plains_next : (bytes : List ℕ) (tokens : List Token) (gap at : ℕ) (token : Token) (done whole : List Plain) → Some token ≡ slice_get tokens at
    → done ++ plains_from bytes gap (drop at tokens) ≡ whole
    → (done ++ plain_of bytes gap token (end_by token (slice_get tokens (at + 1))) ∷ []) ++ plains_from bytes (end_by token (slice_get tokens (at + 1))) (drop (at + 1) tokens) ≡ whole
plains_next bytes tokens gap at token done whole e inv =
    rw append_assoc (sym (ap (λ (x : List Plain). done ++ x) (from_one bytes tokens gap at token e)) ∙ inv)

pub plains_step : (bytes : List ℕ) (tokens : List Token) (gap at to : ℕ) (token : Token) (plain : Plain) (done new whole : List Plain) → Some token ≡ slice_get tokens at
    → to ≡ end_by token (slice_get tokens (at + 1)) → plain ≡ plain_of bytes gap token to → new ≡ done ++ plain ∷ []
    → done ++ plains_from bytes gap (drop at tokens) ≡ whole → new ++ plains_from bytes to (drop (at + 1) tokens) ≡ whole
plains_step bytes tokens gap at to token plain done new whole e t p n inv =
    ap (λ (x : List Plain). x ++ plains_from bytes to (drop (at + 1) tokens)) (n ∙ ap (λ (y : Plain). done ++ y ∷ []) p)
    ∙ ap (λ (k : ℕ). (done ++ plain_of bytes gap token k ∷ []) ++ plains_from bytes k (drop (at + 1) tokens)) t
    ∙ plains_next bytes tokens gap at token done whole e inv

pub plains_all : (bytes : List ℕ) (tokens : List Token) (gap at : ℕ) (done whole : List Plain) → None ≡ slice_get tokens at
    → done ++ plains_from bytes gap (drop at tokens) ≡ whole → done ≡ whole
plains_all bytes tokens gap at done whole e inv =
    elim (slice_get_cases tokens at).1 [
      | inl (x, l, is, x2) ↦ absurd (cc)
      | inr (l, x) ↦ sym (append-nil done) ∙ ap (λ (rest : List Token). done ++ plains_from bytes gap rest) (sym (drop_all at tokens l)) ∙ inv
    ]

choose : (bytes : List ℕ) (b : Bool) (i j : ℕ) → IsCharBoundary bytes i → IsCharBoundary bytes j → IsCharBoundary bytes (if b then i else j)
choose bytes true i j p q = p
choose bytes false i j p q = q

pub end_boundary : (bytes : List ℕ) (token : Token) (next : Option Token) → StandsIn bytes token
    → ((t : Token) → next ≡ Some t → StandsIn bytes t) → IsCharBoundary bytes (end_by token next)
end_boundary bytes token None s n = s.to
end_boundary bytes token (Some t) s n = choose bytes (opens token.kind) t.from token.to (n t refl).from s.to

-- a token in which no others stand
pub end_plainly : (token : Token) (next : Option Token) → opens token.kind ≡ false → end_by token next ≡ token.to
end_plainly token None e = refl
end_plainly token (Some t) e = ap (λ (b : Bool). if b then t.from else token.to) e

pub plains_long : (bytes : List ℕ) (gap : ℕ) (tokens : List Token) → length (plains_from bytes gap tokens) ≡ length tokens
plains_long bytes gap [] = refl
plains_long bytes gap (token ∷ rest) = ap suc (plains_long bytes (end_by token (slice_get rest 0)) rest)
