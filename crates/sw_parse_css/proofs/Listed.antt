-- One more token as the grammar sees it.
use Rattle.std.proofs.Common.{◌≡◌, ℕ, zero, suc, ◌+◌, ◌<◌, List, [], ◌∷◌, ◌++◌, Option, Some, None, refl, sym, ap, ◌∙◌, length, drop, drop-cons, add-one, inl, inr, append_assoc, append-nil}
use Rattle.std.proofs.lemmas.List.{drop_all}
use Rattle.std.proofs.lemmas.Option.{slice_get_within, slice_get_cases, get_or_from_slice_get}
use Rattle.std.specs.List.{slice_get}
use Rattle.sw_tokens.specs.declared.token.Token.{Token}
use Rattle.sw_parse_terminals.specs.declared.lexeme.Lexeme.{Lexeme}
use Rattle.sw_parse_css.specs.declared.state.State.{State}
use Rattle.sw_parse_css.specs.declared.pass.Reading.{Reading}
use Rattle.sw_parse_css.specs.Lexemes.{optional, read, lexemes_from}

next_is : (tokens : List Token) (at : ℕ) (token : Token) → Some token ≡ slice_get tokens at → drop at tokens ≡ token ∷ drop (at + 1) tokens
next_is tokens at token e =
    let lt : at < length tokens = slice_get_within tokens at token (sym e) in
    rw add-one (drop-cons tokens at token lt ∙ ap (λ (x : Token). x ∷ drop (suc at) tokens) (get_or_from_slice_get tokens at token token (sym e)))

module _ (bytes : List ℕ) (tokens : List Token) where
  from_one : (state : State) (at : ℕ) (token : Token) → Some token ≡ slice_get tokens at
      → lexemes_from bytes state at (drop at tokens) ≡ optional (read bytes state at token).lexeme ++ lexemes_from bytes (read bytes state at token).state (at + 1) (drop (at + 1) tokens)
  from_one state at token e = ap (lexemes_from bytes state at) (next_is tokens at token e)

  next_read : (state : State) (at : ℕ) (token : Token) (done whole : List Lexeme) → Some token ≡ slice_get tokens at
      → done ++ lexemes_from bytes state at (drop at tokens) ≡ whole
      → (done ++ optional (read bytes state at token).lexeme) ++ lexemes_from bytes (read bytes state at token).state (at + 1) (drop (at + 1) tokens) ≡ whole
  next_read state at token done whole e inv =
      rw append_assoc (sym (ap (λ (x : List Lexeme). done ++ x) (from_one state at token e)) ∙ inv)

  -- what was read of a token comes behind what was read before
  pub one_more : (state : State) (at : ℕ) (token : Token) (reading : Reading) (done new whole : List Lexeme) → Some token ≡ slice_get tokens at
      → reading ≡ read bytes state at token → new ≡ done ++ optional reading.lexeme → done ++ lexemes_from bytes state at (drop at tokens) ≡ whole
      → new ++ lexemes_from bytes reading.state (at + 1) (drop (at + 1) tokens) ≡ whole
  one_more state at token reading done new whole e r n inv =
      ap (λ (x : List Lexeme). x ++ lexemes_from bytes reading.state (at + 1) (drop (at + 1) tokens)) n
      ∙ ap (λ (x : Reading). (done ++ optional x.lexeme) ++ lexemes_from bytes x.state (at + 1) (drop (at + 1) tokens)) r
      ∙ next_read state at token done whole e inv

  pub all_read : (state : State) (at : ℕ) (done whole : List Lexeme) → None ≡ slice_get tokens at
      → done ++ lexemes_from bytes state at (drop at tokens) ≡ whole → done ≡ whole
  all_read state at done whole e inv =
      elim (slice_get_cases tokens at).1 [
        | inl (x, l, is, x2) ↦ absurd (cc)
        | inr (l, x) ↦ sym (append-nil done) ∙ ap (λ (rest : List Token). done ++ lexemes_from bytes state at rest) (sym (drop_all at tokens l)) ∙ inv
      ]
