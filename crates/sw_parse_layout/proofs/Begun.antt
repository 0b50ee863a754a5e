-- What a walk lays first behind the beginning of a statement.
use Rattle.std.proofs.Common.{◌≡◌, ℕ, zero, suc, ◌+◌, ◌-◌, ◌*◌, ◌≤◌, ◌<◌, true, false, List, [], ◌∷◌, ◌++◌, refl, sym, subst, ◌∙◌, ap, arith, length, Option, Some, None, Result, Ok, Err}
use Rattle.std.specs.Prelude.{◌==◌, nat_lt}
use Rattle.std.proofs.lemmas.Bool.Decides.{nat_tests}
use Rattle.sw_text_scan.specs.Bytes.{byte, is_break, is_white, begins_silent, begins_loud}
use Rattle.sw_tokens.specs.declared.skips.Inside.TheVariants as insides
use Rattle.sw_tokens.specs.declared.token.Syntax.TheVariants as syntaxes
use Rattle.sw_tokens.specs.declared.token.TokenKind.{TokenKind}
use Rattle.sw_tokens.specs.declared.token.TokenKind.TheVariants as kinds
use Rattle.sw_tokens.specs.declared.token.Token.{Token}
use Rattle.sw_tokens.specs.declared.pieces.Before.TheVariants as befores
use Rattle.sw_tokens.specs.declared.pieces.Piece.{Piece}
use Rattle.sw_tokens.specs.declared.scan.Opened.{Opened}
use Rattle.sw_tokens.specs.Pieces.{piece}
use Rattle.sw_tokens.specs.Tokens.{top}
use Rattle.sw_text_scan.proofs.Bounds.{if_true, if_false}
use Rattle.sw_tokens.proofs.Forward.{piece_onward}
use Rattle.sw_parse_layout.specs.declared.sorts.Sort.TheVariants as sorts
use Rattle.sw_parse_layout.specs.declared.laid.Laid.{Laid}
use Rattle.sw_parse_layout.specs.declared.state.State.{State}
use Rattle.sw_parse_layout.specs.Laid.{behind}
use Rattle.sw_parse_layout.specs.Pieces.{renamed, kept_behind, piece_found, piece_taken, piece_step, is_outside}
use Rattle.sw_parse_layout.specs.Steps.{statement_step, statement_begun, step}
use Rattle.sw_parse_layout.specs.Layout.{walk_on, walk}
use Rattle.sw_parse_layout.specs.Laws.{opens_comment, FirstAt, is_comment}
use Rattle.sw_parse_layout.proofs.Progress.{weight, weight_of, busy_statement}
use Rattle.sw_parse_layout.proofs.Firsts.{Tells, token, fails, code_tells}
use Rattle.sw_parse_layout.proofs.Stepping.{long_own}

-- tokens whose first stands at a place and opens no comment
pub record Begins (at : ℕ) (ts : List Token) : Type 0 where
  pub first : FirstAt at ts
  pub plain : is_comment ts ≡ false

abbrev pub BeginsIn : ℕ → Result Laid ℕ → Type 0
BeginsIn at (Ok l) = Begins at l.tokens
BeginsIn at (Err k) = Unit {0}

more_begins : (at : ℕ) (ts us : List Token) → Begins at ts → Begins at (ts ++ us)
more_begins at [] us b = absurd b.first
more_begins at (t ∷ ts) us b = record { first = b.first; plain = b.plain }

behind_begins : (at : ℕ) (x : Laid) (r : Result Laid ℕ) → Begins at x.tokens → BeginsIn at (behind x r)
behind_begins at x (Ok y) b = more_begins at x.tokens y.tokens b
behind_begins at x (Err k) b = tt

-- a token keeps its kind, but for `=` and `+`
data Renames : Option TokenKind → Type 0 where
  to : {kind : TokenKind} → opens_comment kind ≡ false → Renames (Some kind)

renames : (kind : TokenKind) → opens_comment kind ≡ false → Renames (renamed sorts.Fresh (Some kind))
renames kinds.Equals e = to refl
renames kinds.Plus e = to refl
renames kind e = to e

kept_begins : (at end : ℕ) (o : Option TokenKind) → at < end → Renames o
    → Begins at (kept_behind [] o at end befores.White)
kept_begins at end None l r = elim r [ ]
kept_begins at end (Some kind) l (to e) = record { first = (refl, long_own kind at end l); plain = e }

pub none_open : (os : List Opened) → (length os == 0) ≡ true → os ≡ []
none_open [] e = refl
none_open (o ∷ os) e = absurd (some (length os) e)
  where
    some : (n : ℕ) → (suc n == 0) ≡ true → ⊥
    some n e = grind (arith, nat_tests)

pub top_ground : top syntaxes.Scss [] ≡ insides.Sheet
unfolding top
top_ground = refl

module _ (bs : List ℕ) (s : State) (at : ℕ) (outside : is_outside s.line ≡ true) (within : at < length bs)
    (white : is_white (byte bs at) ≡ false) (silent : begins_silent bs at ≡ false) (loud : begins_loud bs at ≡ false) where
  unbroken : (b : ℕ) → is_white b ≡ false → is_break b ≡ false
  unbroken b e = grind (arith, nat_tests)

  first_step : step bs (statement_begun bs s at).state ≡ piece_step bs (statement_begun bs s at).state
  unfolding step statement_step
  first_step =
      if_true (is_outside s.line) _ _ outside ∙ if_false (is_break (byte bs at)) _ _ (unbroken (byte bs at) white)
      ∙ if_false (is_white (byte bs at)) _ _ white
      ∙ if_false (begins_silent bs at) _ _ silent
      ∙ if_false (begins_loud bs at) _ _ loud

  ground : top syntaxes.Scss s.line.opened ≡ insides.Sheet
  ground = ap (top syntaxes.Scss) (none_open s.line.opened outside) ∙ top_ground

  piece_tells : Tells (piece bs (top syntaxes.Scss s.line.opened) befores.White at)
  piece_tells = subst (λ i. Tells (piece bs i befores.White at)) (sym ground) (code_tells bs at befores.White white silent loud)

  first_piece : (on : State → Result Laid ℕ) → BeginsIn at (walk_on on (piece_step bs (statement_begun bs s at).state))
  unfolding piece_step piece_found
  first_piece on = go (piece bs (top syntaxes.Scss s.line.opened) befores.White at) refl piece_tells
    where
      go : (o : Option Piece) → piece bs (top syntaxes.Scss s.line.opened) befores.White at ≡ o → Tells o
          → BeginsIn at (walk_on on (piece_taken (statement_begun bs s at).state o))
      go None e fails = tt
      go (Some p) e (token kind is dark) =
          let forward = (piece_onward bs (top syntaxes.Scss s.line.opened) befores.White at p within e).forward in
          behind_begins at (piece_found (statement_begun bs s at).state p).laid (on (piece_found (statement_begun bs s
          at).state p).state)
          (kept_begins at p.to (renamed sorts.Fresh p.token) (omega arith) (subst (λ (o : Option TokenKind). Renames
          (renamed sorts.Fresh o)) (sym is) (renames kind dark)))

  pub first_laid : (n : ℕ) → 2 * length bs ≤ n + weight (statement_begun bs s at).state
      → BeginsIn at (walk bs n (statement_begun bs s at).state)
  first_laid zero l =
      let a = weight_of (statement_begun bs s at).state in
      let b = busy_statement (at - s.at) in absurd (omega arith)
  first_laid (suc n) l =
      subst (BeginsIn at) (sym (if_true (nat_lt at (length bs)) _ _ (grind (arith, nat_tests)) ∙ ap (walk_on (walk bs
      n)) first_step)) (first_piece (walk bs n))
