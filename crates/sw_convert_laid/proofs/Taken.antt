-- A token that the scan takes is taken by the walk of the layout too.
use Rattle.std.proofs.Common.{◌≡◌, ℕ, ◌+◌, ◌-◌, ◌<◌, Bool, true, false, ◌&&◌, ◌||◌, if◌then◌else◌, List, [], ◌∷◌, ◌++◌, length, take, Some, refl, sym, ◌∙◌, ap, subst, arith, length-append}
use Rattle.std.specs.Prelude.{◌==◌, slice_get}
use Rattle.std.proofs.Math.Seq.{get_or-append_seam, take-append_seam}
use Rattle.std.proofs.lemmas.Bool.Decides.{nat_tests}
use Rattle.std.proofs.lemmas.Option.{slice_get-get_or}
use Rattle.sw_text_scan.specs.Bytes.{sign, byte, is_break, is_white, is_quote, opens_at, begins_silent, begins_loud, ends_loud}
use Rattle.sw_text_scan.specs.Runs.{run_end}
use Rattle.sw_text_scan.specs.declared.runs.Class.TheVariants as classes
use Rattle.sw_text_scan.proofs.Bounds.{if_true, if_false, and_left}
use Rattle.sw_tokens.specs.declared.pieces.Before.{Before}
use Rattle.sw_tokens.specs.declared.pieces.Change.{Change}
use Rattle.sw_tokens.specs.declared.pieces.Change.TheVariants as changes
use Rattle.sw_tokens.specs.declared.scan.Opened.{Opened}
use Rattle.sw_tokens.specs.declared.skips.Inside.{Inside}
use Rattle.sw_tokens.specs.declared.skips.Inside.TheVariants as insides
use Rattle.sw_tokens.specs.declared.token.Syntax.TheVariants as syntaxes
use Rattle.sw_tokens.specs.declared.token.TokenKind.{TokenKind}
use Rattle.sw_tokens.specs.declared.token.TokenKind.TheVariants as kinds
use Rattle.sw_tokens.specs.Pieces.{made, made_white, loud_piece, word_piece, code_piece, piece}
use Rattle.sw_tokens.specs.Tokens.{top, inside_of, changed}
use Rattle.sw_convert_spelling.specs.Spelt.{innermost, opened}
use Rattle.sw_convert_spelling.proofs.Choices.{left_no, no_white_piece, unlike}
use Rattle.sw_convert_laid.specs.Heads.{is_comment, opens_comment}

-- ---- what is open

-- the stack of a walk, and what is open in it, the innermost first
pub data Holds : List Opened → List Inside → Type 0 where
  nothing : Holds [] []
  more : {os : List Opened} {stack : List Inside} (o : Opened) → Holds os stack → Holds (os ++ o ∷ []) (o.inside ∷ stack)

last_of : (os : List Opened) (o : Opened) → length (os ++ o ∷ []) - 1 ≡ length os
last_of os o = let e = length-append os (o ∷ []) in omega (arith, e)

pub some_open : (os : List Opened) (o : Opened) → (length (os ++ o ∷ []) == 0) ≡ false
some_open os o = go (length (os ++ o ∷ [])) (let e = length-append os (o ∷ []) in omega (arith, e))
  where
    go : (n : ℕ) → 0 < n → (n == 0) ≡ false
    go n l = grind (arith, nat_tests)

pub top_is : (os : List Opened) (stack : List Inside) → Holds os stack → top syntaxes.Scss os ≡ innermost stack
unfolding top
top_is os stack nothing = refl
top_is os stack (more {os = front} o h) =
    ap (inside_of syntaxes.Scss)
    (ap (slice_get (front ++ o ∷ [])) (last_of front o)
    ∙ slice_get-get_or (front ++ o ∷ []) (length front) o (let e = length-append front (o ∷ []) in omega (arith, e))
    ∙ ap Some (get_or-append_seam front o [] o))

pub changed_holds : (os : List Opened) (stack : List Inside) (change : Change) (at : ℕ) → Holds os stack
    → Holds (changed os change at) (opened stack change)
changed_holds os stack changes.Keep at h = h
changed_holds os stack (changes.Push inside) at h = more (record { start = at; inside = inside }) h
changed_holds os stack changes.Pop at nothing = nothing
changed_holds os stack changes.Pop at (more {os = front} {stack = outer} o h) =
    subst (λ (xs : List Opened). Holds xs outer)
    (sym (ap (λ (n : ℕ). take n (front ++ o ∷ [])) (last_of front o) ∙ take-append_seam front (o ∷ []))) h

-- ---- a token outside strings, urls and `#{}`

module _ (bs : List ℕ) (before : Before) (at to : ℕ) (kind : TokenKind) (change : Change)
    (e : piece bs insides.Sheet before at ≡ made kind to change) where
  pub no_white : is_white (byte bs at) ≡ false
  unfolding code_piece
  no_white = go (is_white (byte bs at)) refl
    where
      go : (t : Bool) → is_white (byte bs at) ≡ t → t ≡ false
      go true w = no_white_piece (run_end classes.White bs at) (sym (if_true (is_white (byte bs at)) _ _ w) ∙ e)
      go false w = refl

  pub no_break : is_break (byte bs at) ≡ false
  no_break = no_break_of (byte bs at) no_white
    where
      no_break_of : (b : ℕ) → is_white b ≡ false → is_break b ≡ false
      no_break_of b w = grind (arith, nat_tests)

  slash_quote : (b : ℕ) → (b == sign "/") ≡ true → is_quote b ≡ false
  slash_quote b s = grind (arith, nat_tests)

  slash_hash : (b : ℕ) → (b == sign "/") ≡ true → (b == sign "#") ≡ false
  slash_hash b s = grind (arith, nat_tests)

  slash_brace : (b : ℕ) → (b == sign "/") ≡ true → (b == sign "}") ≡ false
  slash_brace b s = grind (arith, nat_tests)

  -- at a `/` it is a comment or a word
  at_slash : (byte bs at == sign "/") ≡ true
      → (if begins_silent bs at then made_white (run_end classes.Line bs (at + 2))
      else (if begins_loud bs at then loud_piece bs at else word_piece bs insides.Sheet before at)) ≡ made kind to change
  unfolding code_piece
  at_slash s =
      sym (if_false (is_white (byte bs at)) _ _ no_white
      ∙ if_false (is_quote (byte bs at)) _ _ (slash_quote (byte bs at) s)
      ∙ if_false (opens_at bs at) _ _ (left_no (byte bs at == sign "#") _ (slash_hash (byte bs at) s))
      ∙ if_false ((byte bs at == sign "}") && false) _ _ (left_no (byte bs at == sign "}") _ (slash_brace (byte bs at) s)))
      ∙ e

  pub no_silent : begins_silent bs at ≡ false
  no_silent = go (begins_silent bs at) refl
    where
      go : (t : Bool) → begins_silent bs at ≡ t → t ≡ false
      go true s =
          no_white_piece (run_end classes.Line bs (at + 2))
          (sym (if_true (begins_silent bs at) _ _ s) ∙ at_slash (and_left (byte bs at == sign "/") _ s))
      go false s = refl

  loud_kind : loud_piece bs at ≡ made kind to change → (is_comment kind || opens_comment kind) ≡ true
  unfolding loud_piece
  loud_kind f = go (ends_loud bs (run_end classes.Comment bs (at + 2))) f
    where
      go : (t : Bool)
          → (if t then made kinds.Comment (run_end classes.Comment bs (at + 2) + 2) changes.Keep
          else made kinds.CommentTemplate (at + 2) (changes.Push insides.Comment)) ≡ made kind to change
          → (is_comment kind || opens_comment kind) ≡ true
      go true g = unlike (λ k. is_comment k || opens_comment k) kinds.Comment _ changes.Keep g
      go false g = unlike (λ k. is_comment k || opens_comment k) kinds.CommentTemplate _ (changes.Push insides.Comment) g

  -- a comment is told by its kind
  pub no_loud : (is_comment kind || opens_comment kind) ≡ false → begins_loud bs at ≡ false
  no_loud k = go (begins_loud bs at) refl
    where
      go : (t : Bool) → begins_loud bs at ≡ t → t ≡ false
      go true l =
          let it = at_slash (and_left (byte bs at == sign "/") _ l) in
          let kind_is = loud_kind (sym (if_true (begins_loud bs at) _ _ l) ∙ sym (if_false (begins_silent bs at) _ _ no_silent) ∙ it) in
          absurd (cc)
      go false l = refl
