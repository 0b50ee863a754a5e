-- What stands at a place of a text that begins with other text.
use Rattle.std.proofs.Common.{◌≡◌, ℕ, ◌+◌, ◌<◌, Bool, true, false, if◌then◌else◌, List, [], ◌∷◌, ◌++◌, length, Option, sym, ◌∙◌, ap, subst, arith, append_assoc, length-append}
use Rattle.std.specs.List.{list_all}
use Rattle.sw_text_scan.specs.declared.runs.Class.{Class}
use Rattle.sw_text_scan.specs.Bytes.{byte}
use Rattle.sw_text_scan.specs.Runs.{next, run_end}
use Rattle.sw_text_scan.proofs.Bounds.{if_true, if_false, and_left, and_right, run_step, run_stop}
use Rattle.sw_tokens.specs.declared.pieces.Before.{Before}
use Rattle.sw_tokens.specs.declared.pieces.Piece.{Piece}
use Rattle.sw_tokens.specs.declared.skips.Inside.{Inside}
use Rattle.sw_tokens.specs.Pieces.{piece}
use Rattle.sw_convert_spelling.proofs.MovedRuns.{byte_behind, first_byte, run_moved}
use Rattle.sw_convert_spelling.proofs.MovedPieces.{moved, piece_moved}

-- a run of a class that is told byte by byte
pub run_over : (c : Class) (f : ℕ → Bool)
    → ((bs : List ℕ) (i : ℕ) → next c bs i ≡ (if f (byte bs i) then i + 1 else i)) → (gap after : List ℕ)
    → list_all f gap ≡ true → f (byte after 0) ≡ false → run_end c (gap ++ after) 0 ≡ length gap
run_over c f told [] after all stop =
    run_stop after c 0 (let e = told after 0 ∙ if_false (f (byte after 0)) (0 + 1) 0 stop in omega (arith, e))
run_over c f told (b ∷ gap) after all stop =
    let first : f (byte (b ∷ (gap ++ after)) 0) ≡ true = ap f (first_byte b (gap ++ after)) ∙ and_left (f b) _ all in
    let goes : next c (b ∷ (gap ++ after)) 0 ≡ 1 =
    told (b ∷ (gap ++ after)) 0 ∙ if_true (f (byte (b ∷ (gap ++ after)) 0)) (0 + 1) 0 first in
    sym (run_step (b ∷ (gap ++ after)) c 0 (omega (arith, goes)))
    ∙ ap (run_end c (b ∷ (gap ++ after))) goes
    ∙ run_moved (b ∷ []) (gap ++ after) c 0
    ∙ ap (λ (n : ℕ). 1 + n) (run_over c f told gap after (and_right (f b) _ all) stop)
    ∙ (let e : 1 + length gap ≡ length (b ∷ gap) = omega arith in e)

module _ (bs : List ℕ) where
  -- from a place on there stands this
  pub record Behind (at : ℕ) (rest : List ℕ) : Type 0 where
    pub front : List ℕ
    pub is : front ++ rest ≡ bs
    pub at_is : length front ≡ at

  module _ {at : ℕ} {rest : List ℕ} (b : Behind at rest) where
    pub total : at + length rest ≡ length bs
    total = let e = length-append b.front rest in let f = ap length b.is in let g = b.at_is in omega (arith, e, f, g)

    pub byte_there : (k : ℕ) → byte bs (at + k) ≡ byte rest k
    byte_there k =
        ap (λ (xs : List ℕ). byte xs (at + k)) (sym b.is)
        ∙ ap (λ (i : ℕ). byte (b.front ++ rest) (i + k)) (sym b.at_is) ∙ byte_behind b.front rest k

    pub byte_first : byte bs at ≡ byte rest 0
    byte_first = ap (byte bs) (let e : at ≡ at + 0 = omega arith in e) ∙ byte_there 0

    pub within : 0 < length rest → at < length bs
    within some = let e = total in omega (arith, e, some)

    pub run_there : (c : Class) → run_end c bs at ≡ at + run_end c rest 0
    run_there c =
        ap (run_end c bs) (let e : at ≡ at + 0 = omega arith in e)
        ∙ ap (λ (xs : List ℕ). run_end c xs (at + 0)) (sym b.is)
        ∙ ap (λ (i : ℕ). run_end c (b.front ++ rest) (i + 0)) (sym b.at_is)
        ∙ run_moved b.front rest c 0 ∙ ap (λ (i : ℕ). i + run_end c rest 0) b.at_is

    pub piece_there : (inside : Inside) (before : Before) (o : Option Piece) → piece rest inside before 0 ≡ o
        → piece bs inside before at ≡ moved at o
    piece_there inside before o e =
        ap (piece bs inside before) (let p : at ≡ at + 0 = omega arith in p)
        ∙ ap (λ (xs : List ℕ). piece xs inside before (at + 0)) (sym b.is)
        ∙ ap (λ (i : ℕ). piece (b.front ++ rest) inside before (i + 0)) (sym b.at_is)
        ∙ piece_moved b.front rest inside before 0 ∙ ap (λ (i : ℕ). moved i (piece rest inside before 0)) b.at_is
        ∙ ap (moved at) e

  pub onward : {at : ℕ} {rest : List ℕ} (xs : List ℕ) → Behind at (xs ++ rest) → Behind (at + length xs) rest
  onward {at} {rest} xs b = record {
    front = b.front ++ xs;
    is = append_assoc b.front xs rest ∙ b.is;
    at_is = length-append b.front xs ∙ ap (λ (i : ℕ). i + length xs) b.at_is;
  }

  pub there : {at to : ℕ} {rest : List ℕ} → at ≡ to → Behind at rest → Behind to rest
  there {rest = rest} e b = subst (λ (i : ℕ). Behind i rest) e b

  pub reread : {at : ℕ} {rest more : List ℕ} → rest ≡ more → Behind at rest → Behind at more
  reread {at} e b = subst (λ (t : List ℕ). Behind at t) e b

  -- one byte on
  pub one_on : {at : ℕ} {b : ℕ} {rest : List ℕ} → Behind at (b ∷ rest) → Behind (at + 1) rest
  one_on {at} {b} h = there (let e : at + length (b ∷ []) ≡ at + 1 = omega arith in e) (onward (b ∷ []) h)

  pub byte_here : {at : ℕ} {b : ℕ} {rest : List ℕ} → Behind at (b ∷ rest) → byte bs at ≡ b
  byte_here {at} {b} {rest} h = byte_first h ∙ first_byte b rest
