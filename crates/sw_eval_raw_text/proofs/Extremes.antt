-- `min` and `max` in special text, a piece at a time.
use Rattle.std.proofs.Common.{◌≡◌, ℕ, ◌+◌, ◌<◌, ◌≤◌, Bool, true, false, not, ◌&&◌, List, [], ◌∷◌, ◌++◌, length, length-drop, drop, get_or, Result, Ok, Err, refl, sym, ◌∙◌, ap, arith}
use Rattle.std.specs.Prelude.{IsErr, IsErrAnd, if◌then◌else◌, slice_get}
use Rattle.sw_text.specs.declared.fault.Fault.{Fault}
use Rattle.sw_text.specs.declared.place.Span.{Span}
use Rattle.sw_tree.specs.declared.text.Piece.{Piece}
use Rattle.sw_values.specs.declared.plain.Plain.{Plain}
use Rattle.sw_builtins.specs.declared.built_in.BuiltIn.{BuiltIn}
use Rattle.sw_eval_literals.specs.declared.refused.Refused.{Refused}
use Rattle.sw_eval_literals.specs.Answers.{Answer, Returns}
use Rattle.sw_eval_calls.proofs.Items.{next_item, drop_all}
use Rattle.sw_eval_raw_text.specs.Imports.{is_text}
use Rattle.sw_eval_raw_text.specs.Special.{fits, lists_values, piece_text, had, written_pieces, written_out, behind_piece, all_compared, computed, is_incomparable, or_written, extremum_value}
use Rattle.sw_eval_calls.proofs.Answering.{refused_then}
use Rattle.sw_text_scan.proofs.Bounds.{if_true, if_false}

-- ---- which calls are computed

more_of : (is_behind : Bool) (p : Piece) (rest : List Piece) → 0 < length rest → lists_values is_behind (p ∷ rest) ≡ (fits is_behind false p && lists_values (not is_behind) rest)
more_of is_behind p [] lt = absurd (omega arith)
more_of is_behind p (q ∷ rest) lt = refl

piece_more : (ps : List Piece) (i : ℕ) (p : Piece) (is_behind : Bool) → i + 1 < length ps → p ≡ get_or ps i p
    → lists_values is_behind (drop i ps) ≡ (fits is_behind false p && lists_values (not is_behind) (drop (i + 1) ps))
piece_more ps i p is_behind lt is =
    ap (lists_values is_behind) (next_item ps i p (omega arith) is) ∙ more_of is_behind p (drop (i + 1) ps) (omega (arith, length-drop (i + 1) ps))

pub piece_wrong : (ps : List Piece) (i : ℕ) (p : Piece) (is_behind : Bool) → i + 1 < length ps → p ≡ get_or ps i p → fits is_behind false p ≡ false → lists_values is_behind (drop i ps) ≡ false
piece_wrong ps i p is_behind lt is e = piece_more ps i p is_behind lt is ∙ ap (λ (b : Bool). b && lists_values (not is_behind) (drop (i + 1) ps)) e

pub piece_on : (ps : List Piece) (i : ℕ) (p : Piece) (is_behind : Bool) → i + 1 < length ps → p ≡ get_or ps i p → fits is_behind false p ≡ true
    → lists_values (not is_behind) (drop (i + 1) ps) ≡ lists_values is_behind (drop i ps)
piece_on ps i p is_behind lt is e = sym (piece_more ps i p is_behind lt is ∙ ap (λ (b : Bool). b && lists_values (not is_behind) (drop (i + 1) ps)) e)

pub last_piece : (ps : List Piece) (i : ℕ) (p : Piece) (is_behind : Bool) → i + 1 ≡ length ps → p ≡ get_or ps i p → lists_values is_behind (drop i ps) ≡ fits is_behind true p
last_piece ps i p is_behind e is = rw (next_item ps i p (omega arith) is, drop_all ps (i + 1) (omega arith)) refl

-- ---- what they give

one_at_most : (b : Bool) (n : ℕ) → (if b then n else n + 1) ≤ n + 1
one_at_most true n = omega arith
one_at_most false n = omega arith

pub had_one : (p : Piece) (n : ℕ) → had p n ≤ n + 1
had_one p n = one_at_most (is_text p) n

pub written_next : (done : List (List ℕ)) (ps : List Piece) (vs : List Plain) (i next : ℕ) (p : Piece) (text : List ℕ) → i < length ps → p ≡ get_or ps i p → piece_text p (slice_get vs next) ≡ Ok text
    → written_pieces done (drop i ps) vs next ≡ written_pieces (done ++ text ∷ []) (drop (i + 1) ps) vs (had p next)
written_next done ps vs i next p text lt is e = rw (next_item ps i p lt is, e) refl

pub written_refused : (done : List (List ℕ)) (ps : List Piece) (vs : List Plain) (i next : ℕ) (p : Piece) (e : Refused) (r : Result (List (List ℕ)) Refused) → i < length ps → p ≡ get_or ps i p
    → Returns {A = List ℕ} (Err e) (piece_text p (slice_get vs next)) → IsErr r × IsErrAnd r (λ x. x ≡ e) → Returns r (written_pieces done (drop i ps) vs next)
written_refused done ps vs i next p e r lt is gave q =
    rw (next_item ps i p lt is) (refused_then (piece_text p (slice_get vs next)) (λ text. written_pieces (done ++ text ∷ []) (drop (i + 1) ps) vs (had p next)) e r gave q)

pub written_end : (done : List (List ℕ)) (ps : List Piece) (vs : List Plain) (i next : ℕ) → length ps ≤ i → written_pieces done (drop i ps) vs next ≡ Ok done
written_end done ps vs i next le = rw (drop_all ps i le) refl

-- what is compared

pub compared_next : (done more : List Plain) (ps : List Piece) (vs : List Plain) (i next : ℕ) (p : Piece) → i < length ps → p ≡ get_or ps i p → behind_piece done p (slice_get vs next) ≡ Ok more
    → all_compared done (drop i ps) vs next ≡ all_compared more (drop (i + 1) ps) vs (had p next)
compared_next done more ps vs i next p lt is e = rw (next_item ps i p lt is, e) refl

pub compared_refused : (done : List Plain) (ps : List Piece) (vs : List Plain) (i next : ℕ) (p : Piece) (e : Refused) (r : Result (List Plain) Refused) → i < length ps → p ≡ get_or ps i p
    → Returns {A = List Plain} (Err e) (behind_piece done p (slice_get vs next)) → IsErr r × IsErrAnd r (λ x. x ≡ e) → Returns r (all_compared done (drop i ps) vs next)
compared_refused done ps vs i next p e r lt is gave q =
    rw (next_item ps i p lt is) (refused_then (behind_piece done p (slice_get vs next)) (λ more. all_compared more (drop (i + 1) ps) vs (had p next)) e r gave q)

pub compared_end : (done : List Plain) (ps : List Piece) (vs : List Plain) (i next : ℕ) → length ps ≤ i → all_compared done (drop i ps) vs next ≡ Ok done
compared_end done ps vs i next le = rw (drop_all ps i le) refl

pub as_computed : (f : BuiltIn) (ps : List Piece) (vs : List Plain) (span : Span) (v : Plain) → computed f ps vs span ≡ Ok v → extremum_value f ps vs span ≡ Ok v
unfolding extremum_value
as_computed f ps vs span v is = ap (λ (r : Answer Plain). or_written r ps vs span) is

pub as_written : (f : BuiltIn) (ps : List Piece) (vs : List Plain) (span : Span) (fault : Fault) → computed f ps vs span ≡ Err fault → is_incomparable fault.code ≡ true
    → extremum_value f ps vs span ≡ written_out ps vs span
unfolding extremum_value
as_written f ps vs span fault is e =
    ap (λ (r : Answer Plain). or_written r ps vs span) is ∙ if_true (is_incomparable fault.code) (written_out ps vs span) (Err fault) e

pub as_refused : (f : BuiltIn) (ps : List Piece) (vs : List Plain) (span : Span) (fault : Fault) → computed f ps vs span ≡ Err fault → is_incomparable fault.code ≡ false
    → extremum_value f ps vs span ≡ Err fault
unfolding extremum_value
as_refused f ps vs span fault is e =
    ap (λ (r : Answer Plain). or_written r ps vs span) is ∙ if_false (is_incomparable fault.code) (written_out ps vs span) (Err fault) e
