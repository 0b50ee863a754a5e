-- The place at which a cursor stands.
use Rattle.std.proofs.Common.{◌≡◌, ℕ, ◌+◌, ◌-◌, ◌≤◌, List, length, take, drop, ap, sym, ◌∙◌, arith, length-take, length-drop}
use Rattle.std.proofs.Math.Seq.{take-add}
use Rattle.std.proofs.lemmas.List.{drop-append-le, drop_all}
use Rattle.sw_text.specs.Places.{Place, place_after, place_at, start, mark_length}
use Rattle.sw_text.proofs.Walks.{place_after-append}
use Rattle.sw_parse_lexemes.specs.declared.cursor.Cursor.{Cursor}
use Rattle.sw_parse_lexemes.specs.Cursors.{place_of, Stands}

-- the place at an offset, and what stands from there up to another
place_further : (bytes : List ℕ) (from at : ℕ) → mark_length bytes ≤ from → from ≤ at → at ≤ length bytes
    → place_after (place_at bytes from) (take (at - from) (drop from bytes)) ≡ place_at bytes at
unfolding place_at
place_further bytes from at marked le within =
    let e : from + (at - from) ≡ at = omega arith in
    let long : mark_length bytes ≤ length (take from bytes) = omega (arith, length-take from bytes) in
    sym (place_after-append start (drop (mark_length bytes) (take from bytes)) (take (at - from) (drop from bytes)))
    ∙ ap (place_after start) (sym (drop-append-le (mark_length bytes) (take from bytes) (take (at - from) (drop from bytes)) long))
    ∙ ap (λ (xs : List ℕ). place_after start (drop (mark_length bytes) xs)) (sym (take-add from (at - from) bytes))
    ∙ ap (λ (k : ℕ). place_after start (drop (mark_length bytes) (take k bytes))) e

-- nothing stands in front of what a byte order mark skips
place_within : (bytes : List ℕ) (at : ℕ) → at ≤ mark_length bytes → start ≡ place_at bytes at
unfolding place_at
place_within bytes at le =
    let short : length (take at bytes) ≤ mark_length bytes = omega (arith, length-take at bytes) in
    ap (place_after start) (sym (drop_all (mark_length bytes) (take at bytes) short))

-- at the start, up to behind a byte order mark
pub start_stands : (bytes : List ℕ) (at : ℕ) (cursor : Cursor) → at ≤ mark_length bytes → at ≤ length bytes → place_of cursor ≡ start → Stands bytes at cursor
start_stands bytes at cursor le within is =
    let line : cursor.line ≡ 1 = ap (λ (p : Place). p.line) is in
    let column : cursor.column ≡ 1 = ap (λ (p : Place). p.column) is in
    record {
      place = is ∙ place_within bytes at le;
      within = within;
      line = omega (arith, line);
      column = omega (arith, column);
    }

-- a walk from one cursor to an offset
pub walked : (bytes : List ℕ) (from at : ℕ) (near cursor : Cursor) → Stands bytes from near → mark_length bytes ≤ from → from ≤ at → at ≤ length bytes
    → place_of cursor ≡ place_after (place_of near) (take (at - from) (drop from bytes))
    → cursor.line ≤ near.line + length (take (at - from) (drop from bytes))
    → cursor.column ≤ near.column + length (take (at - from) (drop from bytes)) → Stands bytes at cursor
walked bytes from at near cursor stands marked le within place line column =
    let long : length (take (at - from) (drop from bytes)) ≡ at - from = simp (length-take, length-drop) (omega arith) in
    record {
      place = place ∙ ap (λ (p : Place). place_after p (take (at - from) (drop from bytes))) stands.place ∙ place_further bytes from at marked le within;
      within = within;
      line = omega (arith, line, long, stands.line, le);
      column = omega (arith, column, long, stands.column, le);
    }
