-- The layout of a whole text that is lines.
use Rattle.std.proofs.Common.{◌≡◌, ℕ, ◌+◌, ◌*◌, false, List, [], ◌∷◌, ◌++◌, length, refl, sym, ◌∙◌, ap, arith}
use Rattle.std.specs.Prelude.{codes}
use Rattle.sw_tokens.specs.declared.pieces.Before.TheVariants as befores
use Rattle.sw_tokens.proofs.Cuts.{IsText}
use Rattle.sw_parse_layout.specs.declared.blocks.Entry.{Entry}
use Rattle.sw_parse_layout.specs.declared.sorts.Sort.TheVariants as sorts
use Rattle.sw_parse_layout.specs.Blocks.{entered, shut_blocks}
use Rattle.sw_parse_layout.specs.Layout.{finished, walk, start_at, told, layout}
use Rattle.sw_parse_layout.proofs.Progress.{walk_whole}
use Rattle.sw_convert_spelling.specs.Spelt.{text_of, placed_behind}
use Rattle.sw_convert_laid.specs.Rows.{Row, margin, blank_line, row_gap, rows_text, signs_behind, signs_of, placed, IsSheet, HasLayout}
use Rattle.sw_convert_laid.proofs.Going.{Finishes, then_finishes, at_end, finishes_so}
use Rattle.sw_convert_laid.proofs.Behind.{Behind, total, onward, there}
use Rattle.sw_convert_laid.proofs.Depths.{depths_of, no_blocks, first_line}
use Rattle.sw_convert_laid.proofs.Placed.{before_behind, placed_own}
use Rattle.sw_convert_laid.proofs.Rows.{row_goes, rows_finish}

module _ (bs : List ℕ) (is_text : IsText bs) where
  sheet_finishes : (rows : List Row) (at : ℕ) → Behind bs at (rows_text rows) → IsSheet rows
      → Finishes bs (start_at at) (placed befores.White at (signs_of rows))
  unfolding finished shut_blocks
  sheet_finishes [] at b is = at_end bs (start_at at) [] (let e = total bs b in omega (arith, e)) refl
  sheet_finishes (row ∷ rows) at b (level, blank, is, are) =
      let to = (at + length (blank_line row.blank)) + length (margin row.level) in
      let to_is : to ≡ at =
      ap (λ (t : ℕ). (at + t) + length (margin row.level)) (ap (λ x. length (blank_line x)) blank)
      ∙ ap (λ (k : ℕ). (at + 0) + length (margin k)) level ∙ (let e : (at + 0) + 0 ≡ at = omega arith in e) in
      let gone = row_goes bs is_text row (rows_text rows) at at sorts.Fresh no_blocks
      (let x : Entry = record { tokens = []; depths = depths_of row.level; wrong = false } in x) refl b is
      (ap (λ (k : ℕ). entered no_blocks at (2 * k) to) level ∙ first_line at to
      ∙ ap (λ (k : ℕ). let x : Entry = record { tokens = []; depths = depths_of k; wrong = false } in x) (sym level)) refl in
      finishes_so bs
      (ap (λ (k : ℕ). placed_behind befores.White k row.list
      ++ placed (before_behind befores.White row.list) (k + length (text_of row.list)) (signs_behind row.level rows)) to_is
      ∙ sym (placed_own row.list befores.White at (signs_behind row.level rows)))
      (then_finishes bs gone.goes
      (rows_finish bs is_text rows row.level (to + length (text_of row.list)) gone.sort gone.indent
      (before_behind befores.White row.list) gone.spaces refl
      (there bs (let e = to_is in let f = ends row blank level in omega (arith, e, f))
      (onward bs (codes "\n") (onward bs (text_of row.list) (onward bs (row_gap row) b)))) are))
    where
      ends : (row : Row) → row.blank ≡ false → row.level ≡ 0 → length (row_gap row) ≡ 0
      ends row blank level =
          ap (λ x. length (blank_line x ++ margin row.level)) blank ∙ ap (λ (k : ℕ). length (margin k)) level

pub laid_out : (bs : List ℕ) → IsText bs → (mark : List ℕ) (rows : List Row) → HasLayout bs mark rows
unfolding layout
laid_out bs is_text mark rows e marked is =
    let b : Behind bs (length mark) (rows_text rows) = record { front = mark; is = sym e; at_is = refl } in
    let f = sheet_finishes bs is_text rows (length mark) b is in
    ap told
    (sym (walk_whole bs is_text (f.count + 2 * length bs) (omega arith))
    ∙ ap (λ (k : ℕ). walk bs (f.count + 2 * length bs) (start_at k)) marked ∙ f.goes (2 * length bs))
