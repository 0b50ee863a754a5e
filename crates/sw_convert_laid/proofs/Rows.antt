-- The walk over lines, one below the other, to the end of the text.
use Rattle.std.proofs.Common.{◌≡◌, ℕ, suc, ◌+◌, ◌-◌, ◌*◌, ◌<◌, ◌≤◌, Bool, true, false, List, [], ◌∷◌, ◌++◌, length, Option, Result, Ok, refl, sym, ◌∙◌, ap, subst, arith, append_assoc, append-nil, length-append}
use Rattle.std.specs.Prelude.{nat_lt, codes}
use Rattle.std.proofs.lemmas.Bool.Decides.{nat_tests}
use Rattle.sw_text_scan.proofs.Bounds.{if_true, if_false}
use Rattle.sw_tokens.specs.declared.pieces.Before.{Before}
use Rattle.sw_tokens.specs.declared.pieces.Before.TheVariants as befores
use Rattle.sw_tokens.specs.declared.skips.Inside.TheVariants as insides
use Rattle.sw_tokens.specs.declared.token.Token.{Token}
use Rattle.sw_tokens.specs.declared.token.TokenKind.TheVariants as kinds
use Rattle.sw_tokens.proofs.Cuts.{IsText}
use Rattle.sw_parse_layout.specs.declared.blocks.Blocks.{Blocks}
use Rattle.sw_parse_layout.specs.declared.blocks.Entry.{Entry}
use Rattle.sw_parse_layout.specs.declared.blocks.Indent.{Indent}
use Rattle.sw_parse_layout.specs.declared.blocks.Shut.{Shut}
use Rattle.sw_parse_layout.specs.declared.laid.Laid.{Laid}
use Rattle.sw_parse_layout.specs.declared.sorts.Sort.{Sort}
use Rattle.sw_parse_layout.specs.declared.state.State.{State}
use Rattle.sw_parse_layout.specs.Laid.{sign_at}
use Rattle.sw_parse_layout.specs.Blocks.{indent_after, entered}
use Rattle.sw_parse_layout.specs.Layout.{finished}
use Rattle.sw_convert_spelling.specs.Spelt.{Spelt, text_of, placed_behind, innermost, IsToken}
use Rattle.sw_convert_spelling.proofs.Choices.{neither}
use Rattle.sw_convert_laid.specs.Heads.{untold, is_comment, opens_comment, AreHeld}
use Rattle.sw_convert_laid.specs.Rows.{Row, margin, blank_line, row_gap, rows_text, Sign, Made, own, own_behind, ended, signs_behind, signs_of, placed, IsRow, AreRows, IsSheet, HasLayout}
use Rattle.sw_convert_laid.specs.Rows as rows
use Rattle.sw_convert_laid.proofs.Going.{laid, Goes, Finishes, then_on, then_finishes, at_end, lays_same, finishes_so}
use Rattle.sw_convert_laid.proofs.Behind.{Behind, total, onward, reread, there}
use Rattle.sw_convert_laid.proofs.Begun.{between, is_spaces, blank_goes, break_goes, begun_goes, still_spaces}
use Rattle.sw_convert_laid.proofs.Depths.{braces, shut_is, blocks_of, deeper_line, same_line}
use Rattle.sw_convert_laid.proofs.Heads.{line_walks}
use Rattle.sw_convert_laid.proofs.Placed.{before_behind, placed_own, placed_ended, placed_line}
use Rattle.sw_convert_laid.proofs.Steps.{still_white}

module _ (bs : List ℕ) (is_text : IsText bs) where
  -- the walk stands behind a line
  pub record Gone (s : State) (tokens : List Token) (end : ℕ) (depths : List ℕ) : Type 0 where
    pub sort : Sort
    pub indent : Option Indent
    pub spaces : is_spaces indent ≡ true
    pub goes : Goes bs s tokens (between (end + 1) end sort (record { depths = depths; indent = indent; first = false; due = true }))

  module _ (row : Row) (rest : List ℕ) (at : ℕ) where
    abbrev mid : ℕ
    mid = at + length (blank_line row.blank)

    -- where its text begins, and where it ends
    abbrev to : ℕ
    to = mid + length (margin row.level)

    abbrev stop : ℕ
    stop = to + length (text_of row.list)

    pub row_goes : (end : ℕ) (sort : Sort) (blocks : Blocks) (entry : Entry) → is_spaces blocks.indent ≡ true
        → Behind bs at (row_gap row ++ (text_of row.list ++ (codes "\n" ++ rest))) → IsRow row rest
        → entered blocks end (2 * row.level) to ≡ entry → entry.wrong ≡ false
        → Gone (between at end sort blocks) (entry.tokens ++ placed_behind befores.White to row.list) stop entry.depths
    row_goes end sort blocks entry i b is e right = go row.list refl
      where
        there_blank : Behind bs at (blank_line row.blank ++ (margin row.level ++ (text_of row.list ++ (codes "\n" ++ rest))))
        there_blank = reread bs (append_assoc (blank_line row.blank) (margin row.level) _) b

        there_margin : Behind bs mid (margin row.level ++ (text_of row.list ++ (codes "\n" ++ rest)))
        there_margin = onward bs (blank_line row.blank) there_blank

        there_text : Behind bs to (text_of row.list ++ (codes "\n" ++ rest))
        there_text = onward bs (margin row.level) there_margin

        there_break : Behind bs stop (codes "\n" ++ rest)
        there_break = onward bs (text_of row.list) there_text

        go : (list : List Spelt) → list ≡ row.list
            → Gone (between at end sort blocks) (entry.tokens ++ placed_behind befores.White to row.list) stop entry.depths
        go [] same = absurd (subst rows.Begins (sym same) is.begins)
        go (spelt ∷ list) same =
            let begins = subst rows.Begins (sym same) is.begins in
            let (gap, some, token, held, others) =
            subst (λ (l : List Spelt). AreHeld untold befores.White l (codes "\n" ++ rest)) (sym same) is.held in
            let after = text_of list ++ (codes "\n" ++ rest) in
            let first : Behind bs mid (margin row.level ++ (spelt.bytes ++ after)) =
            reread bs
            (ap (λ (l : List Spelt). margin row.level ++ (text_of l ++ (codes "\n" ++ rest))) (sym same)
            ∙ ap (λ (g : List ℕ). margin row.level ++ ((g ++ (spelt.bytes ++ text_of list)) ++ (codes "\n" ++ rest))) begins.0
            ∙ ap (λ (t : List ℕ). margin row.level ++ t) (append_assoc spelt.bytes (text_of list) (codes "\n" ++ rest)))
            there_margin in
            let token_is : IsToken insides.Sheet befores.White spelt after =
            subst (λ (w : Before). IsToken (innermost []) w spelt after) (still_white spelt.gap) token in
            let silent = neither (is_comment spelt.kind) (opens_comment spelt.kind) begins.1 (held refl).whole in
            let begun = begun_goes bs is_text row.level spelt after first some token_is silent end sort blocks entry i e right in
            let indent = indent_after bs blocks.indent mid to in
            let inner : Blocks = record { depths = entry.depths; indent = indent; first = false; due = true } in
            let head = line_walks bs (to - mid) inner (codes "\n" ++ rest) row.list there_text is.held in
            record {
              sort = head.sort;
              indent = indent;
              spaces = still_spaces bs is_text row.level spelt after first some token_is silent blocks.indent i;
              goes = lays_same bs (ap (λ (ts : List Token). entry.tokens ++ ts) (append-nil (placed_behind befores.White to row.list)))
                  (then_on bs (blank_goes bs row.blank end sort blocks _ there_blank)
                  (then_on bs begun (then_on bs head.goes
                  (break_goes bs (to - mid) head.before head.sort stop inner rest head.plain there_break))));
            }

  -- ---- behind a line

  -- at the end of the text
  last_finishes : (outer end : ℕ) (sort : Sort) (indent : Option Indent) (before : Before) {at : ℕ} → Behind bs at []
      → Finishes bs (between at end sort (blocks_of outer indent)) (placed before end (ended outer))
  unfolding finished
  last_finishes outer end sort indent before {at} b =
      at_end bs (between at end sort (blocks_of outer indent)) (placed before end (ended outer))
      (let e = total bs b in omega (arith, e))
      (ap (λ (s : Shut). let r : Result Laid ℕ = Ok (laid (sign_at kinds.Semicolon end ∷ s.tokens)) in r) (shut_is outer end 0 (omega arith))
      ∙ ap (λ (ts : List Token). let r : Result Laid ℕ = Ok (laid ts) in r)
      (ap (λ (k : ℕ). sign_at kinds.Semicolon end ∷ braces end k) (let e : outer - 0 ≡ outer = omega arith in e)
      ∙ ap (λ (ts : List Token). sign_at kinds.Semicolon end ∷ ts) (sym (append-nil (braces end outer)))
      ∙ sym (placed_ended outer before end [])
      ∙ ap (placed before end) (append-nil (ended outer))))

  -- its text doesn't begin with white space
  some_tokens : (row : Row) (rest : List ℕ) → IsRow row rest → (P : List Spelt → Type 0)
      → ((spelt : Spelt) (list : List Spelt) → P (spelt ∷ list)) → P row.list
  some_tokens row rest is P f = go row.list is.begins
    where
      go : (list : List Spelt) → rows.Begins list → P list
      go [] begins = absurd begins
      go (spelt ∷ list) begins = f spelt list

  -- where the text of the line begins that stands behind another one
  begins_at : (row : Row) (end at : ℕ) → at ≡ end + 1
      → end + length (codes "\n" ++ row_gap row) ≡ (at + length (blank_line row.blank)) + length (margin row.level)
  begins_at row end at e =
      let f = length-append (blank_line row.blank) (margin row.level) in omega (arith, e, f)

  -- what is laid of it, and then of the lines behind it
  deeper_placed : (row : Row) (end at : ℕ) (before : Before) (tail : List Sign) → at ≡ end + 1
      → let to = (at + length (blank_line row.blank)) + length (margin row.level) in
      (sign_at kinds.OpenBrace to ∷ placed_behind befores.White to row.list)
      ++ placed (before_behind befores.White row.list) (to + length (text_of row.list)) tail
      ≡ placed before end (Made (codes "\n" ++ row_gap row) kinds.OpenBrace ∷ (own row.list ++ tail))
  deeper_placed row end at before tail e =
      let to = (at + length (blank_line row.blank)) + length (margin row.level) in
      ap (λ (ts : List Token). sign_at kinds.OpenBrace to ∷ ts) (sym (placed_own row.list befores.White to tail))
      ∙ ap (λ (k : ℕ). sign_at kinds.OpenBrace k ∷ placed befores.White k (own row.list ++ tail)) (sym (begins_at row end at e))

  same_placed : (count : ℕ) (row : Row) (rest : List ℕ) (end at : ℕ) (before : Before) (tail : List Sign) → at ≡ end + 1
      → IsRow row rest
      → let to = (at + length (blank_line row.blank)) + length (margin row.level) in
      ((sign_at kinds.Semicolon end ∷ braces end count) ++ placed_behind befores.White to row.list)
      ++ placed (before_behind befores.White row.list) (to + length (text_of row.list)) tail
      ≡ placed before end ((ended count ++ own_behind (codes "\n" ++ row_gap row) row.list) ++ tail)
  same_placed count row rest end at before tail e is =
      let to = (at + length (blank_line row.blank)) + length (margin row.level) in
      append_assoc (sign_at kinds.Semicolon end ∷ braces end count) (placed_behind befores.White to row.list) _
      ∙ ap (λ (ts : List Token). sign_at kinds.Semicolon end ∷ (braces end count ++ ts)) (own_placed to (begins_at row end at e))
      ∙ sym (placed_ended count before end (own_behind (codes "\n" ++ row_gap row) row.list ++ tail))
      ∙ ap (placed before end) (sym (append_assoc (ended count) (own_behind (codes "\n" ++ row_gap row) row.list) tail))
    where
      own_placed : (to : ℕ) → end + length (codes "\n" ++ row_gap row) ≡ to
          → placed_behind befores.White to row.list
          ++ placed (before_behind befores.White row.list) (to + length (text_of row.list)) tail
          ≡ placed befores.White end (own_behind (codes "\n" ++ row_gap row) row.list ++ tail)
      own_placed to f =
          some_tokens row rest is
          (λ list. placed_behind befores.White to list
          ++ placed (before_behind befores.White list) (to + length (text_of list)) tail
          ≡ placed befores.White end (own_behind (codes "\n" ++ row_gap row) list ++ tail))
          (λ spelt list.
          ap (λ (k : ℕ). placed_behind befores.White k (spelt ∷ list)
          ++ placed (before_behind befores.White (spelt ∷ list)) (k + length (text_of (spelt ∷ list))) tail) (sym f)
          ∙ sym (placed_line spelt list befores.White end 10 (row_gap row) tail))

  pub rows_finish : (list : List Row) (outer : ℕ) {at : ℕ} (end : ℕ) (sort : Sort) (indent : Option Indent) (before : Before)
      → is_spaces indent ≡ true → at ≡ end + 1 → Behind bs at (rows_text list) → AreRows outer list
      → Finishes bs (between at end sort (blocks_of outer indent)) (placed before end (signs_behind outer list))
  rows_finish [] outer end sort indent before i e b are = last_finishes outer end sort indent before b
  rows_finish (row ∷ list) outer {at} end sort indent before i e b (near, is, are) =
      go (nat_lt outer row.level) refl (λ end sort indent before i b. rows_finish list row.level end sort indent before i refl b are)
    where
      to : ℕ
      to = (at + length (blank_line row.blank)) + length (margin row.level)

      behind_row : Behind bs ((to + length (text_of row.list)) + 1) (rows_text list)
      behind_row =
          there bs (let f = length-append (blank_line row.blank) (margin row.level) in omega (arith, f))
          (onward bs (codes "\n") (onward bs (text_of row.list) (onward bs (row_gap row) b)))

      go : (t : Bool) → nat_lt outer row.level ≡ t
          → ((end : ℕ) (sort : Sort) (indent : Option Indent) (before : Before) → is_spaces indent ≡ true
          → Behind bs (end + 1) (rows_text list)
          → Finishes bs (between (end + 1) end sort (blocks_of row.level indent)) (placed before end (signs_behind row.level list)))
          → Finishes bs (between at end sort (blocks_of outer indent)) (placed before end (signs_behind outer (row ∷ list)))
      go true t others =
          let level : row.level ≡ suc outer = (let l : outer < row.level = grind (arith, nat_tests) in omega (arith, near, l)) in
          let gone = row_goes row (rows_text list) at end sort (blocks_of outer indent) _ i b is
          (deeper_line outer row.level end to indent level) refl in
          finishes_so bs
          (deeper_placed row end at before (signs_behind row.level list) e
          ∙ ap (λ (ss : List Sign). placed before end (ss ++ signs_behind row.level list)) (sym (if_true (nat_lt outer row.level) _ _ t)))
          (then_finishes bs gone.goes
          (others (to + length (text_of row.list)) gone.sort gone.indent (before_behind befores.White row.list) gone.spaces behind_row))
      go false t others =
          let level : row.level ≤ outer = grind (arith, nat_tests) in
          let gone = row_goes row (rows_text list) at end sort (blocks_of outer indent) _ i b is
          (same_line outer row.level end to indent level) refl in
          finishes_so bs
          (same_placed (outer - row.level) row (rows_text list) end at before (signs_behind row.level list) e is
          ∙ ap (λ (ss : List Sign). placed before end (ss ++ signs_behind row.level list)) (sym (if_false (nat_lt outer row.level) _ _ t)))
          (then_finishes bs gone.goes
          (others (to + length (text_of row.list)) gone.sort gone.indent (before_behind befores.White row.list) gone.spaces behind_row))
