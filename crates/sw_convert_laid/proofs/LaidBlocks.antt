-- The layout of statements in lines.
use Rattle.std.proofs.Common.{◌≡◌, ℕ, zero, suc, ◌+◌, ◌-◌, ◌≤◌, Bool, true, false, if◌then◌else◌, List, [], ◌∷◌, ◌++◌, refl, sym, ◌∙◌, ap, arith, append_assoc}
use Rattle.std.specs.Prelude.{nat_lt, codes}
use Rattle.sw_tokens.specs.declared.token.TokenKind.TheVariants as kinds
use Rattle.sw_tokens.proofs.Cuts.{IsText}
use Rattle.sw_convert_spelling.specs.Spelt.{Spelt, text_of}
use Rattle.sw_convert_laid.specs.Rows.{Row, row_gap, rows_text, Sign, Own, Made, own, own_behind, ends, ended, entered, signs_behind, signs_of, Begins, AreRows, IsSheet}
use Rattle.sw_convert_laid.specs.Blocks.{Statement, Statements, line, block, none, more, row_of, rows_of, rows_in, IsWhole, AreWhole, IsLine, HasLines, HaveLines, BeginsAtOnce, signs_text, last_line, StatementsAreLaid}
use Rattle.sw_convert_laid.proofs.Blocks.{sheet_signs, level_behind, level_both}
use Rattle.sw_convert_laid.proofs.Sheets.{laid_out}

-- ---- blocks hold statements

mutual
  one_whole : (one : Statement) → HasLines one → IsWhole one
  one_whole (line list) has = tt
  one_whole (block list inner) (here, some, has) = (some, all_whole inner has)

  all_whole : (statements : Statements) → HaveLines statements → AreWhole statements
  all_whole none has = tt
  all_whole (more blank one rest) (first, others) = (one_whole one first, all_whole rest others)

-- ---- their lines

-- each is at most one block deeper than the one before it
abbrev Near : ℕ → List Row → Type 0
Near level [] = Unit {0}
Near level (row ∷ rows) = (row.level ≤ level + 1) × Near row.level rows

near_both : (level : ℕ) (rows others : List Row) → Near level rows → Near (level_behind level rows) others
    → Near level (rows ++ others)
near_both level [] others near more_near = more_near
near_both level (row ∷ rows) others (first, near) more_near = (first, near_both row.level rows others near more_near)

-- each is a line
abbrev AllLines : List Row → Type 0
AllLines [] = Unit {0}
AllLines (row ∷ rows) = IsLine row.list × AllLines rows

lines_both : (rows others : List Row) → AllLines rows → AllLines others → AllLines (rows ++ others)
lines_both [] others all more_all = more_all
lines_both (row ∷ rows) others (first, all) more_all = (first, lines_both rows others all more_all)

mutual
  one_lines : (level : ℕ) (blank : Bool) (one : Statement) → HasLines one → AllLines (rows_of level blank one)
  one_lines level blank (line list) has = (has, tt)
  one_lines level blank (block list inner) (here, some, has) = (here, all_lines (suc level) inner has)

  all_lines : (level : ℕ) (statements : Statements) → HaveLines statements → AllLines (rows_in level statements)
  all_lines level none has = tt
  all_lines level (more blank one rest) (first, others) =
      lines_both (rows_of level blank one) (rows_in level rest) (one_lines level blank one first) (all_lines level rest others)

-- so many blocks or more are around the last of them
record Deep (level from : ℕ) (rows : List Row) : Type 0 where
  near : Near from rows
  deep : level ≤ level_behind from rows

mutual
  -- behind a line that is one block less deep, or deeper
  one_deep : (level from : ℕ) (blank : Bool) (one : Statement) → level ≤ from + 1 → Deep level from (rows_of level blank one)
  one_deep level from blank (line list) l = record {
    near = (l, tt);
    deep = omega arith;
  }
  one_deep level from blank (block list inner) l =
      let it = list_deep (suc level) level inner (omega arith) in record {
        near = (l, it.near);
        deep = let d = it.deep in omega (arith, d);
      }

  list_deep : (level from : ℕ) (statements : Statements) → level ≤ from + 1 → Deep (level - 1) from (rows_in level statements)
  list_deep level from none l = record { near = tt; deep = omega (arith, l) }
  list_deep level from (more blank one rest) l =
      let first = one_deep level from blank one l in
      let deep = first.deep in
      let others = list_deep level (level_behind from (rows_of level blank one)) rest (omega (arith, deep)) in record {
        near = near_both from (rows_of level blank one) (rows_in level rest) first.near others.near;
        deep = let e = level_both from (rows_of level blank one) (rows_in level rest) in let d = others.deep in omega (arith, e, d);
      }

are_rows : (level : ℕ) (rows : List Row) → Near level rows → AllLines rows → AreRows level rows
are_rows level [] near all = tt
are_rows level (row ∷ rows) (l, near) (first, all) =
    (l, (let is = first (rows_text rows) in record { begins = is.begins; held = is.held }), are_rows row.level rows near all)

are_sheet : (statements : Statements) → BeginsAtOnce statements → HaveLines statements → IsSheet (rows_in 0 statements)
are_sheet none at_once has = tt
are_sheet (more blank (line list) rest) at_once has =
    let near = (list_deep 0 0 (more blank (line list) rest) (omega arith)).near in
    let all = all_lines 0 (more blank (line list) rest) has in
    (refl, at_once, (let is = all.0 (rows_text (rows_in 0 rest)) in record { begins = is.begins; held = is.held }), are_rows 0 (rows_in 0 rest) near.1 all.1)
are_sheet (more blank (block list inner) rest) at_once has =
    let near = (list_deep 0 0 (more blank (block list inner) rest) (omega arith)).near in
    let all = all_lines 0 (more blank (block list inner) rest) has in
    (refl, at_once, (let is = all.0 (rows_text (rows_in 1 inner ++ rows_in 0 rest)) in record { begins = is.begins; held = is.held }), are_rows 0 (rows_in 1 inner ++ rows_in 0 rest) near.1 all.1)

-- ---- their text

text_both : (signs others : List Sign) → signs_text (signs ++ others) ≡ signs_text signs ++ signs_text others
text_both [] others = refl
text_both (Own spelt ∷ signs) others =
    ap (λ (t : List ℕ). spelt.gap ++ (spelt.bytes ++ t)) (text_both signs others)
    ∙ ap (λ (t : List ℕ). spelt.gap ++ t) (sym (append_assoc spelt.bytes (signs_text signs) (signs_text others)))
    ∙ sym (append_assoc spelt.gap (spelt.bytes ++ signs_text signs) (signs_text others))
text_both (Made gap kind ∷ signs) others =
    ap (λ (t : List ℕ). gap ++ t) (text_both signs others) ∙ sym (append_assoc gap (signs_text signs) (signs_text others))

own_text : (list : List Spelt) → signs_text (own list) ≡ text_of list
own_text [] = refl
own_text (spelt ∷ list) = ap (λ (t : List ℕ). spelt.gap ++ (spelt.bytes ++ t)) (own_text list)

ends_text : (count : ℕ) → signs_text (ends count) ≡ []
ends_text zero = refl
ends_text (suc count) = ends_text count

behind_text : (gap : List ℕ) (list : List Spelt) → Begins list → signs_text (own_behind gap list) ≡ gap ++ text_of list
behind_text gap [] begins = absurd begins
behind_text gap (spelt ∷ list) begins =
    ap (λ (t : List ℕ). (gap ++ spelt.gap) ++ (spelt.bytes ++ t)) (own_text list)
    ∙ append_assoc gap spelt.gap (spelt.bytes ++ text_of list)

entered_text : (level : ℕ) (row : Row) → Begins row.list
    → signs_text (entered level row) ≡ (codes "\n" ++ row_gap row) ++ text_of row.list
entered_text level row begins = go (nat_lt level row.level)
  where
    gap : List ℕ
    gap = codes "\n" ++ row_gap row

    go : (t : Bool) → signs_text (if t then Made (codes "\n" ++ row_gap row) kinds.OpenBrace ∷ own row.list
        else ended (level - row.level) ++ own_behind (codes "\n" ++ row_gap row) row.list)
        ≡ (codes "\n" ++ row_gap row) ++ text_of row.list
    go true = ap (λ (t : List ℕ). (codes "\n" ++ row_gap row) ++ t) (own_text row.list)
    go false =
        text_both (ended (level - row.level)) (own_behind (codes "\n" ++ row_gap row) row.list)
        ∙ ap (λ (t : List ℕ). t ++ signs_text (own_behind (codes "\n" ++ row_gap row) row.list)) (ends_text (level - row.level))
        ∙ behind_text (codes "\n" ++ row_gap row) row.list begins

-- behind a line
lines_text : (level : ℕ) (rows : List Row) → AllLines rows
    → signs_text (signs_behind level rows) ++ codes "\n" ≡ codes "\n" ++ rows_text rows
lines_text level [] all = ap (λ (t : List ℕ). t ++ codes "\n") (ends_text level)
lines_text level (row ∷ rows) (first, all) =
    let gap = codes "\n" ++ row_gap row in
    ap (λ (t : List ℕ). t ++ codes "\n") (text_both (entered level row) (signs_behind row.level rows))
    ∙ append_assoc (signs_text (entered level row)) (signs_text (signs_behind row.level rows)) (codes "\n")
    ∙ ap (λ (t : List ℕ). signs_text (entered level row) ++ t) (lines_text row.level rows all)
    ∙ ap (λ (t : List ℕ). t ++ (codes "\n" ++ rows_text rows)) (entered_text level row (first []).begins)
    ∙ append_assoc gap (text_of row.list) (codes "\n" ++ rows_text rows)

sheet_text : (row : Row) (rows : List Row) → row.level ≡ 0 → row.blank ≡ false → AllLines (row ∷ rows)
    → rows_text (row ∷ rows) ≡ signs_text (signs_of (row ∷ rows)) ++ codes "\n"
sheet_text row rows level blank (first, all) =
    ap (λ (t : List ℕ). t ++ (text_of row.list ++ (codes "\n" ++ rows_text rows))) (no_gap row level blank)
    ∙ ap (λ (t : List ℕ). text_of row.list ++ t) (sym (lines_text row.level rows all))
    ∙ sym (append_assoc (text_of row.list) (signs_text (signs_behind row.level rows)) (codes "\n"))
    ∙ ap (λ (t : List ℕ). (t ++ signs_text (signs_behind row.level rows)) ++ codes "\n") (sym (own_text row.list))
    ∙ ap (λ (t : List ℕ). t ++ codes "\n") (sym (text_both (own row.list) (signs_behind row.level rows)))
  where
    no_gap : (row : Row) → row.level ≡ 0 → row.blank ≡ false → row_gap row ≡ []
    no_gap row level blank = ap (λ (k : ℕ). gap_of row.blank k) level ∙ ap (λ (t : Bool). gap_of t 0) blank
      where
        gap_of : Bool → ℕ → List ℕ
        gap_of blank level = row_gap (record { level = level; blank = blank; list = [] })

whole_text : (statements : Statements) → BeginsAtOnce statements → HaveLines statements
    → rows_text (rows_in 0 statements) ≡ signs_text (signs_of (rows_in 0 statements)) ++ last_line statements
whole_text none at_once has = refl
whole_text (more blank (line list) rest) at_once has =
    sheet_text (row_of 0 blank list) (rows_in 0 rest) refl at_once (all_lines 0 (more blank (line list) rest) has)
whole_text (more blank (block list inner) rest) at_once has =
    sheet_text (row_of 0 blank list) (rows_in 1 inner ++ rows_in 0 rest) refl at_once (all_lines 0 (more blank (block list inner) rest) has)

pub all_laid : (bs : List ℕ) → IsText bs → (mark : List ℕ) (statements : Statements) → StatementsAreLaid bs mark statements
all_laid bs is_text mark statements e marked at_once has = record {
  signs = signs_of (rows_in 0 statements);
  are = sheet_signs statements (all_whole statements has);
  text = whole_text statements at_once has;
  layout_is = laid_out bs is_text mark (rows_in 0 statements) e marked (are_sheet statements at_once has);
}
