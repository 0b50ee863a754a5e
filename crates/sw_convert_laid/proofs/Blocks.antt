-- The signs of lines are those of the statements that they are, with their blocks.
use Rattle.std.proofs.Common.{◌≡◌, ℕ, zero, suc, ◌+◌, ◌-◌, ◌≤◌, ◌<◌, Bool, true, false, List, [], ◌∷◌, ◌++◌, map, refl, sym, ◌∙◌, ap, arith, append_assoc, append-nil}
use Rattle.std.specs.Prelude.{nat_lt, codes}
use Rattle.std.proofs.lemmas.Bool.Decides.{nat_tests}
use Rattle.sw_text_scan.proofs.Bounds.{if_true, if_false}
use Rattle.sw_convert_spelling.specs.Spelt.{Spelt}
use Rattle.sw_convert_laid.specs.Rows.{Row, row_gap, Sign, own, own_behind, ends, ended, entered, signs_behind, signs_of}
use Rattle.sw_convert_laid.specs.Blocks.{Statement, Statements, line, block, none, more, row_of, rows_of, rows_in, bare, end_sign, open_sign, close_sign, signs_of_one, signs_in, IsWhole, AreWhole, HasSigns}

abbrev bares : List Sign → List Sign
bares signs = map bare signs

bares_both : (xs ys : List Sign) → bares (xs ++ ys) ≡ bares xs ++ bares ys
bares_both [] ys = refl
bares_both (x ∷ xs) ys = ap (λ (l : List Sign). bare x ∷ l) (bares_both xs ys)

-- white space before the first doesn't count
bares_behind : (gap : List ℕ) (list : List Spelt) → bares (own_behind gap list) ≡ bares (own list)
bares_behind gap [] = refl
bares_behind gap (spelt ∷ list) = refl

bares_ends : (count : ℕ) → bares (ends count) ≡ ends count
bares_ends zero = refl
bares_ends (suc count) = ap (λ (l : List Sign). close_sign ∷ l) (bares_ends count)

bares_ended : (count : ℕ) → bares (ended count) ≡ ended count
bares_ended count = ap (λ (l : List Sign). end_sign ∷ l) (bares_ends count)

ends_last : (count : ℕ) → ends (suc count) ≡ ends count ++ close_sign ∷ []
ends_last zero = refl
ends_last (suc count) = ap (λ (l : List Sign). close_sign ∷ l) (ends_last count)

ended_last : (count : ℕ) → ended (suc count) ≡ ended count ++ close_sign ∷ []
ended_last count = ap (λ (l : List Sign). end_sign ∷ l) (ends_last count)

-- ---- lines behind a line in so many blocks

-- in how many blocks the last of them stands
abbrev pub level_behind : ℕ → List Row → ℕ
level_behind level [] = level
level_behind level (row ∷ rows) = level_behind row.level rows

pub level_both : (level : ℕ) (rows others : List Row)
    → level_behind level (rows ++ others) ≡ level_behind (level_behind level rows) others
level_both level [] others = refl
level_both level (row ∷ rows) others = level_both row.level rows others

-- their signs without the last ones
abbrev signs_from : ℕ → List Row → List Sign
signs_from level [] = []
signs_from level (row ∷ rows) = entered level row ++ signs_from row.level rows

signs_whole : (level : ℕ) (rows : List Row)
    → signs_behind level rows ≡ signs_from level rows ++ ended (level_behind level rows)
signs_whole level [] = refl
signs_whole level (row ∷ rows) =
    ap (λ (l : List Sign). entered level row ++ l) (signs_whole row.level rows)
    ∙ sym (append_assoc (entered level row) (signs_from row.level rows) (ended (level_behind row.level rows)))

signs_both : (level : ℕ) (rows others : List Row)
    → signs_from level (rows ++ others) ≡ signs_from level rows ++ signs_from (level_behind level rows) others
signs_both level [] others = refl
signs_both level (row ∷ rows) others =
    ap (λ (l : List Sign). entered level row ++ l) (signs_both row.level rows others)
    ∙ sym (append_assoc (entered level row) (signs_from row.level rows) (signs_from (level_behind row.level rows) others))

-- a line that is as deep as another, or less
entered_same : (outer : ℕ) (row : Row) → row.level ≤ outer
    → bares (entered outer row) ≡ ended (outer - row.level) ++ bares (own row.list)
entered_same outer row l =
    ap bares (if_false (nat_lt outer row.level) _ _ (no outer row.level l))
    ∙ bares_both (ended (outer - row.level)) (own_behind (codes "\n" ++ row_gap row) row.list)
    ∙ ap (λ (xs : List Sign). xs ++ bares (own_behind (codes "\n" ++ row_gap row) row.list)) (bares_ended (outer - row.level))
    ∙ ap (λ (xs : List Sign). ended (outer - row.level) ++ xs) (bares_behind (codes "\n" ++ row_gap row) row.list)
  where
    no : (a b : ℕ) → b ≤ a → nat_lt a b ≡ false
    no a b l = grind (arith, nat_tests)

entered_deeper : (outer : ℕ) (row : Row) → outer < row.level → bares (entered outer row) ≡ open_sign ∷ bares (own row.list)
entered_deeper outer row l = ap bares (if_true (nat_lt outer row.level) _ _ (yes_less outer row.level l))
  where
    yes_less : (a b : ℕ) → a < b → nat_lt a b ≡ true
    yes_less a b l = grind (arith, nat_tests)

-- what stands behind the tokens of a statement itself
abbrev tail : Statement → List Sign
tail (line list) = end_sign ∷ []
tail (block list inner) = open_sign ∷ (signs_in inner ++ close_sign ∷ [])

abbrev tokens_of : Statement → List Spelt
tokens_of (line list) = list
tokens_of (block list inner) = list

one_is : (one : Statement) → signs_of_one one ≡ bares (own (tokens_of one)) ++ tail one
one_is (line list) = refl
one_is (block list inner) = refl

-- the lines of its block
abbrev inner_rows : ℕ → Statement → List Row
inner_rows level (line list) = []
inner_rows level (block list inner) = rows_in (suc level) inner

rows_are : (level : ℕ) (blank : Bool) (one : Statement)
    → rows_of level blank one ≡ row_of level blank (tokens_of one) ∷ inner_rows level one
rows_are level blank (line list) = refl
rows_are level blank (block list inner) = refl

-- so many blocks deeper the lines end, and behind them stand these signs
record Ends (level : ℕ) (from : ℕ) (rows : List Row) (signs : List Sign) : Type 0 where
  deeper : ℕ
  stands : level_behind from rows ≡ level + deeper
  signs_are : bares (signs_from from rows) ++ ended deeper ≡ signs

-- the lines of a statement, whose own line brings this before its tokens, and of those behind it
module _ (level : ℕ) (blank : Bool) (one : Statement) (rest : Statements) (from : ℕ) (prefix : List Sign)
    (brings : bares (entered from (row_of level blank (tokens_of one))) ≡ prefix ++ bares (own (tokens_of one)))
    (inner : Ends level level (inner_rows level one) (tail one))
    (others : (from count : ℕ) → from ≡ level + count → Ends level from (rows_in level rest) (ended count ++ signs_in rest))
  where
    abbrev row : Row
    row = row_of level blank (tokens_of one)

    abbrev mid : ℕ
    mid = level_behind level (inner_rows level one)

    further : Ends level mid (rows_in level rest) (ended inner.deeper ++ signs_in rest)
    further = others mid inner.deeper inner.stands

    split : rows_in level (more blank one rest) ≡ row ∷ (inner_rows level one ++ rows_in level rest)
    split = ap (λ (rows : List Row). rows ++ rows_in level rest) (rows_are level blank one)

    list_stands : level_behind from (rows_in level (more blank one rest)) ≡ level + further.deeper
    list_stands =
        ap (level_behind from) split ∙ level_both level (inner_rows level one) (rows_in level rest) ∙ further.stands

    list_signs : bares (signs_from from (rows_in level (more blank one rest))) ++ ended further.deeper
        ≡ prefix ++ signs_in (more blank one rest)
    list_signs =
        let own_signs = bares (own (tokens_of one)) in
        let own_inner = signs_from level (inner_rows level one) in
        let behind = signs_from mid (rows_in level rest) in
        let last = ended further.deeper in
        ap (λ (rows : List Row). bares (signs_from from rows) ++ last) split
        ∙ ap (λ (xs : List Sign). bares (entered from row ++ xs) ++ last) (signs_both level (inner_rows level one) (rows_in level rest))
        ∙ ap (λ (xs : List Sign). xs ++ last) (bares_both (entered from row) (own_inner ++ behind))
        ∙ ap (λ (xs : List Sign). (xs ++ bares (own_inner ++ behind)) ++ last) brings
        ∙ ap (λ (xs : List Sign). ((prefix ++ own_signs) ++ xs) ++ last) (bares_both own_inner behind)
        ∙ append_assoc (prefix ++ own_signs) (bares own_inner ++ bares behind) last
        ∙ append_assoc prefix own_signs ((bares own_inner ++ bares behind) ++ last)
        ∙ ap (λ (xs : List Sign). prefix ++ (own_signs ++ xs)) (append_assoc (bares own_inner) (bares behind) last)
        ∙ ap (λ (xs : List Sign). prefix ++ (own_signs ++ (bares own_inner ++ xs))) further.signs_are
        ∙ ap (λ (xs : List Sign). prefix ++ (own_signs ++ xs)) (sym (append_assoc (bares own_inner) (ended inner.deeper) (signs_in rest)))
        ∙ ap (λ (xs : List Sign). prefix ++ (own_signs ++ (xs ++ signs_in rest))) inner.signs_are
        ∙ ap (λ (xs : List Sign). prefix ++ xs) (sym (append_assoc own_signs (tail one) (signs_in rest)))
        ∙ ap (λ (xs : List Sign). prefix ++ (xs ++ signs_in rest)) (sym (one_is one))

abbrev Others : ℕ → Statements → Type 0
Others level rest =
    (from count : ℕ) → from ≡ level + count → Ends level from (rows_in level rest) (ended count ++ signs_in rest)

same_ends : (level : ℕ) (blank : Bool) (one : Statement) (rest : Statements) (from count : ℕ) → from ≡ level + count
    → Ends level level (inner_rows level one) (tail one) → Others level rest
    → Ends level from (rows_in level (more blank one rest)) (ended count ++ signs_in (more blank one rest))
same_ends level blank one rest from count e inner others =
    let brings = entered_same from (row_of level blank (tokens_of one)) (omega (arith, e))
    ∙ ap (λ (k : ℕ). ended k ++ bares (own (tokens_of one))) (let f : from - level ≡ count = omega (arith, e) in f) in
    record {
      deeper = (further level blank one rest from (ended count) brings inner others).deeper;
      stands = list_stands level blank one rest from (ended count) brings inner others;
      signs_are = list_signs level blank one rest from (ended count) brings inner others;
    }

deeper_ends : (level : ℕ) (blank : Bool) (one : Statement) (rest : Statements)
    → Ends (suc level) (suc level) (inner_rows (suc level) one) (tail one) → Others (suc level) rest
    → Ends level level (rows_in (suc level) (more blank one rest)) (open_sign ∷ (signs_in (more blank one rest) ++ close_sign ∷ []))
deeper_ends level blank one rest inner others =
    let brings = entered_deeper level (row_of (suc level) blank (tokens_of one)) (omega arith) in
    let last = (further (suc level) blank one rest level (open_sign ∷ []) brings inner others).deeper in
    let signs = list_signs (suc level) blank one rest level (open_sign ∷ []) brings inner others in
    let from = bares (signs_from level (rows_in (suc level) (more blank one rest))) in
    record {
      deeper = suc last;
      stands = list_stands (suc level) blank one rest level (open_sign ∷ []) brings inner others
          ∙ (let e : suc level + last ≡ level + suc last = omega arith in e);
      signs_are = ap (λ (xs : List Sign). from ++ xs) (ended_last last)
          ∙ sym (append_assoc from (ended last) (close_sign ∷ []))
          ∙ ap (λ (xs : List Sign). xs ++ close_sign ∷ []) signs;
    }

mutual
  -- of a statement itself, behind its own line
  one_ends : (level : ℕ) (one : Statement) → IsWhole one → Ends level level (inner_rows level one) (tail one)
  one_ends level (line list) whole = record {
    deeper = 0;
    stands = (let e : level ≡ level + 0 = omega arith in e);
    signs_are = refl;
  }
  one_ends level (block list none) (some, whole) = absurd some
  one_ends level (block list (more blank one rest)) (some, (first, others)) =
      deeper_ends level blank one rest (one_ends (suc level) one first) (λ from k e. list_ends (suc level) rest others from k e)

  -- of statements in so many blocks, behind a line that stands in as many or more
  list_ends : (level : ℕ) (statements : Statements) → AreWhole statements → (from count : ℕ) → from ≡ level + count
      → Ends level from (rows_in level statements) (ended count ++ signs_in statements)
  list_ends level none whole from count e = record {
    deeper = count;
    stands = e;
    signs_are = sym (append-nil (ended count));
  }
  list_ends level (more blank one rest) (first, others) from count e =
      same_ends level blank one rest from count e (one_ends level one first) (λ from k e. list_ends level rest others from k e)

-- ---- whole sheets

pub sheet_signs : (statements : Statements) → HasSigns statements
sheet_signs none whole = refl
sheet_signs (more blank one rest) (first, others) =
    let inner = one_ends 0 one first in
    let further = list_ends 0 rest others (level_behind 0 (inner_rows 0 one)) inner.deeper inner.stands in
    let own_signs = own (tokens_of one) in
    let own_inner = signs_from 0 (inner_rows 0 one) in
    let behind = signs_from (level_behind 0 (inner_rows 0 one)) (rows_in 0 rest) in
    let rows = inner_rows 0 one ++ rows_in 0 rest in
    let last : level_behind 0 rows ≡ further.deeper =
    (level_both 0 (inner_rows 0 one) (rows_in 0 rest) ∙ further.stands ∙ (let e : 0 + further.deeper ≡ further.deeper = omega arith in e)) in
    ap (λ (l : List Row). bares (signs_of (l ++ rows_in 0 rest))) (rows_are 0 blank one)
    ∙ ap (λ (l : List Sign). bares (own_signs ++ l)) (signs_whole 0 rows)
    ∙ ap (λ (k : ℕ). bares (own_signs ++ (signs_from 0 rows ++ ended k))) last
    ∙ ap (λ (l : List Sign). bares (own_signs ++ (l ++ ended further.deeper))) (signs_both 0 (inner_rows 0 one) (rows_in 0 rest))
    ∙ bares_both own_signs ((own_inner ++ behind) ++ ended further.deeper)
    ∙ ap (λ (l : List Sign). bares own_signs ++ l)
    (bares_both (own_inner ++ behind) (ended further.deeper)
    ∙ ap (λ (l : List Sign). l ++ bares (ended further.deeper)) (bares_both own_inner behind)
    ∙ ap (λ (l : List Sign). (bares own_inner ++ bares behind) ++ l) (bares_ended further.deeper)
    ∙ append_assoc (bares own_inner) (bares behind) (ended further.deeper)
    ∙ ap (λ (l : List Sign). bares own_inner ++ l) further.signs_are
    ∙ sym (append_assoc (bares own_inner) (ended inner.deeper) (signs_in rest))
    ∙ ap (λ (l : List Sign). l ++ signs_in rest) inner.signs_are)
    ∙ sym (append_assoc (bares own_signs) (tail one) (signs_in rest))
    ∙ ap (λ (l : List Sign). l ++ signs_in rest) (sym (one_is one))
