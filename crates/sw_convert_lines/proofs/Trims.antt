-- The lines of a text, and what is left out at their ends.
use Rattle.std.proofs.Common.{◌≡◌, ℕ, zero, suc, ◌+◌, ◌<◌, ◌≤◌, Bool, true, false, not, ◌||◌, if◌then◌else◌, List, [], ◌∷◌, ◌++◌, map, filter, drop, take, length, get_or, refl, sym, ◌∙◌, ap, subst, append_assoc, arith}
use Rattle.std.specs.List.{list_any}
use Rattle.std.proofs.lemmas.List.{drop_more, drop_all}
use Rattle.sw_text_scan.specs.Bytes.{is_white, is_break}
use Rattle.sw_convert_alike.specs.Comments.{without_front, without_end, bare_line, is_full, inside, onto, cut_lines}
use Rattle.sw_convert_lines.specs.Comments.{end_from, line_end, first_in, full_before, full_line, lines_in, line_of, lines_from}
use Rattle.sw_convert_lines.specs.Layout.{has_none}

-- ---- at the front

next : {A : Type 0} (xs : List A) (i : ℕ) (x : A) → i < length xs → x ≡ get_or xs i x → drop i xs ≡ x ∷ drop (i + 1) xs
next {A} xs i x lt is = drop_more xs i x lt ∙ ap (λ (y : A). y ∷ drop (i + 1) xs) (sym is)

front_by : (test : ℕ → Bool) (t : Bool) (x : ℕ) (xs : List ℕ) → test x ≡ t
    → without_front test (x ∷ xs) ≡ (if t then without_front test xs else x ∷ xs)
front_by test t x xs e = ap (λ (b : Bool). if b then without_front test xs else x ∷ xs) e

pub front_goes : (test : ℕ → Bool) (xs : List ℕ) (i x : ℕ) → i < length xs → x ≡ get_or xs i x → test x ≡ true
    → without_front test (drop i xs) ≡ without_front test (drop (i + 1) xs)
front_goes test xs i x lt is e = ap (λ (ys : List ℕ). without_front test ys) (next xs i x lt is) ∙ front_by test true x (drop (i + 1) xs) e

pub front_stops : (test : ℕ → Bool) (xs : List ℕ) (i x : ℕ) → i < length xs → x ≡ get_or xs i x → test x ≡ false
    → without_front test (drop i xs) ≡ drop i xs
front_stops test xs i x lt is e =
    ap (λ (ys : List ℕ). without_front test ys) (next xs i x lt is) ∙ front_by test false x (drop (i + 1) xs) e ∙ sym (next xs i x lt is)

pub front_ends : (test : ℕ → Bool) (xs : List ℕ) (i : ℕ) → length xs ≤ i → without_front test (drop i xs) ≡ drop i xs
front_ends test xs i le = ap (λ (ys : List ℕ). without_front test ys) (drop_all i xs le) ∙ sym (drop_all i xs le)

-- ---- at the end

abbrev any : List ℕ → Bool
any xs = list_any (λ c. not (is_white c)) xs

any_of : (x : ℕ) (xs : List ℕ) (white t : Bool) → is_white x ≡ white → any xs ≡ t → any (x ∷ xs) ≡ (not white || t)
any_of x xs white t e f = ap (λ (b : Bool). not b || any xs) e ∙ ap (λ (u : Bool). not white || u) f

none_left : (xs : List ℕ) → any xs ≡ false → without_end xs ≡ []
none_left [] e = refl
none_left (x ∷ xs) e = ap (λ (b : Bool). if b then x ∷ without_end xs else []) e

some_left : (x : ℕ) (xs : List ℕ) → any (x ∷ xs) ≡ true → without_end (x ∷ xs) ≡ x ∷ without_end xs
some_left x xs e = ap (λ (b : Bool). if b then x ∷ without_end xs else []) e

take_front : (n : ℕ) (xs ys : List ℕ) → n ≤ length xs → take n (xs ++ ys) ≡ take n xs
take_front zero xs ys le = refl
take_front (suc n) [] ys le = absurd (omega arith)
take_front (suc n) (x ∷ xs) ys le = ap (λ (zs : List ℕ). x ∷ zs) (take_front n xs ys (omega arith))

take_whole : (xs : List ℕ) → take (length xs) xs ≡ xs
take_whole [] = refl
take_whole (x ∷ xs) = ap (λ (ys : List ℕ). x ∷ ys) (take_whole xs)

one_more : (xs : List ℕ) (x : ℕ) → length (xs ++ x ∷ []) ≡ length xs + 1
one_more [] x = refl
one_more (y ∷ xs) x = let e : suc (length xs + 1) ≡ suc (length xs) + 1 = omega arith in ap (λ (n : ℕ). suc n) (one_more xs x) ∙ e

-- what is left of a text, of which the front up to a place is left anyway
abbrev left_of : List ℕ → ℕ → List ℕ → Bool → List ℕ
left_of front to rest true = front ++ without_end rest
left_of front to rest false = take to front

abbrev Moves : List ℕ → ℕ → List ℕ → Type 0
Moves front b rest =
    (to : ℕ) → to ≤ length (front ++ b ∷ [])
    → take (end_from to (length (front ++ b ∷ [])) rest) ((front ++ b ∷ []) ++ rest) ≡ left_of (front ++ b ∷ []) to rest (any rest)

moved : (front : List ℕ) (to b : ℕ) (rest : List ℕ) (t : Bool) → to ≤ length front + 1 → any rest ≡ t → Moves front b rest
    → take (end_from to (length front + 1) rest) (front ++ b ∷ rest) ≡ left_of (front ++ b ∷ []) to rest t
moved front to b rest t le f more =
    ap (λ (xs : List ℕ). take (end_from to (length front + 1) rest) xs) (sym (append_assoc front (b ∷ []) rest))
    ∙ ap (λ (n : ℕ). take (end_from to n rest) ((front ++ b ∷ []) ++ rest)) (sym (one_more front b))
    ∙ more to (subst (λ (n : ℕ). to ≤ n) (sym (one_more front b)) le)
    ∙ ap (λ (u : Bool). left_of (front ++ b ∷ []) to rest u) f

step_by : (front : List ℕ) (to b : ℕ) (rest : List ℕ) (white t : Bool) → to ≤ length front → is_white b ≡ white → any rest ≡ t
    → Moves front b rest
    → take (end_from (if not white then length front + 1 else to) (length front + 1) rest) (front ++ b ∷ rest)
    ≡ left_of front to (b ∷ rest) (not white || t)
step_by front to b rest true true le e f more =
    moved front to b rest true (omega arith) f more ∙ append_assoc front (b ∷ []) (without_end rest)
    ∙ ap (λ (xs : List ℕ). front ++ xs) (sym (some_left b rest (any_of b rest true true e f)))
step_by front to b rest true false le e f more =
    moved front to b rest false (omega arith) f more ∙ take_front to front (b ∷ []) le
step_by front to b rest false true le e f more =
    moved front (length front + 1) b rest true (omega arith) f more ∙ append_assoc front (b ∷ []) (without_end rest)
    ∙ ap (λ (xs : List ℕ). front ++ xs) (sym (some_left b rest (any_of b rest false true e f)))
step_by front to b rest false false le e f more =
    moved front (length front + 1) b rest false (omega arith) f more
    ∙ ap (λ (n : ℕ). take n (front ++ b ∷ [])) (sym (one_more front b)) ∙ take_whole (front ++ b ∷ [])
    ∙ ap (λ (xs : List ℕ). front ++ b ∷ xs) (sym (none_left rest f))
    ∙ ap (λ (xs : List ℕ). front ++ xs) (sym (some_left b rest (any_of b rest false false e f)))

left_is : (front : List ℕ) (to : ℕ) (rest : List ℕ) → to ≤ length front
    → take (end_from to (length front) rest) (front ++ rest) ≡ left_of front to rest (any rest)
left_is front to [] le = take_front to front [] le
left_is front to (b ∷ rest) le =
    step_by front to b rest (is_white b) (any rest) le refl refl (λ (more : ℕ) (within : more ≤ length (front ++ b ∷ [])). left_is (front ++ b ∷ []) more rest within)

left_all : (xs : List ℕ) (t : Bool) → any xs ≡ t → left_of [] 0 xs t ≡ without_end xs
left_all xs true e = refl
left_all xs false e = sym (none_left xs e)

pub end_is : (xs : List ℕ) → take (end_from 0 0 xs) xs ≡ without_end xs
end_is xs = left_is [] 0 xs (omega arith) ∙ left_all xs (any xs) refl

-- ---- lines

line_by : (t : Bool) (x : ℕ) (xs : List ℕ) → is_break x ≡ t → line_end (x ∷ xs) ≡ (if t then 0 else suc (line_end xs))
line_by t x xs e = ap (λ (b : Bool). if b then 0 else suc (line_end xs)) e

pub line_goes : (xs : List ℕ) (i x : ℕ) → i < length xs → x ≡ get_or xs i x → is_break x ≡ false
    → i + line_end (drop i xs) ≡ (i + 1) + line_end (drop (i + 1) xs)
line_goes xs i x lt is e =
    let f : i + suc (line_end (drop (i + 1) xs)) ≡ (i + 1) + line_end (drop (i + 1) xs) = omega arith in
    ap (λ (ys : List ℕ). i + line_end ys) (next xs i x lt is) ∙ ap (λ (n : ℕ). i + n) (line_by false x (drop (i + 1) xs) e) ∙ f

pub line_stops : (xs : List ℕ) (i x : ℕ) → i < length xs → x ≡ get_or xs i x → is_break x ≡ true → line_end (drop i xs) ≡ 0
line_stops xs i x lt is e = ap line_end (next xs i x lt is) ∙ line_by true x (drop (i + 1) xs) e

pub line_ends : (xs : List ℕ) (i : ℕ) → length xs ≤ i → line_end (drop i xs) ≡ 0
line_ends xs i le = ap line_end (drop_all i xs le)

cut_by : (t : Bool) (x : ℕ) (xs : List ℕ) → is_break x ≡ t → cut_lines (x ∷ xs) ≡ (if t then [] ∷ cut_lines xs else onto x (cut_lines xs))
cut_by t x xs e = ap (λ (b : Bool). if b then [] ∷ cut_lines xs else onto x (cut_lines xs)) e

abbrev rest_lines : List ℕ → List (List ℕ)
rest_lines [] = []
rest_lines (x ∷ xs) = cut_lines xs

-- the first line, and those behind its end
cut_first : (xs : List ℕ) → cut_lines xs ≡ take (line_end xs) xs ∷ rest_lines (drop (line_end xs) xs)
cut_first [] = refl
cut_first (x ∷ xs) = go (is_break x) refl (cut_first xs)
  where
    go : (t : Bool) → is_break x ≡ t → cut_lines xs ≡ take (line_end xs) xs ∷ rest_lines (drop (line_end xs) xs)
        → cut_lines (x ∷ xs) ≡ take (line_end (x ∷ xs)) (x ∷ xs) ∷ rest_lines (drop (line_end (x ∷ xs)) (x ∷ xs))
    go true e more = cut_by true x xs e ∙ ap (λ (n : ℕ). take n (x ∷ xs) ∷ rest_lines (drop n (x ∷ xs))) (sym (line_by true x xs e))
    go false e more =
        cut_by false x xs e ∙ ap (λ (ls : List (List ℕ)). onto x ls) more
        ∙ ap (λ (n : ℕ). take n (x ∷ xs) ∷ rest_lines (drop n (x ∷ xs))) (sym (line_by false x xs e))

abbrev fulls : List (List ℕ) → List (List ℕ)
fulls lines = filter is_full (map bare_line lines)

rest_is : (xs : List ℕ) (n : ℕ) → fulls (rest_lines (drop n xs)) ≡ lines_in (drop (suc n) xs)
rest_is [] zero = refl
rest_is [] (suc n) = refl
rest_is (x ∷ xs) zero = refl
rest_is (x ∷ xs) (suc n) = rest_is xs n

lines_next : (xs : List ℕ) → lines_in xs ≡ full_before (bare_line (take (line_end xs) xs)) (lines_in (drop (line_end xs + 1) xs))
lines_next xs =
    let e : suc (line_end xs) ≡ line_end xs + 1 = omega arith in
    ap fulls (cut_first xs)
    ∙ ap (λ (ls : List (List ℕ)). full_before (bare_line (take (line_end xs) xs)) ls)
    (rest_is xs (line_end xs) ∙ ap (λ (n : ℕ). lines_in (drop n xs)) e)

text_by : (level : ℕ) (some : Bool) (line : List ℕ) (lines : List (List ℕ)) (t : Bool) → is_full line ≡ t
    → lines_from level (not some) (full_before line lines)
    ≡ full_line level some line ++ lines_from level (not (some || is_full line)) lines
text_by level true line lines true e =
    ap (λ (b : Bool). lines_from level false (if b then line ∷ lines else lines)) e
    ∙ ap (λ (b : Bool). (if b then line_of level false line else []) ++ lines_from level false lines) (sym e)
text_by level false line lines true e =
    ap (λ (b : Bool). lines_from level true (if b then line ∷ lines else lines)) e
    ∙ ap (λ (b : Bool). (if b then line_of level true line else []) ++ lines_from level (not b) lines) (sym e)
text_by level true line lines false e =
    ap (λ (b : Bool). lines_from level false (if b then line ∷ lines else lines)) e
    ∙ ap (λ (b : Bool). (if b then line_of level false line else []) ++ lines_from level false lines) (sym e)
text_by level false line lines false e =
    ap (λ (b : Bool). lines_from level true (if b then line ∷ lines else lines)) e
    ∙ ap (λ (b : Bool). (if b then line_of level true line else []) ++ lines_from level (not b) lines) (sym e)

some_by : (some : Bool) (line : List ℕ) (lines : List (List ℕ)) (t : Bool) → is_full line ≡ t
    → (some || not (has_none (full_before line lines))) ≡ ((some || is_full line) || not (has_none lines))
some_by true line lines t e = refl
some_by false line lines true e =
    ap (λ (b : Bool). not (has_none (if b then line ∷ lines else lines))) e ∙ ap (λ (b : Bool). b || not (has_none lines)) (sym e)
some_by false line lines false e =
    ap (λ (b : Bool). not (has_none (if b then line ∷ lines else lines))) e ∙ ap (λ (b : Bool). b || not (has_none lines)) (sym e)

drop_more_of : (xs : List ℕ) (n m : ℕ) → drop m (drop n xs) ≡ drop (n + m) xs
drop_more_of xs zero m = let e : m ≡ 0 + m = omega arith in ap (λ (k : ℕ). drop k xs) e
drop_more_of [] (suc n) m = drop_all m [] (omega arith) ∙ sym (drop_all (suc n + m) [] (omega arith))
drop_more_of (x ∷ xs) (suc n) m =
    let e : suc (n + m) ≡ suc n + m = omega arith in
    drop_more_of xs n m ∙ ap (λ (k : ℕ). drop k (x ∷ xs)) e

rest_from : (text : List ℕ) (at end : ℕ) → drop (end + 1) (drop at text) ≡ drop (at + (end + 1)) text
rest_from text at end = drop_more_of text at (end + 1)

-- the lines of a text from a place on, by its first one
module _ (text rest : List ℕ) (at end : ℕ) (some now : Bool) (line : List ℕ) (r : rest ≡ drop at text)
    (e : end ≡ line_end rest) (f : line ≡ bare_line (take end rest)) (g : now ≡ (some || is_full line)) where
  line_is : first_in rest ≡ line
  line_is = ap (λ (n : ℕ). bare_line (take n rest)) (sym e) ∙ sym f

  behind_is : drop (line_end rest + 1) rest ≡ drop (at + (end + 1)) text
  behind_is =
      ap (λ (xs : List ℕ). drop (line_end rest + 1) xs) r ∙ rest_from text at (line_end rest)
      ∙ ap (λ (n : ℕ). drop (at + (n + 1)) text) (sym e)

  these : lines_in rest ≡ full_before line (lines_in (drop (at + (end + 1)) text))
  these =
      lines_next rest ∙ ap (λ (l : List ℕ). full_before l (lines_in (drop (line_end rest + 1) rest))) line_is
      ∙ ap (λ (ys : List ℕ). full_before line (lines_in ys)) behind_is

  pub lines_on : (level : ℕ)
      → lines_from level (not some) (lines_in (drop at text))
      ≡ full_line level some line ++ lines_from level (not now) (lines_in (drop (at + (end + 1)) text))
  lines_on level =
      ap (λ (xs : List ℕ). lines_from level (not some) (lines_in xs)) (sym r)
      ∙ ap (λ (ls : List (List ℕ)). lines_from level (not some) ls) these
      ∙ text_by level some line (lines_in (drop (at + (end + 1)) text)) (is_full line) refl
      ∙ ap (λ (b : Bool). full_line level some line ++ lines_from level (not b) (lines_in (drop (at + (end + 1)) text))) (sym g)

  pub some_on : (some || not (has_none (lines_in (drop at text)))) ≡ (now || not (has_none (lines_in (drop (at + (end + 1)) text))))
  some_on =
      ap (λ (xs : List ℕ). some || not (has_none (lines_in xs))) (sym r)
      ∙ ap (λ (ls : List (List ℕ)). some || not (has_none ls)) these
      ∙ some_by some line (lines_in (drop (at + (end + 1)) text)) (is_full line) refl
      ∙ ap (λ (b : Bool). b || not (has_none (lines_in (drop (at + (end + 1)) text)))) (sym g)

-- ---- what stands between the signs

pub inside_short : (xs : List ℕ) → length xs < 4 → inside xs ≡ []
inside_short [] lt = refl
inside_short (a ∷ []) lt = refl
inside_short (a ∷ b ∷ []) lt = refl
inside_short (a ∷ b ∷ c ∷ []) lt = refl
inside_short (a ∷ b ∷ c ∷ d ∷ xs) lt = absurd (omega arith)
