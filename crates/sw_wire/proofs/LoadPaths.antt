-- Load paths, one word after another.
use Rattle.std.proofs.Common.{◌≡◌, ℕ, ◌+◌, ◌≤◌, ◌<◌, Bool, true, false, ◌&&◌, nat_le, List, [], ◌∷◌, ◌++◌, length, None, Some, refl, ap, ◌∙◌, arith}
use Rattle.std.specs.declared.option.Option.{Option}
use denote.Bor.{Bor}
use Rattle.std.proofs.lemmas.Bool.Decides.{nat_tests}
use Rattle.std.proofs.lemmas.List.{length-append, append-nil}
use Rattle.std.proofs.lemmas.List.Folds.{list_all-append}
use Rattle.std.specs.List.{list_all}
use Rattle.std.specs.Option.{IfSome}
use Rattle.sw_wire.specs.Requests.{is_base, bases_by}

abbrev pub length_left : Option (Bor (List ℕ)) → ℕ
length_left None = 0
length_left (Some rest) = 1 + length rest.now

pub bases_push : (bases : List (List ℕ)) (word : List ℕ) → list_all is_base bases ≡ true → is_base word ≡ true → list_all is_base (bases ++ word ∷ []) ≡ true
bases_push bases word a b = list_all-append is_base bases (word ∷ []) ∙ rw (a, b) refl

too_long : (n : ℕ) → 9 ≤ n → nat_le n 8 ≡ false
too_long n le = grind (arith, nat_tests)

no_and : (a : Bool) → (a && false) ≡ false
no_and true = refl
no_and false = refl

pub bases_many : (bases words : List (List ℕ)) (word : List ℕ) → 8 ≤ length bases → bases_by (bases ++ word ∷ words) ≡ None
bases_many bases words word le =
    let n : nat_le (length (bases ++ word ∷ words)) 8 ≡ false = too_long _ (omega (arith, length-append bases (word ∷ words))) in
    rw n refl

pub bases_wrong : (bases words : List (List ℕ)) (word : List ℕ) → is_base word ≡ false → bases_by (bases ++ word ∷ words) ≡ None
bases_wrong bases words word e =
    let n : list_all is_base (bases ++ word ∷ words) ≡ false = list_all-append is_base bases (word ∷ words) ∙ rw e (no_and (list_all is_base bases)) in
    rw (n, no_and (nat_le (length (bases ++ word ∷ words)) 8)) refl

short_enough : (n : ℕ) → n ≤ 8 → nat_le n 8 ≡ true
short_enough n le = grind (arith, nat_tests)

pub bases_end : (all bases : List (List ℕ)) → all ≡ bases ++ [] → length bases ≤ 8 → list_all is_base bases ≡ true → bases_by all ≡ Some bases
bases_end all bases e few good =
    let s : nat_le (length bases) 8 ≡ true = short_enough _ few in
    ap bases_by (e ∙ append-nil bases) ∙ rw (s, good) refl

pub shorter_left : (left more : Option (Bor (List ℕ))) (text : Bor (List ℕ)) → left ≡ Some text → IfSome more (λ rest. length rest.now < length text.now)
    → length_left more < length_left left
shorter_left left None text e lt = rw e (omega arith)
shorter_left left (Some rest) text e lt = rw e (omega arith)
