-- Where a text may be cut: before it, and behind each byte of ASCII.
use Rattle.std.proofs.Common.{◌≡◌, ℕ, zero, suc, ◌+◌, ◌≤◌, ◌<◌, Bool, true, false, ◌&&◌, ◌||◌, List, length, get_or, refl, sym, ◌∙◌, ap, arith}
use Rattle.std.specs.Prelude.{◌==◌, nat_lt, nat_le, slice_index, if◌then◌else◌}
use Rattle.std.specs.Str.{IsUtf8, IsCharBoundary}
use Rattle.std.proofs.lemmas.Bool.Decides.{nat_tests}
use Rattle.std.proofs.lemmas.List.{get_or_default}
use Rattle.std.proofs.lemmas.Str.{IsCharBoundary-start, IsCharBoundary-after_ascii}
use Rattle.sw_text_scan.specs.declared.runs.Class.{Class}
use Rattle.sw_text_scan.specs.declared.runs.Class.TheVariants as classes
use Rattle.sw_text_scan.specs.declared.signs.TheConstants.{END}
use Rattle.sw_text_scan.specs.Bytes.{sign, byte, continues, is_white}
use Rattle.sw_text_scan.specs.Runs.{next, run_end}
use Rattle.sw_text_scan.specs.Pieces.{is_cut}
use Rattle.sw_text_scan.proofs.Bounds.{byte_past, run_step, run_stop, run_forward}
use Rattle.sw_text_locality.specs.Names.{white}
use Rattle.sw_text_locality.proofs.Written.{byte_get}
use Rattle.sw_text_locality.proofs.Stands.{cut_at}

-- the characters of the text are whole
pub record Whole (bs : List ℕ) : Type 0 where
  pub start : is_cut bs 0 ≡ true
  pub behind : (i : ℕ) → byte bs i < 128 → is_cut bs (i + 1) ≡ true

continues_not : (b : ℕ) → (128 ≤ b → 192 ≤ b) → continues b ≡ false
continues_not b h = go (nat_le 128 b) refl (nat_lt b 192) refl
  where
    go : (s : Bool) → nat_le 128 b ≡ s → (t : Bool) → nat_lt b 192 ≡ t → (nat_le 128 b && nat_lt b 192) ≡ false
    go false s t f = grind (arith, nat_tests)
    go true s false f = grind (arith, nat_tests)
    go true s true f =
        let l : 128 ≤ b = grind (arith, nat_tests) in
        let r : b < 192 = grind (arith, nat_tests) in
        let w = h l in absurd (omega (arith, w, r))

module _ (bs : List ℕ) where
  boundary_cut : (i : ℕ) → IsCharBoundary bs i → is_cut bs i ≡ true
  boundary_cut i b = cut_at bs i b.0 (go (nat_lt i (length bs)) refl)
    where
      go : (t : Bool) → nat_lt i (length bs) ≡ t → continues (byte bs i) ≡ false
      go true t =
          let lt : i < length bs = grind (arith, nat_tests) in
          let same : byte bs i ≡ slice_index bs i = byte_get bs i ∙ get_or_default bs i END 0 lt in
          ap continues same ∙ continues_not (slice_index bs i) (b.1 lt)
      go false t = ap continues (byte_past bs i (grind (arith, nat_tests)))

  pub whole_text : IsUtf8 bs → Whole bs
  whole_text u = record {
    start = boundary_cut 0 (IsCharBoundary-start bs u);
    behind = λ i lt. boundary_cut (i + 1) (IsCharBoundary-after_ascii bs i u (inside i lt) (small i lt));
  }
    where
      inside : (i : ℕ) → byte bs i < 128 → i < length bs
      inside i lt = go (nat_lt i (length bs)) refl
        where
          go : (t : Bool) → nat_lt i (length bs) ≡ t → i < length bs
          go true t = grind (arith, nat_tests)
          go false t = let e = byte_past bs i (grind (arith, nat_tests)) in absurd (omega (arith, e, lt))

      small : (i : ℕ) → byte bs i < 128 → get_or bs i 0 < 128
      small i lt = let e = byte_get bs i ∙ get_or_default bs i END 0 (inside i lt) in omega (arith, e, lt)

  module _ (w : Whole bs) where
    -- behind a run of a class that takes bytes of ASCII one by one
    abbrev OneByOne : Class → Type 0
    OneByOne c = (i : ℕ) → i < next c bs i → (next c bs i ≡ i + 1) × (byte bs i < 128)

    abbrev RunsCut : Class → ℕ → Type 0
    RunsCut c n = (i : ℕ) → run_end c bs i ≤ i + n → is_cut bs i ≡ true → is_cut bs (run_end c bs i) ≡ true

    run_more : (c : Class) → OneByOne c → (n : ℕ) → RunsCut c n → RunsCut c (suc n)
    run_more c one n before i l e = go (nat_lt i (next c bs i)) refl
      where
        go : (t : Bool) → nat_lt i (next c bs i) ≡ t → is_cut bs (run_end c bs i) ≡ true
        go false t = ap (is_cut bs) (run_stop bs c i (grind (arith, nat_tests))) ∙ e
        go true t =
            let lt : i < next c bs i = grind (arith, nat_tests) in
            let is = one i lt in
            let same : run_end c bs (i + 1) ≡ run_end c bs i = ap (run_end c bs) (sym is.0) ∙ run_step bs c i lt in
            ap (is_cut bs) (sym same) ∙ before (i + 1) (omega (arith, same, l)) (w.behind i is.1)

    run_cut : (c : Class) → OneByOne c → (n : ℕ) → RunsCut c n
    run_cut c one zero i l e = let up = run_forward bs c i in ap (is_cut bs) (let z : run_end c bs i ≡ i = omega (arith, l, up) in z) ∙ e
    run_cut c one (suc n) i l e = run_more c one n (run_cut c one n) i l e

    white_ascii : (b : ℕ) → is_white b ≡ true → b < 128
    white_ascii b e = grind (arith, nat_tests)

    commas_ascii : (b : ℕ) → (is_white b || (b == sign ",")) ≡ true → b < 128
    commas_ascii b e = grind (arith, nat_tests)

    pub white_cut : (i : ℕ) → is_cut bs i ≡ true → is_cut bs (white bs i) ≡ true
    white_cut i e = run_cut classes.White (λ j lt. one j (is_white (byte bs j)) refl lt) (white bs i) i (omega arith) e
      where
        one : (j : ℕ) (t : Bool) → is_white (byte bs j) ≡ t → j < (if t then j + 1 else j) → ((if t then j + 1 else j) ≡ j + 1) × (byte bs j < 128)
        one j true t lt = (refl, white_ascii (byte bs j) t)
        one j false t lt = absurd (omega (arith, lt))

    pub commas_cut : (i : ℕ) → is_cut bs i ≡ true → is_cut bs (run_end classes.Commas bs i) ≡ true
    commas_cut i e = run_cut classes.Commas (λ j lt. one j (is_white (byte bs j) || (byte bs j == sign ",")) refl lt) (run_end classes.Commas bs i) i (omega arith) e
      where
        one : (j : ℕ) (t : Bool) → (is_white (byte bs j) || (byte bs j == sign ",")) ≡ t → j < (if t then j + 1 else j) → ((if t then j + 1 else j) ≡ j + 1) × (byte bs j < 128)
        one j true t lt = (refl, commas_ascii (byte bs j) t)
        one j false t lt = absurd (omega (arith, lt))
