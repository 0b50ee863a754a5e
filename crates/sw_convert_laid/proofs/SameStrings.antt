-- Before a line feed a string that is closed before it reaches as far as before a space.
use Rattle.std.proofs.Common.{◌≡◌, ◌⊎◌, inl, inr, ℕ, zero, suc, ◌+◌, ◌-◌, ◌≤◌, ◌<◌, Bool, true, false, not, ◌&&◌, ◌||◌, if◌then◌else◌, List, ◌∷◌, ◌++◌, length, refl, sym, ◌∙◌, ap, subst, arith}
use Rattle.std.specs.Prelude.{◌==◌, nat_lt}
use Rattle.std.proofs.lemmas.Bool.Decides.{nat_tests}
use Rattle.sw_text_scan.specs.declared.runs.Class.TheVariants as classes
use Rattle.sw_text_scan.specs.declared.signs.TheConstants.{END}
use Rattle.sw_text_scan.specs.Bytes.{sign, is_quote, byte, is_break, opens_at}
use Rattle.sw_text_scan.specs.Runs.{white_end, escape_end, text_next, next, run_from, run_end}
use Rattle.sw_text_scan.proofs.Bounds.{if_true, if_false}
use Rattle.sw_text_scan.proofs.Progress.{run_stops}
use Rattle.sw_convert_spelling.proofs.MovedRuns.{byte_behind, first_byte}
use Rattle.sw_convert_laid.specs.LineFeeds.{ends_plainly}
use Rattle.sw_convert_laid.proofs.SameRuns.{pick, cases, one, opens_same, escape_same, white_end_same, slashed, as_long}

module _ (r w : List ℕ) (plain : ends_plainly w ≡ true) (q : ℕ) (quote : is_quote q ≡ true) where
  abbrev bs : List ℕ
  bs = w ++ 32 ∷ r

  abbrev cs : List ℕ
  cs = w ++ 10 ∷ r

  abbrev n : ℕ
  n = length w

  pub no_space : (32 == q) ≡ false
  no_space = go q quote
    where
      go : (b : ℕ) → is_quote b ≡ true → (32 == b) ≡ false
      go b e = grind (arith, nat_tests)

  pub no_feed : (10 == q) ≡ false
  no_feed = go q quote
    where
      go : (b : ℕ) → is_quote b ≡ true → (10 == b) ≡ false
      go b e = grind (arith, nat_tests)

  -- where the same byte stands the string goes on alike
  text_same : (i : ℕ) → byte cs i ≡ byte bs i → text_next cs q i ≡ text_next bs q i
  unfolding text_next
  text_same i e = go (byte bs i == sign "\\") refl
    where
      go : (t : Bool) → (byte bs i == sign "\\") ≡ t
          → (if (byte cs i == q) || (is_break (byte cs i) || (byte cs i == END)) then i
          else (if not (byte cs i == sign "\\") then i + 1
          else (if is_break (byte cs (i + 1)) then white_end cs (i + 1)
          else (if byte cs (i + 1) == END then i + 1 else escape_end cs i))))
          ≡ (if (byte bs i == q) || (is_break (byte bs i) || (byte bs i == END)) then i
          else (if not (byte bs i == sign "\\") then i + 1
          else (if is_break (byte bs (i + 1)) then white_end bs (i + 1)
          else (if byte bs (i + 1) == END then i + 1 else escape_end bs i))))
      go t f =
          pick _ ((byte bs i == q) || (is_break (byte bs i) || (byte bs i == END))) _ _ i
          (if not (byte bs i == sign "\\") then i + 1
          else (if is_break (byte bs (i + 1)) then white_end bs (i + 1) else (if byte bs (i + 1) == END then i + 1 else escape_end bs i)))
          (ap (λ (b : ℕ). (b == q) || (is_break b || (b == END))) e) refl (inner t f)
        where
          inner : (t : Bool) → (byte bs i == sign "\\") ≡ t
              → (if not (byte cs i == sign "\\") then i + 1
              else (if is_break (byte cs (i + 1)) then white_end cs (i + 1)
              else (if byte cs (i + 1) == END then i + 1 else escape_end cs i)))
              ≡ (if not (byte bs i == sign "\\") then i + 1
              else (if is_break (byte bs (i + 1)) then white_end bs (i + 1)
              else (if byte bs (i + 1) == END then i + 1 else escape_end bs i)))
          inner false f =
              if_true (not (byte cs i == sign "\\")) (i + 1) _ (ap (λ (b : ℕ). not (b == sign "\\")) e ∙ ap not f)
              ∙ sym (if_true (not (byte bs i == sign "\\")) (i + 1) _ (ap not f))
          inner true f =
              let s = slashed r w plain i f in
              pick _ (not (byte bs i == sign "\\")) _ _ (i + 1)
              (if is_break (byte bs (i + 1)) then white_end bs (i + 1) else (if byte bs (i + 1) == END then i + 1 else escape_end bs i))
              (ap (λ (b : ℕ). not (b == sign "\\")) e) refl
              (pick _ (is_break (byte bs (i + 1))) _ _ (white_end bs (i + 1)) (if byte bs (i + 1) == END then i + 1 else escape_end bs i)
              (ap is_break s) (white_end_same r w plain (i + 1))
              (pick _ (byte bs (i + 1) == END) _ _ (i + 1) (escape_end bs i) (ap (λ (b : ℕ). b == END) s) refl (escape_same r w plain i)))

  next_same : (i : ℕ) → byte cs i ≡ byte bs i → next (classes.SheetText q) cs i ≡ next (classes.SheetText q) bs i
  next_same i e = pick (opens_at cs i) (opens_at bs i) i (text_next cs q i) i (text_next bs q i) (opens_same r w plain i) refl (text_same i e)

  spaced_end : byte bs n ≡ 32
  spaced_end =
      ap (byte bs) (let e : n ≡ n + 0 = omega arith in e) ∙ byte_behind w (32 ∷ r) 0 ∙ first_byte 32 r

  -- at the line feed it stops
  stops_there : (i : ℕ) → byte cs i ≡ 10 → next (classes.SheetText q) cs i ≡ i
  unfolding text_next
  stops_there i e =
      go (opens_at cs i)
    where
      go : (t : Bool) → (if t then i else text_next cs q i) ≡ i
      go true = refl
      go false = if_true ((byte cs i == q) || (is_break (byte cs i) || (byte cs i == END))) i _ (ap (λ (b : ℕ). (b == q) || (is_break b || (b == END))) e ∙ ap (λ (t : Bool). t || true) no_feed)

  -- at the space it goes on
  goes_there : (i : ℕ) → byte bs i ≡ 32 → next (classes.SheetText q) bs i ≡ i + 1
  unfolding text_next
  goes_there i e =
      if_false (opens_at bs i) i (text_next bs q i) (ap (λ (b : ℕ). (b == sign "#") && (byte bs (i + 1) == sign "{")) e)
      ∙ if_false ((byte bs i == q) || (is_break (byte bs i) || (byte bs i == END))) i _ (ap (λ (b : ℕ). (b == q) || (is_break b || (b == END))) e ∙ ap (λ (t : Bool). t || false) no_space)
      ∙ if_true (not (byte bs i == sign "\\")) (i + 1) _ (ap (λ (b : ℕ). not (b == sign "\\")) e)

  from_forward : (f i : ℕ) → i ≤ run_from (classes.SheetText q) bs f i
  from_forward zero i = omega arith
  from_forward (suc f) i = go (nat_lt i (next (classes.SheetText q) bs i)) refl (from_forward f (next (classes.SheetText q) bs i))
    where
      go : (t : Bool) → nat_lt i (next (classes.SheetText q) bs i) ≡ t
          → next (classes.SheetText q) bs i ≤ run_from (classes.SheetText q) bs f (next (classes.SheetText q) bs i)
          → i ≤ (if t then run_from (classes.SheetText q) bs f (next (classes.SheetText q) bs i) else i)
      go true t more = let lt : i < next (classes.SheetText q) bs i = grind (arith, nat_tests) in omega (arith, lt, more)
      go false t more = omega arith

  -- it reaches as far, or stops at the line feed, where the other goes on
  abbrev Reach : ℕ → ℕ → Type 0
  Reach far near = (far ≡ near) ⊎ ((byte cs far ≡ 10) × (n ≤ near))

  from_reach : (f i : ℕ) → Reach (run_from (classes.SheetText q) cs f i) (run_from (classes.SheetText q) bs f i)
  from_reach zero i = inl refl
  from_reach (suc f) i = at_byte (cases r w plain i) (λ k. from_reach f k)
    where
      at_byte : (byte cs i ≡ byte bs i) ⊎ ((byte bs i ≡ 32) × (byte cs i ≡ 10) × (i ≡ n))
          → ((k : ℕ) → Reach (run_from (classes.SheetText q) cs f k) (run_from (classes.SheetText q) bs f k))
          → Reach (run_from (classes.SheetText q) cs (suc f) i) (run_from (classes.SheetText q) bs (suc f) i)
      at_byte (inr (b, c, at)) others =
          let stays : run_from (classes.SheetText q) cs (suc f) i ≡ i =
          if_false (nat_lt i (next (classes.SheetText q) cs i)) _ i (not_past (next (classes.SheetText q) cs i) (stops_there i c)) in
          let on = from_forward (suc f) i in
          inr (ap (byte cs) stays ∙ c, omega (arith, at, on))
        where
          not_past : (k : ℕ) → k ≡ i → nat_lt i k ≡ false
          not_past k e = grind (arith, nat_tests)
      at_byte (inl e) others =
          go (nat_lt i (next (classes.SheetText q) bs i)) refl (others (next (classes.SheetText q) bs i))
        where
          go : (t : Bool) → nat_lt i (next (classes.SheetText q) bs i) ≡ t
              → Reach (run_from (classes.SheetText q) cs f (next (classes.SheetText q) bs i)) (run_from (classes.SheetText q) bs f (next (classes.SheetText q) bs i))
              → Reach (run_from (classes.SheetText q) cs (suc f) i) (run_from (classes.SheetText q) bs (suc f) i)
          go true t more =
              subst (λ (x : ℕ). Reach x (run_from (classes.SheetText q) bs (suc f) i))
              (sym (if_true (nat_lt i (next (classes.SheetText q) cs i)) _ i (ap (nat_lt i) (next_same i e) ∙ t) ∙ ap (run_from (classes.SheetText q) cs f) (next_same i e)))
              (subst (λ (x : ℕ). Reach (run_from (classes.SheetText q) cs f (next (classes.SheetText q) bs i)) x)
              (sym (if_true (nat_lt i (next (classes.SheetText q) bs i)) _ i t)) more)
          go false t more =
              inl (if_false (nat_lt i (next (classes.SheetText q) cs i)) _ i (ap (nat_lt i) (next_same i e) ∙ t)
              ∙ sym (if_false (nat_lt i (next (classes.SheetText q) bs i)) _ i t))

  run_reach : (i : ℕ) → Reach (run_end (classes.SheetText q) cs i) (run_end (classes.SheetText q) bs i)
  unfolding run_end
  run_reach i =
      subst (λ (l : ℕ). Reach (run_from (classes.SheetText q) cs (l - i) i) (run_from (classes.SheetText q) bs (length bs - i) i))
      (sym (as_long r w plain)) (from_reach (length bs - i) i)

  -- closed before its end, it reaches as far
  pub closed_same : (i : ℕ) → run_end (classes.SheetText q) bs i < n → run_end (classes.SheetText q) cs i ≡ run_end (classes.SheetText q) bs i
  closed_same i l = go (run_reach i)
    where
      go : Reach (run_end (classes.SheetText q) cs i) (run_end (classes.SheetText q) bs i)
          → run_end (classes.SheetText q) cs i ≡ run_end (classes.SheetText q) bs i
      go (inl e) = e
      go (inr (e, m)) = absurd (omega (arith, l, m))

  -- and if it ends within the text, it ends before the space
  pub inside_same : (i : ℕ) → run_end (classes.SheetText q) bs i ≤ n → run_end (classes.SheetText q) bs i < n
  inside_same i l = go (nat_lt (run_end (classes.SheetText q) bs i) n) refl
    where
      go : (t : Bool) → nat_lt (run_end (classes.SheetText q) bs i) n ≡ t → run_end (classes.SheetText q) bs i < n
      go true t = grind (arith, nat_tests)
      go false t =
          let at : run_end (classes.SheetText q) bs i ≡ n = (let ge : n ≤ run_end (classes.SheetText q) bs i = grind (arith, nat_tests) in omega (arith, ge, l)) in
          absurd
          (let g = goes_there (run_end (classes.SheetText q) bs i) (ap (byte bs) at ∙ spaced_end) in
          let stop = run_stops bs (classes.SheetText q) i in omega (arith, g, stop))

  even : (32 == q) ≡ (10 == q)
  even = no_space ∙ sym no_feed

  pub is_same : (i : ℕ) → (byte cs i == q) ≡ (byte bs i == q)
  is_same i = one r w plain (λ (b : ℕ). b == q) even i

  -- where no quote stands at its end, none does before a line feed
  pub unclosed_same : (i : ℕ) → (byte bs (run_end (classes.SheetText q) bs i) == q) ≡ false
      → (byte cs (run_end (classes.SheetText q) cs i) == q) ≡ false
  unclosed_same i e = go (run_reach i)
    where
      go : Reach (run_end (classes.SheetText q) cs i) (run_end (classes.SheetText q) bs i)
          → (byte cs (run_end (classes.SheetText q) cs i) == q) ≡ false
      go (inl same) =
          ap (λ (k : ℕ). byte cs k == q) same ∙ is_same (run_end (classes.SheetText q) bs i) ∙ e
      go (inr (feed, m)) = ap (λ (b : ℕ). b == q) feed ∙ no_feed
