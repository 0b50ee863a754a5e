-- An argument without the white space around it is read again as itself.
use Rattle.std.proofs.Common.{◌≡◌, ℕ, zero, suc, ◌+◌, ◌-◌, ◌≤◌, ◌<◌, Bool, true, false, not, ◌&&◌, ◌||◌, inl, inr, List, [], ◌∷◌, length, refl, sym, ◌∙◌, ap, arith, Some, None}
use Rattle.std.specs.Prelude.{◌==◌, nat_lt, nat_le}
use Rattle.std.proofs.lemmas.Bool.Decides.{nat_tests}
use Rattle.sw_text_scan.specs.declared.brackets.Stops.TheVariants as stops
use Rattle.sw_text_scan.specs.declared.signs.TheConstants.{END, CARRIAGE_RETURN, LINE_FEED}
use Rattle.sw_text_scan.specs.Bytes.{sign, byte, is_break, is_white, is_hex_digit, is_quote}
use Rattle.sw_text_scan.specs.Runs.{escape_end, hex_end}
use Rattle.sw_text_scan.specs.Brackets.{stops_by, closing, is_closing, over, string_end, Scan, at_place, scan_step, stopped, stop_behind}
use Rattle.sw_text_scan.proofs.Bounds.{if_false, and_left}
use Rattle.sw_text_locality.proofs.Lexical.{equal}
use Rattle.sw_text_locality.proofs.Characters.{Character, Known, known, slash_next, character_next, hex_some, hex_last, hex_not_white, name_not_slash}
use Rattle.sw_text_locality.proofs.Kept.{Alike, fewer, later, character_kept, hex_end_alike}
use Rattle.sw_text_locality.proofs.Begins.{escape_goes}
use Rattle.sw_selector.proofs.Local.{at, same, same_on, string_at}
use Rattle.sw_selector.proofs.Scans.{NO_BRACKET, over_goes, string_is, step_forward, stop_forward, stop_step, stop_found, stop_on, over_plain, over_escape, over_broken, step_again}

-- what is left of a text up to k without the white space behind it: it ends at e
pub record Trimmed (bs : List ℕ) (i e k : ℕ) : Type 0 where
  pub some : i < e
  pub within : e ≤ k
  pub white : (x : ℕ) → e ≤ x → x < k → is_white (byte bs x) ≡ true
  -- a `\` is its last byte only where nothing was left out
  pub slash : (byte bs (e - 1) == sign "\\") ≡ true → e ≡ k
  -- white space is its last byte only behind a `\`
  pub kept : is_white (byte bs (e - 1)) ≡ true → (i + 1 < e) × ((byte bs (e - 2) == sign "\\") ≡ true)

pub white_byte : (b : ℕ) → is_white b ≡ true → ((b == END) ≡ false) × ((is_quote b ≡ false) × ((nat_lt NO_BRACKET (closing b) ≡ false) × ((is_closing b ≡ false) × (((b == sign "\\") ≡ false) × (stops_by stops.Argument b ≡ false)))))
white_byte b e = (one b e, (two b e, (three b e, (four b e, (five b e, six b e)))))
  where
    one : (b : ℕ) → is_white b ≡ true → (b == END) ≡ false
    one b e = grind (arith, nat_tests)

    two : (b : ℕ) → is_white b ≡ true → is_quote b ≡ false
    two b e = grind (arith, nat_tests)

    three : (b : ℕ) → is_white b ≡ true → nat_lt NO_BRACKET (closing b) ≡ false
    three b e =
        let p : (b == sign "(") ≡ false = grind (arith, nat_tests) in
        let q : (b == sign "[") ≡ false = grind (arith, nat_tests) in
        let r : (b == sign "{") ≡ false = grind (arith, nat_tests) in
        ap (nat_lt NO_BRACKET) (if_false (b == sign "(") _ _ p ∙ if_false (b == sign "[") _ _ q ∙ if_false (b == sign "{") (sign "}") NO_BRACKET r)

    four : (b : ℕ) → is_white b ≡ true → is_closing b ≡ false
    four b e = grind (arith, nat_tests)

    five : (b : ℕ) → is_white b ≡ true → (b == sign "\\") ≡ false
    five b e = grind (arith, nat_tests)

    six : (b : ℕ) → is_white b ≡ true → stops_by stops.Argument b ≡ false
    six b e = grind (arith, nat_tests)

quote_not_white : (b : ℕ) → is_quote b ≡ true → is_white b ≡ false
quote_not_white b e = grind (arith, nat_tests)

module _ (bs : List ℕ) where
  pub white_step : (closers : List ℕ) (p : ℕ) → is_white (byte bs p) ≡ true → scan_step bs closers p ≡ Some (at_place closers (p + 1))
  unfolding scan_step
  white_step closers p e =
      let w = white_byte (byte bs p) e in
      if_false (byte bs p == END) None _ w.0 ∙ if_false (is_quote (byte bs p)) _ _ w.1.0 ∙ if_false (nat_lt NO_BRACKET (closing (byte bs p))) _ _ w.1.1.0
      ∙ if_false (is_closing (byte bs p)) _ _ w.1.1.1.0 ∙ ap (λ (x : ℕ). Some (at_place closers x)) (over_plain bs p w.1.1.1.1.0)

  -- behind white space alone nothing is open
  abbrev NothingOpen : ℕ → ℕ → Type 0
  NothingOpen k w =
      (closers : List ℕ) (p : ℕ) → k ≤ p + w → ((x : ℕ) → p ≤ x → x < k → is_white (byte bs x) ≡ true) → stop_behind stops.Argument bs closers p ≡ Some k → closers ≡ []

  no_closers : (xs : List ℕ) → (length xs == 0) ≡ true → xs ≡ []
  no_closers [] e = refl
  no_closers (x ∷ xs) e = let z = equal (length (x ∷ xs)) 0 e in absurd (omega (arith, z))

  scan_is : {x y : Scan} → Some x ≡ Some y → x ≡ y
  scan_is e = cc

  open_none : (k : ℕ) → NothingOpen k zero
  open_none k closers p l h e =
      stop_step bs (closers ≡ []) closers p k e (λ t f. no_closers closers (and_left (length closers == 0) _ t))
      (λ scan t s f. let fw = step_forward bs closers p scan s in let rest = stop_forward bs scan.closers scan.place k f in absurd (omega (arith, l, fw, rest)))

  open_more : (k w : ℕ) → NothingOpen k w → NothingOpen k (suc w)
  open_more k w before closers p l h e =
      stop_step bs (closers ≡ []) closers p k e (λ t f. no_closers closers (and_left (length closers == 0) _ t))
      (λ scan t s f. let fw = step_forward bs closers p scan s in
      let rest = stop_forward bs scan.closers scan.place k f in
      goes_on scan s f (omega (arith, fw, rest)))
    where
      goes_on : (scan : Scan) → scan_step bs closers p ≡ Some scan → stop_behind stops.Argument bs scan.closers scan.place ≡ Some k → p < k → closers ≡ []
      goes_on scan s f lt =
          let is = scan_is (sym (white_step closers p (h p (omega arith) lt)) ∙ s) in
          let there : p + 1 ≡ scan.place = ap (λ (x : Scan). x.place) is in
          let none = before scan.closers scan.place (omega (arith, l, there)) (λ x a b. h x (omega (arith, a, there)) b) f in
          ap (λ (x : Scan). x.closers) is ∙ none

  nothing_open : (k w : ℕ) → NothingOpen k w
  nothing_open k zero closers p l h e = open_none k closers p l h e
  nothing_open k (suc w) closers p l h e = open_more k w (nothing_open k w) closers p l h e

module _ (bs cs : List ℕ) (i d n k : ℕ) (a : Alike bs cs i d n) (t : Trimmed bs i (i + n) k) (close : byte bs k ≡ sign ")") (close_ : byte cs (d + n) ≡ sign ")") where
  abbrev e : ℕ
  e = i + n

  abbrev to : ℕ → ℕ
  to p = at bs cs i d n a p

  end_to : to e ≡ d + n
  end_to = omega arith

  -- up to the end, and behind it where nothing was left out
  alike_from : (p m : ℕ) → i ≤ p → p + m ≤ e → Alike bs cs p (to p) m
  alike_from p m l r x lt = sym (same_on bs cs i d n a p x l (omega (arith, lt, r)))

  alike_end : e ≡ k → (p m : ℕ) → i ≤ p → p + m ≤ e → Alike bs cs p (to p) (m + 1)
  alike_end whole p m l r x lt = go (nat_lt (p + x) e) refl
    where
      go : (t : Bool) → nat_lt (p + x) e ≡ t → byte bs (p + x) ≡ byte cs (to p + x)
      go true t = sym (same_on bs cs i d n a p x l (grind (arith, nat_tests)))
      go false t =
          let ge : e ≤ p + x = grind (arith, nat_tests) in
          let here : p + x ≡ k = omega (arith, ge, lt, r, whole) in
          let there : to p + x ≡ d + n = omega (arith, ge, lt, r, l) in
          ap (byte bs) here ∙ close ∙ sym (ap (byte cs) there ∙ close_)

  -- an escape or a byte that ends in the text
  over_at : (p r : ℕ) → over bs p ≡ r → i ≤ p → r ≤ e → over cs (to p) ≡ to r
  over_at p r f l room = go (byte bs p == sign "\\") refl
    where
      fw : p < r
      fw = let o = over_goes bs p in omega (arith, o, f)

      here : byte cs (to p) ≡ byte bs p
      here = same bs cs i d n a p l (let x = fw in omega (arith, x, room))

      go : (s : Bool) → (byte bs p == sign "\\") ≡ s → over cs (to p) ≡ to r
      go false s =
          let one = over_plain bs p s in
          over_plain cs (to p) (ap (λ (b : ℕ). b == sign "\\") here ∙ s) ∙ (let z : to p + 1 ≡ to r = omega (arith, one, f, l) in z)
      go true s = goes (nat_lt p (escape_end bs p)) refl
        where
          slash : byte bs p ≡ sign "\\"
          slash = equal (byte bs p) (sign "\\") s

          goes : (g : Bool) → nat_lt p (escape_end bs p) ≡ g → over cs (to p) ≡ to r
          goes false g = broken (nat_lt (p + 1) e) refl
            where
              one : r ≡ p + 1
              one = sym f ∙ over_broken bs p g

              broken : (b : Bool) → nat_lt (p + 1) e ≡ b → over cs (to p) ≡ to r
              broken true b =
                  let second = same_on bs cs i d n a p 1 l (grind (arith, nat_tests)) in
                  over_broken cs (to p) (escape_goes cs (to p) ∙ ap (λ (x : ℕ). (x == sign "\\") && not (is_break (byte cs (to p + 1)) || (byte cs (to p + 1) == END))) here
                  ∙ ap (λ (x : ℕ). (byte bs p == sign "\\") && not (is_break x || (x == END))) second ∙ sym (escape_goes bs p) ∙ g)
                  ∙ (let o = one in let z : to p + 1 ≡ to r = omega (arith, o, l) in z)
              broken false b =
                  let ge : e ≤ p + 1 = grind (arith, nat_tests) in
                  let o = one in
                  let last : p ≡ e - 1 = omega (arith, ge, o, room) in
                  let whole = t.slash (ap (λ (x : ℕ). byte bs x == sign "\\") (sym last) ∙ s) in
                  let second : byte bs (p + 1) ≡ sign ")" = ap (byte bs) (let z : p + 1 ≡ k = omega (arith, whole, ge, o, room) in z) ∙ close in
                  let no : nat_lt p (escape_end bs p) ≡ true =
                  escape_goes bs p ∙ ap (λ (x : ℕ). (x == sign "\\") && not (is_break (byte bs (p + 1)) || (byte bs (p + 1) == END))) slash
                  ∙ ap (λ (x : ℕ). not (is_break x || (x == END))) second in
                  absurd (let wrong : true ≡ false = sym no ∙ g in cc)
          goes true g =
              let lt : p < escape_end bs p = grind (arith, nat_tests) in
              let end : escape_end bs p ≡ r = sym (over_escape bs p lt) ∙ f in
              let esc = escape (known bs p (let z = slash_next bs p slash in omega (arith, z, lt))) end in
              over_escape cs (to p) (omega (arith, esc, end, lt, l)) ∙ esc
            where
              escape : Known bs p → escape_end bs p ≡ r → escape_end cs (to p) ≡ to r
              escape q end = near (nat_lt r e) refl
                where
                  step : r ≡ p + q.bytes
                  step = sym end ∙ sym (slash_next bs p slash) ∙ character_next bs p q.bytes q.bare q.kind

                  finish : Character cs (to p) q.bytes q.bare → escape_end cs (to p) ≡ to r
                  finish c =
                      sym (slash_next cs (to p) (here ∙ slash)) ∙ character_next cs (to p) q.bytes q.bare c ∙ (let x = step in let z : to p + q.bytes ≡ to r = omega (arith, x, l) in z)

                  near : (b : Bool) → nat_lt r e ≡ b → escape_end cs (to p) ≡ to r
                  near true b =
                      let less : r < e = grind (arith, nat_tests) in
                      let x = step in
                      finish (character_kept bs cs p (to p) q.bytes q.bare q.kind (alike_from p q.bytes l (omega (arith, x, room)))
                      (inl (alike_from p (q.bytes + 1) l (omega (arith, x, less)) q.bytes (omega arith))))
                  near false b = by_kind q.bare q.kind (λ whole. let x = step in alike_end whole p q.bytes l (omega (arith, x, room)))
                    where
                      last : r ≡ e
                      last = let ge : e ≤ r = grind (arith, nat_tests) in omega (arith, ge, room)

                      feed : (byte cs (to p + q.bytes) == LINE_FEED) ≡ false
                      feed = ap (λ (x : ℕ). byte cs x == LINE_FEED) (let x = step in let y = last in let z : to p + q.bytes ≡ d + n = omega (arith, x, y, l) in z) ∙ ap (λ (b : ℕ). b == LINE_FEED) close_

                      by_kind : (u : Bool) → Character bs p q.bytes u → (e ≡ k → Alike bs cs p (to p) (q.bytes + 1)) → escape_end cs (to p) ≡ to r
                      by_kind false c al =
                          let x = step in
                          sym (slash_next cs (to p) (here ∙ slash))
                          ∙ character_next cs (to p) q.bytes false (character_kept bs cs p (to p) q.bytes false c (alike_from p q.bytes l (omega (arith, x, room))) (inr (refl, feed)))
                          ∙ (let z : to p + q.bytes ≡ to r = omega (arith, x, l) in z)
                      by_kind true (Character.unclosed m o s2 h he w) al =
                          let x = step in
                          let y = last in
                          let whole = whole_by (nat_lt e k) refl in
                          sym (slash_next cs (to p) (here ∙ slash))
                          ∙ character_next cs (to p) q.bytes true (character_kept bs cs p (to p) q.bytes true (Character.unclosed m o s2 h he w)
                          (alike_from p q.bytes l (omega (arith, x, room))) (inl (al whole q.bytes (omega arith))))
                          ∙ (let z : to p + q.bytes ≡ to r = omega (arith, x, l) in z)
                        where
                          whole_by : (b : Bool) → nat_lt e k ≡ b → e ≡ k
                          whole_by false b = let w2 = t.within in let ge : k ≤ e = grind (arith, nat_tests) in omega (arith, w2, ge)
                          whole_by true b =
                              let lt : e < k = grind (arith, nat_tests) in
                              let x = step in let y = last in
                              let is = ap (λ (z : ℕ). is_white (byte bs z)) (let z : (p + 1) + m ≡ e = omega (arith, x, y, o) in z) ∙ t.white e (omega arith) lt in
                              absurd (let wrong : true ≡ false = sym is ∙ w in cc)

  -- an escape that ends behind the text: its white space was left out
  over_cut : (p r : ℕ) → over bs p ≡ r → i ≤ p → p < e → e < r → r ≤ k → over cs (to p) ≡ to e
  over_cut p r f l lt out room = go (byte bs p == sign "\\") refl
    where
      go : (s : Bool) → (byte bs p == sign "\\") ≡ s → over cs (to p) ≡ to e
      go false s = let one = over_plain bs p s in absurd (omega (arith, one, f, out, lt))
      go true s = goes (nat_lt p (escape_end bs p)) refl
        where
          slash : byte bs p ≡ sign "\\"
          slash = equal (byte bs p) (sign "\\") s

          goes : (g : Bool) → nat_lt p (escape_end bs p) ≡ g → over cs (to p) ≡ to e
          goes false g = let one = over_broken bs p g in absurd (omega (arith, one, f, out, lt))
          goes true g =
              let up : p < escape_end bs p = grind (arith, nat_tests) in
              let end : escape_end bs p ≡ r = sym (over_escape bs p up) ∙ f in
              escape (known bs p (let z = slash_next bs p slash in omega (arith, z, up))) end
            where
              escape : Known bs p → escape_end bs p ≡ r → over cs (to p) ≡ to e
              escape q end = by_kind q.bytes q.bare q.kind (sym end ∙ sym (slash_next bs p slash) ∙ character_next bs p q.bytes q.bare q.kind)
                where
                  -- the digits stand in the text
                  digits : (m : ℕ) → is_hex_digit (byte bs (p + 1)) ≡ true → hex_end bs (p + 1) ≡ (p + 1) + m → p + m < k → p + m < e
                  digits m h he lk = in_text (nat_lt (p + m) e) refl
                    where
                      in_text : (b : Bool) → nat_lt (p + m) e ≡ b → p + m < e
                      in_text true b = grind (arith, nat_tests)
                      in_text false b =
                          let ge : e ≤ p + m = grind (arith, nat_tests) in
                          let w = t.white (p + m) ge lk in
                          let hex = ap (λ (x : ℕ). is_hex_digit (byte bs x)) (let z : p + m ≡ ((p + 1) + m) - 1 = omega arith in z) ∙ hex_last bs m (p + 1) he (hex_some bs m (p + 1) h he) in
                          absurd (let wrong : true ≡ false = sym hex ∙ hex_not_white (byte bs (p + m)) w in cc)

                  -- the escape is what is left of it
                  left : (m : ℕ) → is_hex_digit (byte bs (p + 1)) ≡ true → hex_end bs (p + 1) ≡ (p + 1) + m → e ≡ (p + 1) + m → over cs (to p) ≡ to e
                  left m h he here =
                      let some = hex_some bs m (p + 1) h he in
                      let first_ = same bs cs i d n a p l lt in
                      let second = same_on bs cs i d n a p 1 l (omega (arith, here, some)) in
                      let behind : byte cs ((to p + 1) + m) ≡ sign ")" = ap (byte cs) (let z : (to p + 1) + m ≡ d + n = omega (arith, here, l) in z) ∙ close_ in
                      let al : Alike bs cs (p + 1) (to p + 1) m = fewer bs cs (p + 1) (to p + 1) ((m + 1) - 1) m (omega arith) (later bs cs 1 p (to p) (m + 1) (alike_from p (m + 1) l (omega (arith, here)))) in
                      let c : Character cs (to p) (m + 1) true =
                      Character.unclosed m refl (first_ ∙ slash) (ap is_hex_digit second ∙ h)
                      (hex_end_alike bs cs m (p + 1) (to p + 1) he al (inr (ap is_hex_digit behind))) (ap is_white behind) in
                      let step = character_next cs (to p) (m + 1) true c in
                      let same_ = slash_next cs (to p) (first_ ∙ slash) in
                      over_escape cs (to p) (omega (arith, step, same_)) ∙ sym same_ ∙ step ∙ (let z : to p + (m + 1) ≡ to e = omega (arith, here, l) in z)

                  by_kind : (m : ℕ) (u : Bool) → Character bs p m u → r ≡ p + m → over cs (to p) ≡ to e
                  by_kind m u (Character.plain o x) step = let no = name_not_slash (byte bs p) x in absurd (let wrong : true ≡ false = sym s ∙ no in cc)
                  by_kind m u (Character.escaped o s2 h x) step =
                      let here : p ≡ e - 1 = omega (arith, o, step, out, lt) in
                      let whole = t.slash (ap (λ (z : ℕ). byte bs z == sign "\\") (sym here) ∙ s) in
                      absurd (omega (arith, whole, here, room, step, o, lt))
                  by_kind m u (Character.closed x o s2 h he pr w) step =
                      let less = digits x h he (omega (arith, step, o, room)) in left x h he (omega (arith, less, step, o, out))
                  by_kind m u (Character.paired x o s2 h he pr) step = let less = digits x h he (omega (arith, step, o, room)) in pairs (nat_lt ((p + 1) + x) e) refl less
                    where
                      pairs : (b : Bool) → nat_lt ((p + 1) + x) e ≡ b → p + x < e → over cs (to p) ≡ to e
                      pairs false b less = let ge : e ≤ (p + 1) + x = grind (arith, nat_tests) in left x h he (omega (arith, ge, less))
                      pairs true b less =
                          let gt : (p + 1) + x < e = grind (arith, nat_tests) in
                          let here : e ≡ ((p + 1) + x) + 1 = omega (arith, gt, step, o, out) in
                          let cr = and_left (byte bs ((p + 1) + x) == CARRIAGE_RETURN) _ pr in
                          let k2 = t.kept (ap (λ (z : ℕ). is_white (byte bs z)) (let z : e - 1 ≡ (p + 1) + x = omega (arith, here) in z) ∙ return_white (byte bs ((p + 1) + x)) cr) in
                          let hex = hex_last bs x (p + 1) he (hex_some bs x (p + 1) h he) in
                          let back : byte bs (((p + 1) + x) - 1) ≡ sign "\\" =
                          ap (byte bs) (let z : ((p + 1) + x) - 1 ≡ e - 2 = omega (arith, here) in z) ∙ equal (byte bs (e - 2)) (sign "\\") k2.1 in
                          absurd (let wrong : is_hex_digit (sign "\\") ≡ true = ap is_hex_digit (sym back) ∙ hex in cc)
                        where
                          return_white : (b : ℕ) → (b == CARRIAGE_RETURN) ≡ true → is_white b ≡ true
                          return_white b e = grind (arith, nat_tests)
                  by_kind m u (Character.unclosed x o s2 h he w) step =
                      let less = digits x h he (omega (arith, step, o, room)) in absurd (omega (arith, less, step, o, out))

  -- the scan up to the end
  abbrev ScansAgain : ℕ → Type 0
  ScansAgain w = (closers : List ℕ) (p : ℕ) → e ≤ p + w → i ≤ p → p ≤ e → stop_behind stops.Argument bs closers p ≡ Some k → stop_behind stops.Argument cs closers (to p) ≡ Some (to e)

  ending : (closers : List ℕ) (q : ℕ) → closers ≡ [] → q ≡ to e → stop_behind stops.Argument cs closers q ≡ Some (to e)
  ending closers q none here =
      ap (λ (xs : List ℕ). stop_behind stops.Argument cs xs q) none ∙ ap (stop_behind stops.Argument cs []) here
      ∙ stop_found cs [] (to e) (ap (stops_by stops.Argument) (ap (byte cs) end_to ∙ close_))

  ended : (closers : List ℕ) (p : ℕ) → p ≡ e → stop_behind stops.Argument bs closers p ≡ Some k → stop_behind stops.Argument cs closers (to p) ≡ Some (to e)
  ended closers p here found =
      ending closers (to p) (nothing_open bs k k closers p (omega arith) (λ x f g. t.white x (omega (arith, f, here)) g) found) (ap to here)

  quoted : (p j : ℕ) → is_quote (byte bs p) ≡ true → string_end bs (byte bs p) p ≡ Some j → e < j → j ≤ k → ⊥
  quoted p j q g out bound =
      let is = string_is bs (byte bs p) p j g in
      let white = t.white (j - 1) (omega (arith, out)) (omega (arith, out, bound)) in
      let none = quote_not_white (byte bs p) q in
      let last : byte bs (j - 1) ≡ byte bs p = equal (byte bs (j - 1)) (byte bs p) is.1 in
      let wrong : true ≡ false = sym white ∙ ap is_white last ∙ none in cc

  one_more : (w : ℕ) → ScansAgain w → ScansAgain (suc w)
  one_more w again closers p enough l le found = go (nat_lt p e) refl
    where
      goes_on : p < e → byte cs (to p) ≡ byte bs p → (scan : Scan) → stopped stops.Argument bs closers p ≡ false → scan_step bs closers p ≡ Some scan
          → stop_behind stops.Argument bs scan.closers scan.place ≡ Some k → (b : Bool) → nat_le scan.place e ≡ b → stop_behind stops.Argument cs closers (to p) ≡ Some (to e)
      goes_on lt here scan s step rest true f =
          let room : scan.place ≤ e = grind (arith, nat_tests) in
          let fw = step_forward bs closers p scan step in
          stop_on cs closers (to p) scan.closers (to scan.place) (to e) (ap (λ (x : ℕ). (length closers == 0) && stops_by stops.Argument x) here ∙ s)
          (step_again bs cs closers p (to p) (to scan.place) scan here (λ _ g. string_at bs cs i d n a (byte bs p) p scan.place g l room)
          (λ g. (let z : to p + 1 ≡ to scan.place = omega (arith, g, l) in z)) (λ g. over_at p scan.place g l room) step)
          (again scan.closers scan.place (omega (arith, enough, fw)) (omega (arith, fw, l)) room rest)
      goes_on lt here scan s step rest false f =
          let out : e < scan.place = grind (arith, nat_tests) in
          let bound = stop_forward bs scan.closers scan.place k rest in
          let none = nothing_open bs k k scan.closers scan.place (omega arith) (λ x g h. t.white x (omega (arith, g, out)) h) rest in
          stop_on cs closers (to p) scan.closers (to e) (to e) (ap (λ (x : ℕ). (length closers == 0) && stops_by stops.Argument x) here ∙ s)
          (step_again bs cs closers p (to p) (to e) scan here (λ q g. absurd (quoted p scan.place q g out bound))
          (λ g. absurd (omega (arith, g, out, lt))) (λ g. over_cut p scan.place g l lt out bound) step)
          (ending scan.closers (to e) none refl)

      go : (b : Bool) → nat_lt p e ≡ b → stop_behind stops.Argument cs closers (to p) ≡ Some (to e)
      go false b = let ge : e ≤ p = grind (arith, nat_tests) in ended closers p (omega (arith, ge, le)) found
      go true b =
          let lt : p < e = grind (arith, nat_tests) in
          let bound = t.within in
          stop_step bs (stop_behind stops.Argument cs closers (to p) ≡ Some (to e)) closers p k found (λ s here. absurd (omega (arith, here, bound, lt)))
          (λ scan s step rest. goes_on lt (same bs cs i d n a p l lt) scan s step rest (nat_le scan.place e) refl)

  pub scan_again : (w : ℕ) → ScansAgain w
  scan_again zero closers p enough l le found = ended closers p (omega (arith, enough, le)) found
  scan_again (suc w) closers p enough l le found = one_more w (scan_again w) closers p enough l le found
