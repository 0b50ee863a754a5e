-- The unit of a number that was read ends where nothing goes on with it: before what may stand behind a value, too.
use Rattle.std.proofs.Common.{◌≡◌, ◌⊎◌, ◌≤◌, ◌<◌, ℕ, zero, suc, ◌+◌, ◌-◌, Bool, true, false, ◌&&◌, ◌||◌, if◌then◌else◌, List, [], ◌++◌, length, Option, None, inl, inr, refl, sym, ◌∙◌, ap, subst, arith}
use Rattle.std.specs.Prelude.{◌==◌, nat_lt}
use Rattle.std.proofs.lemmas.Bool.Decides.{nat_tests}
use Rattle.sw_text_scan.specs.declared.runs.Class.TheVariants as classes
use Rattle.sw_text_scan.specs.declared.signs.TheConstants.{CARRIAGE_RETURN, LINE_FEED}
use Rattle.sw_text_scan.specs.Bytes.{sign, byte, is_white, is_digit, is_hex_digit, starts_plainly, is_name_byte}
use Rattle.sw_text_scan.specs.Runs.{escape_end, goes_in_unit, next, run_from, run_end}
use Rattle.sw_text_scan.proofs.Bounds.{if_true, if_false, or_left, or_right, run_step, run_stop}
use Rattle.sw_text_locality.proofs.Characters.{slash_next, escape_none, Character, known, character_next}
use Rattle.sw_text_locality.proofs.Characters.Character.{plain}
use Rattle.sw_text_locality.proofs.Runs.{escape_steps}
use Rattle.sw_convert_spelling.proofs.Again as texts
use Rattle.sw_convert_spelling.proofs.MovedRuns as moved
use Rattle.sw_convert_spelling.proofs.Choices.{left_no, right_no, neither}
use Rattle.sw_convert_written.specs.Escapes.{takes_white, ends_unclosed}
use Rattle.sw_convert_tokens.proofs.OpenEscapes.{states, states_more, Settled, nothing_open, character_state, states_text}
use Rattle.sw_convert_tokens.specs.Written.{begins_white}
use Rattle.sw_convert_tokens.proofs.Stops.{Parted, white_same, no_escape}

-- no unit goes on behind it, and an escape at its end takes nothing more
pub record UnitEnds (w after : List ℕ) : Type 0 where
  pub stop : next classes.Unit after 0 ≤ 0
  pub hex : is_hex_digit (byte after 0) ≡ false
  pub feed : (byte after 0 == LINE_FEED) ≡ false
  pub closed : (begins_white after && ends_unclosed w) ≡ false

-- no name goes on with what no unit goes on with
no_unit : (b : ℕ) (x : Bool) → is_name_byte b ≡ false
    → (starts_plainly b || (is_digit b || ((b == sign "-") && x))) ≡ false
no_unit b x e =
    let more = or_right (starts_plainly b) (is_digit b || (b == sign "-")) e in
    neither (starts_plainly b) _ (or_left (starts_plainly b) (is_digit b || (b == sign "-")) e)
    (neither (is_digit b) _ (or_left (is_digit b) (b == sign "-") more)
    (left_no (b == sign "-") x (or_right (is_digit b) (b == sign "-") more)))

loosen : (a b c d : Bool) → (a || (b || (c && d))) ≡ true → (a || (b || c)) ≡ true
loosen true b c d e = refl
loosen false true c d e = refl
loosen false false true d e = refl
loosen false false false d e = e

-- where the last holds not, the others hold
without : (a b c d x : Bool) → (a || (b || (c && d))) ≡ true → d ≡ false → (a || (b || (c && x))) ≡ true
without true b c d x e f = refl
without false true c d x e f = refl
without false false true d x e f = absurd (cc)
without false false false d x e f = e

no_hex : (b : ℕ) → is_name_byte b ≡ false → is_hex_digit b ≡ false
no_hex b e = grind (arith, nat_tests)

-- what goes on with no name
pub dark_ends : (w after : List ℕ) → is_name_byte (byte after 0) ≡ false → (byte after 0 == sign "\\") ≡ false
    → (byte after 0 == LINE_FEED) ≡ false → (begins_white after && ends_unclosed w) ≡ false → UnitEnds w after
dark_ends w after name slash feed closed =
    let stays =
    if_false (goes_in_unit after 0) (0 + 1) (escape_end after 0) (no_unit (byte after 0) (starts_plainly (byte after 1)) name)
    ∙ no_escape after slash in record {
      stop = omega (arith, stays);
      hex = no_hex (byte after 0) name;
      feed = feed;
      closed = closed;
    }

equal : (a b : ℕ) → (a == b) ≡ true → a ≡ b
equal a b e = grind (arith, nat_tests)

module _ (bs : List ℕ) where
  forward : (f i : ℕ) → i ≤ run_from classes.Unit bs f i
  forward zero i = omega arith
  forward (suc f) i = go (nat_lt i (next classes.Unit bs i)) refl (forward f (next classes.Unit bs i))
    where
      go : (t : Bool) → nat_lt i (next classes.Unit bs i) ≡ t
          → next classes.Unit bs i ≤ run_from classes.Unit bs f (next classes.Unit bs i)
          → i ≤ (if t then run_from classes.Unit bs f (next classes.Unit bs i) else i)
      go true t more = let lt : i < next classes.Unit bs i = grind (arith, nat_tests) in omega (arith, lt, more)
      go false t more = omega arith

  pub slashed : (i : ℕ) → i < escape_end bs i → byte bs i ≡ sign "\\"
  slashed i goes = go (byte bs i == sign "\\") refl
    where
      go : (t : Bool) → (byte bs i == sign "\\") ≡ t → byte bs i ≡ sign "\\"
      go true t = equal (byte bs i) (sign "\\") t
      go false t = let stays = escape_none bs i t in absurd (omega (arith, stays, goes))

  -- an escape is no other character of a unit
  slash_unit : (i : ℕ) → byte bs i ≡ sign "\\" → next classes.Unit bs i ≡ escape_end bs i
  slash_unit i s =
      if_false (goes_in_unit bs i) (i + 1) (escape_end bs i)
      (no_unit (byte bs i) (starts_plainly (byte bs (i + 1))) (ap is_name_byte s))

module _ (w old after : List ℕ) where
  abbrev bs : List ℕ
  bs = w ++ old

  abbrev cs : List ℕ
  cs = w ++ after

  abbrev n : ℕ
  n = length w

  module _ (stops : next classes.Unit bs n ≤ n) (it : UnitEnds w after) where
    here : byte cs n ≡ byte after 0
    here = texts.behind_first w old after

    none : next classes.Unit cs n ≤ n
    none =
        let place : n ≡ n + 0 = omega arith in
        let there = ap (next classes.Unit cs) place ∙ moved.next_moved w after classes.Unit 0 in
        let stop = it.stop in omega (arith, there, stop)

    stop_at : (i : ℕ) → i ≡ n → run_end classes.Unit cs i ≡ n
    stop_at i e =
        run_stop cs classes.Unit i (subst (λ (k : ℕ). next classes.Unit cs k ≤ k) (sym e) none) ∙ e

    -- nothing went on with the unit there
    old_dark : starts_plainly (byte bs n) ≡ false
    old_dark = go (goes_in_unit bs n) refl
      where
        first : (a b : Bool) → (a || b) ≡ false → a ≡ false
        first true b e = e
        first false b e = refl

        go : (t : Bool) → goes_in_unit bs n ≡ t → starts_plainly (byte bs n) ≡ false
        go true t =
            let on = if_true (goes_in_unit bs n) (n + 1) (escape_end bs n) t in absurd (omega (arith, on, stops))
        go false t = first (starts_plainly (byte bs n)) _ t

    plain_again : (i : ℕ) → i < n → goes_in_unit bs i ≡ true → goes_in_unit cs i ≡ true
    plain_again i lt e = go (texts.lt_or_le (i + 1) n)
      where
        same : (x : Bool)
            → (starts_plainly (byte bs i) || (is_digit (byte bs i) || ((byte bs i == sign "-") && x))) ≡ true
            → (starts_plainly (byte cs i) || (is_digit (byte cs i) || ((byte cs i == sign "-") && x))) ≡ true
        same x f =
            ap (λ (b : ℕ). starts_plainly b || (is_digit b || ((b == sign "-") && x))) (sym (texts.same w old after i lt)) ∙ f

        go : (i + 1 < n) ⊎ (n ≤ i + 1) → goes_in_unit cs i ≡ true
        go (inl more) =
            same (starts_plainly (byte cs (i + 1)))
            (ap (λ (x : Bool). starts_plainly (byte bs i) || (is_digit (byte bs i) || ((byte bs i == sign "-") && x)))
            (texts.back w old after starts_plainly (i + 1) more)
            ∙ e)
        go (inr end) =
            let place : n ≡ i + 1 = omega (arith, lt, end) in
            same (starts_plainly (byte cs (i + 1)))
            (without (starts_plainly (byte bs i)) (is_digit (byte bs i)) (byte bs i == sign "-") (starts_plainly (byte bs (i + 1)))
            (starts_plainly (byte cs (i + 1))) e
            (ap (λ (k : ℕ). starts_plainly (byte bs k)) (sym place) ∙ old_dark))

    feed : ((byte cs (n - 1) == CARRIAGE_RETURN) && (byte cs n == LINE_FEED)) ≡ false
    feed =
        right_no (byte cs (n - 1) == CARRIAGE_RETURN) _
        (ap (λ (b : ℕ). b == LINE_FEED) here ∙ it.feed)

    -- an escape is taken as far as it was
    escape_again : (i k : ℕ) (v : Bool) → Character bs i k v → i < escape_end bs i → next classes.Unit bs i ≡ i + k → i + k ≤ n
        → (i + k ≡ n → (v && is_white (byte cs n)) ≡ false) → next classes.Unit cs i ≡ i + k
    escape_again i k v char goes is within closed =
        let s = slashed bs i goes in
        let old_is : escape_end bs i ≡ i + k = sym (slash_unit bs i s) ∙ is in
        let lt : i < n = omega (arith, goes, old_is, within) in
        let new_s : byte cs i ≡ sign "\\" = sym (texts.same w old after i lt) ∙ s in
        slash_unit cs i new_s ∙ go old_is new_s (texts.lt_or_le (i + k) n)
      where
        go : escape_end bs i ≡ i + k → byte cs i ≡ sign "\\" → (i + k < n) ⊎ (n ≤ i + k) → escape_end cs i ≡ i + k
        go old_is new_s (inl more) =
            escape_steps bs cs i i k (slashed bs i goes) goes old_is (texts.alike w old after i (k + 1) (omega (arith, more)))
        go old_is new_s (inr end) =
            let place : i + k ≡ n = omega (arith, within, end) in
            sym (slash_next cs i new_s)
            ∙ character_next cs i k v
            (texts.last_char w old after i k v char place
            (ap is_hex_digit here ∙ it.hex) (closed place) feed)

    abbrev Further : ℕ → Type 0
    Further f =
        (i m : ℕ) (state : Option ℕ) (test : Bool) → Settled bs state test i → i + m ≡ n
        → run_from classes.Unit bs f i ≡ i + m → (takes_white (states bs m i state) && is_white (byte cs n)) ≡ false
        → run_end classes.Unit cs i ≡ n

    module _ (f i m : ℕ) (more : Further f) (state : Option ℕ) (test : Bool) (settled : Settled bs state test i)
        (place : i + m ≡ n) (closed : (takes_white (states bs m i state) && is_white (byte cs n)) ≡ false)
        (goes : i < next classes.Unit bs i) (e : run_from classes.Unit bs f (next classes.Unit bs i) ≡ i + m) where
      -- behind a character of so many bytes
      on : (k : ℕ) (v : Bool) → Character bs i k v → next classes.Unit bs i ≡ i + k
          → ((takes_white (states bs k i state) ≡ v) → i + k ≤ n → (i + k ≡ n → (v && is_white (byte cs n)) ≡ false)
          → next classes.Unit cs i ≡ i + k)
          → run_end classes.Unit cs i ≡ n
      on k v char is again =
          let fw = forward bs f (next classes.Unit bs i) in
          let within : i + k ≤ n = omega (arith, fw, e, place, is) in
          let left : m ≡ k + (m - k) = omega (arith, within, place) in
          let settled_next = character_state bs i k v state test char settled in
          let new_is = again settled_next.told within
          (λ end. ap (λ (t : Bool). t && is_white (byte cs n))
          (sym settled_next.told ∙ ap (λ (x : ℕ). takes_white (states bs x i state)) (let z : k ≡ m = omega (arith, end, place) in z))
          ∙ closed) in
          sym (run_step cs classes.Unit i (omega (arith, goes, is, new_is)))
          ∙ ap (run_end classes.Unit cs) new_is
          ∙ more (i + k) (m - k) (states bs k i state) v settled_next (omega (arith, left, place))
          (ap (run_from classes.Unit bs f) (sym is) ∙ e ∙ (let z : i + m ≡ (i + k) + (m - k) = omega (arith, left) in z))
          (ap (λ (x : Option ℕ). takes_white x && is_white (byte cs n))
          (sym (states_more bs k (m - k) i state) ∙ ap (λ (x : ℕ). states bs x i state) (sym left))
          ∙ closed)

      step : run_end classes.Unit cs i ≡ n
      step = go (goes_in_unit bs i) refl
        where
          go : (t : Bool) → goes_in_unit bs i ≡ t → run_end classes.Unit cs i ≡ n
          go true t =
              on 1 false
              (plain refl (loosen (starts_plainly (byte bs i)) (is_digit (byte bs i)) (byte bs i == sign "-") (starts_plainly (byte bs (i + 1))) t))
              (if_true (goes_in_unit bs i) (i + 1) (escape_end bs i) t)
              (λ told within end. if_true (goes_in_unit cs i) (i + 1) (escape_end cs i) (plain_again i (omega (arith, within)) t))
          go false t =
              let escape = if_false (goes_in_unit bs i) (i + 1) (escape_end bs i) t in
              let far : i < escape_end bs i = omega (arith, escape, goes) in
              let name = slash_next bs i (slashed bs i far) in
              let k = known bs i (omega (arith, name, far)) in
              let there = character_next bs i k.bytes k.bare k.kind in
              let is : next classes.Unit bs i ≡ i + k.bytes = escape ∙ sym name ∙ there in
              on k.bytes k.bare k.kind is
              (λ told within end. escape_again i k.bytes k.bare k.kind far is within end)

    further : (f : ℕ) → Further f
    further zero i m state test settled place e closed = stop_at i (omega (arith, place, e))
    further (suc f) i m state test settled place e closed = go (nat_lt i (next classes.Unit bs i)) refl e (further f)
      where
        go : (t : Bool) → nat_lt i (next classes.Unit bs i) ≡ t
            → (if t then run_from classes.Unit bs f (next classes.Unit bs i) else i) ≡ i + m
            → Further f → run_end classes.Unit cs i ≡ n
        go false t e more = stop_at i (omega (arith, place, e))
        go true t e more =
            let goes : i < next classes.Unit bs i = grind (arith, nat_tests) in
            step f i m more state test settled place closed goes e

    -- a unit that ended with these bytes ends with them
    pub unit_stays : run_end classes.Unit bs 0 ≡ n → run_end classes.Unit cs 0 ≡ n
    unfolding run_end ends_unclosed
    unit_stays e =
        further (length bs - 0) 0 n None false (nothing_open bs 0) (let z : 0 + n ≡ n = omega arith in z)
        (e ∙ (let z : n ≡ 0 + n = omega arith in z))
        (ap (λ (x : Option ℕ). takes_white x && is_white (byte cs n)) (sym (states_text [] w old None))
        ∙ turned (ends_unclosed w) (is_white (byte cs n))
        (ap (λ (t : Bool). t && ends_unclosed w) (ap is_white here ∙ white_same after) ∙ it.closed))
      where
        turned : (a b : Bool) → (b && a) ≡ false → (a && b) ≡ false
        turned true true e = e
        turned true false e = refl
        turned false b e = refl

-- and so before what may stand behind a value
pub unit_again : (w old after : List ℕ) → next classes.Unit (w ++ old) (length w) ≤ length w → Parted w after
    → run_end classes.Unit (w ++ old) 0 ≡ length w → run_end classes.Unit (w ++ after) 0 ≡ length w
unit_again w old after stops parted =
    unit_stays w old after stops (dark_ends w after parted.dark.name parted.dark.slash parted.dark.feed parted.closed)
