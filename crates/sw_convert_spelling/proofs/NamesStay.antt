-- Names stay the tokens that they are before what may stand behind them.
use Rattle.std.proofs.Common.{◌≡◌, ℕ, zero, suc, ◌+◌, ◌-◌, ◌≤◌, ◌<◌, Bool, true, false, not, ◌&&◌, ◌||◌, ◌⊎◌, inl, inr, if◌then◌else◌, List, ◌++◌, length, refl, sym, ◌∙◌, ap, subst, arith, Option}
use Rattle.std.specs.Prelude.{◌==◌}
use Rattle.std.proofs.lemmas.Bool.Decides.{nat_tests}
use Rattle.sw_text_scan.specs.declared.runs.Class.TheVariants as classes
use Rattle.sw_text_scan.specs.declared.signs.TheConstants.{END}
use Rattle.sw_text_scan.specs.Bytes.{sign, byte, is_break, is_letter, is_name_byte, starts_plainly}
use Rattle.sw_text_scan.specs.Runs.{next, run_end, escape_end, is_word_byte, starts_at, begins_name}
use Rattle.sw_text_scan.proofs.Bounds.{if_true, if_false, and_left, and_right, or_left, or_right, byte_past, run_step, run_stop, run_forward}
use Rattle.sw_text_scan.proofs.Progress.{run_on, run_stops, name_taken}
use Rattle.sw_tokens.specs.declared.pieces.Change.{Change}
use Rattle.sw_tokens.specs.declared.pieces.Change.TheVariants as changes
use Rattle.sw_tokens.specs.declared.pieces.Piece.{Piece}
use Rattle.sw_tokens.specs.declared.token.TokenKind.{TokenKind}
use Rattle.sw_tokens.specs.declared.token.TokenKind.TheVariants as kinds
use Rattle.sw_tokens.specs.Pieces.{made, sign_piece, letter_kind, dash_kind, name_piece}
use Rattle.sw_text_locality.specs.Names.{ends_unclosed}
use Rattle.sw_text_locality.proofs.Begins.{begins_kept, escape_goes}
use Rattle.sw_text_locality.proofs.Written.{no_name}
use Rattle.sw_convert_spelling.specs.Neighbours.{parts_sign}
use Rattle.sw_convert_spelling.proofs.MovedRuns as moved
use Rattle.sw_convert_spelling.proofs.Again as texts
use Rattle.sw_convert_spelling.proofs.Choices.{left_no, both, neither, by_test, follow, is_name, is_at_name, is_single, again, ends_here, unlike, one_or_more}
use Rattle.sw_convert_spelling.proofs.SignsStay as signs

-- word characters are name characters
word_is_name : (b : ℕ) → is_word_byte b ≡ true → is_name_byte b ≡ true
word_is_name b e = grind (arith, nat_tests)

word_name : (x : List ℕ) (f i : ℕ) → length x ≤ f + i → run_end classes.Name x (run_end classes.Word x i) ≡ run_end classes.Name x i
word_name x zero i l =
    let none = if_false (is_word_byte (byte x i)) (i + 1) i (ap is_word_byte (byte_past x i (omega (arith, l)))) in
    ap (run_end classes.Name x) (run_stop x classes.Word i (omega (arith, none)))
word_name x (suc f) i l = go (is_word_byte (byte x i)) refl (word_name x f (i + 1) (omega (arith, l)))
  where
    go : (t : Bool) → is_word_byte (byte x i) ≡ t → run_end classes.Name x (run_end classes.Word x (i + 1)) ≡ run_end classes.Name x (i + 1)
        → run_end classes.Name x (run_end classes.Word x i) ≡ run_end classes.Name x i
    go false t more = let none = if_false (is_word_byte (byte x i)) (i + 1) i t in ap (run_end classes.Name x) (run_stop x classes.Word i (omega (arith, none)))
    go true t more =
        let word = if_true (is_word_byte (byte x i)) (i + 1) i t in
        let name = if_true (is_name_byte (byte x i)) (i + 1) (escape_end x i) (word_is_name (byte x i) t) in
        ap (run_end classes.Name x) (sym (run_step x classes.Word i (omega (arith, word))) ∙ ap (run_end classes.Word x) word)
        ∙ more ∙ ap (run_end classes.Name x) (sym name) ∙ run_step x classes.Name i (omega (arith, name))

module _ (w old after : List ℕ) (some : 0 < length w) where
  abbrev bs : List ℕ
  bs = w ++ old

  abbrev cs : List ℕ
  cs = w ++ after

  abbrev n : ℕ
  n = length w

  -- a run of word characters up to what is none
  abbrev RunsAgain : ℕ → Type 0
  RunsAgain i = run_end classes.Word bs i ≤ n → is_word_byte (byte cs (run_end classes.Word bs i)) ≡ false → run_end classes.Word cs i ≡ run_end classes.Word bs i

  run_stays : (i : ℕ) → is_word_byte (byte bs i) ≡ false → RunsAgain i
  run_stays i t within stop =
      let none = if_false (is_word_byte (byte bs i)) (i + 1) i t in
      let here = run_stop bs classes.Word i (omega (arith, none)) in
      let there = if_false (is_word_byte (byte cs i)) (i + 1) i (ap (λ (k : ℕ). is_word_byte (byte cs k)) (sym here) ∙ stop) in
      run_stop cs classes.Word i (omega (arith, there)) ∙ sym here

  run_goes : (i : ℕ) → is_word_byte (byte bs i) ≡ true → (run_end classes.Word bs (i + 1) ≡ run_end classes.Word bs i) × (i + 1 ≤ run_end classes.Word bs (i + 1))
  run_goes i t =
      let on = if_true (is_word_byte (byte bs i)) (i + 1) i t in
      (ap (run_end classes.Word bs) (sym on) ∙ run_step bs classes.Word i (omega (arith, on)), run_forward bs classes.Word (i + 1))

  word_run : (f i : ℕ) → n ≤ f + i → RunsAgain i
  word_run zero i l within stop =
      by_test (run_end classes.Word cs i ≡ run_end classes.Word bs i) (is_word_byte (byte bs i))
      (λ t. let on = run_goes i t in let a = on.0 in let b = on.1 in absurd (omega (arith, l, a, b, within)))
      (λ t. run_stays i t within stop)
  word_run (suc f) i l within stop = go (is_word_byte (byte bs i)) refl (word_run f (i + 1) (omega (arith, l)))
    where
      go : (t : Bool) → is_word_byte (byte bs i) ≡ t → RunsAgain (i + 1) → run_end classes.Word cs i ≡ run_end classes.Word bs i
      go false t more = run_stays i t within stop
      go true t more =
          let on = run_goes i t in
          let a = on.0 in
          let b = on.1 in
          let there = if_true (is_word_byte (byte cs i)) (i + 1) i (texts.back w old after is_word_byte i (omega (arith, a, b, within)) ∙ t) in
          sym (run_step cs classes.Word i (omega (arith, there))) ∙ ap (run_end classes.Word cs) there
          ∙ more (omega (arith, a, within)) (ap (λ (k : ℕ). is_word_byte (byte cs k)) a ∙ stop) ∙ a

  module _ (parted : parts_sign w after ≡ true) (kind : TokenKind) (change : Change) where
    abbrev result : Option Piece
    result = made kind n change

    -- ---- names

    module _ (names : is_name kind ≡ true → texts.Parts w old after (ends_unclosed bs 0)) (at_names : is_at_name kind ≡ true → texts.Parts w old after (ends_unclosed bs 1)) where
      name_end : is_name kind ≡ true → run_end classes.Name bs 0 ≡ n → run_end classes.Name cs 0 ≡ n
      name_end k e = texts.name_again w old after (ends_unclosed bs 0) (names k) 0 (omega arith) e refl

      word_dark : is_name kind ≡ true → is_word_byte (byte cs n) ≡ false
      word_dark k = words (byte cs n) (no_name cs n (names k).stops)
        where
          words : (b : ℕ) → is_name_byte b ≡ false → is_word_byte b ≡ false
          words b e = grind (arith, nat_tests)

      letters : (p q : ℕ) → is_name (letter_kind p q) ≡ true
      letters p q = go (p == q)
        where
          go : (t : Bool) → is_name (if t then kinds.Word else kinds.Name) ≡ true
          go true = refl
          go false = refl

      dashes : (x : List ℕ) → is_name (dash_kind x 0) ≡ true
      dashes x = go ((byte x 0 == sign "-") && (byte x (0 + 1) == sign "-"))
        where
          go : (t : Bool) → is_name (if t then kinds.DashedName else kinds.Name) ≡ true
          go true = refl
          go false = refl

      abbrev letter_piece : List ℕ → Option Piece
      letter_piece x = made (letter_kind (run_end classes.Word x 0) (run_end classes.Name x (run_end classes.Word x 0))) (run_end classes.Name x (run_end classes.Word x 0)) changes.Keep

      letter_again : letter_piece bs ≡ result → letter_piece cs ≡ result
      letter_again e =
          let r = run_end classes.Word bs 0 in
          let end = ends_here (letter_kind r (run_end classes.Name bs r)) (run_end classes.Name bs r) changes.Keep e in
          let k : is_name kind ≡ true = unlike is_name (letter_kind r (run_end classes.Name bs r)) (run_end classes.Name bs r) changes.Keep e ∙ letters r (run_end classes.Name bs r) in
          let within = run_forward bs classes.Name r in
          let word = word_run n 0 (omega arith) (omega (arith, within, end)) (stop k (omega (arith, within, end))) in
          let name : run_end classes.Name cs (run_end classes.Word cs 0) ≡ n =
          word_name cs (length cs) 0 (omega arith) ∙ name_end k (sym (word_name bs (length bs) 0 (omega arith)) ∙ end) in
          ap (λ (x : ℕ). made (letter_kind (run_end classes.Word cs 0) x) x changes.Keep) (name ∙ sym end)
          ∙ ap (λ (x : ℕ). made (letter_kind x (run_end classes.Name bs r)) (run_end classes.Name bs r) changes.Keep) word ∙ e
        where
          dark : is_word_byte (byte bs (run_end classes.Word bs 0)) ≡ false
          dark = by_test (is_word_byte (byte bs (run_end classes.Word bs 0)) ≡ false) (is_word_byte (byte bs (run_end classes.Word bs 0)))
              (λ t. let on = if_true (is_word_byte (byte bs (run_end classes.Word bs 0))) (run_end classes.Word bs 0 + 1) (run_end classes.Word bs 0) t in
              let stops = run_stops bs classes.Word 0 in absurd (omega (arith, on, stops)))
              (λ t. t)

          stop : is_name kind ≡ true → run_end classes.Word bs 0 ≤ n → is_word_byte (byte cs (run_end classes.Word bs 0)) ≡ false
          stop k l = go (texts.lt_or_le (run_end classes.Word bs 0) n)
            where
              go : (run_end classes.Word bs 0 < n) ⊎ (n ≤ run_end classes.Word bs 0) → is_word_byte (byte cs (run_end classes.Word bs 0)) ≡ false
              go (inl lt) = texts.back w old after is_word_byte (run_end classes.Word bs 0) lt ∙ dark
              go (inr ge) = ap (λ (x : ℕ). is_word_byte (byte cs x)) (let z : run_end classes.Word bs 0 ≡ n = omega (arith, l, ge) in z) ∙ word_dark k

      -- a `-` by itself begins no name
      dash_more : begins_name bs 0 ≡ true → run_end classes.Name bs 0 ≡ n → n ≡ 1 → (byte bs 0 == sign "-") ≡ false
      unfolding begins_name
      dash_more t e one = by_test ((byte bs 0 == sign "-") ≡ false) (byte bs 0 == sign "-") (λ d. absurd (wrong d)) (λ d. d)
        where
          dash_start : (b : ℕ) → (b == sign "-") ≡ true → (starts_plainly b ≡ false) × ((b == sign "\\") ≡ false)
          dash_start b d = (grind (arith, nat_tests), grind (arith, nat_tests))

          dash_byte : (b : ℕ) → (b == sign "-") ≡ true → is_name_byte b ≡ true
          dash_byte b d = grind (arith, nat_tests)

          stopped : next classes.Name bs 1 ≤ 1
          stopped = subst (λ (k : ℕ). next classes.Name bs k ≤ k) (e ∙ one) (run_stops bs classes.Name 0)

          pick_right : (a b : Bool) → (a || b) ≡ true → a ≡ false → b ≡ true
          pick_right true b e f = absurd (cc)
          pick_right false b e f = e

          either_of : (P : Type 0) (a b : Bool) → (a || b) ≡ true → (a ≡ true → P) → (b ≡ true → P) → P
          either_of P true b e f g = f refl
          either_of P false b e f g = g e

          wrong : (byte bs 0 == sign "-") ≡ true → ⊥
          wrong d =
              let s = dash_start (byte bs 0) d in
              let no_start : starts_at bs 0 ≡ false = neither (starts_plainly (byte bs 0)) _ s.0 (escape_goes bs 0 ∙ left_no (byte bs 0 == sign "\\") _ s.1) in
              let rest = and_right (byte bs 0 == sign "-") _ (pick_right (starts_at bs 0) _ t no_start) in
              either_of ⊥ (starts_at bs (0 + 1)) (byte bs (0 + 1) == sign "-") rest
              (λ a. let lt = name_taken bs 1 (begins_by a) in let st = stopped in omega (arith, lt, st))
              (λ a. let on = if_true (is_name_byte (byte bs 1)) (1 + 1) (escape_end bs 1) (dash_byte (byte bs 1) a) in let st = stopped in omega (arith, on, st))
            where
              begins_by : starts_at bs 1 ≡ true → begins_name bs 1 ≡ true
              begins_by a = ap (λ (t : Bool). t || ((byte bs 1 == sign "-") && (starts_at bs (1 + 1) || (byte bs (1 + 1) == sign "-")))) a

      begun_again : begins_name bs 0 ≡ true → made (dash_kind bs 0) (run_end classes.Name bs 0) changes.Keep ≡ result
          → (begins_name cs 0 ≡ true) × (made (dash_kind cs 0) (run_end classes.Name cs 0) changes.Keep ≡ result)
      begun_again t e =
          let end = ends_here (dash_kind bs 0) (run_end classes.Name bs 0) changes.Keep e in
          let k : is_name kind ≡ true = unlike is_name (dash_kind bs 0) (run_end classes.Name bs 0) changes.Keep e ∙ dashes bs in (
            begins_kept bs cs 0 0 n (texts.alike w old after 0 n (omega arith)) t (omega (arith, end)),
            ap (λ (x : ℕ). made (dash_kind cs 0) x changes.Keep) (name_end k end ∙ sym end)
                ∙ ap (λ (u : Bool). made (if u then kinds.DashedName else kinds.Name) (run_end classes.Name bs 0) changes.Keep) (dash_same end (one_or_more n some)) ∙ e,
          )
        where
          dash_same : run_end classes.Name bs 0 ≡ n → (n ≡ 1) ⊎ (1 < n) → ((byte cs 0 == sign "-") && (byte cs (0 + 1) == sign "-")) ≡ ((byte bs 0 == sign "-") && (byte bs (0 + 1) == sign "-"))
          dash_same end (inl one) =
              let no = dash_more t end one in
              left_no (byte cs 0 == sign "-") _ (signs.zero_byte w old after some (λ b. b == sign "-") ∙ no) ∙ sym (left_no (byte bs 0 == sign "-") _ no)
          dash_same end (inr more) =
              ap (λ (u : Bool). u && (byte cs 1 == sign "-")) (signs.zero_byte w old after some (λ b. b == sign "-")) ∙ ap (λ (u : Bool). (byte bs 0 == sign "-") && u) (texts.back w old after (λ b. b == sign "-") 1 more)

      at_again : ((byte bs 0 == sign "@") && begins_name bs 1) ≡ true → made kinds.AtName (run_end classes.Name bs 1) changes.Keep ≡ result
          → (((byte cs 0 == sign "@") && begins_name cs 1) ≡ true) × (made kinds.AtName (run_end classes.Name cs 1) changes.Keep ≡ result)
      at_again t e =
          let end = ends_here kinds.AtName (run_end classes.Name bs 1) changes.Keep e in
          let begins = and_right (byte bs 0 == sign "@") _ t in
          let further = run_on bs classes.Name 1 (name_taken bs 1 begins) in
          let k : is_at_name kind ≡ true = unlike is_at_name kinds.AtName (run_end classes.Name bs 1) changes.Keep e in
          let run = texts.name_again w old after (ends_unclosed bs 1) (at_names k) 1 (omega (arith, further, end)) end refl in (
            both (byte cs 0 == sign "@") _ (signs.zero_byte w old after some (λ b. b == sign "@") ∙ and_left (byte bs 0 == sign "@") _ t)
                (begins_kept bs cs 1 1 (n - 1) (texts.alike w old after 1 (n - 1) (omega (arith, some))) begins (omega (arith, end, some))),
            again kinds.AtName (run_end classes.Name bs 1) (run_end classes.Name cs 1) changes.Keep e run,
          )

      -- no sign begins a name
      no_name_again : begins_name bs 0 ≡ false → (if (byte bs 0 == sign "@") && begins_name bs (0 + 1) then made kinds.AtName (run_end classes.Name bs (0 + 1)) changes.Keep else sign_piece bs 0) ≡ result → begins_name cs 0 ≡ false
      unfolding begins_name
      no_name_again t e =
          neither (starts_at cs 0) _
          (neither (starts_plainly (byte cs 0)) _ (signs.zero_byte w old after some starts_plainly ∙ or_left (starts_plainly (byte bs 0)) _ starts)
          (escape_goes cs 0 ∙ signs.two_no w old after some (λ b. b == sign "\\") (λ b. not (is_break b || (b == END))) (sym (escape_goes bs 0) ∙ or_right (starts_plainly (byte bs 0)) _ starts) (λ one. (signs.none w old after some parted one).escape)))
          (by_test (((byte cs 0 == sign "-") && (starts_at cs (0 + 1) || (byte cs (0 + 1) == sign "-"))) ≡ false) (byte bs 0 == sign "-")
          (λ d. dashed d)
          (λ d. left_no (byte cs 0 == sign "-") _ (signs.zero_byte w old after some (λ b. b == sign "-") ∙ d)))
        where
          starts : starts_at bs 0 ≡ false
          starts = or_left (starts_at bs 0) _ t

          no_at_sign : (b : ℕ) → (b == sign "-") ≡ true → (b == sign "@") ≡ false
          no_at_sign b d = grind (arith, nat_tests)

          single : (b : ℕ) → (b == sign "-") ≡ true → is_single b ≡ true
          single b d = grind (arith, nat_tests)

          dashed : (byte bs 0 == sign "-") ≡ true → ((byte cs 0 == sign "-") && (starts_at cs 1 || (byte cs 1 == sign "-"))) ≡ false
          dashed d =
              let down = if_false ((byte bs 0 == sign "@") && begins_name bs (0 + 1)) (made kinds.AtName (run_end classes.Name bs (0 + 1)) changes.Keep) (sign_piece bs 0) (left_no (byte bs 0 == sign "@") _ (no_at_sign (byte bs 0) d)) in
              let one = signs.sign_one w old after some parted kind change (single (byte bs 0) d) (sym down ∙ e) in
              let place : 1 ≡ n + 0 = omega (arith, one) in
              ap (λ (u : Bool). u && (starts_at cs 1 || (byte cs 1 == sign "-"))) (signs.zero_byte w old after some (λ b. b == sign "-"))
              ∙ ap (λ (u : Bool). (byte bs 0 == sign "-") && (u || (byte cs 1 == sign "-"))) (ap (starts_at cs) place ∙ moved.starts_moved w after 0)
              ∙ ap (λ (b : ℕ). (byte bs 0 == sign "-") && (starts_at after 0 || (b == sign "-"))) (signs.behind_one w old after some one)
              ∙ (signs.none w old after some parted one).minus

      no_at_again : ((byte bs 0 == sign "@") && begins_name bs 1) ≡ false → sign_piece bs 0 ≡ result → ((byte cs 0 == sign "@") && begins_name cs 1) ≡ false
      no_at_again t e = by_test (((byte cs 0 == sign "@") && begins_name cs 1) ≡ false) (byte bs 0 == sign "@")
          (λ d. let one = signs.sign_one w old after some parted kind change (single (byte bs 0) d) e in
          let place : 1 ≡ n + 0 = omega (arith, one) in
          ap (λ (u : Bool). u && begins_name cs 1) (signs.zero_byte w old after some (λ b. b == sign "@"))
          ∙ ap (λ (u : Bool). (byte bs 0 == sign "@") && u) (ap (begins_name cs) place ∙ moved.name_moved w after 0) ∙ (signs.none w old after some parted one).at_sign)
          (λ d. left_no (byte cs 0 == sign "@") _ (signs.zero_byte w old after some (λ b. b == sign "@") ∙ d))
        where
          single : (b : ℕ) → (b == sign "@") ≡ true → is_single b ≡ true
          single b d = grind (arith, nat_tests)

      pub names_again : name_piece bs 0 ≡ result → name_piece cs 0 ≡ result
      unfolding name_piece
      names_again =
          follow (is_letter (byte bs 0)) (is_letter (byte cs 0)) (letter_piece bs) _ (letter_piece cs) _ result
          (λ t e. (signs.zero_byte w old after some is_letter ∙ t, letter_again e))
          (λ t e. (
            signs.zero_byte w old after some is_letter ∙ t,
            follow (begins_name bs 0) (begins_name cs 0) (made (dash_kind bs 0) (run_end classes.Name bs 0) changes.Keep) _ (made (dash_kind cs 0) (run_end classes.Name cs 0) changes.Keep) _ result
                (λ u f. begun_again u f)
                (λ u f. (
                  no_name_again u f,
                  follow ((byte bs 0 == sign "@") && begins_name bs (0 + 1)) ((byte cs 0 == sign "@") && begins_name cs (0 + 1)) (made kinds.AtName (run_end classes.Name bs (0 + 1)) changes.Keep) (sign_piece bs 0)
                      (made kinds.AtName (run_end classes.Name cs (0 + 1)) changes.Keep) (sign_piece cs 0) result
                      (λ v g. at_again v g) (λ v g. (no_at_again v g, signs.sign_again w old after some parted kind change g)) f,
                )) e,
          ))
