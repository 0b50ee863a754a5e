-- Names, signs, strings and comments stay the tokens that they are before what may stand behind them.
use Rattle.std.proofs.Common.{◌≡◌, ℕ, ◌+◌, ◌-◌, ◌≤◌, ◌<◌, Bool, true, false, not, ◌&&◌, ◌||◌, if◌then◌else◌, List, [], ◌∷◌, ◌++◌, length, refl, sym, ◌∙◌, ap, arith, Option, append-nil}
use Rattle.std.specs.Prelude.{◌==◌, nat_lt, slice_range}
use Rattle.std.proofs.lemmas.Bool.Decides.{nat_tests}
use Rattle.sw_text_scan.specs.declared.runs.Class.TheVariants as classes
use Rattle.sw_text_scan.specs.declared.signs.TheConstants.{END, CARRIAGE_RETURN, LINE_FEED}
use Rattle.sw_text_scan.specs.Bytes.{sign, byte, is_break, is_white, is_digit, is_quote, opens_at, begins_silent, begins_loud, ends_loud}
use Rattle.sw_text_scan.specs.Runs.{next, run_end, escape_end, text_next, begins_name}
use Rattle.sw_text_scan.specs.Words.{begins_number, begins_range, begins_url, url_close, unit_start, unit_end}
use Rattle.sw_text_scan.proofs.Bounds.{if_true, if_false, and_left, and_right, or_left, or_right, not_true, run_forward}
use Rattle.sw_tokens.specs.declared.pieces.Before.{Before}
use Rattle.sw_tokens.specs.declared.pieces.Change.{Change}
use Rattle.sw_tokens.specs.declared.pieces.Change.TheVariants as changes
use Rattle.sw_tokens.specs.declared.pieces.Piece.{Piece}
use Rattle.sw_tokens.specs.declared.skips.Inside.{Inside}
use Rattle.sw_tokens.specs.declared.skips.Inside.TheVariants as insides
use Rattle.sw_tokens.specs.declared.token.TokenKind.{TokenKind}
use Rattle.sw_tokens.specs.declared.token.TokenKind.TheVariants as kinds
use Rattle.sw_tokens.specs.Decoded.{decoded}
use Rattle.sw_tokens.specs.Pieces.{made, quote_piece, is_hex_form, number_kind, number_piece, url_class, url_inside, is_open_ended, opens_url, after_dollar, after_hash, word_piece, loud_piece, in_interpolation, code_piece}
use Rattle.sw_text_locality.specs.Names.{ends_unclosed}
use Rattle.sw_text_locality.proofs.Lexical.{split}
use Rattle.sw_text_locality.proofs.Kept.{first}
use Rattle.sw_text_locality.proofs.Written.{byte_before}
use Rattle.sw_text_locality.proofs.Runs.{Steps, text_steps}
use Rattle.sw_convert_spelling.specs.Neighbours.{parts_sign, parts_name, parts_kind, is_parted, begins_other, StaysToken, StandsAlone}
use Rattle.sw_convert_spelling.specs.Spelt.{Spelt, is_sheet_code, IsToken}
use Rattle.sw_convert_spelling.proofs.MovedRuns as moved
use Rattle.sw_convert_spelling.proofs.Again as texts
use Rattle.sw_convert_spelling.proofs.Choices.{left_no, right_no, both, neither, less_no, more_no, at_most, follow, is_name, is_at_name, again, ends_here, unlike, no_white_piece}
use Rattle.sw_convert_spelling.proofs.SignsStay as signs
use Rattle.sw_convert_spelling.proofs.NamesStay as staying

module _ (w old after : List ℕ) (some : 0 < length w) where
  abbrev bs : List ℕ
  bs = w ++ old

  abbrev cs : List ℕ
  cs = w ++ after

  abbrev n : ℕ
  n = length w

  -- ---- runs of one class

  sheet_steps : (q : ℕ) → Steps bs cs (classes.SheetText q)
  sheet_steps quote p q m lt e a =
      split (opens_at bs p) p (text_next bs quote p) (p + m) (λ t f. absurd (omega (arith, f, e, lt)))
      (λ t f. let more : 0 < m = omega (arith, e, lt) in
      let one = first bs cs p q (m + 1) (omega arith) a in
      let two : byte bs (p + 1) ≡ byte cs (q + 1) = a 1 (omega (arith, more)) in
      if_false (opens_at cs q) q (text_next cs quote q)
      (ap (λ (b : ℕ). (b == sign "#") && (byte cs (q + 1) == sign "{")) (sym one) ∙ ap (λ (b : ℕ). (byte bs p == sign "#") && (b == sign "{")) (sym two) ∙ t)
      ∙ text_steps bs cs quote p q m (omega (arith, f, more)) f a) e

  comment_steps : Steps bs cs classes.Comment
  comment_steps p q m lt e a =
      split (ends_loud bs p || (opens_at bs p || (byte bs p == END))) p (p + 1) (p + m) (λ t f. absurd (omega (arith, f, e, lt)))
      (λ t f. let one = first bs cs p q (m + 1) (omega arith) a in
      let two : byte bs (p + 1) ≡ byte cs (q + 1) = a 1 (omega (arith, f)) in
      if_false (ends_loud cs q || (opens_at cs q || (byte cs q == END))) q (q + 1)
      (ap (λ (b : ℕ). ((b == sign "*") && (byte cs (q + 1) == sign "/")) || (((b == sign "#") && (byte cs (q + 1) == sign "{")) || (b == END))) (sym one)
      ∙ ap (λ (b : ℕ). ((byte bs p == sign "*") && (b == sign "/")) || (((byte bs p == sign "#") && (b == sign "{")) || (byte bs p == END))) (sym two) ∙ t)
      ∙ (let r : q + 1 ≡ q + m = omega (arith, f) in r)) e

  module _ (parted : parts_sign w after ≡ true) (kind : TokenKind) (change : Change) where
    abbrev result : Option Piece
    result = made kind n change

    module _ (names : is_name kind ≡ true → texts.Parts w old after (ends_unclosed bs 0)) (at_names : is_at_name kind ≡ true → texts.Parts w old after (ends_unclosed bs 1)) where
      -- ---- what else code is

      module _ (top : Inside) (before : Before) (fit : is_parted kind ≡ true) (other : begins_other before cs ≡ false) where
        -- a token of another kind
        not_so : {P : Type 0} (k : TokenKind) (a : ℕ) (c : Change) → made k a c ≡ result → is_parted k ≡ false → P
        not_so k a c e f = absurd (let wrong : true ≡ false = sym fit ∙ unlike is_parted k a c e ∙ f in cc)

        no_form : (after_hash before && is_hex_form cs 0) ≡ false
        no_form = or_left _ _ other

        no_range : (not (after_dollar before) && begins_range cs 0) ≡ false
        no_range = or_left _ _ (or_right _ _ other)

        no_url : begins_url cs 0 ≡ false
        no_url = or_right _ _ (or_right _ _ other)

        numbers : (x : List ℕ) (d u : ℕ) → is_parted (number_kind x d u) ≡ false
        numbers x d u = go ((d == u) && not (byte x u == sign "%"))
          where
            go : (t : Bool) → is_parted (if t then kinds.Digits else kinds.Number) ≡ false
            go true = refl
            go false = refl

        no_number : begins_number bs 0 ≡ false → begins_number cs 0 ≡ false
        no_number t =
            neither (is_digit (byte cs 0)) _ (signs.zero_byte w old after some is_digit ∙ or_left (is_digit (byte bs 0)) _ t)
            (signs.two_no w old after some (λ b. b == sign ".") is_digit (or_right (is_digit (byte bs 0)) _ t) (λ one. less_no (byte bs 0 == sign ".") (is_digit (byte after 0)) _ (signs.none w old after some parted one).dot))

        word_again : word_piece bs top before 0 ≡ result → word_piece cs top before 0 ≡ result
        unfolding word_piece number_piece opens_url
        word_again =
            follow (after_hash before && is_hex_form bs 0) (after_hash before && is_hex_form cs 0) _ _ _ _ result
            (λ t e. not_so kinds.Hex _ changes.Keep e refl)
            (λ t e. (
              no_form,
              follow (begins_number bs 0) (begins_number cs 0) _ _ _ _ result
                  (λ u f. not_so (number_kind bs (run_end classes.Digit bs 0) (unit_start bs 0)) (unit_end bs (unit_start bs 0)) changes.Keep f (numbers bs (run_end classes.Digit bs 0) (unit_start bs 0)))
                  (λ u f. (
                    no_number u,
                    follow (not (after_dollar before) && begins_range bs 0) (not (after_dollar before) && begins_range cs 0) _ _ _ _ result
                        (λ v g. not_so kinds.UnicodeRange _ changes.Keep g refl)
                        (λ v g. (
                          no_range,
                          follow (begins_url bs 0 && (byte bs (url_close bs (url_class top) 0) == sign ")")) (begins_url cs 0 && (byte cs (url_close cs (url_class top) 0) == sign ")")) _ _ _ _ result
                              (λ x h. not_so kinds.Url _ changes.Keep h refl)
                              (λ x h. (
                                left_no (begins_url cs 0) _ no_url,
                                follow (opens_url bs top 0) (opens_url cs top 0) _ _ _ _ result
                                    (λ y k. not_so kinds.UrlTemplate _ (changes.Push (url_inside top)) k refl)
                                    (λ y k. (right_no (is_open_ended top) _ (left_no (begins_url cs 0) _ no_url), staying.names_again w old after some parted kind change names at_names k)) h,
                              )) g,
                        )) f,
                  )) e,
            ))

        quote_again : (q : ℕ) → quote_piece bs q 0 ≡ result → quote_piece cs q 0 ≡ result
        unfolding quote_piece text_next
        quote_again q =
            follow (byte bs (run_end (classes.SheetText q) bs (0 + 1)) == q) (byte cs (run_end (classes.SheetText q) cs (0 + 1)) == q) _ _ _ _ result
            (λ t e. let r = run_end (classes.SheetText q) bs 1 in
            let end = ends_here (kinds.Quoted (decoded (slice_range bs 1 r))) (r + 1) changes.Keep e in
            let there = texts.back w old after (λ b. b == q) r (omega (arith, end)) ∙ t in
            let run = texts.run_inner w old after (classes.SheetText q) (sheet_steps q) 1 (omega (arith, end)) (stops q r there) in
            let forward = run_forward bs (classes.SheetText q) 1 in (
              ap (λ (k : ℕ). byte cs k == q) run ∙ there,
              ap (λ (k : ℕ). made (kinds.Quoted (decoded (slice_range cs 1 k))) (k + 1) changes.Keep) run
                  ∙ ap (λ (xs : List ℕ). made (kinds.Quoted (decoded xs)) (r + 1) changes.Keep) (texts.ranges w old after 1 r forward (omega (arith, end))) ∙ e,
            ))
            (λ t e. not_so kinds.Template _ (changes.Push (insides.Quotes q)) e refl)
          where
            stops : (q k : ℕ) → (byte cs k == q) ≡ true → next (classes.SheetText q) cs k ≤ k
            stops q k e = at_most (opens_at cs k) k _ k (omega arith)
                (let n : text_next cs q k ≡ k = if_true ((byte cs k == q) || (is_break (byte cs k) || (byte cs k == END))) k _ (yes (byte cs k == q) _ e) in omega (arith, n))
              where
                yes : (a b : Bool) → a ≡ true → (a || b) ≡ true
                yes true b e = refl
                yes false b e = absurd (cc)

        loud_again : loud_piece bs 0 ≡ result → loud_piece cs 0 ≡ result
        unfolding loud_piece
        loud_again =
            follow (ends_loud bs (run_end classes.Comment bs (0 + 2))) (ends_loud cs (run_end classes.Comment cs (0 + 2))) _ _ _ _ result
            (λ t e. let r = run_end classes.Comment bs 2 in
            let end = ends_here kinds.Comment (r + 2) changes.Keep e in
            let there = both (byte cs r == sign "*") (byte cs (r + 1) == sign "/") (texts.back w old after (λ b. b == sign "*") r (omega (arith, end)) ∙ and_left (byte bs r == sign "*") _ t)
            (texts.back w old after (λ b. b == sign "/") (r + 1) (omega (arith, end)) ∙ and_right (byte bs r == sign "*") _ t) in
            let stopped = if_true (ends_loud cs r || (opens_at cs r || (byte cs r == END))) r (r + 1) (yes (ends_loud cs r) _ there) in
            let run = texts.run_inner w old after classes.Comment comment_steps 2 (omega (arith, end)) (omega (arith, stopped)) in
            (ap (ends_loud cs) run ∙ there, again kinds.Comment (r + 2) (run_end classes.Comment cs 2 + 2) changes.Keep e (omega (arith, run, end))))
            (λ t e. not_so kinds.CommentTemplate _ (changes.Push insides.Comment) e refl)
          where
            yes : (a b : Bool) → a ≡ true → (a || b) ≡ true
            yes true b e = refl
            yes false b e = absurd (cc)

        loud_end : loud_piece bs 0 ≡ result → 1 < n
        unfolding loud_piece
        loud_end l =
            split (ends_loud bs (run_end classes.Comment bs (0 + 2))) (made kinds.Comment (run_end classes.Comment bs (0 + 2) + 2) changes.Keep) (made kinds.CommentTemplate (0 + 2) (changes.Push insides.Comment)) result
            (λ t e. let end = ends_here kinds.Comment (run_end classes.Comment bs (0 + 2) + 2) changes.Keep e in omega (arith, end))
            (λ t e. let end = ends_here kinds.CommentTemplate (0 + 2) (changes.Push insides.Comment) e in omega (arith, end)) l

        code_again : code_piece bs top before 0 ≡ result → code_piece cs top before 0 ≡ result
        unfolding code_piece
        code_again =
            follow (is_white (byte bs 0)) (is_white (byte cs 0)) _ _ _ _ result (λ t e. no_white_piece _ e)
            (λ t e. (
              signs.zero_byte w old after some is_white ∙ t,
              follow (is_quote (byte bs 0)) (is_quote (byte cs 0)) _ _ _ _ result
                  (λ u f. (signs.zero_byte w old after some is_quote ∙ u, ap (λ (q : ℕ). quote_piece cs q 0) (sym (texts.same w old after 0 some)) ∙ quote_again (byte bs 0) f))
                  (λ u f. (
                    signs.zero_byte w old after some is_quote ∙ u,
                    follow (opens_at bs 0) (opens_at cs 0) _ _ _ _ result
                        (λ v g. let two = ends_here kinds.OpenInterpolation (0 + 2) (changes.Push insides.Interpolation) g in (signs.two_yes w old after some (λ b. b == sign "#") (λ b. b == sign "{") (omega (arith, two)) v, g))
                        (λ v g. (
                          signs.two_no w old after some (λ b. b == sign "#") (λ b. b == sign "{") v (λ one. (signs.none w old after some parted one).hash),
                          follow ((byte bs 0 == sign "}") && in_interpolation top) ((byte cs 0 == sign "}") && in_interpolation top) _ _ _ _ result
                              (λ x h. (ap (λ (s : Bool). s && in_interpolation top) (signs.zero_byte w old after some (λ b. b == sign "}")) ∙ x, h))
                              (λ x h. (
                                ap (λ (s : Bool). s && in_interpolation top) (signs.zero_byte w old after some (λ b. b == sign "}")) ∙ x,
                                follow (begins_silent bs 0) (begins_silent cs 0) _ _ _ _ result (λ y k. no_white_piece _ k)
                                    (λ y k. (
                                      signs.two_no w old after some (λ b. b == sign "/") (λ b. b == sign "/") y (λ one. less_no (byte bs 0 == sign "/") _ _ (signs.none w old after some parted one).slash),
                                      follow (begins_loud bs 0) (begins_loud cs 0) _ _ _ _ result
                                          (λ z l. (signs.two_yes w old after some (λ b. b == sign "/") (λ b. b == sign "*") (loud_end l) z, loud_again l))
                                          (λ z l. (signs.two_no w old after some (λ b. b == sign "/") (λ b. b == sign "*") z (λ one. more_no (byte bs 0 == sign "/") _ _ (signs.none w old after some parted one).slash), word_again l)) k,
                                    )) h,
                              )) g,
                        )) f,
                  )) e,
            ))

-- ---- by itself and before others

named : (kind : TokenKind) (w after : List ℕ) → is_name kind ≡ true → parts_kind kind w after ≡ true → parts_name 0 w after ≡ true
named kinds.Word w after k e = e
named kinds.Name w after k e = e
named kinds.DashedName w after k e = e
named _ w after k e = absurd (cc)

at_named : (kind : TokenKind) (w after : List ℕ) → is_at_name kind ≡ true → parts_kind kind w after ≡ true → parts_name 1 w after ≡ true
at_named kinds.AtName w after k e = e
at_named _ w after k e = absurd (cc)

parts_by : (start : ℕ) (w after : List ℕ) → 0 < length w → parts_name start w after ≡ true → texts.Parts w [] after (ends_unclosed (w ++ []) start)
parts_by start w after some e =
    let stops = not_true _ (and_left (not (nat_lt 0 (next classes.Name after 0))) _ e) in
    let rest = and_right (not (nat_lt 0 (next classes.Name after 0))) _ e in
    let white = not_true _ (and_left (not (ends_unclosed w start && is_white (byte after 0))) _ rest) in
    let feed = not_true _ (and_right (not (ends_unclosed w start && is_white (byte after 0))) _ rest) in
    let first = texts.behind_first w [] after in
    record {
      stops = stay stops;
      white =
          ap (λ (xs : List ℕ). ends_unclosed xs start && is_white (byte (w ++ after) (length w))) (append-nil w)
          ∙ ap (λ (b : ℕ). ends_unclosed w start && is_white b) first ∙ white;
      feed =
          ap (λ (b : ℕ). (b == CARRIAGE_RETURN) && (byte (w ++ after) (length w) == LINE_FEED)) (byte_before w after (length w - 1) (omega (arith, some)))
          ∙ ap (λ (b : ℕ). (byte w (length w - 1) == CARRIAGE_RETURN) && (b == LINE_FEED)) first ∙ feed;
    }
  where
    zero_by : (k : ℕ) → nat_lt 0 k ≡ false → k ≡ 0
    zero_by k f = grind (arith, nat_tests)

    stay : nat_lt 0 (next classes.Name after 0) ≡ false → next classes.Name (w ++ after) (length w) ≤ length w
    stay f =
        let none = zero_by (next classes.Name after 0) f in
        let place : length w ≡ length w + 0 = omega arith in
        let there = ap (next classes.Name (w ++ after)) place ∙ moved.next_moved w after classes.Name 0 in
        omega (arith, there, none)

-- before nothing no sign goes on
empty_sign : (w : List ℕ) → parts_sign w [] ≡ true
unfolding byte escape_end begins_name
empty_sign [] = refl
empty_sign (b ∷ c ∷ w) = refl
empty_sign (b ∷ []) =
    ap not
    (neither _ _ (right_no (b == sign "#") false refl)
    (neither _ _ (right_no (b == sign "/") false refl)
    (neither _ _ (right_no (b == sign ".") false refl)
    (neither _ _ (right_no ((b == sign "=") || ((b == sign "!") || ((b == sign "<") || (b == sign ">")))) false refl)
    (neither _ _ (right_no (b == sign "-") false refl)
    (neither _ _ (right_no (b == sign "@") false refl) (right_no (b == sign "\\") false refl)))))))

-- and no name
empty_names : (w old : List ℕ) (u : Bool) → texts.Parts w old [] u
unfolding byte escape_end
empty_names w old u =
    let first = texts.behind_first w old [] in
    let place : length w ≡ length w + 0 = omega arith in
    let there : next classes.Name (w ++ []) (length w) ≡ length w + 0 = ap (next classes.Name (w ++ [])) place ∙ moved.next_moved w [] classes.Name 0 in
    record {
      stops = omega (arith, there);
      white = right_no u _ (ap is_white first);
      feed = right_no (byte (w ++ []) (length w - 1) == CARRIAGE_RETURN) _ (ap (λ (b : ℕ). b == LINE_FEED) first);
    }

pub by_itself : (inside : Inside) (before : Before) (spelt : Spelt) (after : List ℕ) → StandsAlone inside before spelt after
by_itself inside before spelt after code some fit other is = in_code inside code is
  where
    same : begins_other before (spelt.bytes ++ []) ≡ false
    same = ap (begins_other before) (append-nil spelt.bytes) ∙ other

    again : (top : Inside) → code_piece (spelt.bytes ++ after) top before 0 ≡ made spelt.kind (length spelt.bytes) spelt.change → code_piece (spelt.bytes ++ []) top before 0 ≡ made spelt.kind (length spelt.bytes) spelt.change
    again top e =
        code_again spelt.bytes after [] some (empty_sign spelt.bytes) spelt.kind spelt.change
        (λ k. empty_names spelt.bytes after (ends_unclosed (spelt.bytes ++ after) 0)) (λ k. empty_names spelt.bytes after (ends_unclosed (spelt.bytes ++ after) 1))
        top before fit same e

    in_code : (inside : Inside) → is_sheet_code inside ≡ true → IsToken inside before spelt after → IsToken inside before spelt []
    in_code insides.Sheet c e = again insides.Sheet e
    in_code insides.Interpolation c e = again insides.Interpolation e
    in_code insides.Css c e = absurd (cc)
    in_code (insides.Quotes q) c e = absurd (cc)
    in_code insides.Comment c e = absurd (cc)
    in_code insides.Url c e = absurd (cc)
    in_code insides.UrlInside c e = absurd (cc)

pub stays : (inside : Inside) (before : Before) (spelt : Spelt) (after : List ℕ) → StaysToken inside before spelt after
stays inside before spelt after code some is ok = in_code inside code is
  where
    fit : is_parted spelt.kind ≡ true
    fit = and_left (is_parted spelt.kind) _ ok

    parted : parts_sign spelt.bytes after ≡ true
    parted = and_left (parts_sign spelt.bytes after) _ (and_right (is_parted spelt.kind) _ ok)

    kind : parts_kind spelt.kind spelt.bytes after ≡ true
    kind = and_left (parts_kind spelt.kind spelt.bytes after) _ (and_right (parts_sign spelt.bytes after) _ (and_right (is_parted spelt.kind) _ ok))

    other : begins_other before (spelt.bytes ++ after) ≡ false
    other = not_true _ (and_right (parts_kind spelt.kind spelt.bytes after) _ (and_right (parts_sign spelt.bytes after) _ (and_right (is_parted spelt.kind) _ ok)))

    again : (top : Inside) → code_piece (spelt.bytes ++ []) top before 0 ≡ made spelt.kind (length spelt.bytes) spelt.change → code_piece (spelt.bytes ++ after) top before 0 ≡ made spelt.kind (length spelt.bytes) spelt.change
    again top e =
        code_again spelt.bytes [] after some parted spelt.kind spelt.change
        (λ k. parts_by 0 spelt.bytes after some (named spelt.kind spelt.bytes after k kind))
        (λ k. parts_by 1 spelt.bytes after some (at_named spelt.kind spelt.bytes after k kind))
        top before fit other e

    in_code : (inside : Inside) → is_sheet_code inside ≡ true → IsToken inside before spelt [] → IsToken inside before spelt after
    in_code insides.Sheet c e = again insides.Sheet e
    in_code insides.Interpolation c e = again insides.Interpolation e
    in_code insides.Css c e = absurd (cc)
    in_code (insides.Quotes q) c e = absurd (cc)
    in_code insides.Comment c e = absurd (cc)
    in_code insides.Url c e = absurd (cc)
    in_code insides.UrlInside c e = absurd (cc)
