-- What may stand behind a word: what may behind a value, or the arguments of a call.
use Rattle.std.proofs.Common.{◌≡◌, ℕ, Bool, true, false, ◌&&◌, ◌||◌, List, [], ◌∷◌, ◌++◌, Option, Some, None, ◌⊎◌, inl, inr, refl, sym, ◌∙◌, ap, subst, arith}
use Rattle.std.specs.Prelude.{◌==◌}
use Rattle.std.specs.List.{list_all}
use Rattle.std.proofs.lemmas.Bool.Decides.{nat_tests}
use Rattle.sw_text_scan.specs.Bytes.{sign, byte, is_white, is_digit, is_name_byte, starts_plainly}
use Rattle.sw_text_scan.specs.Words.{is_u}
use Rattle.sw_text_scan.proofs.Bounds.{if_false, and_left, and_right, or_left, or_right, not_true}
use Rattle.sw_convert_spelling.proofs.MovedRuns.{first_byte}
use Rattle.sw_convert_spelling.proofs.Choices.{left_no, right_no, neither}
use Rattle.sw_convert_written.specs.Escapes.{takes_white, behind_text, ends_unclosed}
use Rattle.sw_convert_written.specs.Expressions.{is_url, ends_in_url_from, ends_in_url}
use Rattle.sw_convert_tokens.specs.Written.{Follows, is_stop, is_dots, stops, begins_white}
use Rattle.sw_convert_tokens.proofs.Stops.{stopped, white_same, follows_parts}
use Rattle.sw_convert_tokens.proofs.Unclosed.{unclosed_behind, follows_end}
use Rattle.sw_convert_texts.specs.Names.{Opens}
use Rattle.sw_convert_texts.proofs.NameTokens.{Quiet, parted_settled}
use Rattle.sw_convert_texts.proofs.DigitTokens.{Still}
use Rattle.sw_convert_texts.proofs.PartTokens.{no_slash}
use Rattle.sw_convert_texts.proofs.Rows.{Ending}

follows_nothing : (value after : List ℕ) → Follows value after → Follows [] after
unfolding ends_unclosed
follows_nothing value after f =
    record { stop = f.stop; closed = right_no (begins_white after) (ends_unclosed []) refl }

-- no escape is open behind bytes without a `\\`
state_none : (xs ys : List ℕ) → list_all no_slash xs ≡ true → behind_text None (xs ++ ys) ≡ behind_text None ys
state_none [] ys all = refl
state_none (x ∷ xs) ys all =
    ap (λ (state : Option ℕ). behind_text state (xs ++ ys)) (if_false (x == sign "\\") (Some 0) None (not_true (x == sign "\\") (and_left (no_slash x) _ all)))
    ∙ state_none xs ys (and_right (no_slash x) _ all)

unclosed_skips : (xs ys : List ℕ) → list_all no_slash xs ≡ true → ends_unclosed (xs ++ ys) ≡ ends_unclosed ys
unfolding ends_unclosed
unclosed_skips xs ys all = ap takes_white (state_none xs ys all)

-- what ends a value goes on with no number
follows_still : (after : List ℕ) → stops after ≡ true → Still after
unfolding byte
follows_still after e = record {
  digit = (stopped after e).digit;
  unit = plain_no (byte after 0) (stopped after e).name;
  percent = (stopped after e).percent;
  point = point after e;
}
  where
    plain_no : (c : ℕ) → is_name_byte c ≡ false → starts_plainly c ≡ false
    plain_no c n = grind (arith, nat_tests)

    stop_dot : (b : ℕ) → is_stop b ≡ true → (b == sign ".") ≡ false
    stop_dot b s = grind (arith, nat_tests)

    dot_digit : (c : ℕ) → (c == sign ".") ≡ true → is_digit c ≡ false
    dot_digit c s = grind (arith, nat_tests)

    dots_no : (b : ℕ) (rest : List ℕ) → is_dots (b ∷ rest) ≡ true → is_digit (byte (b ∷ rest) 1) ≡ false
    dots_no b (c ∷ d ∷ rest) s = dot_digit c (and_left (c == sign ".") _ (and_right (b == sign ".") _ s))
    dots_no b (c ∷ []) s = absurd (cc)
    dots_no b [] s = absurd (cc)

    point : (xs : List ℕ) → stops xs ≡ true → ((byte xs 0 == sign ".") && is_digit (byte xs 1)) ≡ false
    point [] s = refl
    point (b ∷ rest) s = go (is_stop b) refl s
      where
        go : (t : Bool) → is_stop b ≡ t → (t || is_dots (b ∷ rest)) ≡ true → ((byte (b ∷ rest) 0 == sign ".") && is_digit (byte (b ∷ rest) 1)) ≡ false
        go true t u = left_no (byte (b ∷ rest) 0 == sign ".") _ (stop_dot b t)
        go false t u = right_no (byte (b ∷ rest) 0 == sign ".") _ (dots_no b rest u)

pub follows_ending : Ending Follows
follows_ending = record {
  settles = λ value after f. parted_settled value after (follows_parts value after f) (follows_still after f.stop);
  cuts = λ xs ys b e begins after f. follows_end xs ys b e after f;
  keeps = λ xs ys b e u after f. record {
    stop = f.stop;
    closed = ap (λ (t : Bool). begins_white after && t) (unclosed_behind [] ys b e ∙ sym (unclosed_behind xs ys b e)) ∙ f.closed;
  };
  skips = λ xs ys all first after f. record {
    stop = f.stop;
    closed = ap (λ (t : Bool). begins_white after && t) (sym (unclosed_skips xs ys all)) ∙ f.closed;
  };
  nothing = follows_nothing;
}

paren_quiet : (b : ℕ) → (b == sign "(") ≡ true → Quiet b
paren_quiet b e = record {
  name = grind (arith, nat_tests);
  slash = grind (arith, nat_tests);
  feed = grind (arith, nat_tests);
  sign_before = grind (arith, nat_tests);
  equals = grind (arith, nat_tests);
}

paren_black : (b : ℕ) → (b == sign "(") ≡ true → is_white b ≡ false
paren_black b e = grind (arith, nat_tests)

paren_still : (after : List ℕ) → (byte after 0 == sign "(") ≡ true → Still after
paren_still after e = record {
  digit = by_digit (byte after 0) e;
  unit = by_unit (byte after 0) e;
  percent = by_percent (byte after 0) e;
  point = left_no (byte after 0 == sign ".") _ (by_point (byte after 0) e);
}
  where
    by_digit : (b : ℕ) → (b == sign "(") ≡ true → is_digit b ≡ false
    by_digit b s = grind (arith, nat_tests)

    by_unit : (b : ℕ) → (b == sign "(") ≡ true → starts_plainly b ≡ false
    by_unit b s = grind (arith, nat_tests)

    by_percent : (b : ℕ) → (b == sign "(") ≡ true → (b == sign "%") ≡ false
    by_percent b s = grind (arith, nat_tests)

    by_point : (b : ℕ) → (b == sign "(") ≡ true → (b == sign ".") ≡ false
    by_point b s = grind (arith, nat_tests)

no_url : (value : List ℕ) → ends_in_url value ≡ false → is_url value ≡ false
no_url [] e = refl
no_url (b ∷ value) e = or_left (is_url (b ∷ value)) _ e

-- at the rest of a text a name may begin or not
url_rest : (begins : Bool) (xs ys : List ℕ) → ends_in_url_from begins (xs ++ ys) ≡ false
    → (t : Bool) × (ends_in_url_from t ys ≡ false)
url_rest begins [] ys e = (begins, e)
url_rest begins (x ∷ xs) ys e = url_rest (x == sign "}") xs ys (or_right (begins && is_url (x ∷ (xs ++ ys))) _ e)

no_u : (ys : List ℕ) → is_u (byte ys 0) ≡ false → is_url ys ≡ false
unfolding byte
no_u [] e = refl
no_u (a ∷ []) e = refl
no_u (a ∷ b ∷ []) e = refl
no_u (a ∷ b ∷ c ∷ []) e = left_no (is_u a) _ e
no_u (a ∷ b ∷ c ∷ d ∷ ys) e = refl

begun : (t : Bool) (ys : List ℕ) → ends_in_url_from t ys ≡ false → is_u (byte ys 0) ≡ false
    → ends_in_url ys ≡ false
begun t [] e u = refl
begun t (b ∷ ys) e u =
    neither (is_url (b ∷ ys)) _ (no_u (b ∷ ys) u) (or_right (t && is_url (b ∷ ys)) _ e)

plain_u : (b : ℕ) → starts_plainly b ≡ false → is_u b ≡ false
plain_u b e = grind (arith, nat_tests)

cut_url : (xs ys : List ℕ) (b : ℕ) → ((b == sign "}") ≡ true) ⊎ (is_u (byte ys 0) ≡ false)
    → ends_in_url (xs ++ b ∷ ys) ≡ false → ends_in_url ys ≡ false
cut_url xs ys b begins e = go (url_rest true xs (b ∷ ys) e) begins
  where
    go : (t : Bool) × (ends_in_url_from t (b ∷ ys) ≡ false) → ((b == sign "}") ≡ true) ⊎ (is_u (byte ys 0) ≡ false)
        → ends_in_url ys ≡ false
    go (t, f) (inl brace) =
        subst (λ (x : Bool). ends_in_url_from x ys ≡ false) brace (or_right (t && is_url (b ∷ ys)) _ f)
    go (t, f) (inr u) = begun (b == sign "}") ys (or_right (t && is_url (b ∷ ys)) _ f) u

pub opens_ending : Ending Opens
opens_ending = record {
  settles = λ value after f. record {
    quiet = paren_quiet (byte after 0) f.paren;
    closed = left_no (begins_white after) (ends_unclosed value) (sym (white_same after) ∙ paren_black (byte after 0) f.paren);
    no_url = inr (no_url value f.named);
    still = paren_still after f.paren;
  };
  cuts = λ xs ys b e begins after f. record { paren = f.paren; named = cut_url xs ys b begins f.named };
  keeps = λ xs ys b e u after f.
      let (t, rest) = url_rest true xs (b ∷ ys) f.named in
      record { paren = f.paren; named = begun t (b ∷ ys) rest (ap is_u (first_byte b ys) ∙ u) };
  skips = λ xs ys all first after f.
      let (t, rest) = url_rest true xs ys f.named in
      record { paren = f.paren; named = begun t ys rest (plain_u (byte ys 0) first) };
  nothing = λ value after f. record { paren = f.paren; named = refl };
}
