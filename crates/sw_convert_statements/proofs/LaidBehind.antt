-- Tokens are laid as they are where white space stands behind the last one, or a byte order mark before the first.
use Rattle.std.proofs.Common.{◌≡◌, ◌⊎◌, ◌<◌, ◌≤◌, ℕ, suc, ◌+◌, ◌-◌, Bool, true, false, List, [], ◌∷◌, ◌++◌, length, Option, Some, None, drop, take, inl, inr, refl, sym, ◌∙◌, ap, subst, length-append, length-drop, arith}
use Rattle.std.specs.Prelude.{nat_lt, slice_get, slice_range}
use Rattle.std.proofs.lemmas.Bool.Decides.{nat_tests}
use Rattle.std.proofs.lemmas.List.{take-append-le, drop-append-le}
use Rattle.sw_text_scan.proofs.Bounds.{if_false}
use Rattle.sw_tokens.specs.declared.token.Token.{Token}
use Rattle.sw_tokens.specs.declared.token.TokenKind.{TokenKind}
use Rattle.sw_tokens.specs.declared.token.TokenKind.TheVariants as kinds
use Rattle.sw_tokens.specs.Ends.{opens}
use Rattle.sw_parse_lexemes.specs.Plains.{end_by, holds_slash, has_slash, plain_of, plains_from}
use Rattle.sw_parse_lexemes.specs.Sorts.{sort_of}
use Rattle.sw_convert_tokens.specs.Joints.{Joint, spelt_of, text}
use Rattle.sw_convert_tokens.proofs.Laid.{IsSeenAs, Laid, laid_end, laid}

-- what stands in a text stands in a longer one
range_stays : (xs ys : List ℕ) (from to : ℕ) → to ≤ length xs → slice_range (xs ++ ys) from to ≡ slice_range xs from to
range_stays xs ys from to within = go (nat_lt (length xs) from) refl
  where
    go : (t : Bool) → nat_lt (length xs) from ≡ t → slice_range (xs ++ ys) from to ≡ slice_range xs from to
    go true e =
        let past : length xs < from = grind (arith, nat_tests) in
        let none : to - from ≡ 0 = omega (arith, past, within) in
        ap (λ (n : ℕ). take n (drop from (xs ++ ys))) none ∙ sym (ap (λ (n : ℕ). take n (drop from xs)) none)
    go false e =
        let here : from ≤ length xs = grind (arith, nat_tests) in
        let left = length-drop from xs in
        ap (take (to - from)) (drop-append-le from xs ys here)
        ∙ take-append-le (to - from) (drop from xs) ys (omega (arith, left, within))

-- what opens is told without its text
opening_sort : (kind : TokenKind) → opens kind ≡ true → (xs ys : List ℕ) → sort_of kind xs ≡ sort_of kind ys
opening_sort kinds.Template o xs ys = refl
opening_sort kinds.UrlTemplate o xs ys = refl
opening_sort kinds.CommentTemplate o xs ys = refl
opening_sort _ o xs ys = absurd (cc)

own_end : (token : Token) (next : Option Token) → opens token.kind ≡ false → end_by token next ≡ token.to
own_end token None o = refl
own_end token (Some next) o = if_false (opens token.kind) _ _ o

module _ (whole after : List ℕ) where
  same_sort : (token : Token) (next : Option Token) → end_by token next ≤ length whole
      → sort_of token.kind (slice_range (whole ++ after) token.from token.to)
      ≡ sort_of token.kind (slice_range whole token.from token.to)
  same_sort token next within = go (opens token.kind) refl
    where
      go : (o : Bool) → opens token.kind ≡ o
          → sort_of token.kind (slice_range (whole ++ after) token.from token.to)
          ≡ sort_of token.kind (slice_range whole token.from token.to)
      go true o = opening_sort token.kind o _ _
      go false o =
          ap (sort_of token.kind)
          (range_stays whole after token.from token.to
          (let e = own_end token next o in let z : token.to ≤ length whole = omega (arith, e, within) in z))

  pub laid_behind : {front : List ℕ} {joints : List Joint} (gap : ℕ) (list : List Token)
      → length front + length (text joints) ≤ length whole → Laid front joints (plains_from whole gap list) list
      → Laid front joints (plains_from (whole ++ after) gap list) list
  unfolding plain_of has_slash
  laid_behind gap [] within laid_end = laid_end
  laid_behind {front} gap (token ∷ list) within (laid {joint = joint} {joints = joints} it more) =
      let s = spelt_of joint in
      let next = slice_get list 0 in
      let one = length-append s.gap (s.bytes ++ text joints) in
      let two = length-append s.bytes (text joints) in
      let mid = length-append front s.gap in
      let far = length-append (front ++ s.gap) s.bytes in
      let from = it.from in
      let to = it.to in
      let sort = same_sort token next (omega (arith, one, two, mid, to, within)) in
      laid
      (record {
        sort = sort ∙ it.sort;
        spaced = it.spaced;
        from = it.from;
        to = it.to;
        silent = ap holds_slash (range_stays whole after gap token.from (omega (arith, one, two, mid, from, within))) ∙ it.silent;
        kind = it.kind;
        seen = subst (IsSeenAs joint) (sym sort) it.seen;
      })
      (laid_behind (end_by token next) list (omega (arith, one, two, mid, far, within)) more)

-- ---- a byte order mark

abbrev pub order_mark : List ℕ
order_mark = 239 ∷ 187 ∷ 191 ∷ []

abbrev pub IsMark : List ℕ → Type 0
IsMark mark = (mark ≡ []) ⊎ (mark ≡ order_mark)

no_slash : (rest : List ℕ) (n m : ℕ) → n ≡ suc (suc (suc m))
    → holds_slash (slice_range (239 ∷ 187 ∷ 191 ∷ rest) 0 n) ≡ holds_slash (slice_range (239 ∷ 187 ∷ 191 ∷ rest) 3 n)
no_slash rest n m e =
    ap (λ (k : ℕ). holds_slash (take k (239 ∷ 187 ∷ 191 ∷ rest))) (let z : n - 0 ≡ suc (suc (suc m)) = omega (arith, e) in z)
    ∙ sym (ap (λ (k : ℕ). holds_slash (take k rest)) (let z : n - 3 ≡ m = omega (arith, e) in z))

pub laid_marked : {joints : List Joint} (mark rest : List ℕ) → IsMark mark → (list : List Token)
    → Laid mark joints (plains_from (mark ++ rest) (length mark) list) list
    → Laid mark joints (plains_from (mark ++ rest) 0 list) list
unfolding plain_of has_slash
laid_marked {joints} mark rest (inl none) list it =
    subst (λ (n : ℕ). Laid mark joints (plains_from (mark ++ rest) n list) list) (ap length none) it
laid_marked {joints} mark rest (inr some) list it =
    subst (λ (m : List ℕ). Laid m joints (plains_from (m ++ rest) 0 list) list) (sym some)
    (go list (subst (λ (m : List ℕ). Laid m joints (plains_from (m ++ rest) (length m) list) list) some it))
  where
    go : {js : List Joint} (tokens : List Token)
        → Laid order_mark js (plains_from (order_mark ++ rest) (length order_mark) tokens) tokens
        → Laid order_mark js (plains_from (order_mark ++ rest) 0 tokens) tokens
    go [] laid_end = laid_end
    go (token ∷ tokens) (laid {joint = joint} one more) =
        let from = one.from in
        let long = length-append order_mark (spelt_of joint).gap in
        laid
        (record {
          sort = one.sort;
          spaced = one.spaced;
          from = one.from;
          to = one.to;
          silent = no_slash rest token.from (length (spelt_of joint).gap) (omega (arith, from, long)) ∙ one.silent;
          kind = one.kind;
          seen = one.seen;
        })
        more
