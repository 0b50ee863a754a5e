-- The tokens of a text that is written token by token, as the pass over tokens finds them.
use Rattle.std.proofs.Common.{◌≡◌, ℕ, ◌+◌, ◌-◌, Bool, true, false, List, [], ◌∷◌, ◌++◌, length, Option, Some, None, drop, take, Ok, append-nil, refl, sym, ◌∙◌, ap, subst, append_assoc, length-append, arith}
use Rattle.std.specs.Prelude.{◌==◌, slice_get, slice_range}
use Rattle.std.specs.List.{list_all, list_any}
use Rattle.std.proofs.lemmas.Bool.Decides.{nat_tests}
use Rattle.std.proofs.Math.Seq.{drop-append_seam, take-append_seam}
use Rattle.sw_text.specs.Places.{mark_length}
use Rattle.sw_text_scan.specs.Bytes.{sign, is_white}
use Rattle.sw_text_scan.proofs.Bounds.{if_true, if_false, and_left, and_right}
use Rattle.sw_tokens.specs.declared.pieces.Before.{Before}
use Rattle.sw_tokens.specs.declared.pieces.Before.TheVariants as befores
use Rattle.sw_tokens.specs.declared.skips.Inside.{Inside}
use Rattle.sw_tokens.specs.declared.token.Token.{Token}
use Rattle.sw_tokens.specs.declared.token.TokenKind.{TokenKind}
use Rattle.sw_tokens.specs.declared.token.TokenKind.TheVariants as kinds
use Rattle.sw_tokens.specs.Ends.{opens, reaching, reached, tokens_of}
use Rattle.sw_tokens.specs.Tokens.{before_of, is_spaced}
use Rattle.sw_parse_lexemes.specs.declared.plain.Plain.{Plain}
use Rattle.sw_parse_lexemes.specs.Plains.{end_by, holds_slash, has_slash, plain_of, plains_from}
use Rattle.sw_parse_lexemes.specs.declared.sort.Sort.{Sort}
use Rattle.sw_parse_lexemes.specs.Sorts.{sort_of}
use Rattle.sw_convert_spelling.specs.Spelt.{behind_gap, innermost, opened, takes_gap, is_gap, end_of, placed_behind, IsToken, AreTokens}
use Rattle.sw_convert_spelling.proofs.Choices.{neither}
use Rattle.sw_convert_spelling.proofs.Walked.{these}
use Rattle.sw_convert_tokens.specs.Joints.{Joint, Token as Seen, Apart, spelt_of, spelts, text, written_of, Direct, IsSeen, IsToldSo, Stand}

-- ---- tokens

are_tokens : (stack : List Inside) (before : Before) (joints : List Joint) → Stand stack before joints [] []
    → AreTokens stack before (spelts joints)
are_tokens stack before [] e = e
are_tokens stack before (x ∷ joints) (gap, some, told, opening, token, rest) = (
  gap,
  some,
  subst (λ (t : List ℕ). IsToken (innermost stack) (behind_gap before (spelt_of x).gap) (spelt_of x) t)
      (append-nil (text joints)) token,
  are_tokens (opened stack (spelt_of x).change) (before_of (Some (spelt_of x).kind)) joints rest,
)

-- the tokens from an offset on, behind what stands before them
abbrev pub listed : Before → ℕ → List Joint → List Token
listed before at joints = (reached (placed_behind before at (spelts joints))).list

pub tokens_are : (joints : List Joint) → Stand [] befores.Other joints [] [] → mark_length (text joints) ≡ 0
    → tokens_of (text joints) ≡ Ok (listed befores.Other 0 joints)
tokens_are joints stand unmarked = these [] (spelts joints) unmarked (are_tokens [] befores.Other joints stand)

-- ---- as the pass over tokens finds them

-- a token of such a sort is seen, where it isn't an empty comment
abbrev pub IsSeenAs : Joint → Sort → Type 0
IsSeenAs (Seen seen) sort = IsSeen sort seen.may_be
IsSeenAs Apart sort = Unit {0}

-- a token by itself, with so much text before it
pub record IsPlain (front : List ℕ) (joint : Joint) (plain : Plain) (token : Token) : Type 0 where
  pub sort : plain.sort ≡ (written_of joint).sort
  pub spaced : plain.spaced ≡ (written_of joint).spaced
  pub from : plain.from ≡ length (front ++ (spelt_of joint).gap)
  pub to : plain.to ≡ length (front ++ (spelt_of joint).gap) + length (spelt_of joint).bytes
  pub silent : plain.silent ≡ false
  pub kind : token.kind ≡ (spelt_of joint).kind
  pub seen : IsSeenAs joint plain.sort

pub data Laid : List ℕ → List Joint → List Plain → List Token → Type 0 where
  laid_end : {front : List ℕ} → Laid front [] [] []
  laid : {front : List ℕ} {joint : Joint} {joints : List Joint} {plain : Plain} {plains : List Plain} {token : Token}
      {tokens : List Token} → IsPlain front joint plain token
      → Laid ((front ++ (spelt_of joint).gap) ++ (spelt_of joint).bytes) joints plains tokens
      → Laid front (joint ∷ joints) (plain ∷ plains) (token ∷ tokens)

-- what stands behind a text, up to where more follows
pub range_behind : (front it rest : List ℕ) → slice_range (front ++ (it ++ rest)) (length front) (length front + length it) ≡ it
range_behind front it rest =
    ap (λ (n : ℕ). take n (drop (length front) (front ++ (it ++ rest)))) (let e : (length front + length it) - length front ≡ length it = omega arith in e)
    ∙ ap (take (length it)) (drop-append_seam front (it ++ rest)) ∙ take-append_seam it rest

-- white space holds no `/`
no_slash : (inside : Inside) (gap bytes : List ℕ) → is_gap inside gap bytes ≡ true → holds_slash gap ≡ false
no_slash inside [] bytes e = refl
no_slash inside (b ∷ gap) bytes e =
    all_white (b ∷ gap) (and_left (list_all is_white (b ∷ gap)) _ (and_right (takes_gap inside) _ e))
  where
    white_slash : (c : ℕ) → is_white c ≡ true → (c == sign "/") ≡ false
    white_slash c w = grind (arith, nat_tests)

    all_white : (xs : List ℕ) → list_all is_white xs ≡ true → list_any (λ c. c == sign "/") xs ≡ false
    all_white [] w = refl
    all_white (c ∷ xs) w =
        neither (c == sign "/") (list_any (λ d. d == sign "/") xs) (white_slash c (and_left (is_white c) _ w))
        (all_white xs (and_right (is_white c) _ w))

-- what opens is told without its text
opening_sort : (kind : TokenKind) → opens kind ≡ true → (xs ys : List ℕ) → sort_of kind xs ≡ sort_of kind ys
opening_sort kinds.Template o xs ys = refl
opening_sort kinds.UrlTemplate o xs ys = refl
opening_sort kinds.CommentTemplate o xs ys = refl
opening_sort _ o xs ys = absurd (cc)

joint_sort : (joint : Joint) → (written_of joint).sort ≡ sort_of (spelt_of joint).kind (spelt_of joint).bytes
joint_sort (Seen seen) = refl
joint_sort Apart = refl

joint_seen : (before : Before) (joint : Joint) → IsToldSo before joint → IsSeenAs joint (written_of joint).sort
joint_seen before (Seen seen) told = told.1
joint_seen before Apart told = tt

joint_spaced : (before : Before) (joint : Joint) → IsToldSo before joint
    → is_spaced (behind_gap before (spelt_of joint).gap) ≡ (written_of joint).spaced
joint_spaced before (Seen seen) told = sym told.0
joint_spaced before Apart told = told

module _ (whole : List ℕ) where
  -- a token as it is placed, and the first of what is listed behind it
  abbrev raw : Before → ℕ → Joint → Token
  raw before at joint = record {
    kind = (spelt_of joint).kind;
    from = at + length (spelt_of joint).gap;
    to = end_of at (spelt_of joint);
    spaced = is_spaced (behind_gap before (spelt_of joint).gap);
  }

  next_from : (before : Before) (at : ℕ) (joints : List Joint) (token : Token) → opens token.kind ≡ true → Direct joints
      → end_by token (slice_get (listed before at joints) 0) ≡ at
  next_from before at [] token o d = absurd d
  next_from before at (y ∷ joints) token o d =
      if_true (opens token.kind) (at + length (spelt_of y).gap) token.to o
      ∙ ap (λ (g : List ℕ). at + length g) d ∙ (let e : at + 0 ≡ at = omega arith in e)

  -- where the text of a token ends
  own_end : (before : Before) (at : ℕ) (joint : Joint) (joints : List Joint) (ends : List ℕ)
      → (opens (spelt_of joint).kind ≡ true → Direct joints)
      → end_by (reaching (raw before at joint) ends)
      (slice_get (listed (before_of (Some (spelt_of joint).kind)) (end_of at (spelt_of joint)) joints) 0)
      ≡ end_of at (spelt_of joint)
  own_end before at joint joints ends direct = go (opens (spelt_of joint).kind) refl
    where
      closed : (next : Option Token) → opens (spelt_of joint).kind ≡ false
          → end_by (reaching (raw before at joint) ends) next ≡ end_of at (spelt_of joint)
      closed None o = if_false (opens (spelt_of joint).kind) _ _ o
      closed (Some next) o = if_false (opens (spelt_of joint).kind) _ _ o ∙ if_false (opens (spelt_of joint).kind) _ _ o

      go : (o : Bool) → opens (spelt_of joint).kind ≡ o
          → end_by (reaching (raw before at joint) ends) (slice_get (listed (before_of (Some (spelt_of joint).kind)) (end_of at (spelt_of joint)) joints) 0)
          ≡ end_of at (spelt_of joint)
      go true o = next_from (before_of (Some (spelt_of joint).kind)) (end_of at (spelt_of joint)) joints (reaching (raw before at joint) ends) o (direct o)
      go false o =
          closed (slice_get (listed (before_of (Some (spelt_of joint).kind)) (end_of at (spelt_of joint)) joints) 0) o

  pub all_laid : (stack : List Inside) (before : Before) (front : List ℕ) (joints : List Joint)
      → whole ≡ front ++ text joints → Stand stack before joints [] []
      → Laid front joints (plains_from whole (length front) (listed before (length front) joints))
      (listed before (length front) joints)
  unfolding plain_of has_slash
  all_laid stack before front [] is stand = laid_end
  all_laid stack before front (x ∷ joints) is (gap, some, told, opening, token, rest) =
      let s = spelt_of x in
      let at = length front in
      let deeper = reached (placed_behind (before_of (Some s.kind)) (end_of at s) (spelts joints)) in
      let mid : length (front ++ s.gap) ≡ at + length s.gap = length-append front s.gap in
      let far : length ((front ++ s.gap) ++ s.bytes) ≡ end_of at s =
      length-append (front ++ s.gap) s.bytes ∙ ap (λ (n : ℕ). n + length s.bytes) mid in
      let split : whole ≡ (front ++ s.gap) ++ (s.bytes ++ text joints) =
      is ∙ sym (append_assoc front s.gap (s.bytes ++ text joints)) in
      let own = own_end before at x joints deeper.ends opening in
      let sort_is : sort_of s.kind (slice_range whole (at + length s.gap) (reaching (raw before at x) deeper.ends).to)
      ≡ (written_of x).sort =
      own_sort s.kind (opens s.kind) refl (slice_range whole (at + length s.gap) (reaching (raw before at x) deeper.ends).to) s.bytes
      (λ o. ap (slice_range whole (at + length s.gap)) (if_false (opens s.kind) _ _ o)
      ∙ ap (λ (t : List ℕ). slice_range t (at + length s.gap) ((at + length s.gap) + length s.bytes)) split
      ∙ ap (λ (n : ℕ). slice_range ((front ++ s.gap) ++ (s.bytes ++ text joints)) n (n + length s.bytes)) (sym mid)
      ∙ range_behind (front ++ s.gap) s.bytes (text joints))
      ∙ sym (joint_sort x) in
      laid
      (record {
        sort = sort_is;
        seen = subst (IsSeenAs x) (sym sort_is) (joint_seen before x told);
        spaced = joint_spaced before x told;
        from = sym mid;
        to = own ∙ ap (λ (n : ℕ). n + length s.bytes) (sym mid);
        silent = ap holds_slash
            (ap (λ (t : List ℕ). slice_range t at (at + length s.gap)) is
            ∙ range_behind front s.gap (s.bytes ++ text joints))
            ∙ no_slash (innermost stack) s.gap s.bytes gap;
        kind = refl;
      })
      (subst (λ (n : ℕ). Laid ((front ++ s.gap) ++ s.bytes) joints (plains_from whole n deeper.list) deeper.list) (sym own)
      (subst (λ (n : ℕ). Laid ((front ++ s.gap) ++ s.bytes) joints (plains_from whole n (listed (before_of (Some s.kind)) n joints)) (listed (before_of (Some s.kind)) n joints))
      far
      (all_laid (opened stack s.change) (before_of (Some s.kind)) ((front ++ s.gap) ++ s.bytes) joints
      (split ∙ sym (append_assoc (front ++ s.gap) s.bytes (text joints))) rest)))
    where
      own_sort : (kind : TokenKind) (o : Bool) → opens kind ≡ o → (xs ys : List ℕ) → (opens kind ≡ false → xs ≡ ys)
          → sort_of kind xs ≡ sort_of kind ys
      own_sort kind true o xs ys same = opening_sort kind o xs ys
      own_sort kind false o xs ys same = ap (sort_of kind) (same o)
