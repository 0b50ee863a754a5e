-- Tokens that are text of a special function are written as they were.
use Rattle.std.proofs.Common.{◌≡◌, ◌⊎◌, ℕ, Bool, true, false, not, ◌&&◌, ◌||◌, if◌then◌else◌, List, [], ◌∷◌, ◌++◌, inl, inr, refl, sym, ◌∙◌, ap, subst, arith}
use Rattle.std.specs.Prelude.{◌==◌, bytes_eq, codes, slice_range}
use Rattle.std.specs.List.{list_all}
use Rattle.sw_text_scan.specs.Bytes.{sign, byte, is_white, is_quote}
use Rattle.sw_text_scan.specs.Words.{is_u}
use Rattle.sw_text_scan.proofs.Bounds.{and_left, and_right, not_true}
use Rattle.sw_tokens.specs.declared.pieces.Before.TheVariants as befores
use Rattle.sw_tokens.specs.declared.token.TokenKind.TheVariants as kinds
use Rattle.sw_tokens.specs.Decoded.{decoded}
use Rattle.sw_tokens.specs.Tokens.{is_spaced}
use Rattle.sw_parse_terminals.specs.declared.terminal.Terminal.{Terminal}
use Rattle.sw_parse_terminals.specs.declared.terminal.Terminal.TheVariants as terminals
use Rattle.sw_parse_lexemes.specs.declared.sort.Sort.{Sort}
use Rattle.sw_parse_lexemes.specs.declared.sort.Sort.TheVariants as sorts
use Rattle.sw_parse_lexemes.specs.Classes.{is_name, is_number}
use Rattle.sw_parse_lexemes.specs.Names.{stays_text}
use Rattle.sw_parse_lexemes.specs.Sorts.{sort_of, quoted_sort}
use Rattle.sw_parse_table.specs.declared.source.Source.{Source}
use Rattle.sw_parse_table.specs.Sets.{special_texts}
use Rattle.sw_parse_terminals.specs.Urls.{has_namespace}
use Rattle.sw_parse_table.specs.Sources.{bytes_at}
use Rattle.sw_convert_spelling.specs.Spelt.{behind_gap, innermost}
use Rattle.sw_convert_spelling.proofs.MovedRuns.{first_byte}
use Rattle.sw_convert_spelling.proofs.Choices.{left_no, right_no}
use Rattle.sw_convert_passing.specs.Kinds.{is_dot, is_paren, is_quoted, is_raw, is_sign, is_plus_or_minus}
use Rattle.sw_convert_passing.specs.Written.{Written, written}
use Rattle.sw_convert_passing.specs.Values.{ahead, Special, text_token, text_name, text_sign, text_comma}
use Rattle.sw_convert_again.specs.Tokens.{Old}
use Rattle.sw_convert_again.specs.Spells as spells
use Rattle.sw_convert_tokens.specs.Joints.{text}
use Rattle.sw_convert_tokens.specs.Values.{WasRead}
use Rattle.sw_convert_tokens.proofs.Loud.{seen_by}
use Rattle.sw_convert_tokens.proofs.Leaves.{no_other}
use Rattle.sw_convert_tokens.proofs.Signs.{token_by}
use Rattle.sw_convert_texts.specs.RawKinds.{gap_before, sort_there, sign_text, sign_stays, is_some, string_end, is_string, token_stays, stands_behind, sort_behind}
use Rattle.sw_convert_texts.specs.Specials.{name_ends, is_text, is_comma, is_plain_sign, sign_known, token_known}
use Rattle.sw_convert_texts.proofs.RawHeads.{ToldSort}
use Rattle.sw_convert_texts.proofs.RawLiterals.{quote_first, string_alone, string_long, pick_seen}
use Rattle.sw_convert_texts.proofs.RawSigns.{sign_raw}
use Rattle.sw_convert_texts.proofs.SpecialOlds.{bytes_same, plain_some, name_there}
use Rattle.sw_convert_texts.proofs.TextValues.{code_gap, calm_gap, spaced_some}
use Rattle.sw_convert_texts.proofs.Specials.{name_no_dot, name_no_paren, name_no_number, text_is, comma_is, Ahead, raw_name, ItemIs, OneIs, token_item, name_one, comma_one, raw_one}

-- ---- signs

plain_behind : (sort : Sort) → is_plain_sign sort ≡ true → sort_behind sort ≡ befores.Other
plain_behind sorts.Hash e = absurd (cc)
plain_behind sorts.Dollar e = absurd (cc)
plain_behind _ e = refl

plain_bytes : (sort : Sort) → is_plain_sign sort ≡ true
    → (is_u (byte (sign_text sort) 0) ≡ false) × ((byte (sign_text sort) 0 == sign "}") ≡ false)
unfolding byte
plain_bytes sorts.Plus e = (refl, refl)
plain_bytes sorts.Minus e = (refl, refl)
plain_bytes sorts.Star e = (refl, refl)
plain_bytes sorts.Slash e = (refl, refl)
plain_bytes sorts.Percent e = (refl, refl)
plain_bytes sorts.Colon e = (refl, refl)
plain_bytes sorts.Equals e = (refl, refl)
plain_bytes sorts.Less e = (refl, refl)
plain_bytes sorts.LessEquals e = (refl, refl)
plain_bytes sorts.Greater e = (refl, refl)
plain_bytes sorts.GreaterEquals e = (refl, refl)
plain_bytes _ e = absurd (cc)

plain_sort : (sort new : Sort) → is_plain_sign sort ≡ true → ToldSort sort new → new ≡ sort
plain_sort sort new e (inl same) = same
plain_sort sorts.Quoted new e (inr literal) = absurd (cc)
plain_sort sorts.Unnamed new e (inr literal) = absurd (cc)
plain_sort sorts.Digits new e (inr literal) = absurd (cc)
plain_sort sorts.Number new e (inr literal) = absurd (cc)
plain_sort _ new e (inr (literal, other)) = absurd (let wrong : false ≡ true = literal in cc)

plain_stays : (sort : Sort) (after : List ℕ) → is_plain_sign sort ≡ true → sign_stays sort (byte after 0) ≡ true
    → token_stays sort (sign_text sort) after ≡ true
plain_stays sorts.Plus after e f = f
plain_stays sorts.Minus after e f = f
plain_stays sorts.Star after e f = f
plain_stays sorts.Slash after e f = f
plain_stays sorts.Percent after e f = f
plain_stays sorts.Colon after e f = f
plain_stays sorts.Equals after e f = f
plain_stays sorts.Less after e f = f
plain_stays sorts.LessEquals after e f = f
plain_stays sorts.Greater after e f = f
plain_stays sorts.GreaterEquals after e f = f
plain_stays _ after e f = absurd (cc)

plain_stands : (sort : Sort) (text : List ℕ) → is_plain_sign sort ≡ true → stands_behind befores.White sort text ≡ true
plain_stands sorts.Hex text e = absurd (cc)
plain_stands _ text e = refl

plain_text : (sort : Sort) → is_plain_sign sort ≡ true → (is_raw sort ≡ true) ⊎ (is_plus_or_minus sort ≡ true)
plain_text sorts.Plus e = inr refl
plain_text sorts.Minus e = inr refl
plain_text sorts.Star e = inl refl
plain_text sorts.Slash e = inl refl
plain_text sorts.Percent e = inl refl
plain_text sorts.Colon e = inl refl
plain_text sorts.Equals e = inl refl
plain_text sorts.Less e = inl refl
plain_text sorts.LessEquals e = inl refl
plain_text sorts.Greater e = inl refl
plain_text sorts.GreaterEquals e = inl refl
plain_text _ e = absurd (cc)

plain_heads : (sort : Sort) → is_plain_sign sort ≡ true
    → (is_dot sort ≡ false) × (is_paren sort ≡ false) × (is_number sort ≡ false)
plain_heads sorts.Dot e = absurd (cc)
plain_heads sorts.OpenParen e = absurd (cc)
plain_heads sorts.Digits e = absurd (cc)
plain_heads sorts.Number e = absurd (cc)
plain_heads _ e = (refl, refl, refl)

sign_special : (sort : Sort) (ended parens digits : Bool) (gap : List ℕ) → is_plain_sign sort ≡ true
    → (digits && is_sign sort (is_some gap) ended) ≡ false → (inner : Bool) (rest : List Written) → Ahead parens digits rest
    → Special inner false rest → Special inner ended (written sort (is_spaced (behind_gap befores.Other gap)) terminals.Raw ∷ rest)
sign_special sort ended parens digits gap plain none inner rest next more = go (plain_text sort plain)
  where
    numbers : (t : Bool) → (t ≡ false → ahead is_number 0 rest ≡ false) → (t && is_sign sort (is_some gap) ended) ≡ false
        → (ahead is_number 0 rest && is_sign sort (is_spaced (behind_gap befores.Other gap)) ended) ≡ false
    numbers false h f = left_no (ahead is_number 0 rest) _ (h refl)
    numbers true h f =
        right_no (ahead is_number 0 rest) _ (ap (λ (s : Bool). is_sign sort s ended) (spaced_some gap) ∙ f)

    go : (is_raw sort ≡ true) ⊎ (is_plus_or_minus sort ≡ true)
        → Special inner ended (written sort (is_spaced (behind_gap befores.Other gap)) terminals.Raw ∷ rest)
    go (inl r) = text_token sort r more
    go (inr p) = text_sign sort p (numbers digits next.numberless none) more

-- ---- strings

quoted_heads : (t : Bool) → (is_raw (if t then sorts.Quoted else sorts.Unnamed) ≡ true)
    × (is_dot (if t then sorts.Quoted else sorts.Unnamed) ≡ false)
    × (is_paren (if t then sorts.Quoted else sorts.Unnamed) ≡ false)
    × (is_number (if t then sorts.Quoted else sorts.Unnamed) ≡ false)
quoted_heads true = (refl, refl, refl, refl)
quoted_heads false = (refl, refl, refl, refl)

module _ (source : Source) (was : WasRead source) where
  sign_one : (terminal : Terminal) (sort : Sort) (gap own : List ℕ) (b : ℕ) → list_all is_white gap ≡ true
      → is_plain_sign sort ≡ true → own ≡ sign_text sort → sign_stays sort b ≡ true → OneIs source was terminal sort gap own b
  sign_one terminal sort gap own b white plain is stays =
      subst (λ (t : List ℕ). OneIs source was terminal sort gap t b) (sym is)
      (let it = sign_raw sort (plain_some sort plain) in
      let (no_u, no_brace) = plain_bytes sort plain in
      subst (λ (s : Sort). OneIs source was terminal s gap (sign_text sort) b) (plain_sort sort (sort_of it.kind (sign_text sort)) plain it.told)
      (raw_one source was terminal sort gap (sign_text sort) b white it (it.other ∙ plain_behind sort plain) no_u no_brace
      (λ after first.
      it.token after (plain_stays sort after plain (ap (sign_stays sort) first ∙ stays)) befores.White (plain_stands sort (sign_text sort) plain))))

  quoted_one : (terminal : Terminal) (gap own : List ℕ) (b : ℕ) → list_all is_white gap ≡ true → is_string own ≡ true
      → OneIs source was terminal (quoted_sort (decoded (slice_range own 1 (string_end own)))) gap own b
  quoted_one terminal gap [] b white e = absurd (let long = string_long [] e in omega (arith, long))
  quoted_one terminal gap (q ∷ []) b white e = absurd (let long = string_long (q ∷ []) e in omega (arith, long))
  quoted_one terminal gap (q ∷ c ∷ rest) b white e =
      let own = q ∷ c ∷ rest in
      let kind = kinds.Quoted (decoded (slice_range own 1 (string_end own))) in
      let first = quote_first q (ap is_quote (sym (first_byte q (c ∷ rest))) ∙ and_left (is_quote (byte own 0)) _ e) in record {
        kind = kind;
        sort_is = refl;
        last = refl;
        stands = λ stack after code f. (
          code_gap (innermost stack) gap own code white (ap is_white (first_byte q (c ∷ rest)) ∙ first.0),
          omega arith,
          (refl, seen_by (sort_of kind own) (terminal ∷ []) (pick_seen (has_namespace (decoded (slice_range own 1 (string_end own)))))),
          λ o. absurd (let wrong : false ≡ true = o in cc),
          token_by kind q (c ∷ rest) after (innermost stack) (behind_gap befores.Other gap) code (calm_gap gap) first.1 first.2
              (string_alone own e) (ap not (no_other q ((c ∷ rest) ++ after) first.1)),
          refl,
        );
      }

  -- ---- what is told of a token

  pub token_is : {i : ℕ} (old : Old source i special_texts) (ended parens digits : Bool) (behind_text : List ℕ)
      → list_all is_white (gap_before source i) ≡ true
      → token_known old.lexeme.terminal (sort_there old) (is_some (gap_before source i)) ended parens digits (bytes_at source i)
      (byte behind_text 0) ≡ true
      → ItemIs source was (spells.item_token old) ended parens digits behind_text (gap_before source i)
  token_is {i} old ended parens digits behind_text white known = named (is_name sort) refl known
    where
      gap : List ℕ
      gap = gap_before source i

      own : List ℕ
      own = bytes_at source i

      sort : Sort
      sort = sort_there old

      terminal : Terminal
      terminal = old.lexeme.terminal

      b : ℕ
      b = byte behind_text 0

      -- it is text
      raw : (s : Sort) → is_text terminal ≡ true
          → ((inner : Bool) (rest : List Written) → Ahead parens digits rest → Special inner false rest
          → Special inner ended (written s (is_spaced (behind_gap befores.Other gap)) terminals.Raw ∷ rest))
          → (inner : Bool) (rest : List Written) → Ahead parens digits rest → Special inner false rest
          → Special inner ended (written s (is_spaced (behind_gap befores.Other gap)) terminal ∷ rest)
      raw s t special inner rest next more =
          subst (λ (k : Terminal). Special inner ended (written s (is_spaced (behind_gap befores.Other gap)) k ∷ rest))
          (sym (text_is terminal t)) (special inner rest next more)

      signed : (q : Bool) → is_text terminal ≡ true
          → (if q then is_string own else sign_known sort (is_some gap) ended digits own b) ≡ true
          → ItemIs source was (spells.item_token old) ended parens digits behind_text gap
      signed true t f =
          let told = decoded (slice_range own 1 (string_end own)) in
          let (text, dot, paren, number) = quoted_heads (has_namespace told) in
          token_item source was (quoted_sort told) old ended parens digits behind_text gap (quoted_one terminal gap own b white f)
          (raw (quoted_sort told) t (λ inner rest next more. text_token (quoted_sort told) text more))
          dot paren number
      signed false t f =
          let plain = and_left (is_plain_sign sort) _ f in
          let one = and_right (is_plain_sign sort) _ f in
          let two = and_right (bytes_eq own (sign_text sort)) _ one in
          let none = not_true _ (and_right (sign_stays sort b) _ two) in
          let (dot, paren, number) = plain_heads sort plain in
          token_item source was sort old ended parens digits behind_text gap
          (sign_one terminal sort gap own b white plain (bytes_same own (sign_text sort) (and_left (bytes_eq own (sign_text sort)) _ one))
          (and_left (sign_stays sort b) _ two))
          (raw sort t (sign_special sort ended parens digits gap plain none)) dot paren number

      other : (c : Bool) → is_comma terminal sort ≡ c
          → (if c then bytes_eq own (codes ",")
          else (is_text terminal && (if is_quoted sort then is_string own else sign_known sort (is_some gap) ended digits own b))) ≡ true
          → ItemIs source was (spells.item_token old) ended parens digits behind_text gap
      other true c f =
          token_item source was sorts.Comma old ended parens digits behind_text gap (comma_one source was terminal gap own b white (bytes_same own (codes ",") f))
          (λ inner rest next more.
          subst (λ (k : Terminal). Special inner ended (written sorts.Comma (is_spaced (behind_gap befores.Other gap)) k ∷ rest))
          (sym (comma_is terminal sort c)) (text_comma more))
          refl refl refl
      other false c f = signed (is_quoted sort) (and_left (is_text terminal) _ f) (and_right (is_text terminal) _ f)

      named : (n : Bool) → is_name sort ≡ n
          → (if n then is_text terminal && (name_ends own b && (stays_text sort || not parens))
          else (if is_comma terminal sort then bytes_eq own (codes ",")
          else (is_text terminal && (if is_quoted sort then is_string own else sign_known sort (is_some gap) ended digits own b)))) ≡ true
          → ItemIs source was (spells.item_token old) ended parens digits behind_text gap
      named true n f =
          let more = and_right (is_text terminal) _ f in
          let stays = and_right (name_ends own b) _ more in
          token_item source was sort old ended parens digits behind_text gap
          (name_one source was old gap b (name_there source was i old.lexeme old.there n) white (and_left (name_ends own b) _ more))
          (raw sort (and_left (is_text terminal) _ f)
          (λ inner rest next special. text_name sort n (raw_name sort rest parens digits stays next) special))
          (name_no_dot sort n) (name_no_paren sort n) (name_no_number sort n)
      named false n f = other (is_comma terminal sort) refl f
