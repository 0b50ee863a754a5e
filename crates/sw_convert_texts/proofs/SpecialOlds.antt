-- The text of special functions that was read, item by item: the texts around its values, and what is written of it.
use Rattle.std.proofs.Common.{◌≡◌, ◌≤◌, ◌<◌, ℕ, suc, ◌-◌, Bool, true, false, not, ◌&&◌, ◌||◌, if◌then◌else◌, Some, List, [], ◌∷◌, ◌++◌, length, refl, sym, ◌∙◌, ap, subst, arith, append_assoc}
use Rattle.std.specs.Prelude.{bytes_eq, codes, nat_le, nat_lt, slice_range}
use Rattle.std.specs.List.{list_all}
use Rattle.std.proofs.lemmas.Bool.Decides.{nat_tests}
use Rattle.std.proofs.lemmas.Slice.Eq.{bytes_eq-Decides}
use Rattle.sw_text_scan.specs.Bytes.{byte, is_white}
use Rattle.sw_text_scan.proofs.Bounds.{if_false, and_left, and_right, not_true}
use Rattle.sw_tree.specs.declared.expr.Expr.{Expr}
use Rattle.sw_parse_terminals.specs.declared.terminal.Terminal.{Terminal}
use Rattle.sw_parse_terminals.specs.declared.lexeme.Lexeme.{Lexeme}
use Rattle.sw_parse_lexemes.specs.declared.sort.Sort.{Sort}
use Rattle.sw_parse_lexemes.specs.declared.sort.Sort.TheVariants as sorts
use Rattle.sw_parse_lexemes.specs.Ahead.{sort_at}
use Rattle.sw_parse_lexemes.specs.Classes.{is_name}
use Rattle.sw_parse_lexemes.specs.Names.{stays_text}
use Rattle.sw_parse_lexemes.specs.Sorts.{sort_of}
use Rattle.sw_tokens.specs.declared.token.TokenKind.{TokenKind}
use Rattle.sw_parse_table.specs.declared.source.Source.{Source}
use Rattle.sw_parse_table.specs.Parts.{Part, Inserts, Stands}
use Rattle.sw_parse_table.specs.Sets.{special_texts}
use Rattle.sw_parse_table.specs.Sources.{Texts, begun, bytes, lexeme_at, from_at, to_at, bytes_at, is_commented, gap_at, pieces_from}
use Rattle.sw_convert_written.specs.Expressions.{expr_text}
use Rattle.sw_convert_written.specs.Pieces.{ends_loose}
use Rattle.sw_convert_passing.specs.Kinds.{is_quoted}
use Rattle.sw_convert_again.specs.Tokens.{Tok, Extent, Old}
use Rattle.sw_convert_again.specs.Spells.{extents_of, Spells, SpellsItem, SpellsText}
use Rattle.sw_convert_again.specs.Spells as spells
use Rattle.sw_convert_tokens.specs.Values.{WasRead}
use Rattle.sw_convert_tokens.proofs.Words.{kind_of_name}
use Rattle.sw_convert_texts.specs.InText.{value_fits}
use Rattle.sw_convert_texts.specs.RawKinds.{gap_before, sort_there, sign_text, is_some, is_string}
use Rattle.sw_convert_texts.specs.Specials.{is_calmly_beside, item_text, special_text, item_front, text_front, begins_parens, begins_digits, is_text, is_comma, is_plain_sign, sign_known, token_known, name_ends, is_alone, ends_value, item_known, text_known}
use Rattle.sw_convert_texts.proofs.AroundTexts.{lones, cut_before, around_texts, CutFrom, Step, Beside, cut_token, cut_insert, first_token}
use Rattle.sw_convert_texts.proofs.JoinedPieces.{IsJoined, JoinedFrom, joined_token, joined_insert, joined_stands, joined_first}
use Rattle.sw_convert_texts.proofs.LexemePairs.{plains_in}
use Rattle.sw_convert_texts.proofs.OldPieces.{old_piece, whole_bytes}
use Rattle.sw_convert_texts.proofs.OldRows.{part_closed}
use Rattle.sw_convert_texts.proofs.PartTokens.{PartToken}
use Rattle.sw_convert_texts.proofs.Parts.{name_token}
use Rattle.sw_convert_texts.proofs.RawOlds.{lies, step_told}
use Rattle.sw_convert_texts.proofs.SeamedTexts.{in_insert}
use Rattle.sw_convert_texts.proofs.WordKinds.{part_name}

-- ---- the texts around its values

abbrev mutual
  pub item_cut : (source : Source) {i k : ℕ} {parts : List Part} {tokens : List Tok} {extents : List Extent}
      → SpellsItem source i k parts tokens extents → Texts → Texts
  item_cut source (spells.item_token {i = i} old) cuts = begun (bytes_at source i) cuts
  item_cut source (spells.item_insert opens inner close) cuts = cut_before cuts
  item_cut source (spells.item_value inner) cuts = cut_before cuts
  item_cut source (spells.item_parens {c = c} opens inner close) cuts =
      begun (codes "(") (special_cut source inner (begun (gap_before source c) (begun (codes ")") cuts)))
  item_cut source (spells.item_brackets {c = c} opens inner close) cuts =
      begun (codes "[") (special_cut source inner (begun (gap_before source c) (begun (codes "]") cuts)))

  pub special_cut : (source : Source) {i j : ℕ} {parts : List Part} {tokens : List Tok} {extents : List Extent}
      → SpellsText source i j parts tokens extents → Texts → Texts
  special_cut source spells.text_end cuts = cuts
  special_cut source (spells.text_more {i = i} item text) cuts =
      begun (gap_before source i) (item_cut source item (special_cut source text cuts))

-- ---- what stands beside the token before

pub record IsCalm (source : Source) (i : ℕ) : Type 0 where
  pub place : suc (i - 1) ≡ i
  pub beside : Beside source (i - 1) (gap_before source i)
  pub white : list_all is_white (gap_before source i) ≡ true

pub calm_told : (source : Source) (i : ℕ) → is_calmly_beside source i ≡ true → IsCalm source i
calm_told source i e =
    let rest = and_right (nat_lt 0 i) _ e in
    let more = and_right (not (is_commented source i)) _ rest in
    let calm = not_true (is_commented source i) (and_left (not (is_commented source i)) _ rest) in
    let place : suc (i - 1) ≡ i = behind i (and_left (nat_lt 0 i) _ e) in record {
      place = place;
      beside = record {
        calm = ap (is_commented source) place ∙ calm;
        gap_is = ap (λ (m : ℕ). slice_range (bytes source) (to_at source (i - 1)) (from_at source m)) place
            ∙ sym (if_false (is_commented source i) (gap_at source i) _ calm);
        low = subst (λ (m : ℕ). to_at source (i - 1) ≤ from_at source m) (sym place)
            (le (to_at source (i - 1)) (from_at source i) (and_left (nat_le (to_at source (i - 1)) (from_at source i)) _ more));
      };
      white = and_right (nat_le (to_at source (i - 1)) (from_at source i)) _ more;
    }
  where
    behind : (n : ℕ) → nat_lt 0 n ≡ true → suc (n - 1) ≡ n
    behind n l = let some : 0 < n = grind (arith, nat_tests) in omega (arith, some)

    le : (a b : ℕ) → nat_le a b ≡ true → a ≤ b
    le a b l = grind (arith, nat_tests)

pub bytes_same : (xs ys : List ℕ) → bytes_eq xs ys ≡ true → xs ≡ ys
bytes_same xs ys e = (bytes_eq-Decides xs ys).0 e

some_as : (xs ys : List ℕ) → bytes_eq xs ys ≡ true → is_some ys ≡ true → is_some xs ≡ true
some_as xs ys e some = ap is_some (bytes_same xs ys e) ∙ some

pub some_bytes : (xs : List ℕ) → 0 < length xs → is_some xs ≡ true
some_bytes [] l = absurd (omega (arith, l))
some_bytes (x ∷ xs) l = refl

pub plain_some : (sort : Sort) → is_plain_sign sort ≡ true → is_some (sign_text sort) ≡ true
plain_some sorts.Plus e = refl
plain_some sorts.Minus e = refl
plain_some sorts.Star e = refl
plain_some sorts.Slash e = refl
plain_some sorts.Percent e = refl
plain_some sorts.Colon e = refl
plain_some sorts.Equals e = refl
plain_some sorts.Less e = refl
plain_some sorts.LessEquals e = refl
plain_some sorts.Greater e = refl
plain_some sorts.GreaterEquals e = refl
plain_some _ e = absurd (cc)

string_some : (text : List ℕ) → is_string text ≡ true → is_some text ≡ true
unfolding byte
string_some [] e = absurd (let wrong : false ≡ true = e in cc)
string_some (b ∷ text) e = refl

-- ---- names

module _ (source : Source) (was : WasRead source) where
  -- a name that was read, of its sort
  pub record NameThere (k : ℕ) (lexeme : Lexeme) : Type 0 where
    pub part : PartToken source k (bytes_at source k)
    pub sort_is : sort_of part.kind (bytes_at source k) ≡ sort_at (plains_in source) lexeme.token

  pub name_there : (k : ℕ) (lexeme : Lexeme) → lexeme_at source k ≡ Some lexeme
      → is_name (sort_at (plains_in source) lexeme.token) ≡ true → NameThere k lexeme
  name_there k lexeme there n =
      let it = old_piece source was k lexeme there in
      let named = ap is_name (sym it.sort) ∙ n in
      let fits = part_name (sort_of it.kind it.text) named in
      let whole = it.own (part_closed it.kind it.text fits) in
      let own = whole_bytes source k lexeme it.kind it.text there whole in
      let (token, (kind_is, alone)) = name_token source k lexeme there it.kind it.text fits whole (kind_of_name it.kind it.text named) in
      let (part, sort_is) =
      subst
      (λ (xs : List ℕ). (one : PartToken source k xs) × (sort_of one.kind xs ≡ sort_at (plains_in source) lexeme.token)) (sym own)
      (token, ap (λ (kind : TokenKind). sort_of kind it.text) kind_is ∙ sym it.sort) in
      record { part = part; sort_is = sort_is }

  -- a token that is told has text
  token_some : {i : ℕ} (old : Old source i special_texts) (spaced ended parens digits : Bool) (b : ℕ)
      → token_known old.lexeme.terminal (sort_there old) spaced ended parens digits (bytes_at source i) b ≡ true
      → is_some (bytes_at source i) ≡ true
  token_some {i} old spaced ended parens digits b e = named (is_name sort) refl e
    where
      own : List ℕ
      own = bytes_at source i

      sort : Sort
      sort = sort_there old

      terminal : Terminal
      terminal = old.lexeme.terminal

      signed : (t : Bool) → (if t then is_string own else sign_known sort spaced ended digits own b) ≡ true → is_some own ≡ true
      signed true f = string_some own f
      signed false f =
          some_as own (sign_text sort)
          (and_left (bytes_eq own (sign_text sort)) _ (and_right (is_plain_sign sort) _ f))
          (plain_some sort (and_left (is_plain_sign sort) _ f))

      other : (t : Bool)
          → (if t then bytes_eq own (codes ",")
          else (is_text terminal && (if is_quoted sort then is_string own else sign_known sort spaced ended digits own b))) ≡ true
          → is_some own ≡ true
      other true f = some_as own (codes ",") f refl
      other false f = signed (is_quoted sort) (and_right (is_text terminal) _ f)

      named : (t : Bool) → is_name sort ≡ t
          → (if t then is_text terminal && (name_ends own b && (stays_text sort || not parens))
          else (if is_comma terminal sort then bytes_eq own (codes ",")
          else (is_text terminal && (if is_quoted sort then is_string own else sign_known sort spaced ended digits own b)))) ≡ true
          → is_some own ≡ true
      named true n f = let it = name_there i old.lexeme old.there n in some_bytes own it.part.some
      named false n f = other (is_comma terminal sort) f

  -- a value by itself has tokens
  alone_ahead : {i k : ℕ} {value : Expr} {tokens : List Tok} (inner : Spells source i k value tokens) → is_alone inner ≡ true
      → suc (k - 1) ≡ k
  alone_ahead (spells.stays_number span old) e = omega arith
  alone_ahead (spells.stays_signed span one two) e = omega arith
  alone_ahead (spells.variable span one two) e = omega arith
  alone_ahead (spells.owned_variable span one two third four) e = omega arith
  alone_ahead (spells.call span name_span name opens inner close) e = omega arith
  alone_ahead (spells.owned_call span name_span owner dot name opens inner close) e = omega arith
  alone_ahead _ e = absurd (cc)

  -- ---- item by item

  -- what is told of an item, and of those behind it
  pub record AreTold {i k j : ℕ} {parts more : List Part} {tokens others : List Tok} {extents further : List Extent}
      (item : SpellsItem source i k parts tokens extents) (text : SpellsText source k j more others further) (ended : Bool)
      (front behind : List ℕ) : Type 0 where
    pub calm : is_calmly_beside source i ≡ true
    pub one : item_known source item ended (begins_parens text) (begins_digits text) (front ++ gap_before source i)
        (special_text source text behind) ≡ true
    pub rest : text_known source text (ends_value item) (item_front source item (front ++ gap_before source i)) behind ≡ true

  pub text_told : {i k j : ℕ} {parts more : List Part} {tokens others : List Tok} {extents further : List Extent}
      (item : SpellsItem source i k parts tokens extents) (text : SpellsText source k j more others further) (ended : Bool)
      (front behind : List ℕ) → text_known source (spells.text_more item text) ended front behind ≡ true
      → AreTold item text ended front behind
  text_told {i} item text ended front behind e =
      let known = item_known source item ended (begins_parens text) (begins_digits text) (front ++ gap_before source i)
      (special_text source text behind) in
      let both = and_right (is_calmly_beside source i) _ e in
      record { calm = and_left (is_calmly_beside source i) _ e; one = and_left known _ both; rest = and_right known _ both }

  -- and of brackets
  pub record AreEnclosed {i c : ℕ} {parts : List Part} {tokens : List Tok} {extents : List Extent}
      (inner : SpellsText source (suc i) c parts tokens extents) (opening closing front behind : List ℕ) : Type 0 where
    pub opens : bytes_at source i ≡ opening
    pub calm : is_calmly_beside source c ≡ true
    pub closes : bytes_at source c ≡ closing
    pub inside : text_known source inner false (front ++ opening) (gap_before source c ++ (closing ++ behind)) ≡ true

  pub enclosed_told : {i c : ℕ} {parts : List Part} {tokens : List Tok} {extents : List Extent}
      (inner : SpellsText source (suc i) c parts tokens extents) (opening closing front behind : List ℕ)
      → (bytes_eq (bytes_at source i) opening
      && (is_calmly_beside source c
      && (bytes_eq (bytes_at source c) closing
      && text_known source inner false (front ++ opening) (gap_before source c ++ (closing ++ behind))))) ≡ true
      → AreEnclosed inner opening closing front behind
  enclosed_told {i} {c} inner opening closing front behind e =
      let own = bytes_eq (bytes_at source i) opening in
      let last = bytes_eq (bytes_at source c) closing in
      let two = and_right own _ e in
      let three = and_right (is_calmly_beside source c) _ two in record {
        opens = bytes_same (bytes_at source i) opening (and_left own _ e);
        calm = and_left (is_calmly_beside source c) _ two;
        closes = bytes_same (bytes_at source c) closing (and_left last _ three);
        inside = and_right last _ three;
      }

  module _ (to end : ℕ) where
    -- from the token at a place on, up to which this is the text since the last value
    pub record From (at : ℕ) (front : List ℕ) (parts : List Part) (cuts : Texts) (text : List ℕ) : Type 0 where
      pub cut : CutFrom source to end at (extents_of parts) cuts
      pub joined : JoinedFrom source to end at front parts text

    pub token_from : (i at : ℕ) (own front : List ℕ) (parts : List Part) (cuts : Texts) (text : List ℕ)
        → is_calmly_beside source i ≡ true → bytes_at source i ≡ own → is_some own ≡ true → at ≡ i
        → From at ((front ++ gap_before source i) ++ own) parts cuts text
        → From (i - 1) front parts (begun (gap_before source i) (begun own cuts)) (gap_before source i ++ (own ++ text))
    token_from i at own front parts cuts text calm own_is some e more =
        let it = calm_told source i calm in
        let gap = gap_before source i in
        let here : From (suc (i - 1)) ((front ++ gap) ++ own) parts cuts text =
        subst (λ (m : ℕ). From m ((front ++ gap) ++ own) parts cuts text) (e ∙ sym it.place) more in
        let step = subst (Step source (i - 1) gap) own_is (step_told source i it.place it.beside (ap is_some own_is ∙ some)) in record {
          cut = cut_token source to end (i - 1) gap own (extents_of parts) cuts step here.cut;
          joined = joined_token source to end (i - 1) gap own front parts text step here.joined;
        }

    -- brackets around what is told of their text
    old_enclosed : {i c : ℕ} {parts : List Part} {tokens : List Tok} {extents : List Extent}
        (inner : SpellsText source (suc i) c parts tokens extents) (opening closing front behind : List ℕ)
        → is_calmly_beside source i ≡ true → is_some opening ≡ true → is_some closing ≡ true → (more : List Part) (cuts : Texts)
        → AreEnclosed inner opening closing (front ++ gap_before source i) behind
        → (From (c - 1) (text_front source inner ((front ++ gap_before source i) ++ opening)) more
        (begun (gap_before source c) (begun closing cuts)) (gap_before source c ++ (closing ++ behind))
        → From (suc i - 1) ((front ++ gap_before source i) ++ opening) (parts ++ more)
        (special_cut source inner (begun (gap_before source c) (begun closing cuts)))
        (special_text source inner (gap_before source c ++ (closing ++ behind))))
        → From (suc c - 1) ((text_front source inner ((front ++ gap_before source i) ++ opening) ++ gap_before source c) ++ closing)
        more cuts behind
        → From (i - 1) front (parts ++ more)
        (begun (gap_before source i) (begun opening (special_cut source inner (begun (gap_before source c) (begun closing cuts)))))
        (gap_before source i ++ (opening ++ special_text source inner (gap_before source c ++ (closing ++ behind))))
    old_enclosed {i} {c} {parts} inner opening closing front behind calm some_opening some_closing more cuts it inside rest =
        let end_gap = gap_before source c in
        let start = (front ++ gap_before source i) ++ opening in
        token_from i (suc i - 1) opening front (parts ++ more) (special_cut source inner (begun end_gap (begun closing cuts)))
        (special_text source inner (end_gap ++ (closing ++ behind))) calm it.opens some_opening (let z : suc i - 1 ≡ i = omega arith in z)
        (inside
        (token_from c (suc c - 1) closing (text_front source inner start) more cuts behind it.calm it.closes some_closing
        (let z : suc c - 1 ≡ c = omega arith in z) rest))

    mutual
      pub old_item : {i k : ℕ} {parts : List Part} {tokens : List Tok} {extents : List Extent}
          (item : SpellsItem source i k parts tokens extents) (ended parens digits : Bool) (front behind : List ℕ)
          → is_calmly_beside source i ≡ true
          → item_known source item ended parens digits (front ++ gap_before source i) behind ≡ true
          → (more : List Part) (cuts : Texts) → From (k - 1) (item_front source item (front ++ gap_before source i)) more cuts behind
          → From (i - 1) front (parts ++ more) (begun (gap_before source i) (item_cut source item cuts))
          (gap_before source i ++ item_text source item behind)
      old_item (spells.item_token {i = i} old) ended parens digits front behind calm e more cuts rest =
          token_from i (suc i - 1) (bytes_at source i) front more cuts behind calm refl
          (token_some old (is_some (gap_before source i)) ended parens digits (byte behind 0) e)
          (let z : suc i - 1 ≡ i = omega arith in z) rest
      old_item (spells.item_insert {i = i} {c = c} {value = value} opens inner close) ended parens digits front behind calm e more cuts
          rest =
          let it = calm_told source i calm in
          let gap = gap_before source i in
          let here : From c [] more cuts behind =
          subst (λ (m : ℕ). From m [] more cuts behind) (let z : suc c - 1 ≡ c = omega arith in z) rest in
          subst
          (λ (m : ℕ). From (i - 1) front (Inserts m (suc c) value ∷ more) (begun gap (cut_before cuts)) (gap ++ in_insert value behind))
          it.place
          (record {
            cut = cut_insert source to end (i - 1) c gap (extents_of more) cuts it.beside here.cut;
            joined = joined_insert source to end (i - 1) c gap front value more behind it.beside here.joined;
          })
      old_item (spells.item_value {i = i} {k = k} {value = value} inner) ended parens digits front behind calm e more cuts rest =
          let it = calm_told source i calm in
          let gap = gap_before source i in
          let is = alone_ahead inner (and_left (is_alone inner) _ e) in
          let known = and_right (value_fits inner (is_some gap) ended) _ (and_right (is_alone inner) _ e) in
          let loose = and_left (ends_loose (front ++ gap)) _ known in
          let ends = and_right (ends_loose (front ++ gap)) _ known in
          subst
          (λ (m : ℕ). From (i - 1) front (Stands m k value ∷ more) (begun gap (cut_before cuts)) (gap ++ (expr_text value ++ behind)))
          it.place
          (subst
          (λ (m : ℕ). From (i - 1) front (Stands (suc (i - 1)) m value ∷ more) (begun gap (cut_before cuts)) (gap ++ (expr_text value ++ behind)))
          is
          (record {
            cut = cut_insert source to end (i - 1) (k - 1) gap (extents_of more) cuts it.beside rest.cut;
            joined = joined_stands source to end (i - 1) (k - 1) gap front value more behind it.beside loose ends rest.joined;
          }))
      old_item (spells.item_parens {i = i} {c = c} opens inner close) ended parens digits front behind calm e more cuts rest =
          let it = enclosed_told inner (codes "(") (codes ")") (front ++ gap_before source i) behind e in
          old_enclosed inner (codes "(") (codes ")") front behind calm refl refl more cuts it
          (old_text inner false ((front ++ gap_before source i) ++ codes "(") (gap_before source c ++ (codes ")" ++ behind)) it.inside more
          (begun (gap_before source c) (begun (codes ")") cuts))) rest
      old_item (spells.item_brackets {i = i} {c = c} opens inner close) ended parens digits front behind calm e more cuts rest =
          let it = enclosed_told inner (codes "[") (codes "]") (front ++ gap_before source i) behind e in
          old_enclosed inner (codes "[") (codes "]") front behind calm refl refl more cuts it
          (old_text inner false ((front ++ gap_before source i) ++ codes "[") (gap_before source c ++ (codes "]" ++ behind)) it.inside more
          (begun (gap_before source c) (begun (codes "]") cuts))) rest

      pub old_text : {i j : ℕ} {parts : List Part} {tokens : List Tok} {extents : List Extent}
          (text : SpellsText source i j parts tokens extents) (ended : Bool) (front behind : List ℕ)
          → text_known source text ended front behind ≡ true
          → (more : List Part) (cuts : Texts) → From (j - 1) (text_front source text front) more cuts behind
          → From (i - 1) front (parts ++ more) (special_cut source text cuts) (special_text source text behind)
      old_text spells.text_end ended front behind e more cuts rest = rest
      old_text (spells.text_more {i = i} {parts = parts} {more = others} item text) ended front behind e more cuts rest =
          let gap = gap_before source i in
          let next = special_text source text behind in
          let told = text_told item text ended front behind e in
          subst
          (λ (list : List Part). From (i - 1) front list (begun gap (item_cut source item (special_cut source text cuts)))
          (gap ++ item_text source item next))
          (sym (append_assoc parts others more))
          (old_item item ended (begins_parens text) (begins_digits text) front next told.calm told.one (others ++ more)
          (special_cut source text cuts)
          (old_text text (ends_value item) (item_front source item (front ++ gap)) behind told.rest more cuts rest))

    -- ---- from the name on

    -- the texts around the values of a whole function, and what is written of it
    pub record Whole (i : ℕ) (parts : List Part) (cuts : Texts) (text : List ℕ) : Type 0 where
      pub cut : around_texts source (record { from = from_at source i; to = to; first = i; end = end }) (extents_of parts) ≡ lones cuts
      pub joined : IsJoined (pieces_from source (record { from = from_at source i; to = to; first = i; end = end }) parts) text

    pub old_whole : (i : ℕ) (parts : List Part) (cuts : Texts) (text : List ℕ) → is_some (bytes_at source i) ≡ true
        → From i (bytes_at source i) parts cuts text → Whole i parts (begun (bytes_at source i) cuts) (bytes_at source i ++ text)
    old_whole i parts cuts text some more =
        let low = lies source i some in record {
          cut = first_token source to end i (extents_of parts) cuts low more.cut;
          joined = joined_first source to end i (bytes_at source i) parts text low refl more.joined;
        }
