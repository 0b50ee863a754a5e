-- Raw text that was read, item by item: the texts around its values, and what is written of it.
use Rattle.std.proofs.Common.{◌≡◌, ◌⊎◌, inl, inr, ◌||◌, ◌≤◌, ◌<◌, ℕ, suc, ◌-◌, Bool, true, false, not, ◌&&◌, if◌then◌else◌, Option, Some, None, List, [], ◌∷◌, ◌++◌, length, refl, sym, ◌∙◌, ap, subst, arith, append_assoc}
use Rattle.std.specs.Prelude.{bytes_eq, slice_range}
use Rattle.std.specs.List.{list_all}
use Rattle.std.proofs.lemmas.Slice.Eq.{bytes_eq-Decides}
use Rattle.sw_text_scan.specs.Bytes.{byte, is_white, is_quote}
use Rattle.sw_text_scan.proofs.Bounds.{if_true, if_false, and_left, and_right}
use Rattle.sw_tree.specs.declared.expr.Expr.{Expr}
use Rattle.sw_tokens.specs.declared.pieces.Before.{Before}
use Rattle.sw_tokens.specs.declared.pieces.Before.TheVariants as befores
use Rattle.sw_parse_terminals.specs.declared.terminal.Terminal.{Terminal}
use Rattle.sw_parse_terminals.specs.declared.terminal.Terminal.TheVariants as terminals
use Rattle.sw_parse_terminals.specs.Numbers.{just}
use Rattle.sw_parse_lexemes.specs.declared.sort.Sort.{Sort}
use Rattle.sw_parse_lexemes.specs.declared.sort.Sort.TheVariants as sorts
use Rattle.sw_parse_lexemes.specs.declared.state.Mode.{Mode}
use Rattle.sw_parse_table.specs.declared.source.Source.{Source}
use Rattle.sw_parse_table.specs.Parts.{Part, Inserts}
use Rattle.sw_parse_table.specs.Sources.{Texts, begun, bytes, from_at, to_at, bytes_at, is_commented, gap_at, pieces_from}
use Rattle.sw_convert_spelling.specs.Spelt.{behind_gap}
use Rattle.sw_convert_again.specs.Tokens.{Old, Tok, Extent, extent}
use Rattle.sw_convert_again.specs.Spells.{extents_of}
use Rattle.sw_convert_again.specs.RawTexts.{Brackets, parens, squares, braces, SpellsRawItem, SpellsRawText, raw_token, raw_insert, raw_brackets, raw_end, raw_more}
use Rattle.sw_convert_texts.specs.RawKinds.{closing_text, gap_before, is_beside, is_bracketed, is_some, item_known, item_text, leaves, opening_text, row_known, row_text, sort_there, token_stays, stands_behind, is_opening, is_next, opens_string, token_known, string_behind}
use Rattle.sw_convert_tokens.specs.Values.{WasRead}
use Rattle.sw_convert_texts.proofs.RawGaps.{Last, There, last_old, item_there, item_last, row_last, apart_so, white_so}
use Rattle.sw_convert_texts.proofs.JoinedTexts.{slice_some}
use Rattle.sw_convert_texts.proofs.AroundTexts.{lones, cut_before, around_texts, CutFrom, Step, Beside, cut_token, cut_insert, first_token, first_insert}
use Rattle.sw_convert_texts.proofs.CommentedTexts.{first_of, begins_insert, Parted, cut_parted, seamed_parted}
use Rattle.sw_convert_texts.proofs.SeamedTexts.{in_insert, IsSeamed, SeamedFrom, seamed_token, seamed_value, seamed_first, value_first}

-- ---- the texts around its values

abbrev mutual
  pub item_cut : (source : Source) {i k : ℕ} {parts : List Part} {tokens : List Tok} {extents : List Extent}
      → SpellsRawItem source i k parts tokens extents → Texts → Texts
  item_cut source (raw_token {i = i} old) cuts = begun (bytes_at source i) cuts
  item_cut source (raw_insert opens inner close) cuts = cut_before cuts
  item_cut source (raw_brackets {i = i} {c = c} kind opens text close) cuts =
      begun (bytes_at source i) (row_cut source text (begun (gap_before source c) (begun (bytes_at source c) cuts)))

  pub row_cut : (source : Source) {i j : ℕ} {parts : List Part} {tokens : List Tok} {extents : List Extent}
      → SpellsRawText source i j parts tokens extents → Texts → Texts
  row_cut source raw_end cuts = cuts
  row_cut source (raw_more {i = i} item text) cuts = begun (gap_before source i) (item_cut source item (row_cut source text cuts))

-- ---- what is told of tokens

equal : (xs ys : List ℕ) → bytes_eq xs ys ≡ true → xs ≡ ys
equal xs ys e = (bytes_eq-Decides xs ys).0 e

some_bytes : (text : List ℕ) → is_some text ≡ true → 0 < length text
some_bytes [] e = absurd (cc)
some_bytes (b ∷ text) e = omega arith

pub opening_some : {opening closing : Terminal} (kind : Brackets opening closing) → is_some (opening_text kind) ≡ true
opening_some parens = refl
opening_some squares = refl
opening_some braces = refl

pub closing_some : {opening closing : Terminal} (kind : Brackets opening closing) → is_some (closing_text kind) ≡ true
closing_some parens = refl
closing_some squares = refl
closing_some braces = refl

-- what stands beside the token before: white space, or a comment beside some
pub record IsBeside (source : Source) (i : ℕ) : Type 0 where
  pub place : suc (i - 1) ≡ i
  pub stands : Beside source (i - 1) (gap_before source i) ⊎ Parted source (i - 1) (gap_before source i)
  pub white : list_all is_white (gap_before source i) ≡ true

pub beside_told : (source : Source) → WasRead source → (i : ℕ) → Last source i → There source i → is_beside source i ≡ true
    → IsBeside source i
beside_told source was i last next e = record {
  place = last.place;
  stands = go (is_commented source i) refl;
  white = white_so source was i last next;
}
  where
    second : (a b : Bool) → a ≡ true → (not a || b) ≡ true → b ≡ true
    second true b f g = g
    second false b f g = absurd (let wrong : false ≡ true = f in cc)

    go : (t : Bool) → is_commented source i ≡ t
        → Beside source (i - 1) (gap_before source i) ⊎ Parted source (i - 1) (gap_before source i)
    go false c = inl (record {
      calm = ap (is_commented source) last.place ∙ c;
      gap_is = ap (λ (m : ℕ). slice_range (bytes source) (to_at source (i - 1)) (from_at source m)) last.place
          ∙ sym (if_false (is_commented source i) (gap_at source i) _ c);
      low = subst (λ (m : ℕ). to_at source (i - 1) ≤ from_at source m) (sym last.place) (apart_so source was i last next c).order;
    })
    go true c = inr (record {
      commented = ap (is_commented source) last.place ∙ c;
      gap_is = ap (gap_at source) last.place ∙ sym (if_true (is_commented source i) (gap_at source i) _ c);
      some = second (is_commented source i) (is_some (gap_before source i)) c e;
    })

-- it ends behind its begin
pub lies : (source : Source) (i : ℕ) → is_some (bytes_at source i) ≡ true → from_at source i ≤ to_at source i
lies source i some =
    let lt = slice_some (bytes source) (from_at source i) (to_at source i) (some_bytes (bytes_at source i) some) in
    omega (arith, lt)

-- a token with text of its own
pub step_told : (source : Source) (i : ℕ) → suc (i - 1) ≡ i → Beside source (i - 1) (gap_before source i)
    → is_some (bytes_at source i) ≡ true → Step source (i - 1) (gap_before source i) (bytes_at source i)
step_told source i place beside some =
    let high = lies source i some in record {
      calm = beside.calm;
      gap_is = beside.gap_is;
      text_is = ap (bytes_at source) place;
      low = beside.low;
      high = subst (λ (m : ℕ). from_at source m ≤ to_at source m) (sym place) high;
    }

some_as : (text other : List ℕ) → bytes_eq text other ≡ true → is_some other ≡ true → is_some text ≡ true
some_as text other e some = ap is_some (equal text other e) ∙ some

module _ (source : Source) (mode : Mode) where
  -- what is told of brackets
  pub record AreBrackets {opening closing : Terminal} (i c : ℕ) (kind : Brackets opening closing) : Type 0 where
    pub bracketed : is_bracketed mode kind ≡ true
    pub opening_is : bytes_at source i ≡ opening_text kind
    pub closing_is : bytes_at source c ≡ closing_text kind
    pub opening_some : is_some (bytes_at source i) ≡ true
    pub closing_some : is_some (bytes_at source c) ≡ true

  pub brackets_told : {opening closing : Terminal} (i c : ℕ) (kind : Brackets opening closing)
      → (is_bracketed mode kind
      && (bytes_eq (bytes_at source i) (opening_text kind) && bytes_eq (bytes_at source c) (closing_text kind))) ≡ true
      → AreBrackets i c kind
  brackets_told i c kind e =
      let rest = and_right (is_bracketed mode kind) _ e in
      let opens = and_left (bytes_eq (bytes_at source i) (opening_text kind)) _ rest in
      let closes = and_right (bytes_eq (bytes_at source i) (opening_text kind)) _ rest in record {
        bracketed = and_left (is_bracketed mode kind) _ e;
        opening_is = equal (bytes_at source i) (opening_text kind) opens;
        closing_is = equal (bytes_at source c) (closing_text kind) closes;
        opening_some = some_as (bytes_at source i) (opening_text kind) opens (opening_some kind);
        closing_some = some_as (bytes_at source c) (closing_text kind) closes (closing_some kind);
      }

  -- ---- item by item

  -- in a string and outside
  known_some : (quotes : Option ℕ) (sort : Sort) (before : Before) (text behind : List ℕ)
      → token_known quotes sort before text behind ≡ true → is_some text ≡ true
  known_some None sort before text behind e = go (is_opening sort) e
    where
      go : (t : Bool)
          → (if t then opens_string text behind else (token_stays sort text behind && stands_behind before sort text)) ≡ true
          → is_some text ≡ true
      go true f = some_as text (byte text 0 ∷ []) (and_left (bytes_eq text (byte text 0 ∷ [])) _ f) refl
      go false f = and_left (is_some text) _ (and_left (token_stays sort text behind) _ f)
  known_some (Some q) sorts.Text before text behind e = and_left (is_some text) _ (and_right (is_quote q) _ e)
  known_some (Some q) sorts.TemplateEnd before text behind e = some_as text (q ∷ []) (and_right (is_quote q) _ e) refl
  known_some (Some q) sort before text behind e = absurd (let wrong : false ≡ true = and_right (is_quote q) false e in cc)

  some_token : {i : ℕ} (old : Old source i (just terminals.Raw)) (quotes : Option ℕ) (before : Before) (behind : List ℕ)
      → item_known source mode (raw_token old) quotes before behind ≡ true → is_some (bytes_at source i) ≡ true
  some_token {i} old quotes before behind e = known_some quotes (sort_there old) before (bytes_at source i) behind e

  module _ (to end : ℕ) where
    -- from the token at a place on
    pub record From (at : ℕ) (parts : List Part) (cuts : Texts) (text : List ℕ) : Type 0 where
      pub cut : CutFrom source to end at (extents_of parts) cuts
      pub seamed : SeamedFrom source to end at parts text
      pub ahead : at ≤ first_of end (extents_of parts)
      pub inserts : begins_insert parts ≡ true

    token_from : (i at : ℕ) (parts : List Part) (cuts : Texts) (text : List ℕ) → IsBeside source i
        → is_some (bytes_at source i) ≡ true → at ≡ i → From at parts cuts text
        → From (i - 1) parts (begun (gap_before source i) (begun (bytes_at source i) cuts))
        (gap_before source i ++ (bytes_at source i ++ text))
    token_from i at parts cuts text it some e more = go it.stands
      where
        gap : List ℕ
        gap = gap_before source i

        own : List ℕ
        own = bytes_at source i

        here : From (suc (i - 1)) parts cuts text
        here = subst (λ (m : ℕ). From m parts cuts text) (e ∙ sym it.place) more

        before : i - 1 ≤ first_of end (extents_of parts)
        before = let far = more.ahead in omega (arith, e, far)

        go : Beside source (i - 1) (gap_before source i) ⊎ Parted source (i - 1) (gap_before source i)
            → From (i - 1) parts (begun (gap_before source i) (begun (bytes_at source i) cuts))
            (gap_before source i ++ (bytes_at source i ++ text))
        go (inl beside) =
            let step = step_told source i it.place beside some in record {
              cut = cut_token source to end (i - 1) gap own (extents_of parts) cuts step here.cut;
              seamed = seamed_token source to end (i - 1) gap own parts text step here.seamed;
              ahead = before;
              inserts = more.inserts;
            }
        go (inr parted) =
            let high : from_at source (suc (i - 1)) ≤ to_at source (suc (i - 1)) =
            subst (λ (m : ℕ). from_at source m ≤ to_at source m) (sym it.place) (lies source i some) in
            let there = first_token source to end (suc (i - 1)) (extents_of parts) cuts high here.cut
            ∙ ap (λ (m : ℕ). lones (begun (bytes_at source m) cuts)) it.place in record {
              cut = cut_parted source (i - 1) gap parted to end (extents_of parts) (begun own cuts) here.ahead there;
              seamed = seamed_parted source (i - 1) gap parted to end parts (begun own cuts) (own ++ text) here.inserts here.ahead there
                  (subst (λ (m : ℕ). IsSeamed (pieces_from source (record { from = from_at source (suc (i - 1)); to = to; first = suc (i - 1); end = end }) parts)
                  (bytes_at source m ++ text)) it.place
                  (seamed_first source to end (suc (i - 1)) parts text high here.seamed));
              ahead = before;
              inserts = more.inserts;
            }

    -- a value behind what stands there
    value_from : (i c : ℕ) (value : Expr) (parts : List Part) (cuts : Texts) (text : List ℕ) → IsBeside source i
        → From c parts cuts text
        → From (i - 1) (Inserts i (suc c) value ∷ parts) (begun (gap_before source i) (cut_before cuts))
        (gap_before source i ++ in_insert value text)
    value_from i c value parts cuts text it here =
        subst (λ (m : ℕ). From (i - 1) (Inserts m (suc c) value ∷ parts) (begun gap (cut_before cuts)) (gap ++ in_insert value text))
        it.place (go it.stands)
      where
        gap : List ℕ
        gap = gap_before source i

        go : Beside source (i - 1) (gap_before source i) ⊎ Parted source (i - 1) (gap_before source i)
            → From (i - 1) (Inserts (suc (i - 1)) (suc c) value ∷ parts) (begun (gap_before source i) (cut_before cuts))
            (gap_before source i ++ in_insert value text)
        go (inl beside) = record {
          cut = cut_insert source to end (i - 1) c gap (extents_of parts) cuts beside here.cut;
          seamed = seamed_value source to end (i - 1) c gap value parts text beside here.seamed;
          ahead = omega arith;
          inserts = refl;
        }
        go (inr parted) =
            let there = first_insert source to end (suc (i - 1)) c (extents_of parts) cuts here.cut in record {
              cut = cut_parted source (i - 1) gap parted to end (extent (suc (i - 1)) (suc c) ∷ extents_of parts) (cut_before cuts) (omega arith) there;
              seamed = seamed_parted source (i - 1) gap parted to end (Inserts (suc (i - 1)) (suc c) value ∷ parts) (cut_before cuts)
                  (in_insert value text) refl (omega arith) there
                  (value_first source to end (suc (i - 1)) c value parts text here.seamed);
              ahead = omega arith;
              inserts = refl;
            }

    mutual
      pub old_item : {i k : ℕ} {parts : List Part} {tokens : List Tok} {extents : List Extent}
          (item : SpellsRawItem source i k parts tokens extents) → WasRead source → Last source i → (quotes : Option ℕ) (before : Before)
          (behind : List ℕ) → is_beside source i ≡ true
          → item_known source mode item quotes before behind ≡ true → (more : List Part) (cuts : Texts) → From (k - 1) more cuts behind
          → From (i - 1) (parts ++ more) (begun (gap_before source i) (item_cut source item cuts))
          (gap_before source i ++ item_text source item behind)
      old_item (raw_token {i = i} old) was last quotes before behind b e more cuts rest =
          token_from i (suc i - 1) more cuts behind (beside_told source was i last (item_there (raw_token old)) b) (some_token old quotes before behind e)
          (let z : suc i - 1 ≡ i = omega arith in z) rest
      old_item (raw_insert {i = i} {c = c} {value = value} opens inner close) was last quotes before behind b e more cuts rest =
          value_from i c value more cuts behind
          (beside_told source was i last (record { lexeme = opens.lexeme; there = opens.there }) b)
          (subst (λ (m : ℕ). From m more cuts behind) (let z : suc c - 1 ≡ c = omega arith in z) rest)
      old_item (raw_brackets kind opens text close) was last (Some q) before behind b e more cuts rest =
          absurd (let wrong : false ≡ true = e in cc)
      old_item (raw_brackets {i = i} {c = c} {parts = parts} kind opens text close) was last None before behind b e more cuts rest =
          let it = brackets_told i c kind (and_left (is_bracketed mode kind && _) _ e) in
          let inner = and_right (is_bracketed mode kind && _) _ e in
          let known = and_right (is_beside source c) _ inner in
          let there : There source c = record { lexeme = close.lexeme; there = close.there } in
          let closed = token_from c (suc c - 1) more cuts behind
          (beside_told source was c (row_last text (last_old opens)) there (and_left (is_beside source c) _ inner))
          it.closing_some (let z : suc c - 1 ≡ c = omega arith in z) rest in
          token_from i (suc i - 1) (parts ++ more)
          (row_cut source text (begun (gap_before source c) (begun (bytes_at source c) cuts)))
          (row_text source text (gap_before source c ++ (bytes_at source c ++ behind)))
          (beside_told source was i last (record { lexeme = opens.lexeme; there = opens.there }) b) it.opening_some (let z : suc i - 1 ≡ i = omega arith in z)
          (old_row text was (last_old opens) None befores.Other (gap_before source c ++ (bytes_at source c ++ behind)) known more
          (begun (gap_before source c) (begun (bytes_at source c) cuts)) closed)

      pub old_row : {i j : ℕ} {parts : List Part} {tokens : List Tok} {extents : List Extent}
          (row : SpellsRawText source i j parts tokens extents) → WasRead source → Last source i → (quotes : Option ℕ) (start : Before)
          (behind : List ℕ)
          → row_known source mode row quotes start behind ≡ true
          → (more : List Part) (cuts : Texts) → From (j - 1) more cuts behind
          → From (i - 1) (parts ++ more) (row_cut source row cuts) (row_text source row behind)
      old_row raw_end was last quotes start behind e more cuts rest = rest
      old_row (raw_more {i = i} {parts = parts} {more = others} item text) was last quotes start behind e more cuts rest =
          let known = and_right (is_next source quotes i) _ e in
          subst (λ (list : List Part). From (i - 1) list (begun (gap_before source i) (item_cut source item (row_cut source text cuts)))
          (gap_before source i ++ item_text source item (row_text source text behind)))
          (sym (append_assoc parts others more))
          (old_item item was last quotes (behind_gap start (gap_before source i)) (row_text source text behind)
          (and_left (is_beside source i) _ (and_left (is_next source quotes i) _ e))
          (and_left (item_known source mode item quotes (behind_gap start (gap_before source i)) (row_text source text behind)) _ known)
          (others ++ more) (row_cut source text cuts)
          (old_row text was (item_last item) (string_behind item quotes) (leaves item) behind
          (and_right (item_known source mode item quotes (behind_gap start (gap_before source i)) (row_text source text behind)) _ known)
          more cuts rest))

    -- ---- from the first token on

    -- the texts around the values of a whole text, and what is written of it
    pub record Whole (i : ℕ) (parts : List Part) (cuts : Texts) (text : List ℕ) : Type 0 where
      pub cut : around_texts source (record { from = from_at source i; to = to; first = i; end = end }) (extents_of parts) ≡ lones cuts
      pub seamed : IsSeamed (pieces_from source (record { from = from_at source i; to = to; first = i; end = end }) parts) text

    token_whole : (i at : ℕ) (parts : List Part) (cuts : Texts) (text : List ℕ) → is_some (bytes_at source i) ≡ true
        → at ≡ i → From at parts cuts text → Whole i parts (begun (bytes_at source i) cuts) (bytes_at source i ++ text)
    token_whole i at parts cuts text some e more =
        let low = lies source i some in
        let here : From i parts cuts text = subst (λ (m : ℕ). From m parts cuts text) e more in record {
          cut = first_token source to end i (extents_of parts) cuts low here.cut;
          seamed = seamed_first source to end i parts text low here.seamed;
        }

    pub old_whole : {i k : ℕ} {parts : List Part} {tokens : List Tok} {extents : List Extent}
        (item : SpellsRawItem source i k parts tokens extents) → WasRead source → (quotes : Option ℕ) (before : Before) (behind : List ℕ)
        → item_known source mode item quotes before behind ≡ true
        → (more : List Part) (cuts : Texts) → From (k - 1) more cuts behind
        → Whole i (parts ++ more) (item_cut source item cuts) (item_text source item behind)
    old_whole (raw_token {i = i} old) was quotes before behind e more cuts rest =
        token_whole i (suc i - 1) more cuts behind (some_token old quotes before behind e)
        (let z : suc i - 1 ≡ i = omega arith in z) rest
    old_whole (raw_insert {i = i} {c = c} {value = value} opens inner close) was quotes before behind e more cuts rest =
        let here : From c more cuts behind =
        subst (λ (m : ℕ). From m more cuts behind) (let z : suc c - 1 ≡ c = omega arith in z) rest in record {
          cut = first_insert source to end i c (extents_of more) cuts here.cut;
          seamed = value_first source to end i c value more behind here.seamed;
        }
    old_whole (raw_brackets kind opens text close) was (Some q) before behind e more cuts rest =
        absurd (let wrong : false ≡ true = e in cc)
    old_whole (raw_brackets {i = i} {c = c} {parts = parts} kind opens text close) was None before behind e more cuts rest =
        let it = brackets_told i c kind (and_left (is_bracketed mode kind && _) _ e) in
        let inner = and_right (is_bracketed mode kind && _) _ e in
        let known = and_right (is_beside source c) _ inner in
        let there : There source c = record { lexeme = close.lexeme; there = close.there } in
        let closed = token_from c (suc c - 1) more cuts behind
        (beside_told source was c (row_last text (last_old opens)) there (and_left (is_beside source c) _ inner))
        it.closing_some (let z : suc c - 1 ≡ c = omega arith in z) rest in
        token_whole i (suc i - 1) (parts ++ more)
        (row_cut source text (begun (gap_before source c) (begun (bytes_at source c) cuts)))
        (row_text source text (gap_before source c ++ (bytes_at source c ++ behind)))
        it.opening_some (let z : suc i - 1 ≡ i = omega arith in z)
        (old_row text was (last_old opens) None befores.Other (gap_before source c ++ (bytes_at source c ++ behind)) known more
        (begun (gap_before source c) (begun (bytes_at source c) cuts)) closed)
