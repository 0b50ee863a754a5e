-- Raw text without comments that was read is written as its tokens.
use Rattle.std.proofs.Common.{◌≡◌, ◌⊎◌, ◌<◌, ℕ, suc, ◌+◌, ◌-◌, Bool, true, false, inl, inr, List, [], ◌∷◌, ◌++◌, map, length, refl, sym, ◌∙◌, ap, subst, arith, append-nil, length-append, ◌&&◌, None}
use Rattle.std.specs.Prelude.{◌==◌, ◌||◌, codes}
use Rattle.std.specs.List.{list_all}
use Rattle.sw_convert_spelling.specs.Spelt.{behind_gap}
use Rattle.sw_convert_written.specs.Rules.{has_more, is_cut, rule_pieces}
use Rattle.sw_convert_passing.specs.Written.{Written}
use Rattle.sw_text_scan.specs.Bytes.{sign, byte, is_white}
use Rattle.sw_text_scan.proofs.Bounds.{and_left, and_right, if_false, not_true}
use Rattle.sw_tokens.specs.declared.pieces.Before.{Before}
use Rattle.sw_tokens.specs.declared.pieces.Before.TheVariants as befores
use Rattle.sw_parse_lexemes.specs.declared.state.Mode.{Mode}
use Rattle.sw_parse_table.specs.declared.source.Source.{Source}
use Rattle.sw_parse_table.specs.Parts.{Part}
use Rattle.sw_parse_table.specs.declared.gap.Stretch.{Stretch}
use Rattle.sw_parse_table.specs.Sources.{Texts, to_at, text_pieces, texts, plain_parts, stretch_between, pieces_from, text_between, behind as behind_value, parts_between}
use Rattle.sw_convert_spelling.proofs.MovedRuns.{first_byte}
use Rattle.sw_convert_written.specs.declared.manner.Manner.TheVariants as manners
use Rattle.sw_convert_written.specs.Escapes.{ends_unclosed, ends_open, break_by}
use Rattle.sw_convert_written.specs.Heads.{unescaping, seamed_text}
use Rattle.sw_convert_written.specs.Pieces.{pieces_text, Written as Piece}
use Rattle.sw_convert_written.specs.Expressions.{parts_written}
use Rattle.sw_convert_written.proofs.Unrolled as unrolled
use Rattle.sw_convert_heads_passing.specs.RawTexts.{RawText, Outside, Around}
use Rattle.sw_convert_heads_passing.specs.RawTexts as told
use Rattle.sw_convert_again.specs.Tokens.{Said, Says, Extent, shifted, Tok, saying}
use Rattle.sw_convert_again.specs.Spells.{extents_of, text_said}
use Rattle.sw_convert_again.specs.RawTexts.{SpellsRawItem, SpellsRawText, raw_token, raw_insert, raw_brackets, raw_end, raw_more, raw_tokens}
use Rattle.sw_convert_tokens.specs.Joints.{Joint, text, toks, writtens, behind, Sit}
use Rattle.sw_convert_tokens.specs.Values.{WasRead}
use Rattle.sw_convert_tokens.specs.Written.{gap_of, is_calm}
use Rattle.sw_convert_tokens.proofs.Joins.{text_behind, toks_append, behind_append, sit_left}
use Rattle.sw_convert_texts.specs.Inserted.{RawItemHasValues, RawTextHasValues}
use Rattle.sw_convert_texts.specs.RawKinds.{is_uncut, SelectorsAreWritten, string_behind, leaves, item_text, row_text, item_known, row_known, raw_stays, RawTextsAreWritten}
use Rattle.sw_convert_texts.specs.RawTexts.{ends_statement, EndsText, IsText, RawWritten, SheetSegment}
use Rattle.sw_convert_texts.proofs.JoinedTexts.{lone}
use Rattle.sw_convert_texts.proofs.AroundTexts.{lones, around_texts, around_is, CutFrom, cut_end}
use Rattle.sw_convert_texts.proofs.SeamedTexts.{seamed, seamed_last, seamed_end}
use Rattle.sw_convert_texts.proofs.RawGaps.{item_last}
use Rattle.sw_convert_texts.proofs.RawOlds.{item_cut, row_cut, From, Whole, old_row, old_whole}
use Rattle.sw_convert_texts.proofs.RawSits.{shifted_append, shifted_twice, ends_apart, sit_right}
use Rattle.sw_convert_texts.proofs.RawTokens.{is_end}
use Rattle.sw_convert_texts.proofs.RawRows.{row_leaves, Begun, EndThere, FirstSays, Placed, ItemIs, RowIs}
use Rattle.sw_convert_texts.proofs.RawJoined.{row_raw, item_is, row_is}

-- a text at whose end no `\` stands by itself has no line break behind it
pub unescaped : (own : List ℕ) → ends_open own ≡ false → unescaping own ≡ own
unescaped own closed = ap (λ (open_there : Bool). own ++ break_by open_there) closed ∙ append-nil own

-- ---- what was read

module _ (source : Source) (mode : Mode) (i j : ℕ) (parts : List Part) (cuts : Texts) (own : List ℕ)
    (it : Whole source mode (to_at source (j - 1)) (j - 1) i parts cuts own) where
  head_is : (x : Texts) (ys : List Texts) → x ∷ [] ≡ lone cuts.first ∷ ys → x ≡ lone cuts.first
  head_is x ys e = ap first e
    where
      first : List Texts → Texts
      first [] = x
      first (y ∷ ys) = y

  -- what is written of it
  pub written_is : seamed_text (text_between source i j parts) ≡ own
  written_is = go parts it
    where
      go : (list : List Part) → Whole source mode (to_at source (j - 1)) (j - 1) i list cuts own
          → seamed_text (text_between source i j list) ≡ own
      go [] it =
          let same = head_is (texts source (stretch_between source i j)) (map lone cuts.rest) it.cut in
          ap (λ (t : Texts). pieces_text manners.Seamed (parts_written (plain_parts t))) same
          ∙ ap (pieces_text manners.Seamed) (unrolled.plain_is cuts.first)
          ∙ sym (seamed_last cuts.first)
          ∙ ap (λ (t : Texts). seamed (text_pieces t)) (sym same) ∙ it.seamed.is
      go (part ∷ list) it =
          ap (pieces_text manners.Seamed) (unrolled.mixed_is (pieces_from source (stretch_between source i j) (part ∷ list)))
          ∙ it.seamed.is

-- ---- what the first token says

-- a text that is cut as the one that was read
pub said_so : (source new : Source) (i j at count : ℕ) (parts : List Part) (extents : List Extent) (cuts : Texts)
    → around_texts source (stretch_between source i j) (extents_of parts) ≡ lones cuts
    → around_texts new (stretch_between new at (at + count)) (shifted at extents) ≡ lones cuts
    → Says new at (text_said source i j parts extents count)
said_so source new i j at count parts (one ∷ extents) cuts old e =
    around_is new (stretch_between new at (at + count)) (shifted at (one ∷ extents))
    ∙ ap (map text_pieces) (e ∙ sym old)
    ∙ sym (around_is source (stretch_between source i j) (extents_of parts))
said_so source new i j at count parts [] cuts old e = go (extents_of parts) (old ∙ sym e)
  where
    one_of : (x y : Texts) → x ∷ [] ≡ y ∷ [] → x ≡ y
    one_of x y e = ap first e
      where
        first : List Texts → Texts
        first [] = x
        first (z ∷ zs) = z

    long : (list : List Extent) (stretch : Stretch) → length (around_texts source stretch list) ≡ suc (length list)
    long [] stretch = refl
    long (x ∷ list) stretch = ap suc (long list (behind_value source stretch x.behind))

    go : (list : List Extent)
        → around_texts source (stretch_between source i j) list ≡ texts new (stretch_between new at (at + count)) ∷ []
        → plain_parts (texts new (stretch_between new at (at + count))) ≡ plain_parts (texts source (stretch_between source i j))
    go [] e = sym (ap plain_parts (one_of (texts source (stretch_between source i j)) (texts new (stretch_between new at (at + count))) e))
    go (x ∷ list) e =
        let all = long (x ∷ list) (stretch_between source i j) in
        let one = ap length e in absurd (omega (arith, all, one))

some_tokens : {source : Source} {i k : ℕ} {parts : List Part} {tokens : List Tok} {extents : List Extent}
    → SpellsRawItem source i k parts tokens extents → 0 < length tokens
some_tokens (raw_token old) = omega arith
some_tokens (raw_insert opens inner close) = omega arith
some_tokens (raw_brackets kind opens text close) = omega arith

-- the first token of all is that of the first item
first_saying : {source : Source} {i k : ℕ} {parts : List Part} {tokens : List Tok} {extents : List Extent}
    → SpellsRawItem source i k parts tokens extents → (said : Said) (others : List Tok)
    → saying said tokens ++ others ≡ saying said (tokens ++ others)
first_saying (raw_token old) said others = refl
first_saying (raw_insert opens inner close) said others = refl
first_saying (raw_brackets kind opens text close) said others = refl

-- where the tokens of a text stand in another, its texts are cut there as they were
cut_there : (new : Source) (xs ys : List Joint) (n others : ℕ) (extents further : List Extent) (cut then : Texts → Texts)
    → 0 < n → length (toks xs) ≡ n → ((b : Bool) → ends_apart b xs ≡ false) → EndThere xs n → Begun xs n extents cut
    → Placed ys others further then → (commented : Bool) (at : ℕ) (front after : List ℕ) → Sit new commented at front (xs ++ ys) after
    → around_texts new (stretch_between new at (at + (n + others))) (shifted at (extents ++ shifted n further))
    ≡ lones (cut (then (lone [])))
cut_there new xs ys n others extents further cut then some counted ended ends one more commented at front after sit =
    let left = sit_left new commented at front xs ys after sit in
    let right = sit_right new commented at front xs ys after sit in
    let k = (at + n) - 1 in
    let end = (at + (n + others)) - 1 in
    let to = to_at new ((at + (n + others)) - 1) in
    let here : suc ((at + n) - 1) ≡ at + n = omega (arith, some) in
    let sits : Sit new false (suc ((at + n) - 1)) (front ++ text xs) ys after =
    subst (λ (m : ℕ). Sit new false m (front ++ text xs) ys after)
    (let z : at + length (toks xs) ≡ suc ((at + n) - 1) = omega (arith, counted, some) in z)
    (subst (λ (b : Bool). Sit new b (at + length (toks xs)) (front ++ text xs) ys after) (ended commented) right) in
    let rows = more new k (front ++ text xs) after to end [] (lone []) (ends new commented at front (text ys ++ after) left) sits
    (subst (λ (m : ℕ). CutFrom new to end m [] (lone []))
    (let z : (at + (n + others)) - 1 ≡ ((at + n) - 1) + others = omega (arith, some) in z)
    (cut_end new to end end refl refl)) in
    ap (around_texts new (stretch_between new at (at + (n + others))))
    (shifted_append at extents (shifted n further)
    ∙ ap (λ (t : List Extent). shifted at extents ++ t)
    (shifted_twice at n (suc ((at + n) - 1)) further (sym here) ∙ sym (append-nil (shifted (suc ((at + n) - 1)) further))))
    ∙ one new commented at front (text ys ++ after) to end (shifted (suc ((at + n) - 1)) further ++ []) (then (lone [])) left rows

-- ---- at the end of a statement

ends_first : (own after : List ℕ) → EndsText own after → is_end (byte after 0) ≡ true
ends_first own after f = go f.ends
  where
    more : (a b c : Bool) → (a || b) ≡ true → (a || (b || c)) ≡ true
    more true b c e = refl
    more false true c e = refl
    more false false c e = absurd (cc)

    stop : (t : List ℕ) → ends_statement t ≡ true → is_end (byte t 0) ≡ true
    stop [] e = absurd (cc)
    stop (b ∷ rest) e = ap is_end (first_byte b rest) ∙ more (b == sign ";") (b == sign " ") (b == sign "/") e

    go : (ends_statement after ≡ true) ⊎ ((ends_unclosed own ≡ true) × (rest : List ℕ) × (after ≡ codes "/**/" ++ rest))
        → is_end (byte after 0) ≡ true
    go (inl e) = stop after e
    go (inr (u, rest, e)) =
        ap (λ (t : List ℕ). is_end (byte t 0)) e ∙ ap is_end (first_byte (sign "/") (codes "**/" ++ rest))

-- ---- a whole text

-- what is told of an item behind a sign is told of it behind white space
calm_item : (mode : Mode) {source : Source} {i k : ℕ} {parts : List Part} {tokens : List Tok} {extents : List Extent}
    (item : SpellsRawItem source i k parts tokens extents) (b : Before) → is_calm b ≡ true → (behind_text : List ℕ)
    → item_known source mode item None befores.Other behind_text ≡ true → item_known source mode item None b behind_text ≡ true
calm_item mode item befores.Other calm behind_text e = e
calm_item mode (raw_token old) befores.White calm behind_text e = e
calm_item mode (raw_insert opens inner close) befores.White calm behind_text e = e
calm_item mode (raw_brackets kind opens inner close) befores.White calm behind_text e = e
calm_item mode item befores.Hash calm behind_text e = absurd (cc)
calm_item mode item befores.Dollar calm behind_text e = absurd (cc)

module _ (source : Source) (was : WasRead source) (mode : Mode) {i k j : ℕ} {parts more : List Part} {tokens others : List Tok}
    {extents further : List Extent} (item : SpellsRawItem source i k parts tokens extents)
    (row : SpellsRawText source k j more others further) where
  abbrev said : Said
  said = text_said source i j (parts ++ more) (extents ++ shifted (length tokens) further) (length (tokens ++ others))

  -- the first item says it
  abbrev One : Before → Bool → Type 0
  One before spaced = ItemIs source mode item None (row_text source row []) before (gap_of spaced) said

  old_is : item_known source mode item None befores.Other (row_text source row []) ≡ true → row_known source mode row (string_behind item None) (leaves item) [] ≡ true
      → Whole source mode (to_at source (j - 1)) (j - 1) i (parts ++ more) (item_cut source item (row_cut source row (lone [])))
      (item_text source item (row_text source row []))
  old_is first then =
      let to = to_at source (j - 1) in
      let last : From source mode to (j - 1) (j - 1) [] (lone []) [] = record {
        cut = cut_end source to (j - 1) (j - 1) refl refl;
        seamed = seamed_end source to (j - 1) (j - 1) refl refl;
        ahead = omega arith;
        inserts = refl;
      } in
      subst (λ (list : List Part). Whole source mode to (j - 1) i (parts ++ list) (item_cut source item (row_cut source row (lone [])))
      (item_text source item (row_text source row [])))
      (append-nil more)
      (old_whole source mode to (j - 1) item was None befores.Other (row_text source row []) first (more ++ []) (row_cut source row (lone []))
      (old_row source mode to (j - 1) row was (item_last item) (string_behind item None) (leaves item) [] then [] (lone []) last))

  says : (before : Before) (spaced : Bool) (one : One before spaced) (rest : RowIs source mode row (string_behind item None) (leaves item) [])
      → around_texts source (stretch_between source i j) (extents_of (parts ++ more)) ≡ lones (item_cut source item (row_cut source row (lone [])))
      → FirstSays said (one.joints ++ rest.joints)
  says before spaced one rest old new commented at front after sit =
      said_so source new i j at (length (tokens ++ others)) (parts ++ more) (extents ++ shifted (length tokens) further)
      (item_cut source item (row_cut source row (lone []))) old
      (ap (λ (n : ℕ). around_texts new (stretch_between new at (at + n)) (shifted at (extents ++ shifted (length tokens) further)))
      (length-append tokens others)
      ∙ cut_there new one.joints rest.joints (length tokens) (length others) extents further (item_cut source item)
      (row_cut source row) (some_tokens item) one.counted one.ended one.ends one.first rest.placed commented at front after sit)

  -- what is written of it
  abbrev pub own_text : List ℕ
  own_text = seamed_text (text_between source i j (parts ++ more))

  abbrev pub own_tokens : List Tok
  own_tokens = raw_tokens source i j (parts ++ more) (extents ++ shifted (length tokens) further) (tokens ++ others)

  -- the whole text as it is written
  pub record WholeText (before : Before) (spaced : Bool) : Type 0 where
    pub one : One before spaced
    pub rest : RowIs source mode row (string_behind item None) (leaves item) []
    pub segment : SheetSegment before (gap_of spaced ++ own_text) own_tokens (writtens (one.joints ++ rest.joints))
        (row_leaves (leaves item) row) (EndsText own_text)

  white_gap_of : (spaced : Bool) → list_all is_white (gap_of spaced) ≡ true
  white_gap_of true = refl
  white_gap_of false = refl

  pub whole_text : item_known source mode item None befores.Other (row_text source row []) ≡ true
      → row_known source mode row (string_behind item None) (leaves item) [] ≡ true → RawItemHasValues item → RawTextHasValues row
      → (before : Before) (spaced : Bool) → is_calm (behind_gap before (gap_of spaced)) ≡ true → WholeText before spaced
  whole_text first then has values before spaced calm =
      let old = old_is first then in
      let one : One before spaced =
      item_is source was mode item None (row_text source row []) before (gap_of spaced) said
      (calm_item mode item (behind_gap before (gap_of spaced)) calm (row_text source row []) first) (white_gap_of spaced)
      (λ e. absurd (let wrong : true ≡ false = e in cc)) has in
      let rest = row_is source was mode row (item_last item) (string_behind item None) (leaves item) [] then values in
      let xs = one.joints in
      let ys = rest.joints in record {
        one = one;
        rest = rest;
        segment = record {
          joints = xs ++ ys;
          spelling = sym (append-nil (text (xs ++ ys))) ∙ text_behind xs ys []
              ∙ ap (λ (t : List ℕ). text xs ++ t) (rest.spelling [])
              ∙ one.spelling (row_text source row [])
              ∙ ap (λ (t : List ℕ). gap_of spaced ++ t) (sym (written_is source mode i j (parts ++ more) _ _ old));
          seen = toks_append xs ys ∙ ap (λ (t : List Tok). t ++ toks ys) one.seen
              ∙ ap (λ (t : List Tok). saying said tokens ++ t) rest.seen ∙ first_saying item said others;
          written = refl;
          last = behind_append before xs ys ∙ ap (λ (b : Before). behind b ys) one.last ∙ rest.last;
          tells = one.tells ys rest.tells (says before spaced one rest old.cut);
          stand = λ after ok.
              one.stand ys [] after (rest.spelling []) (ends_first _ after ok) rest.near (rest.stand after (ends_first _ after ok));
        };
      }

  -- it is raw text before any other
  pub whole_raw : {before : Before} {spaced : Bool} (it : WholeText before spaced) (around : Around) (others : List Written)
      → RawText mode around others → RawText mode around (writtens (it.one.joints ++ it.rest.joints) ++ others)
  whole_raw it around others told = row_raw mode it.one.joints it.rest.joints it.one.raw it.rest.raw around others told

  stays_written : item_known source mode item None befores.Other (row_text source row []) ≡ true
      → row_known source mode row (string_behind item None) (leaves item) [] ≡ true → RawItemHasValues item → RawTextHasValues row
      → RawWritten mode own_text own_tokens
  stays_written first then has values before spaced calm =
      let it = whole_text first then has values before spaced calm in record {
        end = row_leaves (leaves item) row;
        passed = writtens (it.one.joints ++ it.rest.joints);
        segment = it.segment;
        told = subst (RawText mode Outside) (append-nil (writtens (it.one.joints ++ it.rest.joints)))
            (whole_raw it Outside [] told.raw_end);
      }

  whole_written : item_known source mode item None befores.Other (row_text source row []) ≡ true
      → row_known source mode row (string_behind item None) (leaves item) [] ≡ true → ends_open own_text ≡ false → RawItemHasValues item
      → RawTextHasValues row
      → IsText source mode i j (parts ++ more) (extents ++ shifted (length tokens) further) (tokens ++ others)
  whole_written first then closed has values =
      subst (λ (own : List ℕ). RawWritten mode own own_tokens) (sym (unescaped own_text closed))
      (stays_written first then has values)

pub raw_texts_written : RawTextsAreWritten
raw_texts_written source mode i j values tokens extents was raw_end known has = absurd (cc)
raw_texts_written source mode i j values tokens extents was (raw_more item row) known (has, more) =
    let stays = and_left (raw_stays source mode (raw_more item row)) _ known in
    whole_written source was mode item row (and_left (item_known source mode item None befores.Other (row_text source row [])) _ stays)
    (and_right (item_known source mode item None befores.Other (row_text source row [])) _ stays)
    (not_true (ends_open (seamed_text (text_between source i j values))) (and_right (raw_stays source mode (raw_more item row)) _ known)) has more

-- ---- before the block of a rule

pub uncut_same : (pieces : List Piece) → is_uncut pieces ≡ true → rule_pieces pieces ≡ pieces_text manners.Seamed pieces
uncut_same [] e = refl
uncut_same (piece ∷ pieces) e =
    if_false (has_more pieces && is_cut piece (piece ∷ pieces)) _ _ (not_true (has_more pieces && is_cut piece (piece ∷ pieces)) e)

pub selectors_written : SelectorsAreWritten
selectors_written source mode i j values tokens extents was spelt known uncut has =
    subst (λ (own : List ℕ). RawWritten mode own (raw_tokens source i j values extents tokens))
    (sym (ap unescaping (uncut_same (parts_written (parts_between source i j values)) uncut)))
    (raw_texts_written source mode i j values tokens extents was spelt known has)
