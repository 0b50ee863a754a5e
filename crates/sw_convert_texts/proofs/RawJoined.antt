-- Raw text without comments is written as its tokens: items one behind the other, through any number of brackets.
use Rattle.std.proofs.Common.{◌≡◌, ℕ, suc, ◌+◌, Bool, true, false, not, ◌&&◌, ◌||◌, Option, Some, None, List, [], ◌∷◌, ◌++◌, length, refl, sym, ◌∙◌, ap, subst, arith, append_assoc, length-append}
use Rattle.std.specs.List.{list_all}
use Rattle.sw_tokens.specs.Tokens.{is_spaced}
use Rattle.sw_parse_lexemes.specs.declared.sort.Sort.{Sort}
use Rattle.sw_parse_lexemes.specs.declared.state.Walk.TheVariants as walks
use Rattle.sw_convert_heads_passing.specs.Rules.{walked}
use Rattle.sw_convert_texts.specs.RuleTexts.{item_sort, item_digits}
use Rattle.sw_convert_texts.proofs.RawHeads.{Head, Walks, walks_append, IsOver}
use Rattle.sw_text_scan.specs.Bytes.{is_white}
use Rattle.sw_text_scan.proofs.Bounds.{and_left, and_right}
use Rattle.sw_tokens.specs.declared.pieces.Before.{Before}
use Rattle.sw_tokens.specs.declared.pieces.Before.TheVariants as befores
use Rattle.sw_parse_lexemes.specs.declared.state.Mode.{Mode}
use Rattle.sw_parse_table.specs.declared.source.Source.{Source}
use Rattle.sw_parse_table.specs.Parts.{Part}
use Rattle.sw_parse_table.specs.Sources.{Texts, begun, to_at, bytes_at}
use Rattle.sw_convert_spelling.specs.Spelt.{behind_gap}
use Rattle.sw_convert_passing.specs.Written.{Written}
use Rattle.sw_convert_written.specs.Expressions.{expr_text}
use Rattle.sw_convert_heads_passing.specs.RawTexts.{RawText}
use Rattle.sw_tree.specs.declared.expr.Expr.{Expr}
use Rattle.sw_parse_terminals.specs.declared.terminal.Terminal.TheVariants as terminals
use Rattle.sw_parse_terminals.specs.Numbers.{just}
use Rattle.sw_convert_again.specs.Spells.{Spells}
use Rattle.sw_convert_again.specs.Tokens.{Said, Nothing, Extent, shifted, Tok, Old, saying}
use Rattle.sw_convert_again.specs.RawTexts.{SpellsRawItem, SpellsRawText, raw_token, raw_insert, raw_brackets, raw_end, raw_more}
use Rattle.sw_convert_tokens.specs.Joints.{Joint, text, toks, writtens, behind, Sit}
use Rattle.sw_convert_tokens.specs.Values.{WasRead}
use Rattle.sw_convert_tokens.proofs.Joins.{text_behind, toks_append, writtens_append, behind_append, sit_left}
use Rattle.sw_convert_texts.specs.Inserted.{RawItemHasValues, RawTextHasValues}
use Rattle.sw_convert_texts.specs.RawKinds.{leaves, gap_before, row_text, is_some, is_bracketed, is_beside, is_closed, is_next, string_behind, item_known, row_known}
use Rattle.sw_convert_texts.proofs.AroundTexts.{CutFrom}
use Rattle.sw_convert_texts.proofs.Inserts.{inner_of}
use Rattle.sw_convert_texts.proofs.RawGaps.{Last, last_old, item_there, item_last, row_last, white_so}
use Rattle.sw_convert_texts.proofs.RawOlds.{item_cut, row_cut, brackets_told}
use Rattle.sw_convert_texts.proofs.RawSits.{shifted_append, shifted_twice, ends_apart, ends_append, sit_right, sit_end}
use Rattle.sw_convert_texts.proofs.RawRows.{Placed, IsRaw, ItemIs, RowIs, is_quoted, insert_is}
use Rattle.sw_convert_texts.proofs.RawSingles.{token_is}
use Rattle.sw_convert_texts.proofs.RawBrackets.{brackets_is}

-- the first token of an item says nothing of its own
nothing_said : {source : Source} {i k : ℕ} {parts : List Part} {tokens : List Tok} {extents : List Extent}
    → SpellsRawItem source i k parts tokens extents → saying Nothing tokens ≡ tokens
nothing_said (raw_token old) = refl
nothing_said (raw_insert opens inner close) = refl
nothing_said (raw_brackets kind opens text close) = refl

pub row_raw : (mode : Mode) (xs ys : List Joint) → IsRaw mode xs → IsRaw mode ys → IsRaw mode (xs ++ ys)
row_raw mode xs ys one more around rest told =
    subst (RawText mode around)
    (sym (ap (λ (t : List Written). t ++ rest) (writtens_append xs ys) ∙ append_assoc (writtens xs) (writtens ys) rest))
    (one around (writtens ys ++ rest) (more around rest told))

pub row_placed : (xs ys : List Joint) (count others : ℕ) (extents further : List Extent) (cut then : Texts → Texts)
    → length (toks xs) ≡ count → ends_apart false xs ≡ false → Placed xs count extents cut → Placed ys others further then
    → Placed (xs ++ ys) (count + others) (extents ++ shifted count further) (λ cuts. cut (then cuts))
row_placed xs ys count others extents further cut then counted ended one more new at front after to end list cuts here sit rest =
    let left = sit_left new false (suc at) front xs ys after sit in
    let right = sit_right new false (suc at) front xs ys after sit in
    let there : to_at new (at + count) ≡ length (front ++ text xs) =
    ap (λ (n : ℕ). to_at new (at + n)) (sym counted) ∙ sit_end new false at front xs (text ys ++ after) (λ f. here) left ended in
    let sits : Sit new false (suc (at + count)) (front ++ text xs) ys after =
    subst (λ (n : ℕ). Sit new false n (front ++ text xs) ys after)
    (let z : suc at + length (toks xs) ≡ suc (at + count) = omega (arith, counted) in z)
    (subst (λ (b : Bool). Sit new b (suc at + length (toks xs)) (front ++ text xs) ys after) ended right) in
    let behind_cut = more new (at + count) (front ++ text xs) after to end list cuts there sits
    (subst (λ (n : ℕ). CutFrom new to end n list cuts) (let z : at + (count + others) ≡ (at + count) + others = omega arith in z) rest) in
    subst (λ (extents : List Extent). CutFrom new to end at extents (cut (then cuts)))
    (sym (ap (λ (t : List Extent). t ++ list)
    (shifted_append (suc at) extents (shifted count further)
    ∙ ap (λ (t : List Extent). shifted (suc at) extents ++ t)
    (shifted_twice (suc at) count (suc (at + count)) further (let z : suc at + count ≡ suc (at + count) = omega arith in z)))
    ∙ append_assoc (shifted (suc at) extents) (shifted (suc (at + count)) further) list))
    (one new at front (text ys ++ after) to end (shifted (suc (at + count)) further ++ list) (then cuts) here left behind_cut)

-- what the first item begins with
abbrev row_first : (sort : Sort) (digits spaced : Bool) (xs ys : List Joint) → Head sort digits spaced (writtens xs)
    → Head sort digits spaced (writtens (xs ++ ys))
row_first sort digits spaced xs ys one = record {
  head = one.head;
  tail = one.tail ++ writtens ys;
  is = writtens_append xs ys ∙ ap (λ (t : List Written). t ++ writtens ys) one.is;
  told = one.told;
  digits_is = one.digits_is;
  spaced_is = one.spaced_is;
}

row_walks : (xs ys : List Joint) → Walks (writtens xs) → Walks (writtens ys) → Walks (writtens (xs ++ ys))
row_walks xs ys one more = subst Walks (sym (writtens_append xs ys)) (walks_append (writtens xs) (writtens ys) one more)

row_over : (sort : Sort) (tail : List Written) (ys : List Joint) → IsOver sort tail []
    → IsOver sort (tail ++ writtens ys) (writtens ys)
row_over sort tail ys over e more =
    ap (walked walks.Word 1) (append_assoc tail (writtens ys) more) ∙ over e (writtens ys ++ more)

module _ (source : Source) (was : WasRead source) (mode : Mode) where
  more_is : {i k j : ℕ} {parts more : List Part} {tokens others : List Tok} {extents further : List Extent}
      (item : SpellsRawItem source i k parts tokens extents) (row : SpellsRawText source k j more others further)
      (quotes : Option ℕ) (start : Before) (behind_text : List ℕ) → (is_closed quotes ≡ false → gap_before source i ≡ [])
      → ItemIs source mode item quotes (row_text source row behind_text) start (gap_before source i) Nothing
      → RowIs source mode row (string_behind item quotes) (leaves item) behind_text
      → RowIs source mode (raw_more item row) quotes start behind_text
  more_is {i} {tokens = tokens} {others = others} {extents = extents} {further = further} item row quotes start behind_text none one rest =
      let xs = one.joints in
      let ys = rest.joints in record {
        joints = xs ++ ys;
        spelling = λ t. text_behind xs ys t
            ∙ ap (λ (u : List ℕ). text xs ++ u) (rest.spelling t) ∙ one.spelling (row_text source row t);
        seen = toks_append xs ys
            ∙ ap (λ (t : List Tok). t ++ toks ys) (one.seen ∙ nothing_said item)
            ∙ ap (λ (t : List Tok). tokens ++ t) rest.seen;
        last = behind_append start xs ys ∙ ap (λ (b : Before). behind b ys) one.last ∙ rest.last;
        ended = ends_append false xs ys ∙ ap (λ (b : Bool). ends_apart b ys) (one.ended false) ∙ rest.ended;
        raw = row_raw mode xs ys one.raw rest.raw;
        tells = one.tells ys rest.tells (λ new commented at front after sit. tt);
        head = (
          writtens ys,
          row_first (item_sort item) (item_digits item) (is_spaced (behind_gap start (gap_before source i))) xs ys one.head,
          λ e. ap (λ (t : List Written). t ++ writtens ys) (one.one e),
          row_over (item_sort item) one.head.tail ys one.over,
          λ e. row_walks xs ys (one.walks e) (rest.walks e),
          rest.head,
        );
        walks = λ e. row_walks xs ys (one.walks e) (rest.walks e);
        placed = λ new at front after to end list cuts here sit cut.
            row_placed xs ys (length tokens) (length others) extents further
            (λ cuts. begun (gap_before source i) (item_cut source item cuts)) (row_cut source row) one.counted (one.ended false)
            one.placed rest.placed new at front after to end list cuts here sit
            (subst (λ (n : ℕ). CutFrom new to end (at + n) list cuts) (length-append tokens others) cut);
        near = λ e. one.near (none e) ys;
        stand = λ after ends. one.stand ys behind_text after (rest.spelling behind_text) ends rest.near (rest.stand after ends);
      }

  no_gap : (quotes : Option ℕ) (gap : List ℕ) → (is_closed quotes || not (is_some gap)) ≡ true → is_closed quotes ≡ false → gap ≡ []
  no_gap None gap e f = absurd (let wrong : true ≡ false = f in cc)
  no_gap (Some q) [] e f = refl
  no_gap (Some q) (b ∷ gap) e f = absurd (let wrong : false ≡ true = e in cc)

  -- a value in a string is in one by a quote
  quoted : {i c : ℕ} {value : Expr} {tokens : List Tok} (opens : Old source i (just terminals.Insert))
      (inner : Spells source (suc i) c value tokens) (close : Old source c (just terminals.InsertEnd)) (quotes : Option ℕ)
      (before : Before) (behind_text : List ℕ) → item_known source mode (raw_insert opens inner close) quotes before behind_text ≡ true
      → is_closed quotes ≡ false → is_quoted quotes ≡ true
  quoted opens inner close None before behind_text known e = absurd (let wrong : true ≡ false = e in cc)
  quoted opens inner close (Some q) before behind_text known e = known

  mutual
    -- an item behind white space, and its first token says this
    pub item_is : {i k : ℕ} {parts : List Part} {tokens : List Tok} {extents : List Extent}
        (item : SpellsRawItem source i k parts tokens extents) (quotes : Option ℕ) (behind_text : List ℕ) (before : Before)
        (gap : List ℕ) (said : Said) → item_known source mode item quotes (behind_gap before gap) behind_text ≡ true
        → list_all is_white gap ≡ true → (is_closed quotes ≡ false → gap ≡ []) → RawItemHasValues item
        → ItemIs source mode item quotes behind_text before gap said
    item_is (raw_token old) quotes behind_text before gap said known white none has =
        token_is source was mode old behind_text before gap said quotes known white none
    item_is (raw_insert {value = value} {tokens = tokens} opens inner close) quotes behind_text before gap said known white none has =
        insert_is source was mode opens inner close (inner_of (expr_text value) tokens has) before gap said quotes behind_text white none
        (quoted opens inner close quotes (behind_gap before gap) behind_text known)
    item_is (raw_brackets kind opens row close) (Some q) behind_text before gap said known white none has =
        absurd (let wrong : false ≡ true = known in cc)
    item_is (raw_brackets {i = i} {c = c} kind opens row close) None behind_text before gap said known white none has =
        let are = brackets_told source mode i c kind (and_left (is_bracketed mode kind && _) _ known) in
        let inner = and_right (is_bracketed mode kind && _) _ known in
        let white_close = white_so source was c (row_last row (last_old opens)) (record { lexeme = close.lexeme; there = close.there }) in
        brackets_is source mode kind are row behind_text before gap said white_close
        (row_is row (last_old opens) None befores.Other (gap_before source c ++ (bytes_at source c ++ behind_text)) (and_right (is_beside source c) _ inner) has)
        opens close white

    pub row_is : {i j : ℕ} {parts : List Part} {tokens : List Tok} {extents : List Extent}
        (row : SpellsRawText source i j parts tokens extents) → Last source i → (quotes : Option ℕ) (start : Before) (behind_text : List ℕ)
        → row_known source mode row quotes start behind_text ≡ true → RawTextHasValues row
        → RowIs source mode row quotes start behind_text
    row_is raw_end last (Some q) start behind_text known has = absurd (let wrong : false ≡ true = known in cc)
    row_is raw_end last None start behind_text known has = record {
      joints = [];
      spelling = λ rest. refl;
      seen = refl;
      last = refl;
      ended = refl;
      raw = λ around rest more. more;
      tells = tt;
      head = refl;
      walks = λ e count rest. refl;
      placed = λ new at front after to end more cuts here sit rest.
          subst (λ (n : ℕ). CutFrom new to end n more cuts) (let z : at + 0 ≡ at = omega arith in z) rest;
      near = λ e. absurd (let wrong : true ≡ false = e in cc);
      stand = λ after ends. refl;
    }
    row_is (raw_more {i = i} item row) last quotes start behind_text known (has, more) =
        let next = and_left (is_next source quotes i) _ known in
        let rest = and_right (is_next source quotes i) _ known in
        let none = no_gap quotes (gap_before source i) (and_right (is_beside source i) _ next) in
        more_is item row quotes start behind_text none
        (item_is item quotes (row_text source row behind_text) start (gap_before source i) Nothing
        (and_left (item_known source mode item quotes (behind_gap start (gap_before source i)) (row_text source row behind_text)) _ rest)
        (white_so source was i last (item_there item)) none has)
        (row_is row (item_last item) (string_behind item quotes) (leaves item) behind_text
        (and_right (item_known source mode item quotes (behind_gap start (gap_before source i)) (row_text source row behind_text)) _ rest) more)
