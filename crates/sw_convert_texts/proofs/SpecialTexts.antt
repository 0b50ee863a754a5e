-- The text of special functions is written as its tokens, item by item.
use Rattle.std.proofs.Common.{◌≡◌, ℕ, ◌+◌, Bool, true, false, List, [], ◌++◌, length, refl, sym, ◌∙◌, ap, subst, arith, length-append}
use Rattle.std.specs.Prelude.{codes}
use Rattle.std.specs.List.{list_all}
use Rattle.sw_text_scan.specs.Bytes.{byte, is_white}
use Rattle.sw_text_scan.proofs.Bounds.{and_left, and_right}
use Rattle.sw_tokens.specs.declared.pieces.Before.{Before}
use Rattle.sw_tokens.specs.declared.pieces.Before.TheVariants as befores
use Rattle.sw_tokens.specs.Ends.{opens}
use Rattle.sw_parse_lexemes.specs.Classes.{is_number}
use Rattle.sw_parse_table.specs.declared.source.Source.{Source}
use Rattle.sw_parse_table.specs.Parts.{Part}
use Rattle.sw_parse_table.specs.Sources.{begun}
use Rattle.sw_convert_written.specs.Pieces.{ends_loose}
use Rattle.sw_convert_passing.specs.Kinds.{is_dot, is_paren}
use Rattle.sw_convert_passing.specs.Values.{ahead, Special, text_end}
use Rattle.sw_convert_again.specs.Tokens.{Tok, Extent}
use Rattle.sw_convert_again.specs.Spells.{SpellsItem, SpellsText}
use Rattle.sw_convert_again.specs.Spells as spells
use Rattle.sw_convert_tokens.specs.Joints.{text, toks, writtens, behind, Stand}
use Rattle.sw_convert_tokens.specs.Values.{WasRead}
use Rattle.sw_convert_tokens.proofs.Joins.{text_behind, toks_append, writtens_append, behind_append, tell_append, stand_append}
use Rattle.sw_convert_texts.specs.Inserted.{ItemHasValues, TextHasValues}
use Rattle.sw_convert_texts.specs.InText.{value_fits}
use Rattle.sw_convert_texts.specs.RawKinds.{gap_before, is_some}
use Rattle.sw_convert_texts.specs.Specials.{special_text, item_front, begins_parens, begins_digits, is_alone, ends_value, item_known, text_known}
use Rattle.sw_convert_texts.proofs.AroundTexts.{CutFrom}
use Rattle.sw_convert_texts.proofs.RawJoined.{row_placed}
use Rattle.sw_convert_texts.proofs.RawSits.{ends_apart, ends_append}
use Rattle.sw_convert_texts.proofs.SpecialOlds.{item_cut, special_cut, calm_told, text_told, enclosed_told}
use Rattle.sw_convert_texts.proofs.Specials.{same_first, ItemIs, TextIs}
use Rattle.sw_convert_texts.proofs.SpecialTokens.{token_is}
use Rattle.sw_convert_texts.proofs.SpecialValues.{insert_item, value_item}
use Rattle.sw_convert_texts.proofs.SpecialBrackets.{parens_item, brackets_item}

module _ (source : Source) (was : WasRead source) where
  -- ---- items one behind the other

  nothing_is : {i : ℕ} (ended : Bool) (behind_text : List ℕ) → TextIs source was {i = i} spells.text_end ended behind_text
  nothing_is ended behind_text = record {
    joints = [];
    spelling = λ rest. refl;
    seen = refl;
    last = refl;
    ended_is = refl;
    tells = tt;
    special = λ inner. text_end;
    head = record { dotless = refl; opener = λ e. refl; numberless = λ e. refl };
    placed = λ new at front after to end more cuts here sit rest.
        subst (λ (n : ℕ). CutFrom new to end n more cuts) (let z : at + 0 ≡ at = omega arith in z) rest;
    stand = λ stack after code e. refl;
  }

  more_is : {i k j : ℕ} {parts more : List Part} {tokens others : List Tok} {extents further : List Extent}
      (item : SpellsItem source i k parts tokens extents) (items : SpellsText source k j more others further) (ended : Bool)
      (behind_text : List ℕ)
      → ItemIs source was item ended (begins_parens items) (begins_digits items) (special_text source items behind_text) (gap_before source i)
      → TextIs source was items (ends_value item) behind_text → TextIs source was (spells.text_more item items) ended behind_text
  more_is {i} {tokens = tokens} {others = others} {extents = extents} {further = further} item items ended behind_text one rest =
      let xs = one.joints in
      let ys = rest.joints in
      let first = one.head (writtens ys) in record {
        joints = xs ++ ys;
        spelling = λ t. text_behind xs ys t ∙ ap (λ (u : List ℕ). text xs ++ u) (rest.spelling t)
            ∙ one.spelling (special_text source items t);
        seen = toks_append xs ys ∙ ap (λ (t : List Tok). t ++ toks ys) one.seen ∙ ap (λ (t : List Tok). tokens ++ t) rest.seen;
        last = behind_append befores.Other xs ys ∙ ap (λ (b : Before). behind b ys) one.last ∙ rest.last;
        ended_is = ends_append false xs ys ∙ ap (λ (b : Bool). ends_apart b ys) one.ended_is ∙ rest.ended_is;
        tells = tell_append xs ys one.tells rest.tells;
        special = λ inner.
            subst (Special inner ended) (sym (writtens_append xs ys)) (one.special inner (writtens ys) rest.head (rest.special inner));
        head = record {
          dotless = ap (ahead is_dot 0) (writtens_append xs ys) ∙ first.dotless;
          opener = λ e. ap (ahead is_paren 0) (writtens_append xs ys) ∙ first.opener e;
          numberless = λ e. ap (ahead is_number 0) (writtens_append xs ys) ∙ first.numberless e;
        };
        placed = λ new at front after to end list cuts here sit cut.
            row_placed xs ys (length tokens) (length others) extents further
            (λ cuts. begun (gap_before source i) (item_cut source item cuts)) (special_cut source items) (ap length one.seen) one.ended_is
            one.placed rest.placed new at front after to end list cuts here sit
            (subst (λ (n : ℕ). CutFrom new to end (at + n) list cuts) (length-append tokens others) cut);
        stand = λ stack after code e.
            stand_append stack stack stack befores.Other xs ys after
            (one.stand stack (text ys ++ after) code
            (ap (λ (t : List ℕ). byte t 0) (rest.spelling after) ∙ same_first source was items after behind_text e))
            (subst (λ (b : Before). Stand stack b ys stack after) (sym one.last) (rest.stand stack after code e));
      }

  mutual
    item_is : {i k : ℕ} {parts : List Part} {tokens : List Tok} {extents : List Extent}
        (item : SpellsItem source i k parts tokens extents) (ended parens digits : Bool) (front behind_text : List ℕ)
        → list_all is_white (gap_before source i) ≡ true → item_known source item ended parens digits front behind_text ≡ true
        → ItemHasValues item → ItemIs source was item ended parens digits behind_text (gap_before source i)
    item_is (spells.item_token old) ended parens digits front behind_text white known has =
        token_is source was old ended parens digits behind_text white known
    item_is {i} (spells.item_insert opens inner close) ended parens digits front behind_text white known has =
        insert_item source was opens inner close has ended parens digits behind_text (gap_before source i) white
    item_is {i} (spells.item_value {value = value} inner) ended parens digits front behind_text white known has =
        let rest = and_right (is_alone inner) _ known in
        let more = and_right (value_fits inner (is_some (gap_before source i)) ended) _ rest in
        value_item source was inner has ended parens digits behind_text (gap_before source i) white
        (and_left (value_fits inner (is_some (gap_before source i)) ended) _ rest) (and_right (ends_loose front) _ more)
    item_is {i} (spells.item_parens {c = c} opens inner close) ended parens digits front behind_text white known has =
        let it = enclosed_told source was inner (codes "(") (codes ")") front behind_text known in
        parens_item source was opens inner close ended parens digits behind_text (gap_before source i) white (calm_told source c it.calm).white
        (text_is_written inner false (front ++ codes "(") (gap_before source c ++ (codes ")" ++ behind_text)) it.inside has)
    item_is {i} (spells.item_brackets {c = c} opens inner close) ended parens digits front behind_text white known has =
        let it = enclosed_told source was inner (codes "[") (codes "]") front behind_text known in
        brackets_item source was opens inner close ended parens digits behind_text (gap_before source i) white (calm_told source c it.calm).white
        (text_is_written inner false (front ++ codes "[") (gap_before source c ++ (codes "]" ++ behind_text)) it.inside has)

    pub text_is_written : {i j : ℕ} {parts : List Part} {tokens : List Tok} {extents : List Extent}
        (items : SpellsText source i j parts tokens extents) (ended : Bool) (front behind_text : List ℕ)
        → text_known source items ended front behind_text ≡ true → TextHasValues items → TextIs source was items ended behind_text
    text_is_written spells.text_end ended front behind_text known has = nothing_is ended behind_text
    text_is_written (spells.text_more {i = i} item items) ended front behind_text known (has, more) =
        let told = text_told source was item items ended front behind_text known in
        more_is item items ended behind_text
        (item_is item ended (begins_parens items) (begins_digits items) (front ++ gap_before source i)
        (special_text source items behind_text) (calm_told source i told.calm).white told.one has)
        (text_is_written items (ends_value item) (item_front source item (front ++ gap_before source i)) behind_text told.rest more)
