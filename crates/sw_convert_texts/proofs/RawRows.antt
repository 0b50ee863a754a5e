-- Raw text without comments is written as its tokens, item by item.
use Rattle.std.proofs.Common.{◌≡◌, inl, ℕ, suc, ◌+◌, ◌-◌, Bool, true, false, not, List, [], ◌∷◌, ◌++◌, length, Option, Some, None, refl, sym, ◌∙◌, ap, subst, arith, append_assoc, append-nil, length-append}
use Rattle.std.specs.Prelude.{codes}
use Rattle.std.specs.List.{list_all}
use Rattle.sw_parse_lexemes.specs.declared.state.Walk.TheVariants as walks
use Rattle.sw_parse_lexemes.specs.Brackets.{is_custom}
use Rattle.sw_parse_lexemes.specs.Classes.{same}
use Rattle.sw_convert_heads_passing.specs.Rules.{walked}
use Rattle.sw_convert_texts.specs.RuleTexts.{item_sort, item_digits}
use Rattle.sw_convert_texts.proofs.Levels.{sign_over, word_over}
use Rattle.sw_convert_texts.proofs.RawHeads.{Head, Walks, is_one, IsOver, RowHead}
use Rattle.sw_text_scan.specs.Bytes.{sign, byte, is_white, is_quote}
use Rattle.sw_tree.specs.declared.expr.Expr.{Expr}
use Rattle.sw_tokens.specs.declared.pieces.Before.{Before}
use Rattle.sw_tokens.specs.declared.pieces.Before.TheVariants as befores
use Rattle.sw_tokens.specs.declared.skips.Inside.TheVariants as insides
use Rattle.sw_tokens.specs.Tokens.{is_spaced}
use Rattle.sw_parse_terminals.specs.declared.terminal.Terminal.TheVariants as terminals
use Rattle.sw_parse_terminals.specs.Numbers.{just}
use Rattle.sw_parse_lexemes.specs.declared.sort.Sort.TheVariants as sorts
use Rattle.sw_parse_lexemes.specs.declared.state.Mode.{Mode}
use Rattle.sw_parse_table.specs.declared.source.Source.{Source}
use Rattle.sw_parse_table.specs.Parts.{Part}
use Rattle.sw_parse_table.specs.Sources.{Texts, begun, from_at, to_at}
use Rattle.sw_convert_spelling.specs.Spelt.{behind_gap, innermost, is_gap}
use Rattle.sw_convert_spelling.proofs.Choices.{both}
use Rattle.sw_convert_spelling.proofs.MovedRuns.{first_byte}
use Rattle.sw_convert_written.specs.Expressions.{expr_text}
use Rattle.sw_convert_passing.specs.Written.{Written, written, direct}
use Rattle.sw_convert_heads_passing.specs.RawTexts.{Around, RawText}
use Rattle.sw_convert_heads_passing.specs.RawTexts as told
use Rattle.sw_convert_again.specs.Tokens.{Said, Nothing, Says, Extent, extent, shifted, Tok, tok, Old, saying}
use Rattle.sw_convert_again.specs.Tokens as again
use Rattle.sw_convert_again.specs.Spells.{Spells, within}
use Rattle.sw_convert_again.specs.RawTexts.{SpellsRawItem, SpellsRawText, raw_insert, raw_end, raw_more}
use Rattle.sw_convert_tokens.specs.Joints.{Seen, Joint, Token, text, toks, writtens, behind, Direct, Stand, Sit, Tell, written_of}
use Rattle.sw_convert_tokens.specs.Values.{WasRead}
use Rattle.sw_convert_tokens.proofs.Joins.{text_append, toks_append, writtens_append, behind_append, tell_append, stand_append}
use Rattle.sw_convert_texts.specs.RawKinds.{item_text, leaves, row_text, is_closed, string_behind}
use Rattle.sw_convert_texts.proofs.AroundTexts.{lones, cut_before, around_texts, CutFrom, cut_insert, first_insert}
use Rattle.sw_convert_texts.proofs.Inserts.{takes_insert, Inner, inner_items, opening_behind, closing, value_stand}
use Rattle.sw_convert_texts.proofs.RawOlds.{item_cut, row_cut}
use Rattle.sw_convert_texts.proofs.RawSits.{ends_apart, ends_append, beside_sits, sit_first}
use Rattle.sw_convert_texts.proofs.RawTokens.{is_end}
use Rattle.sw_convert_texts.proofs.RawStrings.{inside_of}

-- where the tokens stand in a text, its texts around values are cut so
abbrev pub Placed : List Joint → ℕ → List Extent → (Texts → Texts) → Type 0
Placed joints count extents cut =
    (new : Source) (at : ℕ) (front after : List ℕ) (to end : ℕ) (more : List Extent) (cuts : Texts)
    → to_at new at ≡ length front → Sit new false (suc at) front joints after → CutFrom new to end (at + count) more cuts
    → CutFrom new to end at (shifted (suc at) extents ++ more) (cut cuts)

-- and where they begin it
abbrev pub Begun : List Joint → ℕ → List Extent → (Texts → Texts) → Type 0
Begun joints count extents cut =
    (new : Source) (commented : Bool) (at : ℕ) (front after : List ℕ) (to end : ℕ) (more : List Extent) (cuts : Texts)
    → Sit new commented at front joints after → CutFrom new to end ((at + count) - 1) more cuts
    → around_texts new (record { from = from_at new at; to = to; first = at; end = end }) (shifted at extents ++ more)
    ≡ lones (cut cuts)

-- at the level of a sheet, or in a string by a quote, they stand before this text and what ends a statement
abbrev pub StandBefore : Option ℕ → Before → List Joint → Option ℕ → List ℕ → Type 0
StandBefore quotes before joints end behind =
    (after : List ℕ) → is_end (byte after 0) ≡ true → Stand (inside_of quotes) before joints (inside_of end) (behind ++ after)

-- and so they do with those that stand behind them up to a text
abbrev pub StandOnward : Option ℕ → Before → List Joint → Option ℕ → Before → List ℕ → Type 0
StandOnward quotes before joints end mid behind =
    (others : List Joint) (rest after : List ℕ) → text others ++ rest ≡ behind → is_end (byte after 0) ≡ true
    → (is_closed end ≡ false → Direct others) → Stand (inside_of end) mid others [] (rest ++ after)
    → Stand (inside_of quotes) before (joints ++ others) [] (rest ++ after)

pub onward : (quotes : Option ℕ) (before : Before) (xs : List Joint) (end : Option ℕ) (mid : Before) (behind_text : List ℕ)
    → StandBefore quotes before xs end behind_text → behind before xs ≡ mid → StandOnward quotes before xs end mid behind_text
onward quotes before xs end mid behind_text one last others rest after same ends direct more =
    stand_append (inside_of quotes) (inside_of end) [] before xs others (rest ++ after)
    (subst (Stand (inside_of quotes) before xs (inside_of end))
    (ap (λ (t : List ℕ). t ++ after) (sym same) ∙ append_assoc (text others) rest after) (one after ends))
    (subst (λ (b : Before). Stand (inside_of end) b others [] (rest ++ after)) (sym last) more)

-- text among other raw text
abbrev pub IsRaw : Mode → List Joint → Type 0
IsRaw mode joints =
    (around : Around) (rest : List Written) → RawText mode around rest → RawText mode around (writtens joints ++ rest)

-- the first of these tokens says this
abbrev pub FirstSays : Said → List Joint → Type 0
FirstSays said joints =
    (new : Source) (commented : Bool) (at : ℕ) (front after : List ℕ) → Sit new commented at front joints after → Says new at said

-- tokens and others tell what they say where the first does
abbrev pub TellBefore : Said → List Joint → Type 0
TellBefore said joints = (others : List Joint) → Tell others → FirstSays said (joints ++ others) → Tell (joints ++ others)

-- the last of them ends where they do
abbrev pub EndThere : List Joint → ℕ → Type 0
EndThere joints count =
    (new : Source) (commented : Bool) (at : ℕ) (front after : List ℕ) → Sit new commented at front joints after
    → to_at new ((at + count) - 1) ≡ length (front ++ text joints)

-- an item as it is written, behind this white space; its first token says this
pub record ItemIs (source : Source) (mode : Mode) {i k : ℕ} {parts : List Part} {tokens : List Tok} {extents : List Extent}
    (item : SpellsRawItem source i k parts tokens extents) (quotes : Option ℕ) (behind_text : List ℕ) (before : Before)
    (gap : List ℕ) (said : Said) : Type 0 where
  pub joints : List Joint
  pub spelling : (rest : List ℕ) → text joints ++ rest ≡ gap ++ item_text source item rest
  pub seen : toks joints ≡ saying said tokens
  pub counted : length (toks joints) ≡ length tokens
  pub last : behind before joints ≡ leaves item
  pub ended : (b : Bool) → ends_apart b joints ≡ false
  pub raw : IsRaw mode joints
  pub tells : TellBefore said joints
  pub ends : EndThere joints (length tokens)
  pub head : Head (item_sort item) (item_digits item) (is_spaced (behind_gap before gap)) (writtens joints)
  pub one : is_one item ≡ true → head.tail ≡ []
  pub over : IsOver (item_sort item) head.tail []
  pub walks : is_custom mode ≡ false → Walks (writtens joints)
  pub placed : Placed joints (length tokens) extents (λ cuts. begun gap (item_cut source item cuts))
  pub first : Begun joints (length tokens) extents (item_cut source item)
  pub near : gap ≡ [] → (others : List Joint) → Direct (joints ++ others)
  pub stand : StandOnward quotes before joints (string_behind item quotes) (leaves item) behind_text

-- what stands directly before the token behind items
abbrev pub row_leaves : {source : Source} {i j : ℕ} {parts : List Part} {tokens : List Tok} {extents : List Extent}
    → Before → SpellsRawText source i j parts tokens extents → Before
row_leaves start raw_end = start
row_leaves start (raw_more item row) = row_leaves (leaves item) row

-- items
pub record RowIs (source : Source) (mode : Mode) {i j : ℕ} {parts : List Part} {tokens : List Tok} {extents : List Extent}
    (row : SpellsRawText source i j parts tokens extents) (quotes : Option ℕ) (start : Before) (behind_text : List ℕ) : Type 0 where
  pub joints : List Joint
  pub spelling : (rest : List ℕ) → text joints ++ rest ≡ row_text source row rest
  pub seen : toks joints ≡ tokens
  pub last : behind start joints ≡ row_leaves start row
  pub ended : ends_apart false joints ≡ false
  pub raw : IsRaw mode joints
  pub tells : Tell joints
  pub head : RowHead mode start row (writtens joints)
  pub walks : is_custom mode ≡ false → Walks (writtens joints)
  pub placed : Placed joints (length tokens) extents (row_cut source row)
  pub near : is_closed quotes ≡ false → Direct joints
  pub stand : StandBefore quotes start joints None behind_text

-- white space before what begins with none
pub white_gap : (gap own : List ℕ) → list_all is_white gap ≡ true → is_white (byte own 0) ≡ false
    → is_gap insides.Sheet gap own ≡ true
white_gap [] own white black = refl
white_gap (b ∷ gap) own white black = both (list_all is_white (b ∷ gap)) (not (is_white (byte own 0))) white (ap not black)

pub spelt_one : (gap own rest : List ℕ) → (gap ++ (own ++ [])) ++ rest ≡ gap ++ (own ++ rest)
spelt_one gap own rest =
    append_assoc gap (own ++ []) rest ∙ ap (λ (t : List ℕ). gap ++ (t ++ rest)) (append-nil own)

-- by a quote
abbrev pub is_quoted : Option ℕ → Bool
is_quoted None = false
is_quoted (Some q) = is_quote q

-- what opens a value there, where it may stand
takes_there : (quotes : Option ℕ) → (is_closed quotes ≡ false → is_quoted quotes ≡ true) → takes_insert (innermost (inside_of quotes)) ≡ true
takes_there None e = refl
takes_there (Some q) e = e refl

gap_there : (quotes : Option ℕ) (gap own : List ℕ) → (is_closed quotes ≡ false → gap ≡ []) → list_all is_white gap ≡ true
    → is_white (byte own 0) ≡ false → is_gap (innermost (inside_of quotes)) gap own ≡ true
gap_there None gap own none white black = white_gap gap own white black
gap_there (Some q) gap own none white black = ap (λ (t : List ℕ). is_gap (insides.Quotes q) t own) (none refl)

module _ (source : Source) (was : WasRead source) (mode : Mode) where
  -- ---- values in `#{}`

  module _ {i c : ℕ} {value : Expr} {tokens : List Tok} (opens : Old source i (just terminals.Insert))
      (value_is : Spells source (suc i) c value tokens) (close : Old source c (just terminals.InsertEnd))
      (inner : Inner (expr_text value) tokens) (before : Before) (gap : List ℕ) (said : Said) where
    abbrev pub list : List Joint
    list = inner.segment.joints

    abbrev pub opened : Seen
    opened = opening_behind before gap terminals.Insert said

    abbrev pub closed : Joint
    closed = Token (closing Nothing)

    abbrev pub insert_joints : List Joint
    insert_joints = Token opened ∷ (list ++ closed ∷ [])

    abbrev pub insert_tokens : List Tok
    insert_tokens = within (again.sign terminals.Insert) tokens terminals.InsertEnd

    pub insert_long : length insert_tokens ≡ 2 + length tokens
    insert_long =
        let long = length-append tokens (again.sign terminals.InsertEnd ∷ []) in omega (arith, long)

    pub insert_spelling : (rest : List ℕ)
        → text insert_joints ++ rest ≡ gap ++ (codes "#{" ++ (expr_text value ++ (codes "}" ++ rest)))
    insert_spelling rest =
        ap (λ (t : List ℕ). (gap ++ (codes "#{" ++ t)) ++ rest)
        (text_append list (closed ∷ []) ∙ ap (λ (t : List ℕ). t ++ codes "}") inner.segment.spelling)
        ∙ append_assoc gap (codes "#{" ++ (expr_text value ++ codes "}")) rest
        ∙ ap (λ (t : List ℕ). gap ++ (codes "#{" ++ t)) (append_assoc (expr_text value) (codes "}") rest)

    pub insert_seen : toks insert_joints ≡ saying said insert_tokens
    insert_seen =
        ap (λ (t : List Tok). tok terminals.Insert said ∷ t)
        (toks_append list (closed ∷ [])
        ∙ ap (λ (t : List Tok). t ++ again.sign terminals.InsertEnd ∷ []) inner.segment.seen)

    pub insert_tail : (rest : List Written)
        → writtens (list ++ closed ∷ []) ++ rest ≡ inner.passed ++ direct sorts.CloseInsert terminals.InsertEnd ∷ rest
    insert_tail rest =
        ap (λ (t : List Written). t ++ rest)
        (writtens_append list (closed ∷ []) ∙ ap (λ (t : List Written). t ++ direct sorts.CloseInsert terminals.InsertEnd ∷ []) inner.segment.written)
        ∙ append_assoc inner.passed (direct sorts.CloseInsert terminals.InsertEnd ∷ []) rest

    insert_raw : IsRaw mode insert_joints
    insert_raw around rest more =
        subst (RawText mode around)
        (sym (ap (λ (t : List Written). written sorts.OpenInsert opened.spaced terminals.Insert ∷ t) (insert_tail rest)))
        (told.raw_insert (inner_items inner) more)

    insert_tells : TellBefore said insert_joints
    insert_tells others more says = (
      says,
      tell_append (list ++ closed ∷ []) others
          (tell_append list (closed ∷ []) inner.segment.tells (λ new commented at front after sit. tt, tt)) more,
    )

    pub insert_placed : Placed insert_joints (length insert_tokens) (extent 0 (2 + length tokens) ∷ [])
        (λ cuts. begun gap (cut_before cuts))
    insert_placed new at front after to end more cuts here sit rest =
        let long = insert_long in
        subst (λ (n : ℕ). CutFrom new to end at (extent n (suc at + (2 + length tokens)) ∷ more) (begun gap (cut_before cuts)))
        (let z : suc at ≡ suc at + 0 = omega arith in z)
        (subst (λ (n : ℕ). CutFrom new to end at (extent (suc at) n ∷ more) (begun gap (cut_before cuts)))
        (let z : suc (at + length insert_tokens) ≡ suc at + (2 + length tokens) = omega (arith, long) in z)
        (cut_insert new to end at (at + length insert_tokens) gap more cuts
        (beside_sits new at front opened (text (list ++ closed ∷ []) ++ after) here sit.0) rest))

    insert_first : Begun insert_joints (length insert_tokens) (extent 0 (2 + length tokens) ∷ []) cut_before
    insert_first new commented at front after to end more cuts sit rest =
        let long = insert_long in
        let last = (at + length insert_tokens) - 1 in
        ap (λ (n : ℕ). around_texts new (record { from = from_at new at; to = to; first = at; end = end }) (extent n (at + (2 + length tokens)) ∷ more))
        (let z : at + 0 ≡ at = omega arith in z)
        ∙ ap (λ (n : ℕ). around_texts new (record { from = from_at new at; to = to; first = at; end = end }) (extent at n ∷ more))
        (let z : at + (2 + length tokens) ≡ suc ((at + length insert_tokens) - 1) = omega (arith, long) in z)
        ∙ first_insert new to end at last more cuts rest

    pub insert_is : (quotes : Option ℕ) (behind_text : List ℕ) → list_all is_white gap ≡ true → (is_closed quotes ≡ false → gap ≡ [])
        → (is_closed quotes ≡ false → is_quoted quotes ≡ true)
        → ItemIs source mode (raw_insert opens value_is close) quotes behind_text before gap said
    insert_is quotes behind_text white none quoted = record {
      joints = insert_joints;
      spelling = insert_spelling;
      seen = insert_seen;
      counted = ap length insert_seen;
      last = behind_append befores.Other list (closed ∷ []);
      ended = λ b. ends_append false list (closed ∷ []);
      raw = insert_raw;
      tells = insert_tells;
      ends = λ new commented at front after sit.
          ap (λ (n : ℕ). to_at new ((at + n) - 1)) (sym (ap length insert_seen))
          ∙ sit_first new commented at front opened (list ++ closed ∷ []) after sit (ends_append false list (closed ∷ []));
      head = record {
        head = written_of (Token opened);
        tail = writtens (list ++ closed ∷ []);
        is = refl;
        told = inl refl;
        digits_is = λ e. absurd (cc);
        spaced_is = refl;
      };
      one = λ e. absurd (cc);
      over = λ e more. ap (walked walks.Word 1) (insert_tail more) ∙ word_over inner.passed (inner_items inner) more;
      walks = λ e count more.
          ap (λ (t : List Written). walked walks.Sign count (written sorts.OpenInsert opened.spaced terminals.Insert ∷ t))
          (insert_tail more)
          ∙ sign_over inner.passed (inner_items inner) opened.spaced terminals.Insert count more;
      placed = insert_placed;
      first = insert_first;
      near = λ e others. e;
      stand = onward quotes before insert_joints quotes befores.Other behind_text
          (λ after ends.
          value_stand (inside_of quotes) before gap terminals.Insert said Nothing inner [] (behind_text ++ after)
          (takes_there quotes quoted)
          (gap_there quotes gap (codes "#{") none white (ap is_white (first_byte (sign "#") (codes "{")))) refl)
          (behind_append befores.Other list (closed ∷ []));
    }
