-- Brackets in raw text, as they are written around other raw text.
use Rattle.std.proofs.Common.{◌≡◌, inl, ◌<◌, ℕ, suc, ◌+◌, ◌-◌, Bool, true, false, List, [], ◌∷◌, ◌++◌, length, Some, None, refl, sym, ◌∙◌, ap, subst, arith, append_assoc, append-nil, length-append, lit<}
use Rattle.std.specs.List.{list_all}
use Rattle.sw_parse_lexemes.specs.declared.state.Walk.TheVariants as walks
use Rattle.sw_convert_heads_passing.specs.Rules.{walked}
use Rattle.sw_convert_texts.specs.RuleTexts.{bracket_sort}
use Rattle.sw_convert_texts.proofs.RawHeads.{Walks}
use Rattle.sw_text_scan.specs.Bytes.{sign, byte, is_white}
use Rattle.sw_tokens.specs.declared.pieces.Before.{Before}
use Rattle.sw_tokens.specs.declared.pieces.Before.TheVariants as befores
use Rattle.sw_tokens.specs.declared.pieces.Change.TheVariants as changes
use Rattle.sw_tokens.specs.declared.skips.Inside.TheVariants as insides
use Rattle.sw_tokens.specs.declared.token.TokenKind.{TokenKind}
use Rattle.sw_tokens.specs.declared.token.TokenKind.TheVariants as kinds
use Rattle.sw_tokens.specs.Ends.{opens}
use Rattle.sw_tokens.specs.Pieces.{made, piece}
use Rattle.sw_tokens.specs.Tokens.{before_of, is_spaced}
use Rattle.sw_parse_terminals.specs.declared.terminal.Terminal.{Terminal}
use Rattle.sw_parse_terminals.specs.declared.terminal.Terminal.TheVariants as terminals
use Rattle.sw_parse_terminals.specs.Numbers.{just}
use Rattle.sw_parse_lexemes.specs.declared.sort.Sort.TheVariants as sorts
use Rattle.sw_parse_lexemes.specs.declared.state.Mode.{Mode}
use Rattle.sw_parse_lexemes.specs.declared.state.Mode.TheVariants as modes
use Rattle.sw_parse_lexemes.specs.Brackets.{is_custom}
use Rattle.sw_parse_lexemes.specs.Classes.{is_comment, same}
use Rattle.sw_parse_lexemes.specs.Sorts.{sort_of}
use Rattle.sw_parse_table.specs.declared.source.Source.{Source}
use Rattle.sw_parse_table.specs.Parts.{Part}
use Rattle.sw_parse_table.specs.Sources.{Texts, begun, from_at, to_at, bytes_at}
use Rattle.sw_convert_spelling.specs.Spelt.{behind_gap}
use Rattle.sw_convert_spelling.proofs.MovedRuns.{first_byte}
use Rattle.sw_convert_passing.specs.Written.{Written, written}
use Rattle.sw_convert_passing.specs.Values.{enclosed}
use Rattle.sw_convert_heads_passing.specs.RawTexts.{Around, RawText}
use Rattle.sw_convert_heads_passing.specs.RawTexts as told
use Rattle.sw_convert_again.specs.Tokens.{Said, Nothing, Extent, shifted, Tok, tok, Old, saying}
use Rattle.sw_convert_again.specs.Tokens as again
use Rattle.sw_convert_again.specs.Spells.{within}
use Rattle.sw_convert_again.specs.RawTexts.{Brackets, parens, squares, braces, SpellsRawText, raw_brackets}
use Rattle.sw_convert_tokens.specs.Joints.{Seen, Joint, Token, text, toks, writtens, Stand, Sit}
use Rattle.sw_convert_tokens.proofs.Joins.{text_append, toks_append, writtens_append, behind_append, tell_append, stand_append, sit_left}
use Rattle.sw_convert_tokens.proofs.Signs.{lone_token}
use Rattle.sw_convert_tokens.proofs.Loud.{seen_by}
use Rattle.sw_convert_texts.specs.RawKinds.{gap_before, row_text, opening_text, closing_text, is_bracketed}
use Rattle.sw_convert_texts.proofs.AroundTexts.{lones, around_texts, CutFrom, cut_token, first_token}
use Rattle.sw_convert_texts.proofs.RawOlds.{row_cut, AreBrackets}
use Rattle.sw_convert_texts.proofs.RawSits.{shifted_twice, ends_append, at_next, own_sits, step_sits, sit_right, sit_end, sit_first}
use Rattle.sw_convert_texts.proofs.RawRows.{Begun, IsRaw, ItemIs, Placed, RowIs, StandBefore, onward, TellBefore, row_leaves, spelt_one, white_gap}

-- a bracket, a token whatever stands behind it
record Lone (own : List ℕ) (kind : TokenKind) : Type 0 where
  closed : opens kind ≡ false
  seen : is_comment (sort_of kind own) ≡ false
  other : before_of (Some kind) ≡ befores.Other
  black : is_white (byte own 0) ≡ false
  some : 0 < length own
  token : (before : Before) (after : List ℕ) → piece (own ++ after) insides.Sheet before 0 ≡ made kind (length own) changes.Keep

abbrev opening_kind : {opening closing : Terminal} → Brackets opening closing → TokenKind
opening_kind parens = kinds.OpenParen
opening_kind squares = kinds.OpenBracket
opening_kind braces = kinds.OpenBrace

abbrev closing_kind : {opening closing : Terminal} → Brackets opening closing → TokenKind
closing_kind parens = kinds.CloseParen
closing_kind squares = kinds.CloseBracket
closing_kind braces = kinds.CloseBrace

black_byte : (b : ℕ) → is_white b ≡ false → is_white (byte (b ∷ []) 0) ≡ false
black_byte b e = ap is_white (first_byte b []) ∙ e

opening_lone : {opening closing : Terminal} (kind : Brackets opening closing) → Lone (opening_text kind) (opening_kind kind)
opening_lone parens = record {
  closed = refl;
  seen = refl;
  other = refl;
  black = black_byte (sign "(") refl;
  some = lit< tt;
  token = λ before after. lone_token (sign "(") insides.Sheet before after refl refl;
}
opening_lone squares = record {
  closed = refl;
  seen = refl;
  other = refl;
  black = black_byte (sign "[") refl;
  some = lit< tt;
  token = λ before after. lone_token (sign "[") insides.Sheet before after refl refl;
}
opening_lone braces = record {
  closed = refl;
  seen = refl;
  other = refl;
  black = black_byte (sign "{") refl;
  some = lit< tt;
  token = λ before after. lone_token (sign "{") insides.Sheet before after refl refl;
}

closing_lone : {opening closing : Terminal} (kind : Brackets opening closing) → Lone (closing_text kind) (closing_kind kind)
closing_lone parens = record {
  closed = refl;
  seen = refl;
  other = refl;
  black = black_byte (sign ")") refl;
  some = lit< tt;
  token = λ before after. lone_token (sign ")") insides.Sheet before after refl refl;
}
closing_lone squares = record {
  closed = refl;
  seen = refl;
  other = refl;
  black = black_byte (sign "]") refl;
  some = lit< tt;
  token = λ before after. lone_token (sign "]") insides.Sheet before after refl refl;
}
closing_lone braces = record {
  closed = refl;
  seen = refl;
  other = refl;
  black = black_byte (sign "}") refl;
  some = lit< tt;
  token = λ before after. lone_token (sign "}") insides.Sheet before after refl refl;
}

-- ---- to the pass over tokens

custom_braces : (mode : Mode) → is_custom mode ≡ true → (around : Around) (spaced blank : Bool) (opening closing : Terminal)
    (inside rest : List Written) → ((a : Around) → RawText mode a inside) → RawText mode around rest
    → opening ≡ terminals.RawBrace → closing ≡ terminals.RawBraceEnd
    → RawText mode around
    (enclosed (written sorts.OpenBrace spaced opening) inside (written sorts.CloseBrace blank closing) rest)
custom_braces modes.Custom e around spaced blank opening closing inside rest all more o c =
    subst (λ (t : Terminal). RawText modes.Custom around (enclosed (written sorts.OpenBrace spaced t) inside (written sorts.CloseBrace blank closing) rest)) (sym o)
    (subst (λ (t : Terminal). RawText modes.Custom around (enclosed (written sorts.OpenBrace spaced terminals.RawBrace) inside (written sorts.CloseBrace blank t) rest)) (sym c)
    (told.raw_braces blank (all told.Braces) more))
custom_braces _ e around spaced blank opening closing inside rest all more o c = absurd (cc)

enclosed_raw : (mode : Mode) {opening closing : Terminal} (kind : Brackets opening closing) → is_bracketed mode kind ≡ true
    → (own other : List ℕ) (around : Around) (spaced blank : Bool) (inside rest : List Written)
    → ((a : Around) → RawText mode a inside) → RawText mode around rest
    → RawText mode around
    (enclosed (written (sort_of (opening_kind kind) own) spaced opening) inside
    (written (sort_of (closing_kind kind) other) blank closing) rest)
enclosed_raw mode parens e own other around spaced blank inside rest all more = told.raw_parens blank (all told.Parens) more
enclosed_raw mode squares e own other around spaced blank inside rest all more = told.raw_squares blank (all told.Squares) more
enclosed_raw mode braces e own other around spaced blank inside rest all more =
    custom_braces mode e around spaced blank terminals.RawBrace terminals.RawBraceEnd inside rest all more refl refl

-- a bracket more is open within
one_less : (count : ℕ) → (count + 1) - 1 ≡ count
one_less count = omega arith

-- none is a brace where braces aren't text
enclosed_walks : (mode : Mode) {opening closing : Terminal} (kind : Brackets opening closing) → is_bracketed mode kind ≡ true
    → is_custom mode ≡ false → (own other : List ℕ) (spaced blank : Bool) (first last : Terminal) (inside : List Written) → Walks inside
    → (count : ℕ) (rest : List Written)
    → walked walks.Sign count
    (enclosed (written (sort_of (opening_kind kind) own) spaced first) inside
    (written (sort_of (closing_kind kind) other) blank last) rest)
    ≡ walked walks.Sign count rest
enclosed_walks mode parens e plain own other spaced blank first last inside inner count rest =
    inner (count + 1) (written sorts.CloseParen blank last ∷ rest) ∙ ap (λ (n : ℕ). walked walks.Sign n rest) (one_less count)
enclosed_walks mode squares e plain own other spaced blank first last inside inner count rest =
    inner (count + 1) (written sorts.CloseBracket blank last ∷ rest) ∙ ap (λ (n : ℕ). walked walks.Sign n rest) (one_less count)
enclosed_walks mode braces e plain own other spaced blank first last inside inner count rest =
    absurd (let wrong : true ≡ false = sym e ∙ plain in cc)

opening_sort : {opening closing : Terminal} (kind : Brackets opening closing) (own : List ℕ)
    → sort_of (opening_kind kind) own ≡ bracket_sort kind
opening_sort parens own = refl
opening_sort squares own = refl
opening_sort braces own = refl

no_insert : {opening closing : Terminal} (kind : Brackets opening closing) → same (bracket_sort kind) sorts.OpenInsert ≡ false
no_insert parens = refl
no_insert squares = refl
no_insert braces = refl

-- ---- brackets around items

module _ (source : Source) (mode : Mode) {i c : ℕ} {opening closing : Terminal} {parts : List Part} {tokens : List Tok}
    {extents : List Extent} (kind : Brackets opening closing) (are : AreBrackets source mode i c kind)
    (row : SpellsRawText source (suc i) c parts tokens extents) (behind_text : List ℕ) (before : Before) (gap : List ℕ)
    (said : Said) (inner_white : list_all is_white (gap_before source c) ≡ true)
    (inner : RowIs source mode row None befores.Other (gap_before source c ++ (bytes_at source c ++ behind_text))) where
  first : Lone (bytes_at source i) (opening_kind kind)
  first = subst (λ (own : List ℕ). Lone own (opening_kind kind)) (sym are.opening_is) (opening_lone kind)

  last : Lone (bytes_at source c) (closing_kind kind)
  last = subst (λ (own : List ℕ). Lone own (closing_kind kind)) (sym are.closing_is) (closing_lone kind)

  abbrev opened : Seen
  opened = record {
    gap = gap;
    kind = opening_kind kind;
    bytes = bytes_at source i;
    change = changes.Keep;
    spaced = is_spaced (behind_gap before gap);
    may_be = opening ∷ [];
    said = said;
  }

  -- what stands directly before the white space before it
  abbrev inner_end : Before
  inner_end = row_leaves befores.Other row

  abbrev closed : Seen
  closed = record {
    gap = gap_before source c;
    kind = closing_kind kind;
    bytes = bytes_at source c;
    change = changes.Keep;
    spaced = is_spaced (behind_gap inner_end (gap_before source c));
    may_be = closing ∷ [];
    said = Nothing;
  }

  abbrev list : List Joint
  list = inner.joints

  abbrev rest_joints : List Joint
  rest_joints = list ++ Token closed ∷ []

  abbrev all_joints : List Joint
  all_joints = Token opened ∷ rest_joints

  abbrev all_tokens : List Tok
  all_tokens = within (again.sign opening) tokens closing

  abbrev cut_inside : Texts → Texts
  cut_inside cuts = row_cut source row (begun (gap_before source c) (begun (bytes_at source c) cuts))

  abbrev text_inside : List ℕ → List ℕ
  text_inside rest = row_text source row (gap_before source c ++ (bytes_at source c ++ rest))

  all_long : length all_tokens ≡ 2 + length tokens
  all_long =
      let long = length-append tokens (again.sign closing ∷ []) in omega (arith, long)

  all_spelling : (rest : List ℕ) → text all_joints ++ rest ≡ gap ++ (bytes_at source i ++ text_inside rest)
  all_spelling rest =
      append_assoc gap (bytes_at source i ++ text rest_joints) rest
      ∙ ap (λ (t : List ℕ). gap ++ t) (append_assoc (bytes_at source i) (text rest_joints) rest)
      ∙ ap (λ (t : List ℕ). gap ++ (bytes_at source i ++ t))
      (ap (λ (t : List ℕ). t ++ rest) (text_append list (Token closed ∷ []))
      ∙ append_assoc (text list) (gap_before source c ++ (bytes_at source c ++ [])) rest
      ∙ ap (λ (t : List ℕ). text list ++ t) (spelt_one (gap_before source c) (bytes_at source c) rest)
      ∙ inner.spelling (gap_before source c ++ (bytes_at source c ++ rest)))

  all_seen : toks all_joints ≡ saying said all_tokens
  all_seen =
      ap (λ (t : List Tok). tok opening said ∷ t)
      (toks_append list (Token closed ∷ []) ∙ ap (λ (t : List Tok). t ++ again.sign closing ∷ []) inner.seen)

  inside_raw : (around : Around) → RawText mode around (writtens list)
  inside_raw around =
      subst (RawText mode around) (append-nil (writtens list)) (inner.raw around [] told.raw_end)

  all_raw : IsRaw mode all_joints
  all_raw around rest more =
      let one : Written = written (sort_of (opening_kind kind) (bytes_at source i)) opened.spaced opening in
      let two : Written = written (sort_of (closing_kind kind) (bytes_at source c)) closed.spaced closing in
      subst (RawText mode around)
      (sym (ap (λ (t : List Written). one ∷ t)
      (ap (λ (t : List Written). t ++ rest) (writtens_append list (Token closed ∷ []))
      ∙ append_assoc (writtens list) (two ∷ []) rest)))
      (enclosed_raw mode kind are.bracketed (bytes_at source i) (bytes_at source c) around opened.spaced closed.spaced (writtens list)
      rest inside_raw more)

  -- a walk goes over them with what they hold
  all_walks : is_custom mode ≡ false → Walks (writtens all_joints)
  all_walks plain count rest =
      let one : Written = written (sort_of (opening_kind kind) (bytes_at source i)) opened.spaced opening in
      let two : Written = written (sort_of (closing_kind kind) (bytes_at source c)) closed.spaced closing in
      ap (λ (t : List Written). walked walks.Sign count (one ∷ (t ++ rest))) (writtens_append list (Token closed ∷ []))
      ∙ ap (λ (t : List Written). walked walks.Sign count (one ∷ t)) (append_assoc (writtens list) (two ∷ []) rest)
      ∙ enclosed_walks mode kind are.bracketed plain (bytes_at source i) (bytes_at source c) opened.spaced closed.spaced opening
      closing (writtens list) (inner.walks plain) count rest

  all_tells : TellBefore said all_joints
  all_tells others more says = (
    says,
    tell_append rest_joints others
        (tell_append list (Token closed ∷ []) inner.tells (λ new commented at front after sit. tt, tt)) more,
  )

  -- what stands behind the opening bracket
  inside_placed : (new : Source) (k : ℕ) (front after : List ℕ) (to end : ℕ) (more : List Extent) (cuts : Texts)
      → to_at new k ≡ length front → Sit new false (suc k) front rest_joints after
      → CutFrom new to end (suc (k + length tokens)) more cuts
      → CutFrom new to end k (shifted (suc k) extents ++ more) (cut_inside cuts)
  inside_placed new k front after to end more cuts here sit rest =
      let left = sit_left new false (suc k) front list (Token closed ∷ []) after sit in
      let right = sit_right new false (suc k) front list (Token closed ∷ []) after sit in
      let long : length (toks list) ≡ length tokens = ap length inner.seen in
      let m = k + length (toks list) in
      let there : to_at new m ≡ length (front ++ text list) =
      sit_end new false k front list (text (Token closed ∷ []) ++ after) (λ f. here) left inner.ended in
      let close : Sit new false (suc m) (front ++ text list) (Token closed ∷ []) after =
      subst (λ (n : ℕ). Sit new false n (front ++ text list) (Token closed ∷ []) after)
      (let z : suc k + length (toks list) ≡ suc (k + length (toks list)) = omega arith in z)
      (subst (λ (b : Bool). Sit new b (suc k + length (toks list)) (front ++ text list) (Token closed ∷ []) after) inner.ended right) in
      let cut : CutFrom new to end m more (begun (gap_before source c) (begun (bytes_at source c) cuts)) =
      cut_token new to end m (gap_before source c) (bytes_at source c) more cuts
      (step_sits new m (front ++ text list) closed after there close.0)
      (subst (λ (n : ℕ). CutFrom new to end n more cuts)
      (let z : suc (k + length tokens) ≡ suc (k + length (toks list)) = omega (arith, long) in z) rest) in
      inner.placed new k front (text (Token closed ∷ []) ++ after) to end more
      (begun (gap_before source c) (begun (bytes_at source c) cuts)) here left
      (subst (λ (n : ℕ). CutFrom new to end n more (begun (gap_before source c) (begun (bytes_at source c) cuts)))
      (let z : k + length (toks list) ≡ k + length tokens = omega (arith, long) in z) cut)

  all_placed : Placed all_joints (length all_tokens) (shifted 1 extents)
      (λ cuts. begun gap (begun (bytes_at source i) (cut_inside cuts)))
  all_placed new at front after to end more cuts here sit rest =
      let long = all_long in
      let begins = front ++ gap in
      let there = at_next new (suc at) begins opened (text rest_joints ++ after) false sit.0 in
      let cut = inside_placed new (suc at) (begins ++ bytes_at source i) after to end more cuts there sit.1
      (subst (λ (n : ℕ). CutFrom new to end n more cuts)
      (let z : at + length all_tokens ≡ suc (suc at + length tokens) = omega (arith, long) in z) rest) in
      subst (λ (list : List Extent). CutFrom new to end at (list ++ more) (begun gap (begun (bytes_at source i) (cut_inside cuts))))
      (sym (shifted_twice (suc at) 1 (suc (suc at)) extents (let z : suc at + 1 ≡ suc (suc at) = omega arith in z)))
      (cut_token new to end at gap (bytes_at source i) (shifted (suc (suc at)) extents ++ more) (cut_inside cuts)
      (step_sits new at front opened (text rest_joints ++ after) here sit.0) cut)

  all_first : Begun all_joints (length all_tokens) (shifted 1 extents) (λ cuts. begun (bytes_at source i) (cut_inside cuts))
  all_first new commented at front after to end more cuts sit rest =
      let long = all_long in
      let begins = front ++ gap in
      let own = own_sits new at begins opened (text rest_joints ++ after) commented sit.0 in
      let there = at_next new at begins opened (text rest_joints ++ after) commented sit.0 in
      let cut = inside_placed new at (begins ++ bytes_at source i) after to end more cuts there sit.1
      (subst (λ (n : ℕ). CutFrom new to end n more cuts)
      (let z : (at + length all_tokens) - 1 ≡ suc (at + length tokens) = omega (arith, long) in z) rest) in
      ap (λ (list : List Extent). around_texts new (record { from = from_at new at; to = to; first = at; end = end }) (list ++ more))
      (shifted_twice at 1 (suc at) extents (let z : at + 1 ≡ suc at = omega arith in z))
      ∙ first_token new to end at (shifted (suc at) extents ++ more) (cut_inside cuts) own.high cut
      ∙ ap (λ (t : List ℕ). lones (begun t (cut_inside cuts))) own.text_is

  -- ---- as tokens

  close_stand : (after : List ℕ) → Stand [] inner_end (Token closed ∷ []) [] (behind_text ++ after)
  close_stand after = (
    white_gap (gap_before source c) (bytes_at source c) inner_white last.black,
    last.some,
    (refl, seen_by (sort_of (closing_kind kind) (bytes_at source c)) (closing ∷ []) last.seen),
    λ e. absurd (let no : true ≡ false = sym e ∙ last.closed in cc),
    last.token (behind_gap inner_end (gap_before source c)) (behind_text ++ after),
    refl,
  )

  inside_text : (after : List ℕ)
      → (gap_before source c ++ (bytes_at source c ++ behind_text)) ++ after
      ≡ (gap_before source c ++ (bytes_at source c ++ [])) ++ (behind_text ++ after)
  inside_text after =
      append_assoc (gap_before source c) (bytes_at source c ++ behind_text) after
      ∙ ap (λ (t : List ℕ). gap_before source c ++ t) (append_assoc (bytes_at source c) behind_text after)
      ∙ sym (spelt_one (gap_before source c) (bytes_at source c) (behind_text ++ after))

  all_stand : list_all is_white gap ≡ true → StandBefore None before all_joints None behind_text
  all_stand white after ends = (
    white_gap gap (bytes_at source i) white first.black,
    first.some,
    (refl, seen_by (sort_of (opening_kind kind) (bytes_at source i)) (opening ∷ []) first.seen),
    λ e. absurd (let no : true ≡ false = sym e ∙ first.closed in cc),
    first.token (behind_gap before gap) (text rest_joints ++ (behind_text ++ after)),
    subst (λ (b : Before). Stand [] b rest_joints [] (behind_text ++ after)) (sym first.other)
        (stand_append [] [] [] befores.Other list (Token closed ∷ []) (behind_text ++ after)
        (subst (Stand [] befores.Other list []) (inside_text after) (inner.stand after ends))
        (subst (λ (b : Before). Stand [] b (Token closed ∷ []) [] (behind_text ++ after)) (sym inner.last) (close_stand after))),
  )

  pub brackets_is : (opens : Old source i (just opening)) (close : Old source c (just closing)) → list_all is_white gap ≡ true
      → ItemIs source mode (raw_brackets kind opens row close) None behind_text before gap said
  brackets_is opens close white = record {
    joints = all_joints;
    spelling = all_spelling;
    seen = all_seen;
    counted = ap length all_seen;
    last = behind_append (before_of (Some (opening_kind kind))) list (Token closed ∷ []) ∙ last.other;
    ended = λ b. ends_append false list (Token closed ∷ []);
    raw = all_raw;
    tells = all_tells;
    ends = λ new commented at front after sit.
        ap (λ (n : ℕ). to_at new ((at + n) - 1)) (sym (ap length all_seen))
        ∙ sit_first new commented at front opened rest_joints after sit (ends_append false list (Token closed ∷ []));
    head = record {
      head = written (sort_of (opening_kind kind) (bytes_at source i)) opened.spaced opening;
      tail = writtens rest_joints;
      is = refl;
      told = inl (opening_sort kind (bytes_at source i));
      digits_is = λ e. absurd (cc);
      spaced_is = refl;
    };
    one = λ e. absurd (cc);
    over = λ e more. absurd (let none = no_insert kind in let wrong : true ≡ false = sym e ∙ none in cc);
    walks = all_walks;
    placed = all_placed;
    first = all_first;
    near = λ e others. e;
    stand = onward None before all_joints None befores.Other behind_text (all_stand white)
        (behind_append (before_of (Some (opening_kind kind))) list (Token closed ∷ []) ∙ last.other);
  }
