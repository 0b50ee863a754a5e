-- Special functions are written as their tokens.
use Rattle.std.proofs.Common.{◌≡◌, ℕ, suc, ◌+◌, ◌-◌, Bool, true, false, ◌&&◌, List, [], ◌∷◌, ◌++◌, length, refl, sym, ◌∙◌, ap, subst, arith, append_assoc, append-nil}
use Rattle.std.specs.Prelude.{bytes_eq, codes}
use Rattle.sw_text.specs.declared.place.Span.{Span}
use Rattle.sw_text_scan.specs.Bytes.{sign, byte}
use Rattle.sw_text_scan.proofs.Bounds.{and_left, and_right}
use Rattle.sw_tree.specs.declared.expr.ExprKind.TheVariants as exprs
use Rattle.sw_tokens.specs.declared.pieces.Before.{Before}
use Rattle.sw_tokens.specs.declared.pieces.Before.TheVariants as befores
use Rattle.sw_tokens.specs.declared.pieces.Change.TheVariants as changes
use Rattle.sw_tokens.specs.declared.skips.Inside.{Inside}
use Rattle.sw_tokens.specs.declared.token.TokenKind.TheVariants as kinds
use Rattle.sw_tokens.specs.Tokens.{is_spaced}
use Rattle.sw_parse_terminals.specs.declared.terminal.Terminal.TheVariants as terminals
use Rattle.sw_parse_terminals.specs.Numbers.{just}
use Rattle.sw_parse_lexemes.specs.declared.sort.Sort.{Sort}
use Rattle.sw_parse_lexemes.specs.declared.sort.Sort.TheVariants as sorts
use Rattle.sw_parse_lexemes.specs.declared.state.Mode.TheVariants as modes
use Rattle.sw_parse_lexemes.specs.Classes.{is_name}
use Rattle.sw_parse_lexemes.specs.Names.{is_special_name}
use Rattle.sw_parse_table.specs.declared.source.Source.{Source}
use Rattle.sw_parse_table.specs.Parts.{Part}
use Rattle.sw_parse_table.specs.Sources.{Texts, begun, to_at, bytes_at, parts_between, stretch_between}
use Rattle.sw_parse_table.specs.Values.{expression}
use Rattle.sw_convert_spelling.specs.Spelt.{behind_gap, innermost, is_sheet_code}
use Rattle.sw_convert_spelling.proofs.MovedRuns.{first_byte}
use Rattle.sw_convert_written.specs.Expressions.{expr_text}
use Rattle.sw_convert_written.proofs.Unrolled as unrolled
use Rattle.sw_convert_passing.specs.Written.{Written, written, direct}
use Rattle.sw_convert_passing.specs.Values.{Value, special}
use Rattle.sw_convert_again.specs.Tokens.{Said, Says, Tok, tok, Extent, shifted, Old}
use Rattle.sw_convert_again.specs.Tokens as again
use Rattle.sw_convert_again.specs.Spells.{text_said, within, SpellsText}
use Rattle.sw_convert_tokens.specs.Joints.{Seen, Joint, Token, toks, writtens, Sit, Stand}
use Rattle.sw_convert_tokens.specs.Joints as joints
use Rattle.sw_convert_tokens.specs.Values.{WasRead}
use Rattle.sw_convert_tokens.specs.Written.{is_calm, gap_of, AsValue, WrittenAs}
use Rattle.sw_convert_tokens.proofs.Joins.{text_append, toks_append, writtens_append, behind_append, tell_append, stand_append, sit_left}
use Rattle.sw_convert_tokens.proofs.Signs.{gap_is}
use Rattle.sw_convert_texts.specs.RawKinds.{gap_before, sort_there}
use Rattle.sw_convert_texts.specs.Inserted.{TextHasValues}
use Rattle.sw_convert_texts.specs.Specials.{is_calmly_beside, special_text, text_front, name_ends, text_known, special_known, SpecialsAreWritten}
use Rattle.sw_convert_texts.proofs.JoinedTexts.{lone}
use Rattle.sw_convert_texts.proofs.AroundTexts.{lones, around_texts, CutFrom, cut_token, cut_end, first_token}
use Rattle.sw_convert_texts.proofs.JoinedPieces.{joined_end}
use Rattle.sw_convert_texts.proofs.RawWritten.{written_is, said_so}
use Rattle.sw_convert_texts.proofs.RawSits.{shifted_twice, at_next, own_sits, step_sits, sit_right, sit_end}
use Rattle.sw_convert_texts.proofs.SpecialOlds.{special_cut, calm_told, bytes_same, some_bytes, NameThere, name_there, From, token_from, old_text, Whole, old_whole}
use Rattle.sw_convert_texts.proofs.Specials.{front_same, mild_settled, seen_as, lone_stand, open_paren, close_paren, TextIs}
use Rattle.sw_convert_texts.proofs.SpecialTexts.{text_is_written}

special_name : (sort : Sort) → is_special_name sort ≡ true → (is_name sort ≡ true) × (sort ≡ sorts.Special)
special_name sorts.Special e = (refl, refl)
special_name _ e = absurd (cc)

-- what is told of the function
pub record IsTold (source : Source) {i k : ℕ} {parts : List Part} {tokens : List Tok} {extents : List Extent}
    (name : Old source i (just terminals.Special)) (inner : SpellsText source (suc (suc i)) k parts tokens extents) :
    Type 0 where
  pub is_name : is_name (sort_there name) ≡ true
  pub sort_is : sort_there name ≡ sorts.Special
  pub ends : name_ends (bytes_at source i) (sign "(") ≡ true
  pub beside : is_calmly_beside source (suc i) ≡ true
  pub gap : gap_before source (suc i) ≡ []
  pub opening : bytes_at source (suc i) ≡ codes "("
  pub last : is_calmly_beside source k ≡ true
  pub closing : bytes_at source k ≡ codes ")"
  pub known : text_known source inner false (bytes_at source i ++ codes "(") (gap_before source k ++ codes ")") ≡ true

pub told_of : (source : Source) {i k : ℕ} {parts : List Part} {tokens : List Tok} {extents : List Extent}
    (name : Old source i (just terminals.Special)) (inner : SpellsText source (suc (suc i)) k parts tokens extents)
    → special_known source name inner ≡ true → IsTold source name inner
told_of source {i} {k} name inner e =
    let special = special_name (sort_there name) (and_left (is_special_name (sort_there name)) _ e) in
    let ends = name_ends (bytes_at source i) (sign "(") in
    let none = bytes_eq (gap_before source (suc i)) [] in
    let opens = bytes_eq (bytes_at source (suc i)) (codes "(") in
    let shuts = bytes_eq (bytes_at source k) (codes ")") in
    let one = and_right (is_special_name (sort_there name)) _ e in
    let two = and_right ends _ one in
    let beside = and_left (is_calmly_beside source (suc i) && none) _ two in
    let three = and_right (is_calmly_beside source (suc i) && none) _ two in
    let four = and_right opens _ three in
    let five = and_right (is_calmly_beside source k) _ four in record {
      is_name = special.0;
      sort_is = special.1;
      ends = and_left ends _ one;
      beside = and_left (is_calmly_beside source (suc i)) none beside;
      gap = bytes_same (gap_before source (suc i)) [] (and_right (is_calmly_beside source (suc i)) none beside);
      opening = bytes_same (bytes_at source (suc i)) (codes "(") (and_left opens _ three);
      last = and_left (is_calmly_beside source k) _ four;
      closing = bytes_same (bytes_at source k) (codes ")") (and_left shuts _ five);
      known = and_right shuts _ five;
    }

module _ (source : Source) (was : WasRead source) {i k : ℕ} {parts : List Part} {tokens : List Tok} {extents : List Extent}
    (name : Old source i (just terminals.Special)) (inner : SpellsText source (suc (suc i)) k parts tokens extents)
    (told : IsTold source name inner) (has : TextHasValues inner) where
  abbrev end_gap : List ℕ
  end_gap = gap_before source k

  abbrev own : List ℕ
  own = bytes_at source i

  abbrev inside : List ℕ
  inside = special_text source inner (end_gap ++ codes ")")

  abbrev whole : List ℕ
  whole = own ++ (codes "(" ++ inside)

  -- the texts around the values in it, from the parenthesis on
  abbrev cuts : Texts
  cuts = begun (codes "(") (special_cut source inner (begun end_gap (begun (codes ")") (lone []))))

  it : TextIs source was inner false (end_gap ++ codes ")")
  it = text_is_written source was inner false (own ++ codes "(") (end_gap ++ codes ")") told.known has

  one : NameThere source was i name.lexeme
  one = name_there source was i name.lexeme name.there told.is_name

  abbrev tail : List Joint
  tail = Token (seen_as end_gap kinds.CloseParen (codes ")") terminals.RawParenEnd) ∷ []

  abbrev opener : Joint
  opener = Token (seen_as [] kinds.OpenParen (codes "(") terminals.RawParen)

  abbrev list : List Joint
  list = it.joints ++ tail

  -- ---- the old text

  abbrev to : ℕ
  to = to_at source (suc k - 1)

  abbrev end : ℕ
  end = suc k - 1

  abbrev FromThere : ℕ → List ℕ → List Part → Texts → List ℕ → Type 0
  FromThere = From source was to end

  from_name : FromThere (suc i - 1) own parts cuts (codes "(" ++ inside)
  from_name =
      let last : FromThere (suc k - 1) ((text_front source inner (own ++ codes "(") ++ end_gap) ++ codes ")") [] (lone []) [] = record {
        cut = cut_end source to end (suc k - 1) refl refl;
        joined = joined_end source to end (suc k - 1) ((text_front source inner (own ++ codes "(") ++ end_gap) ++ codes ")") refl refl;
      } in
      let closed = token_from source was to end k (suc k - 1) (codes ")") (text_front source inner (own ++ codes "(")) [] (lone []) []
      told.last told.closing refl (let z : suc k - 1 ≡ k = omega arith in z) last in
      let text = subst (λ (list : List Part). FromThere (suc (suc i) - 1) (own ++ codes "(") list (special_cut source inner (begun end_gap (begun (codes ")") (lone [])))) inside)
      (append-nil parts)
      (old_text source was to end inner false (own ++ codes "(") (end_gap ++ codes ")") told.known [] (begun end_gap (begun (codes ")") (lone []))) closed) in
      let opened = token_from source was to end (suc i) (suc (suc i) - 1) (codes "(") own parts (special_cut source inner (begun end_gap (begun (codes ")") (lone []))))
      inside told.beside told.opening refl (let z : suc (suc i) - 1 ≡ suc i = omega arith in z)
      (subst (λ (t : List ℕ). FromThere (suc (suc i) - 1) (t ++ codes "(") parts (special_cut source inner (begun end_gap (begun (codes ")") (lone [])))) inside)
      (sym (ap (λ (g : List ℕ). own ++ g) told.gap ∙ append-nil own)) text) in
      subst (λ (g : List ℕ). FromThere (suc i - 1) own parts (begun g cuts) (g ++ (codes "(" ++ inside))) told.gap opened

  old_whole_is : Whole source was to end i parts (begun own cuts) whole
  old_whole_is =
      old_whole source was to end i parts cuts (codes "(" ++ inside) (some_bytes own one.part.some)
      (subst (λ (m : ℕ). FromThere m own parts cuts (codes "(" ++ inside)) (let z : suc i - 1 ≡ i = omega arith in z) from_name)

  pub text_is : (span : Span) → expr_text (expression (exprs.Special (parts_between source i (suc k) parts)) span) ≡ whole
  text_is span =
      unrolled.special_is (parts_between source i (suc k) parts)
      ∙ written_is source modes.Raw i (suc k) parts (begun own cuts) whole
      (record { cut = old_whole_is.cut; seamed = record { is = old_whole_is.joined.is; loose = old_whole_is.joined.loose } })

  abbrev said : Said
  said = text_said source i (suc k) parts (shifted 2 extents) (3 + length tokens)

  abbrev name_seen : Before → Bool → Seen
  name_seen before spaced = record {
    gap = gap_of spaced;
    kind = one.part.kind;
    bytes = own;
    change = changes.Keep;
    spaced = is_spaced (behind_gap before (gap_of spaced));
    may_be = terminals.Special ∷ [];
    said = said;
  }

  -- what the first token says of the text that it begins
  says : (before : Before) (spaced : Bool) (new : Source) (commented : Bool) (at : ℕ) (front after : List ℕ)
      → Sit new commented at front (Token (name_seen before spaced) ∷ opener ∷ list) after → Says new at said
  says before spaced new commented at front after (first, (second, sit)) =
      let n = length tokens in
      let to_new = to_at new ((at + (3 + length tokens)) - 1) in
      let end_new = (at + (3 + length tokens)) - 1 in
      let open_seen = seen_as [] kinds.OpenParen (codes "(") terminals.RawParen in
      let shut_seen = seen_as end_gap kinds.CloseParen (codes ")") terminals.RawParenEnd in
      let front_name = (front ++ gap_of spaced) ++ own in
      let front_open = (front_name ++ []) ++ codes "(" in
      let here = at_next new at (front ++ gap_of spaced) (name_seen before spaced) (joints.text (opener ∷ list) ++ after) commented first in
      let opened = at_next new (suc at) (front_name ++ []) open_seen (joints.text list ++ after) false second in
      let counted : length (toks it.joints) ≡ n = ap length it.seen in
      let left = sit_left new false (suc (suc at)) front_open it.joints tail after sit in
      let right = sit_right new false (suc (suc at)) front_open it.joints tail after sit in
      let place : to_at new (suc at + n) ≡ length (front_open ++ joints.text it.joints) =
      ap (λ (m : ℕ). to_at new (suc at + m)) (sym counted)
      ∙ sit_end new false (suc at) front_open it.joints (joints.text tail ++ after) (λ f. opened) left it.ended_is in
      let last : Sit new false (suc (suc at + n)) (front_open ++ joints.text it.joints) tail after =
      subst (λ (m : ℕ). Sit new false m (front_open ++ joints.text it.joints) tail after)
      (let z : suc (suc at) + length (toks it.joints) ≡ suc (suc at + n) = omega (arith, counted) in z)
      (subst (λ (x : Bool). Sit new x (suc (suc at) + length (toks it.joints)) (front_open ++ joints.text it.joints) tail after)
      it.ended_is right) in
      let stop : (at + (3 + length tokens)) - 1 ≡ suc (suc at + n) = omega arith in
      let own_text = own_sits new at (front ++ gap_of spaced) (name_seen before spaced) (joints.text (opener ∷ list) ++ after) commented first in
      let cut : CutFrom new to_new end_new at (shifted (suc (suc at)) extents ++ []) cuts =
      cut_token new to_new end_new at [] (codes "(") (shifted (suc (suc at)) extents ++ [])
      (special_cut source inner (begun end_gap (begun (codes ")") (lone []))))
      (step_sits new at front_name open_seen (joints.text list ++ after) here second)
      (it.placed new (suc at) front_open (joints.text tail ++ after) to_new end_new [] (begun end_gap (begun (codes ")") (lone []))) opened left
      (cut_token new to_new end_new (suc at + n) end_gap (codes ")") [] (lone [])
      (step_sits new (suc at + n) (front_open ++ joints.text it.joints) shut_seen after place last.0)
      (cut_end new to_new end_new (suc (suc at + n)) (ap (to_at new) stop) stop))) in
      said_so source new i (suc k) at (3 + length tokens) parts (shifted 2 extents) (begun own cuts) old_whole_is.cut
      (ap (around_texts new (stretch_between new at (at + (3 + length tokens))))
      (shifted_twice at 2 (suc (suc at)) extents (let z : at + 2 ≡ suc (suc at) = omega arith in z)
      ∙ sym (append-nil (shifted (suc (suc at)) extents)))
      ∙ first_token new to_new end_new at (shifted (suc (suc at)) extents ++ []) cuts own_text.high cut
      ∙ ap (λ (t : List ℕ). lones (begun t cuts)) own_text.text_is)

  abbrev passed : Before → Bool → List Written
  passed before spaced = writtens (Token (name_seen before spaced) ∷ opener ∷ list)

  is_value : (before : Before) (spaced : Bool) → (mode : _) → Value mode (is_spaced (behind_gap before (gap_of spaced))) false (passed before spaced)
  is_value before spaced mode =
      let blank = is_spaced (behind_gap befores.Other end_gap) in
      let white = is_spaced (behind_gap before (gap_of spaced)) in
      subst
      (λ (s : Sort). Value mode white false (written s white terminals.Special ∷ direct sorts.OpenParen terminals.RawParen ∷ writtens list))
      (sym (one.sort_is ∙ told.sort_is))
      (subst
      (λ (l : List Written). Value mode white false (written sorts.Special white terminals.Special ∷ direct sorts.OpenParen terminals.RawParen ∷ l))
      (sym (writtens_append it.joints tail)) (special blank (it.special false)))

  stands : (before : Before) (spaced : Bool) → is_calm (behind_gap before (gap_of spaced)) ≡ true → (stack : List Inside)
      (after : List ℕ) → is_sheet_code (innermost stack) ≡ true
      → Stand stack before (Token (name_seen before spaced) ∷ opener ∷ list) stack after
  stands before spaced calm stack after code =
      let part = one.part in (
        gap_is (innermost stack) spaced own code part.black,
        part.some,
        (refl, part.seen),
        λ e. absurd (let no : true ≡ false = sym e ∙ part.closed in cc),
        part.token (joints.text (opener ∷ list) ++ after)
            (mild_settled own (joints.text (opener ∷ list) ++ after) (ap (name_ends own) (first_byte (sign "(") _) ∙ told.ends))
            (innermost stack) code (behind_gap before (gap_of spaced)) calm,
        subst (λ (x : Before). Stand stack x (opener ∷ list) stack after) (sym part.other)
            (lone_stand (sign "(") open_paren [] terminals.RawParen stack list after code refl
            (stand_append stack stack stack befores.Other it.joints tail after
            (it.stand stack (joints.text tail ++ after) code
            (ap (λ (xs : List ℕ). byte xs 0) (append_assoc end_gap (codes ")") after)
            ∙ front_same end_gap _ _ (first_byte (sign ")") _ ∙ sym (first_byte (sign ")") _))))
            (subst (λ (x : Before). Stand stack x tail stack after) (sym it.last)
            (lone_stand (sign ")") close_paren end_gap terminals.RawParenEnd stack [] after code (calm_told source k told.last).white refl)))),
      )

  pub function_written : (span : Span)
      → WrittenAs (AsValue false) (expr_text (expression (exprs.Special (parts_between source i (suc k) parts)) span))
      (tok terminals.Special said ∷ within (again.sign terminals.RawParen) tokens terminals.RawParenEnd)
  function_written span before spaced calm = record {
    passed = passed before spaced;
    segment = record {
      joints = Token (name_seen before spaced) ∷ opener ∷ list;
      spelling = ap (λ (t : List ℕ). gap_of spaced ++ (own ++ (codes "(" ++ t))) (text_append it.joints tail ∙ it.spelling (end_gap ++ codes ")"))
          ∙ ap (λ (t : List ℕ). gap_of spaced ++ t) (sym (text_is span));
      seen = ap (λ (l : List Tok). tok terminals.Special said ∷ again.sign terminals.RawParen ∷ l)
          (toks_append it.joints tail ∙ ap (λ (l : List Tok). l ++ again.sign terminals.RawParenEnd ∷ []) it.seen);
      written = refl;
      last = ap (λ (x : Before). joints.behind x (opener ∷ list)) one.part.other
          ∙ behind_append befores.Other it.joints tail ∙ ap (λ (x : Before). joints.behind x tail) it.last;
      tells = (
        λ new commented at front after sit. says before spaced new commented at front after sit,
        (
          λ new commented at front after sit. tt,
          tell_append it.joints tail it.tells (λ new commented at front after sit. tt, tt),
        ),
      );
      stand = λ stack after code f. stands before spaced calm stack after code;
    };
    told = λ mode free. is_value before spaced mode;
  }

pub specials_written : SpecialsAreWritten
specials_written source i k span parts tokens extents was name inner known has =
    function_written source was name inner (told_of source name inner known) has span
