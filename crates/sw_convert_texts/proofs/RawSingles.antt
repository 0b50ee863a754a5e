-- A token of raw text as it is written, in a string with `#{}` and outside.
use Rattle.std.proofs.Common.{◌≡◌, ◌<◌, inl, inr, ℕ, suc, ◌+◌, ◌-◌, Bool, true, false, ◌&&◌, ◌||◌, if◌then◌else◌, List, [], ◌∷◌, ◌++◌, length, Option, Some, None, refl, sym, ◌∙◌, ap, subst, arith, append_assoc}
use Rattle.std.specs.Prelude.{◌==◌, bytes_eq}
use Rattle.std.specs.List.{list_all}
use Rattle.std.proofs.lemmas.Bool.Decides.{nat_tests}
use Rattle.std.proofs.lemmas.Slice.Eq.{bytes_eq-Decides}
use Rattle.sw_text_scan.specs.declared.signs.TheConstants.{END}
use Rattle.sw_text_scan.specs.Bytes.{sign, byte, is_white, is_quote, opens_at}
use Rattle.sw_text_scan.proofs.Bounds.{and_left, and_right}
use Rattle.sw_tokens.specs.declared.pieces.Before.{Before}
use Rattle.sw_tokens.specs.declared.pieces.Change.{Change}
use Rattle.sw_tokens.specs.declared.pieces.Change.TheVariants as changes
use Rattle.sw_tokens.specs.declared.skips.Inside.TheVariants as insides
use Rattle.sw_tokens.specs.declared.token.TokenKind.{TokenKind}
use Rattle.sw_tokens.specs.declared.token.TokenKind.TheVariants as kinds
use Rattle.sw_tokens.specs.Decoded.{decoded}
use Rattle.sw_tokens.specs.Pieces.{made, piece}
use Rattle.sw_tokens.specs.Tokens.{before_of, is_spaced}
use Rattle.sw_parse_terminals.specs.declared.terminal.Terminal.TheVariants as terminals
use Rattle.sw_parse_terminals.specs.Numbers.{just}
use Rattle.sw_parse_lexemes.specs.declared.sort.Sort.{Sort}
use Rattle.sw_parse_lexemes.specs.declared.sort.Sort.TheVariants as sorts
use Rattle.sw_parse_lexemes.specs.declared.state.Mode.{Mode}
use Rattle.sw_parse_lexemes.specs.Classes.{is_number, same}
use Rattle.sw_parse_lexemes.specs.Sorts.{sort_of}
use Rattle.sw_parse_table.specs.declared.source.Source.{Source}
use Rattle.sw_parse_table.specs.Sources.{begun, bytes_at}
use Rattle.sw_convert_spelling.specs.Spelt.{behind_gap, is_gap}
use Rattle.sw_convert_spelling.proofs.Choices.{left_no}
use Rattle.sw_convert_passing.specs.Written.{Written, written}
use Rattle.sw_convert_heads_passing.specs.RawTexts.{Around, RawText}
use Rattle.sw_convert_heads_passing.specs.RawTexts as told
use Rattle.sw_convert_again.specs.Tokens.{Said, Old}
use Rattle.sw_convert_again.specs.RawTexts.{raw_token}
use Rattle.sw_convert_tokens.specs.Joints.{Seen, Token, text, written_of}
use Rattle.sw_convert_tokens.specs.Values.{WasRead}
use Rattle.sw_convert_texts.specs.RawKinds.{is_digits, sort_behind, sort_there, is_some, token_stays, stands_behind, is_held, ends_held, is_opening, opens_string, told_in, open_behind, is_closed, item_known}
use Rattle.sw_convert_texts.proofs.AroundTexts.{lones, CutFrom, cut_token, first_token}
use Rattle.sw_convert_texts.proofs.RawStrings.{white_quote, opening_token, held_token, closing_token}
use Rattle.sw_convert_texts.proofs.RawHeads.{ToldSort, is_neutral, one_walks}
use Rattle.sw_convert_texts.proofs.RawSits.{own_sits, step_sits, sit_first}
use Rattle.sw_convert_texts.proofs.RawTokens.{stays_behind}
use Rattle.sw_convert_texts.proofs.RawTokens as raw_tokens
use Rattle.sw_convert_texts.proofs.RawRows.{StandOnward, onward, ItemIs, white_gap, spelt_one}

-- no token alone is a `#{`
no_insert : (sort new : Sort) → ToldSort sort new → is_neutral new ≡ true → same sort sorts.OpenInsert ≡ true → ⊥
no_insert sorts.OpenInsert new (inl e) neutral f = let wrong : true ≡ false = sym neutral ∙ ap is_neutral e in cc
no_insert sorts.OpenInsert new (inr (l, m)) neutral f = let wrong : false ≡ true = l in cc
no_insert _ new told_new neutral f = let wrong : false ≡ true = f in cc

-- what a token is to the pass over tokens, and what it leaves before others
record TokenAs (sort : Sort) (text : List ℕ) : Type 0 where
  kind : TokenKind
  other : before_of (Some kind) ≡ sort_behind sort
  raw : (mode : Mode) (around : Around) (spaced : Bool) (rest : List Written) → RawText mode around rest
      → RawText mode around (written (sort_of kind text) spaced terminals.Raw ∷ rest)
  told : ToldSort sort (sort_of kind text)
  digits : (is_number sort && is_digits text) ≡ true → sort_of kind text ≡ sorts.Digits
  neutral : is_neutral (sort_of kind text) ≡ true

-- ---- tokens of strings

equal : (xs ys : List ℕ) → bytes_eq xs ys ≡ true → xs ≡ ys
equal xs ys e = (bytes_eq-Decides xs ys).0 e

-- the quote before one, wherever it stands
opening_at : (text behind after : List ℕ) (before : Before) → opens_string text behind ≡ true
    → piece (text ++ (behind ++ after)) insides.Sheet before 0
    ≡ made kinds.Template (length text) (changes.Push (insides.Quotes (byte text 0)))
opening_at text behind after before e =
    let is = equal text (byte text 0 ∷ []) (and_left (bytes_eq text (byte text 0 ∷ [])) _ e) in
    let rest = and_right (bytes_eq text (byte text 0 ∷ [])) _ e in
    let q = byte text 0 in
    ap (λ (t : List ℕ). piece (t ++ (behind ++ after)) insides.Sheet before 0) is
    ∙ opening_token q behind after before (and_left (is_quote q) _ rest) (and_right (is_quote q) _ rest)
    ∙ ap (λ (n : ℕ). made kinds.Template n (changes.Push (insides.Quotes q))) (sym (ap length is))

closing_at : (q : ℕ) (text after : List ℕ) (before : Before) → bytes_eq text (q ∷ []) ≡ true
    → piece (text ++ after) (insides.Quotes q) before 0 ≡ made kinds.TemplateEnd (length text) changes.Pop
closing_at q text after before e =
    let is = equal text (q ∷ []) e in
    ap (λ (t : List ℕ). piece (t ++ after) (insides.Quotes q) before 0) is
    ∙ closing_token q after before
    ∙ ap (λ (n : ℕ). made kinds.TemplateEnd n changes.Pop) (sym (ap length is))

-- what ends text in a string ends it with anything behind it
ends_more : (q : ℕ) (behind after : List ℕ) → is_quote q ≡ true → ends_held q behind ≡ true → ends_held q (behind ++ after) ≡ true
unfolding byte
ends_more q [] after quote e = absurd (let none = no_end q quote in let wrong : true ≡ false = sym e ∙ ap (λ (t : Bool). t || opens_at [] 0) none in cc)
  where
    no_end : (q : ℕ) → is_quote q ≡ true → (END == q) ≡ false
    no_end q e = grind (arith, nat_tests)
ends_more q (b ∷ []) after quote e = first (b == q) (b == sign "#") e
  where
    first : (t u : Bool) → (t || (u && (END == sign "{"))) ≡ true → (t || opens_at (b ∷ after) 0) ≡ true
    first true u f = refl
    first false true f = absurd (let wrong : false ≡ true = f in cc)
    first false false f = absurd (let wrong : false ≡ true = f in cc)
ends_more q (b ∷ c ∷ behind) after quote e = e

some_text : (text : List ℕ) → is_some text ≡ true → 0 < length text
some_text [] e = absurd (cc)
some_text (b ∷ text) e = omega arith

one_byte : (text : List ℕ) (q : ℕ) → bytes_eq text (q ∷ []) ≡ true → 0 < length text
one_byte text q e = let long = ap length (equal text (q ∷ []) e) in omega (arith, long)

is_template : (sort : Sort) → is_opening sort ≡ true → sort ≡ sorts.Template
is_template sorts.Template e = refl
is_template _ e = absurd (cc)

-- outside strings no other token opens one
code_behind : (sort : Sort) (text : List ℕ) → is_opening sort ≡ false → open_behind sort text None ≡ None
code_behind sorts.Template text e = absurd (let wrong : true ≡ false = e in cc)
code_behind sorts.TemplateEnd text e = refl
code_behind _ text e = refl

-- ---- one token

module _ (source : Source) (was : WasRead source) (mode : Mode) {i : ℕ} (old : Old source i (just terminals.Raw))
    (behind_text : List ℕ) (before : Before) (gap : List ℕ) (said : Said) where
  abbrev sort : Sort
  sort = sort_there old

  abbrev own : List ℕ
  own = bytes_at source i

  abbrev raw_seen : TokenKind → Change → Seen
  raw_seen kind change = record {
    gap = gap;
    kind = kind;
    bytes = own;
    change = change;
    spaced = is_spaced (behind_gap before gap);
    may_be = terminals.Raw ∷ [];
    said = said;
  }

  one_is : (quotes : Option ℕ) (change : Change) (token : TokenAs sort own)
      → StandOnward quotes before (Token (raw_seen token.kind change) ∷ []) (open_behind sort own quotes) (sort_behind sort) behind_text
      → ItemIs source mode (raw_token old) quotes behind_text before gap said
  one_is quotes change token stands =
      let seen = raw_seen token.kind change in record {
        joints = Token seen ∷ [];
        spelling = spelt_one gap own;
        seen = refl;
        counted = refl;
        last = token.other;
        ended = λ b. refl;
        raw = λ around rest more. token.raw mode around seen.spaced rest more;
        tells = λ others more says. (says, more);
        ends = λ new commented at front after sit. sit_first new commented at front seen [] after sit refl;
        head = record {
          head = written_of (Token seen);
          tail = [];
          is = refl;
          told = token.told;
          digits_is = token.digits;
          spaced_is = refl;
        };
        one = λ e. refl;
        over = λ e more. absurd (no_insert sort (sort_of token.kind own) token.told token.neutral e);
        walks = λ e. one_walks (written_of (Token seen)) token.neutral;
        placed = λ new at front after to end more cuts here sit rest.
            cut_token new to end at gap own more cuts (step_sits new at front seen after here sit.0)
            (subst (λ (n : ℕ). CutFrom new to end n more cuts) (let z : at + 1 ≡ suc at = omega arith in z) rest);
        first = λ new commented at front after to end more cuts sit rest.
            let it = own_sits new at (front ++ gap) seen after commented sit.0 in
            first_token new to end at more cuts it.high
            (subst (λ (n : ℕ). CutFrom new to end n more cuts) (let z : (at + 1) - 1 ≡ at = omega arith in z) rest)
            ∙ ap (λ (t : List ℕ). lones (begun t cuts)) it.text_is;
        near = λ e others. e;
        stand = stands;
      }

  -- ---- outside strings

  code_is : is_opening sort ≡ false → token_stays sort own behind_text ≡ true → stands_behind (behind_gap before gap) sort own ≡ true
      → list_all is_white gap ≡ true → ItemIs source mode (raw_token old) None behind_text before gap said
  code_is plain stays stands white =
      let token = raw_tokens.raw_token source was i old.lexeme old.there behind_text stays in
      let seen = raw_seen token.kind changes.Keep in
      one_is None changes.Keep
      (record { kind = token.kind; other = token.other; raw = token.raw; told = token.told; digits = token.digits; neutral = token.neutral })
      (subst (λ (end : Option ℕ). StandOnward None before (Token seen ∷ []) end (sort_behind sort) behind_text)
      (sym (code_behind sort own plain))
      (onward None before (Token seen ∷ []) None (sort_behind sort) behind_text
      (λ after ends. (
        white_gap gap own white token.black,
        token.some,
        (refl, token.seen),
        λ e. absurd (let no : true ≡ false = sym e ∙ token.closed in cc),
        token.token (behind_text ++ after) (stays_behind sort own behind_text after ends stays) (behind_gap before gap) stands,
        refl,
      ))
      token.other))

  opening_is : is_opening sort ≡ true → opens_string own behind_text ≡ true → list_all is_white gap ≡ true
      → ItemIs source mode (raw_token old) None behind_text before gap said
  opening_is opening told_of white =
      let is = is_template sort opening in
      let q = byte own 0 in
      let rest = and_right (bytes_eq own (q ∷ [])) _ told_of in
      let quote = and_left (is_quote q) _ rest in
      one_is None (changes.Push (insides.Quotes q)) (template is)
      (subst (λ (end : Option ℕ). StandOnward None before (Token (raw_seen kinds.Template (changes.Push (insides.Quotes q))) ∷ []) end (sort_behind sort) behind_text)
      (sym (ap (λ (s : Sort). open_behind s own None) is))
      (subst (λ (mid : Before). StandOnward None before (Token (raw_seen kinds.Template (changes.Push (insides.Quotes q))) ∷ []) (Some q) mid behind_text)
      (sym (ap sort_behind is))
      (λ others rest after spelt ends direct more. (
        white_gap gap own white (white_quote q quote),
        one_byte own q (and_left (bytes_eq own (q ∷ [])) _ told_of),
        (refl, refl),
        λ o. direct refl,
        ap (λ (t : List ℕ). piece (own ++ t) insides.Sheet (behind_gap before gap) 0)
            (sym (append_assoc (text others) rest after) ∙ ap (λ (t : List ℕ). t ++ after) spelt)
            ∙ opening_at own behind_text after (behind_gap before gap) told_of,
        more,
      ))))
    where
      template : sort ≡ sorts.Template → TokenAs sort own
      template is = record {
        kind = kinds.Template;
        other = sym (ap sort_behind is);
        raw = λ mode around spaced rest more. told.raw_token sorts.Template refl more;
        told = inl (sym is);
        digits = λ e. absurd (let none = left_no (is_number sort) (is_digits own) (ap is_number is) in let wrong : true ≡ false = sym e ∙ none in cc);
        neutral = refl;
      }

  -- ---- in a string

  module _ (q : ℕ) (quote : is_quote q ≡ true) (none : gap ≡ []) where
    no_gap : is_gap (insides.Quotes q) gap own ≡ true
    no_gap = ap (λ (t : List ℕ). is_gap (insides.Quotes q) t own) none

    held_is : sort ≡ sorts.Text → (is_some own && (is_held q own && ends_held q behind_text)) ≡ true
        → ItemIs source mode (raw_token old) (Some q) behind_text before gap said
    held_is is e =
        let rest = and_right (is_some own) _ e in
        let some = some_text own (and_left (is_some own) _ e) in
        let seen = raw_seen (kinds.Text (decoded own)) changes.Keep in
        one_is (Some q) changes.Keep
        (record {
          kind = kinds.Text (decoded own);
          other = sym (ap sort_behind is);
          raw = λ mode around spaced rest more. told.raw_token sorts.Text refl more;
          told = inl (sym is);
          digits = λ d. absurd (let no = left_no (is_number sort) (is_digits own) (ap is_number is) in let wrong : true ≡ false = sym d ∙ no in cc);
          neutral = refl;
        })
        (subst (λ (end : Option ℕ). StandOnward (Some q) before (Token seen ∷ []) end (sort_behind sort) behind_text)
        (sym (ap (λ (s : Sort). open_behind s own (Some q)) is))
        (onward (Some q) before (Token seen ∷ []) (Some q) (sort_behind sort) behind_text
        (λ after ends. (
          no_gap,
          some,
          (refl, refl),
          λ o. absurd (let wrong : false ≡ true = o in cc),
          held_token q own (behind_text ++ after) (behind_gap before gap) quote some (and_left (is_held q own) _ rest)
              (ends_more q behind_text after quote (and_right (is_held q own) _ rest)),
          refl,
        ))
        (sym (ap sort_behind is))))

    closing_is : sort ≡ sorts.TemplateEnd → bytes_eq own (q ∷ []) ≡ true
        → ItemIs source mode (raw_token old) (Some q) behind_text before gap said
    closing_is is e =
        let seen = raw_seen kinds.TemplateEnd changes.Pop in
        one_is (Some q) changes.Pop
        (record {
          kind = kinds.TemplateEnd;
          other = sym (ap sort_behind is);
          raw = λ mode around spaced rest more. told.raw_token sorts.TemplateEnd refl more;
          told = inl (sym is);
          digits = λ d. absurd (let no = left_no (is_number sort) (is_digits own) (ap is_number is) in let wrong : true ≡ false = sym d ∙ no in cc);
          neutral = refl;
        })
        (subst (λ (end : Option ℕ). StandOnward (Some q) before (Token seen ∷ []) end (sort_behind sort) behind_text)
        (sym (ap (λ (s : Sort). open_behind s own (Some q)) is))
        (onward (Some q) before (Token seen ∷ []) None (sort_behind sort) behind_text
        (λ after ends. (
          no_gap,
          one_byte own q e,
          (refl, refl),
          λ o. absurd (let wrong : false ≡ true = o in cc),
          closing_at q own (behind_text ++ after) (behind_gap before gap) e,
          refl,
        ))
        (sym (ap sort_behind is))))

    in_string : (s : Sort) → sort ≡ s → told_in q s own behind_text ≡ true
        → ItemIs source mode (raw_token old) (Some q) behind_text before gap said
    in_string sorts.Text is e = held_is is e
    in_string sorts.TemplateEnd is e = closing_is is e
    in_string _ is e = absurd (let wrong : false ≡ true = e in cc)

  -- ---- anywhere

  pub token_is : (quotes : Option ℕ) → item_known source mode (raw_token old) quotes (behind_gap before gap) behind_text ≡ true
      → list_all is_white gap ≡ true → (is_closed quotes ≡ false → gap ≡ [])
      → ItemIs source mode (raw_token old) quotes behind_text before gap said
  token_is None known white none = go (is_opening sort) refl known
    where
      go : (t : Bool) → is_opening sort ≡ t
          → (if t then opens_string own behind_text
          else (token_stays sort own behind_text && stands_behind (behind_gap before gap) sort own)) ≡ true
          → ItemIs source mode (raw_token old) None behind_text before gap said
      go true o e = opening_is o e white
      go false o e =
          code_is o (and_left (token_stays sort own behind_text) _ e) (and_right (token_stays sort own behind_text) _ e) white
  token_is (Some q) known white none =
      in_string q (and_left (is_quote q) _ known) (none refl) sort refl (and_right (is_quote q) _ known)
