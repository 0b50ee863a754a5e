-- Raw text is told, through any number of brackets in each other.
use Rattle.std.proofs.Common.{◌≡◌, ℕ, ◌+◌, Bool, true, false, not, ◌&&◌, List, [], ◌∷◌, ◌++◌, Some, inl, refl, sym, ◌∙◌, ap, subst}
use Rattle.sw_parse_terminals.specs.declared.terminal.Terminal.{Terminal}
use Rattle.sw_parse_terminals.specs.declared.terminal.Terminal.TheVariants as terminals
use Rattle.sw_parse_lexemes.specs.declared.sort.Sort.{Sort}
use Rattle.sw_parse_lexemes.specs.declared.sort.Sort.TheVariants as sorts
use Rattle.sw_parse_lexemes.specs.declared.plain.Plain.{Plain}
use Rattle.sw_parse_lexemes.specs.declared.state.Mode.{Mode}
use Rattle.sw_parse_lexemes.specs.declared.state.Mode.TheVariants as modes
use Rattle.sw_parse_lexemes.specs.declared.state.Bracket.{Bracket}
use Rattle.sw_parse_lexemes.specs.declared.state.Bracket.TheVariants as brackets
use Rattle.sw_parse_lexemes.specs.declared.state.Frame.{Frame}
use Rattle.sw_parse_lexemes.specs.declared.state.State.{State}
use Rattle.sw_parse_lexemes.specs.Classes.{is_name, is_number, is_comment}
use Rattle.sw_parse_lexemes.specs.Ahead.{sort_at}
use Rattle.sw_parse_lexemes.specs.Names.{is_raw as is_raw_mode}
use Rattle.sw_parse_lexemes.specs.Brackets.{innermost}
use Rattle.sw_parse_lexemes.specs.Terminals.{terminal_of}
use Rattle.sw_parse_lexemes.specs.Steps.{opened_by, inner_mode, begins_statement, stays, after, past_white}
use Rattle.sw_convert_passing.specs.Written.{Written, written, Among, Stand, Within}
use Rattle.sw_convert_passing.specs.Kinds.{is_raw}
use Rattle.sw_convert_passing.specs.Values.{seam, enclosed, inserted}
use Rattle.sw_convert_passing.proofs.Facts.{name_code, number_code}
use Rattle.sw_convert_passing.proofs.Steps.{Reads, join, step, stay_at, seam_step, seam_next, next, framed, opens, innermost_is, is_closing, closes}
use Rattle.sw_convert_passing.proofs.Entries.{split, reads, one_of}
use Rattle.sw_convert_passing.proofs.Leaves.{never}
use Rattle.sw_convert_passing.proofs.Enclosed.{IsInner, insert_round, and_rest}
use Rattle.sw_convert_passing.proofs.SpecialCalls.{raw_and_rest}
use Rattle.sw_convert_passing.proofs.Told.{inner_told}
use Rattle.sw_convert_heads_passing.specs.RawTexts.{Around, Parens, Squares, Braces, is_text_sign, is_stray, RawText, raw_end, raw_token, raw_name, raw_number, raw_sign, raw_stray, raw_insert, raw_parens, raw_squares, raw_braces, raw_seam, Innermost, IsAround, precedes_text, TextBegins, AreBraces, TextTold, RawTextsAreTold}
use Rattle.sw_convert_heads_passing.proofs.RawTokens.{Round, round_of, token_here, name_here, number_here, sign_here, stray_here, paren_end_here, bracket_end_here, brace_end_here, insert_here, paren_here, bracket_here, brace_here}

abbrev pub IsText : Mode → Around → List Written → Type 0
IsText mode around tokens =
    (plains : List Plain) (frames : List Frame) (state : State) (at to : ℕ) → is_raw_mode mode ≡ true
    → AreBraces plains → Within mode frames state → IsAround around frames → TextBegins plains state at
    → Stand plains at tokens to → TextTold plains mode frames state at tokens to

-- behind a terminal that goes on with no word
pub begins_behind : {state : State} (plains : List Plain) (at : ℕ) (terminal : Terminal) → state.before ≡ terminal
    → precedes_text terminal ≡ true → state.word ≡ false → TextBegins plains state at
begins_behind {state} plains at terminal before p word =
    record { before = ap precedes_text before ∙ p; word = never state plains at word }

text_told : {plains : List Plain} {mode : Mode} {frames : List Frame} {state : State} {at to : ℕ}
    {tokens : List Written}
    (end : State) → Reads plains state at tokens end to → Within mode frames end → TextBegins plains end to
    → TextTold plains mode frames state at tokens to
text_told end (lexemes, passed) within begins = record {
  told = record { lexemes = lexemes; end = end; passed = passed; within = within };
  begins = begins;
}

steady : (mode : Mode) → is_raw_mode mode ≡ true → stays mode ≡ true
steady modes.Raw r = refl
steady modes.Custom r = refl
steady _ r = absurd (cc)

inner_insert : (mode : Mode) → is_raw_mode mode ≡ true → inner_mode mode terminals.Insert ≡ modes.Expression
inner_insert modes.Raw r = refl
inner_insert modes.Custom r = refl
inner_insert _ r = absurd (cc)

inner_paren : (mode : Mode) → is_raw_mode mode ≡ true → inner_mode mode terminals.RawParen ≡ mode
inner_paren modes.Raw r = refl
inner_paren modes.Custom r = refl
inner_paren _ r = absurd (cc)

inner_bracket : (mode : Mode) → is_raw_mode mode ≡ true → inner_mode mode terminals.RawBracket ≡ mode
inner_bracket modes.Raw r = refl
inner_bracket modes.Custom r = refl
inner_bracket _ r = absurd (cc)

end_told : (mode : Mode) (around : Around) → IsText mode around []
end_told mode around plains frames state at to raw braces within here begins stand =
    text_told state (stay_at stand) within (subst (TextBegins plains state) stand begins)

-- a token of text, and then the rest
one_then : {mode : Mode} (around : Around) {plains : List Plain} {frames : List Frame} {at to : ℕ} (state : State)
    (sort : Sort)
    (spaced : Bool) (rest : List Written) → is_raw_mode mode ≡ true → AreBraces plains → Within mode frames state
    → IsAround around frames → Stand plains at (written sort spaced terminals.Raw ∷ rest) to → is_comment sort ≡ false
    → terminal_of state plains at ≡ terminals.Raw → IsText mode around rest
    → TextTold plains mode frames state at (written sort spaced terminals.Raw ∷ rest) to
one_then {mode} around {plains} {frames} {at} {to} state sort spaced rest raw braces within here (there, stand) code
    told more =
    let n = next state within (steady mode raw) terminals.Raw refl refl in
    let t = more plains frames (after state terminals.Raw) (at + 1) to raw braces n.within here
    (begins_behind plains (at + 1) terminals.Raw n.before refl n.word) stand in
    text_told t.told.end
    (join (step plains state at (written sort spaced terminals.Raw) terminals.Raw within there code told one_of)
    (reads t.told)) t.told.within t.begins

raw_code : (sort : Sort) → is_raw sort ≡ true → is_comment sort ≡ false
raw_code sorts.Comment r = absurd (cc)
raw_code sorts.CommentTemplate r = absurd (cc)
raw_code _ r = refl

sign_code : (sort : Sort) → is_text_sign sort ≡ true → is_comment sort ≡ false
sign_code sorts.Comment r = absurd (cc)
sign_code sorts.CommentTemplate r = absurd (cc)
sign_code _ r = refl

stray_code : (mode : Mode) (around : Around) (sort : Sort) → is_stray mode around sort ≡ true
    → is_comment sort ≡ false
stray_code mode around sorts.Comment r = absurd (cc)
stray_code mode around sorts.CommentTemplate r = absurd (cc)
stray_code mode around _ r = refl

module _ (mode : Mode) (around : Around) (spaced : Bool) (rest : List Written) (more : IsText mode around rest) where
  token_told : (sort : Sort) → is_raw sort ≡ true → IsText mode around (written sort spaced terminals.Raw ∷ rest)
  token_told sort r plains frames state at to raw braces within here begins stand =
      one_then around state sort spaced rest raw braces within here stand (raw_code sort r)
      (token_here state raw within plains at begins sort r stand.0.sort) more

  name_told : (sort : Sort) → is_name sort ≡ true → IsText mode around (written sort spaced terminals.Raw ∷ rest)
  name_told sort r plains frames state at to raw braces within here begins stand =
      one_then around state sort spaced rest raw braces within here stand (name_code sort r)
      (name_here state raw within plains at begins (ap is_name stand.0.sort ∙ r)) more

  number_told : (sort : Sort) → is_number sort ≡ true → IsText mode around (written sort spaced terminals.Raw ∷ rest)
  number_told sort r plains frames state at to raw braces within here begins stand =
      one_then around state sort spaced rest raw braces within here stand (number_code sort r)
      (number_here state raw within plains at begins sort r stand.0.sort) more

  sign_told : (sort : Sort) → is_text_sign sort ≡ true → IsText mode around (written sort spaced terminals.Raw ∷ rest)
  sign_told sort r plains frames state at to raw braces within here begins stand =
      one_then around state sort spaced rest raw braces within here stand (sign_code sort r)
      (sign_here state raw within plains at begins sort r stand.0.sort) more

  stray_told : (sort : Sort) → is_stray mode around sort ≡ true
      → IsText mode around (written sort spaced terminals.Raw ∷ rest)
  stray_told sort r plains frames state at to raw braces within here begins stand =
      one_then around state sort spaced rest raw braces within here stand (stray_code mode around sort r)
      (stray_here state raw within plains at begins around
      (subst (λ (x : List Frame). Round around (innermost x)) (sym within.frames_are) (round_of around frames here))
      sort r stand.0.sort) more

  insert_told : (inside : List Written) → IsInner inside
      → IsText mode around (inserted spaced terminals.Insert inside rest)
  insert_told inside told plains frames state at to raw braces within here begins stand =
      let i = insert_round state spaced false terminals.Insert inside rest within (inner_insert mode raw)
      (record {
        opened = refl;
        begins = refl;
        leads = record { before = refl; operand = refl; comma = refl };
        word = refl;
      })
      told stand (insert_here state raw within plains at begins stand.0.sort) in
      let t = more plains frames i.end i.place to raw braces i.within here
      (begins_behind plains i.place terminals.InsertEnd i.before refl i.word) i.others in
      text_told t.told.end (and_rest spaced terminals.Insert inside rest i.reads (reads t.told)) t.told.within t.begins

-- brackets of text
pub record Brackets (around : Around) (kind : Bracket) (opening : Terminal) (sort : Sort) (close : Terminal) : Type 0
  where
    pub opened : opened_by opening ≡ Some kind
    pub begins : begins_statement opening ≡ false
    pub before : precedes_text opening ≡ true
    pub code : is_comment sort ≡ false
    pub closing : is_closing close ≡ true
    pub behind : precedes_text close ≡ true

-- text in them, and then the rest
module _ {mode : Mode} (around inner : Around) (kind : Bracket) (opening : Terminal) (sort : Sort) (close : Terminal)
    (how : Brackets inner kind opening sort close) (one : Written) (blank : Bool) (inside rest : List Written)
    (told : IsText mode inner inside) (more : IsText mode around rest) where
  enclosed_told : {frames : List Frame} (plains : List Plain) (state : State) (at to : ℕ) → is_raw_mode mode ≡ true
      → AreBraces plains → Within mode frames state → IsAround around frames
      → IsAround inner (frames ++ framed kind opening mode ∷ []) → inner_mode mode opening ≡ mode
      → Stand plains at (enclosed one inside (written sort blank close) rest) to → is_comment one.sort ≡ false
      → terminal_of state plains at ≡ opening → one.may_be ≡ opening ∷ []
      → ((end : State) (place : ℕ) → Within mode (frames ++ framed kind opening mode ∷ []) end
      → TextBegins plains end place
      → sort_at plains place ≡ sort → terminal_of end plains place ≡ close)
      → TextTold plains mode frames state at (enclosed one inside (written sort blank close) rest) to
  enclosed_told {frames} plains state at to raw braces within here there_inside stays_so (there, stand) code is_opening
      may_be shut =
      let (place, stands, (last, others)) = split plains to inside (written sort blank close ∷ rest) (at + 1) stand in
      let n = opens state within opening kind mode how.opened how.begins stays_so in
      let s1 = after state opening in
      let t = told plains (frames ++ framed kind opening mode ∷ []) s1 (at + 1) place raw braces n.within there_inside
      (begins_behind plains (at + 1) opening n.before how.before n.word) stands in
      let m = closes (framed kind opening mode) t.told.end t.told.within close how.closing in
      let s2 = after t.told.end close in
      let u = more plains frames s2 (place + 1) to raw braces m.within here
      (begins_behind plains (place + 1) close m.before how.behind m.word) others in
      text_told u.told.end
      (raw_and_rest one (written sort blank close) inside rest
      (join (step plains state at one opening within there code is_opening (subst (Among opening) (sym may_be) (inl refl)))
      (join (reads t.told)
      (step plains t.told.end place (written sort blank close) close t.told.within last how.code
      (shut t.told.end place t.told.within t.begins last.sort) one_of))) (reads u.told)) u.told.within u.begins

in_parens : Brackets Parens brackets.Paren terminals.RawParen sorts.CloseParen terminals.RawParenEnd
in_parens =
    record { opened = refl; begins = refl; before = refl; code = refl; closing = refl; behind = refl }

in_squares : Brackets Squares brackets.Bracket terminals.RawBracket sorts.CloseBracket terminals.RawBracketEnd
in_squares =
    record { opened = refl; begins = refl; before = refl; code = refl; closing = refl; behind = refl }

in_braces : Brackets Braces brackets.Brace terminals.RawBrace sorts.CloseBrace terminals.RawBraceEnd
in_braces =
    record { opened = refl; begins = refl; before = refl; code = refl; closing = refl; behind = refl }

-- the bracket that was opened last
innermost_of : (kind : Bracket) (opening : Terminal) (mode : Mode) (frames : List Frame)
    → Innermost kind opening (frames ++ framed kind opening mode ∷ [])
innermost_of kind opening mode frames = record {
  frame = framed kind opening mode;
  is = innermost_is frames (framed kind opening mode);
  bracket_is = refl;
  opened_is = refl;
}

rounds : {mode : Mode} {frames : List Frame} (around : Around) (state : State) → Within mode frames state
    → IsAround around frames → Round around (innermost state.frames)
rounds {mode} {frames} around state within here =
    subst (λ (x : List Frame). Round around (innermost x)) (sym within.frames_are) (round_of around frames here)

module _ (mode : Mode) (around : Around) (spaced blank : Bool) (inside rest : List Written)
    (more : IsText mode around rest) where
  parens_told : IsText mode Parens inside
      → IsText mode around
      (enclosed (written sorts.OpenParen spaced terminals.RawParen) inside
      (written sorts.CloseParen blank terminals.RawParenEnd) rest)
  parens_told told plains frames state at to raw braces within here begins stand =
      let round = innermost_of brackets.Paren terminals.RawParen mode frames in
      enclosed_told around Parens brackets.Paren terminals.RawParen sorts.CloseParen terminals.RawParenEnd in_parens
      (written sorts.OpenParen spaced terminals.RawParen) blank inside rest told more plains state at to raw braces
      within here round (inner_paren mode raw) stand refl
      (paren_here state raw within plains at begins stand.0.sort) refl
      (λ end place w b e. paren_end_here end raw w plains place b Parens (rounds Parens end w round) refl e)

  squares_told : IsText mode Squares inside
      → IsText mode around
      (enclosed (written sorts.OpenBracket spaced terminals.RawBracket) inside
      (written sorts.CloseBracket blank terminals.RawBracketEnd) rest)
  squares_told told plains frames state at to raw braces within here begins stand =
      let round = innermost_of brackets.Bracket terminals.RawBracket mode frames in
      enclosed_told around Squares brackets.Bracket terminals.RawBracket sorts.CloseBracket terminals.RawBracketEnd
      in_squares
      (written sorts.OpenBracket spaced terminals.RawBracket) blank inside rest told more plains state at to raw braces
      within here round (inner_bracket mode raw) stand refl
      (bracket_here state raw within plains at begins stand.0.sort) refl
      (λ end place w b e. bracket_end_here end raw w plains place b Squares (rounds Squares end w round) refl e)

braces_told : (around : Around) (spaced blank : Bool) (inside rest : List Written)
    → IsText modes.Custom around rest → IsText modes.Custom Braces inside
    → IsText modes.Custom around
    (enclosed (written sorts.OpenBrace spaced terminals.RawBrace) inside
    (written sorts.CloseBrace blank terminals.RawBraceEnd) rest)
braces_told around spaced blank inside rest more told plains frames state at to raw braces within here begins stand =
    let round = innermost_of brackets.Brace terminals.RawBrace modes.Custom frames in
    enclosed_told around Braces brackets.Brace terminals.RawBrace sorts.CloseBrace terminals.RawBraceEnd in_braces
    (written sorts.OpenBrace spaced terminals.RawBrace) blank inside rest told more plains state at to raw braces
    within here round refl stand refl (brace_here state raw within plains at begins refl braces stand.0.sort) refl
    (λ end place w b e. brace_end_here end raw w plains place b Braces (rounds Braces end w round) refl e)

-- an empty comment
seam_told : (mode : Mode) (around : Around) (rest : List Written) → IsText mode around rest
    → IsText mode around (seam ∷ rest)
seam_told mode around rest more plains frames state at to raw braces within here begins (there, stand) =
    let n = seam_next state within in
    let no_word : state.word ≡ false =
    and_yes state.word (ap (λ (b : Bool). state.word && not b) (sym there.spaced) ∙ begins.word) in
    let t = more plains frames (past_white state sorts.Comment) (at + 1) to raw braces n.within here
    (record {
      before = ap precedes_text n.before ∙ begins.before;
      word = never (past_white state sorts.Comment) plains (at + 1) (n.word ∙ no_word);
    }) stand in
    text_told t.told.end (join (seam_step plains state at within there) (reads t.told)) t.told.within t.begins
  where
    and_yes : (b : Bool) → (b && true) ≡ false → b ≡ false
    and_yes true e = e
    and_yes false e = refl

texts_told : {mode : Mode} {around : Around} {tokens : List Written} → RawText mode around tokens
    → IsText mode around tokens
texts_told (raw_end {mode} {around}) = end_told mode around
texts_told (raw_token {mode} {around} {spaced} {rest} sort r more) =
    token_told mode around spaced rest (texts_told more) sort r
texts_told (raw_name {mode} {around} {spaced} {rest} sort r more) =
    name_told mode around spaced rest (texts_told more) sort r
texts_told (raw_number {mode} {around} {spaced} {rest} sort r more) =
    number_told mode around spaced rest (texts_told more) sort r
texts_told (raw_sign {mode} {around} {spaced} {rest} sort r more) =
    sign_told mode around spaced rest (texts_told more) sort r
texts_told (raw_stray {mode} {around} {spaced} {rest} sort r more) =
    stray_told mode around spaced rest (texts_told more) sort r
texts_told (raw_insert {mode} {around} {spaced} {inside} {rest} values more) =
    insert_told mode around spaced rest (texts_told more) inside (inner_told values)
texts_told (raw_parens {mode} {around} {spaced} {inside} {rest} blank text more) =
    parens_told mode around spaced blank inside rest (texts_told more) (texts_told text)
texts_told (raw_squares {mode} {around} {spaced} {inside} {rest} blank text more) =
    squares_told mode around spaced blank inside rest (texts_told more) (texts_told text)
texts_told (raw_braces {around} {spaced} {inside} {rest} blank text more) =
    braces_told around spaced blank inside rest (texts_told more) (texts_told text)
texts_told (raw_seam {mode} {around} {rest} more) = seam_told mode around rest (texts_told more)

pub raw_texts_are_told : RawTextsAreTold
raw_texts_are_told mode around tokens text plains frames state at to raw braces within here begins stand =
    texts_told text plains frames state at to raw braces within here begins stand
