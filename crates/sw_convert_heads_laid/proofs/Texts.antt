-- The walk comes back from raw text.
use Rattle.std.proofs.Common.{◌≡◌, ℕ, zero, suc, Bool, true, false, not, List, [], ◌∷◌, ◌++◌, Some, refl, sym, ◌∙◌, ap, subst, append_assoc}
use Rattle.std.specs.List.{list_all}
use Rattle.sw_text_scan.proofs.Bounds.{if_false}
use Rattle.sw_parse_terminals.specs.declared.terminal.Terminal.TheVariants as terminals
use Rattle.sw_parse_lexemes.specs.declared.sort.Sort.{Sort}
use Rattle.sw_parse_lexemes.specs.declared.sort.Sort.TheVariants as sorts
use Rattle.sw_parse_lexemes.specs.declared.state.Mode.{Mode}
use Rattle.sw_parse_lexemes.specs.Brackets.{is_custom}
use Rattle.sw_parse_layout.specs.declared.state.Bracket.{Bracket}
use Rattle.sw_parse_layout.specs.declared.state.Bracket.TheVariants as brackets
use Rattle.sw_parse_layout.specs.Pieces.{is_paren, is_square}
use Rattle.sw_convert_spelling.proofs.Choices.{right_no, both}
use Rattle.sw_convert_passing.specs.Written.{Written, written}
use Rattle.sw_convert_passing.specs.Values.{enclosed}
use Rattle.sw_convert_heads_passing.specs.RawTexts.{Around, Outside, Parens, Squares, Braces, is_text_sign, is_stray, RawText, raw_end, raw_token, raw_name, raw_number, raw_sign, raw_stray, raw_insert, raw_parens, raw_squares, raw_braces, raw_seam}
use Rattle.sw_convert_laid.specs.Held.{has_none}
use Rattle.sw_convert_heads_laid.specs.Marks.{Mark, ClosesParen, ClosesSquare, Brace, sort_mark}
use Rattle.sw_convert_heads_laid.proofs.Walk.{Level, at, step, walk, further, is_quiet, Where, plain_by, last_is, some_brackets, nothing, still, past_seam, insert, parens, squares}
use Rattle.sw_convert_heads_laid.proofs.Values.{name_plain, number_plain, raw_plain, all_items}

-- the brackets around a text
abbrev pub Within : Bool → Around → List Bracket → Type 0
Within custom Outside bs = bs ≡ []
Within custom Parens bs = (front : List Bracket) × (bs ≡ front ++ brackets.Paren ∷ [])
Within custom Squares bs = (front : List Bracket) × (bs ≡ front ++ brackets.Square ∷ [])
Within custom Braces bs = custom ≡ true

last_paren : (bs : List Bracket) (b : Bracket) → is_paren (Some b) ≡ false
    → step false 0 (bs ++ b ∷ []) ClosesParen ≡ Some (at 0 (bs ++ b ∷ []))
last_paren bs b e =
    ap (λ (x : List Bracket). Some (at 0 x)) (if_false _ _ _ (ap is_paren (last_is bs b) ∙ e))

last_square : (bs : List Bracket) (b : Bracket) → is_square (Some b) ≡ false
    → step false 0 (bs ++ b ∷ []) ClosesSquare ≡ Some (at 0 (bs ++ b ∷ []))
last_square bs b e =
    ap (λ (x : List Bracket). Some (at 0 x)) (if_false _ _ _ (ap is_square (last_is bs b) ∙ e))

inner_brace : (bs : List Bracket) (b : Bracket) → step false 0 (bs ++ b ∷ []) Brace ≡ Some (at 0 (bs ++ b ∷ []))
inner_brace bs b = if_false (has_none (bs ++ b ∷ [])) _ _ (some_brackets bs b)

abbrev Stays : Bool → List Bracket → Mark → Type 0
Stays custom bs mark = step custom 0 bs mark ≡ Some (at 0 bs)

-- a bracket that closes nothing, and a brace in brackets
stray_step : (custom : Bool) (mode : Mode) → is_custom mode ≡ custom → (around : Around) (sort : Sort)
    → is_stray mode around sort ≡ true → (bs : List Bracket) → Within custom around bs → Stays custom bs (sort_mark sort)
stray_step true mode c Outside sorts.CloseParen s bs w = absurd (cc)
stray_step true mode c Outside sorts.CloseBracket s bs w = absurd (cc)
stray_step true mode c around sorts.OpenBrace s bs w = refl
stray_step true mode c around sorts.CloseBrace s bs w = refl
stray_step true mode c Parens sorts.CloseParen s bs w = absurd (cc)
stray_step true mode c Parens sorts.CloseBracket s bs w = absurd (cc)
stray_step true mode c Squares sorts.CloseParen s bs w = absurd (cc)
stray_step true mode c Squares sorts.CloseBracket s bs w = absurd (cc)
stray_step true mode c Braces sorts.CloseParen s bs w = absurd (cc)
stray_step true mode c Braces sorts.CloseBracket s bs w = absurd (cc)
stray_step false mode c Outside sorts.CloseParen s bs w =
    subst (λ (x : List Bracket). step false 0 x ClosesParen ≡ Some (at 0 x)) (sym w) refl
stray_step false mode c Outside sorts.CloseBracket s bs w =
    subst (λ (x : List Bracket). step false 0 x ClosesSquare ≡ Some (at 0 x)) (sym w) refl
stray_step false mode c Outside sorts.OpenBrace s bs w =
    absurd (let no : false ≡ true = sym (right_no (not (is_custom mode)) false refl) ∙ s in cc)
stray_step false mode c Outside sorts.CloseBrace s bs w =
    absurd (let no : false ≡ true = sym (right_no (not (is_custom mode)) false refl) ∙ s in cc)
stray_step false mode c Parens sorts.CloseParen s bs w =
    absurd (let no : false ≡ true = sym (right_no (not (is_custom mode)) false refl) ∙ s in cc)
stray_step false mode c Parens sorts.CloseBracket s bs (front, w) =
    subst (λ (x : List Bracket). step false 0 x ClosesSquare ≡ Some (at 0 x)) (sym w) (last_square front brackets.Paren refl)
stray_step false mode c Parens sorts.OpenBrace s bs (front, w) =
    subst (λ (x : List Bracket). step false 0 x Brace ≡ Some (at 0 x)) (sym w) (inner_brace front brackets.Paren)
stray_step false mode c Parens sorts.CloseBrace s bs (front, w) =
    subst (λ (x : List Bracket). step false 0 x Brace ≡ Some (at 0 x)) (sym w) (inner_brace front brackets.Paren)
stray_step false mode c Squares sorts.CloseParen s bs (front, w) =
    subst (λ (x : List Bracket). step false 0 x ClosesParen ≡ Some (at 0 x)) (sym w) (last_paren front brackets.Square refl)
stray_step false mode c Squares sorts.CloseBracket s bs w =
    absurd (let no : false ≡ true = sym (right_no (not (is_custom mode)) false refl) ∙ s in cc)
stray_step false mode c Squares sorts.OpenBrace s bs (front, w) =
    subst (λ (x : List Bracket). step false 0 x Brace ≡ Some (at 0 x)) (sym w) (inner_brace front brackets.Square)
stray_step false mode c Squares sorts.CloseBrace s bs (front, w) =
    subst (λ (x : List Bracket). step false 0 x Brace ≡ Some (at 0 x)) (sym w) (inner_brace front brackets.Square)
stray_step false mode c Braces sorts.CloseParen s bs w = absurd (cc)
stray_step false mode c Braces sorts.CloseBracket s bs w = absurd (cc)
stray_step false mode c Braces sorts.OpenBrace s bs w = absurd (cc)
stray_step false mode c Braces sorts.CloseBrace s bs w = absurd (cc)
stray_step custom mode c around sorts.Semicolon s bs w = refl
stray_step custom mode c around _ s bs w = absurd (cc)

stray_quiet : (mode : Mode) (around : Around) (spaced : Bool) (sort : Sort) → is_stray mode around sort ≡ true
    → is_quiet (written sort spaced terminals.Raw) ≡ true
stray_quiet mode around spaced sorts.Comment s = absurd (cc)
stray_quiet mode around spaced sorts.CommentTemplate s = absurd (cc)
stray_quiet mode around spaced _ s = refl

-- in `#{}` it is passed over
stray_inner : (custom : Bool) (mode : Mode) (around : Around) (sort : Sort) → is_stray mode around sort ≡ true
    → (n : ℕ) (bs : List Bracket) → step custom (suc n) bs (sort_mark sort) ≡ Some (at (suc n) bs)
stray_inner custom mode around sorts.OpenInsert s n bs = absurd (cc)
stray_inner custom mode around sorts.CloseInsert s n bs = absurd (cc)
stray_inner custom mode around _ s n bs = refl

stray : {rest : List Written} (mode : Mode) (around : Around) (spaced : Bool) (sort : Sort) → is_stray mode around sort ≡ true
    → Level (is_custom mode) (Within (is_custom mode) around) rest
    → Level (is_custom mode) (Within (is_custom mode) around) (written sort spaced terminals.Raw ∷ rest)
stray {rest} mode around spaced sort s more = record {
  goes = goes;
  quiet = λ others q. both (is_quiet (written sort spaced terminals.Raw)) _ (stray_quiet mode around spaced sort s) (more.quiet others q);
}
  where
    goes : (n : ℕ) (bs : List Bracket) → Where (Within (is_custom mode) around) n bs → (others : List Written)
        → walk (is_custom mode) n bs (written sort spaced terminals.Raw ∷ (rest ++ others)) ≡ walk (is_custom mode) n bs others
    goes zero bs w others =
        further (is_custom mode) 0 bs (written sort spaced terminals.Raw) (rest ++ others) (at 0 bs)
        (stray_step (is_custom mode) mode refl around sort s bs w)
        ∙ more.goes 0 bs w others
    goes (suc n) bs w others =
        further (is_custom mode) (suc n) bs (written sort spaced terminals.Raw) (rest ++ others) (at (suc n) bs)
        (stray_inner (is_custom mode) mode around sort s n bs)
        ∙ more.goes (suc n) bs w others

-- braces in a custom property
custom_braces : (around : Around) (spaced blank : Bool) (inner rest : List Written) → Level true (Within true Braces) inner
    → Level true (Within true around) rest
    → Level true (Within true around)
    (enclosed (written sorts.OpenBrace spaced terminals.RawBrace) inner (written sorts.CloseBrace blank terminals.RawBraceEnd) rest)
custom_braces around spaced blank inner rest inside more = record {
  goes = goes;
  quiet = λ others q.
      ap (list_all is_quiet) (append_assoc inner (closing ∷ rest) others)
      ∙ inside.quiet (closing ∷ (rest ++ others)) (more.quiet others q);
}
  where
    closing : Written
    closing = written sorts.CloseBrace blank terminals.RawBraceEnd

    goes : (n : ℕ) (bs : List Bracket) → Where (Within true around) n bs → (others : List Written)
        → walk true n bs (enclosed (written sorts.OpenBrace spaced terminals.RawBrace) inner closing rest ++ others)
        ≡ walk true n bs others
    goes zero bs w others =
        ap (walk true 0 bs) (append_assoc inner (closing ∷ rest) others)
        ∙ inside.goes 0 bs refl (closing ∷ (rest ++ others)) ∙ more.goes 0 bs w others
    goes (suc n) bs w others =
        ap (walk true (suc n) bs) (append_assoc inner (closing ∷ rest) others)
        ∙ inside.goes (suc n) bs tt (closing ∷ (rest ++ others)) ∙ more.goes (suc n) bs w others

pub raw_text : {mode : Mode} {around : Around} {tokens : List Written} → RawText mode around tokens
    → Level (is_custom mode) (Within (is_custom mode) around) tokens
raw_text {mode} raw_end = nothing (is_custom mode)
raw_text {mode} (raw_token {rest = rest} sort r more) = still (is_custom mode) _ rest (raw_plain sort r) (raw_text more)
raw_text {mode} (raw_name {rest = rest} sort n more) = still (is_custom mode) _ rest (name_plain sort n) (raw_text more)
raw_text {mode} (raw_number {rest = rest} sort n more) = still (is_custom mode) _ rest (number_plain sort n) (raw_text more)
raw_text {mode} (raw_sign {rest = rest} sort s more) =
    still (is_custom mode) _ rest (plain_by is_text_sign refl refl refl refl refl refl refl refl refl refl sort s) (raw_text more)
raw_text {mode} {around} (raw_stray {spaced = spaced} sort s more) = stray mode around spaced sort s (raw_text more)
raw_text {mode} (raw_insert {spaced = spaced} {inside = inside} {rest = rest} values more) =
    insert (is_custom mode) spaced _ inside rest (all_items (is_custom mode) values) (raw_text more)
raw_text {mode} (raw_parens {inside = inside} {rest = rest} blank by more) =
    parens (is_custom mode) _ inside _ rest refl refl (λ bs. (bs, refl)) (raw_text by) (raw_text more)
raw_text {mode} (raw_squares {inside = inside} {rest = rest} blank by more) =
    squares (is_custom mode) _ inside _ rest refl refl (λ bs. (bs, refl)) (raw_text by) (raw_text more)
raw_text (raw_braces {around = around} {spaced = spaced} {inside = inside} {rest = rest} blank by more) =
    custom_braces around spaced blank inside rest (raw_text by) (raw_text more)
raw_text {mode} (raw_seam {rest = rest} more) = past_seam (is_custom mode) rest (raw_text more)
