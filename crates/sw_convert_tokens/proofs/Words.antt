-- Names that were read as words are written as they stood.
use Rattle.std.proofs.Common.{◌≡◌, ℕ, suc, ◌+◌, ◌-◌, Bool, true, false, not, ◌||◌, if◌then◌else◌, List, [], ◌∷◌, ◌++◌, length, Option, Some, refl, sym, ◌∙◌, ap, subst, arith}
use Rattle.std.specs.Prelude.{◌==◌, slice_range, bytes_eq, codes}
use Rattle.sw_text_scan.proofs.Bounds.{or_left, or_right}
use Rattle.sw_text.specs.declared.place.Span.{Span}
use Rattle.sw_tree.specs.declared.expr.ExprKind.TheVariants as exprs
use Rattle.sw_tree.specs.declared.text.Parts.{Parts}
use Rattle.sw_tree.specs.declared.text.Parts.TheVariants as parts
use Rattle.sw_tokens.specs.declared.pieces.Before.{Before}
use Rattle.sw_tokens.specs.declared.pieces.Before.TheVariants as befores
use Rattle.sw_tokens.specs.declared.token.TokenKind.{TokenKind}
use Rattle.sw_tokens.specs.declared.token.TokenKind.TheVariants as kinds
use Rattle.sw_tokens.specs.Ends.{opens}
use Rattle.sw_tokens.specs.Pieces.{made}
use Rattle.sw_tokens.specs.Tokens.{before_of, is_spaced}
use Rattle.sw_parse_grammar.specs.Grammar.{member}
use Rattle.sw_parse_terminals.specs.Urls.{has_namespace}
use Rattle.sw_parse_terminals.specs.declared.lexeme.Lexeme.{Lexeme}
use Rattle.sw_parse_terminals.specs.declared.terminal.Terminal.{Terminal}
use Rattle.sw_parse_terminals.specs.declared.terminal.Terminal.TheVariants as terminals
use Rattle.sw_parse_terminals.specs.Numbers.{number_of, just}
use Rattle.sw_parse_lexemes.specs.declared.sort.Sort.{Sort}
use Rattle.sw_parse_lexemes.specs.declared.sort.Sort.TheVariants as sorts
use Rattle.sw_parse_lexemes.specs.declared.state.Mode.{Mode}
use Rattle.sw_parse_lexemes.specs.declared.state.Mode.TheVariants as modes
use Rattle.sw_parse_lexemes.specs.Classes.{is_name, is_reserved, is_comment, is_number}
use Rattle.sw_parse_lexemes.specs.Sorts.{quoted_sort, sort_of}
use Rattle.sw_parse_lexemes.specs.Words.{of_two, of_three, of_four, of_five, of_six, of_seven, of_nine, word_sort, is_prefixed_calc, at_one, at_three, at_four, at_five, at_six, at_seven, at_eight, at_nine, at_sort}
use Rattle.sw_parse_table.specs.declared.source.Source.{Source}
use Rattle.sw_parse_table.specs.Sources.{bytes, from_in, to_in, from_at, to_at, bytes_at, texts, texts_from, parts_between, plain_parts}
use Rattle.sw_parse_table.specs.Values.{expression}
use Rattle.sw_convert_spelling.specs.Spelt.{behind_gap}
use Rattle.sw_convert_spelling.proofs.Choices as names
use Rattle.sw_convert_written.specs.declared.manner.Manner.TheVariants as manners
use Rattle.sw_convert_written.specs.Pieces.{pieces_text}
use Rattle.sw_convert_written.specs.Expressions.{parts_written, expr_text}
use Rattle.sw_convert_written.proofs.Unrolled as unrolled
use Rattle.sw_convert_passing.specs.Kinds.{ends_bound, is_plus_or_minus}
use Rattle.sw_convert_passing.specs.Written.{written}
use Rattle.sw_convert_passing.specs.Values.{Value, word, named, no_part}
use Rattle.sw_convert_again.specs.Tokens.{Said, Says, tok, Old, text_to_end}
use Rattle.sw_convert_again.specs.Spells.{from_start}
use Rattle.sw_convert_tokens.specs.Joints.{Seen, Segment, Sits}
use Rattle.sw_convert_tokens.specs.Written.{Follows, is_calm, gap_of, is_bounded, AsValue, WrittenAs}
use Rattle.sw_convert_tokens.specs.Words.{WordsAreWritten}
use Rattle.sw_convert_tokens.proofs.Joins.{as_text, as_behind}
use Rattle.sw_convert_tokens.proofs.Signs.{token_segment}
use Rattle.sw_convert_tokens.proofs.Stops.{Parted, Behind, parted_behind, follows_parts, nothing_parts}
use Rattle.sw_convert_tokens.proofs.Laid.{range_behind}
use Rattle.sw_convert_tokens.proofs.Olds.{OldToken, old_token}
use Rattle.sw_convert_tokens.proofs.OriginChoices.{is_range, fits}
use Rattle.sw_convert_tokens.proofs.NamePieces.{name_in, name_keep}
use Rattle.sw_convert_tokens.proofs.NumberPieces.{is_numeric, is_signed}
use Rattle.sw_convert_tokens.proofs.Names.{token_at, name_black}

-- ---- kinds of names

pub only_word : (terminal : Terminal) → member (number_of terminal) (just terminals.Word) ≡ true → terminal ≡ terminals.Word
only_word terminals.Word m = refl
only_word _ m = absurd (cc)

-- a name, a unicode range, a number, or a sign before one
abbrev is_wordlike : Sort → Bool
is_wordlike sort = is_name sort || (is_range sort || (is_number sort || is_plus_or_minus sort))

pick_no : (t : Bool) (x y : Sort) → is_wordlike x ≡ false → is_wordlike y ≡ false → is_wordlike (if t then x else y) ≡ false
pick_no true x y e f = e
pick_no false x y e f = f

-- at-keywords are neither
at_no : (text : List ℕ) → is_wordlike (at_sort text) ≡ false
at_no text =
    (pick_no (length text == 1) (at_one text) _ (pick_no (bytes_eq text (codes "=")) sorts.AtMixin _ refl (pick_no (bytes_eq text (codes "+")) sorts.AtInclude _ refl refl))
    (pick_no (length text == 3) (at_three text) _ (pick_no (bytes_eq text (codes "@if")) sorts.AtIf _ refl refl)
    (pick_no (length text == 4) (at_four text) _ (pick_no (bytes_eq text (codes "@use")) sorts.AtUse _ refl (pick_no (bytes_eq text (codes "@for")) sorts.AtFor _ refl refl))
    (pick_no (length text == 5) (at_five text) _ (pick_no (bytes_eq text (codes "@warn")) sorts.AtWarn _ refl (pick_no (bytes_eq text (codes "@else")) sorts.AtElse _ refl (pick_no (bytes_eq text (codes "@each")) sorts.AtEach _ refl refl)))
    (pick_no (length text == 6) (at_six text) _ (pick_no (bytes_eq text (codes "@mixin")) sorts.AtMixin _ refl (pick_no (bytes_eq text (codes "@debug")) sorts.AtDebug _ refl (pick_no (bytes_eq text (codes "@error")) sorts.AtError _ refl (pick_no (bytes_eq text (codes "@while")) sorts.AtWhile _ refl (pick_no (bytes_eq text (codes "@media")) sorts.AtMedia _ refl refl)))))
    (pick_no (length text == 7) (at_seven text) _ (pick_no (bytes_eq text (codes "@return")) sorts.AtReturn _ refl (pick_no (bytes_eq text (codes "@elseif")) sorts.AtElseIf _ refl (pick_no (bytes_eq text (codes "@import")) sorts.AtImport _ refl (pick_no (bytes_eq text (codes "@extend")) sorts.AtExtend _ refl refl))))
    (pick_no (length text == 8) (at_eight text) _ (pick_no (bytes_eq text (codes "@forward")) sorts.AtForward _ refl (pick_no (bytes_eq text (codes "@include")) sorts.AtInclude _ refl (pick_no (bytes_eq text (codes "@content")) sorts.AtContent _ refl (pick_no (bytes_eq text (codes "@at-root")) sorts.AtRoot _ refl (pick_no (bytes_eq text (codes "@charset")) sorts.AtCharset _ refl refl)))))
    (pick_no (length text == 9) (at_nine text) _ (pick_no (bytes_eq text (codes "@function")) sorts.AtFunction _ refl (pick_no (bytes_eq text (codes "@supports")) sorts.AtSupports _ refl refl))
    refl))))))))

no_more_name : (a b c d : Bool) → (a || (b || (c || d))) ≡ false → c ≡ false
no_more_name true b c d e = absurd (cc)
no_more_name false true c d e = absurd (cc)
no_more_name false false true d e = absurd (cc)
no_more_name false false false d e = refl

no_last : (a b c d : Bool) → (a || (b || (c || d))) ≡ false → d ≡ false
no_last true b c d e = absurd (cc)
no_last false true c d e = absurd (cc)
no_last false false true d e = absurd (cc)
no_last false false false d e = e

quoted_no : (told : List ℕ) → is_wordlike (quoted_sort told) ≡ false
quoted_no told = pick_no (has_namespace told) sorts.Quoted sorts.Unnamed refl refl

pub kind_of_name : (kind : TokenKind) (text : List ℕ) → is_name (sort_of kind text) ≡ true → names.is_name kind ≡ true
kind_of_name kinds.Word text n = refl
kind_of_name kinds.Name text n = refl
kind_of_name kinds.DashedName text n = refl
kind_of_name kinds.AtName text n = sym (or_left (is_name (at_sort text)) _ (at_no text)) ∙ n
kind_of_name (kinds.Quoted told) text n = sym (or_left (is_name (quoted_sort told)) _ (quoted_no told)) ∙ n
kind_of_name _ text n = n

pub name_reserved : (kind : TokenKind) (text : List ℕ) → names.is_name kind ≡ true → is_reserved (word_sort text) ≡ false
    → is_reserved (sort_of kind text) ≡ false
name_reserved kinds.Word text n r = r
name_reserved kinds.Name text n r = go (is_prefixed_calc text)
  where
    go : (t : Bool) → is_reserved (if t then sorts.Special else sorts.Name) ≡ false
    go true = refl
    go false = refl
name_reserved kinds.DashedName text n r = refl
name_reserved _ text n r = absurd (cc)

pub name_opens : (kind : TokenKind) → names.is_name kind ≡ true → opens kind ≡ false
name_opens kinds.Template n = absurd (cc)
name_opens kinds.UrlTemplate n = absurd (cc)
name_opens kinds.CommentTemplate n = absurd (cc)
name_opens _ n = refl

pub name_behind : (kind : TokenKind) → names.is_name kind ≡ true → before_of (Some kind) ≡ befores.Other
name_behind kinds.Word n = refl
name_behind kinds.Name n = refl
name_behind kinds.DashedName n = refl
name_behind _ n = absurd (cc)

pub name_comment : (sort : Sort) → is_name sort ≡ true → is_comment sort ≡ false
name_comment sorts.Comment n = absurd (cc)
name_comment sorts.CommentTemplate n = absurd (cc)
name_comment _ n = refl

pub unbounded : (mode : Mode) (sort : Sort) → is_bounded mode ≡ false → ends_bound mode sort ≡ false
unbounded modes.Bounds sort b = absurd (cc)
unbounded modes.BoundEnds sort b = absurd (cc)
unbounded _ sort b = refl

pick_yes : (t : Bool) (x y : Sort) → is_name x ≡ true → is_name y ≡ true → is_name (if t then x else y) ≡ true
pick_yes true x y e f = e
pick_yes false x y e f = f

-- words are names
word_yes : (text : List ℕ) → is_name (word_sort text) ≡ true
word_yes text =
    (pick_yes (length text == 2) (of_two text) _ (pick_yes (bytes_eq text (codes "or")) sorts.Or _ refl (pick_yes (bytes_eq text (codes "as")) sorts.As _ refl (pick_yes (bytes_eq text (codes "if")) sorts.If _ refl (pick_yes (bytes_eq text (codes "in")) sorts.In _ refl (pick_yes (bytes_eq text (codes "to")) sorts.To _ refl refl)))))
    (pick_yes (length text == 3) (of_three text) _ (pick_yes (bytes_eq text (codes "and")) sorts.And _ refl (pick_yes (bytes_eq text (codes "not")) sorts.Not _ refl (pick_yes (bytes_eq text (codes "var")) sorts.Special _ refl (pick_yes (bytes_eq text (codes "env")) sorts.Special _ refl (pick_yes (bytes_eq text (codes "min")) sorts.Special _ refl (pick_yes (bytes_eq text (codes "max")) sorts.Special _ refl (pick_yes (bytes_eq text (codes "mod")) sorts.Stays _ refl (pick_yes (bytes_eq text (codes "rem")) sorts.Stays _ refl (pick_yes (bytes_eq text (codes "abs")) sorts.Stays _ refl (pick_yes (bytes_eq text (codes "sin")) sorts.Stays _ refl (pick_yes (bytes_eq text (codes "cos")) sorts.Stays _ refl (pick_yes (bytes_eq text (codes "tan")) sorts.Stays _ refl (pick_yes (bytes_eq text (codes "pow")) sorts.Stays _ refl (pick_yes (bytes_eq text (codes "log")) sorts.Stays _ refl (pick_yes (bytes_eq text (codes "exp")) sorts.Stays _ refl refl)))))))))))))))
    (pick_yes (length text == 4) (of_four text) _ (pick_yes (bytes_eq text (codes "true")) sorts.True _ refl (pick_yes (bytes_eq text (codes "null")) sorts.Null _ refl (pick_yes (bytes_eq text (codes "with")) sorts.With _ refl (pick_yes (bytes_eq text (codes "show")) sorts.Show _ refl (pick_yes (bytes_eq text (codes "hide")) sorts.Hide _ refl (pick_yes (bytes_eq text (codes "from")) sorts.From _ refl (pick_yes (bytes_eq text (codes "only")) sorts.Only _ refl (pick_yes (bytes_eq text (codes "calc")) sorts.Special _ refl (pick_yes (bytes_eq text (codes "sign")) sorts.Stays _ refl (pick_yes (bytes_eq text (codes "asin")) sorts.Stays _ refl (pick_yes (bytes_eq text (codes "acos")) sorts.Stays _ refl (pick_yes (bytes_eq text (codes "atan")) sorts.Stays _ refl (pick_yes (bytes_eq text (codes "sqrt")) sorts.Stays _ refl refl)))))))))))))
    (pick_yes (length text == 5) (of_five text) _ (pick_yes (bytes_eq text (codes "false")) sorts.False _ refl (pick_yes (bytes_eq text (codes "using")) sorts.Using _ refl (pick_yes (bytes_eq text (codes "clamp")) sorts.Special _ refl (pick_yes (bytes_eq text (codes "round")) sorts.Stays _ refl (pick_yes (bytes_eq text (codes "atan2")) sorts.Stays _ refl (pick_yes (bytes_eq text (codes "hypot")) sorts.Stays _ refl refl))))))
    (pick_yes (length text == 6) (of_six text) _ (pick_yes (bytes_eq text (codes "global")) sorts.Global _ refl refl)
    (pick_yes (length text == 7) (of_seven text) _ (pick_yes (bytes_eq text (codes "through")) sorts.Through _ refl (pick_yes (bytes_eq text (codes "default")) sorts.Default _ refl refl))
    (pick_yes (length text == 9) (of_nine text) _ (pick_yes (bytes_eq text (codes "important")) sorts.Important _ refl refl)
    refl)))))))

pub name_yes : (kind : TokenKind) (text : List ℕ) → names.is_name kind ≡ true → is_name (sort_of kind text) ≡ true
name_yes kinds.Word text n = word_yes text
name_yes kinds.Name text n = pick_yes (is_prefixed_calc text) sorts.Special sorts.Name refl refl
name_yes kinds.DashedName text n = refl
name_yes _ text n = absurd (cc)

no_name : (sort : Sort) → is_name sort ≡ true → is_range sort ≡ true → ⊥
no_name sorts.Range n r = let no : false ≡ true = n in cc
no_name _ n r = let no : false ≡ true = r in cc

pub kind_of_range : (kind : TokenKind) (text : List ℕ) → is_range (sort_of kind text) ≡ true → kind ≡ kinds.UnicodeRange
kind_of_range kinds.UnicodeRange text r = refl
kind_of_range kinds.Word text r = absurd (no_name (sort_of kinds.Word text) (name_yes kinds.Word text refl) r)
kind_of_range kinds.Name text r = absurd (no_name (sort_of kinds.Name text) (name_yes kinds.Name text refl) r)
kind_of_range kinds.AtName text r =
    absurd
    (let no : true ≡ false = sym r ∙ or_left (is_range (at_sort text)) _ (or_right (is_name (at_sort text)) _ (at_no text)) in cc)
kind_of_range (kinds.Quoted told) text r =
    absurd
    (let no : true ≡ false =
    sym r ∙ or_left (is_range (quoted_sort told)) _ (or_right (is_name (quoted_sort told)) _ (quoted_no told)) in cc)
kind_of_range _ text r = absurd (cc)

no_number : (sort : Sort) → is_name sort ≡ true → is_number sort ≡ true → ⊥
no_number sorts.Digits n r = let no : false ≡ true = n in cc
no_number sorts.Number n r = let no : false ≡ true = n in cc
no_number _ n r = let no : false ≡ true = r in cc

pub kind_of_number : (kind : TokenKind) (text : List ℕ) → is_number (sort_of kind text) ≡ true → is_numeric kind ≡ true
kind_of_number kinds.Word text r = absurd (no_number (sort_of kinds.Word text) (name_yes kinds.Word text refl) r)
kind_of_number kinds.Name text r = absurd (no_number (sort_of kinds.Name text) (name_yes kinds.Name text refl) r)
kind_of_number kinds.AtName text r =
    absurd (let no : true ≡ false = sym r ∙ no_more_name (is_name (at_sort text)) _ _ _ (at_no text) in cc)
kind_of_number (kinds.Quoted told) text r =
    absurd (let no : true ≡ false = sym r ∙ no_more_name (is_name (quoted_sort told)) _ _ _ (quoted_no told) in cc)
kind_of_number _ text r = r

no_sign : (sort : Sort) → is_name sort ≡ true → is_plus_or_minus sort ≡ true → ⊥
no_sign sorts.Plus n r = let no : false ≡ true = n in cc
no_sign sorts.Minus n r = let no : false ≡ true = n in cc
no_sign _ n r = let no : false ≡ true = r in cc

pub kind_of_sign : (kind : TokenKind) (text : List ℕ) → is_plus_or_minus (sort_of kind text) ≡ true → is_signed kind ≡ true
kind_of_sign kinds.Word text r = absurd (no_sign (sort_of kinds.Word text) (name_yes kinds.Word text refl) r)
kind_of_sign kinds.Name text r = absurd (no_sign (sort_of kinds.Name text) (name_yes kinds.Name text refl) r)
kind_of_sign kinds.AtName text r =
    absurd (let no : true ≡ false = sym r ∙ no_last (is_name (at_sort text)) _ _ _ (at_no text) in cc)
kind_of_sign (kinds.Quoted told) text r =
    absurd (let no : true ≡ false = sym r ∙ no_last (is_name (quoted_sort told)) _ _ _ (quoted_no told) in cc)
kind_of_sign _ text r = r

-- ---- texts of one token

one_text : (source : Source) (from first stop : ℕ) → stop ≡ first
    → texts source (record { from = from; to = to_at source stop; first = first; end = stop })
    ≡ record { first = slice_range (bytes source) from (to_at source first); rest = [] }
unfolding texts
one_text source from first stop e =
    ap (λ (k : ℕ). texts_from source (to_at source k) from first (k - first)) e
    ∙ ap (λ (n : ℕ). texts_from source (to_at source first) from first n) (let z : first - first ≡ 0 = omega arith in z)

pub parts_are : (source : Source) (i : ℕ) → parts_between source i (suc i) [] ≡ parts.Plain (bytes_at source i)
parts_are source i =
    ap plain_parts (one_text source (from_at source i) i (suc i - 1) (let z : suc i - 1 ≡ i = omega arith in z))

pub said_is : (source : Source) (i : ℕ)
    → text_to_end source (from_at source i) i (i + 1) ≡ record { first = bytes_at source i; rest = [] }
said_is source i = one_text source (from_at source i) i ((i + 1) - 1) (let z : (i + 1) - 1 ≡ i = omega arith in z)

-- the bytes of a token that sits somewhere
pub bytes_sit : (source : Source) (commented : Bool) (at : ℕ) (front : List ℕ) (seen : Seen) (rest : List ℕ)
    → Sits source commented at front seen rest → bytes_at source at ≡ seen.bytes
unfolding from_at to_at
bytes_sit source commented at front seen rest sits =
    ap (λ (l : Option Lexeme). slice_range (bytes source) (from_in source l) (to_in source l)) sits.there
    ∙ ap (λ (n : ℕ). slice_range (bytes source) n sits.lexeme.to) sits.from
    ∙ ap (λ (n : ℕ). slice_range (bytes source) (length front) n) sits.to
    ∙ ap (λ (t : List ℕ). slice_range t (length front) (length front + length seen.bytes)) sits.text_is
    ∙ range_behind front seen.bytes rest

-- ---- words

word_told : (mode : Mode) (spaced : Bool) (sort : Sort) → is_name sort ≡ true → is_reserved sort ≡ false
    → is_bounded mode ≡ false → Value mode spaced false (written sort spaced terminals.Word ∷ [])
word_told mode spaced sort n r b =
    word (named sort n
    (names.both (not (is_reserved sort)) _ (ap not r)
    (names.both (not (ends_bound mode sort)) _ (ap not (unbounded mode sort b)) refl)) no_part)

-- a name that was read, written as it stood
pub copied_behind : (source : Source) (i : ℕ) (lexeme : Lexeme) (it : OldToken source i lexeme)
    → is_name (sort_of it.kind it.text) ≡ true → (terminal : Terminal) (said : Said) (before : Before) (spaced : Bool)
    → is_calm (behind_gap before (gap_of spaced)) ≡ true → (P : List ℕ → Type 0)
    → ((after : List ℕ) → P after → Behind it.text after)
    → ((new : Source) (at : ℕ) → bytes_at new at ≡ bytes_at source i → Says new at said)
    → Segment before (gap_of spaced ++ it.text) (tok terminal said ∷ [])
    (written (sort_of it.kind it.text) (is_spaced (behind_gap before (gap_of spaced))) terminal ∷ []) befores.Other P
copied_behind source i lexeme it n terminal said before spaced calm P parted says =
    let k = kind_of_name it.kind it.text n in
    let closed = name_opens it.kind k in
    let own = it.own closed in
    let named_piece = name_in it.kind (length it.text) own.change k (it.text ++ own.after) own.inside own.before own.is in
    let keep = name_keep it.kind (length it.text) own.change k (it.text ++ own.after) named_piece in
    subst
    (λ (end : Before). Segment before (gap_of spaced ++ it.text) (tok terminal said ∷ []) (written (sort_of it.kind it.text) (is_spaced (behind_gap before (gap_of spaced))) terminal ∷ []) end P)
    (name_behind it.kind k)
    (token_segment it.kind it.text (terminal ∷ []) said before spaced P closed (name_comment (sort_of it.kind it.text) n)
    (name_black it.text own.after [] it.kind own.change k own.some named_piece (nothing_parts it.text)) own.some
    (λ new commented at front after sits.
    says new at (bytes_sit new commented at front _ after sits ∙ sym own.bytes_are))
    (λ inside after code ok.
    token_at it.text own.after after it.kind own.change k own.some named_piece (parted after ok) inside (behind_gap before (gap_of spaced)) code calm
    ∙ ap (made it.kind (length it.text)) keep))

pub copied_name : (source : Source) (i : ℕ) (lexeme : Lexeme) (it : OldToken source i lexeme)
    → is_name (sort_of it.kind it.text) ≡ true → (terminal : Terminal) (said : Said) (before : Before) (spaced : Bool)
    → is_calm (behind_gap before (gap_of spaced)) ≡ true → (P : List ℕ → Type 0)
    → ((after : List ℕ) → P after → Parted it.text after)
    → ((new : Source) (at : ℕ) → bytes_at new at ≡ bytes_at source i → Says new at said)
    → Segment before (gap_of spaced ++ it.text) (tok terminal said ∷ [])
    (written (sort_of it.kind it.text) (is_spaced (behind_gap before (gap_of spaced))) terminal ∷ []) befores.Other P
copied_name source i lexeme it n terminal said before spaced calm P parted says =
    copied_behind source i lexeme it n terminal said before spaced calm P
    (λ after f. parted_behind it.text after (parted after f)) says

-- its bytes are those that stood there
pub copied_bytes : (source : Source) (i : ℕ) (lexeme : Lexeme) (it : OldToken source i lexeme)
    → is_name (sort_of it.kind it.text) ≡ true → bytes_at source i ≡ it.text
copied_bytes source i lexeme it n = (it.own (name_opens it.kind (kind_of_name it.kind it.text n))).bytes_are

-- a word whose sort is neither a constant nor an operator
pub word_written : (source : Source) (i : ℕ) (span : Span) (old : Old source i (just terminals.Word))
    (it : OldToken source i old.lexeme) → is_reserved (sort_of it.kind it.text) ≡ false
    → WrittenAs (AsValue false) (expr_text (expression (exprs.Word (parts_between source i (suc i) [])) span))
    (tok terminals.Word (from_start source i [] 1) ∷ [])
word_written source i span old it reserved before spaced calm =
    let sort = sort_of it.kind it.text in
    let n : is_name sort ≡ true =
    ap (λ (t : Terminal). fits t sort) (sym (only_word old.lexeme.terminal old.kind)) ∙ it.fit in
    let bytes_are = copied_bytes source i old.lexeme it n in
    let shown : it.text ≡ expr_text (expression (exprs.Word (parts_between source i (suc i) [])) span) =
    sym bytes_are
    ∙ ap (pieces_text manners.Joined) (sym (unrolled.plain_is (bytes_at source i)))
    ∙ ap (λ (p : Parts). pieces_text manners.Joined (parts_written p)) (sym (parts_are source i))
    ∙ sym (unrolled.word_is (parts_between source i (suc i) [])) in record {
      passed = _;
      segment = as_behind (λ after f. subst (λ (t : List ℕ). Follows t after) (sym shown) f)
          (as_text (ap (λ (t : List ℕ). gap_of spaced ++ t) shown)
          (copied_name source i old.lexeme it n terminals.Word (from_start source i [] 1) before spaced calm (Follows it.text)
          (follows_parts it.text)
          (λ new at same. said_is new at ∙ ap (λ (t : List ℕ). record { first = t; rest = [] }) same ∙ sym (said_is source i))));
      told = λ mode b. word_told mode (is_spaced (behind_gap before (gap_of spaced))) sort n reserved b;
    }

pub words_written : WordsAreWritten
words_written source i span was old free =
    let it = old_token source was i old.lexeme old.there in
    let n : is_name (sort_of it.kind it.text) ≡ true =
    ap (λ (t : Terminal). fits t (sort_of it.kind it.text)) (sym (only_word old.lexeme.terminal old.kind)) ∙ it.fit in
    word_written source i span old it
    (name_reserved it.kind it.text (kind_of_name it.kind it.text n)
    (ap (λ (t : List ℕ). is_reserved (word_sort t)) (sym (copied_bytes source i old.lexeme it n)) ∙ free))
