-- Urls that were read are written as they stood.
use Rattle.std.proofs.Common.{◌≡◌, ◌<◌, ℕ, zero, suc, ◌+◌, Bool, true, false, not, ◌&&◌, if◌then◌else◌, List, [], ◌∷◌, ◌++◌, length, refl, sym, ◌∙◌, ap, subst, arith}
use Rattle.std.specs.Prelude.{◌==◌}
use Rattle.sw_text_scan.specs.Bytes.{sign, byte, opens_at}
use Rattle.sw_text_scan.proofs.Bounds.{and_left, and_right, not_true}
use Rattle.sw_tree.specs.declared.expr.ExprKind.TheVariants as exprs
use Rattle.sw_tree.specs.declared.text.Parts.{Parts}
use Rattle.sw_tree.specs.declared.text.Parts.TheVariants as parts
use Rattle.sw_tokens.specs.declared.token.TokenKind.{TokenKind}
use Rattle.sw_tokens.specs.declared.token.TokenKind.TheVariants as kinds
use Rattle.sw_tokens.specs.Ends.{opens}
use Rattle.sw_parse_grammar.specs.Grammar.{member}
use Rattle.sw_parse_terminals.specs.Urls.{has_namespace}
use Rattle.sw_parse_terminals.specs.Numbers.{number_of, just}
use Rattle.sw_parse_terminals.specs.declared.terminal.Terminal.{Terminal}
use Rattle.sw_parse_terminals.specs.declared.terminal.Terminal.TheVariants as terminals
use Rattle.sw_parse_lexemes.specs.declared.sort.Sort.{Sort}
use Rattle.sw_parse_lexemes.specs.declared.sort.Sort.TheVariants as sorts
use Rattle.sw_parse_lexemes.specs.Ahead.{sort_at, is_direct}
use Rattle.sw_parse_lexemes.specs.Classes.{is_name}
use Rattle.sw_parse_lexemes.specs.Sorts.{sort_of}
use Rattle.sw_parse_lexemes.specs.Words.{at_sort}
use Rattle.sw_parse_table.specs.Sources.{bytes_at, parts_between}
use Rattle.sw_parse_table.specs.Values.{expression}
use Rattle.sw_convert_spelling.specs.Spelt.{behind_gap}
use Rattle.sw_convert_written.specs.declared.manner.Manner.TheVariants as manners
use Rattle.sw_convert_written.specs.Pieces.{pieces_text}
use Rattle.sw_convert_written.specs.Expressions.{parts_written, expr_text}
use Rattle.sw_convert_written.proofs.Unrolled as unrolled
use Rattle.sw_convert_passing.specs.Values.{lone_value}
use Rattle.sw_convert_again.specs.Tokens.{Plain}
use Rattle.sw_convert_tokens.specs.Written.{Follows, gap_of}
use Rattle.sw_convert_tokens.proofs.Joins.{as_text, as_behind}
use Rattle.sw_convert_tokens.proofs.Signs.{token_segment}
use Rattle.sw_convert_tokens.proofs.Words.{name_yes, bytes_sit, parts_are}
use Rattle.sw_convert_texts.specs.Urls.{is_unbroken, UrlsAreWritten}
use Rattle.sw_convert_texts.specs.RawKinds.{is_at}
use Rattle.sw_convert_texts.proofs.TerminalChoices.{comes, is_url}
use Rattle.sw_convert_texts.proofs.TokenPairs.{at_yes}
use Rattle.sw_convert_texts.proofs.LexemePairs.{plains_in, comes_at}
use Rattle.sw_convert_texts.proofs.OldPieces.{old_piece, Whole, whole_bytes}
use Rattle.sw_convert_texts.proofs.UrlTokens.{UrlAt, url_in, url_token, url_black, url_some}

only_url : (terminal : Terminal) → member (number_of terminal) (just terminals.Url) ≡ true → terminal ≡ terminals.Url
only_url terminals.Url m = refl
only_url _ m = absurd (cc)

name_no_url : (sort : Sort) → is_name sort ≡ true → is_url sort ≡ false
name_no_url sorts.Url n = absurd (cc)
name_no_url _ n = refl

at_no_url : (sort : Sort) → is_at sort ≡ true → is_url sort ≡ false
at_no_url sorts.Url n = absurd (cc)
at_no_url _ n = refl

quoted_no_url : (t : Bool) → is_url (if t then sorts.Quoted else sorts.Unnamed) ≡ false
quoted_no_url true = refl
quoted_no_url false = refl

pub kind_of_url : (kind : TokenKind) (text : List ℕ) → is_url (sort_of kind text) ≡ true → kind ≡ kinds.Url
kind_of_url kinds.Url text e = refl
kind_of_url kinds.Word text e =
    absurd (let no : true ≡ false = sym e ∙ name_no_url (sort_of kinds.Word text) (name_yes kinds.Word text refl) in cc)
kind_of_url kinds.Name text e =
    absurd (let no : true ≡ false = sym e ∙ name_no_url (sort_of kinds.Name text) (name_yes kinds.Name text refl) in cc)
kind_of_url kinds.AtName text e = absurd (let no : true ≡ false = sym e ∙ at_no_url (at_sort text) (at_yes text) in cc)
kind_of_url (kinds.Quoted told) text e =
    absurd (let no : true ≡ false = sym e ∙ quoted_no_url (has_namespace told) in cc)
kind_of_url _ text e = absurd (cc)

-- with anything behind it no `}` stands in it, and no `#{`
pub closed_at : (w xs : List ℕ) → is_unbroken w ≡ true → (k : ℕ) → k < length w → (byte (w ++ xs) k == sign "}") ≡ false
unfolding byte
closed_at [] xs all k lt = absurd (omega (arith, lt))
closed_at (b ∷ w) xs all zero lt = not_true (b == sign "}") (and_left (not (b == sign "}")) _ all)
closed_at (b ∷ w) xs all (suc k) lt =
    closed_at w xs
    (and_right (not ((b == sign "#") && (byte w 0 == sign "{"))) _ (and_right (not (b == sign "}")) _ all)) k (omega (arith, lt))

pub shut_at : (w xs : List ℕ) → is_unbroken w ≡ true → (k : ℕ) → k + 1 < length w → opens_at (w ++ xs) k ≡ false
unfolding byte
shut_at [] xs all k lt = absurd (omega (arith, lt))
shut_at (b ∷ []) xs all k lt = absurd (omega (arith, lt))
shut_at (b ∷ c ∷ w) xs all zero lt =
    not_true ((b == sign "#") && (c == sign "{"))
    (and_left (not ((b == sign "#") && (c == sign "{"))) _ (and_right (not (b == sign "}")) _ all))
shut_at (b ∷ c ∷ w) xs all (suc k) lt =
    let text = b ∷ (c ∷ (w ++ xs)) in
    ap (λ (n : ℕ). (byte text (suc k) == sign "#") && (byte text n == sign "{"))
    (let place : suc k + 1 ≡ suc (k + 1) = omega arith in place)
    ∙ shut_at (c ∷ w) xs
    (and_right (not ((b == sign "#") && (c == sign "{"))) _ (and_right (not (b == sign "}")) _ all)) k (omega (arith, lt))

pub urls_written : UrlsAreWritten
urls_written source i span was old braces before spaced calm =
    let it = comes_at source was i old.lexeme old.there in
    let fit : is_url (sort_at (plains_in source) old.lexeme.token) ≡ true =
    ap (λ (t : Terminal). comes t (sort_at (plains_in source) old.lexeme.token) it.goes (is_direct (plains_in source) (old.lexeme.token + 1) sorts.OpenInsert) it.touches)
    (sym (only_url old.lexeme.terminal old.kind)) ∙ it.fit in
    let piece = old_piece source was i old.lexeme old.there in
    let kind = kind_of_url piece.kind piece.text (ap is_url (sym piece.sort) ∙ fit) in
    let whole : Whole source old.lexeme kinds.Url piece.text =
    subst (λ (k : TokenKind). Whole source old.lexeme k piece.text) kind (piece.own (ap opens kind)) in
    let w = piece.text in
    let same : bytes_at source i ≡ w = whole_bytes source i old.lexeme kinds.Url w old.there whole in
    let unbroken : is_unbroken w ≡ true = ap is_unbroken (sym same) ∙ braces in
    let closed : (xs : List ℕ) (k : ℕ) → k < length w → (byte (w ++ xs) k == sign "}") ≡ false =
    λ xs k lt. closed_at w xs unbroken k lt in
    let shut : (xs : List ℕ) (k : ℕ) → k + 1 < length w → opens_at (w ++ xs) k ≡ false =
    λ xs k lt. shut_at w xs unbroken k lt in
    let at : UrlAt (w ++ whole.after) (length w) =
    url_in (length w) whole.change (w ++ whole.after) whole.inside whole.before whole.is in
    let shown : w ≡ expr_text (expression (exprs.Url (parts_between source i (suc i) [])) span) =
    sym same
    ∙ ap (pieces_text manners.Joined) (sym (unrolled.plain_is (bytes_at source i)))
    ∙ ap (λ (p : Parts). pieces_text manners.Joined (parts_written p)) (sym (parts_are source i))
    ∙ sym (unrolled.url_is (parts_between source i (suc i) [])) in record {
      passed = _;
      segment = as_behind (λ after f. subst (λ (t : List ℕ). Follows t after) (sym shown) f)
          (as_text (ap (λ (t : List ℕ). gap_of spaced ++ t) shown)
          (token_segment kinds.Url w (terminals.Url ∷ []) (Plain 1 (parts_between source i (suc i) [])) before spaced (Follows w) refl refl
          (url_black w whole.after [] closed shut at) (url_some w whole.after [] closed shut at)
          (λ new commented place front after sits.
          ap (λ (n : ℕ). parts_between new place n []) (let z : place + 1 ≡ suc place = omega arith in z)
          ∙ parts_are new place
          ∙ ap parts.Plain (bytes_sit new commented place front _ after sits ∙ sym same)
          ∙ sym (parts_are source i))
          (λ inside after code ok. url_token w whole.after after closed shut at inside (behind_gap before (gap_of spaced)) code calm)));
      told = λ mode b. lone_value sorts.Url refl;
    }
