-- Signs of raw text are the tokens that they were, before what is written behind them.
use Rattle.std.proofs.Common.{◌≡◌, inl, ℕ, Bool, true, false, not, ◌&&◌, ◌||◌, List, [], ◌∷◌, ◌++◌, length, Some, refl, sym, ◌∙◌, ap, arith}
use Rattle.std.specs.Prelude.{◌==◌, nat_lt, codes, bytes_eq, if◌then◌else◌}
use Rattle.sw_convert_texts.proofs.RawHeads.{is_neutral}
use Rattle.sw_text_scan.specs.declared.signs.TheConstants.{END}
use Rattle.sw_text_scan.specs.Bytes.{sign, byte, is_white, is_digit, starts_plainly}
use Rattle.sw_text_scan.specs.Runs.{starts_at, escape_end, begins_name}
use Rattle.sw_text_scan.specs.Words.{is_u}
use Rattle.sw_text_scan.proofs.Bounds.{if_false, and_right, or_left, or_right, not_true}
use Rattle.sw_tokens.specs.declared.pieces.Before.{Before}
use Rattle.sw_tokens.specs.declared.pieces.Before.TheVariants as befores
use Rattle.sw_tokens.specs.declared.pieces.Change.TheVariants as changes
use Rattle.sw_tokens.specs.declared.skips.Inside.TheVariants as insides
use Rattle.sw_tokens.specs.declared.token.TokenKind.{TokenKind}
use Rattle.sw_tokens.specs.declared.token.TokenKind.TheVariants as kinds
use Rattle.sw_tokens.specs.Ends.{opens}
use Rattle.sw_tokens.specs.Pieces.{made, piece, code_piece, word_piece, name_piece, sign_piece, opens_url}
use Rattle.sw_tokens.specs.Tokens.{before_of}
use Rattle.sw_parse_terminals.specs.declared.terminal.Terminal.TheVariants as terminals
use Rattle.sw_parse_lexemes.specs.declared.sort.Sort.{Sort}
use Rattle.sw_parse_lexemes.specs.declared.sort.Sort.TheVariants as sorts
use Rattle.sw_parse_lexemes.specs.declared.state.Mode.{Mode}
use Rattle.sw_parse_lexemes.specs.Classes.{is_name, is_number, is_comment}
use Rattle.sw_parse_lexemes.specs.Sorts.{sort_of}
use Rattle.sw_convert_spelling.specs.Neighbours.{joins_sign, begins_other}
use Rattle.sw_convert_spelling.proofs.MovedRuns.{first_byte}
use Rattle.sw_convert_spelling.proofs.Choices.{left_no, both, neither}
use Rattle.sw_convert_passing.specs.Written.{Written, written}
use Rattle.sw_convert_heads_passing.specs.RawTexts.{Around, RawText}
use Rattle.sw_convert_heads_passing.specs.RawTexts as told
use Rattle.sw_convert_tokens.specs.Written.{is_calm}
use Rattle.sw_convert_tokens.proofs.Leaves.{no_other}
use Rattle.sw_convert_tokens.proofs.Signs.{sign_token, lone_token, token_by}
use Rattle.sw_convert_tokens.proofs.Stops.{no_escape}
use Rattle.sw_convert_texts.specs.RawKinds.{sign_text, is_some, name_stays, calls_url, is_equals, is_at, at_stays, is_colour, told_by, token_stays, is_hex, stands_behind, sort_behind}
use Rattle.sw_convert_texts.proofs.RawNames.{RawToken}

-- ---- signs

-- `-` before what begins no name
dash_joins : (after : List ℕ) → (starts_plainly (byte after 0) || ((byte after 0 == sign "-") || (byte after 0 == sign "\\"))) ≡ false
    → (starts_at after 0 || (byte after 0 == sign "-")) ≡ false
dash_joins after e =
    let rest = or_right (starts_plainly (byte after 0)) _ e in
    neither (starts_at after 0) _
    (neither (starts_plainly (byte after 0)) _ (or_left (starts_plainly (byte after 0)) _ e)
    (ap (nat_lt 0) (no_escape after (or_right (byte after 0 == sign "-") _ rest))))
    (or_left (byte after 0 == sign "-") _ rest)

dot_joins : (after : List ℕ) → not (is_digit (byte after 0) || (byte after 0 == sign ".")) ≡ true
    → (is_digit (byte after 0) || ((byte after 0 == sign ".") && (byte after 1 == sign "."))) ≡ false
dot_joins after e =
    let none = not_true _ e in
    neither (is_digit (byte after 0)) _ (or_left (is_digit (byte after 0)) _ none)
    (left_no (byte after 0 == sign ".") _ (or_right (is_digit (byte after 0)) _ none))

slash_joins : (after : List ℕ) → not ((byte after 0 == sign "/") || ((byte after 0 == sign "*") || (byte after 0 == END))) ≡ true
    → ((byte after 0 == sign "/") || (byte after 0 == sign "*")) ≡ false
slash_joins after e =
    let none = not_true _ e in
    neither (byte after 0 == sign "/") _ (or_left (byte after 0 == sign "/") _ none)
    (or_left (byte after 0 == sign "*") _ (or_right (byte after 0 == sign "/") _ none))

-- an `=` by itself
alone_equals : piece (codes "=" ++ []) insides.Sheet befores.White 0 ≡ made kinds.Equals (length (codes "=")) changes.Keep
unfolding code_piece word_piece name_piece sign_piece opens_url byte begins_name escape_end
alone_equals = refl

-- a sign that joins nothing behind it
pub fits : (b : ℕ) (after : List ℕ) → is_u b ≡ false → joins_sign b after ≡ false
    → (not (joins_sign b after) && not (begins_other befores.White (b ∷ after))) ≡ true
fits b after u e =
    both (not (joins_sign b after)) (not (begins_other befores.White (b ∷ after))) (ap not e) (ap not (no_other b after u))

-- where no name stands and no colour
pub calm_by : (before : Before) (sort : Sort) (text : List ℕ) → is_name sort ≡ false → is_hex sort ≡ false
    → is_equals sort ≡ false → stands_behind before sort text ≡ true → is_calm before ≡ true
calm_by befores.White sort text n h q e = refl
calm_by befores.Other sort text n h q e = refl
calm_by befores.Dollar sort text n h q e = absurd (let none = neither (is_name sort) _ n q in let wrong : true ≡ false = sym e ∙ none in cc)
calm_by befores.Hash sort text n h q e =
    absurd (let wrong : true ≡ false = sym e ∙ if_false (is_name sort) (not (is_colour text)) (is_hex sort) n ∙ h in cc)

pub stays_is : (sort : Sort) (text after : List ℕ) → is_name sort ≡ false → is_at sort ≡ false → token_stays sort text after ≡ true
    → told_by sort text after ≡ true
stays_is sort text after n a e =
    sym (if_false (is_name sort) (name_stays text (byte after 0) || calls_url text after) (if is_at sort then at_stays text after else told_by sort text after) n
    ∙ if_false (is_at sort) (at_stays text after) (told_by sort text after) a)
    ∙ and_right (is_some text) _ e

-- a sign of which it is told by a byte behind it
joins_is : (text own : List ℕ) (stays : Bool) → (bytes_eq text own && stays) ≡ true → stays ≡ true
joins_is text own stays e = and_right (bytes_eq text own) stays e

pub black_byte : (b : ℕ) (rest : List ℕ) → is_white b ≡ false → is_white (byte (b ∷ rest) 0) ≡ false
black_byte b rest e = ap is_white (first_byte b rest) ∙ e

abbrev IsSign : Sort → Type 0
IsSign sort = is_some (sign_text sort) ≡ true → RawToken sort (sign_text sort)

-- a sign, wherever it may stand
signed_by : (sort : Sort) (kind : TokenKind) (b : ℕ) (rest : List ℕ) → opens kind ≡ false
    → is_comment (sort_of kind (b ∷ rest)) ≡ false → before_of (Some kind) ≡ sort_behind sort → is_white b ≡ false
    → is_name sort ≡ false → is_at sort ≡ false → is_number sort ≡ false → sort_of kind (b ∷ rest) ≡ sort
    → is_neutral (sort_of kind (b ∷ rest)) ≡ true
    → ((after : List ℕ) → told_by sort (b ∷ rest) after ≡ true → (before : Before) → stands_behind before sort (b ∷ rest) ≡ true
    → piece ((b ∷ rest) ++ after) insides.Sheet before 0 ≡ made kind (length (b ∷ rest)) changes.Keep)
    → ((mode : Mode) (around : Around) (spaced : Bool) (more : List Written) → RawText mode around more
    → RawText mode around (written (sort_of kind (b ∷ rest)) spaced terminals.Raw ∷ more))
    → RawToken sort (b ∷ rest)
signed_by sort kind b rest closed seen other white unnamed unat uncounted same neutral token raw = record {
  kind = kind;
  closed = closed;
  seen = seen;
  other = other;
  some = omega arith;
  black = black_byte b rest white;
  token = λ after stays before stands. token after (stays_is sort (b ∷ rest) after unnamed unat stays) before stands;
  raw = raw;
  told = inl same;
  digits = λ e. absurd (let wrong : true ≡ false = sym e ∙ left_no (is_number sort) _ uncounted in cc);
  neutral = neutral;
}

-- one that stands behind no `#` and no `$`
signed : (sort : Sort) (kind : TokenKind) (b : ℕ) (rest : List ℕ) → opens kind ≡ false
    → is_comment (sort_of kind (b ∷ rest)) ≡ false → before_of (Some kind) ≡ sort_behind sort → is_white b ≡ false
    → is_name sort ≡ false → is_at sort ≡ false → is_hex sort ≡ false → is_equals sort ≡ false → is_number sort ≡ false
    → sort_of kind (b ∷ rest) ≡ sort → is_neutral (sort_of kind (b ∷ rest)) ≡ true
    → ((after : List ℕ) → told_by sort (b ∷ rest) after ≡ true → (before : Before) → is_calm before ≡ true
    → piece ((b ∷ rest) ++ after) insides.Sheet before 0 ≡ made kind (length (b ∷ rest)) changes.Keep)
    → ((mode : Mode) (around : Around) (spaced : Bool) (more : List Written) → RawText mode around more
    → RawText mode around (written (sort_of kind (b ∷ rest)) spaced terminals.Raw ∷ more))
    → RawToken sort (b ∷ rest)
signed sort kind b rest closed seen other white unnamed unat unhex unequal uncounted same neutral token raw =
    signed_by sort kind b rest closed seen other white unnamed unat uncounted same neutral
    (λ after stays before stands. token after stays before (calm_by before sort (b ∷ rest) unnamed unhex unequal stands)) raw

-- two or three bytes
long : (b : ℕ) (bytes after : List ℕ) → is_u b ≡ false → not (begins_other befores.White (b ∷ (bytes ++ after))) ≡ true
long b bytes after u = ap not (no_other b (bytes ++ after) u)

-- an `=`, behind a `$` too
equals_calm : (before : Before) (after : List ℕ) → (byte after 0 == sign "=") ≡ false → is_calm before ≡ true
    → piece (codes "=" ++ after) insides.Sheet before 0 ≡ made kinds.Equals 1 changes.Keep
equals_calm before after e calm =
    token_by kinds.Equals (sign "=") [] after insides.Sheet before refl calm refl refl alone_equals
    (fits (sign "=") after refl (neither (byte after 0 == sign "=") _ e refl))

equals_dollar : (after : List ℕ) → (byte after 0 == sign "=") ≡ false
    → piece (codes "=" ++ after) insides.Sheet befores.Dollar 0 ≡ made kinds.Equals 1 changes.Keep
unfolding code_piece word_piece name_piece sign_piece opens_url byte begins_name escape_end
equals_dollar after e = if_false (byte after 0 == sign "=") (made kinds.EqualsEquals 2 changes.Keep) (made kinds.Equals 1 changes.Keep) e

equals_at : (before : Before) (after : List ℕ) → (byte after 0 == sign "=") ≡ false
    → stands_behind before sorts.Equals (codes "=") ≡ true
    → piece (codes "=" ++ after) insides.Sheet before 0 ≡ made kinds.Equals 1 changes.Keep
equals_at befores.White after e stands = equals_calm befores.White after e refl
equals_at befores.Other after e stands = equals_calm befores.Other after e refl
equals_at befores.Dollar after e stands = equals_dollar after e
equals_at befores.Hash after e stands = absurd (let wrong : false ≡ true = stands in cc)

pub sign_raw : (sort : Sort) → IsSign sort
sign_raw sorts.Colon some =
    signed sorts.Colon kinds.Colon (sign ":") [] refl refl refl refl refl refl refl refl refl refl refl
    (λ after stays before calm.
    lone_token (sign ":") insides.Sheet before after refl refl)
    (λ mode around spaced rest more. told.raw_token sorts.Colon refl more)
sign_raw sorts.Comma some =
    signed sorts.Comma kinds.Comma (sign ",") [] refl refl refl refl refl refl refl refl refl refl refl
    (λ after stays before calm.
    lone_token (sign ",") insides.Sheet before after refl refl)
    (λ mode around spaced rest more. told.raw_sign sorts.Comma refl more)
sign_raw sorts.Dot some =
    signed sorts.Dot kinds.Dot (sign ".") [] refl refl refl refl refl refl refl refl refl refl refl
    (λ after stays before calm.
    sign_token kinds.Dot after insides.Sheet before refl refl calm
    (fits (sign ".") after refl
    (neither (is_digit (byte after 0) || ((byte after 0 == sign ".") && (byte after 1 == sign "."))) _
    (dot_joins after (joins_is (codes ".") (codes ".") _ stays)) refl)))
    (λ mode around spaced rest more. told.raw_token sorts.Dot refl more)
sign_raw sorts.Ellipsis some =
    signed sorts.Ellipsis kinds.Ellipsis (sign ".") (codes "..") refl refl refl refl refl refl refl refl refl refl refl
    (λ after stays before calm.
    sign_token kinds.Ellipsis after insides.Sheet before refl refl calm (long (sign ".") (codes "..") after refl))
    (λ mode around spaced rest more. told.raw_token sorts.Ellipsis refl more)
sign_raw sorts.Hash some =
    signed sorts.Hash kinds.Hash (sign "#") [] refl refl refl refl refl refl refl refl refl refl refl
    (λ after stays before calm.
    sign_token kinds.Hash after insides.Sheet before refl refl calm
    (fits (sign "#") after refl
    (neither (byte after 0 == sign "{") _
    (not_true _ (joins_is (codes "#") (codes "#") _ stays)) refl)))
    (λ mode around spaced rest more. told.raw_token sorts.Hash refl more)
sign_raw sorts.Dollar some =
    signed sorts.Dollar kinds.Dollar (sign "$") [] refl refl refl refl refl refl refl refl refl refl refl
    (λ after stays before calm.
    sign_token kinds.Dollar after insides.Sheet before refl refl calm (fits (sign "$") after refl refl))
    (λ mode around spaced rest more. told.raw_sign sorts.Dollar refl more)
sign_raw sorts.Ampersand some =
    signed sorts.Ampersand kinds.Ampersand (sign "&") [] refl refl refl refl refl refl refl refl refl refl refl
    (λ after stays before calm.
    sign_token kinds.Ampersand after insides.Sheet before refl refl calm (fits (sign "&") after refl refl))
    (λ mode around spaced rest more. told.raw_token sorts.Ampersand refl more)
sign_raw sorts.Plus some =
    signed sorts.Plus kinds.Plus (sign "+") [] refl refl refl refl refl refl refl refl refl refl refl
    (λ after stays before calm.
    sign_token kinds.Plus after insides.Sheet before refl refl calm (fits (sign "+") after refl refl))
    (λ mode around spaced rest more. told.raw_sign sorts.Plus refl more)
sign_raw sorts.Minus some =
    signed sorts.Minus kinds.Minus (sign "-") [] refl refl refl refl refl refl refl refl refl refl refl
    (λ after stays before calm.
    sign_token kinds.Minus after insides.Sheet before refl refl calm
    (fits (sign "-") after refl
    (neither (starts_at after 0 || (byte after 0 == sign "-")) _
    (dash_joins after (not_true _ (joins_is (codes "-") (codes "-") _ stays))) refl)))
    (λ mode around spaced rest more. told.raw_sign sorts.Minus refl more)
sign_raw sorts.Star some =
    signed sorts.Star kinds.Star (sign "*") [] refl refl refl refl refl refl refl refl refl refl refl
    (λ after stays before calm.
    sign_token kinds.Star after insides.Sheet before refl refl calm (fits (sign "*") after refl refl))
    (λ mode around spaced rest more. told.raw_token sorts.Star refl more)
sign_raw sorts.Slash some =
    signed sorts.Slash kinds.Slash (sign "/") [] refl refl refl refl refl refl refl refl refl refl refl
    (λ after stays before calm.
    sign_token kinds.Slash after insides.Sheet before refl refl calm
    (fits (sign "/") after refl
    (neither ((byte after 0 == sign "/") || (byte after 0 == sign "*")) _
    (slash_joins after (joins_is (codes "/") (codes "/") _ stays)) refl)))
    (λ mode around spaced rest more. told.raw_token sorts.Slash refl more)
sign_raw sorts.Percent some =
    signed sorts.Percent kinds.Percent (sign "%") [] refl refl refl refl refl refl refl refl refl refl refl
    (λ after stays before calm.
    sign_token kinds.Percent after insides.Sheet before refl refl calm (fits (sign "%") after refl refl))
    (λ mode around spaced rest more. told.raw_token sorts.Percent refl more)
sign_raw sorts.Exclamation some =
    signed sorts.Exclamation kinds.Exclamation (sign "!") [] refl refl refl refl refl refl refl refl refl refl refl
    (λ after stays before calm.
    sign_token kinds.Exclamation after insides.Sheet before refl refl calm
    (fits (sign "!") after refl
    (neither (byte after 0 == sign "=") _
    (not_true _ (joins_is (codes "!") (codes "!") _ stays)) refl)))
    (λ mode around spaced rest more. told.raw_token sorts.Exclamation refl more)
sign_raw sorts.Equals some =
    signed_by sorts.Equals kinds.Equals (sign "=") [] refl refl refl refl refl refl refl refl refl
    (λ after stays before stands. equals_at before after (not_true _ (joins_is (codes "=") (codes "=") _ stays)) stands)
    (λ mode around spaced rest more. told.raw_token sorts.Equals refl more)
sign_raw sorts.EqualsEquals some =
    signed sorts.EqualsEquals kinds.EqualsEquals (sign "=") (codes "=") refl refl refl refl refl refl refl refl refl refl refl
    (λ after stays before calm.
    sign_token kinds.EqualsEquals after insides.Sheet before refl refl calm (long (sign "=") (codes "=") after refl))
    (λ mode around spaced rest more. told.raw_token sorts.EqualsEquals refl more)
sign_raw sorts.NotEquals some =
    signed sorts.NotEquals kinds.NotEquals (sign "!") (codes "=") refl refl refl refl refl refl refl refl refl refl refl
    (λ after stays before calm.
    sign_token kinds.NotEquals after insides.Sheet before refl refl calm (long (sign "!") (codes "=") after refl))
    (λ mode around spaced rest more. told.raw_token sorts.NotEquals refl more)
sign_raw sorts.Less some =
    signed sorts.Less kinds.Less (sign "<") [] refl refl refl refl refl refl refl refl refl refl refl
    (λ after stays before calm.
    sign_token kinds.Less after insides.Sheet before refl refl calm
    (fits (sign "<") after refl
    (neither (byte after 0 == sign "=") _
    (not_true _ (joins_is (codes "<") (codes "<") _ stays)) refl)))
    (λ mode around spaced rest more. told.raw_token sorts.Less refl more)
sign_raw sorts.LessEquals some =
    signed sorts.LessEquals kinds.LessEquals (sign "<") (codes "=") refl refl refl refl refl refl refl refl refl refl refl
    (λ after stays before calm.
    sign_token kinds.LessEquals after insides.Sheet before refl refl calm (long (sign "<") (codes "=") after refl))
    (λ mode around spaced rest more. told.raw_token sorts.LessEquals refl more)
sign_raw sorts.Greater some =
    signed sorts.Greater kinds.Greater (sign ">") [] refl refl refl refl refl refl refl refl refl refl refl
    (λ after stays before calm.
    sign_token kinds.Greater after insides.Sheet before refl refl calm
    (fits (sign ">") after refl
    (neither (byte after 0 == sign "=") _
    (not_true _ (joins_is (codes ">") (codes ">") _ stays)) refl)))
    (λ mode around spaced rest more. told.raw_token sorts.Greater refl more)
sign_raw sorts.GreaterEquals some =
    signed sorts.GreaterEquals kinds.GreaterEquals (sign ">") (codes "=") refl refl refl refl refl refl refl refl refl refl refl
    (λ after stays before calm.
    sign_token kinds.GreaterEquals after insides.Sheet before refl refl calm (long (sign ">") (codes "=") after refl))
    (λ mode around spaced rest more. told.raw_token sorts.GreaterEquals refl more)
sign_raw _ some = absurd (cc)
