-- The white space between two statements stands before the first token of the second.
use Rattle.std.proofs.Common.{◌≡◌, ◌<◌, ℕ, suc, Bool, true, false, not, ◌&&◌, ◌||◌, if◌then◌else◌, List, [], ◌∷◌, ◌++◌, length, Option, Some, None, refl, sym, ◌∙◌, ap, subst, append_assoc, arith}
use Rattle.std.specs.List.{list_all}
use Rattle.sw_text_scan.specs.Bytes.{byte, is_white}
use Rattle.sw_tokens.specs.declared.pieces.Before.{Before}
use Rattle.sw_tokens.specs.declared.pieces.Before.TheVariants as befores
use Rattle.sw_tokens.specs.declared.pieces.Change.{Change}
use Rattle.sw_tokens.specs.declared.pieces.Piece.{Piece}
use Rattle.sw_tokens.specs.declared.skips.Inside.TheVariants as insides
use Rattle.sw_tokens.specs.declared.token.TokenKind.{TokenKind}
use Rattle.sw_tokens.specs.Pieces.{made, made_white, code_piece}
use Rattle.sw_tokens.specs.Tokens.{is_spaced}
use Rattle.sw_parse_terminals.specs.declared.terminal.Terminal.{Terminal}
use Rattle.sw_parse_table.specs.declared.source.Source.{Source}
use Rattle.sw_convert_spelling.specs.Spelt.{behind_gap, is_gap, IsToken}
use Rattle.sw_convert_passing.specs.Written.{Written}
use Rattle.sw_convert_passing.proofs.Facts.{both, and_left}
use Rattle.sw_convert_again.specs.Tokens.{Tok}
use Rattle.sw_convert_tokens.specs.Joints.{Seen, Joint, Token, Apart, spelt_of, text, toks, writtens, behind, Stand, Sits, Sit, Tell}
use Rattle.sw_convert_heads_passing.specs.Comments.{Comment, whole, with_values}
use Rattle.sw_convert_heads_passing.specs.Media.{is_code}
use Rattle.sw_convert_heads_passing.proofs.Fronts.{begins_code}
use Rattle.sw_convert_texts.specs.RawTexts.{SheetSegment}

-- a token comes first that the grammar sees, which is no empty comment
abbrev is_seen : List Terminal → Bool
is_seen [] = false
is_seen (terminal ∷ rest) = true

abbrev pub begins_token : List Written → Bool
begins_token [] = false
begins_token (token ∷ tokens) = is_code token.sort || is_seen token.may_be

pub code_token : (passed : List Written) → begins_code passed ≡ true → begins_token passed ≡ true
code_token [] e = absurd (cc)
code_token (token ∷ passed) e = yes (is_code token.sort) (is_seen token.may_be) e
  where
    yes : (a b : Bool) → a ≡ true → (a || b) ≡ true
    yes true b e = refl
    yes false b e = absurd (cc)

pub comment_token : {passed : List Written} → Comment passed → begins_token passed ≡ true
comment_token whole = refl
comment_token (with_values inner) = refl

abbrev token_in : Option Piece → Option TokenKind
token_in None = None
token_in (Some piece) = piece.token

-- a token begins with no white space
white_no : (w : Bool) (k n : ℕ) (x : Option Piece) (kind : TokenKind) (change : Change)
    → (if w then made_white k else x) ≡ made kind n change → w ≡ false
white_no true k n x kind change e = absurd (let wrong : None ≡ Some kind = ap token_in e in cc)
white_no false k n x kind change e = refl

pub code_black : (bs : List ℕ) (before : Before) (kind : TokenKind) (n : ℕ) (change : Change)
    → code_piece bs insides.Sheet before 0 ≡ made kind n change → is_white (byte bs 0) ≡ false
unfolding code_piece
code_black bs before kind n change e = white_no (is_white (byte bs 0)) _ n _ kind change e

pub first_white : (bytes after : List ℕ) → 0 < length bytes → is_white (byte bytes 0) ≡ is_white (byte (bytes ++ after) 0)
unfolding byte
first_white [] after some = absurd (omega (arith, some))
first_white (b ∷ bytes) after some = refl

all_white : (xs ys : List ℕ) → list_all is_white xs ≡ true → list_all is_white ys ≡ true
    → list_all is_white (xs ++ ys) ≡ true
all_white [] ys a b = b
all_white (x ∷ xs) ys a b = both (is_white x) _ (and_left (is_white x) _ a) (all_white xs ys (right (is_white x) _ a) b)
  where
    right : (p q : Bool) → (p && q) ≡ true → q ≡ true
    right true q e = e
    right false q e = absurd (cc)

gap_white : (gap bytes : List ℕ) → is_gap insides.Sheet gap bytes ≡ true → list_all is_white gap ≡ true
gap_white [] bytes e = refl
gap_white (b ∷ gap) bytes e = and_left (list_all is_white (b ∷ gap)) _ e

white_stays : (gap : List ℕ) → behind_gap befores.White gap ≡ befores.White
white_stays [] = refl
white_stays (b ∷ gap) = refl

-- the same token with more white space before it
abbrev moved : ℕ → List ℕ → Seen → Seen
moved b gap seen = record {
  gap = (b ∷ gap) ++ seen.gap;
  kind = seen.kind;
  bytes = seen.bytes;
  change = seen.change;
  spaced = seen.spaced;
  may_be = seen.may_be;
  said = seen.said;
}

sits_moved : {source : Source} {commented : Bool} {at : ℕ} {front rest : List ℕ} (b : ℕ) (gap : List ℕ) (seen : Seen)
    → Sits source commented at front (moved b gap seen) rest → Sits source commented at front seen rest
sits_moved b gap seen s = record {
  lexeme = s.lexeme;
  there = s.there;
  from = s.from;
  to = s.to;
  commented_is = s.commented_is;
  text_is = s.text_is;
  decoded_is = s.decoded_is;
  kind = s.kind;
}

module _ (b : ℕ) (gap : List ℕ) (white : list_all is_white (b ∷ gap) ≡ true) where
  tell_moved : (seen : Seen) (joints : List Joint) → Tell (Token seen ∷ joints) → Tell (Token (moved b gap seen) ∷ joints)
  tell_moved seen joints (one, more) = (
    λ source commented at front after sit.
        let e = append_assoc front (b ∷ gap) seen.gap in
        one source commented at (front ++ b ∷ gap) after (
          subst (λ (f : List ℕ). Sits source commented at f seen (text joints ++ after)) (sym e) (sits_moved b gap seen sit.0),
          subst (λ (f : List ℕ). Sit source false (suc at) (f ++ seen.bytes) joints after) (sym e) sit.1,
        ),
    more,
  )

  stand_moved : (seen : Seen) (joints : List Joint) (before : Before) (after : List ℕ)
      → Stand [] befores.White (Token seen ∷ joints) [] after → Stand [] before (Token (moved b gap seen) ∷ joints) [] after
  stand_moved seen joints before after (old, some, told, opening, token, rest) =
      let here : IsToken insides.Sheet befores.White (spelt_of (Token seen)) (text joints ++ after) =
      subst (λ (w : Before). IsToken insides.Sheet w (spelt_of (Token seen)) (text joints ++ after)) (white_stays seen.gap) token in
      let black : is_white (byte seen.bytes 0) ≡ false =
      first_white seen.bytes (text joints ++ after) some
      ∙ code_black (seen.bytes ++ (text joints ++ after)) befores.White seen.kind (length seen.bytes) seen.change here in (
        both (list_all is_white ((b ∷ gap) ++ seen.gap)) _
            (all_white (b ∷ gap) seen.gap white (gap_white seen.gap seen.bytes old)) (ap not black),
        some,
        (told.0 ∙ ap is_spaced (white_stays seen.gap), told.1),
        opening,
        here,
        rest,
      )

  pub gapped : {value : List ℕ} {tokens : List Tok} {passed : List Written} {end : Before} {P : List ℕ → Type 0}
      → begins_token passed ≡ true → SheetSegment befores.White value tokens passed end P → (before : Before)
      → SheetSegment before ((b ∷ gap) ++ value) tokens passed end P
  gapped {value} {tokens} {passed} {end} {P} code a before = go a.joints a.spelling a.seen a.written a.last a.tells a.stand
    where
      go : (joints : List Joint) → text joints ≡ value → toks joints ≡ tokens → writtens joints ≡ passed
          → behind befores.White joints ≡ end → Tell joints
          → ((after : List ℕ) → P after → Stand [] befores.White joints [] after)
          → SheetSegment before ((b ∷ gap) ++ value) tokens passed end P
      go [] spelling seen written last tells stand =
          absurd (let wrong : false ≡ true = ap begins_token written ∙ code in cc)
      go (Apart ∷ joints) spelling seen written last tells stand =
          absurd (let wrong : false ≡ true = ap begins_token written ∙ code in cc)
      go (Token one ∷ joints) spelling seen written last tells stand = record {
        joints = Token (moved b gap one) ∷ joints;
        spelling = append_assoc (b ∷ gap) one.gap (one.bytes ++ text joints) ∙ ap (λ (t : List ℕ). (b ∷ gap) ++ t) spelling;
        seen = seen;
        written = written;
        last = last;
        tells = tell_moved one joints tells;
        stand = λ after ok. stand_moved one joints before after (stand after ok);
      }
