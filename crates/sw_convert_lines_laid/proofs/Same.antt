-- Tokens as they are written are those that the pass over tokens has.
use Rattle.std.proofs.Common.{◌≡◌, ℕ, Bool, true, false, if◌then◌else◌, List, [], ◌∷◌, Some, refl, sym, ◌∙◌}
use Rattle.sw_tokens.specs.declared.pieces.Before.{Before}
use Rattle.sw_tokens.specs.declared.skips.Inside.{Inside}
use Rattle.sw_tokens.specs.declared.token.TokenKind.{TokenKind}
use Rattle.sw_tokens.specs.declared.token.TokenKind.TheVariants as kinds
use Rattle.sw_tokens.specs.Tokens.{before_of}
use Rattle.sw_parse_terminals.specs.declared.terminal.Terminal.{Terminal}
use Rattle.sw_parse_terminals.specs.Urls.{has_namespace}
use Rattle.sw_parse_lexemes.specs.declared.sort.Sort.{Sort}
use Rattle.sw_parse_lexemes.specs.declared.sort.Sort.TheVariants as sorts
use Rattle.sw_parse_lexemes.specs.Classes.{is_comment}
use Rattle.sw_parse_lexemes.specs.Sorts.{sort_of}
use Rattle.sw_parse_lexemes.specs.Words.{at_sort}
use Rattle.sw_convert_spelling.specs.Spelt.{opened}
use Rattle.sw_convert_laid.specs.Held.{has_none}
use Rattle.sw_convert_heads_laid.specs.Marks.{Plain, kind_mark, sort_mark, is_noted, is_member, is_member_sort, IsSame, AreSame}
use Rattle.sw_convert_heads_laid.proofs.Walk.{plain_by}
use Rattle.sw_convert_heads_laid.proofs.Values.{name_plain}
use Rattle.sw_convert_tokens.specs.Joints.{Joint, Token, Apart, Seen, IsSeen, spelt_of, spelts, written_of, writtens, Stand}
use Rattle.sw_convert_tokens.proofs.Words.{name_yes}
use Rattle.sw_convert_texts.specs.RawKinds.{is_at}
use Rattle.sw_convert_texts.proofs.TokenPairs.{at_yes}

mark_same : (kind : TokenKind) (text : List ℕ) → kind_mark kind ≡ sort_mark (sort_of kind text)
mark_same kinds.Word text = sym (name_plain (sort_of kinds.Word text) (name_yes kinds.Word text refl))
mark_same kinds.Name text = sym (name_plain (sort_of kinds.Name text) (name_yes kinds.Name text refl))
mark_same kinds.AtName text =
    sym (plain_by is_at refl refl refl refl refl refl refl refl refl refl (at_sort text) (at_yes text))
mark_same (kinds.Quoted told) text = go (has_namespace told)
  where
    go : (t : Bool) → Plain ≡ sort_mark (if t then sorts.Quoted else sorts.Unnamed)
    go true = refl
    go false = refl
mark_same _ text = refl

member_same : (kind : TokenKind) (text : List ℕ) → is_member kind ≡ true → is_member_sort (sort_of kind text) ≡ true
member_same kinds.Equals text e = refl
member_same kinds.Plus text e = refl
member_same _ text e = absurd (cc)

-- a token that the grammar sees is a comment only where it is read as one
unseen_no : (sort : Sort) (may_be : List Terminal) → IsSeen sort may_be → has_none may_be ≡ true → is_comment sort ≡ false
unseen_no sort [] seen e = seen
unseen_no sort (terminal ∷ rest) seen e = absurd (cc)

noted_comment : (sort : Sort) → is_noted (sort_mark sort) ≡ true → is_comment sort ≡ true
noted_comment sorts.Comment e = refl
noted_comment sorts.CommentTemplate e = refl
noted_comment _ e = absurd (cc)

seen_same : (seen : Seen) → IsSeen (sort_of seen.kind seen.bytes) seen.may_be → IsSame (spelt_of (Token seen)) (written_of (Token seen))
seen_same seen known = record {
  mark = mark_same seen.kind seen.bytes;
  member = member_same seen.kind seen.bytes;
  empty = λ n e. absurd (let wrong : true ≡ false =
      sym (noted_comment (sort_of seen.kind seen.bytes) n) ∙ unseen_no (sort_of seen.kind seen.bytes) seen.may_be known e in cc);
}

pub joints_same : (stack : List Inside) (before : Before) (joints : List Joint) (end : List Inside) (after : List ℕ)
    → Stand stack before joints end after → AreSame (spelts joints) (writtens joints)
joints_same stack before [] end after stand = tt
joints_same stack before (Token seen ∷ joints) end after (gap, some, (spaced, known), opening, token, rest) = (
  seen_same seen known,
  joints_same (opened stack seen.change) (before_of (Some seen.kind)) joints end after rest,
)
joints_same stack before (Apart ∷ joints) end after (gap, some, told, opening, token, rest) = (
  record { mark = refl; member = λ e. absurd (let wrong : false ≡ true = e in cc); empty = λ n e. refl },
  joints_same stack (before_of (Some kinds.Comment)) joints end after rest,
)
