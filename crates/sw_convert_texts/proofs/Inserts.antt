-- A value in `#{}`, as it is written: two tokens around its own.
use Rattle.std.proofs.Common.{◌≡◌, ◌<◌, ℕ, Bool, true, false, List, [], ◌∷◌, ◌++◌, length, refl, sym, subst, arith, lit<}
use Rattle.std.specs.Prelude.{◌==◌, codes}
use Rattle.std.proofs.lemmas.Bool.Decides.{nat_tests}
use Rattle.sw_text_scan.specs.Bytes.{sign, byte, is_quote}
use Rattle.sw_text_scan.proofs.Bounds.{if_false}
use Rattle.sw_tokens.specs.declared.pieces.Before.{Before}
use Rattle.sw_tokens.specs.declared.pieces.Before.TheVariants as befores
use Rattle.sw_tokens.specs.declared.pieces.Change.TheVariants as changes
use Rattle.sw_tokens.specs.declared.skips.Inside.{Inside}
use Rattle.sw_tokens.specs.declared.skips.Inside.TheVariants as insides
use Rattle.sw_tokens.specs.declared.token.TokenKind.TheVariants as kinds
use Rattle.sw_tokens.specs.Pieces.{made, piece, code_piece, url_piece, comment_piece, text_piece}
use Rattle.sw_tokens.specs.Tokens.{is_spaced}
use Rattle.sw_parse_terminals.specs.declared.terminal.Terminal.{Terminal}
use Rattle.sw_parse_terminals.specs.declared.terminal.Terminal.TheVariants as terminals
use Rattle.sw_parse_lexemes.specs.declared.sort.Sort.TheVariants as sorts
use Rattle.sw_parse_lexemes.specs.declared.state.Mode.TheVariants as modes
use Rattle.sw_convert_spelling.specs.Spelt.{behind_gap, innermost, is_sheet_code, is_gap}
use Rattle.sw_convert_passing.specs.Values.{Items, items}
use Rattle.sw_convert_again.specs.Tokens.{Said, Tok}
use Rattle.sw_convert_tokens.specs.Joints.{Seen, Joint, Token, text, Stand}
use Rattle.sw_convert_tokens.specs.Written.{Follows, gap_of, AsRow, IsWritten, WrittenAs}
use Rattle.sw_convert_tokens.proofs.Joins.{stand_append}
use Rattle.sw_convert_tokens.proofs.Loud.{seen_by}

-- where a `#{` opens a value
abbrev pub takes_insert : Inside → Bool
takes_insert insides.Sheet = true
takes_insert insides.Interpolation = true
takes_insert insides.Url = true
takes_insert insides.UrlInside = true
takes_insert insides.Comment = true
takes_insert (insides.Quotes q) = is_quote q
takes_insert _ = false

pub code_inserts : (inside : Inside) → is_sheet_code inside ≡ true → takes_insert inside ≡ true
code_inserts insides.Sheet c = refl
code_inserts insides.Interpolation c = refl
code_inserts _ c = absurd (cc)

hash_quote : (q : ℕ) → is_quote q ≡ true → (sign "#" == q) ≡ false
hash_quote q e = grind (arith, nat_tests)

open_token : (inside : Inside) (before : Before) (after : List ℕ) → takes_insert inside ≡ true
    → piece (codes "#{" ++ after) inside before 0 ≡ made kinds.OpenInterpolation 2 (changes.Push insides.Interpolation)
unfolding code_piece url_piece comment_piece text_piece byte
open_token insides.Sheet before after t = refl
open_token insides.Interpolation before after t = refl
open_token insides.Url before after t = refl
open_token insides.UrlInside before after t = refl
open_token insides.Comment before after t = refl
open_token (insides.Quotes q) before after t = if_false (sign "#" == q) _ _ (hash_quote q t)
open_token _ before after t = absurd (cc)

close_token : (before : Before) (after : List ℕ)
    → piece (codes "}" ++ after) insides.Interpolation before 0 ≡ made kinds.CloseInterpolation 1 changes.Pop
unfolding code_piece byte
close_token before after = refl

abbrev pub opening_behind : Before → List ℕ → Terminal → Said → Seen
opening_behind before gap terminal said = record {
  gap = gap;
  kind = kinds.OpenInterpolation;
  bytes = codes "#{";
  change = changes.Push insides.Interpolation;
  spaced = is_spaced (behind_gap before gap);
  may_be = terminal ∷ [];
  said = said;
}

abbrev pub opening : Before → Bool → Terminal → Said → Seen
opening before spaced terminal said = opening_behind before (gap_of spaced) terminal said

abbrev pub closing : Said → Seen
closing said = record {
  gap = [];
  kind = kinds.CloseInterpolation;
  bytes = codes "}";
  change = changes.Pop;
  spaced = false;
  may_be = terminals.InsertEnd ∷ [];
  said = said;
}

-- a value inside
abbrev pub Inner : List ℕ → List Tok → Type 0
Inner value tokens = IsWritten AsRow value tokens befores.Other false

pub inner_of : (value : List ℕ) (tokens : List Tok) → WrittenAs AsRow value tokens → Inner value tokens
inner_of value tokens written = written befores.Other false refl

pub inner_items : {value : List ℕ} {tokens : List Tok} → (inner : Inner value tokens) → Items inner.passed
inner_items inner = let (ended, row) = inner.told modes.Expression refl in items row

close_follows : (value rest : List ℕ) → Follows value (codes "}" ++ rest)
close_follows value rest = record { stop = refl; closed = refl }

some_two : 0 < length (codes "#{")
some_two = lit< tt

some_one : 0 < length (codes "}")
some_one = lit< tt

-- tokens behind the `}`, and all from the `#{` on
close_stand : (stack end : List Inside) (said : Said) (joints : List Joint) (after : List ℕ)
    → Stand stack befores.Other joints end after
    → Stand (insides.Interpolation ∷ stack) befores.Other (Token (closing said) ∷ joints) end after
close_stand stack end said joints after more = (
  refl,
  some_one,
  (refl, refl),
  λ e. absurd (cc),
  close_token befores.Other (text joints ++ after),
  more,
)

pub value_stand_to : (stack end : List Inside) (before : Before) (gap : List ℕ) (terminal : Terminal) (first said : Said)
    {value : List ℕ} {tokens : List Tok} (inner : Inner value tokens) (joints : List Joint) (after : List ℕ)
    → takes_insert (innermost stack) ≡ true → is_gap (innermost stack) gap (codes "#{") ≡ true
    → Stand stack befores.Other joints end after
    → Stand stack before
    (Token (opening_behind before gap terminal first) ∷ (inner.segment.joints ++ Token (closing said) ∷ joints)) end after
value_stand_to stack end before gap terminal first said {value} inner joints after takes is more = (
  is,
  some_two,
  (refl, seen_by sorts.OpenInsert (terminal ∷ []) refl),
  λ e. absurd (cc),
  open_token (innermost stack) (behind_gap before gap) _ takes,
  stand_append (insides.Interpolation ∷ stack) (insides.Interpolation ∷ stack) end befores.Other inner.segment.joints
      (Token (closing said) ∷ joints) after
      (inner.segment.stand (insides.Interpolation ∷ stack) (text (Token (closing said) ∷ joints) ++ after) refl
      (close_follows value (text joints ++ after)))
      (subst (λ (b : Before). Stand (insides.Interpolation ∷ stack) b (Token (closing said) ∷ joints) end after)
      (sym inner.segment.last) (close_stand stack end said joints after more)),
)

pub value_stand : (stack : List Inside) (before : Before) (gap : List ℕ) (terminal : Terminal) (first said : Said)
    {value : List ℕ} {tokens : List Tok} (inner : Inner value tokens) (joints : List Joint) (after : List ℕ)
    → takes_insert (innermost stack) ≡ true → is_gap (innermost stack) gap (codes "#{") ≡ true
    → Stand stack befores.Other joints stack after
    → Stand stack before
    (Token (opening_behind before gap terminal first) ∷ (inner.segment.joints ++ Token (closing said) ∷ joints)) stack after
value_stand stack before gap terminal first said inner joints after takes is more =
    value_stand_to stack stack before gap terminal first said inner joints after takes is more

pub insert_stand : (stack : List Inside) (before : Before) (spaced : Bool) (terminal : Terminal) (first said : Said)
    {value : List ℕ} {tokens : List Tok} (inner : Inner value tokens) (joints : List Joint) (after : List ℕ)
    → takes_insert (innermost stack) ≡ true → is_gap (innermost stack) (gap_of spaced) (codes "#{") ≡ true
    → Stand stack befores.Other joints stack after
    → Stand stack before
    (Token (opening before spaced terminal first) ∷ (inner.segment.joints ++ Token (closing said) ∷ joints)) stack after
insert_stand stack before spaced terminal first said inner joints after takes gap more =
    value_stand stack before (gap_of spaced) terminal first said inner joints after takes gap more
