-- A value in `#{}` that stands by itself: two tokens around its own.
use Rattle.std.proofs.Common.{◌≡◌, ◌<◌, ℕ, Bool, true, false, List, [], ◌∷◌, ◌++◌, length, refl, sym, ◌∙◌, ap, subst, lit<}
use Rattle.std.specs.Prelude.{codes}
use Rattle.sw_text_scan.specs.Bytes.{byte}
use Rattle.sw_tokens.specs.declared.pieces.Before.{Before}
use Rattle.sw_tokens.specs.declared.pieces.Before.TheVariants as befores
use Rattle.sw_tokens.specs.declared.pieces.Change.TheVariants as changes
use Rattle.sw_tokens.specs.declared.skips.Inside.{Inside}
use Rattle.sw_tokens.specs.declared.skips.Inside.TheVariants as insides
use Rattle.sw_tokens.specs.declared.token.TokenKind.TheVariants as kinds
use Rattle.sw_tokens.specs.Pieces.{made, piece, code_piece}
use Rattle.sw_tokens.specs.Tokens.{is_spaced}
use Rattle.sw_parse_terminals.specs.declared.terminal.Terminal.{Terminal}
use Rattle.sw_parse_terminals.specs.declared.terminal.Terminal.TheVariants as terminals
use Rattle.sw_parse_lexemes.specs.declared.sort.Sort.TheVariants as sorts
use Rattle.sw_parse_lexemes.specs.declared.state.Mode.TheVariants as modes
use Rattle.sw_convert_spelling.specs.Spelt.{behind_gap, innermost, is_sheet_code}
use Rattle.sw_convert_passing.specs.Written.{Written, written, direct}
use Rattle.sw_convert_passing.specs.Values.{Items, items, inserted}
use Rattle.sw_convert_again.specs.Tokens.{Tok, Nothing}
use Rattle.sw_convert_again.specs.Tokens as again
use Rattle.sw_convert_again.specs.Spells.{within}
use Rattle.sw_convert_tokens.specs.Joints.{Seen, Token, Segment, text, Stand}
use Rattle.sw_convert_tokens.specs.Written.{Follows, gap_of, AsRow, WrittenAs}
use Rattle.sw_convert_tokens.proofs.Joins.{text_append, toks_append, writtens_append, behind_append, stand_append, tell_append}
use Rattle.sw_convert_tokens.proofs.Loud.{seen_by}
use Rattle.sw_convert_tokens.proofs.Signs.{Anything, gap_is}

open_token : (inside : Inside) (before : Before) (after : List ℕ) → is_sheet_code inside ≡ true
    → piece (codes "#{" ++ after) inside before 0 ≡ made kinds.OpenInterpolation 2 (changes.Push insides.Interpolation)
unfolding code_piece byte
open_token insides.Sheet before after code = refl
open_token insides.Interpolation before after code = refl
open_token _ before after code = absurd (cc)

close_token : (before : Before) (after : List ℕ)
    → piece (codes "}" ++ after) insides.Interpolation before 0 ≡ made kinds.CloseInterpolation 1 changes.Pop
unfolding code_piece byte
close_token before after = refl

abbrev opening : Before → Bool → Terminal → Seen
opening before spaced terminal = record {
  gap = gap_of spaced;
  kind = kinds.OpenInterpolation;
  bytes = codes "#{";
  change = changes.Push insides.Interpolation;
  spaced = is_spaced (behind_gap before (gap_of spaced));
  may_be = terminal ∷ [];
  said = Nothing;
}

abbrev closing : Seen
closing = record {
  gap = [];
  kind = kinds.CloseInterpolation;
  bytes = codes "}";
  change = changes.Pop;
  spaced = false;
  may_be = terminals.InsertEnd ∷ [];
  said = Nothing;
}

some_two : 0 < length (codes "#{")
some_two = lit< tt

some_one : 0 < length (codes "}")
some_one = lit< tt

close_follows : (value rest : List ℕ) → Follows value (codes "}" ++ rest)
close_follows value rest = record { stop = refl; closed = refl }

close_stand : (stack : List Inside) (after : List ℕ)
    → Stand (insides.Interpolation ∷ stack) befores.Other (Token closing ∷ []) stack after
close_stand stack after = (refl, some_one, (refl, refl), λ e. absurd (cc), close_token befores.Other after, refl)

-- with a space before it or none, as this terminal
pub record IsInsert (terminal : Terminal) (before : Before) (spaced : Bool) (value : List ℕ) (tokens : List Tok) :
    Type 0 where
  pub inner : List Written
  pub items : Items inner
  pub segment : Segment before (gap_of spaced ++ (codes "#{" ++ (value ++ codes "}")))
      (within (again.sign terminal) tokens terminals.InsertEnd)
      (inserted (is_spaced (behind_gap before (gap_of spaced))) terminal inner []) befores.Other Anything

pub insert_written : (terminal : Terminal) (before : Before) (spaced : Bool) {value : List ℕ} {tokens : List Tok}
    → WrittenAs AsRow value tokens → IsInsert terminal before spaced value tokens
unfolding byte
insert_written terminal before spaced {value} {tokens} it =
    let one = it befores.Other false refl in
    let inner = one.segment in
    let end = Token closing ∷ [] in
    let row = one.told modes.Expression refl in record {
      inner = one.passed;
      items = items row.1;
      segment = record {
        joints = Token (opening before spaced terminal) ∷ (inner.joints ++ end);
        spelling = ap (λ (t : List ℕ). gap_of spaced ++ (codes "#{" ++ t))
            (text_append inner.joints end ∙ ap (λ (t : List ℕ). t ++ codes "}") inner.spelling);
        seen = ap (λ (t : List Tok). again.sign terminal ∷ t)
            (toks_append inner.joints end ∙ ap (λ (t : List Tok). t ++ again.sign terminals.InsertEnd ∷ []) inner.seen);
        written = ap
            (λ (t : List Written). written sorts.OpenInsert (is_spaced (behind_gap before (gap_of spaced))) terminal ∷ t)
            (writtens_append inner.joints end
            ∙ ap (λ (t : List Written). t ++ direct sorts.CloseInsert terminals.InsertEnd ∷ []) inner.written);
        last = behind_append befores.Other inner.joints end;
        tells = (
          λ source commented at front after sit. tt,
          tell_append inner.joints end inner.tells (λ source commented at front after sit. tt, tt),
        );
        stand = λ stack after code ok. (
          gap_is (innermost stack) spaced (codes "#{") code refl,
          some_two,
          (refl, seen_by sorts.OpenInsert (terminal ∷ []) refl),
          λ e. absurd (cc),
          open_token (innermost stack) (behind_gap before (gap_of spaced)) _ code,
          stand_append (insides.Interpolation ∷ stack) (insides.Interpolation ∷ stack) stack befores.Other inner.joints end
              after
              (inner.stand (insides.Interpolation ∷ stack) (text end ++ after) refl (close_follows value after))
              (subst (λ (b : Before). Stand (insides.Interpolation ∷ stack) b end stack after) (sym inner.last)
              (close_stand stack after)),
        );
      };
    }
