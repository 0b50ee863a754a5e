-- What stands between the tokens of raw text that was read: white space, or comments.
use Rattle.std.proofs.Common.{◌≡◌, ◌≤◌, ℕ, zero, suc, ◌+◌, ◌-◌, Bool, true, false, if◌then◌else◌, List, [], ◌∷◌, ◌++◌, Some, refl, sym, ◌∙◌, ap, arith}
use Rattle.std.specs.Prelude.{slice_range, max}
use Rattle.std.specs.List.{list_all}
use Rattle.std.proofs.lemmas.Bool.Decides.{nat_tests}
use Rattle.std.proofs.lemmas.List.Folds.{list_all-append}
use Rattle.sw_text_scan.specs.Bytes.{is_white}
use Rattle.sw_text_scan.proofs.Bounds.{if_true, if_false}
use Rattle.sw_parse_terminals.specs.declared.lexeme.Lexeme.{Lexeme}
use Rattle.sw_parse_table.specs.declared.source.Source.{Source}
use Rattle.sw_parse_table.specs.Parts.{Part}
use Rattle.sw_parse_table.specs.Sources.{is_silent, blank, bytes, bytes_from, lexeme_at, from_in, to_in, commented_in, from_at, to_at, token_at, token_from, token_to, is_commented, blank_from, first_between, gap_at}
use Rattle.sw_convert_spelling.proofs.Choices.{both}
use Rattle.sw_convert_again.specs.Tokens.{Tok, Extent, Old}
use Rattle.sw_convert_again.specs.RawTexts.{SpellsRawItem, SpellsRawText, raw_token, raw_insert, raw_brackets, raw_end, raw_more}
use Rattle.sw_convert_tokens.specs.Values.{WasRead}
use Rattle.sw_convert_texts.specs.RawKinds.{gap_before}
use Rattle.sw_convert_texts.proofs.LexemePairs.{apart_there}

-- ---- white space without comments

silent_white : (silent : Bool) (b : ℕ) → is_silent silent b ≡ false → is_white b ≡ true
silent_white true b e = grind (arith, nat_tests)
silent_white false b e = grind (arith, nat_tests)

blank_white : (silent : Bool) (bs : List ℕ) → list_all is_white (blank silent bs) ≡ true
blank_white silent [] = refl
blank_white silent (b ∷ bs) = go (blank_white (is_silent silent b) bs) (is_silent silent b) refl
  where
    go : list_all is_white (blank (is_silent silent b) bs) ≡ true → (t : Bool) → is_silent silent b ≡ t
        → list_all is_white ((if t then [] else b ∷ []) ++ blank (is_silent silent b) bs) ≡ true
    go more true e = more
    go more false e = both (is_white b) _ (silent_white silent b e) more

module _ (source : Source) where
  blank_from_white : (to from at n : ℕ) → list_all is_white (blank_from source to from at n) ≡ true
  blank_from_white to from at zero = blank_white false (bytes_from source from to)
  blank_from_white to from at (suc n) =
      let first = blank false (bytes_from source from (token_from source at)) in
      list_all-append is_white first (blank_from source to (max from (token_to source at)) (at + 1) n)
      ∙ both (list_all is_white first) _ (blank_white false (bytes_from source from (token_from source at)))
      (blank_from_white to (max from (token_to source at)) (at + 1) n)

  gap_white : (i : ℕ) → list_all is_white (gap_at source i) ≡ true
  unfolding gap_at
  gap_white i =
      blank_from_white (from_at source i) (to_at source (i - 1)) (first_between source i) (token_at source i - first_between source i)

-- ---- between tokens

-- a token stands before a place
pub record Last (source : Source) (i : ℕ) : Type 0 where
  pub place : suc (i - 1) ≡ i
  pub lexeme : Lexeme
  pub there : lexeme_at source (i - 1) ≡ Some lexeme

pub record There (source : Source) (i : ℕ) : Type 0 where
  pub lexeme : Lexeme
  pub there : lexeme_at source i ≡ Some lexeme

pub last_old : {source : Source} {i : ℕ} {set : List ℕ} → Old source i set → Last source (suc i)
last_old {source} {i} old = record {
  place = (let z : suc (suc i - 1) ≡ suc i = omega arith in z);
  lexeme = old.lexeme;
  there = ap (lexeme_at source) (let z : suc i - 1 ≡ i = omega arith in z) ∙ old.there;
}

pub item_there : {source : Source} {i k : ℕ} {parts : List Part} {tokens : List Tok} {extents : List Extent}
    → SpellsRawItem source i k parts tokens extents → There source i
item_there (raw_token old) = record { lexeme = old.lexeme; there = old.there }
item_there (raw_insert opens inner close) = record { lexeme = opens.lexeme; there = opens.there }
item_there (raw_brackets kind opens text close) = record { lexeme = opens.lexeme; there = opens.there }

pub item_last : {source : Source} {i k : ℕ} {parts : List Part} {tokens : List Tok} {extents : List Extent}
    → SpellsRawItem source i k parts tokens extents → Last source k
item_last (raw_token old) = last_old old
item_last (raw_insert opens inner close) = last_old close
item_last (raw_brackets kind opens text close) = last_old close

pub row_last : {source : Source} {i j : ℕ} {parts : List Part} {tokens : List Tok} {extents : List Extent}
    → SpellsRawText source i j parts tokens extents → Last source i → Last source j
row_last raw_end last = last
row_last (raw_more item text) last = row_last text (item_last item)

-- white space alone, where no comment does
pub record IsApart (source : Source) (i : ℕ) : Type 0 where
  pub order : to_at source (i - 1) ≤ from_at source i
  pub white : list_all is_white (slice_range (bytes source) (to_at source (i - 1)) (from_at source i)) ≡ true

module _ (source : Source) (was : WasRead source) (i : ℕ) (last : Last source i) (next : There source i) where
  pub apart_so : is_commented source i ≡ false → IsApart source i
  unfolding is_commented from_at to_at
  apart_so calm =
      let it = apart_there source was (i - 1) last.lexeme next.lexeme last.there
      (ap (lexeme_at source) last.place ∙ next.there) (sym (ap (commented_in source) next.there) ∙ calm) in
      let to : to_at source (i - 1) ≡ last.lexeme.to = ap (to_in source) last.there in
      let from : from_at source i ≡ next.lexeme.from = ap (from_in source) next.there in
      let order = it.order in record {
        order = omega (arith, to, from, order);
        white = ap (λ (m : ℕ). list_all is_white (slice_range (bytes source) m (from_at source i))) to
            ∙ ap (λ (m : ℕ). list_all is_white (slice_range (bytes source) last.lexeme.to m)) from ∙ it.white;
      }

  -- and what is written of it
  pub white_so : list_all is_white (gap_before source i) ≡ true
  white_so = go (is_commented source i) refl
    where
      go : (t : Bool) → is_commented source i ≡ t → list_all is_white (gap_before source i) ≡ true
      go true c =
          ap (list_all is_white) (if_true (is_commented source i) (gap_at source i) _ c) ∙ gap_white source i
      go false c =
          ap (list_all is_white) (if_false (is_commented source i) (gap_at source i) _ c) ∙ (apart_so c).white
