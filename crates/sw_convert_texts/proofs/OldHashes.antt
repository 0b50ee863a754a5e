-- Names behind a `#` that were read are written as they stood.
use Rattle.std.proofs.Common.{◌≡◌, ◌⊎◌, ◌≤◌, ℕ, suc, ◌+◌, ◌-◌, Bool, true, false, ◌&&◌, ◌||◌, if◌then◌else◌, List, [], ◌∷◌, ◌++◌, length, inl, inr, refl, sym, ◌∙◌, ap, subst, arith}
use Rattle.std.specs.Prelude.{◌==◌, slice_range, codes}
use Rattle.std.proofs.lemmas.Bool.Decides.{nat_tests}
use Rattle.sw_text_scan.specs.Bytes.{sign, byte}
use Rattle.sw_text_scan.proofs.Bounds.{and_left, and_right}
use Rattle.sw_tokens.specs.declared.pieces.Before.{Before}
use Rattle.sw_tokens.specs.declared.pieces.Before.TheVariants as befores
use Rattle.sw_tokens.specs.declared.token.TokenKind.{TokenKind}
use Rattle.sw_tokens.specs.declared.token.TokenKind.TheVariants as kinds
use Rattle.sw_tokens.specs.Ends.{opens}
use Rattle.sw_tokens.specs.Pieces.{after_hash}
use Rattle.sw_tokens.specs.Tokens.{is_spaced}
use Rattle.sw_parse_grammar.specs.Grammar.{member}
use Rattle.sw_parse_terminals.specs.Urls.{has_namespace}
use Rattle.sw_parse_terminals.specs.Numbers.{number_of, just}
use Rattle.sw_parse_terminals.specs.declared.terminal.Terminal.{Terminal}
use Rattle.sw_parse_terminals.specs.declared.terminal.Terminal.TheVariants as terminals
use Rattle.sw_parse_lexemes.specs.declared.sort.Sort.{Sort}
use Rattle.sw_parse_lexemes.specs.declared.sort.Sort.TheVariants as sorts
use Rattle.sw_parse_lexemes.specs.Ahead.{sort_at, spaced_at, is_direct}
use Rattle.sw_parse_lexemes.specs.Classes.{is_name}
use Rattle.sw_parse_lexemes.specs.Sorts.{sort_of}
use Rattle.sw_parse_lexemes.specs.Words.{at_sort}
use Rattle.sw_parse_table.specs.declared.source.Source.{Source}
use Rattle.sw_parse_table.specs.Sources.{bytes, from_at, to_at, bytes_at, bytes_between}
use Rattle.sw_convert_again.specs.Tokens.{Bytes, tok, Old}
use Rattle.sw_convert_again.specs.Tokens as again
use Rattle.sw_convert_tokens.specs.Values.{WasRead}
use Rattle.sw_convert_tokens.specs.Written.{AsValue, WrittenAs}
use Rattle.sw_convert_tokens.proofs.Hashes.{colour_written, hashed_written}
use Rattle.sw_convert_tokens.proofs.HexForms.{form_is}
use Rattle.sw_convert_tokens.proofs.NamePieces.{name_in}
use Rattle.sw_convert_tokens.proofs.Words.{name_yes, name_opens, kind_of_name}
use Rattle.sw_convert_texts.specs.RawKinds.{is_at}
use Rattle.sw_convert_texts.proofs.TerminalChoices.{comes, is_hash, is_hex}
use Rattle.sw_convert_texts.proofs.TokenPairs.{at_yes}
use Rattle.sw_convert_texts.proofs.LexemePairs.{plains_in, comes_at, directly}
use Rattle.sw_convert_texts.proofs.HashPieces.{hash_in}
use Rattle.sw_convert_texts.proofs.HexPieces.{hex_behind, hex_in}
use Rattle.sw_convert_texts.proofs.JoinedTexts.{slice_more}
use Rattle.sw_convert_texts.proofs.OldPieces.{old_piece, OldPiece, Whole, whole_bytes}
use Rattle.sw_convert_texts.proofs.OldRows.{lies_at, sticks_by}

-- ---- kinds

-- a sort that no name, no at-keyword and no string has
abbrev is_inner : Sort → Bool
is_inner sorts.Hash = true
is_inner sorts.Hex = true
is_inner _ = false

name_no : (sort : Sort) → is_name sort ≡ true → is_inner sort ≡ false
name_no sorts.Hash n = absurd (cc)
name_no sorts.Hex n = absurd (cc)
name_no _ n = refl

at_no : (sort : Sort) → is_at sort ≡ true → is_inner sort ≡ false
at_no sorts.Hash n = absurd (cc)
at_no sorts.Hex n = absurd (cc)
at_no _ n = refl

quoted_no : (t : Bool) → is_inner (if t then sorts.Quoted else sorts.Unnamed) ≡ false
quoted_no true = refl
quoted_no false = refl

hash_inner : (sort : Sort) → is_hash sort ≡ true → is_inner sort ≡ true
hash_inner sorts.Hash e = refl
hash_inner _ e = absurd (cc)

hex_inner : (sort : Sort) → is_hex sort ≡ true → is_inner sort ≡ true
hex_inner sorts.Hex e = refl
hex_inner _ e = absurd (cc)

-- so a token of such a sort is none of these
no_word : {P : Type 0} (sort : Sort) → is_inner sort ≡ true → is_inner sort ≡ false → P
no_word sort e f = absurd (let no : true ≡ false = sym e ∙ f in cc)

kind_of_hash : (kind : TokenKind) (text : List ℕ) → is_hash (sort_of kind text) ≡ true → kind ≡ kinds.Hash
kind_of_hash kinds.Hash text e = refl
kind_of_hash kinds.Word text e =
    let sort = sort_of kinds.Word text in no_word sort (hash_inner sort e) (name_no sort (name_yes kinds.Word text refl))
kind_of_hash kinds.Name text e =
    let sort = sort_of kinds.Name text in no_word sort (hash_inner sort e) (name_no sort (name_yes kinds.Name text refl))
kind_of_hash kinds.AtName text e = no_word (at_sort text) (hash_inner (at_sort text) e) (at_no (at_sort text) (at_yes text))
kind_of_hash (kinds.Quoted told) text e =
    let sort = sort_of (kinds.Quoted told) text in no_word sort (hash_inner sort e) (quoted_no (has_namespace told))
kind_of_hash _ text e = absurd (cc)

kind_of_hex : (kind : TokenKind) (text : List ℕ) → is_hex (sort_of kind text) ≡ true → kind ≡ kinds.Hex
kind_of_hex kinds.Hex text e = refl
kind_of_hex kinds.Word text e =
    let sort = sort_of kinds.Word text in no_word sort (hex_inner sort e) (name_no sort (name_yes kinds.Word text refl))
kind_of_hex kinds.Name text e =
    let sort = sort_of kinds.Name text in no_word sort (hex_inner sort e) (name_no sort (name_yes kinds.Name text refl))
kind_of_hex kinds.AtName text e = no_word (at_sort text) (hex_inner (at_sort text) e) (at_no (at_sort text) (at_yes text))
kind_of_hex (kinds.Quoted told) text e =
    let sort = sort_of (kinds.Quoted told) text in no_word sort (hex_inner sort e) (quoted_no (has_namespace told))
kind_of_hex _ text e = absurd (cc)

only_hash : (terminal : Terminal) → member (number_of terminal) (just terminals.Hash) ≡ true → terminal ≡ terminals.Hash
only_hash terminals.Hash m = refl
only_hash _ m = absurd (cc)

only_named : (terminal : Terminal) → member (number_of terminal) (just terminals.HashName) ≡ true
    → terminal ≡ terminals.HashName
only_named terminals.HashName m = refl
only_named _ m = absurd (cc)

unspaced : (before : Before) → after_hash before ≡ true → is_spaced before ≡ false
unspaced befores.Hash e = refl
unspaced _ e = absurd (cc)

-- one byte
one_is : (w after : List ℕ) → length w ≡ 1 → (byte (w ++ after) 0 == sign "#") ≡ true → w ≡ codes "#"
unfolding byte
one_is [] after l e = absurd (omega (arith, l))
one_is (b ∷ []) after l e = ap (λ (c : ℕ). c ∷ []) (same b e)
  where
    same : (b : ℕ) → (b == sign "#") ≡ true → b ≡ sign "#"
    same b e = grind (arith, nat_tests)
one_is (b ∷ c ∷ w) after l e = absurd (omega (arith, l))

module _ (source : Source) (was : WasRead source) where
  record HashThere (i : ℕ) : Type 0 where
    is : bytes_at source i ≡ codes "#"
    low : from_at source i ≤ to_at source i

  hash_there : (i : ℕ) → Old source i (just terminals.Hash) → HashThere i
  hash_there i old =
      let it = comes_at source was i old.lexeme old.there in
      let sort = sort_at (plains_in source) old.lexeme.token in
      let fit : is_hash sort ≡ true =
      ap
      (λ (t : Terminal). comes t sort it.goes (is_direct (plains_in source) (old.lexeme.token + 1) sorts.OpenInsert) it.touches)
      (sym (only_hash old.lexeme.terminal old.kind))
      ∙ it.fit in
      let piece = old_piece source was i old.lexeme old.there in
      let kind = kind_of_hash piece.kind piece.text (ap is_hash (sym piece.sort) ∙ fit) in
      let whole : Whole source old.lexeme kinds.Hash piece.text =
      subst (λ (k : TokenKind). Whole source old.lexeme k piece.text) kind (piece.own (ap opens kind)) in
      let here = hash_in (piece.text ++ whole.after) (length piece.text) whole.change whole.inside whole.before whole.is in record {
        is = whole_bytes source i old.lexeme kinds.Hash piece.text old.there whole ∙ one_is piece.text whole.after here.one here.is;
        low = lies_at source i old.lexeme kinds.Hash piece.text old.there whole;
      }

  abbrev Hashed : List ℕ → Type 0
  Hashed text = WrittenAs (AsValue false) text (tok terminals.Hash (Bytes 2 text) ∷ again.sign terminals.HashName ∷ [])

  -- the name begins where the `#` ends
  both_bytes : (i : ℕ) (one : Old source i (just terminals.Hash)) (two : Old source (suc i) (just terminals.HashName))
      → spaced_at (plains_in source) two.lexeme.token ≡ false → from_at source (suc i) ≤ to_at source (suc i)
      → bytes_between source i (suc (suc i)) ≡ codes "#" ++ bytes_at source (suc i)
  both_bytes i one two direct high =
      let it = hash_there i one in
      let low = it.low in
      let sticks = sticks_by source was i one.lexeme two.lexeme one.there two.there
      (directly source was i one.lexeme two.lexeme one.there two.there direct) in
      let from = sticks.from in
      ap (λ (k : ℕ). slice_range (bytes source) (from_at source i) (to_at source k)) (let z : suc (suc i) - 1 ≡ suc i = omega arith in z)
      ∙ slice_more (bytes source) (from_at source i) (to_at source i) (to_at source (suc i)) low (omega (arith, from, high))
      ∙ ap (λ (n : ℕ). bytes_at source i ++ slice_range (bytes source) n (to_at source (suc i))) (sym from)
      ∙ ap (λ (t : List ℕ). t ++ bytes_at source (suc i)) it.is

  pub hash_written : (i : ℕ) → Old source i (just terminals.Hash) → Old source (suc i) (just terminals.HashName)
      → Hashed (bytes_between source i (suc (suc i)))
  hash_written i one two =
      let it = comes_at source was (suc i) two.lexeme two.there in
      let sort = sort_at (plains_in source) two.lexeme.token in
      let fit : (is_hex sort || (it.touches && is_name sort)) ≡ true =
      ap
      (λ (t : Terminal). comes t sort it.goes (is_direct (plains_in source) (two.lexeme.token + 1) sorts.OpenInsert) it.touches)
      (sym (only_named two.lexeme.terminal two.kind))
      ∙ it.fit in
      go (old_piece source was (suc i) two.lexeme two.there) it.unspaced (which (is_hex sort) _ fit)
    where
      which : (a b : Bool) → (a || b) ≡ true → (a ≡ true) ⊎ (b ≡ true)
      which true b e = inl refl
      which false b e = inr e

      go : (piece : OldPiece source two.lexeme) → {touches : Bool}
          → (touches ≡ true → spaced_at (plains_in source) two.lexeme.token ≡ false)
          → (is_hex (sort_at (plains_in source) two.lexeme.token) ≡ true)
          ⊎ ((touches && is_name (sort_at (plains_in source) two.lexeme.token)) ≡ true)
          → Hashed (bytes_between source i (suc (suc i)))
      go piece direct (inl h) =
          let kind = kind_of_hex piece.kind piece.text (ap is_hex (sym piece.sort) ∙ h) in
          let whole : Whole source two.lexeme kinds.Hex piece.text =
          subst (λ (k : TokenKind). Whole source two.lexeme k piece.text) kind (piece.own (ap opens kind)) in
          let xs = piece.text ++ whole.after in
          let here = hex_in xs (length piece.text) whole.change whole.inside whole.before whole.is in
          let behind = hex_behind xs (length piece.text) whole.change whole.inside whole.before whole.is in
          let text = both_bytes i one two (whole.spaced ∙ unspaced whole.before behind)
          (lies_at source (suc i) two.lexeme kinds.Hex piece.text two.there whole)
          ∙ ap (λ (t : List ℕ). codes "#" ++ t) (whole_bytes source (suc i) two.lexeme kinds.Hex piece.text two.there whole) in
          subst Hashed (sym text) (colour_written (codes "#" ++ piece.text) (form_is piece.text whole.after here.form here.run))
      go piece {touches} direct (inr e) =
          let k = kind_of_name piece.kind piece.text (ap is_name (sym piece.sort) ∙ and_right touches _ e) in
          let whole = piece.own (name_opens piece.kind k) in
          let named = name_in piece.kind (length piece.text) whole.change k (piece.text ++ whole.after) whole.inside whole.before whole.is in
          let text = both_bytes i one two (direct (and_left touches _ e))
          (lies_at source (suc i) two.lexeme piece.kind piece.text two.there whole)
          ∙ ap (λ (t : List ℕ). codes "#" ++ t) (whole_bytes source (suc i) two.lexeme piece.kind piece.text two.there whole) in
          subst Hashed (sym text)
          (hashed_written piece.text whole.after piece.kind whole.change k whole.some named)
