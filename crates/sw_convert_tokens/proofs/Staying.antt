-- Numbers that were read and stay as they stood.
use Rattle.std.proofs.Common.{◌≡◌, ◌⊎◌, ℕ, suc, ◌+◌, true, not, ◌&&◌, List, [], ◌∷◌, ◌++◌, length, append-nil, inl, inr, refl, sym, ◌∙◌, ap, subst, arith, length-append}
use Rattle.std.specs.Prelude.{◌==◌, codes}
use Rattle.std.proofs.lemmas.Bool.Decides.{nat_tests}
use Rattle.sw_text_scan.specs.Bytes.{sign, byte, is_digit}
use Rattle.sw_text_scan.specs.Words.{is_plus_or_minus as is_sign_byte, unit_start, unit_end, begins_number}
use Rattle.sw_text_scan.proofs.Bounds.{and_right}
use Rattle.sw_parse_terminals.specs.declared.terminal.Terminal.{Terminal}
use Rattle.sw_parse_terminals.specs.declared.terminal.Terminal.TheVariants as terminals
use Rattle.sw_parse_terminals.specs.Numbers.{just}
use Rattle.sw_parse_lexemes.specs.declared.sort.Sort.TheVariants as sorts
use Rattle.sw_parse_lexemes.specs.Sorts.{sort_of}
use Rattle.sw_parse_table.specs.declared.source.Source.{Source}
use Rattle.sw_parse_table.specs.Sources.{bytes_at, bytes_between}
use Rattle.sw_convert_spelling.proofs.MovedRuns as moved
use Rattle.sw_convert_spelling.proofs.Choices.{both}
use Rattle.sw_convert_again.specs.Tokens.{Bytes, tok, Old}
use Rattle.sw_convert_again.specs.Tokens as again
use Rattle.sw_convert_tokens.specs.Values.{WasRead}
use Rattle.sw_convert_tokens.specs.Written.{Shape, WrittenAs}
use Rattle.sw_convert_tokens.proofs.Counted.{is_counted, Numbered, Signed, is_minus_counted, is_plus_counted, number_stays, minus_stays, plus_stays}
use Rattle.sw_convert_tokens.proofs.CountedBytes.{quiet_front, begins_alone}
use Rattle.sw_convert_tokens.proofs.NumberEnds.{unit_ends}
use Rattle.sw_convert_tokens.proofs.NumberPieces.{number_in, OldUnit, old_unit}
use Rattle.sw_convert_tokens.proofs.Numbers.{numeric_opens}
use Rattle.sw_convert_tokens.proofs.Olds.{old_token}
use Rattle.sw_convert_tokens.proofs.OldNumbers.{only_number, OldSignByte, old_sign, signed_bytes}
use Rattle.sw_convert_tokens.proofs.OriginChoices.{fits}
use Rattle.sw_convert_tokens.proofs.Ranges.{own_bytes}
use Rattle.sw_convert_tokens.proofs.Stops.{stopped}
use Rattle.sw_convert_tokens.proofs.Words.{kind_of_number}

equal : (a b : ℕ) → (a == b) ≡ true → a ≡ b
equal a b e = grind (arith, nat_tests)

same_is : (a b : ℕ) → a ≡ b → (a == b) ≡ true
same_is a b e = grind (arith, nat_tests)

-- a unit that ended before something ends with its own bytes
unit_alone : (w : List ℕ) → OldUnit w → unit_end w (unit_start w 0) ≡ length w
unit_alone w it =
    let alone : unit_end (it.unit ++ []) 0 ≡ length it.unit =
    equal (unit_end (it.unit ++ []) 0) (length it.unit)
    (and_right _ (unit_end (it.unit ++ []) 0 == length it.unit)
    (and_right (not ((byte (it.unit ++ []) 0 == sign ".") && is_digit (byte (it.unit ++ []) 1))) _
    (and_right (not (is_digit (byte (it.unit ++ []) 0))) _
    (unit_ends it.unit it.old [] it.ends refl (record { dark = stopped [] refl; closed = refl }))))) in
    let here = ap (λ (t : List ℕ). unit_end t 0) (sym (append-nil it.unit)) ∙ alone in
    let moved_end = moved.unit_moved it.front it.unit 0 in
    let long = length-append it.front it.unit in
    let whole = ap length it.split in
    ap (unit_end w) it.start ∙ ap (λ (t : List ℕ). unit_end t (length it.front)) it.split
    ∙ ap (unit_end (it.front ++ it.unit)) (let z : length it.front ≡ length it.front + 0 = omega arith in z)
    ∙ (let z : unit_end (it.front ++ it.unit) (length it.front + 0) ≡ length w = omega (arith, moved_end, here, long, whole) in z)

module _ (source : Source) (was : WasRead source) where
  pub old_counted : (k : ℕ) → Old source k (just terminals.Number) → is_counted (bytes_at source k) ≡ true
  old_counted k old =
      let it = old_token source was k old.lexeme old.there in
      let kind = kind_of_number it.kind it.text
      (ap (λ (t : Terminal). fits t (sort_of it.kind it.text)) (sym (only_number old.lexeme.terminal old.kind)) ∙ it.fit) in
      let own = it.own (numeric_opens it.kind kind) in
      let here = number_in it.kind (length it.text) own.change kind (it.text ++ own.after) own.inside own.before own.is in
      subst (λ (t : List ℕ). is_counted t ≡ true) (sym own.bytes_are)
      (both (begins_number it.text 0) _ (begins_alone it.text own.after own.some here.ends here.begins)
      (both (unit_end it.text (unit_start it.text 0) == length it.text) _
      (same_is _ _ (unit_alone it.text (old_unit it.text own.after here.ends))) (quiet_front it.text)))

  pub number_kept : {shape : Shape} → Numbered shape → (i : ℕ) → Old source i (just terminals.Number)
      → WrittenAs shape (bytes_between source i (suc i)) (tok terminals.Number (Bytes 1 (bytes_between source i (suc i))) ∷ [])
  number_kept says i old =
      number_stays (bytes_between source i (suc i))
      (subst (λ (t : List ℕ). is_counted t ≡ true) (sym (own_bytes source i)) (old_counted i old)) says

  -- its sign
  pub sign_bytes : (i : ℕ) → Old source i (just terminals.Sign)
      → (bytes_at source i ≡ codes "+") ⊎ (bytes_at source i ≡ codes "-")
  sign_bytes i old = let it = old_sign source was i old in go it (which it.byte_is it.sign_is)
    where
      which : (b : ℕ) → is_sign_byte b ≡ true → (b ≡ sign "+") ⊎ (b ≡ sign "-")
      which b e = grind (arith, nat_tests)

      go : (it : OldSignByte source was i) → (it.byte_is ≡ sign "+") ⊎ (it.byte_is ≡ sign "-")
          → (bytes_at source i ≡ codes "+") ⊎ (bytes_at source i ≡ codes "-")
      go it (inl e) = inl (it.is ∙ ap (λ (b : ℕ). b ∷ []) e)
      go it (inr e) = inr (it.is ∙ ap (λ (b : ℕ). b ∷ []) e)

  pub minus_kept : {shape : Shape} → Signed sorts.Minus shape → (i : ℕ) → Old source i (just terminals.Sign) → Old source (suc i) (just terminals.Number)
      → bytes_at source i ≡ codes "-"
      → WrittenAs shape (bytes_between source i (suc (suc i)))
      (tok terminals.Sign (Bytes 2 (bytes_between source i (suc (suc i)))) ∷ again.sign terminals.Number ∷ [])
  minus_kept says i one two dash =
      minus_stays says (bytes_between source i (suc (suc i)))
      (subst (λ (t : List ℕ). is_minus_counted t ≡ true)
      (sym (signed_bytes source was i one two ∙ ap (λ (t : List ℕ). t ++ bytes_at source (suc i)) dash))
      (old_counted (suc i) two))

  pub plus_kept : {shape : Shape} → Signed sorts.Plus shape → (i : ℕ) → Old source i (just terminals.Sign) → Old source (suc i) (just terminals.Number)
      → bytes_at source i ≡ codes "+"
      → WrittenAs shape (bytes_between source i (suc (suc i)))
      (tok terminals.Sign (Bytes 2 (bytes_between source i (suc (suc i)))) ∷ again.sign terminals.Number ∷ [])
  plus_kept says i one two plus =
      plus_stays says (bytes_between source i (suc (suc i)))
      (subst (λ (t : List ℕ). is_plus_counted t ≡ true)
      (sym (signed_bytes source was i one two ∙ ap (λ (t : List ℕ). t ++ bytes_at source (suc i)) plus))
      (old_counted (suc i) two))
