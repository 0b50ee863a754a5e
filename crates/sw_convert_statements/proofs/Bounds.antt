-- `@for` with bounds in which no word is `to` or `through`.
use Rattle.std.proofs.Common.{◌≡◌, ℕ, Bool, true, false, List, [], ◌∷◌, ◌++◌, append-nil, inl, refl, sym, ◌∙◌, ap, subst, append_assoc}
use Rattle.std.specs.Prelude.{codes}
use Rattle.sw_text_scan.specs.Bytes.{sign}
use Rattle.sw_tokens.specs.declared.pieces.Before.{Before}
use Rattle.sw_tokens.specs.declared.pieces.Before.TheVariants as befores
use Rattle.sw_tokens.specs.Tokens.{is_spaced}
use Rattle.sw_parse_grammar.specs.Grammar.{member}
use Rattle.sw_parse_terminals.specs.declared.terminal.Terminal.{Terminal}
use Rattle.sw_parse_terminals.specs.declared.terminal.Terminal.TheVariants as terminals
use Rattle.sw_parse_terminals.specs.Numbers.{number_of, just, these}
use Rattle.sw_parse_lexemes.specs.declared.sort.Sort.{Sort}
use Rattle.sw_parse_lexemes.specs.declared.sort.Sort.TheVariants as sorts
use Rattle.sw_parse_lexemes.specs.declared.state.Mode.TheVariants as modes
use Rattle.sw_parse_table.specs.declared.source.Source.{Source}
use Rattle.sw_parse_table.specs.Sources.{terminal_at, terminal_in}
use Rattle.sw_parse_table.specs.Actions.{name_at, stands_at}
use Rattle.sw_convert_written.specs.Escapes.{ends_unclosed}
use Rattle.sw_convert_written.specs.Heads.{end_word, then_word}
use Rattle.sw_convert_written.specs.Names.{dollar_name}
use Rattle.sw_convert_passing.specs.Written.{Written, written, direct, apart}
use Rattle.sw_convert_passing.specs.Values.{dollar, seam}
use Rattle.sw_convert_again.specs.Tokens.{Tok, Old}
use Rattle.sw_convert_again.specs.Tokens as again
use Rattle.sw_convert_again.specs.Params.{dollar_tokens}
use Rattle.sw_convert_tokens.specs.Written.{Follows, AsRow, WrittenAs}
use Rattle.sw_convert_tokens.specs.Values.{WasRead}
use Rattle.sw_convert_tokens.proofs.Spaces.{BeginsSpace, space_by, space_text, follows_spaced}
use Rattle.sw_convert_tokens.proofs.Unclosed.{space_ends, follows_end}
use Rattle.sw_convert_heads_passing.specs.Flow.{parted, is_bound, bound, for_head}
use Rattle.sw_convert_heads_passing.specs.Statements.{bounded}
use Rattle.sw_convert_texts.specs.RawTexts.{SheetSegment}
use Rattle.sw_convert_statements.specs.Segments.{seams, FrontWritten}
use Rattle.sw_convert_statements.specs.Fronts.{is_unbounded}
use Rattle.sw_convert_statements.proofs.BoundWords.{segment_free, rerow}
use Rattle.sw_convert_statements.proofs.Flow.{dollar_written}
use Rattle.sw_convert_statements.proofs.Keywords.{keyword, spaced_word}
use Rattle.sw_convert_statements.proofs.Segments.{sheet, join, as_text, as_toks, as_passed, as_behind, text_follows, value_pads, padded}

-- ---- the word between the bounds

abbrev bound_sort : Bool → Sort
bound_sort true = sorts.Through
bound_sort false = sorts.To

record IsEnd (source : Source) (at : ℕ) (terminal : Terminal) : Type 0 where
  told : Bool
  stands : stands_at source at terminals.Through ≡ told
  is : terminal ≡ bound (bound_sort told)

end_is : (source : Source) (at : ℕ) → (old : Old source at (these (terminals.Through ∷ terminals.To ∷ [])))
    → IsEnd source at old.lexeme.terminal
unfolding terminal_at
end_is source at old =
    go old.lexeme.terminal old.kind
    (ap (λ (n : ℕ). member n (just terminals.Through)) (ap terminal_in old.there))
  where
    go : (terminal : Terminal) → member (number_of terminal) (these (terminals.Through ∷ terminals.To ∷ [])) ≡ true
        → stands_at source at terminals.Through ≡ member (number_of terminal) (just terminals.Through)
        → IsEnd source at terminal
    go terminals.Through m e = record { told = true; stands = e; is = refl }
    go terminals.To m e = record { told = false; stands = e; is = refl }
    go _ m e = absurd (cc)

abbrev end_word_text : Bool → List ℕ
end_word_text true = codes "through"
end_word_text false = codes "to"

end_text : (through : Bool) → end_word through ≡ end_word_text through ++ codes " "
end_text true = refl
end_text false = refl

bound_told : (through : Bool) → is_bound (bound_sort through) ≡ true
bound_told true = refl
bound_told false = refl

-- behind a text, with the comment that an escape at its end needs
end_segment : (through : Bool) (before : Before)
    → SheetSegment before (codes " " ++ end_word_text through) (again.sign (bound (bound_sort through)) ∷ [])
    (apart (bound_sort through) (bound (bound_sort through)) ∷ []) befores.Other BeginsSpace
end_segment true before = sheet (spaced_word sorts.Through refl before)
end_segment false before = sheet (spaced_word sorts.To refl before)

-- ---- a text, a word and a value

-- a word and a value behind a text
record IsThen (before : Before) (text : List ℕ) (tokens : List Tok) (passed more : List Written) (word value : List ℕ)
    (ks : List Tok) : Type 0 where
  segment : SheetSegment before (then_word (word ++ codes " ") text ++ value) (tokens ++ ks) (passed ++ more) befores.Other
      (Follows (then_word (word ++ codes " ") text ++ value))

then_written : {before : Before} {text value word : List ℕ} {tokens os : List Tok} {passed value_passed : List Written}
    {sort : Sort} {terminal : Terminal} → SheetSegment before text tokens passed befores.Other (Follows text)
    → ((middle : Before) → SheetSegment middle (codes " " ++ word) (again.sign terminal ∷ []) (apart sort terminal ∷ [])
    befores.Other BeginsSpace)
    → SheetSegment befores.Other (codes " " ++ value) os value_passed befores.Other (Follows value)
    → IsThen before text tokens passed (parted (ends_unclosed text) (apart sort terminal ∷ value_passed)) word value
    (again.sign terminal ∷ os)
then_written {text = text} {value = value} {word = word} {passed = passed} {value_passed = value_passed} {sort = sort}
    {terminal = terminal} it named one =
    let unclosed = ends_unclosed text in
    let pads = padded unclosed refl (λ u. refl) (value_pads text) it in
    let last = word ++ (codes " " ++ value) in
    let whole : text ++ (space_by unclosed ++ last) ≡ then_word (word ++ codes " ") text ++ value =
    ap (λ (x : List ℕ). text ++ (space_by unclosed ++ x)) (sym (append_assoc word (codes " ") value))
    ∙ ap (λ (x : List ℕ). text ++ x) (sym (append_assoc (space_by unclosed) (word ++ codes " ") value))
    ∙ sym (append_assoc text (space_by unclosed ++ (word ++ codes " ")) value) in record {
      segment = as_behind
          (λ after f. follows_end word value (sign " ") space_ends after
          (follows_spaced text last unclosed after (subst (λ (x : List ℕ). Follows x after) (sym whole) f)))
          (as_text (space_text [] text last unclosed ∙ whole)
          (as_passed (between passed unclosed (apart sort terminal ∷ value_passed))
          (join pads.segment (join (named pads.end) one (λ after f. (value ++ after, refl))) (λ after f. (last ++ after, refl)))));
    }
  where
    between : (head : List Written) (unclosed : Bool) (rest : List Written)
        → (head ++ seams unclosed) ++ rest ≡ head ++ parted unclosed rest
    between head true rest = append_assoc head (seam ∷ []) rest
    between head false rest = ap (λ (l : List Written). l ++ rest) (append-nil head)

-- ---- all of it

parted_more : (unclosed : Bool) (one : Written) (rest : List Written)
    → parted unclosed (one ∷ rest) ≡ parted unclosed (one ∷ []) ++ rest
parted_more true one rest = refl
parted_more false one rest = refl

pub for_written : (source : Source) → WasRead source → {i c : ℕ} → Old source i (just terminals.VariableName)
    → (old : Old source c (these (terminals.Through ∷ terminals.To ∷ []))) → {from to : List ℕ} {ks os : List Tok}
    → WrittenAs AsRow from ks → is_unbounded from ks ≡ true → WrittenAs AsRow to os → is_unbounded to os ≡ true
    → FrontWritten modes.Bounds
    (then_word (end_word (stands_at source c terminals.Through))
    (then_word (codes "from ") (codes "@for " ++ dollar_name (name_at source i)) ++ from)
    ++ to)
    (again.sign terminals.AtFor ∷ (dollar_tokens (name_at source i)
    ++ again.sign terminals.From ∷ (ks ++ again.sign old.lexeme.terminal ∷ os)))
for_written source was {i} {c} named old {from} {to} {ks} {os} low w high v before calm =
    let name = dollar_written source i was named befores.Other in
    let variable = dollar_name (name_at source i) in
    let one = low befores.Other true refl in
    let two = high befores.Other true refl in
    let end = end_is source c old in
    let at_sign = written sorts.AtFor (is_spaced before) terminals.AtFor in
    let from_word = apart sorts.From terminals.From in
    let first = codes "@for " ++ variable in
    let front = as_behind (λ after f. follows_end (codes "@for") variable (sign " ") space_ends after f)
    (join (sheet ((keyword terminals.AtFor sorts.AtFor refl).segment before calm)) name.segment
    (λ after f. (variable ++ after, inl refl))) in
    let lower = then_written {word = codes "from"} front (λ middle. sheet (spaced_word sorts.From refl middle)) (sheet one.segment) in
    let upper = then_written {word = end_word_text end.told} lower.segment (end_segment end.told) (sheet two.segment) in
    let text = then_word (codes "from ") first ++ from in
    let begun = ends_unclosed first in
    let gap = ends_unclosed text in
    let last = parted gap (apart (bound_sort end.told) (bound (bound_sort end.told)) ∷ two.passed) in
    let head = at_sign ∷ dollar true ∷ direct name.sort terminals.VariableName ∷ parted begun (from_word ∷ []) in
    let whole : then_word (end_word (stands_at source c terminals.Through)) text ++ to
    ≡ then_word (end_word_text end.told ++ codes " ") text ++ to =
    ap (λ (b : Bool). then_word (end_word b) text ++ to) end.stands
    ∙ ap (λ (x : List ℕ). then_word x text ++ to) (end_text end.told) in record {
      passed = head ++ (one.passed ++ last);
      front = bounded (for_head begun name.sort name.is)
          (rerow (one.told modes.Expression refl).1 (segment_free one.segment w)) gap (bound_sort end.told)
          (bound_told end.told) (rerow (two.told modes.Expression refl).1 (segment_free two.segment v));
      first = refl;
      end = befores.Other;
      loose = λ u. refl;
      segment = as_behind (λ after e. subst (λ (x : List ℕ). Follows x after) whole (text_follows _ after e))
          (as_text (sym whole)
          (as_toks
          (ap (λ (t : Terminal). again.sign terminals.AtFor
          ∷ (dollar_tokens (name_at source i) ++ again.sign terminals.From ∷ (ks ++ again.sign t ∷ os))) (sym end.is))
          (as_passed
          (ap (λ (l : List Written). (at_sign ∷ dollar true ∷ direct name.sort terminals.VariableName ∷ l) ++ last)
          (parted_more begun from_word one.passed)
          ∙ append_assoc head one.passed last) upper.segment)));
    }
