-- What a text reads as, by the list that it is.
use Rattle.std.proofs.Common.{◌≡◌, ℕ, ◌≤◌, ◌<◌, List, length, refl, sym, ◌∙◌, ap, arith, Option, Some, None, Ok, Err}
use Rattle.std.specs.Prelude.{nat_lt}
use Rattle.std.proofs.lemmas.Bool.Decides.{nat_tests}
use Rattle.sw_text_scan.proofs.Bounds.{if_true, if_false}
use Rattle.sw_selector.specs.declared.fault.SelectorFault.TheVariants.{BadSelector, TooLarge}
use Rattle.sw_selector.specs.declared.reader.TheConstants.{LEVELS, MOST_SELECTORS}
use Rattle.sw_selector.specs.declared.selector.Part.{Part}
use Rattle.sw_selector.specs.Grammar.{IsSelectorList}
use Rattle.sw_selector.specs.Reading.{complexes_of, within_limit, limited, selectors_of}
use Rattle.sw_selector.specs.Laws.{ReadsLists}
use Rattle.sw_text_locality.proofs.Lexical.{split}
use Rattle.sw_selector.proofs.Lists.{list_found, list_told}

some_is : {x y : List (List Part)} → Some x ≡ Some y → x ≡ y
some_is e = cc

pub one_list : (text : List ℕ) (first second : List (List Part)) → IsSelectorList LEVELS text first → IsSelectorList LEVELS text second → first ≡ second
one_list text first second a b = some_is (sym (list_found LEVELS text first a) ∙ list_found LEVELS text second b)

module _ (text : List ℕ) where
  read_is : selectors_of text ≡ limited (complexes_of text LEVELS)
  unfolding selectors_of
  read_is = refl

  short : (list : List (List Part)) → length list ≤ MOST_SELECTORS → within_limit list ≡ Ok list
  short list l = if_false (nat_lt MOST_SELECTORS (length list)) _ _ (grind (arith, nat_tests))

  long : (list : List (List Part)) → MOST_SELECTORS < length list → within_limit list ≡ Err TooLarge
  long list l = if_true (nat_lt MOST_SELECTORS (length list)) _ _ (grind (arith, nat_tests))

  is : (list : List (List Part)) → IsSelectorList LEVELS text list → selectors_of text ≡ within_limit list
  is list l = read_is ∙ ap limited (list_found LEVELS text list l)

  -- by what the reader finds
  listed : (o : Option (List (List Part))) (list : List (List Part)) → limited o ≡ Ok list → (o ≡ Some list) × (length list ≤ MOST_SELECTORS)
  listed None list e = absurd (cc)
  listed (Some found) list e =
      split (nat_lt MOST_SELECTORS (length found)) (Err TooLarge) (Ok found) (Ok list) (λ t f. absurd (cc))
      (λ t f. let same : found ≡ list = cc in (ap Some same, let n = ap length same in let l : length found ≤ MOST_SELECTORS = grind (arith, nat_tests) in omega arith)) e

  unlisted : (o : Option (List (List Part))) → limited o ≡ Err BadSelector → o ≡ None
  unlisted None e = refl
  unlisted (Some found) e = split (nat_lt MOST_SELECTORS (length found)) (Err TooLarge) (Ok found) (Err BadSelector) (λ t f. absurd (cc)) (λ t f. absurd (cc)) e

  record Long (o : Option (List (List Part))) : Type 0 where
    found : List (List Part)
    is : o ≡ Some found
    long : MOST_SELECTORS < length found

  overlong : (o : Option (List (List Part))) → limited o ≡ Err TooLarge → Long o
  overlong None e = absurd (cc)
  overlong (Some found) e =
      split (nat_lt MOST_SELECTORS (length found)) (Err TooLarge) (Ok found) (Err TooLarge)
      (λ t f. record { found = found; is = refl; long = grind (arith, nat_tests) }) (λ t f. absurd (cc)) e

  none_found : (o : Option (List (List Part))) → complexes_of text LEVELS ≡ o → ((list : List (List Part)) → ¬ IsSelectorList LEVELS text list) → o ≡ None
  none_found None e h = refl
  none_found (Some list) e h = absurd (h list (list_told LEVELS text list e))

pub reads_lists : (text : List ℕ) → ReadsLists text
reads_lists text = record {
  list = λ list. (
    λ e. let l = listed text (complexes_of text LEVELS) list (sym (read_is text) ∙ e) in (list_told LEVELS text list l.0, l.1),
    λ p. is text list p.0 ∙ short text list p.1,
  );
  bad = (
    λ e list l. let none = unlisted text (complexes_of text LEVELS) (sym (read_is text) ∙ e) in
        let found = list_found LEVELS text list l in
        let wrong : None ≡ Some list = sym none ∙ found in cc,
    λ h. read_is text ∙ ap limited (none_found text (complexes_of text LEVELS) refl h),
  );
  large = (
    λ e. let l = overlong text (complexes_of text LEVELS) (sym (read_is text) ∙ e) in (l.found, list_told LEVELS text l.found l.is, l.long),
    λ p. is text p.0 p.1 ∙ long text p.0 p.2,
  );
}
