-- What a text reads as, by the list that it is.
use Rattle.std.proofs.Common.{◌≡◌, ℕ, ◌≤◌, ◌<◌, List, length, refl, sym, ◌∙◌, ap, arith, Option, Some, None, Ok, Err}
use Rattle.std.specs.Prelude.{nat_lt}
use Rattle.std.proofs.lemmas.Bool.Decides.{nat_tests}
use Rattle.sw_text_scan.proofs.Bounds.{if_true, if_false}
use Rattle.sw_media.specs.declared.fault.MediaFault.TheVariants.{BadQuery, TooLarge}
use Rattle.sw_media.specs.declared.reader.TheConstants.{LEVELS, MOST_QUERIES}
use Rattle.sw_media.specs.declared.query.Query.{Query}
use Rattle.sw_media.specs.Grammar.{IsQueryList}
use Rattle.sw_media.specs.Reading.{queries_in, within_limit, limited, queries_of}
use Rattle.sw_media.specs.Laws.{ReadsLists}
use Rattle.sw_media.proofs.Derives.{split, list_found, list_told}

some_is : {x y : List Query} → Some x ≡ Some y → x ≡ y
some_is e = cc

pub one_list : (text : List ℕ) (first second : List Query) → IsQueryList LEVELS text first → IsQueryList LEVELS text second → first ≡ second
one_list text first second a b = some_is (sym (list_found LEVELS text first a) ∙ list_found LEVELS text second b)

module _ (text : List ℕ) where
  read_is : queries_of text ≡ limited (queries_in text LEVELS)
  unfolding queries_of
  read_is = refl

  short : (list : List Query) → length list ≤ MOST_QUERIES → within_limit list ≡ Ok list
  short list l = if_false (nat_lt MOST_QUERIES (length list)) _ _ (grind (arith, nat_tests))

  long : (list : List Query) → MOST_QUERIES < length list → within_limit list ≡ Err TooLarge
  long list l = if_true (nat_lt MOST_QUERIES (length list)) _ _ (grind (arith, nat_tests))

  is : (list : List Query) → IsQueryList LEVELS text list → queries_of text ≡ within_limit list
  is list l = read_is ∙ ap limited (list_found LEVELS text list l)

  -- by what the reader finds
  listed : (o : Option (List Query)) (list : List Query) → limited o ≡ Ok list → (o ≡ Some list) × (length list ≤ MOST_QUERIES)
  listed None list e = absurd (cc)
  listed (Some found) list e =
      split (nat_lt MOST_QUERIES (length found)) (Err TooLarge) (Ok found) (Ok list) (λ t f. absurd (cc))
      (λ t f. let same : found ≡ list = cc in (ap Some same, let n = ap length same in let l : length found ≤ MOST_QUERIES = grind (arith, nat_tests) in omega arith)) e

  unlisted : (o : Option (List Query)) → limited o ≡ Err BadQuery → o ≡ None
  unlisted None e = refl
  unlisted (Some found) e = split (nat_lt MOST_QUERIES (length found)) (Err TooLarge) (Ok found) (Err BadQuery) (λ t f. absurd (cc)) (λ t f. absurd (cc)) e

  record Long (o : Option (List Query)) : Type 0 where
    found : List Query
    is : o ≡ Some found
    long : MOST_QUERIES < length found

  overlong : (o : Option (List Query)) → limited o ≡ Err TooLarge → Long o
  overlong None e = absurd (cc)
  overlong (Some found) e =
      split (nat_lt MOST_QUERIES (length found)) (Err TooLarge) (Ok found) (Err TooLarge)
      (λ t f. record { found = found; is = refl; long = grind (arith, nat_tests) }) (λ t f. absurd (cc)) e

  none_found : (o : Option (List Query)) → queries_in text LEVELS ≡ o → ((list : List Query) → ¬ IsQueryList LEVELS text list) → o ≡ None
  none_found None e h = refl
  none_found (Some list) e h = absurd (h list (list_told LEVELS text list e))

pub reads_lists : (text : List ℕ) → ReadsLists text
reads_lists text = record {
  list = λ list. (
    λ e. let l = listed text (queries_in text LEVELS) list (sym (read_is text) ∙ e) in (list_told LEVELS text list l.0, l.1),
    λ p. is text list p.0 ∙ short text list p.1,
  );
  bad = (
    λ e list l. let none = unlisted text (queries_in text LEVELS) (sym (read_is text) ∙ e) in
        let found = list_found LEVELS text list l in
        let wrong : None ≡ Some list = sym none ∙ found in cc,
    λ h. read_is text ∙ ap limited (none_found text (queries_in text LEVELS) refl h),
  );
  large = (
    λ e. let l = overlong text (queries_in text LEVELS) (sym (read_is text) ∙ e) in (l.found, list_told LEVELS text l.found l.is, l.long),
    λ p. is text p.0 p.1 ∙ long text p.0 p.2,
  );
}
