-- Behind any other text, the parts of a text that hold `#{}` end where they end in a text by itself.
use Rattle.std.proofs.Common.{◌≡◌, ℕ, zero, suc, ◌+◌, ◌-◌, ◌<◌, ◌≤◌, Bool, true, false, not, ◌&&◌, if◌then◌else◌, List, ◌++◌, length, refl, sym, ◌∙◌, ap, arith, Option, Some, None, is_some}
use Rattle.std.specs.Prelude.{◌==◌, nat_lt}
use Rattle.std.proofs.lemmas.Bool.Decides.{nat_tests}
use Rattle.sw_text_scan.specs.declared.runs.Class.{Class}
use Rattle.sw_text_scan.specs.declared.runs.Class.TheVariants as classes
use Rattle.sw_text_scan.specs.declared.signs.TheConstants.{END}
use Rattle.sw_text_scan.specs.Bytes.{sign, is_quote, byte, is_white, opens_at, begins_silent, begins_loud, ends_loud}
use Rattle.sw_text_scan.specs.Runs.{run_end, begins_name}
use Rattle.sw_text_scan.specs.Words.{unit_start, unit_end, begins_number, begins_range, begins_url, url_text_end, url_close}
use Rattle.sw_tokens.specs.declared.skips.Inside.{Inside}
use Rattle.sw_tokens.specs.declared.skips.Inside.TheVariants as insides
use Rattle.sw_tokens.specs.declared.skips.Skim.{Skim}
use Rattle.sw_tokens.specs.declared.skips.Skim.TheVariants as skims
use Rattle.sw_tokens.specs.Skips.{behind_dollar, word_end, skim_inner, skim_code, skim_comment, skim_text, skim_url, skim_in, skim, closed_at, passed, skip_on, skip_with, skip_rest, skip, closes_url}
use Rattle.sw_tokens.proofs.SkipLemmas.{Skims, all_skims, skip_onward}
use Rattle.sw_tokens.proofs.SkipLemmas.Skims.{stuck, closes, opens, goes}
use Rattle.sw_convert_spelling.proofs.MovedRuns as runs

-- the count of levels that a look for the end of a url goes down, which `sw_tokens` keeps to itself
abbrev levels : ℕ
levels = 257

module _ (front bs : List ℕ) where
  abbrev cs : List ℕ
  cs = front ++ bs

  abbrev d : ℕ
  d = length front

  pub further : Option ℕ → Option ℕ
  further None = None
  further (Some j) = Some (d + j)

  abbrev there : Skim → Skim
  there skims.Stuck = skims.Stuck
  there (skims.Closes j) = skims.Closes (d + j)
  there (skims.Opens inner j) = skims.Opens inner (d + j)
  there (skims.Goes j) = skims.Goes (d + j)

  pick : (t u : Bool) (a b x y : Skim) → t ≡ u → a ≡ there x → b ≡ there y → (if t then a else b) ≡ there (if u then x else y)
  pick true true a b x y e f g = f
  pick false false a b x y e f g = g
  pick true false a b x y e f g = absurd (cc)
  pick false true a b x y e f g = absurd (cc)

  dollar_moved : (i : ℕ) → 0 < i → behind_dollar cs (d + i) ≡ behind_dollar bs i
  dollar_moved i some =
      runs.both_same front bs _ _ _ _ (positive (d + i) (omega (arith, some)) ∙ sym (positive i some))
      (ap (λ (k : ℕ). byte cs k == sign "$") (let e : (d + i) - 1 ≡ d + (i - 1) = omega (arith, some) in e) ∙ runs.one front bs (λ b. b == sign "$") (i - 1))
    where
      positive : (k : ℕ) → 0 < k → nat_lt 0 k ≡ true
      positive k some = grind (arith, nat_tests)

  word_moved : (i : ℕ) → 0 < i → word_end cs (d + i) ≡ d + word_end bs i
  unfolding word_end
  word_moved i some =
      runs.choice front bs (begins_number cs (d + i)) (begins_number bs i) _ _ (unit_end bs (unit_start bs i)) _ (runs.number_moved front bs i)
      (ap (unit_end cs) (runs.start_moved front bs i) ∙ runs.unit_moved front bs (unit_start bs i))
      (runs.choice front bs _ (not (behind_dollar bs i) && begins_range bs i) _ _ (run_end classes.Range bs (i + 2)) _
      (runs.both_same front bs _ _ _ _ (ap not (dollar_moved i some)) (runs.range_moved front bs i)) (runs.run_later front bs classes.Range i 2)
      (runs.choice front bs _ ((byte bs i == sign "@") && begins_name bs (i + 1)) _ _ (run_end classes.Name bs (i + 1)) _
      (runs.both_same front bs _ _ _ _ (runs.one front bs (λ b. b == sign "@") i) (ap (begins_name cs) (runs.plus front bs i 1) ∙ runs.name_moved front bs (i + 1))) (runs.run_later front bs classes.Name i 1)
      (runs.choice front bs (begins_name cs (d + i)) (begins_name bs i) _ _ (run_end classes.Name bs i) (i + 1) (runs.name_moved front bs i) (runs.run_moved front bs classes.Name i) (runs.plus front bs i 1))))

  closed_by : (class : Class) (i : ℕ) → (byte cs (url_close cs class (d + i)) == sign ")") ≡ (byte bs (url_close bs class i) == sign ")")
  closed_by class i = ap (λ (k : ℕ). byte cs k == sign ")") (runs.close_moved front bs class i) ∙ runs.one front bs (λ b. b == sign ")") (url_close bs class i)

  inner_moved : (i : ℕ) → 0 < i → skim_inner cs (d + i) ≡ there (skim_inner bs i)
  unfolding skim_inner
  inner_moved i some =
      pick _ (byte bs (url_close bs classes.UrlInside i) == sign ")") _ _ (skims.Goes (url_close bs classes.UrlInside i + 1)) _ (closed_by classes.UrlInside i)
      (ap (λ (k : ℕ). skims.Goes (k + 1)) (runs.close_moved front bs classes.UrlInside i) ∙ ap skims.Goes (runs.plus front bs (url_close bs classes.UrlInside i) 1))
      (pick _ (opens_at bs (url_text_end bs classes.UrlInside i)) _ _ (skims.Opens insides.UrlInside (run_end classes.White bs (i + 4))) (skims.Goes (word_end bs i))
      (ap (opens_at cs) (runs.url_text_moved front bs classes.UrlInside i) ∙ runs.opens_moved front bs (url_text_end bs classes.UrlInside i))
      (ap (skims.Opens insides.UrlInside) (runs.run_later front bs classes.White i 4))
      (ap skims.Goes (word_moved i some)))

  code_moved : (i : ℕ) → 0 < i → skim_code cs (d + i) ≡ there (skim_code bs i)
  unfolding skim_code
  code_moved i some =
      pick _ (byte bs i == sign "}") _ _ (skims.Closes (i + 1)) _ (runs.one front bs (λ b. b == sign "}") i) (ap skims.Closes (runs.plus front bs i 1))
      (pick _ (is_quote (byte bs i)) _ _ (skims.Opens (insides.Quotes (byte bs i)) (i + 1)) _ (runs.one front bs is_quote i)
      (ap (λ (b : ℕ). skims.Opens (insides.Quotes b) ((d + i) + 1)) (runs.at_byte front bs i) ∙ ap (skims.Opens (insides.Quotes (byte bs i))) (runs.plus front bs i 1))
      (pick _ (opens_at bs i) _ _ (skims.Opens insides.Interpolation (i + 2)) _ (runs.opens_moved front bs i) (ap (skims.Opens insides.Interpolation) (runs.plus front bs i 2))
      (pick _ (begins_silent bs i) _ _ (skims.Goes (run_end classes.Line bs (i + 2))) _ (runs.two front bs (λ b. b == sign "/") (λ b. b == sign "/") i) (ap skims.Goes (runs.run_later front bs classes.Line i 2))
      (pick _ (begins_loud bs i) _ _ (skims.Opens insides.Comment (i + 2)) _ (runs.two front bs (λ b. b == sign "/") (λ b. b == sign "*") i) (ap (skims.Opens insides.Comment) (runs.plus front bs i 2))
      (pick _ (begins_url bs i) _ _ (skim_inner bs i) (skims.Goes (word_end bs i)) (runs.url_moved front bs i) (inner_moved i some) (ap skims.Goes (word_moved i some)))))))

  goes_moved : (class : Class) (i : ℕ) → nat_lt (d + i) (run_end class cs (d + i)) ≡ nat_lt i (run_end class bs i)
  goes_moved class i = ap (nat_lt (d + i)) (runs.run_moved front bs class i) ∙ runs.less front bs i (run_end class bs i)

  comment_moved : (i : ℕ) → skim_comment cs (d + i) ≡ there (skim_comment bs i)
  unfolding skim_comment
  comment_moved i =
      pick _ (ends_loud bs i) _ _ (skims.Closes (i + 2)) _ (runs.ends_moved front bs i) (ap skims.Closes (runs.plus front bs i 2))
      (pick _ (opens_at bs i) _ _ (skims.Opens insides.Interpolation (i + 2)) _ (runs.opens_moved front bs i) (ap (skims.Opens insides.Interpolation) (runs.plus front bs i 2))
      (pick _ (nat_lt i (run_end classes.Comment bs i)) _ _ (skims.Goes (run_end classes.Comment bs i)) skims.Stuck (goes_moved classes.Comment i) (ap skims.Goes (runs.run_moved front bs classes.Comment i)) refl))

  text_moved : (q i : ℕ) → skim_text cs q (d + i) ≡ there (skim_text bs q i)
  unfolding skim_text
  text_moved q i =
      pick _ (byte bs i == q) _ _ (skims.Closes (i + 1)) _ (runs.one front bs (λ b. b == q) i) (ap skims.Closes (runs.plus front bs i 1))
      (pick _ (opens_at bs i) _ _ (skims.Opens insides.Interpolation (i + 2)) _ (runs.opens_moved front bs i) (ap (skims.Opens insides.Interpolation) (runs.plus front bs i 2))
      (pick _ (nat_lt i (run_end (classes.SheetText q) bs i)) _ _ (skims.Goes (run_end (classes.SheetText q) bs i)) skims.Stuck (goes_moved (classes.SheetText q) i)
      (ap skims.Goes (runs.run_moved front bs (classes.SheetText q) i)) refl))

  url_moved : (class : Class) (i : ℕ) → skim_url cs class (d + i) ≡ there (skim_url bs class i)
  unfolding skim_url
  url_moved class i =
      pick _ (byte bs i == sign ")") _ _ (skims.Closes (i + 1)) _ (runs.one front bs (λ b. b == sign ")") i) (ap skims.Closes (runs.plus front bs i 1))
      (pick _ (opens_at bs i) _ _ (skims.Opens insides.Interpolation (i + 2)) _ (runs.opens_moved front bs i) (ap (skims.Opens insides.Interpolation) (runs.plus front bs i 2))
      (pick _ (nat_lt i (run_end class bs i)) _ _ (skims.Goes (run_end class bs i)) _ (goes_moved class i) (ap skims.Goes (runs.run_moved front bs class i))
      (pick _ (is_white (byte bs i) && (byte bs (run_end classes.White bs i) == sign ")")) _ _ (skims.Goes (run_end classes.White bs i)) skims.Stuck
      (runs.both_same front bs _ _ _ _ (runs.one front bs is_white i) (ap (λ (k : ℕ). byte cs k == sign ")") (runs.run_moved front bs classes.White i) ∙ runs.one front bs (λ b. b == sign ")") (run_end classes.White bs i)))
      (ap skims.Goes (runs.run_moved front bs classes.White i)) refl)))

  skim_in_moved : (inside : Inside) (i : ℕ) → 0 < i → skim_in cs inside (d + i) ≡ there (skim_in bs inside i)
  skim_in_moved insides.Sheet i some = refl
  skim_in_moved insides.Css i some = refl
  skim_in_moved insides.Interpolation i some = code_moved i some
  skim_in_moved (insides.Quotes q) i some = text_moved q i
  skim_in_moved insides.Comment i some = comment_moved i
  skim_in_moved insides.Url i some = url_moved classes.Url i
  skim_in_moved insides.UrlInside i some = url_moved classes.UrlInside i

  skim_moved : (inside : Inside) (i : ℕ) → 0 < i → skim cs inside (d + i) ≡ there (skim bs inside i)
  unfolding skim
  skim_moved inside i some = pick _ (byte bs i == END) _ _ skims.Stuck (skim_in bs inside i) (runs.one front bs (λ b. b == END) i) refl (skim_in_moved inside i some)

  module _ (deeper : Inside → ℕ → Option ℕ) (before : Inside → ℕ → Option ℕ)
      (same : (inner : Inside) (j : ℕ) → 0 < j → deeper inner (d + j) ≡ further (before inner j))
      (onward : (inner : Inside) (j r : ℕ) → j ≤ length bs → before inner j ≡ Some r → j ≤ r) where
    with_moved : (inside : Inside) (n i : ℕ) → 0 < i → skip_with deeper cs inside n (d + i) ≡ further (skip_with before bs inside n i)
    unfolding further
    with_moved inside zero i some = refl
    with_moved inside (suc n) i some =
        ap (λ (s : Skim). skip_on (skip_with deeper cs inside n) (closed_at s) (passed deeper s)) (skim_moved inside i some)
        ∙ go (skim bs inside i) (all_skims bs inside i) (λ j. with_moved inside n j)
      where
        on : (o : Option ℕ) → ((j : ℕ) → o ≡ Some j → 0 < j) → ((j : ℕ) → 0 < j → skip_with deeper cs inside n (d + j) ≡ further (skip_with before bs inside n j))
            → skip_on (skip_with deeper cs inside n) None (further o) ≡ further (skip_on (skip_with before bs inside n) None o)
        on None positive ih = refl
        on (Some j) positive ih = ih j (positive j refl)

        go : (s : Skim) → Skims bs i s → ((j : ℕ) → 0 < j → skip_with deeper cs inside n (d + j) ≡ further (skip_with before bs inside n j))
            → skip_on (skip_with deeper cs inside n) (closed_at (there s)) (passed deeper (there s)) ≡ further (skip_on (skip_with before bs inside n) (closed_at s) (passed before s))
        go skims.Stuck stuck ih = refl
        go (skims.Closes j) (closes on_) ih = refl
        go (skims.Opens inner j) (opens on_) ih =
            let forward = on_.forward in
            ap (skip_on (skip_with deeper cs inside n) None) (same inner j (omega (arith, forward)))
            ∙ on (before inner j) (λ r e. let more = onward inner j r on_.within e in omega (arith, forward, more)) ih
        go (skims.Goes j) (goes on_) ih = let forward = on_.forward in ih j (omega (arith, forward))

  skip_moved : (depth : ℕ) (inside : Inside) (i : ℕ) → 0 < i → skip cs depth inside (d + i) ≡ further (skip bs depth inside i)
  unfolding skip_rest further
  skip_moved zero inside i some = refl
  skip_moved (suc depth) inside i some =
      ap (λ (n : ℕ). skip_with (skip cs depth) cs inside (suc n) (d + i)) (runs.as_many front bs i)
      ∙ with_moved (skip cs depth) (skip bs depth) (λ inner j positive. skip_moved depth inner j positive)
      (λ inner j r l e. (skip_onward bs depth inner j r l e).forward) inside (suc (length bs - i)) i some

  found_moved : (depth : ℕ) (inside : Inside) (i : ℕ) → 0 < i → is_some (skip cs depth inside (d + i)) ≡ is_some (skip bs depth inside i)
  unfolding further
  found_moved depth inside i some = ap is_some (skip_moved depth inside i some) ∙ found (skip bs depth inside i)
    where
      found : (o : Option ℕ) → is_some (further o) ≡ is_some o
      found None = refl
      found (Some j) = refl

  pub closes_moved : (inside : Inside) (i : ℕ) → 0 < i → closes_url cs inside (d + i) ≡ closes_url bs inside i
  unfolding closes_url
  closes_moved inside i some = found_moved levels inside i some
