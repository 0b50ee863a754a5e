-- One turn of each loop of the reader.
use Rattle.std.proofs.Common.{◌≡◌, ◌≢◌, ℕ, zero, suc, ◌+◌, ◌-◌, ◌<◌, true, false, List, [], ◌∷◌, ◌++◌, refl, ◌∙◌, ap, arith, Option, Some, None, Result, Err}
use Rattle.std.specs.Prelude.{◌==◌, codes, if◌then◌else◌}
use Rattle.std.specs.Result.{IsErrAnd}
use Rattle.std.proofs.lemmas.Result.{err_from_is_err_and}
use Rattle.std.proofs.lemmas.Bool.Decides.{nat_tests}
use Rattle.sw_text_scan.specs.declared.signs.TheConstants.{END}
use Rattle.sw_text_scan.specs.Bytes.{sign, byte}
use Rattle.sw_text_scan.proofs.Bounds.{if_true, if_false}
use Rattle.sw_media.specs.declared.fault.MediaFault.{MediaFault}
use Rattle.sw_media.specs.declared.fault.MediaFault.TheVariants.{BadQuery, MediaJoin, TooLarge, Memory}
use Rattle.sw_media.specs.declared.query.Query.{Query}
use Rattle.sw_media.specs.Words.{IsRead, white, name_end, is_at}
use Rattle.sw_media.specs.Reading.{Conditions, feature_at, joined_by, condition_at, all_by, typed_condition, more_by, more_from, query_at, list_by, list_from}

fails_by : {T U : Type 0} (e : MediaFault) (said : Option T) (other : Option U) → IsRead {T = T} (Err e) said → (said ≡ None → other ≡ None) → IsRead {T = U} (Err e) other
fails_by BadQuery said other h f = f h
fails_by MediaJoin said other h f = h
fails_by TooLarge said other h f = h
fails_by Memory said other h f = tt

-- what a failed call hands on
pub handed_on : {T U : Type 0} (e : MediaFault) (r : Result U MediaFault) (said : Option T) (other : Option U)
    → IsErrAnd r (λ d. d ≡ e) → IsRead {T = T} (Err e) said → (said ≡ None → other ≡ None) → IsRead r other
handed_on {T} {U} e r said other a h f =
    let p = err_from_is_err_and r a in
    rw (p.1, p.2) (fails_by e said other h f)

pub is_byte : (r b n : ℕ) → r ≡ b → r ≡ n → (b == n) ≡ true
is_byte r b n e f = grind (arith, nat_tests)

pub is_other : (r b n : ℕ) → r ≡ b → r ≢ n → (b == n) ≡ false
is_other r b n e f = grind (arith, nat_tests)

less : (n : ℕ) → n ≡ suc n - 1
less n = omega arith

no_comma : (b : ℕ) → (b == END) ≡ true → (b == sign ",") ≡ false
no_comma b e = grind (arith, nat_tests)

module _ (deeper : Conditions) (bs : List ℕ) where
  pub condition_fails : (i : ℕ) → is_at (codes "not") bs i ≡ false → feature_at deeper bs i ≡ None → condition_at deeper bs i ≡ None
  unfolding condition_at joined_by
  condition_fails i e f = rw (e, f) refl

  pub typed_fails : (i : ℕ) → is_at (codes "not") bs i ≡ false → feature_at deeper bs i ≡ None → typed_condition deeper bs i ≡ None
  unfolding typed_condition all_by
  typed_fails i e f = rw (e, f) refl

  -- where the next feature begins
  abbrev pub next_at : ℕ → ℕ
  next_at i = white bs (name_end bs (white bs i))

  pub more_fails : (keyword : List ℕ) (n : ℕ) (list : List (List ℕ)) (i : ℕ) → 0 < n → is_at keyword bs (white bs i) ≡ true → feature_at deeper bs (next_at i) ≡ None
      → more_from deeper bs keyword n list i ≡ None
  more_fails keyword zero list i z e f = absurd (omega arith)
  more_fails keyword (suc n) list i z e f =
      if_true (is_at keyword bs (white bs i)) (more_by (more_from deeper bs keyword n) list (feature_at deeper bs (next_at i))) (Some (list, i)) e
      ∙ ap (more_by (more_from deeper bs keyword n) list) f

  pub more_goes : (keyword : List ℕ) (n : ℕ) (list : List (List ℕ)) (i : ℕ) (text : List ℕ) (j : ℕ) → 0 < n → is_at keyword bs (white bs i) ≡ true
      → feature_at deeper bs (next_at i) ≡ Some (text, j) → more_from deeper bs keyword n list i ≡ more_from deeper bs keyword (n - 1) (list ++ text ∷ []) j
  more_goes keyword zero list i text j z e f = absurd (omega arith)
  more_goes keyword (suc n) list i text j z e f =
      if_true (is_at keyword bs (white bs i)) (more_by (more_from deeper bs keyword n) list (feature_at deeper bs (next_at i))) (Some (list, i)) e
      ∙ ap (more_by (more_from deeper bs keyword n) list) f
      ∙ ap (λ (k : ℕ). more_from deeper bs keyword k (list ++ text ∷ []) j) (less n)

  pub list_fails : (n : ℕ) (list : List Query) (i : ℕ) → 0 < n → query_at deeper bs (white bs i) ≡ None → list_from deeper bs n list i ≡ None
  list_fails zero list i z e = absurd (omega arith)
  list_fails (suc n) list i z e = ap (list_by (list_from deeper bs n) bs list) e

  -- behind a query, and behind one that isn't followed by a comma
  abbrev ended : ℕ → List Query → Query → Option (List Query)
  ended j list query = if byte bs (white bs j) == END then Some (list ++ query ∷ []) else None

  pub list_ends : (n : ℕ) (list : List Query) (i : ℕ) (query : Query) (j : ℕ) → 0 < n → query_at deeper bs (white bs i) ≡ Some (query, j)
      → (byte bs (white bs j) == END) ≡ true → list_from deeper bs n list i ≡ Some (list ++ query ∷ [])
  list_ends zero list i query j z e f = absurd (omega arith)
  list_ends (suc n) list i query j z e f =
      ap (list_by (list_from deeper bs n) bs list) e
      ∙ if_false (byte bs (white bs j) == sign ",") (list_from deeper bs n (list ++ query ∷ []) (white bs j + 1)) (ended j list query) (no_comma (byte bs (white bs j)) f)
      ∙ if_true (byte bs (white bs j) == END) (Some (list ++ query ∷ [])) None f

  pub list_wrong : (n : ℕ) (list : List Query) (i : ℕ) (query : Query) (j : ℕ) → 0 < n → query_at deeper bs (white bs i) ≡ Some (query, j)
      → (byte bs (white bs j) == END) ≡ false → (byte bs (white bs j) == sign ",") ≡ false → list_from deeper bs n list i ≡ None
  list_wrong zero list i query j z e f g = absurd (omega arith)
  list_wrong (suc n) list i query j z e f g =
      ap (list_by (list_from deeper bs n) bs list) e
      ∙ if_false (byte bs (white bs j) == sign ",") (list_from deeper bs n (list ++ query ∷ []) (white bs j + 1)) (ended j list query) g
      ∙ if_false (byte bs (white bs j) == END) (Some (list ++ query ∷ [])) None f

  pub list_goes : (n : ℕ) (list : List Query) (i : ℕ) (query : Query) (j : ℕ) → 0 < n → query_at deeper bs (white bs i) ≡ Some (query, j)
      → (byte bs (white bs j) == sign ",") ≡ true → list_from deeper bs n list i ≡ list_from deeper bs (n - 1) (list ++ query ∷ []) (white bs j + 1)
  list_goes zero list i query j z e f = absurd (omega arith)
  list_goes (suc n) list i query j z e f =
      ap (list_by (list_from deeper bs n) bs list) e
      ∙ if_true (byte bs (white bs j) == sign ",") (list_from deeper bs n (list ++ query ∷ []) (white bs j + 1)) (ended j list query) f
      ∙ ap (λ (k : ℕ). list_from deeper bs k (list ++ query ∷ []) (white bs j + 1)) (less n)
