-- What a binary search finds among rows whose names rise.
use Rattle.std.proofs.Common.{◌≡◌, ◌≢◌, ℕ, zero, suc, ◌<◌, Bool, true, false, ◌&&◌, inl, inr, List, [], ◌∷◌, length, get_or, map, bytes_eq, Err, refl, ap, sym, ◌∙◌, arith, add-one}
use Rattle.std.specs.declared.cmp.Ordering.{Ordering}
use Rattle.std.specs.declared.cmp.Ordering.TheVariants.{Less, Equal, Greater}
use Rattle.std.specs.Ordering.{nat_cmp, is_lt, is_eq, ordering_index, ordering_reverse}
use Rattle.std.specs.List.{list_all}
use Rattle.std.specs.Cmp.Lexicographic.{slice_cmp}
use Rattle.std.specs.List.Sorted.{IsBinarySearchResult, IsNonDecreasingBy, IsPartitionPoint}
use Rattle.std.proofs.lemmas.Bool.{cases_lt}
use Rattle.std.proofs.lemmas.Cmp.{nat_list_cmp_total, alike_right}
use Rattle.std.proofs.lemmas.Map.Text.{is_eq-slice_cmp}
use Rattle.std.proofs.lemmas.List.Sorted.{searchable_from_sorted}
use Rattle.sw_tree.specs.declared.callable.Kind.{Kind}
use Rattle.sw_builtins.specs.declared.built_in.Found.{Found}
use Rattle.sw_builtins.specs.declared.built_in.Found.TheVariants.{NoSuch}
use Rattle.sw_builtins.specs.Tables.{Row, of_kind, found_in, names_rise}

abbrev order : List ℕ → List ℕ → Ordering
order = slice_cmp nat_cmp

both : (a b : Bool) → (a && b) ≡ true → (a ≡ true) × (b ≡ true)
both true b e = (refl, e)
both false b e = absurd cc

less : (o : Ordering) → is_lt o ≡ true → o ≡ Less
less Less e = refl
less Equal e = cc
less Greater e = cc

not_less : (o : Ordering) → o ≡ Less → is_lt (ordering_reverse o) ≡ false
not_less Less e = refl
not_less Equal e = cc
not_less Greater e = cc

unequal : (o : Ordering) → o ≢ Equal → is_eq o ≡ false
unequal Less e = refl
unequal Equal e = absurd (e refl)
unequal Greater e = refl

-- a name in another place of the order isn't the one that is looked for
passed_over : (name key : List ℕ) → order name key ≢ Equal → bytes_eq name key ≡ false
passed_over name key other = sym (is_eq-slice_cmp name key) ∙ unequal _ other

taken : (name key : List ℕ) → order name key ≡ Equal → bytes_eq name key ≡ true
taken name key same = sym (is_eq-slice_cmp name key) ∙ ap is_eq same

module _ {X : Type 0} (name : X → List ℕ) (kind : X → Kind) (meaning : X → Found) where
  abbrev row : X → Row
  row x = (name x, kind x, meaning x)

  -- a row's name stands before that of each later row
  before_later : (x : X) (l : List X) (i : ℕ) (d : X) → i < length l →
      list_all (λ (later : Row). is_lt (order (name x) later.0)) (map row l) ≡ true → order (name x) (name (get_or l i d)) ≡ Less
  before_later x [] i d within all = absurd (omega arith)
  before_later x (y ∷ l) zero d within all = less _ (both _ _ all).0
  before_later x (y ∷ l) (suc i) d within all = before_later x l i d (omega arith) (both _ _ all).1

  -- no row of this name
  pub absent : (l : List X) (wanted : Kind) (key : List ℕ) → ((i : ℕ) (d : X) → i < length l → order (name (get_or l i d)) key ≢ Equal) → found_in (map row l) wanted key ≡ NoSuch
  absent [] wanted key none = refl
  absent (x ∷ l) wanted key none =
      rw (passed_over (name x) key (none 0 x (omega arith))) (absent l wanted key (λ i d within. none (suc i) d (omega arith)))

  -- the row at a place has the name
  pub present : (l : List X) (wanted : Kind) (key : List ℕ) (i : ℕ) (d : X) → i < length l → names_rise (map row l) ≡ true → order (name (get_or l i d)) key ≡ Equal →
      found_in (map row l) wanted key ≡ of_kind wanted (kind (get_or l i d)) (meaning (get_or l i d))
  present [] wanted key i d within rise same = absurd (omega arith)
  present (x ∷ l) wanted key zero d within rise same = rw (taken (name x) key same) refl
  present (x ∷ l) wanted key (suc i) d within rise same =
      let before : order (name x) (name (get_or l i d)) ≡ Less = before_later x l i d (omega arith) (both _ _ rise).0 in
      let ahead : order (name x) key ≡ Less = sym (alike_right nat_list_cmp_total _ _ (name x) same) ∙ before in
      let other : order (name x) key ≢ Equal = λ e. cc in
      rw (passed_over (name x) key other) (present l wanted key i d (omega arith) (both _ _ rise).1 same)

  -- rows whose names rise are in order
  in_order : (l : List X) → names_rise (map row l) ≡ true → (k : ℕ) (d : X) → suc k < length l → is_lt (order (name (get_or l (suc k) d)) (name (get_or l k d))) ≡ false
  in_order [] rise k d within = absurd (omega arith)
  in_order (x ∷ l) rise zero d within =
      let before : order (name x) (name (get_or l 0 d)) ≡ Less = before_later x l 0 d (omega arith) (both _ _ rise).0 in
      rw (nat_list_cmp_total.antisymm (name (get_or l 0 d)) (name x)) (not_less _ before)
  in_order (x ∷ l) rise (suc k) d within = in_order l (both _ _ rise).1 k d (omega arith)

  searchable : (l : List X) (key : List ℕ) → names_rise (map row l) ≡ true → IsNonDecreasingBy (λ y. ordering_index (order (name y) key)) l
  searchable l key rise = searchable_from_sorted nat_list_cmp_total name l key (λ k d low within. rw add-one (in_order l rise k d (omega arith)))

  apart : (l : List X) (key : List ℕ) (at : ℕ) → IsPartitionPoint (λ y. order (name y) key ≡ Less) (λ y. order (name y) key ≡ Greater) l at →
      (i : ℕ) (d : X) → i < length l → order (name (get_or l i d)) key ≢ Equal
  apart l key at parted i d within same = elim (cases_lt i at) [
    | inl below ↦ let e = parted.0 i d (omega arith) below in cc
    | inr above ↦ let e = parted.1 i d above within in cc
  ]

  -- where the search ends without a row, no row has the name
  pub none_found : (l : List X) (wanted : Kind) (key : List ℕ) (at : ℕ) → names_rise (map row l) ≡ true → IsBinarySearchResult (λ y. order (name y) key) l (Err at) →
      found_in (map row l) wanted key ≡ NoSuch
  none_found l wanted key at rise ends = absent l wanted key (apart l key at (ends (searchable l key rise)))
