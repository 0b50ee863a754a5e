-- Joining by pairs, and their number.
use Rattle.std.proofs.Common.{◌≡◌, ℕ, ◌+◌, Bool, true, false, not, List, [], ◌∷◌, ◌++◌, length, refl, sym, ◌∙◌, ap, append_assoc, arith, length-append, Some, None}
use Rattle.std.specs.Prelude.{nat_lt, is_some, option_map, option_to_list, if◌then◌else◌}
use Rattle.std.specs.List.{flat_map}
use Rattle.std.specs.declared.option.Option.{Option}
use Rattle.std.proofs.lemmas.Bool.Decides.{nat_tests}
use Rattle.std.proofs.lemmas.List.{append-nil}
use Rattle.std.proofs.lemmas.List.Concat.{flat_map-cons}
use Rattle.sw_media.specs.declared.reader.TheConstants.{MOST_QUERIES}
use Rattle.sw_media.specs.declared.query.Query.{Query}
use Rattle.sw_media.specs.declared.joining.Kind.{Kind}
use Rattle.sw_media.specs.Joining.{query_by, joined_kind, joined_features, added, pair_added, inner_joined, outer_joined, is_kept, counted, inner_counted, outer_counted, too_many}
use Rattle.sw_media.specs.Laws.{joined_pair, JoinsInOrder, CountsQueries}

added_all : (list : List Query) (features : List (List ℕ)) (kind : Option Kind) → added list features kind ≡ list ++ option_to_list (option_map (query_by features) kind)
added_all list features None = sym (append-nil list)
added_all list features (Some kind) = refl

pair_all : (list : List Query) (outer inner : Query) → pair_added list outer inner ≡ list ++ option_to_list (joined_pair outer inner)
unfolding pair_added
pair_all list outer inner = added_all list (joined_features outer inner) (joined_kind outer inner)

abbrev within : Query → Query → List Query
within outer inner = option_to_list (joined_pair outer inner)

inner_all : (outer : Query) (list inners : List Query) → inner_joined outer list inners ≡ list ++ flat_map (within outer) inners
inner_all outer list [] = sym (append-nil list)
inner_all outer list (inner ∷ inners) =
    inner_all outer (pair_added list outer inner) inners
    ∙ ap (λ (front : List Query). front ++ flat_map (within outer) inners) (pair_all list outer inner)
    ∙ append_assoc list (within outer inner) (flat_map (within outer) inners)
    ∙ ap (λ (back : List Query). list ++ back) (sym (flat_map-cons (within outer) inner inners))

abbrev across : List Query → Query → List Query
across inners outer = flat_map (within outer) inners

outer_all : (inners list outers : List Query) → outer_joined inners list outers ≡ list ++ flat_map (across inners) outers
outer_all inners list [] = sym (append-nil list)
outer_all inners list (outer ∷ outers) =
    outer_all inners (inner_joined outer list inners) outers
    ∙ ap (λ (front : List Query). front ++ flat_map (across inners) outers) (inner_all outer list inners)
    ∙ append_assoc list (across inners outer) (flat_map (across inners) outers)
    ∙ ap (λ (back : List Query). list ++ back) (sym (flat_map-cons (across inners) outer outers))

pub in_order : (outers inners : List Query) → JoinsInOrder outers inners
in_order outers inners = outer_all inners [] outers

-- counted up to 10,001
abbrev cap : ℕ → ℕ
cap n = if nat_lt MOST_QUERIES n then (MOST_QUERIES + 1) else n

one_more : (c n m : ℕ) → c ≡ cap n → m ≡ n + 1 → (if not (nat_lt MOST_QUERIES c) then c + 1 else c) ≡ cap m
one_more c n m e f = grind (arith, nat_tests)

kind_counts : (list : List Query) (features : List (List ℕ)) (count : ℕ) (kind : Option Kind) → count ≡ cap (length list)
    → counted count (is_some kind) ≡ cap (length (added list features kind))
kind_counts list features count None e = e
kind_counts list features count (Some kind) e =
    one_more count (length list) (length (list ++ query_by features kind ∷ [])) e (length-append list (query_by features kind ∷ []))

pair_counts : (list : List Query) (outer inner : Query) (count : ℕ) → count ≡ cap (length list) → counted count (is_kept outer inner) ≡ cap (length (pair_added list outer inner))
unfolding is_kept pair_added
pair_counts list outer inner count e = kind_counts list (joined_features outer inner) count (joined_kind outer inner) e

inner_counts : (outer : Query) (list inners : List Query) (count : ℕ) → count ≡ cap (length list) → inner_counted outer count inners ≡ cap (length (inner_joined outer list inners))
inner_counts outer list [] count e = e
inner_counts outer list (inner ∷ inners) count e =
    inner_counts outer (pair_added list outer inner) inners (counted count (is_kept outer inner)) (pair_counts list outer inner count e)

outer_counts : (inners list outers : List Query) (count : ℕ) → count ≡ cap (length list) → outer_counted inners count outers ≡ cap (length (outer_joined inners list outers))
outer_counts inners list [] count e = e
outer_counts inners list (outer ∷ outers) count e =
    outer_counts inners (inner_joined outer list inners) outers (inner_counted outer count inners) (inner_counts outer list inners count e)

cap_passes : (n : ℕ) → nat_lt MOST_QUERIES (cap n) ≡ nat_lt MOST_QUERIES n
cap_passes n = by_test (nat_lt MOST_QUERIES n) refl
  where
    by_test : (b : Bool) → nat_lt MOST_QUERIES n ≡ b → nat_lt MOST_QUERIES (if b then (MOST_QUERIES + 1) else n) ≡ b
    by_test true e = refl
    by_test false e = e

pub counts : (outers inners : List Query) → CountsQueries outers inners
unfolding too_many
counts outers inners = ap (λ (n : ℕ). nat_lt MOST_QUERIES n) (outer_counts inners [] outers 0 refl) ∙ cap_passes (length (outer_joined inners [] outers))
