-- What the table's entries say of the files.
use Rattle.std.proofs.Common.{◌≡◌, ℕ, ◌+◌, ◌-◌, Bool, true, false, cond, if◌then◌else◌, List, [], ◌∷◌, length, Option, None, Some, is_some, IfNone, refl, sym, ap, subst, ◌∙◌, arith}
use Rattle.std.specs.Bool.{OnFalse}
use Rattle.std.specs.Str.{bytes_eq}
use Rattle.std.specs.Ordering.{nat_cmp}
use Rattle.std.specs.Cmp.Lexicographic.{slice_cmp, nat_list_cmp_total, nat_list_eq_equiv}
use Rattle.std.specs.Map.{lookup, lookup_key, KeepsOthers}
use Rattle.std.specs.FinMap.{get, contains_key, insert, remove, find, get-from_entries, get-insert, get-remove, len, len-insert, len-remove, same_map, slice_cmp-IsAntisymmetric, nat_cmp-IsAntisymmetric}
use Rattle.std.proofs.lemmas.Map.Text.{is_eq-slice_cmp}
use Rattle.std.proofs.lemmas.Slice.Eq.{bytes_eq-Decides}
use Rattle.sw_folder.specs.Files.{Files}
use Rattle.sw_folder.specs.Table.{Entry, files_of}

find-entries : (q : List ℕ) (entries : List Entry) → find (slice_cmp nat_cmp) q entries ≡ lookup (bytes_eq q) entries
find-entries q [] = refl
find-entries q (e ∷ es) =
    ap (λ b. cond b (Some e.1) (find (slice_cmp nat_cmp) q es)) (is_eq-slice_cmp q e.0)
    ∙ ap (cond (bytes_eq q e.0) (Some e.1)) (find-entries q es)

pub get-files_of : (q : List ℕ) (entries : List Entry) → get (files_of entries) q ≡ lookup (bytes_eq q) entries
get-files_of q entries = get-from_entries nat_list_cmp_total entries q ∙ find-entries q entries

-- the other paths find what they found before
others : (path q : List ℕ) (old new : List Entry) → KeepsOthers bytes_eq (bytes_eq path) old new → bytes_eq q path ≡ false → lookup (bytes_eq q) new ≡ lookup (bytes_eq q) old
unfolding KeepsOthers
others path q old new kept apart =
    kept (bytes_eq q) (λ x y e. nat_list_eq_equiv.congr q x y e)
    (λ k e. nat_list_eq_equiv.symm q k ∙ sym (nat_list_eq_equiv.congr path k q e) ∙ nat_list_eq_equiv.symm path q ∙ apart)

-- after a change at a path the folder has w there, and at each other path what it had
pub get-updated : (path : List ℕ) (old new : List Entry) (w : Option (List ℕ)) → lookup (bytes_eq path) new ≡ w → KeepsOthers bytes_eq (bytes_eq path) old new
    → (q : List ℕ) → get (files_of new) q ≡ cond (bytes_eq q path) w (get (files_of old) q)
get-updated path old new w at kept q = by (bytes_eq q path) refl
  where
    by : (b : Bool) → bytes_eq q path ≡ b → get (files_of new) q ≡ cond (bytes_eq q path) w (get (files_of old) q)
    by true e =
        get-files_of q new ∙ ap (λ p. lookup (bytes_eq p) new) ((bytes_eq-Decides q path).0 e) ∙ at
        ∙ ap (λ b. cond b w (get (files_of old) q)) (sym e)
    by false e =
        get-files_of q new ∙ others path q old new kept e ∙ sym (get-files_of q old)
        ∙ ap (λ b. cond b w (get (files_of old) q)) (sym e)

pub same_files : (m n : Files) → ((q : List ℕ) → get m q ≡ get n q) → m ≡ n
same_files m n same = same_map nat_list_cmp_total (slice_cmp-IsAntisymmetric nat_cmp-IsAntisymmetric) m n same

pub files_of-insert : (path text : List ℕ) (old new : List Entry) → lookup (bytes_eq path) new ≡ Some text → KeepsOthers bytes_eq (bytes_eq path) old new
    → files_of new ≡ insert (files_of old) path text
files_of-insert path text old new at kept =
    same_files _ _ (λ q. get-updated path old new (Some text) at kept q ∙ ap (λ b. cond b (Some text) (get (files_of old) q)) (sym (is_eq-slice_cmp q path)) ∙ sym (get-insert nat_list_cmp_total (files_of old) path text q))

pub files_of-removed : (path : List ℕ) (old new : List Entry) → lookup (bytes_eq path) new ≡ None → KeepsOthers bytes_eq (bytes_eq path) old new
    → files_of new ≡ remove (files_of old) path
files_of-removed path old new at kept =
    same_files _ _ (λ q. get-updated path old new None at kept q ∙ ap (λ b. cond b None (get (files_of old) q)) (sym (is_eq-slice_cmp q path)) ∙ sym (get-remove nat_list_cmp_total (files_of old) path q))

len_by : (there : Bool) (n m : ℕ) → m ≡ n + (if there then 0 else 1) → m ≡ cond there n (n + 1)
len_by true n m e = omega arith
len_by false n m e = e

fewer_by : (there : Bool) (n m : ℕ) → m + (if there then 1 else 0) ≡ n → m ≡ cond there (n - 1) n
fewer_by true n m e = omega arith
fewer_by false n m e = omega arith

-- one entry for each file is kept
pub one_each-insert : (path text : List ℕ) (old new : List Entry) (was : Option (List ℕ)) → files_of new ≡ insert (files_of old) path text
    → was ≡ lookup (bytes_eq path) old → length new ≡ length old + (if is_some was then 0 else 1) → length old ≡ len (files_of old) → length new ≡ len (files_of new)
one_each-insert path text old new was files was_is grown one_each =
    len_by (is_some was) (length old) (length new) grown
    ∙ ap (λ n. cond (is_some was) n (n + 1)) one_each
    ∙ ap (λ b. cond b (len (files_of old)) (len (files_of old) + 1)) (ap is_some (was_is ∙ sym (get-files_of path old)))
    ∙ sym (len-insert nat_list_cmp_total (files_of old) path text)
    ∙ ap len (sym files)

pub one_each-remove : (path : List ℕ) (old new : List Entry) (was : Option (List ℕ)) → files_of new ≡ remove (files_of old) path
    → was ≡ lookup (bytes_eq path) old → length new + (if is_some was then 1 else 0) ≡ length old → length old ≡ len (files_of old) → length new ≡ len (files_of new)
one_each-remove path old new was files was_is fewer one_each =
    fewer_by (is_some was) (length old) (length new) fewer
    ∙ ap (λ n. cond (is_some was) (n - 1) n) one_each
    ∙ ap (λ b. cond b (len (files_of old) - 1) (len (files_of old))) (ap is_some (was_is ∙ sym (get-files_of path old)))
    ∙ sym (len-remove nat_list_cmp_total (files_of old) path)
    ∙ ap len (sym files)

-- where nothing was found the files stay
pub files_of-absent : (files : Files) (old new : List Entry) (was : Option (List ℕ)) (found : Bool) → found ≡ is_some was → IfNone was (new ≡ old) → files_of old ≡ files → OnFalse found (files_of new ≡ files)
files_of-absent files old new None found e stays same = subst (λ b. OnFalse b (files_of new ≡ files)) (sym e) (ap files_of stays ∙ same)
files_of-absent files old new (Some text) found e stays same = subst (λ b. OnFalse b (files_of new ≡ files)) (sym e) tt

-- whether there is a file
pub is_there : (path : List ℕ) (entries : List Entry) → contains_key (files_of entries) path ≡ is_some (lookup (bytes_eq path) entries)
is_there path entries = ap is_some (get-files_of path entries)

-- the key of what is found is the path
pub key_is : (path k : List ℕ) (entries : List Entry) → lookup_key (bytes_eq path) entries ≡ Some k → k ≡ path
key_is path k [] e = cc
key_is path k (e ∷ es) found = by (key_is path k es) (bytes_eq path e.0) refl found
  where
    by : (lookup_key (bytes_eq path) es ≡ Some k → k ≡ path) → (b : Bool) → bytes_eq path e.0 ≡ b → cond b (Some e.0) (lookup_key (bytes_eq path) es) ≡ Some k → k ≡ path
    by rest true same at = let one : e.0 ≡ k = cc in sym one ∙ sym ((bytes_eq-Decides path e.0).0 same)
    by rest false apart at = rest at
