-- That an edit which isn't refused leaves a folder a folder.
use Rattle.std.proofs.Common.{◌≡◌, ℕ, ◌+◌, ◌-◌, ◌<◌, ◌≤◌, Bool, Bor, true, false, not, ◌&&◌, cond, List, [], length, Option, None, Some, IfSome, refl, sym, ap, subst, ◌∙◌, ◌⊎◌, inl, inr, arith, nat_lt, nat_le, if◌then◌else◌, IsTrue}
use Rattle.std.proofs.lemmas.Bool.{ltb-false, leb-false, lt-ltb}
use Rattle.std.specs.Str.{is_utf8, bytes_eq}
use Rattle.std.specs.Ordering.{is_eq, nat_cmp}
use Rattle.std.specs.Cmp.Lexicographic.{slice_cmp, nat_list_cmp_total}
use Rattle.std.specs.FinMap.{get, contains_key, insert, remove, len, get-empty, get-insert, get-remove, len-empty, len-insert, len-remove}
use Rattle.sw_folder.specs.declared.folder.Marks.{Marks}
use Rattle.sw_folder.specs.Table.{Entry, files_of, IsTable}
use Rattle.sw_folder.proofs.Tables.{get-files_of}
use Rattle.std.specs.Map.{lookup}
use Rattle.std.specs.Option.{option_copied}
use Rattle.sw_folder.proofs.Marks.{Tells-empty}
use Rattle.std.proofs.lemmas.Map.Text.{is_eq-slice_cmp}
use Rattle.std.proofs.lemmas.Slice.Eq.{bytes_eq-Decides}
use Rattle.sw_folder.specs.declared.edit.EditFault.{EditFault}
use Rattle.sw_folder.specs.declared.edit.EditFault.TheVariants.{BadPath, TooLong, TooManyFiles, NotText}
use Rattle.sw_folder.specs.Paths.{is_path}
use Rattle.sw_folder.specs.Files.{Files, IsFolder, most_bytes, most_files}
use Rattle.sw_folder.specs.Edits.{put_fault, first_fault, unread_fault, read_fault}

-- what a put that isn't refused has
pub record IsAllowed (files : Files) (path text : List ℕ) : Type 0 where
  pub path_is : is_path path ≡ true
  pub fits : nat_lt most_bytes (length text) ≡ false
  pub room : (not (contains_key files path) && nat_le most_files (len files)) ≡ false
  pub is_text : is_utf8 text ≡ true

allowed_by : (a b c d : Bool)
    → first_fault (if not a then Some BadPath else if b then Some TooLong else None) (if c then Some TooManyFiles else if not d then Some NotText else None) ≡ None
    → (a ≡ true) × (b ≡ false) × (c ≡ false) × (d ≡ true)
allowed_by true false false true e = (refl, refl, refl, refl)
allowed_by true false false false e = cc
allowed_by true false true d e = cc
allowed_by true true c d e = cc
allowed_by false b c d e = cc

pub allowed : (files : Files) (path text : List ℕ) → put_fault files path text ≡ None → IsAllowed files path text
unfolding put_fault
allowed files path text e =
    let p = allowed_by (is_path path) (nat_lt most_bytes (length text)) (not (contains_key files path) && nat_le most_files (len files)) (is_utf8 text) e in
    record { path_is = p.0; fits = p.1; room = p.2; is_text = p.3 }

-- an entry after an insertion is the new one or an old one
inserted : (files : Files) (path text q found : List ℕ) → get (insert files path text) q ≡ Some found → ((q ≡ path) × (found ≡ text)) ⊎ (get files q ≡ Some found)
inserted files path text q found e = by (bytes_eq q path) refl (sym (get-insert nat_list_cmp_total files path text q ∙ ap (λ b. cond b (Some text) (get files q)) (is_eq-slice_cmp q path)) ∙ e)
  where
    by : (b : Bool) → bytes_eq q path ≡ b → cond (bytes_eq q path) (Some text) (get files q) ≡ Some found → ((q ≡ path) × (found ≡ text)) ⊎ (get files q ≡ Some found)
    by true same at = let is : Some text ≡ Some found = ap (λ b. cond b (Some text) (get files q)) (sym same) ∙ at in inl ((bytes_eq-Decides q path).0 same, cc)
    by false apart at = inr (ap (λ b. cond b (Some text) (get files q)) (sym apart) ∙ at)

removed : (files : Files) (path q found : List ℕ) → get (remove files path) q ≡ Some found → get files q ≡ Some found
removed files path q found e = by (is_eq (slice_cmp nat_cmp q path)) (sym (get-remove nat_list_cmp_total files path q) ∙ e)
  where
    by : (b : Bool) → cond b None (get files q) ≡ Some found → get files q ≡ Some found
    by true at = cc
    by false at = at

count_by : (there : Bool) (n : ℕ) → n ≤ 4096 → (not there && nat_le 4096 n) ≡ false → cond there n (n + 1) ≤ 4096
count_by true n small e = small
count_by false n small e = let room : n < 4096 = leb-false 4096 n e in omega arith

pub IsFolder-insert : (files : Files) (path text : List ℕ) → IsAllowed files path text → IsFolder files → IsFolder (insert files path text)
IsFolder-insert files path text ok old = record {
  few = subst (λ n. n ≤ 4096) (sym (len-insert nat_list_cmp_total files path text)) (count_by (contains_key files path) (len files) old.few ok.room);
  paths = λ q found e. by_path q found (inserted files path text q found e);
  short = λ q found e. by_length q found (inserted files path text q found e);
}
  where
    by_path : (q found : List ℕ) → ((q ≡ path) × (found ≡ text)) ⊎ (get files q ≡ Some found) → IsTrue (is_path q)
    by_path q found (inl p) = ap is_path p.0 ∙ ok.path_is
    by_path q found (inr h) = old.paths q found h

    by_length : (q found : List ℕ) → ((q ≡ path) × (found ≡ text)) ⊎ (get files q ≡ Some found) → length found ≤ most_bytes
    by_length q found (inl p) = subst (λ f. length f ≤ most_bytes) (sym p.1) (ltb-false _ _ ok.fits)
    by_length q found (inr h) = old.short q found h

fewer : (there : Bool) (n : ℕ) → n ≤ 4096 → cond there (n - 1) n ≤ 4096
fewer true n small = omega arith
fewer false n small = small

pub IsFolder-remove : (files : Files) (path : List ℕ) → IsFolder files → IsFolder (remove files path)
IsFolder-remove files path old = record {
  few = subst (λ n. n ≤ 4096) (sym (len-remove nat_list_cmp_total files path)) (fewer (contains_key files path) (len files) old.few);
  paths = λ q found e. old.paths q found (removed files path q found e);
  short = λ q found e. old.short q found (removed files path q found e);
}

pub IsTable-empty : (marks : Marks) → IsTable marks []
IsTable-empty marks = record { one_each = sym none; tells = Tells-empty marks; folder = record { few = few; paths = λ q found e. nothing q found e; short = λ q found e. nothing q found e } }
  where
    none : len (files_of []) ≡ 0
    none = len-empty (slice_cmp nat_cmp) (List ℕ)

    few : len (files_of []) ≤ 4096
    few = subst (λ n. n ≤ 4096) (sym none) (omega arith)

    nothing : {P : Type 0} (q found : List ℕ) → get (files_of []) q ≡ Some found → P
    nothing q found e = let none : None ≡ Some found = sym (get-empty (slice_cmp nat_cmp) q) ∙ e in cc

-- what is found is short, and under a path
pub found_short : (path : List ℕ) (entries : List Entry) (found : Option (Bor (List ℕ))) → option_copied found ≡ lookup (bytes_eq path) entries → IsFolder (files_of entries) → IfSome found (λ text. length text.now ≤ most_bytes)
found_short path entries None e folder = tt
found_short path entries (Some text) e folder = folder.short path text.now (get-files_of path entries ∙ sym e)

pub found_path : (path : List ℕ) (entries : List Entry) (found : Option (Bor (List ℕ))) → option_copied found ≡ lookup (bytes_eq path) entries → IsFolder (files_of entries) → IfSome found (λ text. IsTrue (is_path path))
found_path path entries None e folder = tt
found_path path entries (Some text) e folder = folder.paths path text.now (get-files_of path entries ∙ sym e)

-- a fault that is found by the path and the length alone is the put's
pub unread_first : (files : Files) (path bytes : List ℕ) (count : ℕ) (fault : EditFault) → length bytes ≡ count → unread_fault path count ≡ Some fault → put_fault files path bytes ≡ Some fault
unfolding put_fault
unread_first files path bytes count fault same found = ap (λ f. first_fault f (read_fault files path bytes)) (ap (unread_fault path) same ∙ found)

pub bad_path : (path : List ℕ) (count : ℕ) → is_path path ≡ false → unread_fault path count ≡ Some BadPath
bad_path path count e = ap (λ b. if not b then Some BadPath else if nat_lt most_bytes count then Some TooLong else None) e

pub too_long : (path : List ℕ) (count : ℕ) → is_path path ≡ true → most_bytes < count → unread_fault path count ≡ Some TooLong
too_long path count e long =
    ap (λ b. if not b then Some BadPath else if nat_lt most_bytes count then Some TooLong else None) e
    ∙ ap (λ b. if b then Some TooLong else None) (lt-ltb most_bytes count long)
