-- Which paths the files have, when some are put and when all are taken out.
use Rattle.std.proofs.Common.{◌≡◌, ℕ, suc, ◌+◌, ◌<◌, ◌≤◌, length, drop, get_or, drop-cons, add-one, OnOk, OnErr, Bool, true, false, not, ◌||◌, cond, if◌then◌else◌, List, [], ◌∷◌, ◌++◌, None, Some, Ok, Err, refl, sym, ap, ◌∙◌, subst, inl, inr, ◌⊎◌, is_some}
use Rattle.std.specs.declared.option.Option.{Option}
use Rattle.std.specs.declared.result.Result.{Result}
use Rattle.std.specs.Str.{bytes_eq}
use Rattle.std.specs.Ordering.{is_eq, nat_cmp}
use Rattle.std.specs.Cmp.Lexicographic.{slice_cmp, nat_list_cmp_total}
use Rattle.std.specs.FinMap.{get, contains_key, insert, remove, empty, get-empty, get-insert, get-remove, same_map, slice_cmp-IsAntisymmetric, nat_cmp-IsAntisymmetric}
use Rattle.std.proofs.lemmas.List.{drop_all}
use Rattle.std.proofs.lemmas.Map.Text.{is_eq-slice_cmp}
use Rattle.std.proofs.lemmas.Slice.Eq.{bytes_eq-Decides}
use Rattle.sw_folder.specs.declared.edit.EditFault.{EditFault}
use Rattle.sw_folder.specs.declared.edit.EditFault.TheVariants.{BadPath, NoSuchFile}
use Rattle.sw_folder.specs.Paths.{is_path}
use Rattle.sw_folder.specs.Files.{Files, IsFolder}
use Rattle.sw_folder.specs.Edits.{after_put, put_fault, after_removal, removal_fault, unless, folder_after}
use Rattle.sw_keeper.specs.Keeping.{Keeping}
use Rattle.sw_cmd_disk_compile.specs.Watched.{is_listed, Covers}

-- one path more
or_true : (a : Bool) → a || true ≡ true
or_true true = refl
or_true false = refl

or_left : (a b : Bool) → a ≡ true → a || b ≡ true
or_left true b e = refl
or_left false b e = cc

listed_step : (b x y : Bool) → (x ≡ true → y ≡ true) → b || x ≡ true → b || y ≡ true
listed_step true x y f h = refl
listed_step false x y f h = f h

listed_more : (paths : List (List ℕ)) (more path : List ℕ) → is_listed paths path ≡ true → is_listed (paths ++ more ∷ []) path ≡ true
listed_more [] more path e = cc
listed_more (first ∷ paths) more path e = listed_step (bytes_eq path first) (is_listed paths path) (is_listed (paths ++ more ∷ []) path) (listed_more paths more path) e

listed_last : (paths : List (List ℕ)) (path : List ℕ) → bytes_eq path path ≡ true → is_listed (paths ++ path ∷ []) path ≡ true
listed_last [] path e = or_left (bytes_eq path path) false e
listed_last (first ∷ paths) path e = ap (λ b. bytes_eq path first || b) (listed_last paths path e) ∙ or_true (bytes_eq path first)

pub covers_more : (paths : List (List ℕ)) (path : List ℕ) (folder : Files) → Covers paths folder → Covers (paths ++ path ∷ []) folder
covers_more paths path folder covers = λ other there. listed_more paths path other (covers other there)

some_is : {A : Type 0} (b : Bool) (x : A) (found : Option A) → is_some (cond b (Some x) found) ≡ true → (b ≡ true) ⊎ (is_some found ≡ true)
some_is true x found e = inl refl
some_is false x found e = inr e

put_by : (folder after : Files) (path bytes : List ℕ) (fault : Option EditFault) → unless fault (insert folder path bytes) ≡ Ok after → after ≡ insert folder path bytes
put_by folder after path bytes None e = cc
put_by folder after path bytes (Some fault) e = cc

pub covers_put : (paths : List (List ℕ)) (path bytes : List ℕ) (folder after : Files) → after_put path bytes folder ≡ Ok after → Covers paths folder → Covers (paths ++ path ∷ []) after
covers_put paths path bytes folder after e covers = λ other there.
    let at : is_some (cond (is_eq (slice_cmp nat_cmp other path)) (Some bytes) (get folder other)) ≡ true =
    ap is_some (sym (get-insert nat_list_cmp_total folder path bytes other)) ∙ ap (λ (m : Files). contains_key m other) (sym (put_by folder after path bytes (put_fault folder path bytes) e)) ∙ there in
    elim (some_is (is_eq (slice_cmp nat_cmp other path)) bytes (get folder other) at) [
      | inl same ↦ let is : bytes_eq other path ≡ true = sym (is_eq-slice_cmp other path) ∙ same in
          let one : other ≡ path = (bytes_eq-Decides other path).0 is in
          subst (λ (p : List ℕ). is_listed (paths ++ p ∷ []) other ≡ true) one (listed_last paths other (subst (λ (p : List ℕ). bytes_eq other p ≡ true) (sym one) is))
      | inr held ↦ listed_more paths path other (covers other held)
    ]

-- one path less
or_false : (a b : Bool) → a || b ≡ true → a ≡ false → b ≡ true
or_false true b e f = cc
or_false false b e f = e

there_by : {A : Type 0} (b : Bool) (found : Option A) → is_some (cond b None found) ≡ true → (b ≡ false) × (is_some found ≡ true)
there_by true found e = cc
there_by false found e = (refl, e)

has_path : (folder : Files) (path : List ℕ) → IsFolder folder → (found : Option (List ℕ)) → get folder path ≡ found → is_some found ≡ true → is_path path ≡ true
has_path folder path is (Some text) e h = is.paths path text e
has_path folder path is None e h = cc

-- a file that is there is taken out
not_refused : (a b : Bool) → a ≡ true → b ≡ true → (if not a then Some BadPath else if not b then Some NoSuchFile else None) ≡ None
not_refused true true e f = refl
not_refused true false e f = cc
not_refused false b e f = cc

found_out : (folder : Files) (path : List ℕ) → IsFolder folder → contains_key folder path ≡ true → removal_fault folder path ≡ None
unfolding removal_fault
found_out folder path is e = not_refused (is_path path) (contains_key folder path) (has_path folder path is (get folder path) refl e) e

apart : (b : Bool) → (b ≡ true → ⊥) → b ≡ false
apart true n = absurd (n refl)
apart false n = refl

module _ (paths : List (List ℕ)) (path : List ℕ) (folder : Files) (is : IsFolder folder) (covers : Covers (path ∷ paths) folder) where
  taken_by : (fault : Option EditFault) → removal_fault folder path ≡ fault → Covers paths (folder_after (unless fault (remove folder path)) folder)
  taken_by None e = λ other there.
      let at = there_by (is_eq (slice_cmp nat_cmp other path)) (get folder other) (ap is_some (sym (get-remove nat_list_cmp_total folder path other)) ∙ there) in
      or_false (bytes_eq other path) (is_listed paths other) (covers other at.1) (sym (is_eq-slice_cmp other path) ∙ at.0)
  taken_by (Some fault) e = λ other there.
      or_false (bytes_eq other path) (is_listed paths other) (covers other there)
      (apart (bytes_eq other path) (λ same.
      let one : other ≡ path = (bytes_eq-Decides other path).0 same in
      let none : removal_fault folder path ≡ None = found_out folder path is (subst (λ (p : List ℕ). contains_key folder p ≡ true) one there) in
      let no : None ≡ Some fault = sym none ∙ e in cc))

  pub covers_taken : Covers paths (folder_after (after_removal path folder) folder)
  covers_taken = taken_by (removal_fault folder path) refl

-- where no path is left there is no file
no_key : {A : Type 0} (found : Option A) → (is_some found ≡ true → ⊥) → found ≡ None
no_key None n = refl
no_key (Some x) n = absurd (n refl)

not_true : false ≡ true → ⊥
not_true e = cc

pub cleared : (folder : Files) → Covers [] folder → folder ≡ empty
cleared folder covers = same_map nat_list_cmp_total (slice_cmp-IsAntisymmetric nat_cmp-IsAntisymmetric) folder empty
    (λ path. no_key (get folder path) (λ there. not_true (covers path there)) ∙ sym (get-empty _ path))

pub covers_empty : (paths : List (List ℕ)) (folder : Files) → folder ≡ empty → Covers paths folder
covers_empty paths folder e = λ path there. absurd (not_true (ap is_some (sym (get-empty _ path)) ∙ ap (λ (f : Files). contains_key f path) (sym e) ∙ there))

-- a put, however it ends
pub covers_either : {T E : Type 0} (r : Result T E) (paths listed : List (List ℕ)) (name path bytes : List ℕ) (old new : Keeping) → listed ≡ paths ++ name ∷ [] → name ≡ path
    → OnOk r (after_put path bytes old.folder ≡ Ok new.folder) → OnErr r (new ≡ old) → Covers paths old.folder → Covers listed new.folder
covers_either (Ok x) paths listed name path bytes old new l n o u covers =
    subst (λ (ps : List (List ℕ)). Covers ps new.folder) (sym (l ∙ ap (λ (p : List ℕ). paths ++ p ∷ []) n)) (covers_put paths path bytes old.folder new.folder o covers)
covers_either (Err e) paths listed name path bytes old new l n o u covers =
    subst (λ (ps : List (List ℕ)). Covers ps new.folder) (sym l)
    (subst (λ (k : Keeping). Covers (paths ++ name ∷ []) k.folder) (sym u) (covers_more paths name old.folder covers))

-- the next of a list of paths
pub covers_next : (paths : List (List ℕ)) (at : ℕ) (item path : List ℕ) (folder after : Files) → at < length paths → item ≡ get_or paths at item → path ≡ item → IsFolder folder
    → after ≡ folder_after (after_removal path folder) folder → Covers (drop at paths) folder → Covers (drop (at + 1) paths) after
covers_next paths at item path folder after lt is same limits e covers =
    let dropped : drop at paths ≡ item ∷ drop (at + 1) paths = rw add-one (drop-cons paths at item lt ∙ ap (λ (x : List ℕ). x ∷ drop (suc at) paths) (sym is)) in
    subst (λ (f : Files). Covers (drop (at + 1) paths) f) (sym e)
    (subst (λ (p : List ℕ). Covers (drop (at + 1) paths) (folder_after (after_removal p folder) folder)) (sym same)
    (covers_taken (drop (at + 1) paths) item folder limits (subst (λ (ps : List (List ℕ)). Covers ps folder) dropped covers)))

pub covers_last : (paths : List (List ℕ)) (at : ℕ) (folder : Files) → length paths ≤ at → Covers (drop at paths) folder → folder ≡ empty
covers_last paths at folder le covers = cleared folder (subst (λ (ps : List (List ℕ)). Covers ps folder) (drop_all at paths le) covers)
