-- That no file has what no path may have.
use Rattle.std.proofs.Common.{◌≡◌, ℕ, ◌-◌, Bool, true, false, cond, ◌||◌, List, [], ◌∷◌, ◌++◌, length, drop, filter, codes, nat_eq, None, Some, is_some, Ok, refl, sym, ap, ◌∙◌, arith, length-append, append_assoc}
use Rattle.std.proofs.lemmas.List.Folds.{list_any-append}
use Rattle.std.proofs.Math.Seq.{drop-append_seam}
use Rattle.std.specs.List.{ends_with, list_any}
use Rattle.std.specs.Str.{bytes_eq}
use Rattle.std.specs.Ordering.{is_eq, nat_cmp}
use Rattle.std.specs.Cmp.Lexicographic.{slice_cmp, nat_list_cmp_total}
use Rattle.std.specs.FinMap.{get, contains_key, insert, remove, get-empty, get-insert, get-remove}
use Rattle.std.proofs.lemmas.Map.Text.{is_eq-slice_cmp}
use Rattle.std.proofs.lemmas.Slice.Eq.{bytes_eq-Decides}
use Rattle.sw_folder.specs.declared.folder.Marks.{Marks}
use Rattle.sw_folder.specs.Files.{Files}
use Rattle.sw_folder.specs.Paths.{is_underscore}
use Rattle.sw_folder.specs.Resolution.{both, choice, present}
use Rattle.sw_folder.specs.Table.{marked, Tells, files_of}

neither : (a b : Bool) → (a || b) ≡ false → (a ≡ false) × (b ≡ false)
neither false false e = (refl, refl)
neither true b e = cc
neither false true e = cc

-- a path that has something isn't one that hasn't
apart : (has : List ℕ → Bool) (q path : List ℕ) → has q ≡ true → has path ≡ false → bytes_eq q path ≡ false
apart has q path this that = by (bytes_eq q path) refl
  where
    by : (b : Bool) → bytes_eq q path ≡ b → bytes_eq q path ≡ false
    by false e = e
    by true e = let both : true ≡ false = sym this ∙ ap has ((bytes_eq-Decides q path).0 e) ∙ that in cc

absent-insert : (files : Files) (path text q : List ℕ) → bytes_eq q path ≡ false → contains_key files q ≡ false → contains_key (insert files path text) q ≡ false
absent-insert files path text q other was =
    ap is_some (get-insert nat_list_cmp_total files path text q ∙ ap (λ b. cond b (Some text) (get files q)) (is_eq-slice_cmp q path ∙ other)) ∙ was

absent-remove : (files : Files) (path q : List ℕ) → contains_key files q ≡ false → contains_key (remove files path) q ≡ false
absent-remove files path q was = ap is_some (get-remove nat_list_cmp_total files path q) ∙ by (is_eq (slice_cmp nat_cmp q path))
  where
    by : (b : Bool) → is_some (cond b None (get files q)) ≡ false
    by true = refl
    by false = was

pub Tells-empty : (marks : Marks) → Tells marks (files_of [])
Tells-empty marks = record { indented = λ _ q _. nothing q; underscored = λ _ q _. nothing q }
  where
    nothing : (q : List ℕ) → contains_key (files_of []) q ≡ false
    nothing q = ap is_some (get-empty (slice_cmp nat_cmp) q)

pub Tells-insert : (marks : Marks) (files : Files) (path text : List ℕ) → Tells marks files → Tells (marked path marks) (insert files path text)
Tells-insert marks files path text old = record {
  indented = λ none q has.
      let p = neither marks.indented (ends_with nat_eq path (codes ".sass")) none in
      absent-insert files path text q (apart (λ t. ends_with nat_eq t (codes ".sass")) q path has p.1) (old.indented p.0 q has);
  underscored = λ none q has.
      let p = neither marks.underscored (list_any is_underscore path) none in
      absent-insert files path text q (apart (list_any is_underscore) q path has p.1) (old.underscored p.0 q has);
}

pub Tells-remove : (marks : Marks) (files : Files) (path : List ℕ) → Tells marks files → Tells marks (remove files path)
Tells-remove marks files path old = record {
  indented = λ none q has. absent-remove files path q (old.indented none q has);
  underscored = λ none q has. absent-remove files path q (old.underscored none q has);
}

-- a text in front of an ending ends so
pub ends : (front ending : List ℕ) → ends_with nat_eq (front ++ ending) ending ≡ true
ends front ending =
    let at : length (front ++ ending) - length ending ≡ length front = omega (arith, length-append front ending) in
    ap (λ n. bytes_eq ending (drop n (front ++ ending))) at ∙ ap (bytes_eq ending) (drop-append_seam front ending) ∙ (bytes_eq-Decides ending ending).1 refl

pub has_one : (front more : List ℕ) → list_any is_underscore (front ++ 95 ∷ more) ≡ true
has_one front more = list_any-append is_underscore front (95 ∷ more) ∙ by (list_any is_underscore front)
  where
    by : (b : Bool) → (b || true) ≡ true
    by true = refl
    by false = refl

absent_two : (files : Files) (one other : List ℕ) → contains_key files one ≡ false → contains_key files other ≡ false → present files (one ∷ other ∷ []) ≡ []
absent_two files one other a b =
    ap (λ x. cond x (one ∷ filter (contains_key files) (other ∷ [])) (filter (contains_key files) (other ∷ []))) a ∙ ap (λ x. cond x (other ∷ []) []) b

-- where no file ends so, neither the one nor the partial is there
pub none_of_two : (files : Files) (folder name ending : List ℕ) → ((path : List ℕ) → ends_with nat_eq path ending ≡ true → contains_key files path ≡ false)
    → choice (present files (both folder name ending)) ≡ Ok None
none_of_two files folder name ending none = ap choice (absent_two files (folder ++ (name ++ ending)) (folder ++ (codes "_" ++ (name ++ ending))) plain partial)
  where
    plain : contains_key files (folder ++ (name ++ ending)) ≡ false
    plain = none (folder ++ (name ++ ending)) (ap (λ t. ends_with nat_eq t ending) (sym (append_assoc folder name ending)) ∙ ends (folder ++ name) ending)

    partial : contains_key files (folder ++ (codes "_" ++ (name ++ ending))) ≡ false
    partial =
        none (folder ++ (codes "_" ++ (name ++ ending)))
        (ap (λ t. ends_with nat_eq t ending) (sym (append_assoc folder (codes "_" ++ name) ending)) ∙ ends (folder ++ (codes "_" ++ name)) ending)
