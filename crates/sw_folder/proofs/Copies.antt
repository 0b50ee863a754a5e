-- That a table to which the entries of another are added in order has what that one has.
use Rattle.std.proofs.Common.{◌≡◌, ℕ, zero, suc, ◌+◌, ◌≤◌, Bool, true, false, cond, List, [], ◌∷◌, length, take, slice_get, Option, None, Some, refl, sym, ap, subst, ◌∙◌, arith}
use Rattle.std.specs.Str.{bytes_eq}
use Rattle.std.specs.Map.{lookup}
use Rattle.std.specs.FinMap.{get, insert, get-insert}
use Rattle.std.specs.Cmp.Lexicographic.{nat_list_cmp_total}
use Rattle.std.proofs.lemmas.List.{take_all}
use Rattle.std.proofs.lemmas.Map.Text.{is_eq-slice_cmp}
use Rattle.std.proofs.lemmas.Slice.Eq.{bytes_eq-Decides}
use Rattle.sw_folder.specs.Files.{Files}
use Rattle.sw_folder.specs.Table.{Entry, files_of}
use Rattle.sw_folder.proofs.Tables.{get-files_of, same_files}

same_some : (x y : Entry) → Some x ≡ Some y → x ≡ y
same_some x y e = cc

-- what a test finds first, it finds first among the first entries
first : (b : Bool) (x y : Option (List ℕ)) (e v : List ℕ) → (x ≡ Some v → y ≡ Some v) → cond b (Some e) x ≡ Some v → cond b (Some e) y ≡ Some v
first true x y e v rest all = all
first false x y e v rest all = rest all

-- what the whole table finds under the key of an entry, its first entries up to that one find
found : (p : Entry) (table : List Entry) (at : ℕ) → slice_get table at ≡ Some p → lookup (bytes_eq p.0) table ≡ Some p.1 → lookup (bytes_eq p.0) (take (suc at) table) ≡ Some p.1
found p [] at here all = all
found p (e ∷ es) zero here all =
    let is : e ≡ p = same_some e p here in
    ap (λ b. cond b (Some e.1) None) ((bytes_eq-Decides p.0 e.0).1 (ap (λ (q : Entry). q.0) (sym is))) ∙ ap (λ (q : Entry). Some q.1) is
found p (e ∷ es) (suc at) here all =
    first (bytes_eq p.0 e.0) (lookup (bytes_eq p.0) es) (lookup (bytes_eq p.0) (take (suc at) es)) e.1 p.1 (found p es at here) all

-- under another key one more entry changes nothing
apart : (q : List ℕ) (p : Entry) (table : List Entry) (at : ℕ) → slice_get table at ≡ Some p → bytes_eq q p.0 ≡ false → lookup (bytes_eq q) (take (suc at) table) ≡ lookup (bytes_eq q) (take at table)
apart q p [] zero here other = refl
apart q p [] (suc at) here other = refl
apart q p (e ∷ es) zero here other =
    ap (λ (x : Entry). cond (bytes_eq q x.0) (Some x.1) None) (same_some e p here) ∙ ap (λ b. cond b (Some p.1) None) other
apart q p (e ∷ es) (suc at) here other = ap (cond (bytes_eq q e.0) (Some e.1)) (apart q p es at here other)

-- one more entry is copied
pub copied : (p : Entry) (table : List Entry) (old new : Files) (at : ℕ) → slice_get table at ≡ Some p → lookup (bytes_eq p.0) table ≡ Some p.1 → new ≡ insert old p.0 p.1
    → ((q : List ℕ) → get old q ≡ lookup (bytes_eq q) (take at table)) → (q : List ℕ) → get new q ≡ lookup (bytes_eq q) (take (suc at) table)
copied p table old new at here all is same q =
    ap (λ m. get m q) is ∙ get-insert nat_list_cmp_total old p.0 p.1 q ∙ ap (λ b. cond b (Some p.1) (get old q)) (is_eq-slice_cmp q p.0) ∙ by (bytes_eq q p.0) refl
  where
    by : (b : Bool) → bytes_eq q p.0 ≡ b → cond (bytes_eq q p.0) (Some p.1) (get old q) ≡ lookup (bytes_eq q) (take (suc at) table)
    by true eq = ap (λ b. cond b (Some p.1) (get old q)) eq ∙ sym (found p table at here all) ∙ ap (λ k. lookup (bytes_eq k) (take (suc at) table)) (sym ((bytes_eq-Decides q p.0).0 eq))
    by false eq = ap (λ b. cond b (Some p.1) (get old q)) eq ∙ same q ∙ sym (apart q p table at here eq)

-- none is, at first
pub copied_none : (entries : List Entry) → entries ≡ [] → (q : List ℕ) → get (files_of entries) q ≡ None
copied_none entries none q = get-files_of q entries ∙ ap (lookup (bytes_eq q)) none

-- all of them are
pub copied_all : (table : List Entry) (copy : Files) (at : ℕ) → length table ≤ at → ((q : List ℕ) → get copy q ≡ lookup (bytes_eq q) (take at table)) → copy ≡ files_of table
copied_all table copy at past same =
    same_files _ _ (λ q. same q ∙ ap (lookup (bytes_eq q)) (take_all at table past) ∙ sym (get-files_of q table))
