-- How files come to be held, one after the other.
use Rattle.std.proofs.Common.{◌≡◌, ℕ, ◌+◌, ◌<◌, ◌≤◌, Bool, true, false, cond, if◌then◌else◌, nat_le, List, [], ◌∷◌, length, map, drop, get_or, Bor, None, Some, Ok, refl, sym, ap, ◌∙◌, drop-cons, add-one}
use Rattle.std.specs.declared.option.Option.{Option}
use Rattle.std.proofs.lemmas.Bool.{le-leb}
use Rattle.std.proofs.lemmas.List.{drop_all}
use Rattle.std.specs.Cmp.Lexicographic.{nat_list_cmp_total}
use Rattle.std.specs.FinMap.{contains_key, insert, len, len-insert}
use Rattle.sw_folder.specs.declared.edit.EditFault.{EditFault}
use Rattle.sw_folder.specs.Files.{Files, most_files}
use Rattle.sw_folder.specs.Edits.{after_put, put_fault, unless}
use Rattle.sw_io.specs.Disks.{File}
use Rattle.sw_cmd_disk_folder.specs.Held.{with_sheet, held_by, with_one}

-- a put at a new path is one file more
module _ (folder after : Files) (path bytes : List ℕ) (absent : contains_key folder path ≡ false) where
  put_by : (fault : Option EditFault) → unless fault (insert folder path bytes) ≡ Ok after → len after ≡ len folder + 1
  put_by None e =
      let same : insert folder path bytes ≡ after = cc in
      ap len (sym same) ∙ len-insert nat_list_cmp_total folder path bytes ∙ ap (λ b. cond b (len folder) (len folder + 1)) absent
  put_by (Some fault) e = cc

  pub put_grows : after_put path bytes folder ≡ Ok after → len after ≡ len folder + 1
  put_grows e = put_by (put_fault folder path bytes) e

pub one_more : (more : Bool) (new old : ℕ) → new ≡ with_one more old → more ≡ true → new ≡ old + 1
one_more more new old e t = e ∙ ap (λ b. with_one b old) t

pub none_more : (more : Bool) (new old : ℕ) → new ≡ with_one more old → more ≡ false → new ≡ old
none_more more new old e t = e ∙ ap (λ b. with_one b old) t

abbrev pub texts : List (Bor (List ℕ)) → List (List ℕ)
texts paths = map (λ path. path.now) paths

module _ (files : List File) where
  -- where 4,096 files are held no more are read
  pub held_full : (paths : List (List ℕ)) (folder : Files) → most_files ≤ len folder → held_by files paths folder ≡ folder
  unfolding held_by
  held_full [] folder h = refl
  held_full (path ∷ paths) folder h = ap (λ b. if b then folder else held_by files paths (with_sheet files path folder)) (le-leb most_files (len folder) h)

  held_next : (path : List ℕ) (paths : List (List ℕ)) (folder : Files) → nat_le most_files (len folder) ≡ false → held_by files (path ∷ paths) folder ≡ held_by files paths (with_sheet files path folder)
  unfolding held_by
  held_next path paths folder h = ap (λ b. if b then folder else held_by files paths (with_sheet files path folder)) h

  held_none : (folder : Files) → held_by files [] folder ≡ folder
  unfolding held_by
  held_none folder = refl

  -- one path more, of those in a list
  pub held_on : (paths : List (Bor (List ℕ))) (at : ℕ) (d : Bor (List ℕ)) (folder next : Files) → at < length paths → nat_le most_files (len folder) ≡ false
      → next ≡ with_sheet files (get_or paths at d).now folder → held_by files (texts (drop at paths)) folder ≡ held_by files (texts (drop (at + 1) paths)) next
  held_on paths at d folder next lt room e =
      let dropped : drop at paths ≡ get_or paths at d ∷ drop (at + 1) paths = rw add-one (drop-cons paths at d lt) in
      ap (λ (ps : List (Bor (List ℕ))). held_by files (texts ps) folder) dropped
      ∙ held_next (get_or paths at d).now (texts (drop (at + 1) paths)) folder room
      ∙ ap (held_by files (texts (drop (at + 1) paths))) (sym e)

  pub held_all : (paths : List (Bor (List ℕ))) (at : ℕ) (folder : Files) → length paths ≤ at → held_by files (texts (drop at paths)) folder ≡ folder
  held_all paths at folder le = ap (λ (ps : List (Bor (List ℕ))). held_by files (texts ps) folder) (drop_all at paths le) ∙ held_none folder
