-- What the reading of a listed folder gives.
use Rattle.std.proofs.Common.{◌≡◌, ℕ, List, Bor, Some, Ok, Err, OnOk, subst, ap, ◌∙◌}
use Rattle.std.specs.declared.option.Option.{Option}
use Rattle.std.specs.declared.result.Result.{Result}
use Rattle.std.specs.FinMap.{empty}
use Rattle.std.specs.List.Sorted.{IsPermutation}
use Rattle.std.proofs.lemmas.List.Sorted.{IsPermutation-trans}
use Rattle.sw_folder.specs.Files.{Files}
use Rattle.sw_io.specs.Disks.{Course, after_listing, sheets_of}
use Rattle.sw_cmd_disk_folder.specs.Held.{IsInOrder, IsRead, held_by}
use Rattle.sw_cmd_disk_folder.proofs.Steps.{texts}

pub on_ok : {T E A B : Type 0} (r : Result T E) → (A → B) → OnOk r A → OnOk r B
on_ok (Ok x) f a = f a
on_ok (Err e) f a = tt

module _ (before mid now : Option Course) (names slice : List (List ℕ)) (order given : List (Bor (List ℕ))) (folder : Files) where
  pub read_is : ((c : Course) → before ≡ Some c → (mid ≡ Some (after_listing c)) × IsPermutation (sheets_of (after_listing c).files) names)
      → now ≡ mid → slice ≡ names → IsInOrder slice (texts order) → given ≡ order
      → ((c : Course) → mid ≡ Some c → folder ≡ held_by c.files (texts given) empty) → IsRead before now folder
  read_is l k s o g f = λ c e.
      let x = l c e in (
        k ∙ x.0,
        record {
          order = texts order;
          in_order = record { same = IsPermutation-trans _ _ _ x.1 (subst (λ (p : List (List ℕ)). IsPermutation p (texts order)) s o.same); sorted = o.sorted };
          held = f (after_listing c) x.0 ∙ ap (λ (p : List (Bor (List ℕ))). held_by (after_listing c).files (texts p) empty) g;
        },
      )
