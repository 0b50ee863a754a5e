-- One part more.
use Rattle.std.proofs.Common.{◌≡◌, ℕ, ◌+◌, List, refl, sym, ap, ◌∙◌, add-one}
use Rattle.std.specs.FinMap.{empty}
use Rattle.sw_folder.specs.Files.{Files}
use Rattle.sw_cmd_workload.specs.Texts.{lib_path, lib_text, parts_of, width_of, part_path, part_text, main_path, main_text}
use Rattle.sw_cmd_workload.specs.Made.{with_file, with_parts, made}

pub no_parts : (number : ℕ) (folder : Files) → with_parts number 0 folder ≡ folder
unfolding with_parts
no_parts number folder = refl

parts_more : (number place : ℕ) (folder : Files)
    → with_parts number (place + 1) folder ≡ with_file (part_path place) (part_text place (width_of number place)) (with_parts number place folder)
unfolding with_parts
parts_more number place folder = rw add-one refl

pub part_put : (number place width : ℕ) (first before now : Files) → width ≡ width_of number place → before ≡ with_parts number place first → now ≡ with_file (part_path place) (part_text place width) before
    → now ≡ with_parts number (place + 1) first
part_put number place width first before now w b n =
    n ∙ ap (λ x. with_file (part_path place) (part_text place x) before) w ∙ ap (λ x. with_file (part_path place) (part_text place (width_of number place)) x) b ∙ sym (parts_more number place first)

-- the whole folder
pub all_made : (number : ℕ) (first lib parts now : Files) (text : List ℕ) → first ≡ empty → lib ≡ with_file lib_path lib_text first → parts ≡ with_parts number (parts_of number) lib
    → text ≡ main_text (parts_of number) → now ≡ with_file main_path text parts → now ≡ made number
all_made number first lib parts now text f l p t n =
    n ∙ ap (λ x. with_file main_path x parts) t ∙ ap (with_file main_path (main_text (parts_of number))) (p ∙ ap (with_parts number (parts_of number)) (l ∙ ap (with_file lib_path lib_text) f))
