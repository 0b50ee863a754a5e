-- The folder of a made workload, what its compiles give, and what is told of them in the end. This project's own rule.
use Rattle.std.specs.Prelude.{◌≡◌, ℕ, suc, zero, ◌+◌, List, [], ◌∷◌, ◌++◌, length}
use Rattle.std.specs.FinMap.{empty}
use Rattle.sw_folder.specs.Files.{Files}
use Rattle.sw_folder.specs.Edits.{after_put, folder_after}
use Rattle.sw_modules.specs.Fresh.{Setting}
use Rattle.sw_record.specs.declared.reply.Outcome.{Outcome}
use Rattle.sw_record.specs.declared.reply.Outcome.TheVariants.{Css, Error}
use Rattle.sw_record.specs.declared.reply.Reply.{Reply}
use Rattle.sw_record.specs.Ran.{Ran}
use Rattle.sw_keeper.specs.Compile.{Compile, compiled, paths_of}
use Rattle.sw_keeper.specs.Keeping.{Keeping, kept_in, AreKept}
use Rattle.sw_cmd_workload.specs.Texts.{lib_path, lib_text, parts_of, width_of, part_path, part_text, main_path, main_text, edited_place, edited_width, summary}

-- a file is put
abbrev pub with_file : List ℕ → List ℕ → Files → Files
with_file path text folder = folder_after (after_put path text folder) folder

-- the first parts are put, in order
unfoldable pub with_parts : ℕ → ℕ → Files → Files
with_parts number zero folder = folder
with_parts number (suc place) folder =
    with_file (part_path place) (part_text place (width_of number place)) (with_parts number place folder)

-- the folder of the first compile
abbrev pub made : ℕ → Files
made number =
    with_file main_path (main_text (parts_of number))
    (with_parts number (parts_of number) (with_file lib_path lib_text empty))

-- one part is made anew before each compile but the first one, whose number is 0
abbrev pub edited : ℕ → ℕ → Files → Files
edited number zero folder = folder
edited number (suc turn) folder =
    with_file (part_path (edited_place number (suc turn)))
    (part_text (edited_place number (suc turn)) (edited_width number (suc turn))) folder

abbrev pub with_folder : Files → Keeping → Keeping
with_folder folder k = record { folder = folder; kept = k.kept }

-- what is held at the compile with this number, of what was held after the one before
abbrev pub at_turn : ℕ → ℕ → Keeping → Keeping
at_turn number turn k = with_folder (edited number turn k.folder) k

-- a compile of what is held
abbrev pub compile_of : Setting → Keeping → Compile
compile_of setting k = compiled setting k.folder [] main_path []

-- what is held after it: its runs are the latest used
pub record IsAfter (setting : Setting) (k now : Keeping) : Type 0 where
  pub folder : now.folder ≡ k.folder
  pub kept : AreKept k.kept (compile_of setting k).runs now.kept

-- what is held after so many compiles
unfoldable pub IsHeldAfter : Setting → ℕ → ℕ → Keeping → Type 0
IsHeldAfter setting number zero k = k ≡ record { folder = made number; kept = [] }
IsHeldAfter setting number (suc turn) k =
    (before : Keeping) × IsHeldAfter setting number turn before × IsAfter setting (at_turn number turn before) k

-- the reply to a compile of what is held: what the evaluation of its files from nothing gives, and the bodies whose run
-- there is none of the kept ones
pub record IsReply (setting : Setting) (k : Keeping) (reply : Reply) : Type 0 where
  pub says : reply.says ≡ (compile_of setting k).says
  pub outcome : reply.outcome ≡ (compile_of setting k).outcome
  pub ran : Ran (kept_in k.kept) (compile_of setting k).runs reply.ran

-- the replies to so many compiles, in order
abbrev pub AreReplies : Setting → ℕ → ℕ → List Reply → Type 0
AreReplies setting number zero replies = replies ≡ []
AreReplies setting number (suc turn) replies =
    (earlier : List Reply) × (reply : Reply) × (replies ≡ earlier ++ reply ∷ [])
    × ((k : Keeping) × IsHeldAfter setting number turn k × IsReply setting (at_turn number turn k) reply)
    × AreReplies setting number turn earlier

-- how many bodies ran in all
abbrev pub bodies_in : List Reply → ℕ
bodies_in [] = 0
bodies_in (reply ∷ replies) = length reply.ran + bodies_in replies

-- their paths, in order
abbrev pub paths_in : List Reply → List (List ℕ)
paths_in [] = []
paths_in (reply ∷ replies) = paths_of reply.ran ++ paths_in replies

abbrev pub css_length : Outcome → ℕ
css_length (Css bytes) = length bytes
css_length (Error fault) = 0

-- the number of CSS bytes of the last reply, with that of the one before
abbrev pub css_after : ℕ → List Reply → ℕ
css_after before [] = before
css_after before (reply ∷ replies) = css_after (css_length reply.outcome) replies

-- what is told in the end of these replies
abbrev pub summary_of : ℕ → List Reply → List ℕ
summary_of number replies = summary (parts_of number + 2) (bodies_in replies) (css_after 0 replies)
