-- What a put and a removal do to a folder, and what each is refused for, in the order in which the faults are looked
-- for. This project's own rule.
use Rattle.std.specs.Prelude.{◌≡◌, ℕ, not, ◌&&◌, nat_lt, nat_le, if◌then◌else◌, List, length, Option, None, Some, Result, Ok, Err}
use Rattle.std.specs.Str.{is_utf8}
use Rattle.std.specs.FinMap.{contains_key, insert, remove, len}
use Rattle.sw_folder.specs.declared.edit.EditFault.{EditFault}
use Rattle.sw_folder.specs.declared.edit.EditFault.TheVariants.{BadPath, TooLong, TooManyFiles, NotText, NoSuchFile, Memory}
use Rattle.sw_folder.specs.Paths.{is_path}
use Rattle.sw_folder.specs.Files.{Files, most_bytes, most_files}

-- what a put of so many bytes is refused for whatever the folder and the bytes are
abbrev pub unread_fault : List ℕ → ℕ → Option EditFault
unread_fault path count =
    if not (is_path path) then Some BadPath
    else if nat_lt most_bytes count then Some TooLong
    else None

-- what it is refused for beside these files
abbrev pub read_fault : Files → List ℕ → List ℕ → Option EditFault
read_fault files path bytes =
    if not (contains_key files path) && nat_le most_files (len files) then Some TooManyFiles
    else if not (is_utf8 bytes) then Some NotText
    else None

abbrev pub first_fault : Option EditFault → Option EditFault → Option EditFault
first_fault None next = next
first_fault (Some fault) next = Some fault

unfoldable pub put_fault : Files → List ℕ → List ℕ → Option EditFault
put_fault files path bytes = first_fault (unread_fault path (length bytes)) (read_fault files path bytes)

unfoldable pub removal_fault : Files → List ℕ → Option EditFault
removal_fault files path =
    if not (is_path path) then Some BadPath
    else if not (contains_key files path) then Some NoSuchFile
    else None

abbrev pub unless : Option EditFault → Files → Result Files EditFault
unless None files = Ok files
unless (Some fault) files = Err fault

-- the files after a put, where it isn't refused
abbrev pub after_put : List ℕ → List ℕ → Files → Result Files EditFault
after_put path bytes files = unless (put_fault files path bytes) (insert files path bytes)

-- the files after a removal, where it isn't refused
abbrev pub after_removal : List ℕ → Files → Result Files EditFault
after_removal path files = unless (removal_fault files path) (remove files path)

-- the folder after an edit: a refused one leaves it as it was
abbrev pub folder_after : Result Files EditFault → Files → Files
folder_after (Ok files) before = files
folder_after (Err fault) before = before

-- a fault is the one that the edit is refused for, or want of memory
abbrev pub IsFaultOf : EditFault → Result Files EditFault → Type 0
IsFaultOf Memory outcome = Unit {0}
IsFaultOf fault outcome = outcome ≡ Err fault
