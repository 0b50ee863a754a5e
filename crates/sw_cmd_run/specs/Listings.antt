-- Which folders the scans of a poll read. This project's own rule.
use Rattle.std.specs.Prelude.{List, [], ◌∷◌, ⊤}
use Rattle.sw_io.specs.Disks.{Course, after_listing}
use Rattle.sw_cmd_disk_folder.specs.Held.{IsHeld}
use Rattle.sw_cmd_run.specs.Poll.{Mark, Answered, Refused, Unread}

-- each scan lists the disk's folder once more, and what it reads is what the folder then holds; a scan whose reading
-- broke off is the last
abbrev pub ReadInTurn : Course → List Mark → Type 0
ReadInTurn c [] = ⊤
ReadInTurn c (Answered course folder ran kept ∷ marks) =
    IsHeld (after_listing c).files folder × ReadInTurn (after_listing c) marks
ReadInTurn c (Refused course folder ran ∷ marks) =
    IsHeld (after_listing c).files folder × ReadInTurn (after_listing c) marks
ReadInTurn c (Unread course ∷ marks) = ⊤
