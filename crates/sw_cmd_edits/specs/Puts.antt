-- The bytes of a put, and what comes of an edit. This project's own rule.
use Rattle.std.specs.Prelude.{ℕ, ◌==◌, if◌then◌else◌, List, [], ◌∷◌, take, drop, Result}
use Rattle.sw_folder.specs.Files.{Files}
use Rattle.sw_folder.specs.Edits.{folder_after}
use Rattle.sw_folder.specs.declared.edit.EditFault.{EditFault}
use Rattle.sw_wire.specs.Replies.{edit_text}
use Rattle.sw_cmd_protocol.specs.Script.{Next, Whole, NoRequest, Short}
use Rattle.sw_cmd_protocol.specs.Protocol.{Turn}

-- a put's bytes end with a line feed
abbrev pub put_at : {Event : Type 0} → Event → List ℕ → Next Event
put_at put [] = Short
put_at put (byte ∷ rest) = if byte == 10 then Whole put rest else NoRequest

-- what stands behind the line of a put of so many bytes
abbrev pub put_next : {Event : Type 0} → (List ℕ → Event) → ℕ → List ℕ → Next Event
put_next put count rest = put_at (put (take count rest)) (drop count rest)

-- an edit runs no body, nobody is told of it, and all that is held beside the folder stays
abbrev pub edit_turn : {Held Reply : Type 0} → (Files → Held) → Files → Result Files EditFault → Turn Held Reply
edit_turn over folder edit =
    record { text = edit_text edit; told = []; ran = []; held = over (folder_after edit folder) }
