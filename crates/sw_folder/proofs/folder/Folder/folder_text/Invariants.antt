use Rattle.std.proofs.Common.{◌≡◌, map, take, string_bytes}
use Rattle.sw_folder.specs.Resolution.{folder_text}
use Rattle.sw_folder.proofs.folder.Folder.folder_text.Given as goal

abbrev pub invariant-loop-folder : goal.invariant-loop-folder
invariant-loop-folder l = string_bytes l.text ≡ folder_text (map (λ segment. segment.now) (take l.folder-index l.folders))
