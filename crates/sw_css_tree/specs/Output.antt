-- The output of a module, as it grows (this project's own rules on the order of blocks).
use Rattle.std.specs.Prelude.{ℕ, zero, suc, Bool, true, false, not, ◌&&◌, ◌||◌, ◌==◌, nat_lt, nat_le, bytes_eq, nat_eq, if◌then◌else◌, ◌+◌, ◌-◌, ◌<◌, ◌≤◌, List, [], ◌∷◌, ◌++◌, length, take, filter, codes, slice_get, slice_set, Option, Some, None}
use Rattle.std.specs.List.{starts_with, ends_with}
use Rattle.sw_css_tree.specs.declared.block.Block.{Block}
use Rattle.sw_css_tree.specs.declared.block.Wrapper.{Wrapper}
use Rattle.sw_css_tree.specs.declared.block.Line.{Line}
use Rattle.sw_css_tree.specs.declared.block.Line.TheVariants.{Declaration, Comment, At, Import}
use Rattle.sw_css_tree.specs.declared.frame.Rule.{Rule}
use Rattle.sw_css_tree.specs.declared.frame.Frame.{Frame}
use Rattle.sw_css_tree.specs.declared.frame.Target.{Target}
use Rattle.sw_css_tree.specs.declared.frame.Target.TheVariants.{Old, New}

pub record Output : Type 0 where
  -- the plain imports of the top level
  pub imports : List (List ℕ)
  -- in the order of opening
  pub blocks : List Block
  -- what is open, from the outermost on
  pub open_frames : List Frame
  -- the number of the top-level statement that is evaluated
  pub statement : ℕ
  -- how many at-rules with a block were opened
  pub opened : ℕ
  -- the bytes that the texts have
  pub bytes : ℕ

-- the bytes that no output passes
abbrev pub most : ℕ
most = 16777216

abbrev pub nothing : Output
nothing = record { imports = []; blocks = []; open_frames = []; statement = 0; opened = 0; bytes = 0 }

-- something is open
abbrev pub is_open : Output → Bool
is_open out = nat_lt 0 (length out.open_frames)

-- where nothing is open
abbrev pub top : Frame
top = record { wrappers = []; rule = None; media = None }

abbrev pub last : {A : Type 0} → List A → Option A
last xs = slice_get xs (length xs - 1)

-- the innermost of these frames
abbrev pub innermost_frame : List Frame → Frame
innermost_frame frames = elim (last frames) as (λ f. Frame) [ None ↦ top | Some frame ↦ frame ]

abbrev pub here : Output → Frame
here out = innermost_frame out.open_frames

-- Blocks

-- A block is written where it has lines and its selector isn't the empty text.
-- One without a selector and without lines is an at-rule's own, which is written even when it is empty.
abbrev pub is_written : Block → Bool
is_written block = elim block.selector as (λ s. Bool) [
  | None ↦ nat_lt 0 (length block.lines) || nat_lt 0 (length block.wrappers)
  | Some text ↦ nat_lt 0 (length text) && nat_lt 0 (length block.lines)
]

-- the place past the last block that is written
abbrev pub written_end : List Block → ℕ
written_end [] = 0
written_end (block ∷ blocks) =
    if nat_lt 0 (written_end blocks) then suc (written_end blocks) else (if is_written block then 1 else 0)

-- the block at this place has the line after its others
abbrev pub line_added : List Block → ℕ → Line → List Block
line_added [] at line = []
line_added (block ∷ blocks) zero line = record block { lines = block.lines ++ line ∷ [] } ∷ blocks
line_added (block ∷ blocks) (suc at) line = block ∷ line_added blocks at line

-- the number of the innermost at-rule: each is opened once, so that it tells which others stand round it
abbrev pub innermost : List Wrapper → Option ℕ
innermost wrappers = elim (last wrappers) as (λ w. Option ℕ) [ None ↦ None | Some wrapper ↦ Some wrapper.number ]

abbrev pub same_number : Option ℕ → Option ℕ → Bool
same_number None None = true
same_number None (Some n) = false
same_number (Some m) None = false
same_number (Some m) (Some n) = m == n

-- the block is one for lines outside every rule, of this statement and in these at-rules
abbrev pub takes_lines : ℕ → List Wrapper → Block → Bool
takes_lines statement wrappers block =
    (block.statement == statement)
    && (same_number (innermost block.wrappers) (innermost wrappers)
    && elim block.selector as (λ s. Bool) [ None ↦ true | Some text ↦ false ])

abbrev pub last_takes_lines : ℕ → List Wrapper → List Block → Bool
last_takes_lines statement wrappers blocks =
    elim (last blocks) as (λ b. Bool) [ None ↦ false | Some block ↦ takes_lines statement wrappers block ]

-- Lines

abbrev pub line_size : Line → ℕ
line_size (Declaration property value) = length property + length value
line_size (Comment text) = length text
line_size (At name prelude) = length name + length prelude
line_size (Import text) = length text

-- Where a line goes. Of a rule: into its latest block where no block after that one is written, else into a new one.
-- Outside every rule: into the last block where that one takes it, else into a new one.
abbrev pub target : Output → Target
target out = elim (here out).rule as (λ r. Target) [
  | None ↦ if last_takes_lines out.statement (here out).wrappers out.blocks then Old (length out.blocks - 1)
      else New None
  | Some rule ↦ if nat_lt rule.latest (written_end out.blocks - 1) then New (Some rule.selector) else Old rule.latest
]

-- the selector text of a new block counts
abbrev pub target_size : Target → ℕ
target_size (Old at) = 0
target_size (New selector) = elim selector as (λ s. ℕ) [ None ↦ 0 | Some text ↦ length text ]

-- a new block is the last one
abbrev pub block_put : Output → Option (List ℕ) → List Line → List Block
block_put out selector lines =
    out.blocks ++ record {
      statement = out.statement;
      wrappers = (here out).wrappers;
      selector = selector;
      lines = lines;
    } ∷ []

-- the rule has its latest block at this place
abbrev pub rule_moved : ℕ → Option Rule → Option Rule
rule_moved at None = None
rule_moved at (Some rule) = Some (record rule { latest = at })

abbrev pub moved : ℕ → Frame → Frame
moved at frame = record frame { rule = rule_moved at frame.rule }

-- so has the rule of the innermost frame
abbrev pub moved_last : ℕ → List Frame → List Frame
moved_last at frames =
    elim (last frames) as (λ f. List Frame)
    [ None ↦ frames | Some frame ↦ slice_set frames (length frames - 1) (moved at frame) ]

abbrev pub placed : Output → Target → Line → Output
placed out (Old at) line = record out { blocks = line_added out.blocks at line }
placed out (New selector) line =
    record out {
      blocks = block_put out selector (line ∷ []);
      open_frames = moved_last (length out.blocks) out.open_frames;
    }

abbrev pub grown : Output → ℕ → Output
grown out size = record out { bytes = out.bytes + size }

abbrev pub lined : Output → Line → Output
lined out line = grown (placed out (target out) line) (line_size line + target_size (target out))

-- neither a rule nor an at-rule stands round what follows
abbrev pub is_outside : Frame → Bool
is_outside frame = elim frame.rule as (λ r. Bool) [ None ↦ nat_le (length frame.wrappers) 0 | Some rule ↦ false ]

-- a plain import goes to the imports at the top level, and is a line elsewhere
abbrev pub import_put : Output → List ℕ → Output
import_put out text = grown (record out { imports = out.imports ++ text ∷ [] }) (length text)

abbrev pub imported : Output → List ℕ → Output
imported out text =
    if is_outside (here out)
    then import_put out text
    else lined out (Import text)

-- Opening

abbrev pub frame_put : Output → Frame → List Frame
frame_put out frame = out.open_frames ++ frame ∷ []

-- a rule is opened here, and with it its first block
abbrev pub rule_opened : Output → List ℕ → Output
rule_opened out selector = record out {
  blocks = block_put out (Some selector) [];
  open_frames =
      frame_put out (record (here out) { rule = Some (record { selector = selector; latest = length out.blocks }) });
  bytes = out.bytes + length selector;
}

-- what follows stands outside every rule, in the same at-rules
abbrev pub left_rules : Output → Output
left_rules out = record out { open_frames = frame_put out (record (here out) { rule = None }) }

-- `keyframes`, and those with the prefix of a maker
abbrev pub is_keyframes : List ℕ → Bool
is_keyframes name =
    bytes_eq name (codes "keyframes")
    || (starts_with nat_eq name (codes "-") && ends_with nat_eq name (codes "-keyframes"))

-- no selector is opened in it
abbrev pub is_bare : List ℕ → Bool
is_bare name = bytes_eq name (codes "font-face") || is_keyframes name

-- it is written even when it is empty
abbrev pub stays : List ℕ → Bool
stays name = not (bytes_eq name (codes "media") || bytes_eq name (codes "supports"))

-- the rule that is opened once more inside
abbrev pub reopened : List ℕ → Option Rule → Option (List ℕ)
reopened name rule =
    elim rule as (λ r. Option (List ℕ)) [ None ↦ None | Some r ↦ if is_bare name then None else Some r.selector ]

abbrev pub empty_block : ℕ → List Wrapper → Option (List ℕ) → Block
empty_block statement wrappers selector =
    record { statement = statement; wrappers = wrappers; selector = selector; lines = [] }

abbrev pub one_or_none : Option Block → List Block
one_or_none block = elim block as (λ b. List Block) [ None ↦ [] | Some block ↦ block ∷ [] ]

-- the block in which an at-rule is written even when it is empty
abbrev pub own_block : ℕ → List Wrapper → Bool → Option Block
own_block statement wrappers own = if own then Some (empty_block statement wrappers None) else None

-- the block of the rule around it
abbrev pub inner_block : ℕ → List Wrapper → Option (List ℕ) → Option Block
inner_block statement wrappers rule =
    elim rule as (λ r. Option Block) [ None ↦ None | Some text ↦ Some (empty_block statement wrappers (Some text)) ]

-- what an at-rule begins with: its own block, where it is written even when it is empty, and one of the rule around it
abbrev pub first_blocks : ℕ → List Wrapper → Bool → Option (List ℕ) → List Block
first_blocks statement wrappers own rule =
    one_or_none (own_block statement wrappers own) ++ one_or_none (inner_block statement wrappers rule)

-- the rule of its frame
abbrev pub inner_rule : ℕ → Option (List ℕ) → Option Rule
inner_rule at rule =
    elim rule as (λ r. Option Rule) [ None ↦ None | Some text ↦ Some (record { selector = text; latest = at }) ]

-- an at-rule with a block is opened as the innermost of these; it moves out of the rule around it, which is opened once
-- more inside
abbrev pub at_put : Output → List Wrapper → Option ℕ → List ℕ → List ℕ → Output
at_put out around media name prelude =
    let wrappers : List Wrapper = around ++ record { number = out.opened; name = name; prelude = prelude } ∷ [] in
    let rule : Option (List ℕ) = reopened name (here out).rule in
    let blocks : List Block = out.blocks ++ first_blocks out.statement wrappers (stays name) rule in
    record out {
      blocks = blocks;
      open_frames =
          frame_put out (record { wrappers = wrappers; rule = inner_rule (length blocks - 1) rule; media = media });
      opened = suc out.opened;
      bytes = out.bytes + (length name + length prelude);
    }

abbrev pub at_opened : Output → List ℕ → List ℕ → Output
at_opened out name prelude = at_put out (here out).wrappers (here out).media name prelude

-- the at-rules but the one of this number
abbrev pub without : Option ℕ → List Wrapper → List Wrapper
without left wrappers = filter (λ w. not (same_number left (Some w.number))) wrappers

-- a `@media` whose queries are joined with those of the one around it: that one leaves, and it is put last
abbrev pub bubbled : Output → List ℕ → List ℕ → Output
bubbled out name prelude = at_put out (without (here out).media (here out).wrappers) (Some out.opened) name prelude

-- the innermost frame is closed
abbrev pub closed : Output → Output
closed out = record out { open_frames = take (length out.open_frames - 1) out.open_frames }

-- the latest blocks of the open rules are among the first so many
abbrev pub AreBelow : ℕ → List Frame → Type 0
AreBelow end [] = Unit {0}
AreBelow end (frame ∷ frames) =
    (elim frame.rule as (λ r. Type 0) [ None ↦ Unit {0} | Some rule ↦ rule.latest < end ]) × AreBelow end frames

-- a block there takes a line: it is within, and none after it is written
abbrev pub IsTarget : Output → Target → Type 0
IsTarget out (Old at) = (at < length out.blocks) × (written_end out.blocks ≤ suc at)
IsTarget out (New selector) = Unit {0}

-- the limit on bytes
abbrev pub Fits : Output → Type 0
Fits out = out.bytes ≤ most

abbrev pub IsTooLarge : Output → Type 0
IsTooLarge out = most < out.bytes
