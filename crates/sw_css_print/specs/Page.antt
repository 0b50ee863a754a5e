-- How output is written (CSS Syntax on rules, declarations and at-rules; the layout is this project's own).
use Rattle.std.specs.Prelude.{ℕ, zero, suc, Bool, true, false, not, ◌&&◌, ◌==◌, nat_le, nat_lt, if◌then◌else◌, ◌-◌, ◌+◌, List, [], ◌∷◌, ◌++◌, length, take, drop, map, filter, Option, Some, None, codes}
use Rattle.std.specs.List.{list_any, flat_map}
use Rattle.sw_css_tree.specs.declared.block.Block.{Block}
use Rattle.sw_css_tree.specs.declared.block.Wrapper.{Wrapper}
use Rattle.sw_css_tree.specs.declared.block.Line.{Line}
use Rattle.sw_css_tree.specs.declared.block.Line.TheVariants.{Declaration, Comment, At, Import}
use Rattle.sw_css_tree.specs.Output.{Output, is_written}

-- Lines and heads

-- two spaces for each at-rule or rule around
abbrev pub indent : ℕ → List ℕ
indent zero = []
indent (suc depth) = 32 ∷ 32 ∷ indent depth

-- "@name", and a space and the prelude where there is one
abbrev pub head : List ℕ → List ℕ → List ℕ
head name prelude = codes "@" ++ name ++ (if nat_lt 0 (length prelude) then codes " " ++ prelude else [])

abbrev pub import_text : List ℕ → List ℕ
import_text text = codes "@import " ++ text ++ codes ";\n"

abbrev pub line_text : Line → List ℕ
line_text (Declaration property value) = property ++ codes ": " ++ value ++ codes ";\n"
line_text (Comment text) = text ++ codes "\n"
line_text (At name prelude) = head name prelude ++ codes ";\n"
line_text (Import text) = import_text text

abbrev pub lines_text : ℕ → List Line → List ℕ
lines_text depth [] = []
lines_text depth (line ∷ lines) = indent depth ++ line_text line ++ lines_text depth lines

-- Blocks within their at-rules

-- how many at-rules lead both lists
abbrev pub shared : List Wrapper → List Wrapper → ℕ
shared [] others = 0
shared (w ∷ ws) [] = 0
shared (w ∷ ws) (o ∷ os) = if w.number == o.number then suc (shared ws os) else 0

-- the at-rules from this depth on begin
abbrev pub begun : ℕ → List Wrapper → List ℕ
begun depth [] = []
begun depth (w ∷ ws) = indent depth ++ head w.name w.prelude ++ codes " {\n" ++ begun (suc depth) ws

-- the at-rules from the second depth, which isn't among them, to the first end, the innermost first
abbrev pub ended : ℕ → ℕ → List ℕ
ended low zero = []
ended low (suc depth) = if nat_lt depth low then [] else indent depth ++ codes "}\n" ++ ended low depth

-- a block without lines is an at-rule's own, which holds nothing: it is written as one line within the others
abbrev pub around : Block → List Wrapper
around block = if nat_lt 0 (length block.lines) then block.wrappers else take (length block.wrappers - 1) block.wrappers

abbrev pub empties : ℕ → List Wrapper → List ℕ
empties depth [] = []
empties depth (w ∷ ws) = indent depth ++ head w.name w.prelude ++ codes " {}\n" ++ empties (suc depth) ws

abbrev pub rule_text : ℕ → List ℕ → List Line → List ℕ
rule_text depth selector lines =
    indent depth ++ selector ++ codes " {\n" ++ lines_text (depth + 1) lines ++ indent depth ++ codes "}\n"

abbrev pub body : Block → List ℕ
body block =
    let depth : ℕ = length block.wrappers in
    if nat_lt 0 (length block.lines)
    then elim block.selector as (λ s. List ℕ) [
      | None ↦ lines_text depth block.lines
      | Some selector ↦ rule_text depth selector block.lines
    ]
    else empties (depth - 1) (drop (depth - 1) block.wrappers)

-- where the first at-rules are open, those that the block stands outside of end, those around it begin, and it is
-- written
abbrev pub block_text : List Wrapper → Block → List ℕ
block_text before block =
    let both : ℕ = shared before (around block) in
    ended both (length before) ++ begun both (drop both (around block)) ++ body block

abbrev pub blocks_text : List Wrapper → List Block → List ℕ
blocks_text before [] = ended 0 (length before)
blocks_text before (block ∷ blocks) = block_text before block ++ blocks_text (around block) blocks

-- Groups

-- the next block stands in the at-rule that this one is the own block of
abbrev pub is_entered : Block → List Block → Bool
is_entered block [] = false
is_entered block (next ∷ blocks) =
    (block.statement == next.statement) && nat_le (length block.wrappers) (shared block.wrappers next.wrappers)

-- the blocks without the own ones of at-rules that hold something
abbrev pub filled : List Block → List Block
filled [] = []
filled (block ∷ blocks) =
    if not (nat_lt 0 (length block.lines)) && is_entered block blocks then filled blocks else block ∷ filled blocks

abbrev pub grouped_with : Block → List (List Block) → List (List Block)
grouped_with block [] = (block ∷ []) ∷ []
grouped_with block ([] ∷ groups) = (block ∷ []) ∷ groups
grouped_with block ((next ∷ group) ∷ groups) =
    if block.statement == next.statement then (block ∷ next ∷ group) ∷ groups
    else (block ∷ []) ∷ (next ∷ group) ∷ groups

-- what one top-level statement gave is a group
abbrev pub grouped : List Block → List (List Block)
grouped [] = []
grouped (block ∷ blocks) = grouped_with block (grouped blocks)

-- how many blocks are of this statement, up to the first that isn't
abbrev pub run_len : ℕ → List Block → ℕ
run_len statement [] = 0
run_len statement (block ∷ blocks) = if statement == block.statement then suc (run_len statement blocks) else 0

-- how many blocks the first group has
abbrev pub group_len : List Block → ℕ
group_len [] = 0
group_len (block ∷ blocks) = suc (run_len block.statement blocks)

-- one comment
abbrev pub is_one_comment : List Line → Bool
is_one_comment (Comment text ∷ []) = true
is_one_comment lines = false

-- one comment at the top level and nothing else
abbrev pub is_comment : List Block → Bool
is_comment (block ∷ []) =
    nat_le (length block.wrappers) 0
    && (is_one_comment block.lines && elim block.selector as (λ s. Bool) [ None ↦ true | Some text ↦ false ])
is_comment blocks = false

-- a group as it is written, and whether it is a comment and nothing else
pub record Group : Type 0 where
  pub text : List ℕ
  pub comment : Bool

abbrev pub group_of : List Block → Group
group_of blocks = record { text = blocks_text [] blocks; comment = is_comment blocks }

abbrev pub groups_of : Output → List Group
groups_of out = map group_of (grouped (filled (filter is_written out.blocks)))

-- Pages

-- a blank line stands between two groups, but not between two comments; nothing stands before the first group
abbrev pub gap : Option Bool → Bool → List ℕ
gap None next = []
gap (Some comment) next = if comment && next then [] else codes "\n"

-- the groups after what was written, of which is told whether its last group is a comment
abbrev pub page_after : Option Bool → List Group → List ℕ
page_after last [] = []
page_after last (group ∷ groups) = gap last group.comment ++ group.text ++ page_after (Some group.comment) groups

abbrev pub page : List Group → List ℕ
page groups = page_after None groups

abbrev pub imports_text : List (List ℕ) → List ℕ
imports_text [] = []
imports_text (text ∷ texts) = import_text text ++ imports_text texts

-- all imports are one group
abbrev pub imports_group : List (List ℕ) → List Group
imports_group [] = []
imports_group (text ∷ texts) = record { text = imports_text (text ∷ texts); comment = false } ∷ []

abbrev pub past_ascii : List ℕ → Bool
past_ascii bytes = list_any (λ b. nat_le 128 b) bytes

-- the line `@charset "UTF-8";` stands in front where a character past ASCII is written
abbrev pub charset : Bool → List ℕ
charset wide = if wide then codes "@charset \"UTF-8\";\n" else []

abbrev pub with_charset : List ℕ → List ℕ
with_charset bytes = charset (past_ascii bytes) ++ bytes

-- the imports of all, then the rest of all
abbrev pub all_groups : List Output → List Group
all_groups outputs = imports_group (flat_map (λ out. out.imports) outputs) ++ flat_map groups_of outputs

abbrev pub print : List Output → List ℕ
print outputs = with_charset (page (all_groups outputs))
