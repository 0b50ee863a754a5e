-- The joined parts of outputs are their page.
use Rattle.std.proofs.Common.{◌≡◌, Bool, true, false, if◌then◌else◌, ◌&&◌, ◌||◌, ℕ, zero, suc, ◌+◌, ◌-◌, ◌<◌, ◌≤◌, nat_lt, nat_le, List, [], ◌∷◌, ◌++◌, length, length-append, append_assoc, drop, map, codes, refl, ap, sym, ◌∙◌, arith, Option, None, Some}
use Rattle.std.specs.Prelude.{filter}
use Rattle.std.specs.List.{list_any, flat_map}
use Rattle.std.proofs.lemmas.List.Folds.{list_any-append}
use Rattle.sw_css_tree.specs.declared.block.Block.{Block}
use Rattle.sw_css_tree.specs.declared.block.Wrapper.{Wrapper}
use Rattle.sw_css_tree.specs.declared.block.Line.{Line}
use Rattle.sw_css_tree.specs.declared.block.Line.TheVariants.{Declaration, Comment, At, Import}
use Rattle.sw_css_tree.specs.Output.{Output, is_written}
use Rattle.sw_css_print.specs.declared.part.Printed.{Printed}
use Rattle.sw_css_print.specs.Page.{Group, indent, head, line_text, import_text, lines_text, empties, rule_text, body, block_text, blocks_text, around, ended, begun, shared, is_entered, filled, grouped, grouped_with, group_of, groups_of, gap, page, page_after, imports_text, imports_group, all_groups, past_ascii, charset, print}
use Rattle.sw_css_print.specs.Parts.{opens_of, shuts_of, shuts_after, print_one, rests_after, after_imports, body_joined, join}

-- What is written of a block isn't empty

is_some : (n : ℕ) → 0 < n → nat_lt 0 n ≡ true
is_some zero lt = absurd (omega arith)
is_some (suc n) lt = grind arith

longer : (xs ys : List ℕ) → 0 < length ys → 0 < length (xs ++ ys)
longer xs ys some = rw (length-append xs ys) (omega arith)

longer_front : (xs ys : List ℕ) → 0 < length xs → 0 < length (xs ++ ys)
longer_front xs ys some = rw (length-append xs ys) (omega arith)

line_shown : (line : Line) → 0 < length (line_text line)
line_shown (Declaration property value) = longer (property ++ codes ": " ++ value) (codes ";\n") (omega arith)
line_shown (Comment text) = longer text (codes "\n") (omega arith)
line_shown (At name prelude) = longer (head name prelude) (codes ";\n") (omega arith)
line_shown (Import text) = longer (codes "@import " ++ text) (codes ";\n") (omega arith)

empties_shown : (depth at : ℕ) (wrappers : List Wrapper) → at < length wrappers → 0 < length (empties depth (drop at wrappers))
empties_shown depth at [] lt = absurd (omega arith)
empties_shown depth zero (w ∷ ws) lt = longer_front (indent depth ++ head w.name w.prelude ++ codes " {}\n") (empties (suc depth) ws) (longer (indent depth ++ head w.name w.prelude) (codes " {}\n") (omega arith))
empties_shown depth (suc at) (w ∷ ws) lt = empties_shown depth at ws (omega arith)

body_shown : (statement : ℕ) (wrappers : List Wrapper) (selector : Option (List ℕ)) (lines : List Line) → is_written (record { statement = statement; wrappers = wrappers; selector = selector; lines = lines }) ≡ true
    → 0 < length (body (record { statement = statement; wrappers = wrappers; selector = selector; lines = lines }))
body_shown statement wrappers None (l ∷ ls) is = let some : nat_lt 0 (suc (length ls)) ≡ true = grind arith in rw some (longer_front (indent (length wrappers) ++ line_text l) (lines_text (length wrappers) ls) (longer (indent (length wrappers)) (line_text l) (line_shown l)))
body_shown statement wrappers (Some text) (l ∷ ls) is =
    let some : nat_lt 0 (suc (length ls)) ≡ true = grind arith in
    rw some (longer (indent (length wrappers) ++ text ++ codes " {\n" ++ lines_text (length wrappers + 1) (l ∷ ls) ++ indent (length wrappers)) (codes "}\n") (omega arith))
body_shown statement [] None [] is = absurd (grind arith)
body_shown statement (w ∷ ws) None [] is = empties_shown (length (w ∷ ws) - 1) (length (w ∷ ws) - 1) (w ∷ ws) (omega arith)
body_shown statement wrappers (Some []) [] is = absurd (grind arith)
body_shown statement wrappers (Some (c ∷ cs)) [] is = absurd (grind arith)

text_shown : (block : Block) (blocks : List Block) → is_written block ≡ true → 0 < length (blocks_text [] (block ∷ blocks))
text_shown block blocks is =
    longer_front (block_text [] block) (blocks_text (around block) blocks)
    (longer (ended (shared [] (around block)) 0 ++ begun (shared [] (around block)) (drop (shared [] (around block)) (around block))) (body block) (body_shown block.statement block.wrappers block.selector block.lines is))

-- The first group isn't empty

abbrev FirstIsWritten : List Block → Type 0
FirstIsWritten [] = Unit {0}
FirstIsWritten (block ∷ blocks) = is_written block ≡ true

abbrev AreWritten : List Block → Type 0
AreWritten [] = Unit {0}
AreWritten (block ∷ blocks) = (is_written block ≡ true) × AreWritten blocks

kept_written : (block : Block) (blocks : List Block) (written : Bool) → is_written block ≡ written → AreWritten blocks → AreWritten (if written then block ∷ blocks else blocks)
kept_written block blocks true is all = (is, all)
kept_written block blocks false is all = all

filter_written : (blocks : List Block) → AreWritten (filter is_written blocks)
filter_written [] = tt
filter_written (block ∷ blocks) = kept_written block (filter is_written blocks) (is_written block) refl (filter_written blocks)

either_first : (block : Block) (blocks : List Block) (left : Bool) → is_written block ≡ true → FirstIsWritten blocks → FirstIsWritten (if left then blocks else block ∷ blocks)
either_first block blocks true is first = first
either_first block blocks false is first = is

filled_first : (blocks : List Block) → AreWritten blocks → FirstIsWritten (filled blocks)
filled_first [] all = tt
filled_first (block ∷ blocks) all = either_first block (filled blocks) _ all.0 (filled_first blocks all.1)

abbrev FirstIsShown : List Group → Type 0
FirstIsShown [] = Unit {0}
FirstIsShown (group ∷ groups) = 0 < length group.text

same_group : (block next : Block) (group : List Block) (groups : List (List Block)) (same : Bool) → is_written block ≡ true
    → FirstIsShown (map group_of (if same then (block ∷ next ∷ group) ∷ groups else (block ∷ []) ∷ (next ∷ group) ∷ groups))
same_group block next group groups true is = text_shown block (next ∷ group) is
same_group block next group groups false is = text_shown block [] is

with_shown : (block : Block) (groups : List (List Block)) → is_written block ≡ true → FirstIsShown (map group_of (grouped_with block groups))
with_shown block [] is = text_shown block [] is
with_shown block ([] ∷ groups) is = text_shown block [] is
with_shown block ((next ∷ group) ∷ groups) is = same_group block next group groups _ is

grouped_shown : (blocks : List Block) → FirstIsWritten blocks → FirstIsShown (map group_of (grouped blocks))
grouped_shown [] first = tt
grouped_shown (block ∷ blocks) first = with_shown block (grouped blocks) first

groups_shown : (out : Output) → FirstIsShown (groups_of out)
groups_shown out = grouped_shown (filled (filter is_written out.blocks)) (filled_first (filter is_written out.blocks) (filter_written out.blocks))

-- The rest of each output, one after another

page_append : (comment : Bool) (xs ys : List Group) → page_after (Some comment) (xs ++ ys) ≡ page_after (Some comment) xs ++ page_after (Some (shuts_after comment xs)) ys
page_append comment [] ys = refl
page_append comment (x ∷ xs) ys = rw (page_append x.comment xs ys) (sym (append_assoc (gap (Some comment) x.comment ++ x.text) (page_after (Some x.comment) xs) (page_after (Some (shuts_after x.comment xs)) ys)))

regroup : (a b c d : List ℕ) → (a ++ (b ++ c)) ++ d ≡ (a ++ b) ++ (c ++ d)
regroup a b c d = simp append_assoc

rest_put : (last : Option Bool) (groups others : List Group) (parts : List Printed) → FirstIsShown groups → ((l : Option Bool) → rests_after l parts ≡ page_after l others)
    → (if nat_lt 0 (length (page groups)) then gap last (opens_of groups) ++ page groups ++ rests_after (Some (shuts_of groups)) parts else rests_after last parts) ≡ page_after last (groups ++ others)
rest_put last [] others parts shown same = same last
rest_put last (g ∷ gs) others parts shown same =
    let some : nat_lt 0 (length (g.text ++ page_after (Some g.comment) gs)) ≡ true = is_some _ (longer_front g.text (page_after (Some g.comment) gs) shown) in
    rw (some, same (Some (shuts_after g.comment gs)), page_append g.comment gs others) (regroup (gap last g.comment) g.text (page_after (Some g.comment) gs) (page_after (Some (shuts_after g.comment gs)) others))

rests : (outs : List Output) (last : Option Bool) → rests_after last (map print_one outs) ≡ page_after last (flat_map groups_of outs)
rests [] last = refl
rests (out ∷ outs) last = rest_put last (groups_of out) (flat_map groups_of outs) (map print_one outs) (groups_shown out) (rests outs)

-- The imports of all

imports_append : (xs ys : List (List ℕ)) → imports_text (xs ++ ys) ≡ imports_text xs ++ imports_text ys
imports_append [] ys = refl
imports_append (x ∷ xs) ys = rw (imports_append xs ys) (sym (append_assoc (import_text x) (imports_text xs) (imports_text ys)))

imports : (outs : List Output) → flat_map (λ part. part.imports) (map print_one outs) ≡ imports_text (flat_map (λ out. out.imports) outs)
imports [] = refl
imports (out ∷ outs) = rw (imports outs) (sym (imports_append out.imports (flat_map (λ o. o.imports) outs)))

body_put : (texts : List (List ℕ)) (groups : List Group) (parts : List Printed) → ((l : Option Bool) → rests_after l parts ≡ page_after l groups)
    → imports_text texts ++ rests_after (after_imports (length (imports_text texts))) parts ≡ page (imports_group texts ++ groups)
body_put [] groups parts same = same None
body_put (t ∷ ts) groups parts same =
    let some : nat_lt 0 (length (imports_text (t ∷ ts))) ≡ true = is_some (length (imports_text (t ∷ ts))) (longer_front (import_text t) (imports_text ts) (longer (codes "@import " ++ t) (codes ";\n") (omega arith))) in
    rw some (ap (λ z. imports_text (t ∷ ts) ++ z) (same (Some false)))

bodies : (outs : List Output) → body_joined (map print_one outs) ≡ page (all_groups outs)
bodies outs = rw (imports outs) (body_put (flat_map (λ out. out.imports) outs) (flat_map groups_of outs) (map print_one outs) (rests outs))

-- Characters past ASCII

abbrev groups_wide : List Group → Bool
groups_wide groups = list_any (λ group. past_ascii group.text) groups

gap_narrow : (last : Option Bool) (next : Bool) → past_ascii (gap last next) ≡ false
gap_narrow None next = refl
gap_narrow (Some true) true = refl
gap_narrow (Some true) false = refl
gap_narrow (Some false) next = refl

past_append : (xs ys : List ℕ) → past_ascii (xs ++ ys) ≡ (past_ascii xs || past_ascii ys)
past_append xs ys = list_any-append (λ b. nat_le 128 b) xs ys

page_wide : (last : Option Bool) (groups : List Group) → past_ascii (page_after last groups) ≡ groups_wide groups
page_wide last [] = refl
page_wide last (g ∷ gs) =
    rw (past_append (gap last g.comment ++ g.text) (page_after (Some g.comment) gs), past_append (gap last g.comment) g.text, gap_narrow last g.comment, page_wide (Some g.comment) gs) refl

shuffled : (a b c d : Bool) → ((a || b) || (c || d)) ≡ ((a || c) || (b || d))
shuffled true b c d = refl
shuffled false true true d = refl
shuffled false true false d = refl
shuffled false false c d = refl

parts_wide : (outs : List Output) → list_any (λ part. part.wide) (map print_one outs) ≡ (past_ascii (imports_text (flat_map (λ out. out.imports) outs)) || groups_wide (flat_map groups_of outs))
parts_wide [] = refl
parts_wide (out ∷ outs) =
    rw (parts_wide outs, page_wide None (groups_of out), imports_append out.imports (flat_map (λ o. o.imports) outs), past_append (imports_text out.imports) (imports_text (flat_map (λ o. o.imports) outs)), list_any-append (λ group. past_ascii group.text) (groups_of out) (flat_map groups_of outs))
    (shuffled (past_ascii (imports_text out.imports)) (groups_wide (groups_of out)) (past_ascii (imports_text (flat_map (λ o. o.imports) outs))) (groups_wide (flat_map groups_of outs)))

group_wide : (texts : List (List ℕ)) (groups : List Group) → groups_wide (imports_group texts ++ groups) ≡ (past_ascii (imports_text texts) || groups_wide groups)
group_wide [] groups = refl
group_wide (t ∷ ts) groups = refl

wide : (outs : List Output) → list_any (λ part. part.wide) (map print_one outs) ≡ past_ascii (page (all_groups outs))
wide outs = parts_wide outs ∙ sym (page_wide None (all_groups outs) ∙ group_wide (flat_map (λ out. out.imports) outs) (flat_map groups_of outs))

pub joins : (outs : List Output) → join (map print_one outs) ≡ print outs
joins outs = rw (wide outs, bodies outs) refl
