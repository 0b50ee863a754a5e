-- The first group of some blocks.
use Rattle.std.proofs.Common.{◌≡◌, Bool, true, false, if◌then◌else◌, ◌==◌, ℕ, zero, suc, ◌+◌, ◌-◌, ◌<◌, ◌≤◌, List, [], ◌∷◌, ◌++◌, length, take, drop, map, refl, ap, arith, Option, Some, sym, ◌∙◌, append_assoc}
use Rattle.std.proofs.lemmas.List.{take-map, drop-map, length-map, take_rest, drop-drop, length-drop}
use Rattle.sw_css_tree.specs.declared.block.Block.{Block}
use Rattle.std.specs.Option.{unwrap_or}
use Rattle.sw_css_print.specs.Page.{Group, group_of, grouped, grouped_with, run_len, group_len, is_comment, blocks_text, gap, page_after}
use Rattle.sw_css_print.specs.Parts.{shuts_after, opens_of}

pub run_past : (statement : ℕ) (blocks : List Block) → length blocks ≤ 0 → run_len statement blocks ≡ 0
run_past statement [] le = refl
run_past statement (b ∷ bs) le = absurd (omega arith)

-- the groups of one block more in front
with_next : (block next : Block) (others : List Block) (same : Bool) → (block.statement == next.statement) ≡ same → grouped (next ∷ others) ≡ (next ∷ take (run_len next.statement others) others) ∷ grouped (drop (run_len next.statement others) others)
    → grouped_with block (grouped (next ∷ others)) ≡ (block ∷ take (if same then suc (run_len block.statement others) else 0) (next ∷ others)) ∷ grouped (drop (if same then suc (run_len block.statement others) else 0) (next ∷ others))
with_next block next others true is first =
    let eq : next.statement ≡ block.statement = grind arith in
    rw (first, is) (ap (λ s. (block ∷ next ∷ take (run_len s others) others) ∷ grouped (drop (run_len s others) others)) eq)
with_next block next others false is first =
    let joined : grouped_with block ((next ∷ take (run_len next.statement others) others) ∷ grouped (drop (run_len next.statement others) others)) ≡ (block ∷ []) ∷ (next ∷ take (run_len next.statement others) others) ∷ grouped (drop (run_len next.statement others) others) = rw is refl in
    ap (λ l. grouped_with block l) first ∙ joined ∙ ap (λ l. (block ∷ []) ∷ l) (sym first)

first_run : (block : Block) (blocks : List Block) → grouped (block ∷ blocks) ≡ (block ∷ take (run_len block.statement blocks) blocks) ∷ grouped (drop (run_len block.statement blocks) blocks)
first_run block [] = refl
first_run block (next ∷ others) = with_next block next others (block.statement == next.statement) refl (first_run next others)

pub first_group : (blocks : List Block) → 0 < length blocks → grouped blocks ≡ take (group_len blocks) blocks ∷ grouped (drop (group_len blocks) blocks)
first_group [] some = absurd (omega arith)
first_group (block ∷ blocks) some = first_run block blocks

-- whether the last group is a comment, where the one before these is told
abbrev pub shuts_last : Option Bool → List Group → Bool
shuts_last last groups = shuts_after (unwrap_or last false) groups

-- the first group of blocks that are seen through references

first_seen : {A : Type 0} (see : A → Block) (blocks : List A) (len : ℕ) → 0 < length blocks → len ≡ group_len (map see blocks)
    → grouped (map see blocks) ≡ map see (take len blocks) ∷ grouped (map see (drop len blocks))
first_seen see blocks len some is =
    let longer : 0 < length (map see blocks) = rw (length-map blocks see) some in
    rw (is, ← take-map see (group_len (map see blocks)) blocks, ← drop-map see (group_len (map see blocks)) blocks) (first_group (map see blocks) longer)

pub opens_first : {A : Type 0} (see : A → Block) (blocks : List A) (len : ℕ) → 0 < length blocks → len ≡ group_len (map see blocks)
    → opens_of (map group_of (grouped (map see blocks))) ≡ is_comment (map see (take len blocks))
opens_first see blocks len some is = rw (first_seen see blocks len some is) refl

page_step : {A : Type 0} (see : A → Block) (blocks : List A) (len : ℕ) (last : Option Bool) → 0 < length blocks → len ≡ group_len (map see blocks)
    → page_after last (map group_of (grouped (map see blocks)))
    ≡ (gap last (is_comment (map see (take len blocks))) ++ blocks_text [] (map see (take len blocks))) ++ page_after (Some (is_comment (map see (take len blocks)))) (map group_of (grouped (map see (drop len blocks))))
page_step see blocks len last some is = rw (first_seen see blocks len some is) refl

shuts_step : {A : Type 0} (see : A → Block) (blocks : List A) (len : ℕ) (last : Option Bool) → 0 < length blocks → len ≡ group_len (map see blocks)
    → shuts_last last (map group_of (grouped (map see blocks))) ≡ shuts_last (Some (is_comment (map see (take len blocks)))) (map group_of (grouped (map see (drop len blocks))))
shuts_step see blocks len last some is = rw (first_seen see blocks len some is) refl

-- the blocks that are left, and those after their first group
pub rest_after : {A : Type 0} (blocks : List A) (start len : ℕ) → drop (start + len) blocks ≡ drop len (take (length blocks - start) (drop start blocks))
rest_after blocks start len = rw take_rest (sym (drop-drop len start blocks))

pub rest_some : {A : Type 0} (blocks : List A) (start : ℕ) → start < length blocks → 0 < length (take (length blocks - start) (drop start blocks))
rest_some blocks start lt = rw (take_rest, length-drop) (omega arith)

pub put_step : {A : Type 0} (see : A → Block) (rest : List A) (len : ℕ) (last : Option Bool) (out after all : List ℕ) (comment : Bool) → 0 < length rest → len ≡ group_len (map see rest)
    → comment ≡ is_comment (map see (take len rest)) → after ≡ out ++ (gap last (is_comment (map see (take len rest))) ++ blocks_text [] (map see (take len rest)))
    → out ++ page_after last (map group_of (grouped (map see rest))) ≡ all → after ++ page_after (Some comment) (map group_of (grouped (map see (drop len rest)))) ≡ all
put_step see rest len last out after all comment some is told put before =
    rw (put, told)
    (append_assoc out (gap last (is_comment (map see (take len rest))) ++ blocks_text [] (map see (take len rest))) (page_after (Some (is_comment (map see (take len rest)))) (map group_of (grouped (map see (drop len rest)))))
    ∙ ap (λ z. out ++ z) (sym (page_step see rest len last some is)) ∙ before)

pub shuts_put : {A : Type 0} (see : A → Block) (rest : List A) (len : ℕ) (last : Option Bool) (all comment : Bool) → 0 < length rest → len ≡ group_len (map see rest)
    → comment ≡ is_comment (map see (take len rest)) → shuts_last last (map group_of (grouped (map see rest))) ≡ all → shuts_last (Some comment) (map group_of (grouped (map see (drop len rest)))) ≡ all
shuts_put see rest len last all comment some is told before = rw told (sym (shuts_step see rest len last some is) ∙ before)
