-- The last block that is written, as blocks and lines are added.
use Rattle.std.proofs.Common.{◌≡◌, Bool, true, false, if◌then◌else◌, ℕ, zero, suc, ◌+◌, ◌<◌, ◌≤◌, nat_lt, List, [], ◌∷◌, ◌++◌, length, get_or, slice_set, refl, ap, arith, ◌&&◌, ◌||◌, Option, None, Some}
use Rattle.sw_css_tree.specs.declared.block.Block.{Block}
use Rattle.sw_css_tree.specs.declared.block.Line.{Line}
use Rattle.sw_css_tree.specs.Output.{line_added, is_written, written_end}

pub length-line_added : (blocks : List Block) (at : ℕ) (line : Line) → length (line_added blocks at line) ≡ length blocks
length-line_added [] at line = refl
length-line_added (b ∷ bs) zero line = refl
length-line_added (b ∷ bs) (suc at) line = ap (λ n. suc n) (length-line_added bs at line)

-- the block with its new lines in its place
pub line_added-set : (blocks : List Block) (at : ℕ) (block : Block) (lines : List Line) (line : Line) → at < length blocks → block ≡ get_or blocks at block → lines ≡ block.lines ++ line ∷ []
    → slice_set blocks at (record block { lines = lines }) ≡ line_added blocks at line
line_added-set [] at block lines line lt is new = absurd (omega arith)
line_added-set (b ∷ bs) zero block lines line lt is new = rw (new, is) refl
line_added-set (b ∷ bs) (suc at) block lines line lt is new = ap (λ l. b ∷ l) (line_added-set bs at block lines line (omega arith) is new)

pub end-put : (blocks : List Block) (block : Block) (written : Bool) → is_written block ≡ written → written_end (blocks ++ block ∷ []) ≡ (if written then length blocks + 1 else written_end blocks)
end-put [] block true is = rw is refl
end-put [] block false is = rw is refl
end-put (b ∷ bs) block true is = rw (end-put bs block true is) (grind arith)
end-put (b ∷ bs) block false is = rw (end-put bs block false is) refl

pub end-within : (blocks : List Block) → written_end blocks ≤ length blocks
end-within [] = grind arith
end-within (b ∷ bs) = let h : written_end bs ≤ length bs = end-within bs in grind arith

abbrev shows : Option (List ℕ) → Bool → Bool → Bool
shows selector some inside = elim selector as (λ s. Bool) [ None ↦ some || inside | Some text ↦ nat_lt 0 (length text) && some ]

more : (selector : Option (List ℕ)) (some inside : Bool) → shows selector true inside ≡ false → shows selector some inside ≡ false
more None some inside not = absurd (grind arith)
more (Some text) false inside not = grind arith
more (Some text) true inside not = not

some-more : (lines : List Line) (line : Line) → nat_lt 0 (length (lines ++ line ∷ [])) ≡ true
some-more [] line = grind arith
some-more (l ∷ ls) line = grind arith

-- one that isn't written with a line more wasn't without it
unwritten : (block : Block) (line : Line) → is_written (record block { lines = block.lines ++ line ∷ [] }) ≡ false → is_written block ≡ false
unwritten block line not = more block.selector (nat_lt 0 (length block.lines)) (nat_lt 0 (length block.wrappers)) (rw (← some-more block.lines line) not)

written-now : (b : Block) (line : Line) (block : Block) (written : Bool) → block ≡ record b { lines = b.lines ++ line ∷ [] } → is_written block ≡ written → is_written (record b { lines = b.lines ++ line ∷ [] }) ≡ written
written-now b line block written is w = let h : is_written block ≡ is_written (record b { lines = b.lines ++ line ∷ [] }) = ap is_written is in cc

tail : (end n : ℕ) (written : Bool) → (if nat_lt 0 end then suc end else (if written then 1 else 0)) ≤ suc n → end ≤ n
tail zero n written le = omega arith
tail (suc end) n written le = grind arith

-- a line in a block after which none is written
pub end-line : (blocks : List Block) (at : ℕ) (line : Line) (block : Block) (written : Bool) → at < length blocks → written_end blocks ≤ suc at
    → block ≡ get_or (line_added blocks at line) at block → is_written block ≡ written → written_end (line_added blocks at line) ≡ (if written then at + 1 else written_end blocks)
end-line [] at line block written lt le is w = absurd (omega arith)
end-line (b ∷ bs) zero line block true lt le is w = rw (written-now b line block true is w) (grind arith)
end-line (b ∷ bs) zero line block false lt le is w = rw (written-now b line block false is w, unwritten b line (written-now b line block false is w)) refl
end-line (b ∷ bs) (suc at) line block true lt le is w = rw (end-line bs at line block true (omega arith) (tail (written_end bs) (suc at) (is_written b) le) is w) (grind arith)
end-line (b ∷ bs) (suc at) line block false lt le is w = rw (end-line bs at line block false (omega arith) (tail (written_end bs) (suc at) (is_written b) le) is w) refl
