-- The blocks that a line opens or ends, where each is two columns deeper than the one around it.
use Rattle.std.proofs.Common.{◌≡◌, ℕ, zero, suc, ◌-◌, ◌*◌, ◌<◌, ◌≤◌, Bool, true, false, not, List, [], ◌∷◌, ◌++◌, length, take, Option, Some, None, refl, sym, ◌∙◌, ap, arith, length-append}
use Rattle.std.specs.Prelude.{◌==◌, nat_lt, slice_get, unwrap_or}
use Rattle.std.proofs.Math.Seq.{get_or-append_seam, take-append_seam}
use Rattle.std.proofs.lemmas.Bool.Decides.{nat_tests}
use Rattle.std.proofs.lemmas.Option.{slice_get-get_or}
use Rattle.sw_text_scan.proofs.Bounds.{if_true, if_false}
use Rattle.sw_tokens.specs.declared.token.Token.{Token}
use Rattle.sw_tokens.specs.declared.token.TokenKind.TheVariants as kinds
use Rattle.sw_parse_layout.specs.declared.blocks.Blocks.{Blocks}
use Rattle.sw_parse_layout.specs.declared.blocks.Entry.{Entry}
use Rattle.sw_parse_layout.specs.declared.blocks.Indent.{Indent}
use Rattle.sw_parse_layout.specs.declared.blocks.Shut.{Shut}
use Rattle.sw_parse_layout.specs.Laid.{sign_at}
use Rattle.sw_parse_layout.specs.Blocks.{top_depth, behind_brace, shut_from, shut_blocks, entered}
use Rattle.sw_convert_laid.specs.Rows.{margin}

-- the depths of so many blocks in each other
abbrev pub depths_of : ℕ → List ℕ
depths_of zero = []
depths_of (suc level) = depths_of level ++ 2 * suc level ∷ []

pub margin_length : (level : ℕ) → length (margin level) ≡ 2 * level
margin_length zero = refl
margin_length (suc level) = let e = margin_length level in omega (arith, e)

last_of : (xs : List ℕ) (x : ℕ) → length (xs ++ x ∷ []) - 1 ≡ length xs
last_of xs x = let e = length-append xs (x ∷ []) in omega (arith, e)

pub top_of : (level : ℕ) → top_depth (depths_of level) ≡ 2 * level
unfolding top_depth
top_of zero = refl
top_of (suc level) =
    let xs = depths_of level in
    let x = 2 * suc level in
    ap (λ (o : Option ℕ). unwrap_or o 0)
    (ap (slice_get (xs ++ x ∷ [])) (last_of xs x)
    ∙ slice_get-get_or (xs ++ x ∷ []) (length xs) x (let e = length-append xs (x ∷ []) in omega (arith, e))
    ∙ ap Some (get_or-append_seam xs x [] x))

less_one : (level : ℕ) → take (length (depths_of (suc level)) - 1) (depths_of (suc level)) ≡ depths_of level
less_one level =
    ap (λ (n : ℕ). take n (depths_of (suc level))) (last_of (depths_of level) (2 * suc level))
    ∙ take-append_seam (depths_of level) (2 * suc level ∷ [])

-- the ends of so many blocks, at a place
abbrev pub braces : ℕ → ℕ → List Token
braces end zero = []
braces end (suc count) = sign_at kinds.CloseBrace end ∷ braces end count

abbrev shut_to : ℕ → ℕ → ℕ → Shut
shut_to end count level = record { tokens = braces end count; depths = depths_of level }

shut_levels : (outer n end level : ℕ) → level ≤ outer → length (depths_of outer) ≤ n
    → shut_from n end (2 * level) (depths_of outer) ≡ shut_to end (outer - level) level
shut_levels zero zero end level l enough =
    ap (λ (k : ℕ). shut_to end (0 - k) k) (let e : 0 ≡ level = omega (arith, l) in e)
shut_levels zero (suc n) end level l enough =
    if_false (nat_lt (2 * level) (top_depth [])) _ _ (stay (2 * level) (top_depth []) (top_of 0))
    ∙ ap (λ (k : ℕ). shut_to end (0 - k) k) (let e : 0 ≡ level = omega (arith, l) in e)
  where
    stay : (a b : ℕ) → b ≡ 2 * 0 → nat_lt a b ≡ false
    stay a b e = grind (arith, nat_tests)
shut_levels (suc outer) zero end level l enough =
    absurd (let e = length-append (depths_of outer) (2 * suc outer ∷ []) in omega (arith, e, enough))
shut_levels (suc outer) (suc n) end level l enough =
    go (nat_lt (2 * level) (top_depth (depths_of (suc outer)))) refl
    (λ deeper. shut_levels outer n end level deeper (let e = length-append (depths_of outer) (2 * suc outer ∷ []) in omega (arith, e, enough)))
  where
    go : (t : Bool) → nat_lt (2 * level) (top_depth (depths_of (suc outer))) ≡ t
        → (level ≤ outer → shut_from n end (2 * level) (depths_of outer) ≡ shut_to end (outer - level) level)
        → shut_from (suc n) end (2 * level) (depths_of (suc outer)) ≡ shut_to end (suc outer - level) level
    go true t others =
        let deeper : level ≤ outer = less (top_depth (depths_of (suc outer))) (top_of (suc outer)) t in
        if_true (nat_lt (2 * level) (top_depth (depths_of (suc outer)))) _ _ t
        ∙ ap (λ (xs : List ℕ). behind_brace end (shut_from n end (2 * level) xs)) (less_one outer)
        ∙ ap (behind_brace end) (others deeper)
        ∙ ap (λ (k : ℕ). shut_to end k level) (let e : suc (outer - level) ≡ suc outer - level = omega (arith, deeper) in e)
      where
        less : (b : ℕ) → b ≡ 2 * suc outer → nat_lt (2 * level) b ≡ true → level ≤ outer
        less b e t = let lt : 2 * level < b = grind (arith, nat_tests) in omega (arith, e, lt)
    go false t others =
        let same : level ≡ suc outer = more (top_depth (depths_of (suc outer))) (top_of (suc outer)) t in
        if_false (nat_lt (2 * level) (top_depth (depths_of (suc outer)))) _ _ t
        ∙ ap (λ (k : ℕ). shut_to end 0 k) (sym same)
        ∙ ap (λ (k : ℕ). shut_to end k level) (let e : 0 ≡ suc outer - level = omega (arith, same) in e)
      where
        more : (b : ℕ) → b ≡ 2 * suc outer → nat_lt (2 * level) b ≡ false → level ≡ suc outer
        more b e t = let ge : b ≤ 2 * level = grind (arith, nat_tests) in omega (arith, e, ge, l)

pub shut_is : (outer end level : ℕ) → level ≤ outer
    → shut_blocks end (2 * level) (depths_of outer) ≡ shut_to end (outer - level) level
unfolding shut_blocks
shut_is outer end level l = shut_levels outer (length (depths_of outer)) end level l (omega arith)

-- ---- a line behind another one

-- so many blocks are outer, and a statement isn't ended
abbrev pub blocks_of : ℕ → Option Indent → Blocks
blocks_of level indent = record { depths = depths_of level; indent = indent; first = false; due = true }

-- no line yet
abbrev pub no_blocks : Blocks
no_blocks = record { depths = []; indent = None; first = true; due = false }

abbrev entry_of : List Token → ℕ → Entry
entry_of tokens level = record { tokens = tokens; depths = depths_of level; wrong = false }

pub first_line : (end at : ℕ) → entered no_blocks end (2 * 0) at ≡ entry_of [] 0
unfolding entered
first_line end at = refl

pub deeper_line : (outer level end at : ℕ) (indent : Option Indent) → level ≡ suc outer
    → entered (blocks_of outer indent) end (2 * level) at ≡ entry_of (sign_at kinds.OpenBrace at ∷ []) level
unfolding entered
deeper_line outer level end at indent e =
    if_true (nat_lt (top_depth (depths_of outer)) (2 * level)) _ _ (less (top_depth (depths_of outer)) (top_of outer))
    ∙ ap (λ (k : ℕ). let x : Entry = record { tokens = sign_at kinds.OpenBrace at ∷ []; depths = depths_of outer ++ 2 * k ∷ []; wrong = false } in x) e
    ∙ ap (λ (k : ℕ). entry_of (sign_at kinds.OpenBrace at ∷ []) k) (sym e)
  where
    less : (b : ℕ) → b ≡ 2 * outer → nat_lt b (2 * level) ≡ true
    less b f = let lt : b < 2 * level = omega (arith, e, f) in grind (arith, nat_tests)

pub same_line : (outer level end at : ℕ) (indent : Option Indent) → level ≤ outer
    → entered (blocks_of outer indent) end (2 * level) at
    ≡ entry_of (sign_at kinds.Semicolon end ∷ braces end (outer - level)) level
unfolding entered
same_line outer level end at indent l =
    if_false (nat_lt (top_depth (depths_of outer)) (2 * level)) _ _ (not_less (top_depth (depths_of outer)) (top_of outer))
    ∙ ap (λ (s : Shut). let x : Entry = record { tokens = sign_at kinds.Semicolon end ∷ s.tokens; depths = s.depths; wrong = not (top_depth s.depths == 2 * level) } in x) (shut_is outer end level l)
    ∙ ap (λ (t : Bool). let x : Entry = record { tokens = sign_at kinds.Semicolon end ∷ braces end (outer - level); depths = depths_of level; wrong = not t } in x) (right (top_depth (depths_of level)) (top_of level))
  where
    not_less : (b : ℕ) → b ≡ 2 * outer → nat_lt b (2 * level) ≡ false
    not_less b f = let ge : 2 * level ≤ b = omega (arith, l, f) in grind (arith, nat_tests)

    right : (b : ℕ) → b ≡ 2 * level → (b == 2 * level) ≡ true
    right b f = grind (arith, nat_tests)
