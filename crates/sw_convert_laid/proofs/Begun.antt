-- The walk comes to the text of a line, and over its end.
use Rattle.std.proofs.Common.{◌≡◌, ℕ, zero, suc, ◌+◌, ◌-◌, ◌*◌, ◌<◌, ◌≤◌, Bool, true, false, not, ◌&&◌, ◌||◌, if◌then◌else◌, List, [], ◌∷◌, ◌++◌, length, Option, Some, None, Ok, refl, sym, ◌∙◌, ap, subst, arith}
use Rattle.std.specs.Prelude.{◌==◌, nat_lt, codes}
use Rattle.std.specs.List.{list_all}
use Rattle.std.proofs.lemmas.Bool.Decides.{nat_tests}
use Rattle.sw_text_scan.specs.declared.signs.TheConstants.{END, SPACE}
use Rattle.sw_text_scan.specs.declared.runs.Class.TheVariants as classes
use Rattle.sw_text_scan.specs.Bytes.{byte, is_break, is_white, begins_silent, begins_loud}
use Rattle.sw_text_scan.specs.Runs.{next, run_end}
use Rattle.sw_text_scan.proofs.Bounds.{if_true, if_false, run_stop, run_forward}
use Rattle.sw_tokens.specs.declared.pieces.Before.{Before}
use Rattle.sw_tokens.specs.declared.pieces.Before.TheVariants as befores
use Rattle.sw_tokens.specs.declared.skips.Inside.TheVariants as insides
use Rattle.sw_tokens.specs.Pieces.{made, piece}
use Rattle.sw_tokens.proofs.Cuts.{IsText, byte_is}
use Rattle.sw_parse_layout.specs.declared.blocks.Blocks.{Blocks}
use Rattle.sw_parse_layout.specs.declared.blocks.Entry.{Entry}
use Rattle.sw_parse_layout.specs.declared.blocks.Indent.{Indent}
use Rattle.sw_parse_layout.specs.declared.blocks.Indent.TheVariants as indents
use Rattle.sw_parse_layout.specs.declared.sorts.Sort.{Sort}
use Rattle.sw_parse_layout.specs.declared.sorts.Sort.TheVariants as sorts
use Rattle.sw_parse_layout.specs.declared.state.Mode.TheVariants as modes
use Rattle.sw_parse_layout.specs.declared.state.State.{State}
use Rattle.sw_parse_layout.specs.Laid.{refused_at}
use Rattle.sw_parse_layout.specs.Lines.{is_blank}
use Rattle.sw_parse_layout.specs.Blocks.{indent_at, class_of, is_mixed, indent_after, entered, line_laid, line_blocks}
use Rattle.sw_parse_layout.specs.Pieces.{moved, line_over}
use Rattle.sw_parse_layout.specs.Steps.{is_comma, statement_step, statement_begun, text_step, step}
use Rattle.sw_convert_spelling.specs.Spelt.{Spelt, IsToken}
use Rattle.sw_convert_spelling.proofs.Choices.{neither}
use Rattle.sw_convert_laid.specs.Heads.{is_comment, opens_comment}
use Rattle.sw_convert_laid.specs.Rows.{margin, blank_line}
use Rattle.sw_convert_laid.proofs.Going.{Goes, stays, stepped, to_same, lays_same}
use Rattle.sw_convert_laid.proofs.Behind.{run_over, Behind, byte_first, byte_here, within, run_there, piece_there, onward}
use Rattle.sw_convert_laid.proofs.Depths.{margin_length}
use Rattle.sw_convert_laid.proofs.Steps.{in_line}
use Rattle.sw_convert_laid.proofs.Taken.{no_white, no_break, no_silent, no_loud}

-- the walk stands at the beginning of a line
abbrev pub between : ℕ → ℕ → Sort → Blocks → State
between at end sort blocks = record {
  at = at;
  mode = modes.Between;
  line = record { opened = []; before = befores.White; brackets = []; sort = sort; end = end; comments = [] };
  blocks = blocks;
}

-- lines are indented with spaces, if one is
abbrev pub is_spaces : Option Indent → Bool
is_spaces None = true
is_spaces (Some indents.Spaces) = true
is_spaces (Some indents.Tabs) = false

is_space : ℕ → Bool
is_space b = b == SPACE

margin_blank : (level : ℕ) → list_all is_blank (margin level) ≡ true
margin_blank zero = refl
margin_blank (suc level) = margin_blank level

margin_spaces : (level : ℕ) → list_all (λ (b : ℕ). b == SPACE) (margin level) ≡ true
margin_spaces zero = refl
margin_spaces (suc level) = margin_spaces level

black_no_blank : (b : ℕ) → is_white b ≡ false → is_blank b ≡ false
black_no_blank b e = grind (arith, nat_tests)

black_no_space : (b : ℕ) → is_white b ≡ false → (b == SPACE) ≡ false
black_no_space b e = grind (arith, nat_tests)

not_less : (a b : ℕ) → b ≤ a → nat_lt a b ≡ false
not_less a b l = grind (arith, nat_tests)

module _ (bs : List ℕ) where
  -- a blank line
  blank_step : (at end : ℕ) (sort : Sort) (blocks : Blocks) (rest : List ℕ) → Behind bs at (codes "\n" ++ rest)
      → step bs (between at end sort blocks) ≡ Ok (moved (between at end sort blocks) (at + 1))
  unfolding step text_step
  blank_step at end sort blocks rest b =
      let e : byte bs at ≡ 10 = byte_here bs b in
      ap (text_step bs (between at end sort blocks))
      (run_stop bs classes.Blank at
      (let n : next classes.Blank bs at ≡ at = if_false (is_blank (byte bs at)) (at + 1) at (ap is_blank e) in omega (arith, n)))
      ∙ if_false (byte bs at == END) _ _ (ap (λ (x : ℕ). x == END) e)
      ∙ if_true (is_break (byte bs at)) _ _ (ap is_break e)

  pub blank_goes : (blank : Bool) {at : ℕ} (end : ℕ) (sort : Sort) (blocks : Blocks) (rest : List ℕ)
      → Behind bs at (blank_line blank ++ rest)
      → Goes bs (between at end sort blocks) [] (between (at + length (blank_line blank)) end sort blocks)
  blank_goes false {at} end sort blocks rest b =
      to_same bs (stays bs (between at end sort blocks))
      (ap (λ (k : ℕ). between k end sort blocks) (let e : at ≡ at + 0 = omega arith in e))
  blank_goes true {at} end sort blocks rest b =
      stepped bs (between at end sort blocks) (moved (between at end sort blocks) (at + 1))
      (within bs b (let z : 0 < length (10 ∷ rest) = omega arith in z)) (blank_step at end sort blocks rest b) refl

  -- the end of a line
  pub break_goes : {at : ℕ} (depth : ℕ) (before : Before) (sort : Sort) (end : ℕ) (blocks : Blocks) (rest : List ℕ)
      → is_comma sort ≡ false → Behind bs at (codes "\n" ++ rest)
      → Goes bs (in_line at depth [] before [] sort end [] blocks) [] (between (at + 1) end sort blocks)
  unfolding step statement_step
  break_goes {at} depth before sort end blocks rest plain b =
      let s = in_line at depth [] before [] sort end [] blocks in
      stepped bs s (line_over s) (within bs b (let z : 0 < length (10 ∷ rest) = omega arith in z))
      (if_true (is_break (byte bs at)) _ _ (ap is_break (byte_here bs b))
      ∙ ap Ok (if_true (true && not (is_comma sort)) _ _ (ap not plain))) refl

  -- ---- the text of a line

  module _ (text : IsText bs) (level : ℕ) {at : ℕ} (spelt : Spelt) (after : List ℕ)
      (b : Behind bs at (margin level ++ (spelt.bytes ++ after))) (some : 0 < length spelt.bytes)
      (is : IsToken insides.Sheet befores.White spelt after)
      (silent : (is_comment spelt.kind || opens_comment spelt.kind) ≡ false) where
    abbrev to : ℕ
    to = at + length (margin level)

    here : Behind bs to (spelt.bytes ++ after)
    here = onward bs (margin level) b

    long : 0 < length (spelt.bytes ++ after)
    long = go spelt.bytes some
      where
        go : (xs : List ℕ) → 0 < length xs → 0 < length (xs ++ after)
        go [] l = absurd (omega (arith, l))
        go (x ∷ xs) l = omega arith

    starts : to < length bs
    starts = within bs here long

    is_piece : piece bs insides.Sheet befores.White to ≡ made spelt.kind (to + length spelt.bytes) spelt.change
    is_piece = piece_there bs here insides.Sheet befores.White _ is

    black : is_white (byte bs to) ≡ false
    black = no_white bs befores.White to (to + length spelt.bytes) spelt.kind spelt.change is_piece

    first_black : is_white (byte (spelt.bytes ++ after) 0) ≡ false
    first_black = ap is_white (sym (byte_first bs here)) ∙ black

    blanks : run_end classes.Blank bs at ≡ to
    blanks =
        run_there bs b classes.Blank
        ∙ ap (λ (n : ℕ). at + n)
        (run_over classes.Blank is_blank (λ xs i. refl) (margin level) (spelt.bytes ++ after) (margin_blank level)
        (black_no_blank (byte (spelt.bytes ++ after) 0) first_black))

    spaces : run_end classes.Space bs at ≡ to
    spaces =
        run_there bs b classes.Space
        ∙ ap (λ (n : ℕ). at + n)
        (run_over classes.Space (λ (x : ℕ). x == SPACE) (λ xs i. refl) (margin level) (spelt.bytes ++ after) (margin_spaces level)
        (black_no_space (byte (spelt.bytes ++ after) 0) first_black))

    no_end : (byte bs to == END) ≡ false
    no_end = go (byte bs to) (let e = byte_is bs to starts in let l = text.small to in omega (arith, e, l))
      where
        go : (x : ℕ) → x < END → (x == END) ≡ false
        go x l = grind (arith, nat_tests)

    begun_step : (end : ℕ) (sort : Sort) (blocks : Blocks)
        → step bs (between at end sort blocks) ≡ Ok (statement_begun bs (between at end sort blocks) to)
    unfolding step text_step
    begun_step end sort blocks =
        let to_end = to + length spelt.bytes in
        ap (text_step bs (between at end sort blocks)) blanks
        ∙ if_false (byte bs to == END) _ _ no_end
        ∙ if_false (is_break (byte bs to)) _ _ (no_break bs befores.White to to_end spelt.kind spelt.change is_piece)
        ∙ if_false (begins_silent bs to) _ _ (no_silent bs befores.White to to_end spelt.kind spelt.change is_piece)
        ∙ if_false (begins_loud bs to) _ _ (no_loud bs befores.White to to_end spelt.kind spelt.change is_piece silent)

    -- it is indented as the sheet is
    unmixed : (indent : Option Indent) → is_spaces indent ≡ true → is_mixed bs indent at to ≡ false
    unfolding is_mixed
    unmixed indent i = by_level level refl
      where
        by_level : (n : ℕ) → n ≡ level → nat_lt (run_end (class_of (indent_at indent (byte bs at))) bs at) to ≡ false
        by_level zero e =
            let l = margin_length level in
            let f = run_forward bs (class_of (indent_at indent (byte bs at))) at in
            not_less (run_end (class_of (indent_at indent (byte bs at))) bs at) to (omega (arith, e, f, l))
        by_level (suc n) e =
            ap (λ (x : Indent). nat_lt (run_end (class_of x) bs at) to) (spaced indent i)
            ∙ not_less (run_end classes.Space bs at) to (let f = spaces in omega (arith, f))
          where
            first_space : byte bs at ≡ SPACE
            first_space = byte_here bs (subst (λ (k : ℕ). Behind bs at (margin k ++ (spelt.bytes ++ after))) (sym e) b)

            spaced : (x : Option Indent) → is_spaces x ≡ true → indent_at x (byte bs at) ≡ indents.Spaces
            spaced None j = ap (indent_at None) first_space
            spaced (Some indents.Spaces) j = refl
            spaced (Some indents.Tabs) j = absurd (cc)

    pub still_spaces : (indent : Option Indent) → is_spaces indent ≡ true → is_spaces (indent_after bs indent at to) ≡ true
    unfolding indent_after
    still_spaces indent i = go (at == to) refl
      where
        go : (t : Bool) → (at == to) ≡ t → is_spaces (if t then indent else Some (indent_at indent (byte bs at))) ≡ true
        go true e = i
        go false e = by_level level refl
          where
            by_level : (n : ℕ) → n ≡ level → is_spaces (Some (indent_at indent (byte bs at))) ≡ true
            by_level zero f =
                absurd (let l = margin_length level in let g : at ≡ to = omega (arith, f, l) in wrong at to g e)
              where
                wrong : (x y : ℕ) → x ≡ y → (x == y) ≡ false → ⊥
                wrong x y g h = grind (arith, nat_tests)
            by_level (suc n) f = spaced indent i
              where
                first_space : byte bs at ≡ SPACE
                first_space = byte_here bs (subst (λ (k : ℕ). Behind bs at (margin k ++ (spelt.bytes ++ after))) (sym f) b)

                spaced : (x : Option Indent) → is_spaces x ≡ true → is_spaces (Some (indent_at x (byte bs at))) ≡ true
                spaced None j = ap (λ (y : ℕ). is_spaces (Some (indent_at None y))) first_space
                spaced (Some indents.Spaces) j = refl
                spaced (Some indents.Tabs) j = absurd (cc)

    -- the line brings its signs
    pub begun_goes : (end : ℕ) (sort : Sort) (blocks : Blocks) (entry : Entry) → is_spaces blocks.indent ≡ true
        → entered blocks end (2 * level) to ≡ entry → entry.wrong ≡ false
        → Goes bs (between at end sort blocks) entry.tokens
        (in_line to (to - at) [] befores.White [] sorts.Fresh to []
        (record { depths = entry.depths; indent = indent_after bs blocks.indent at to; first = false; due = true }))
    unfolding line_laid line_blocks
    begun_goes end sort blocks entry i e right =
        let l = margin_length level in
        let depth : to - at ≡ 2 * level = omega (arith, l) in
        let entry_is : entered blocks end (to - at) to ≡ entry = ap (λ (d : ℕ). entered blocks end d to) depth ∙ e in
        to_same bs
        (lays_same bs (ap (λ (x : Entry). x.tokens) entry_is)
        (stepped bs (between at end sort blocks) (statement_begun bs (between at end sort blocks) to)
        (let f = starts in omega (arith, f)) (begun_step end sort blocks)
        (ap (λ (t : Bool). refused_at t to)
        (neither (entered blocks end (to - at) to).wrong (is_mixed bs blocks.indent at to)
        (ap (λ (x : Entry). x.wrong) entry_is ∙ right) (unmixed blocks.indent i)))))
        (ap (λ (x : Entry). in_line to (to - at) [] befores.White [] sorts.Fresh to [] (record { depths = x.depths; indent = indent_after bs blocks.indent at to; first = false; due = true })) entry_is)
