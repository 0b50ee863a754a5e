-- What is written of a few outputs, by computing.
use Rattle.std.proofs.Common.{◌≡◌, ℕ, List, [], ◌∷◌, ◌++◌, codes, map, refl}
use Rattle.sw_css_tree.specs.declared.block.Line.TheVariants.{Declaration, Comment, At}
use Rattle.sw_css_tree.specs.Output.{Output, nothing, rule_opened, at_opened, bubbled, left_rules, imported, lined, closed}
use Rattle.sw_css_print.specs.Page.{print}
use Rattle.sw_css_print.specs.Parts.{print_one, join}

abbrev declared : Output → List ℕ → List ℕ → Output
declared out property value = lined out (Declaration property value)

abbrev statement : Output → ℕ → Output
statement out number = record out { statement = number }

-- .a { &:hover { x: y; } @media print { z: w; } }
row_hover_and_media : print (closed (closed (declared (bubbled (closed (declared (rule_opened (rule_opened nothing (codes ".a")) (codes ".a:hover")) (codes "x") (codes "y"))) (codes "media") (codes "print")) (codes "z") (codes "w"))) ∷ [])
    ≡ codes ".a:hover {\n  x: y;\n}\n@media print {\n  .a {\n    z: w;\n  }\n}\n"
row_hover_and_media = refl

-- @media print { @media screen { a { b: c; } } }: the inner block opens nothing
row_dropped_media : print (closed (bubbled nothing (codes "media") (codes "print")) ∷ []) ≡ []
row_dropped_media = refl

-- a, b { c, d & { e: f; } }
row_nested : print (closed (closed (declared (rule_opened (rule_opened nothing (codes "a, b")) (codes "a c, d a, b c, d b")) (codes "e") (codes "f"))) ∷ []) ≡ codes "a c, d a, b c, d b {\n  e: f;\n}\n"
row_nested = refl

abbrev one_rule : List ℕ → Output
one_rule selector = closed (declared (rule_opened nothing selector) (codes "b") (codes "c"))

-- p.css x { b: c; }, main.scss a { b: c; }
row_modules : print (one_rule (codes "x") ∷ one_rule (codes "a") ∷ []) ≡ codes "x {\n  b: c;\n}\n\na {\n  b: c;\n}\n"
row_modules = refl

-- /* x */ in one module, /* y */ in another, then a rule
row_comments : print (lined nothing (Comment (codes "/* x */")) ∷ lined nothing (Comment (codes "/* y */")) ∷ one_rule (codes "a") ∷ []) ≡ codes "/* x */\n/* y */\n\na {\n  b: c;\n}\n"
row_comments = refl

-- a { b: c; d { e: f; } g: h; }
row_in_place : print (closed (declared (closed (declared (rule_opened (declared (rule_opened nothing (codes "a")) (codes "b") (codes "c")) (codes "a d")) (codes "e") (codes "f"))) (codes "g") (codes "h")) ∷ []) ≡ codes "a {\n  b: c;\n}\na d {\n  e: f;\n}\na {\n  g: h;\n}\n"
row_in_place = refl

-- a { b: c; d { } g: h; }
row_empty_between : print (closed (declared (closed (rule_opened (declared (rule_opened nothing (codes "a")) (codes "b") (codes "c")) (codes "a d"))) (codes "g") (codes "h")) ∷ []) ≡ codes "a {\n  b: c;\n  g: h;\n}\n"
row_empty_between = refl

-- @font-face { } and @foo x { @supports (y) { a { b: c; } } d: e; }, of two statements
row_at_rules : print (closed (declared (closed (closed (declared (rule_opened (at_opened (at_opened (statement (closed (at_opened nothing (codes "font-face") [])) 1) (codes "foo") (codes "x")) (codes "supports") (codes "(y)")) (codes "a")) (codes "b") (codes "c")))) (codes "d") (codes "e")) ∷ [])
    ≡ codes "@font-face {}\n\n@foo x {\n  @supports (y) {\n    a {\n      b: c;\n    }\n  }\n  d: e;\n}\n"
row_at_rules = refl

-- @import "x.css" is written first; a line `@foo;` and `@at-root { /* c */ }` in a rule
row_lines : print (imported (closed (closed (lined (left_rules (lined (rule_opened nothing (codes "a")) (At (codes "foo") []))) (Comment (codes "/* c */"))))) (codes "\"x.css\"") ∷ []) ≡ codes "@import \"x.css\";\n\na {\n  @foo;\n}\n/* c */\n"
row_lines = refl

-- @media a { @foo { @media b { c { d: e; } } } }: the outer one leaves
row_joined : print (closed (closed (closed (closed (declared (rule_opened (bubbled (at_opened (bubbled nothing (codes "media") (codes "a")) (codes "foo") []) (codes "media") (codes "a and b")) (codes "c")) (codes "d") (codes "e"))))) ∷ [])
    ≡ codes "@media a {\n  @foo {}\n}\n@foo {\n  @media a and b {\n    c {\n      d: e;\n    }\n  }\n}\n"
row_joined = refl

-- b: ü
row_wide : print (closed (declared (rule_opened nothing (codes "a")) (codes "b") (195 ∷ 188 ∷ [])) ∷ []) ≡ codes "@charset \"UTF-8\";\na {\n  b: " ++ 195 ∷ 188 ∷ codes ";\n}\n"
row_wide = refl

-- joined parts are the page: three modules, imports and a character past ASCII among them
abbrev three : List Output
three = lined nothing (Comment (codes "/* x */")) ∷ imported (lined (statement (lined nothing (Comment (codes "/* y */"))) 1) (Comment (codes "/* z */"))) (codes "\"x.css\"") ∷ nothing ∷ one_rule (195 ∷ 188 ∷ []) ∷ []

joined_whole : join (map print_one three) ≡ print three
joined_whole = refl

joined_text : print three ≡ codes "@charset \"UTF-8\";\n@import \"x.css\";\n\n/* x */\n/* y */\n/* z */\n\n" ++ 195 ∷ 188 ∷ codes " {\n  b: c;\n}\n"
joined_text = refl
