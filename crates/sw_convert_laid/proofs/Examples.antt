-- What the test of lines says of some of them.
use Rattle.std.proofs.Common.{◌≡◌, ℕ, true, false, List, [], ◌∷◌, ◌++◌, refl}
use Rattle.std.specs.Prelude.{codes}
use Rattle.sw_tokens.specs.declared.pieces.Change.TheVariants as changes
use Rattle.sw_tokens.specs.declared.skips.Inside.TheVariants as insides
use Rattle.sw_tokens.specs.declared.token.TokenKind.{TokenKind}
use Rattle.sw_tokens.specs.declared.token.TokenKind.TheVariants as kinds
use Rattle.sw_parse_layout.specs.Sorts.{sorted}
use Rattle.sw_convert_spelling.specs.Spelt.{Spelt}
use Rattle.sw_convert_laid.specs.Held.{is_line}

token : TokenKind → List ℕ → Spelt
token kind bytes = record { gap = []; kind = kind; bytes = bytes; change = changes.Keep }

spaced : Spelt → Spelt
spaced spelt = record { gap = codes " "; kind = spelt.kind; bytes = spelt.bytes; change = spelt.change }

word : List ℕ → Spelt
word bytes = token kinds.Word bytes

comma : Spelt
comma = token kinds.Comma (codes ",")

insert : List Spelt → List Spelt
insert inner =
    record { gap = []; kind = kinds.OpenInterpolation; bytes = codes "#{"; change = changes.Push insides.Interpolation }
    ∷ (inner ++ record { gap = []; kind = kinds.CloseInterpolation; bytes = codes "}"; change = changes.Pop } ∷ [])

-- `b: f(1, 2)`
call : is_line (word (codes "b") ∷ token kinds.Colon (codes ":") ∷ spaced (word (codes "f")) ∷ token kinds.OpenParen (codes "(")
    ∷ token kinds.Digits (codes "1") ∷ comma ∷ spaced (token kinds.Digits (codes "2")) ∷ token kinds.CloseParen (codes ")") ∷ [])
    ≡ true
unfolding token spaced word comma sorted
call = refl

-- `$x: a, b`
variable : is_line (token kinds.Dollar (codes "$") ∷ word (codes "x") ∷ token kinds.Colon (codes ":") ∷ spaced (word (codes "a"))
    ∷ comma ∷ spaced (word (codes "b")) ∷ []) ≡ true
unfolding token spaced word comma sorted
variable = refl

-- `@if a`
condition : is_line (token kinds.AtName (codes "@if") ∷ spaced (word (codes "a")) ∷ []) ≡ true
unfolding token spaced word sorted
condition = refl

-- `.a, #{b;c} d`: in `#{}` a `;` is none of the statement's
rule : is_line (token kinds.Dot (codes ".") ∷ word (codes "a") ∷ comma ∷ (insert (word (codes "b") ∷ token kinds.Semicolon (codes ";") ∷ [])
    ++ spaced (word (codes "d")) ∷ [])) ≡ true
unfolding token spaced word comma insert sorted
rule = refl

-- `a/**/b`
noted : is_line (word (codes "a") ∷ token kinds.Comment (codes "/**/") ∷ word (codes "b") ∷ []) ≡ true
unfolding token word sorted
noted = refl

-- `a,` goes on over the end of its line, and so does `f(`
trailing : is_line (word (codes "a") ∷ comma ∷ []) ≡ false
unfolding token word comma sorted
trailing = refl

unclosed : is_line (word (codes "f") ∷ token kinds.OpenParen (codes "(") ∷ []) ≡ false
unfolding token word sorted
unclosed = refl

-- `a;b`, and `+a`, which includes a mixin
ended : is_line (word (codes "a") ∷ token kinds.Semicolon (codes ";") ∷ word (codes "b") ∷ []) ≡ false
unfolding token word sorted
ended = refl

member : is_line (token kinds.Plus (codes "+") ∷ word (codes "a") ∷ []) ≡ false
unfolding token word sorted
member = refl
