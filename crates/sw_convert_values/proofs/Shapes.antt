-- Texts and tokens of values, in the form in which the recursion over values meets them.
use Rattle.std.proofs.Common.{◌≡◌, ◌<◌, ℕ, length, arith, Bool, true, false, List, [], ◌∷◌, ◌++◌, map, append-nil, refl, sym, ◌∙◌, ap, subst, append_assoc}
use Rattle.std.specs.Prelude.{◌==◌, codes}
use Rattle.sw_text.specs.declared.place.Span.{Span}
use Rattle.sw_text_scan.specs.Bytes.{sign, byte}
use Rattle.sw_text_scan.proofs.Bounds.{or_left}
use Rattle.sw_tree.specs.declared.text.Parts.{Parts}
use Rattle.sw_tree.specs.declared.text.Parts.TheVariants.{Plain as PlainParts, Mixed}
use Rattle.sw_tree.specs.declared.text.Piece.{Piece}
use Rattle.sw_tree.specs.declared.text.Piece.TheVariants as pieces
use Rattle.sw_tree.specs.declared.text.Text.{Text}
use Rattle.sw_tree.specs.declared.expr.Argument.{Argument}
use Rattle.sw_tree.specs.declared.expr.Around.{Around}
use Rattle.sw_tree.specs.declared.expr.Around.TheVariants as arounds
use Rattle.sw_tree.specs.declared.expr.Callee.{Callee}
use Rattle.sw_tree.specs.declared.expr.Expr.{Expr}
use Rattle.sw_tree.specs.declared.expr.ExprKind.{ExprKind, out-ExprKind, roll-ExprKind, roll-out-ExprKind}
use Rattle.sw_tree.specs.declared.expr.ExprKind.TheOpen.{ExprKind-F}
use Rattle.sw_tree.specs.declared.expr.ExprKind.TheVariants as exprs
use Rattle.sw_tree.specs.declared.expr.Link.{Link}
use Rattle.sw_tree.specs.declared.expr.Pair.{Pair}
use Rattle.sw_tree.specs.declared.expr.Separator.{Separator}
use Rattle.sw_tree.specs.declared.expr.Separator.TheVariants as separators
use Rattle.sw_parse_terminals.specs.declared.terminal.Terminal.{Terminal}
use Rattle.sw_parse_terminals.specs.declared.terminal.Terminal.TheVariants as terminals
use Rattle.sw_parse_table.specs.Operators.{operator_of}
use Rattle.sw_parse_table.specs.Values.{expression, in_parens_by, in_parens, in_brackets_by, in_brackets}
use Rattle.sw_convert_spelling.specs.Strings.{escaped}
use Rattle.sw_convert_written.specs.declared.manner.Manner.TheVariants as manners
use Rattle.sw_convert_written.specs.Pieces.{Written, piece_text, pieces_text}
use Rattle.sw_convert_written.specs.Expressions.{kind_shown, expr_text, is_divide, items_text, list_text, quoted_text, is_url, ends_in_url, piece_written}
use Rattle.sw_convert_written.proofs.Unrolled as unrolled
use Rattle.sw_convert_again.specs.Tokens.{Tok}
use Rattle.sw_convert_again.specs.Spells.{is_empty}
use Rattle.sw_convert_tokens.specs.Written.{Shape, AsValue, AsRow, WrittenAs}
use Rattle.sw_convert_tokens.proofs.Between.{is_binary}
use Rattle.sw_convert_tokens.proofs.Variables.{Begins}

-- the same text and tokens
pub same_as : {shape : Shape} {xs ys : List ℕ} {ks ls : List Tok} → xs ≡ ys → ks ≡ ls → WrittenAs shape xs ks
    → WrittenAs shape ys ls
same_as {shape} {xs} {ys} {ks} {ls} e f a =
    subst (λ (t : List Tok). WrittenAs shape ys t) f (subst (λ (t : List ℕ). WrittenAs shape t ks) e a)

pub same : {signed : Bool} {xs ys : List ℕ} {ks ls : List Tok} → xs ≡ ys → ks ≡ ls → WrittenAs (AsValue signed) xs ks
    → WrittenAs (AsValue signed) ys ls
same e f a = same_as e f a

pub same_row : {xs ys : List ℕ} {ks ls : List Tok} → xs ≡ ys → ks ≡ ls → WrittenAs AsRow xs ks → WrittenAs AsRow ys ls
same_row e f a = same_as e f a

-- ---- texts of lists in brackets

abbrev Open : Type 0
Open = ExprKind-F ExprKind Parts Piece Argument Callee Expr Link Pair Text

pub list_around : (items : List Expr) (separator : Separator) (around : Around) (span : Span)
    → expr_text (expression (exprs.List items separator around) span) ≡ list_text (map expr_text items) separator around
list_around items separator around span = unrolled.list_is items separator around

-- the text of a list without brackets
pub bare_text : (items : List Expr) (separator : Separator) (span : Span)
    → expr_text (expression (exprs.List items separator arounds.Nothing) span) ≡ items_text separator (map expr_text items)
bare_text items separator span =
    list_around items separator arounds.Nothing span ∙ append-nil (items_text separator (map expr_text items))

module _ (span : Span) where
  parens_by : (value : Expr) (out : Open) → value.kind ≡ roll-ExprKind out
      → expr_text (in_parens_by span value out) ≡ codes "(" ++ (expr_text value ++ codes ")")
  parens_by value (ExprKind-F.List items separator arounds.Nothing) e =
      list_around items separator arounds.Parens span
      ∙ ap (λ (t : List ℕ). codes "(" ++ (t ++ codes ")"))
      (sym (ap (λ (k : ExprKind). (kind_shown k).text) (e ∙ exprs.rolls-List items separator arounds.Nothing)
      ∙ bare_text items separator span))
  parens_by value _ e = unrolled.paren_is value

  pub parens_text : (value : Expr) → expr_text (in_parens span value) ≡ codes "(" ++ (expr_text value ++ codes ")")
  unfolding in_parens
  parens_text value = parens_by value (out-ExprKind value.kind) (sym (roll-out-ExprKind value.kind))

  brackets_by : (value : Expr) (out : Open) → value.kind ≡ roll-ExprKind out
      → expr_text (in_brackets_by span value out) ≡ codes "[" ++ (expr_text value ++ codes "]")
  brackets_by value (ExprKind-F.List items separator arounds.Nothing) e =
      list_around items separator arounds.Brackets span
      ∙ ap (λ (t : List ℕ). codes "[" ++ (t ++ codes "]"))
      (sym (ap (λ (k : ExprKind). (kind_shown k).text) (e ∙ exprs.rolls-List items separator arounds.Nothing)
      ∙ bare_text items separator span))
  brackets_by value _ e =
      list_around (value ∷ []) separators.Undecided arounds.Brackets span
      ∙ ap (λ (t : List ℕ). codes "[" ++ (t ++ codes "]"))
      (append-nil (expr_text value ++ []) ∙ append-nil (expr_text value))

  pub brackets_text : (value : Expr) → expr_text (in_brackets span value) ≡ codes "[" ++ (expr_text value ++ codes "]")
  unfolding in_brackets
  brackets_text value = brackets_by value (out-ExprKind value.kind) (sym (roll-out-ExprKind value.kind))

-- ---- strings

-- a piece and the others behind it
pub pieces_more : (piece : Piece) (texts : List Piece)
    → pieces_text manners.Quoted (map piece_written (piece ∷ texts))
    ≡ piece_text manners.Quoted (piece_written piece) ++ pieces_text manners.Quoted (map piece_written texts)
pieces_more piece [] = sym (append-nil (piece_text manners.Quoted (piece_written piece)))
pieces_more piece (next ∷ texts) = refl

pub inserted_before : (value : Expr) (texts : List Piece) (after : List ℕ)
    → pieces_text manners.Quoted (map piece_written (pieces.Inserted value ∷ texts)) ++ after
    ≡ (codes "#{" ++ (expr_text value ++ codes "}")) ++ (pieces_text manners.Quoted (map piece_written texts) ++ after)
inserted_before value texts after =
    ap (λ (t : List ℕ). t ++ after)
    (pieces_more (pieces.Inserted value) texts
    ∙ ap (λ (w : Written). piece_text manners.Quoted w ++ pieces_text manners.Quoted (map piece_written texts)) (unrolled.inserted_is value))
    ∙ append_assoc (codes "#{" ++ (expr_text value ++ codes "}")) (pieces_text manners.Quoted (map piece_written texts)) after

pub quoted_is : (span : Span) (texts : List Piece)
    → expr_text (expression (exprs.Quoted (Mixed texts)) span)
    ≡ codes "\"" ++ (pieces_text manners.Quoted (map piece_written texts) ++ codes "\"")
quoted_is span texts = unrolled.quoted_is (Mixed texts) ∙ ap quoted_text (unrolled.mixed_is texts)

pub text_some : (text : List ℕ) → is_empty text ≡ false → 0 < length text
text_some [] e = absurd (cc)
text_some (b ∷ text) e = omega arith

pub text_none : (text : List ℕ) → is_empty text ≡ true → escaped text ≡ []
text_none [] e = refl
text_none (b ∷ text) e = absurd (cc)

-- ---- operators

pub is_divided : (terminal : Terminal) → is_binary terminal ≡ true → is_divide (operator_of terminal) ≡ true
    → terminal ≡ terminals.Divide
is_divided terminals.Divide b d = refl
is_divided terminals.Or b d = absurd (cc)
is_divided terminals.And b d = absurd (cc)
is_divided terminals.Equal b d = absurd (cc)
is_divided terminals.NotEqual b d = absurd (cc)
is_divided terminals.Less b d = absurd (cc)
is_divided terminals.LessEqual b d = absurd (cc)
is_divided terminals.Greater b d = absurd (cc)
is_divided terminals.GreaterEqual b d = absurd (cc)
is_divided terminals.Plus b d = absurd (cc)
is_divided terminals.Minus b d = absurd (cc)
is_divided terminals.Times b d = absurd (cc)
is_divided terminals.Modulo b d = absurd (cc)
is_divided _ b d = absurd (cc)

-- texts behind one another, in another order of brackets
pub again_behind : (left space op value rest : List ℕ)
    → (left ++ (space ++ (op ++ value))) ++ rest ≡ left ++ ((space ++ op) ++ (value ++ rest))
again_behind left space op value rest =
    append_assoc left (space ++ (op ++ value)) rest
    ∙ ap (λ (t : List ℕ). left ++ t)
    (append_assoc space (op ++ value) rest
    ∙ ap (λ (t : List ℕ). space ++ t) (append_assoc op value rest)
    ∙ sym (append_assoc space op (value ++ rest)))

pub three : (left space value rest : List ℕ) → (left ++ (space ++ value)) ++ rest ≡ left ++ (space ++ (value ++ rest))
three left space value rest =
    append_assoc left (space ++ value) rest ∙ ap (λ (t : List ℕ). left ++ t) (append_assoc space value rest)

pub tokens_behind : (ks : List Tok) (one : Tok) (ls ms : List Tok) → (ks ++ one ∷ ls) ++ ms ≡ ks ++ one ∷ (ls ++ ms)
tokens_behind ks one ls ms = append_assoc ks (one ∷ ls) ms

-- ---- names of calls

pub no_url_at : (text : List ℕ) → ends_in_url text ≡ false → is_url text ≡ false
no_url_at [] e = refl
no_url_at (b ∷ text) e = or_left (is_url (b ∷ text)) _ e

pub opens_paren : (after : List ℕ) → Begins (sign "(") after → (byte after 0 == sign "(") ≡ true
unfolding byte
opens_paren after b = subst (λ (t : List ℕ). (byte t 0 == sign "(") ≡ true) (sym b.1) refl

-- a text that stays as it stood
pub stays_as : (text : List ℕ) (span : Span) → expr_text (expression (exprs.Special (PlainParts text)) span) ≡ text
stays_as text span = unrolled.special_is (PlainParts text) ∙ ap (pieces_text manners.Seamed) (unrolled.plain_is text)
