-- The text of the pieces of media queries, and the words between them.
use Rattle.std.proofs.Common.{◌≡◌, ℕ, Bool, true, false, List, [], ◌∷◌, ◌++◌, map, append-nil, refl, sym, ◌∙◌, ap, subst, append_assoc}
use Rattle.std.specs.Prelude.{codes}
use Rattle.std.proofs.lemmas.Slice.Eq.{bytes_eq-Decides}
use Rattle.sw_text_scan.specs.Bytes.{sign, byte}
use Rattle.sw_text_scan.specs.Runs.{run_end, escape_end, begins_name}
use Rattle.sw_text_locality.specs.Names as locality
use Rattle.sw_tree.specs.declared.expr.Expr.{Expr}
use Rattle.sw_tree.specs.declared.text.Parts.{Parts}
use Rattle.sw_tree.specs.declared.text.Parts.TheVariants.{Mixed}
use Rattle.sw_tree.specs.declared.text.Piece.{Piece}
use Rattle.sw_tree.specs.declared.text.Piece.TheVariants as pieces
use Rattle.sw_tree.specs.declared.text.Text.{Text}
use Rattle.sw_tokens.specs.declared.pieces.Before.{Before}
use Rattle.sw_tokens.specs.declared.pieces.Before.TheVariants as befores
use Rattle.sw_tokens.specs.declared.token.TokenKind.TheVariants as kinds
use Rattle.sw_tokens.specs.Pieces.{code_piece, word_piece, name_piece, sign_piece, opens_url, number_piece, is_hex_form, quote_piece, loud_piece}
use Rattle.sw_parse_terminals.specs.declared.terminal.Terminal.{Terminal}
use Rattle.sw_parse_terminals.specs.declared.terminal.Terminal.TheVariants as terminals
use Rattle.sw_parse_lexemes.specs.declared.sort.Sort.{Sort}
use Rattle.sw_parse_lexemes.specs.declared.sort.Sort.TheVariants as sorts
use Rattle.sw_convert_written.specs.declared.manner.Manner.TheVariants as manners
use Rattle.sw_convert_written.specs.Escapes.{ends_unclosed}
use Rattle.sw_convert_written.specs.Expressions.{expr_text, parts_written, piece_written}
use Rattle.sw_convert_written.specs.Heads.{plain_text, queries_text}
use Rattle.sw_convert_written.specs.Pieces.{Written, piece_text, pieces_text}
use Rattle.sw_convert_written.proofs.Unrolled as unrolled
use Rattle.sw_convert_passing.specs.Written.{written, direct, apart}
use Rattle.sw_convert_passing.specs.Written as passing
use Rattle.sw_convert_again.specs.Tokens.{Tok}
use Rattle.sw_convert_again.specs.Tokens as again
use Rattle.sw_convert_again.specs.Queries.{in_parentheses}
use Rattle.sw_convert_tokens.specs.Joints.{Segment}
use Rattle.sw_convert_tokens.specs.Written.{Follows, gap_of}
use Rattle.sw_convert_tokens.proofs.Between.{spaced_segment}
use Rattle.sw_convert_tokens.proofs.Leaves.{word_segment}
use Rattle.sw_convert_tokens.proofs.Signs.{Anything, lone_segment}
use Rattle.sw_convert_tokens.proofs.Spaces.{BeginsSpace}
use Rattle.sw_convert_statements.specs.Media.{is_seamless, text_in}

-- ---- pieces directly behind each other

pub flat : List Piece → List ℕ
flat [] = []
flat (piece ∷ list) = piece_text manners.Joined (piece_written piece) ++ flat list

pub flat_is : (list : List Piece) → flat list ≡ text_in list
unfolding flat
flat_is [] = refl
flat_is (piece ∷ list) = ap (λ (t : List ℕ). piece_text manners.Joined (piece_written piece) ++ t) (flat_is list)

pub no_pieces : flat [] ≡ []
unfolding flat
no_pieces = refl

pub flat_append : (xs ys : List Piece) → flat (xs ++ ys) ≡ flat xs ++ flat ys
unfolding flat
flat_append [] ys = refl
flat_append (x ∷ xs) ys =
    let this = piece_text manners.Joined (piece_written x) in
    ap (λ (t : List ℕ). this ++ t) (flat_append xs ys) ∙ sym (append_assoc this (flat xs) (flat ys))

pub flat_text : (text : List ℕ) (list : List Piece) → flat (pieces.Text text ∷ list) ≡ text ++ flat list
unfolding flat
flat_text text list = ap (λ (w : Written). piece_text manners.Joined w ++ flat list) (unrolled.said_is text)

pub flat_insert : (value : Expr) → flat (pieces.Inserted value ∷ []) ≡ codes "#{" ++ (expr_text value ++ codes "}")
unfolding flat
flat_insert value =
    ap (λ (w : Written). piece_text manners.Joined w ++ []) (unrolled.inserted_is value)
    ∙ append-nil (codes "#{" ++ (expr_text value ++ codes "}"))

pub flat_value : (value : Expr) → flat (pieces.Value value ∷ []) ≡ expr_text value
unfolding flat
flat_value value =
    ap (λ (w : Written). piece_text manners.Joined w ++ []) (unrolled.value_is value) ∙ append-nil (expr_text value)

pub flat_parens : (list : List Piece) → flat (in_parentheses list) ≡ codes "(" ++ (flat list ++ codes ")")
flat_parens list =
    flat_text (codes "(") (list ++ pieces.Text (codes ")") ∷ [])
    ∙ ap (λ (t : List ℕ). codes "(" ++ t)
    (flat_append list (pieces.Text (codes ")") ∷ [])
    ∙ ap (λ (t : List ℕ). flat list ++ t)
    (flat_text (codes ")") [] ∙ ap (λ (t : List ℕ). codes ")" ++ t) no_pieces))

joined_flat : (list : List Piece) → pieces_text manners.Joined (map piece_written list) ≡ flat list
unfolding flat
joined_flat [] = refl
joined_flat (x ∷ []) = sym (append-nil (piece_text manners.Joined (piece_written x)))
joined_flat (x ∷ y ∷ list) = ap (λ (t : List ℕ). piece_text manners.Joined (piece_written x) ++ t) (joined_flat (y ∷ list))

-- what is written of such queries
pub queries_flat : (list : List Piece) (text : Text) → text.parts ≡ Mixed list → is_seamless text ≡ true
    → queries_text text ≡ flat list
queries_flat list text e seamless =
    (bytes_eq-Decides (queries_text text) (plain_text text)).0 seamless
    ∙ ap (λ (p : Parts). pieces_text manners.Joined (parts_written p)) e ∙ ap (pieces_text manners.Joined) (unrolled.mixed_is list)
    ∙ joined_flat list

-- the same segment, told otherwise
pub passed_as : {before end : Before} {xs : List ℕ} {ks : List Tok} {vs ws : List passing.Written} {P : List ℕ → Type 0}
    → vs ≡ ws → Segment before xs ks vs end P → Segment before xs ks ws end P
passed_as {before} {end} {xs} {ks} {vs} {ws} {P} e a =
    subst (λ (l : List passing.Written). Segment before xs ks l end P) e a

-- ---- words

-- a word between two others
pub record IsWord (sort : Sort) (terminal : Terminal) (word : List ℕ) : Type 0 where
  pub segment : Segment befores.Other (codes " " ++ word) (again.sign terminal ∷ []) (apart sort terminal ∷ [])
      befores.Other BeginsSpace

pub and_word : IsWord sorts.And terminals.And (codes "and")
unfolding code_piece word_piece name_piece sign_piece opens_url number_piece byte begins_name escape_end run_end is_hex_form quote_piece loud_piece locality.ends_unclosed locality.is_unclosed
and_word = record {
  segment = spaced_segment kinds.Word (sign "a") (codes "nd") terminals.And befores.Other refl refl refl refl refl refl (λ rest. refl);
}

pub or_word : IsWord sorts.Or terminals.Or (codes "or")
unfolding code_piece word_piece name_piece sign_piece opens_url number_piece byte begins_name escape_end run_end is_hex_form quote_piece loud_piece locality.ends_unclosed locality.is_unclosed
or_word = record {
  segment = spaced_segment kinds.Word (sign "o") (codes "r") terminals.Or befores.Other refl refl refl refl refl refl (λ rest. refl);
}

pub not_word : IsWord sorts.Not terminals.Not (codes "not")
unfolding code_piece word_piece name_piece sign_piece opens_url number_piece byte begins_name escape_end run_end is_hex_form quote_piece loud_piece locality.ends_unclosed locality.is_unclosed
not_word = record {
  segment = spaced_segment kinds.Word (sign "n") (codes "ot") terminals.Not befores.Other refl refl refl refl refl refl (λ rest. refl);
}

-- `not` directly behind a `(`
pub direct_not : Segment befores.Other (codes "not") (again.sign terminals.Not ∷ []) (direct sorts.Not terminals.Not ∷ [])
    befores.Other (Follows (codes "not"))
unfolding code_piece word_piece name_piece sign_piece opens_url number_piece byte begins_name escape_end run_end is_hex_form quote_piece loud_piece locality.ends_unclosed locality.is_unclosed ends_unclosed
direct_not = word_segment (sign "n") (sign "o") (codes "t") terminals.Not befores.Other false refl refl refl refl refl refl refl

-- a space behind it
pub not_follows : (after : List ℕ) → Follows (codes "not") (codes " " ++ after)
unfolding ends_unclosed
not_follows after = record { stop = refl; closed = refl }

-- ---- parentheses

pub open_paren : (terminal : Terminal) (spaced : Bool)
    → Segment befores.Other (gap_of spaced ++ codes "(") (again.sign terminal ∷ [])
    (written sorts.OpenParen spaced terminal ∷ []) befores.Other Anything
open_paren terminal true = lone_segment (sign "(") (terminal ∷ []) befores.Other true refl refl refl (λ inside code. refl)
open_paren terminal false = lone_segment (sign "(") (terminal ∷ []) befores.Other false refl refl refl (λ inside code. refl)
