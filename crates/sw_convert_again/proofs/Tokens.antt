-- Tokens that stand as they are written, and those that stood in the sheet.
use Rattle.std.proofs.Common.{◌≡◌, ℕ, suc, ◌+◌, ◌-◌, Bool, true, false, not, ◌&&◌, List, [], ◌∷◌, ◌++◌, Option, Some, None, inl, inr, refl, sym, ◌∙◌, ap, subst, arith}
use Rattle.sw_parse_grammar.specs.Grammar.{member, disjoint}
use Rattle.sw_parse_grammar.proofs.Sets.{apart}
use Rattle.sw_parse_terminals.specs.declared.terminal.Terminal.{Terminal}
use Rattle.sw_parse_terminals.specs.declared.lexeme.Lexeme.{Lexeme}
use Rattle.sw_parse_terminals.specs.Numbers.{number_of}
use Rattle.sw_parse_table.specs.declared.source.Source.{Source}
use Rattle.sw_parse_table.specs.Sources.{lexeme_at, terminal_in, terminal_at, from_at, to_at, bytes_from, bytes_at}
use Rattle.sw_parse_table.specs.Operators.{operator_of, operator_in, operator_at, sign_of, sign_in, sign_at, constant_of, constant_in, constant_at}
use Rattle.sw_parse_table.specs.Sets.{endings}
use Rattle.sw_convert_again.specs.Tokens.{Tok, Among, Is, Stands, Old, calm, Begins}

and_left : (a b : Bool) → (a && b) ≡ true → a ≡ true
and_left true b e = refl
and_left false b e = e

and_right : (a b : Bool) → (a && b) ≡ true → b ≡ true
and_right true b e = e
and_right false b e = absurd (cc)

not_true : (b : Bool) → not b ≡ true → b ≡ false
not_true true e = absurd (cc)
not_true false e = refl

pub unless : (b : Bool) → (b ≡ true → ⊥) → b ≡ false
unless true n = absurd (n refl)
unless false n = refl

pub kind_is : (source : Source) (at : ℕ) (lexeme : Lexeme) → lexeme_at source at ≡ Some lexeme
    → terminal_at source at ≡ number_of lexeme.terminal
unfolding terminal_at
kind_is source at lexeme e = ap terminal_in e

-- the text of one token
pub one_byte : (source : Source) (p : ℕ)
    → bytes_from source (from_at source p) (to_at source ((p + 1) - 1)) ≡ bytes_at source p
one_byte source p =
    ap (λ (k : ℕ). bytes_from source (from_at source p) (to_at source k)) (let z : (p + 1) - 1 ≡ p = omega arith in z)

-- a token of a set that isn't past the end
pub old_of : (source : Source) (at : ℕ) (set : List ℕ) → member 0 set ≡ false
    → member (terminal_at source at) set ≡ true
    → Old source at set
unfolding terminal_at
old_of source at set z m = go (lexeme_at source at) refl m
  where
    go : (found : Option Lexeme) → lexeme_at source at ≡ found → member (terminal_in found) set ≡ true
        → Old source at set
    go None e m = absurd (cc)
    go (Some lexeme) e m = record { lexeme = lexeme; there = e; kind = m }

-- all these terminals are of a set
abbrev pub fits : List Terminal → List ℕ → Bool
fits [] set = true
fits (terminal ∷ rest) set = member (number_of terminal) set && fits rest set

among_fits : (terminal : Terminal) (kinds : List Terminal) (set : List ℕ) → Among terminal kinds → fits kinds set ≡ true
    → member (number_of terminal) set ≡ true
among_fits terminal [] set a f = absurd a
among_fits terminal (one ∷ rest) set (inl e) f =
    ap (λ (t : Terminal). member (number_of t) set) e ∙ and_left (member (number_of one) set) _ f
among_fits terminal (one ∷ rest) set (inr a) f = among_fits terminal rest set a
    (and_right (member (number_of one) set) _ f)

pub is_of : (source : Source) (at : ℕ) (token : Tok) (set : List ℕ) → Is source at token → fits token.kinds set ≡ true
    → member (terminal_at source at) set ≡ true
is_of source at token set is f =
    ap (λ (k : ℕ). member k set) (kind_is source at is.lexeme is.there)
    ∙ among_fits is.lexeme.terminal token.kinds set is.kind f

among_calm : (terminal : Terminal) (kinds : List Terminal) → Among terminal kinds → calm kinds ≡ true
    → member (number_of terminal) endings ≡ false
among_calm terminal [] a c = absurd a
among_calm terminal (one ∷ rest) (inl e) c =
    ap (λ (t : Terminal). member (number_of t) endings) e
    ∙ not_true _ (and_left (not (member (number_of one) endings)) _ c)
among_calm terminal (one ∷ rest) (inr a) c =
    among_calm terminal rest a (and_right (not (member (number_of one) endings)) _ c)

-- tokens that begin so don't stand where a flag does
pub unending : (source : Source) (at to : ℕ) (tokens : List Tok) → Begins tokens → Stands source at tokens to
    → member (terminal_at source at) endings ≡ false
unending source at to [] b s = absurd b
unending source at to (token ∷ tokens) b (is, s) =
    ap (λ (k : ℕ). member k endings) (kind_is source at is.lexeme is.there)
    ∙ among_calm is.lexeme.terminal token.kinds is.kind b

pub begins_more : (tokens others : List Tok) → Begins tokens → Begins (tokens ++ others)
begins_more [] others b = absurd b
begins_more (token ∷ tokens) others b = b

-- the first token of a set that no flag begins with
pub old_begins : (source : Source) (at : ℕ) (set : List ℕ) (old : Old source at set)
    → disjoint set endings ≡ true → calm (old.lexeme.terminal ∷ []) ≡ true
old_begins source at set old d =
    ap (λ (b : Bool). not b && true)
    (unless (member (number_of old.lexeme.terminal) endings)
    (apart (number_of old.lexeme.terminal) set endings d old.kind))

-- tokens in two parts
pub split : (source : Source) (to : ℕ) (left right : List Tok) (at : ℕ) → Stands source at (left ++ right) to
    → (place : ℕ) × Stands source at left place × Stands source place right to
split source to [] right at s = (at, refl, s)
split source to (token ∷ left) right at (is, s) =
    let (place, a, b) = split source to left right (suc at) s in (place, (is, a), b)

pub stands_both : (source : Source) (place to : ℕ) (left right : List Tok) (at : ℕ) → Stands source at left place
    → Stands source place right to → Stands source at (left ++ right) to
stands_both source place to [] right at e s = subst (λ (k : ℕ). Stands source k right to) (sym e) s
stands_both source place to (token ∷ left) right at (is, r) s =
    (is, stands_both source place to left right (suc at) r s)

-- a token like one of the sheet means the same
module _ (source written : Source) (i p : ℕ) (set : List ℕ) (old : Old source i set) (token : Tok)
    (is : Is written p token)
    (same : token.kinds ≡ old.lexeme.terminal ∷ []) where
  terminal_same : is.lexeme.terminal ≡ old.lexeme.terminal
  terminal_same = go (subst (Among is.lexeme.terminal) same is.kind)
    where
      go : Among is.lexeme.terminal (old.lexeme.terminal ∷ []) → is.lexeme.terminal ≡ old.lexeme.terminal
      go (inl e) = e
      go (inr n) = absurd n

  pub of_set : member (terminal_at written p) set ≡ true
  of_set =
      ap (λ (k : ℕ). member k set) (kind_is written p is.lexeme is.there ∙ ap number_of terminal_same) ∙ old.kind

  pub number_same : terminal_at written p ≡ terminal_at source i
  number_same =
      kind_is written p is.lexeme is.there ∙ ap number_of terminal_same ∙ sym (kind_is source i old.lexeme old.there)

  pub operator_same : operator_at written p ≡ operator_at source i
  operator_same = ap operator_in is.there ∙ ap operator_of terminal_same ∙ sym (ap operator_in old.there)

  pub sign_same : sign_at written p ≡ sign_at source i
  sign_same = ap sign_in is.there ∙ ap sign_of terminal_same ∙ sym (ap sign_in old.there)

  pub constant_same : constant_at written p ≡ constant_at source i
  constant_same = ap constant_in is.there ∙ ap constant_of terminal_same ∙ sym (ap constant_in old.there)
