-- An argument by its place begins with no `$` whose name a `:` follows.
use Rattle.std.proofs.Common.{◌≡◌, ℕ, Bool, true, false, if◌then◌else◌, List, [], ◌∷◌, inl, inr, refl, ◌∙◌, ap}
use Rattle.sw_parse_grammar.specs.Grammar.{member}
use Rattle.sw_parse_terminals.specs.declared.terminal.Terminal.{Terminal}
use Rattle.sw_parse_terminals.specs.declared.terminal.Terminal.TheVariants as terminals
use Rattle.sw_parse_terminals.specs.Numbers.{number_of, just}
use Rattle.sw_parse_table.specs.declared.source.Source.{Source}
use Rattle.sw_parse_table.specs.Sources.{terminal_at}
use Rattle.sw_convert_again.specs.Tokens.{Tok, Among, Stands, Begins}
use Rattle.sw_convert_again.specs.Spells.{is_named, without_named, undollared}
use Rattle.sw_convert_again.proofs.Tokens.{kind_is}

more_by : (terminal kind : Terminal) (kinds : List Terminal)
    → (Among terminal (without_named kinds) → Among terminal kinds) → (b : Bool)
    → Among terminal (if b then without_named kinds else kind ∷ without_named kinds) → Among terminal (kind ∷ kinds)
more_by terminal kind kinds rest true a = inr (rest a)
more_by terminal kind kinds rest false (inl s) = inl s
more_by terminal kind kinds rest false (inr a) = inr (rest a)

among_more : (terminal : Terminal) (kinds : List Terminal) → Among terminal (without_named kinds) → Among terminal kinds
among_more terminal [] a = a
among_more terminal (kind ∷ kinds) a = more_by terminal kind kinds (among_more terminal kinds) (is_named kind) a

unnamed_by : (terminal kind : Terminal) (kinds : List Terminal)
    → (Among terminal (without_named kinds) → is_named terminal ≡ false) → (b : Bool) → is_named kind ≡ b
    → Among terminal (if b then without_named kinds else kind ∷ without_named kinds) → is_named terminal ≡ false
unnamed_by terminal kind kinds rest true e a = rest a
unnamed_by terminal kind kinds rest false e (inl s) = ap is_named s ∙ e
unnamed_by terminal kind kinds rest false e (inr a) = rest a

among_unnamed : (terminal : Terminal) (kinds : List Terminal) → Among terminal (without_named kinds)
    → is_named terminal ≡ false
among_unnamed terminal [] a = absurd a
among_unnamed terminal (kind ∷ kinds) a =
    unnamed_by terminal kind kinds (among_unnamed terminal kinds) (is_named kind) refl a

unnamed_number : (terminal : Terminal) → is_named terminal ≡ false
    → member (number_of terminal) (just terminals.DollarNamed) ≡ false
unnamed_number terminals.DollarNamed e = absurd (cc)
unnamed_number _ e = refl

pub dollared : (source : Source) (at to : ℕ) (tokens : List Tok) → Stands source at (undollared tokens) to
    → Stands source at tokens to
dollared source at to [] s = s
dollared source at to (token ∷ tokens) (is, s) = (
  record {
    lexeme = is.lexeme;
    there = is.there;
    kind = among_more is.lexeme.terminal token.kinds is.kind;
    said =
        is.said;
  },
  s,
)

pub undollared_first : (source : Source) (at to : ℕ) (tokens : List Tok) → Begins tokens
    → Stands source at (undollared tokens) to
    → member (terminal_at source at) (just terminals.DollarNamed) ≡ false
undollared_first source at to [] b s = absurd b
undollared_first source at to (token ∷ tokens) b (is, s) =
    ap (λ (k : ℕ). member k (just terminals.DollarNamed)) (kind_is source at is.lexeme is.there)
    ∙ unnamed_number is.lexeme.terminal (among_unnamed is.lexeme.terminal token.kinds is.kind)
