-- How an operand is one of operators that bind less: nothing, or such operators with their operands, stand behind it.
use Rattle.std.proofs.Common.{◌≡◌, ℕ, zero, suc, ◌+◌, ◌-◌, ◌≤◌, ◌<◌, Bool, true, false, List, [], ◌∷◌, Option, Some, None, map, refl, sym, ap, subst, ◌∙◌, length, arith}
use Rattle.std.specs.Prelude.{◌==◌, if◌then◌else◌}
use Rattle.std.proofs.lemmas.Bool.Decides.{nat_tests}
use Rattle.sw_parse_grammar.specs.Grammar.{many, seq, member, Got}
use Rattle.sw_parse_grammar.specs.Readers.{parse, Fails}
use Rattle.sw_parse_grammar.specs.declared.ReadError.{ReadError}
use Rattle.sw_parse_grammar.proofs.Loops.{at_first, fails_act, fails_first, fails_seq, read_act, read_both}
use Rattle.sw_parse_grammar.proofs.Knot.{many_end}
use Rattle.sw_tree.specs.declared.expr.Expr.{Expr}
use Rattle.sw_tree.specs.declared.expr.Link.{Link}
use Rattle.sw_parse_table.specs.declared.source.Source.{Source}
use Rattle.sw_parse_table.specs.declared.operator.Precedence.{Precedence}
use Rattle.sw_parse_table.specs.declared.operator.Precedence.TheVariants.{Product, Sum, Relation, Equality, And, Or}
use Rattle.sw_parse_table.specs.Parts.{Part, Values, Links, links_of}
use Rattle.sw_parse_table.specs.Sources.{text_of, terminal_at, span_between}
use Rattle.sw_parse_table.specs.Sets.{operators}
use Rattle.sw_parse_table.specs.Values.{chained, to_chain}
use Rattle.sw_parse_table.specs.Table.{forms}
use Rattle.sw_parse_table.specs.Expressions.{unary, link, linked, side, chain, product, sum, relation, equality, conjunction, disjunction}
use Rattle.sw_parse_table.specs.Reads.{reader}
use Rattle.sw_parse_table.proofs.Decided.{fit, links}
use Rattle.sw_parse_expr_nodes.proofs.Collected.{values_of_links, links_of_links}
use Rattle.sw_expr_parse.specs.Binding.{rank, tighter, next, looser}

-- as many bind more
abbrev of_rank : ℕ → Precedence
of_rank zero = Product
of_rank (suc zero) = Sum
of_rank (suc (suc zero)) = Relation
of_rank (suc (suc (suc zero))) = Equality
of_rank (suc (suc (suc (suc zero)))) = And
of_rank _ = Or

of_own_rank : (p : Precedence) → of_rank (rank p) ≡ p
of_own_rank Product = refl
of_own_rank Sum = refl
of_own_rank Relation = refl
of_own_rank Equality = refl
of_own_rank And = refl
of_own_rank Or = refl

rank_small : (p : Precedence) → rank p < 6
rank_small Product = omega arith
rank_small Sum = omega arith
rank_small Relation = omega arith
rank_small Equality = omega arith
rank_small And = omega arith
rank_small Or = omega arith

same_rank : (p q : Precedence) → rank p ≡ rank q → p ≡ q
same_rank p q e = sym (of_own_rank p) ∙ ap of_rank e ∙ of_own_rank q

next_rank : (p : Precedence) → rank p < 5 → rank (next p) ≡ rank p + 1
next_rank Product l = refl
next_rank Sum l = refl
next_rank Relation l = refl
next_rank Equality l = refl
next_rank And l = refl
next_rank Or l = absurd (omega arith)

module _ (source : Source) where
  chain_is : (p : Precedence) → chain source p ≡ linked source p (side source p)
  unfolding product sum relation equality conjunction disjunction
  chain_is Product = refl
  chain_is Sum = refl
  chain_is Relation = refl
  chain_is Equality = refl
  chain_is And = refl
  chain_is Or = refl

  -- the operand before any operators
  pub side_alone : (p : Precedence) → tighter p ≡ None → side source p ≡ unary source
  side_alone Product e = refl
  side_alone Sum e = absurd cc
  side_alone Relation e = absurd cc
  side_alone Equality e = absurd cc
  side_alone And e = absurd cc
  side_alone Or e = absurd cc

  same_some : (p q : Precedence) → Some p ≡ Some q → p ≡ q
  same_some p q e = cc

  pub side_is : (p q : Precedence) → tighter p ≡ Some q → side source p ≡ chain source q
  side_is Product q e = absurd cc
  side_is Sum q e = ap (chain source) (same_some Product q e)
  side_is Relation q e = ap (chain source) (same_some Sum q e)
  side_is Equality q e = ap (chain source) (same_some Relation q e)
  side_is And q e = ap (chain source) (same_some Equality q e)
  side_is Or q e = ap (chain source) (same_some And q e)

  next_side : (p : Precedence) → rank p < 5 → side source (next p) ≡ chain source p
  next_side Product l = refl
  next_side Sum l = refl
  next_side Relation l = refl
  next_side Equality l = refl
  next_side And l = refl
  next_side Or l = absurd (omega arith)

  side_above : (k : ℕ) → k < 5 → side source (of_rank (suc k)) ≡ chain source (of_rank k)
  side_above zero l = refl
  side_above (suc zero) l = refl
  side_above (suc (suc zero)) l = refl
  side_above (suc (suc (suc zero))) l = refl
  side_above (suc (suc (suc (suc zero)))) l = refl
  side_above (suc (suc (suc (suc (suc k))))) l = absurd (omega arith)

module _ (source : Source) (n : ℕ) where
  no_links : (p : Precedence) (j : ℕ) → member (terminal_at source j) (operators p) ≡ false
      → reader source n (many (link source p (side source p))) j ≡ Got [] j
  unfolding parse
  no_links p j off =
      many_end (forms source) (text_of source) (fit source).ok (length source.lexemes.now) (fit source).past n
      (link source p (side source p)) (links source p).all j
      (at_first (link source p (side source p)) _ _ false (links source p).starts off)

  module _ (i : ℕ) where
    links_built : (q : ℕ) (e : Expr) (rest : List Link)
        → to_chain source i q (Values e ∷ map Links rest) ≡ chained (span_between source i q) (e ∷ []) rest
    links_built q e rest =
        ap (λ (x : List Expr). chained (span_between source i q) (e ∷ x) (links_of (map Links rest)))
        (values_of_links rest)
        ∙ ap (λ (x : List Link). chained (span_between source i q) (e ∷ []) x) (links_of_links rest)

    chain_step : (p : Precedence) (j q : ℕ) (e : Expr) (u : List Part)
        → reader source n (side source p) i ≡ Got (Values e ∷ []) j
        → reader source n (many (link source p (side source p))) j ≡ Got u q
        → reader source n (chain source p) i ≡ Got (to_chain source i q (Values e ∷ u)) q
    chain_step p j q e u front behind =
        ap (λ g. reader source n g i) (chain_is source p)
        ∙ read_act (forms source) (text_of source) (length source.lexemes.now) n (to_chain source)
        (seq (side source p) (many (link source p (side source p)))) i q (Values e ∷ u)
        (read_both (forms source) (text_of source) (length source.lexemes.now) n
        (side source p) (many (link source p (side source p))) i j q (Values e ∷ []) u front behind)

    -- no such operator stands behind it
    pub chain_same : (p : Precedence) (j : ℕ) (e : Expr) → reader source n (side source p) i ≡ Got (Values e ∷ []) j
        → member (terminal_at source j) (operators p) ≡ false
        → reader source n (chain source p) i ≡ Got (Values e ∷ []) j
    chain_same p j e front off = chain_step p j j e [] front (no_links p j off)

    -- such operators with their operands stand behind it
    pub chain_links : (p : Precedence) (j q : ℕ) (e v : Expr) (rest : List Link)
        → reader source n (side source p) i ≡ Got (Values e ∷ []) j
        → reader source n (many (link source p (side source p))) j ≡ Got (map Links rest) q
        → chained (span_between source i q) (e ∷ []) rest ≡ Values v ∷ []
        → reader source n (chain source p) i ≡ Got (Values v ∷ []) q
    chain_links p j q e v rest front behind made =
        chain_step p j q e (map Links rest) front behind
        ∙ ap (λ (x : List Part). Got x q) (links_built q e rest ∙ made)

    one_fails : (p : Precedence) (error : ReadError) → Fails error (reader source n (side source p) i)
        → Fails error (reader source n (chain source p) i)
    one_fails p error x =
        subst (λ g. Fails error (reader source n g i)) (sym (chain_is source p))
        (fails_act (forms source) (text_of source) (length source.lexemes.now) n (to_chain source)
        (seq (side source p) (many (link source p (side source p)))) i error
        (fails_first (forms source) (text_of source) (length source.lexemes.now) n
        (side source p) (many (link source p (side source p))) i error x))

    links_fail : (p : Precedence) (j : ℕ) (u : List Part) (error : ReadError)
        → reader source n (side source p) i ≡ Got u j
        → Fails error (reader source n (many (link source p (side source p))) j)
        → Fails error (reader source n (chain source p) i)
    links_fail p j u error front x =
        subst (λ g. Fails error (reader source n g i)) (sym (chain_is source p))
        (fails_act (forms source) (text_of source) (length source.lexemes.now) n (to_chain source)
        (seq (side source p) (many (link source p (side source p)))) i error
        (fails_seq (forms source) (text_of source) (length source.lexemes.now) n
        (side source p) (many (link source p (side source p))) i j u error front x))

    fails_up : (m k : ℕ) (error : ReadError) → m + k < 6 → Fails error (reader source n (chain source (of_rank k)) i)
        → Fails error (reader source n (chain source (of_rank (m + k))) i)
    fails_up zero k error l x =
        let same : k ≡ zero + k = omega arith in
        subst (λ (m : ℕ). Fails error (reader source n (chain source (of_rank m)) i)) same x
    fails_up (suc m) k error l x =
        let same : suc (m + k) ≡ suc m + k = omega arith in
        let below : m + k < 6 = omega arith in
        let lower : m + k < 5 = omega arith in
        subst (λ (m : ℕ). Fails error (reader source n (chain source (of_rank m)) i)) same
        (one_fails (of_rank (suc (m + k))) error
        (subst (λ g. Fails error (reader source n g i)) (sym (side_above source (m + k) lower))
        (fails_up m k error below x)))

    -- what has no operand of some operators has none of those that bind less
    chain_fails : (p q : Precedence) (error : ReadError) → rank p ≤ rank q
        → Fails error (reader source n (chain source p) i) → Fails error (reader source n (chain source q) i)
    chain_fails p q error le x =
        let same : (rank q - rank p) + rank p ≡ rank q = omega arith in
        let small : rank q < 6 = rank_small q in
        let below : (rank q - rank p) + rank p < 6 = omega arith in
        let up : Fails error (reader source n (chain source (of_rank ((rank q - rank p) + rank p))) i) =
        fails_up (rank q - rank p) (rank p) error below
        (subst (λ (r : Precedence). Fails error (reader source n (chain source r) i)) (sym (of_own_rank p)) x) in
        subst (λ (r : Precedence). Fails error (reader source n (chain source r) i)) (ap of_rank same ∙ of_own_rank q) up

    pub first_fails : (q : Precedence) (error : ReadError) → Fails error (reader source n (unary source) i)
        → Fails error (reader source n (chain source q) i)
    first_fails q error x =
        let le : rank Product ≤ rank q = omega arith in chain_fails Product q error le (one_fails Product error x)

    pub chain_links_fail : (p q : Precedence) (j : ℕ) (u : List Part) (error : ReadError) → rank p ≤ rank q
        → reader source n (side source p) i ≡ Got u j
        → Fails error (reader source n (many (link source p (side source p))) j)
        → Fails error (reader source n (chain source q) i)
    chain_links_fail p q j u error le front x = chain_fails p q error le (links_fail p j u error front x)

    -- what was read so far: what stands on a side of the operators that are looked for next, or all
    abbrev pub Climbed : Precedence → Option Precedence → Expr → ℕ → Type 0
    Climbed last None value place = reader source n (chain source last) i ≡ Got (Values value ∷ []) place
    Climbed last (Some p) value place =
        (rank p ≤ rank last) × (reader source n (side source p) i ≡ Got (Values value ∷ []) place)

    pub climbed : (p last : Precedence) (value : Expr) (place : ℕ) → rank p ≤ rank last
        → reader source n (chain source p) i ≡ Got (Values value ∷ []) place
        → Climbed last (looser p last) value place
    climbed p last value place le read = go (rank p == rank last) refl
      where
        go : (b : Bool) → (rank p == rank last) ≡ b
            → Climbed last (if b then None else Some (next p)) value place
        go true e =
            let same : rank p ≡ rank last = grind (arith, nat_tests) in
            subst (λ (r : Precedence). reader source n (chain source r) i ≡ Got (Values value ∷ []) place)
            (same_rank p last same) read
        go false e =
            let small : rank last < 6 = rank_small last in
            let less : rank p < rank last = grind (arith, nat_tests) in
            let low : rank p < 5 = omega arith in
            let r : rank (next p) ≡ rank p + 1 = next_rank p low in
            (omega arith, ap (λ g. reader source n g i) (next_side source p low) ∙ read)

    -- an operator is looked for next
    pub climbing : (last : Precedence) (binding : Option Precedence) (p : Precedence) (value : Expr) (place : ℕ)
        → binding ≡ Some p → Climbed last binding value place
        → (rank p ≤ rank last) × (reader source n (side source p) i ≡ Got (Values value ∷ []) place)
    climbing last binding p value place e x = subst (λ (b : Option Precedence). Climbed last b value place) e x

    -- all operators were looked for
    pub climbed_all : (last : Precedence) (binding : Option Precedence) (value : Expr) (place : ℕ)
        → binding ≡ None → Climbed last binding value place
        → reader source n (chain source last) i ≡ Got (Values value ∷ []) place
    climbed_all last binding value place e x = subst (λ (b : Option Precedence). Climbed last b value place) e x

-- how many precedences are looked for still
abbrev pub left : Precedence → Option Precedence → ℕ
left last None = 0
left last (Some p) = (rank last + 1) - rank p

pub fewer : (p last : Precedence) → rank p ≤ rank last → left last (looser p last) < left last (Some p)
fewer p last le = go (rank p == rank last) refl
  where
    go : (b : Bool) → (rank p == rank last) ≡ b → left last (if b then None else Some (next p)) < left last (Some p)
    go true e = omega arith
    go false e =
        let small : rank last < 6 = rank_small last in
        let less : rank p < rank last = grind (arith, nat_tests) in
        let low : rank p < 5 = omega arith in
        let r : rank (next p) ≡ rank p + 1 = next_rank p low in
        omega arith
