-- Lists of tokens that stand in order in a text, some of them empty.
use Rattle.std.proofs.Common.{ℕ, zero, suc, ◌-◌, ◌≤◌, Bool, true, false, List, [], ◌∷◌, ◌++◌, arith, length, take, Option, Some, None}
use Rattle.std.specs.Prelude.{◌==◌, ◌&&◌, nat_lt, if◌then◌else◌, slice_get, unwrap_or}
use Rattle.std.specs.Str.{IsCharBoundary}
use Rattle.sw_tokens.specs.declared.token.Token.{Token}
use Rattle.sw_tokens.specs.Ends.{opens, closes, last_end, reached}
use Rattle.sw_tokens.specs.Order.{StandsIn, InOrder}
use Rattle.sw_parse_layout.specs.declared.laid.Laid.{Laid}
use Rattle.sw_parse_layout.specs.Laid.{earlier, both}
use Rattle.sw_parse_layout.specs.Layout.{CutIf, end_of}

module _ (bs : List ℕ) where
  -- tokens that begin from i to j, none before the one before it
  abbrev pub Runs : ℕ → ℕ → List Token → Type 0
  Runs i j [] = i ≤ j
  Runs i j (t ∷ ts) = (i ≤ t.from) × StandsIn bs t × Runs t.from j ts

  pub runs_from : (i k j : ℕ) (ts : List Token) → i ≤ k → Runs k j ts → Runs i j ts
  runs_from i k j [] l r = omega arith
  runs_from i k j (t ∷ ts) l r = (let m = r.0 in omega arith, r.1, r.2)

  pub runs_both : (i j k : ℕ) (ts us : List Token) → Runs i j ts → Runs j k us → Runs i k (ts ++ us)
  runs_both i j k [] us r q = runs_from i j k us r q
  runs_both i j k (t ∷ ts) us r q = (r.0, r.1, runs_both t.from j k ts us r.2 q)

  pub runs_later : (i j k : ℕ) (ts : List Token) → j ≤ k → Runs i j ts → Runs i k ts
  runs_later i j k [] l r = omega arith
  runs_later i j k (t ∷ ts) l r = (r.0, r.1, runs_later t.from j k ts l r.2)

  pub runs_order : (i j : ℕ) (ts : List Token) → Runs i j ts → InOrder bs i ts
  runs_order i j [] r = tt
  runs_order i j (t ∷ ts) r = (r.0, r.1, runs_order t.from j ts r.2)

  -- a token that is laid at a place
  pub one_token : (i j : ℕ) (t : Token) → i ≤ t.from → t.from ≤ j → StandsIn bs t → Runs i j (t ∷ [])
  one_token i j t l m s = (l, s, m)

  -- what a step lays
  pub record Lays (i j : ℕ) (laid : Laid) : Type 0 where
    pub runs : Runs i j laid.tokens
    pub refused : CutIf bs laid.refused

  cut_earlier : (a b : Option ℕ) → CutIf bs a → CutIf bs b → CutIf bs (earlier a b)
  cut_earlier None b x y = y
  cut_earlier (Some k) b x y = x

  pub lays_both : (i j k : ℕ) (x y : Laid) → Lays i j x → Lays j k y → Lays i k (both x y)
  lays_both i j k x y l m =
      record {
        runs = runs_both i j k x.tokens y.tokens l.runs m.runs;
        refused = cut_earlier x.refused y.refused
            l.refused m.refused;
      }

  -- the ends of what is closed further on
  abbrev EndsFrom : ℕ → List ℕ → Type 0
  EndsFrom i [] = Unit {0}
  EndsFrom i (e ∷ es) = (i ≤ e) × IsCharBoundary bs e × EndsFrom i es

  ends_from : (i j : ℕ) (es : List ℕ) → i ≤ j → EndsFrom j es → EndsFrom i es
  ends_from i j [] l f = tt
  ends_from i j (e ∷ es) l f = (let m = f.0 in omega arith, f.1, ends_from i j es l f.2)

  ends_less : (i n : ℕ) (es : List ℕ) → EndsFrom i es → EndsFrom i (take n es)
  ends_less i zero [] f = tt
  ends_less i (suc n) [] f = tt
  ends_less i zero (e ∷ es) f = tt
  ends_less i (suc n) (e ∷ es) f = (f.0, f.1, ends_less i n es f.2)

  ends_more : (i : ℕ) (es : List ℕ) (e : ℕ) → EndsFrom i es → i ≤ e → IsCharBoundary bs e → EndsFrom i (es ++ e ∷ [])
  ends_more i [] e f l cut = (l, cut, tt)
  ends_more i (d ∷ es) e f l cut = (f.0, f.1, ends_more i es e f.2 l cut)

  record IsFrom (i e : ℕ) : Type 0 where
    from : i ≤ e
    cut : IsCharBoundary bs e

  from_in : (i k : ℕ) (es : List ℕ) (d : ℕ) → EndsFrom i es → i ≤ d → IsCharBoundary bs d
      → IsFrom i (unwrap_or (slice_get es k) d)
  from_in i k [] d f l cut = record { from = l; cut = cut }
  from_in i zero (e ∷ es) d f l cut = record { from = f.0; cut = f.1 }
  from_in i (suc k) (e ∷ es) d f l cut = from_in i k es d f.2 l cut

  reaching_from : (i : ℕ) (b : Bool) (es : List ℕ) (to : ℕ) → EndsFrom i es → i ≤ to → IsCharBoundary bs to
      → IsFrom i (if b then last_end es to else to)
  reaching_from i true es to f l cut = from_in i (length es - 1) es to f l cut
  reaching_from i false es to f l cut = record { from = l; cut = cut }

  ends_step : (i : ℕ) (opening closing : Bool) (es : List ℕ) (to : ℕ) → EndsFrom i es → i ≤ to → IsCharBoundary bs to
      → EndsFrom i (if opening then take (length es - 1) es else (if closing then es ++ to ∷ [] else es))
  ends_step i true closing es to f l cut = ends_less i (length es - 1) es f
  ends_step i false true es to f l cut = ends_more i es to f l cut
  ends_step i false false es to f l cut = f

  record IsOrdered (i : ℕ) (ts : List Token) (es : List ℕ) : Type 0 where
    order : InOrder bs i ts
    ends : EndsFrom i es

  reached_ordered : (i : ℕ) (ts : List Token) → InOrder bs i ts → IsOrdered i (reached ts).list (reached ts).ends
  reached_ordered i [] f = record { order = tt; ends = tt }
  reached_ordered i (t ∷ ts) f =
      let later = reached_ordered t.from ts f.2 in
      let first = f.0 in
      let forward = f.1.order in
      let end = reaching_from t.from (opens t.kind) (reached ts).ends t.to later.ends forward f.1.to in
      record {
        order = (first, record { from = f.1.from; to = end.cut; order = end.from }, later.order);
        ends =
            ends_step i (opens t.kind) (closes t.kind) (reached ts).ends t.to (ends_from i t.from (reached ts).ends
            first later.ends) (omega arith) f.1.to;
      }

  -- tokens that stand in order do so with their ends
  pub reached_order : (i : ℕ) (ts : List Token) → InOrder bs i ts → InOrder bs i (reached ts).list
  reached_order i ts f = (reached_ordered i ts f).order

  -- a token ends where a character ends
  pub end_of_cut : (k i : ℕ) (ts : List Token) → IsCharBoundary bs k → InOrder bs i ts → IsCharBoundary bs (end_of k ts)
  end_of_cut k i [] cut f = cut
  end_of_cut k i (t ∷ ts) cut f = go ((t.from == k) && nat_lt k t.to) (end_of_cut k t.from ts cut f.2)
    where
      go : (b : Bool) → IsCharBoundary bs (end_of k ts) → IsCharBoundary bs (if b then t.to else end_of k ts)
      go true later = f.1.to
      go false later = later
