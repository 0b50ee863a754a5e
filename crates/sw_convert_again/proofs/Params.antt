-- Parameters are read again.
use Rattle.std.proofs.Common.{◌≡◌, ◌⊎◌, ℕ, zero, suc, true, List, [], ◌∷◌, ◌++◌, map, Option, Some, None, inl, inr, refl, sym, ◌∙◌, ap, subst}
use Rattle.std.proofs.lemmas.List.{map-append}
use Rattle.sw_parse_grammar.specs.Grammar.{member, Row, Item, done, then}
use Rattle.sw_tree.specs.declared.callable.Param.{Param}
use Rattle.sw_tree.specs.declared.callable.Params.{Params}
use Rattle.sw_parse_terminals.specs.declared.terminal.Terminal.TheVariants as terminals
use Rattle.sw_parse_terminals.specs.Numbers.{just}
use Rattle.sw_parse_table.specs.declared.source.Source.{Source}
use Rattle.sw_parse_table.specs.Parts.{Part, Place, Takes, Rests, Parameters, Values, params_of, rest_of}
use Rattle.sw_parse_table.specs.Sources.{terminal_at, text_of}
use Rattle.sw_parse_table.specs.Actions.{name_at, params_with, to_param, to_parameters}
use Rattle.sw_parse_table.specs.Statements.{param, taking, params}
use Rattle.sw_convert_alike.specs.Statements.{LikeEach, LikeParam, LikeParams}
use Rattle.sw_convert_again.specs.Tokens.{Tok, sign, Stands, Old}
use Rattle.sw_convert_again.specs.Spells.{SpellsPlain}
use Rattle.sw_convert_again.specs.Again.{Reads}
use Rattle.sw_convert_again.specs.Params.{SpellsParam, plain_param, default_param, rest_param, SpellsMoreParams, no_more_params, more_params, SpellsParams, no_params, some_params, dollar_tokens, after_comma, comma_joined, rest_texts, params_in, SpellsHeadParams, in_head}
use Rattle.sw_convert_again.proofs.Tokens.{old_of, is_of, split}
use Rattle.sw_convert_again.proofs.Values.{spaces_again}
use Rattle.sw_convert_again.proofs.Enclosed.{colon_again}
use Rattle.sw_convert_again.proofs.Loops.{name_read, name_back}

abbrev LikePart : Part → Part → Type 0
LikePart (Takes a) (Takes b) = LikeParam a b
LikePart (Rests a) (Rests b) = a ≡ b
LikePart _ _ = ⊥

data LikeList : List Part → List Part → Type 0 where
  like_none : LikeList [] []
  like_more : {a b : Part} {xs ys : List Part} → LikePart a b → LikeList xs ys → LikeList (a ∷ xs) (b ∷ ys)

abbrev rest_parts : Option (List ℕ) → List Part
rest_parts None = []
rest_parts (Some name) = Rests name ∷ []

one_more : (part : Part) (parts : List Part) → params_of (part ∷ parts) ≡ params_of (part ∷ []) ++ params_of parts
one_more (Takes p) parts = refl
one_more _ parts = refl

-- what is like parameters and a rest has such parameters and such a rest
told : (items : List Param) (rest : Option (List ℕ)) (found : List Part) → LikeList (map Takes items ++ rest_parts rest) found
    → LikeEach LikeParam items (params_of found) × (rest ≡ rest_of found)
told [] None [] like_none = (tt, refl)
told [] None (_ ∷ found) l = elim l [ ]
told [] (Some name) [] l = elim l [ ]
told [] (Some name) (_ ∷ (_ ∷ _)) (like_more l ls) = elim ls [ ]
told (item ∷ items) rest [] l = elim l [ ]
told [] (Some name) (Rests other ∷ []) (like_more l like_none) = (tt, ap Some l)
told [] (Some name) (_ ∷ []) (like_more l like_none) = absurd l
told (item ∷ items) rest (Takes other ∷ found) (like_more l ls) =
    let more = told items rest found ls in ((l, more.0), more.1)
told (item ∷ items) rest (_ ∷ found) (like_more l ls) = absurd l

module _ (source written : Source) (n : ℕ) where
  abbrev Fits : Part → List Tok → Type 0
  Fits part text =
      (p q : ℕ) → Stands written p text q
      → (found : Part) × Reads written n (param written) p q (found ∷ []) × LikePart part found

  data AllFit : List Part → List (List Tok) → Type 0 where
    fit_none : AllFit [] []
    fit_more : {part : Part} {parts : List Part} {text : List Tok} {texts : List (List Tok)} → Fits part text
        → AllFit parts texts → AllFit (part ∷ parts) (text ∷ texts)

  fit_both : {parts more : List Part} {texts others : List (List Tok)} → AllFit parts texts → AllFit more others
      → AllFit (parts ++ more) (texts ++ others)
  fit_both fit_none rest = rest
  fit_both (fit_more f fs) rest = fit_more f (fit_both fs rest)

  -- ---- one parameter that is written

  plain_fits : (name : List ℕ) → Fits (Takes (record { name = name; default = None })) (dollar_tokens name)
  unfolding param
  plain_fits name p q stand =
      let (reads, same) = name_back source written n name p q stand in (
        Takes (record { name = name_at written (suc p); default = None }),
        (
          Place (suc p) ∷ [],
          (q, Place (suc p) ∷ [], [], reads, inr (inr (refl, refl)), refl),
          refl,
        ),
        (sym same, tt),
      )

  rest_fits : (name : List ℕ) → Fits (Rests name) (dollar_tokens name ++ sign terminals.Ellipsis ∷ [])
  unfolding param
  rest_fits name p q stand =
      let (place, left, right) = split written q (dollar_tokens name) (sign terminals.Ellipsis ∷ []) p stand in
      let (reads, same) = name_back source written n name p place left in (
        Rests (name_at written (suc p)),
        (
          Place (suc p) ∷ Place place ∷ [],
          (
            place,
            Place (suc p) ∷ [],
            Place place ∷ [],
            reads,
            inr (inl (
              is_of written place (sign terminals.Ellipsis) (just terminals.Ellipsis) right.0 refl,
              sym right.1,
              refl,
            )),
            refl,
          ),
          refl,
        ),
        sym same,
      )

  rests_fit : (rest : Option (List ℕ)) → AllFit (rest_parts rest) (rest_texts rest)
  rests_fit None = fit_none
  rests_fit (Some name) = fit_more (rest_fits name) fit_none

  -- ---- one that was read

  record ParamAgain (i j : ℕ) (w : List Part) : Type 0 where
    part : Part
    is : w ≡ part ∷ []
    texts : List (List Tok)
    spells : SpellsParam source i j part texts
    fits : AllFit (map Takes (params_of (part ∷ []))) texts

  param_again : (i j : ℕ) (w : List Part) → Reads source n (param source) i j w → ParamAgain i j w
  unfolding param
  param_again i j w (u, (k, u1, u2, d, inl v, e1), e2) =
      let name = name_read source written n i k u1 d in
      let value = colon_again source written n (spaces_again source written n) k j u2 v in
      let it : Param = record { name = name_at source (suc i); default = Some value.value } in
      let parts : u ≡ Place (suc i) ∷ Values value.value ∷ [] =
      e1 ∙ ap (λ (x : List Part). x ++ u2) name.1 ∙ ap (λ (x : List Part). Place (suc i) ∷ x) value.is in record {
        part = Takes it;
        is = e2 ∙ ap (to_param source i j) parts;
        texts = (dollar_tokens (name_at source (suc i)) ++ sign terminals.Colon ∷ value.tokens) ∷ [];
        spells = default_param name.2 name.3 (subst (λ (x : ℕ). Old source x (just terminals.Colon)) name.0 value.colon)
            (subst (λ (x : ℕ). SpellsPlain source (suc x) j value.value value.tokens) name.0 value.spells);
        fits = fit_more
            (λ p q stand.
            let (place, left, right) = split written q (dollar_tokens (name_at source (suc i))) (sign terminals.Colon ∷ value.tokens) p stand in
            let (reads, same) = name_back source written n (name_at source (suc i)) p place left in
            let y = value.back place q right in (
              Takes (record { name = name_at written (suc p); default = Some y.found }),
              (
                Place (suc p) ∷ Values y.found ∷ [],
                (place, Place (suc p) ∷ [], Values y.found ∷ [], reads, inl y.reads, refl),
                refl,
              ),
              (sym same, y.alike),
            ))
            fit_none;
      }
  param_again i j w (u, (k, u1, u2, d, inr (inl (m, e3, e4)), e1), e2) =
      let name = name_read source written n i k u1 d in
      let dots = old_of source k (just terminals.Ellipsis) refl m in
      let parts : u ≡ Place (suc i) ∷ Place k ∷ [] =
      e1 ∙ ap (λ (x : List Part). x ++ u2) name.1 ∙ ap (λ (x : List Part). Place (suc i) ∷ x) e4 in record {
        part = Rests (name_at source (suc i));
        is = e2 ∙ ap (to_param source i j) parts;
        texts = [];
        spells = subst (λ (x : ℕ). SpellsParam source i x (Rests (name_at source (suc i))) []) (sym (e3 ∙ ap suc name.0))
            (rest_param name.2 name.3 (subst (λ (x : ℕ). Old source x (just terminals.Ellipsis)) name.0 dots));
        fits = fit_none;
      }
  param_again i j w (u, (k, u1, u2, d, inr (inr (e3, e4)), e1), e2) =
      let name = name_read source written n i k u1 d in
      let it : Param = record { name = name_at source (suc i); default = None } in
      let texts = dollar_tokens (name_at source (suc i)) ∷ [] in
      let parts : u ≡ Place (suc i) ∷ [] =
      e1 ∙ ap (λ (x : List Part). x ++ u2) name.1 ∙ ap (λ (x : List Part). Place (suc i) ∷ x) e4 in record {
        part = Takes it;
        is = e2 ∙ ap (to_param source i j) parts;
        texts = texts;
        spells = subst (λ (x : ℕ). SpellsParam source i x (Takes it) texts) (sym (e3 ∙ name.0)) (plain_param name.2 name.3);
        fits = fit_more (plain_fits (name_at source (suc i))) fit_none;
      }

  -- ---- all of them

  record MoreAgain (i j : ℕ) (w : List Part) : Type 0 where
    texts : List (List Tok)
    spells : SpellsMoreParams source i j w texts
    fits : AllFit (map Takes (params_of w)) texts

  grown : (part : Part) (parts : List Part) (texts others : List (List Tok)) → AllFit (map Takes (params_of (part ∷ []))) texts
      → AllFit (map Takes (params_of parts)) others → AllFit (map Takes (params_of (part ∷ parts))) (texts ++ others)
  grown part parts texts others f g =
      subst (λ (x : List Part). AllFit x (texts ++ others))
      (sym (ap (map Takes) (one_more part parts) ∙ map-append Takes (params_of (part ∷ [])) (params_of parts))) (fit_both f g)

  more_again : {i j : ℕ} {w : List Part} → Row (Item (text_of source) (just terminals.Comma) (Reads source n (param source))) i j w
      → MoreAgain i j w
  more_again done = record { texts = []; spells = no_more_params; fits = fit_none }
  more_again (then {i} {k} {j} {u} {v} (m, d) row) =
      let one = param_again (suc i) k u d in
      let rest = more_again row in
      subst (λ (x : List Part). MoreAgain i j (x ++ v)) (sym one.is) (record {
        texts = one.texts ++ rest.texts;
        spells = more_params (old_of source i (just terminals.Comma) refl m) one.spells rest.spells;
        fits = grown one.part v one.texts rest.texts one.fits rest.fits;
      })

  after_again : {parts : List Part} {texts : List (List Tok)} → AllFit parts texts → (p q : ℕ)
      → Stands written p (after_comma texts) q
      → (found : List Part) × Row (Item (text_of written) (just terminals.Comma) (Reads written n (param written))) p q found
      × LikeList parts found
  after_again fit_none p q e = (
    [],
    subst (λ (x : ℕ). Row (Item (text_of written) (just terminals.Comma) (Reads written n (param written))) p x []) e done,
    like_none,
  )
  after_again (fit_more {part} {parts} {text} {texts} f fs) p q (is, stand) =
      let (place, left, right) = split written q text (after_comma texts) (suc p) stand in
      let (one, reads, same) = f (suc p) place left in
      let (found, rows, others) = after_again fs place q right in (
        one ∷ found,
        then (is_of written p (sign terminals.Comma) (just terminals.Comma) is refl, reads) rows,
        like_more same others,
      )

  taking_back : {parts : List Part} {texts : List (List Tok)} → AllFit parts texts → (p q : ℕ)
      → Stands written p (comma_joined texts) q
      → (found : List Part) × Reads written n (taking written) p q (Parameters (params_with found) ∷ []) × LikeList parts found
  unfolding taking
  taking_back fit_none p q e = ([], ([], inr (sym e, refl), refl), like_none)
  taking_back (fit_more {part} {parts} {text} {texts} f fs) p q stand =
      let (place, left, right) = split written q text (after_comma texts) p stand in
      let (one, reads, same) = f p place left in
      let (found, rows, others) = after_again fs place q right in (
        one ∷ found,
        (one ∷ found, inl (place, one ∷ [], found, reads, (q, rows, inl refl), refl), refl),
        like_more same others,
      )

  record TakingAgain (i j : ℕ) (w : List Part) : Type 0 where
    parts : List Part
    is : w ≡ Parameters (params_with parts) ∷ []
    texts : List (List Tok)
    spells : SpellsParams source i j parts texts
    fits : AllFit (map Takes (params_of parts)) texts

  taking_again : (i j : ℕ) (w : List Part) → Reads source n (taking source) i j w → TakingAgain i j w
  unfolding taking
  taking_again i j w (u, inr (e1, e2), e3) = record {
    parts = [];
    is = e3 ∙ ap to_parameters e2;
    texts = [];
    spells = subst (λ (x : ℕ). SpellsParams source i x [] []) (sym e1) no_params;
    fits = fit_none;
  }
  taking_again i j w (u, inl (k, u1, u2, d, (c, row, end), e1), e3) =
      let one = param_again i k u1 d in
      let rest = more_again row in record {
        parts = one.part ∷ u2;
        is = e3 ∙ ap to_parameters (e1 ∙ ap (λ (x : List Part). x ++ u2) one.is);
        texts = one.texts ++ rest.texts;
        spells = some_params one.spells rest.spells (old_end c j end);
        fits = grown one.part u2 one.texts rest.texts one.fits rest.fits;
      }
    where
      old_end : (stop j : ℕ)
          → (j ≡ stop) ⊎ ((member (terminal_at source stop) (just terminals.Comma) ≡ true) × (j ≡ suc stop))
          → (j ≡ stop) ⊎ ((j ≡ suc stop) × Old source stop (just terminals.Comma))
      old_end stop j (inl e) = inl e
      old_end stop j (inr (c, e)) = inr (e, old_of source stop (just terminals.Comma) refl c)

pub record ParamsAgain (source written : Source) (n i j : ℕ) (w : List Part) : Type 0 where
  pub values : Params
  pub is : w ≡ Parameters values ∷ []
  pub tokens : List Tok
  pub spells : SpellsHeadParams source i j values tokens
  pub back : (p q : ℕ) → Stands written p tokens q
      → (found : Params) × Reads written n (params written) p q (Parameters found ∷ []) × LikeParams values found

pub params_again : (source written : Source) (n i j : ℕ) (w : List Part) → Reads source n (params source) i j w
    → ParamsAgain source written n i j w
unfolding params
params_again source written zero i j w (m1, c, d, m2, e) = absurd d
params_again source written (suc n) i j w (m1, c, d, m2, e) =
    let all = taking_again source written n (suc i) c w d in
    let rest = rest_of all.parts in
    let texts = all.texts ++ rest_texts rest in
    let tokens = params_in all.parts all.texts in record {
      values = params_with all.parts;
      is = all.is;
      tokens = tokens;
      spells = subst (λ (x : ℕ). SpellsHeadParams source i x (params_with all.parts) tokens) (sym e)
          (in_head (old_of source i (just terminals.HeadParen) refl m1) all.spells
          (old_of source c (just terminals.ParenEnd) refl m2));
      back = λ p q stand.
          let (place, left, right) = split written q (comma_joined texts) (sign terminals.ParenEnd ∷ []) (suc p) stand.1 in
          let (found, reads, same) = taking_back source written n
          (fit_both source written n all.fits (rests_fit source written n rest)) (suc p) place left in
          let (items, rests) = told (params_of all.parts) rest found same in (
            params_with found,
            (
              is_of written p (sign terminals.HeadParen) (just terminals.HeadParen) stand.0 refl,
              place,
              reads,
              is_of written place (sign terminals.ParenEnd) (just terminals.ParenEnd) right.0 refl,
              sym right.1,
            ),
            (items, rests),
          );
    }
