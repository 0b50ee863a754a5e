-- All values are read again, by their productions and through any number of brackets.
use Rattle.std.proofs.Common.{◌≡◌, ℕ, zero, suc, inl, inr, subst, arith}
use Rattle.sw_parse_table.specs.declared.source.Source.{Source}
use Rattle.sw_parse_table.specs.Expressions.{number, quoted, template, hash, constant, url, url_template, special, variable, owned, called, range, parent, important, parens, brackets, literal, other, primary, sum, space, expr}
use Rattle.sw_convert_again.specs.Again.{Again, called_by_name, called_by_owner, ValuesAgain}
use Rattle.sw_convert_again.proofs.Leaves.{number_again, quoted_again, hash_again, constant_again, url_again, variable_again, range_again, parent_again, important_again}
use Rattle.sw_convert_again.proofs.Templates.{template_again}
use Rattle.sw_convert_again.proofs.Urls.{url_template_again}
use Rattle.sw_convert_again.proofs.Owned.{into, owned_again}
use Rattle.sw_convert_again.proofs.Special.{ItemsAgain, item_again, special_again}
use Rattle.sw_convert_again.proofs.Words.{called_again}
use Rattle.sw_convert_again.proofs.Arguments.{named_calls_again, owned_calls_again}
use Rattle.sw_convert_again.proofs.Chains.{sum_again, disjunction_again}
use Rattle.sw_convert_again.proofs.Lists.{space_again, expr_again}
use Rattle.sw_convert_again.proofs.Enclosed.{brackets_again, parens_again}

module _ (source written : Source) (n : ℕ) where
  primary_again : ((m : ℕ) → n ≡ suc m → Again source written m expr) → Again source written n special
      → Again source written n called_by_name → Again source written n called_by_owner
      → Again source written n template → Again source written n parens
      → Again source written n brackets → Again source written n primary
  unfolding primary literal other
  primary_again deep texts calls owned_calls strings round square i j w (inl (inl d)) =
      into source written n (number written) (primary written) (λ p q x r. inl (inl r)) i j w (number_again source written n i j w d)
  primary_again deep texts calls owned_calls strings round square i j w (inl (inr (inl d))) =
      into source written n (quoted written) (primary written) (λ p q x r. inl (inr (inl r))) i j w
      (quoted_again source written n i j w d)
  primary_again deep texts calls owned_calls strings round square i j w (inl (inr (inr (inl d)))) =
      into source written n (template written) (primary written) (λ p q x r. inl (inr (inr (inl r)))) i j w (strings i j w d)
  primary_again deep texts calls owned_calls strings round square i j w (inl (inr (inr (inr (inl d))))) =
      into source written n (hash written) (primary written) (λ p q x r. inl (inr (inr (inr (inl r))))) i j w
      (hash_again source written n i j w d)
  primary_again deep texts calls owned_calls strings round square i j w (inl (inr (inr (inr (inr (inl d)))))) =
      into source written n (constant written) (primary written) (λ p q x r. inl (inr (inr (inr (inr (inl r)))))) i j w
      (constant_again source written n i j w d)
  primary_again deep texts calls owned_calls strings round square i j w (inl (inr (inr (inr (inr (inr (inl d))))))) =
      into source written n (url written) (primary written) (λ p q x r. inl (inr (inr (inr (inr (inr (inl r))))))) i j w
      (url_again source written n i j w d)
  primary_again deep texts calls owned_calls strings round square i j w (inl (inr (inr (inr (inr (inr (inr d))))))) =
      into source written n (url_template written) (primary written) (λ p q x r. inl (inr (inr (inr (inr (inr (inr r))))))) i j w
      (url_template_again source written n deep i j w d)
  primary_again deep texts calls owned_calls strings round square i j w (inr (inl d)) =
      into source written n (special written) (primary written) (λ p q x r. inr (inl r)) i j w (texts i j w d)
  primary_again deep texts calls owned_calls strings round square i j w (inr (inr (inl d))) =
      into source written n (variable written) (primary written) (λ p q x r. inr (inr (inl r))) i j w
      (variable_again source written n i j w d)
  primary_again deep texts calls owned_calls strings round square i j w (inr (inr (inr (inl d)))) =
      into source written n (owned written) (primary written) (λ p q x r. inr (inr (inr (inl r)))) i j w
      (owned_again source written n owned_calls i j w d)
  primary_again deep texts calls owned_calls strings round square i j w (inr (inr (inr (inr (inl d))))) =
      into source written n (called written) (primary written) (λ p q x r. inr (inr (inr (inr (inl r))))) i j w
      (called_again source written n deep calls i j w d)
  primary_again deep texts calls owned_calls strings round square i j w (inr (inr (inr (inr (inr (inl d)))))) =
      into source written n (range written) (primary written) (λ p q x r. inr (inr (inr (inr (inr (inl r)))))) i j w
      (range_again source written n i j w d)
  primary_again deep texts calls owned_calls strings round square i j w (inr (inr (inr (inr (inr (inr (inl d))))))) =
      into source written n (parent written) (primary written) (λ p q x r. inr (inr (inr (inr (inr (inr (inl r))))))) i j w
      (parent_again source written n i j w d)
  primary_again deep texts calls owned_calls strings round square i j w
      (inr (inr (inr (inr (inr (inr (inr (inl d)))))))) =
      into source written n (important written) (primary written) (λ p q x r. inr (inr (inr (inr (inr (inr (inr (inl r)))))))) i j w
      (important_again source written n i j w d)
  primary_again deep texts calls owned_calls strings round square i j w
      (inr (inr (inr (inr (inr (inr (inr (inr (inl d))))))))) =
      into source written n (parens written) (primary written) (λ p q x r. inr (inr (inr (inr (inr (inr (inr (inr (inl r))))))))) i j
      w (round i j w d)
  primary_again deep texts calls owned_calls strings round square i j w
      (inr (inr (inr (inr (inr (inr (inr (inr (inr d))))))))) =
      into source written n (brackets written) (primary written) (λ p q x r. inr (inr (inr (inr (inr (inr (inr (inr (inr r))))))))) i
      j w (square i j w d)

-- with so many brackets around: sums, lists without commas, and items of the text of special functions
record Claim (source written : Source) (n : ℕ) : Type 0 where
  sums : Again source written n sum
  spaces : Again source written n space
  items : ItemsAgain source written n

module _ (source written : Source) where
  -- one level more
  level : (n : ℕ) → ((m : ℕ) → n ≡ suc m → Claim source written m) → Claim source written n
  level n deep =
      let deep_space : (m : ℕ) → n ≡ suc m → Again source written m space = λ m e. (deep m e).spaces in
      let deep_expr : (m : ℕ) → n ≡ suc m
      → Again source written m expr = λ m e. expr_again source written m (deep_space m e) in
      let deep_items : (m : ℕ) → n ≡ suc m → ItemsAgain source written m = λ m e. (deep m e).items in
      let calls = named_calls_again source written n deep_expr deep_space in
      let owned_calls = owned_calls_again source written n deep_expr deep_space in
      let operands = primary_again source written n deep_expr (special_again source written n deep_items) calls owned_calls
      (template_again source written n deep_expr)
      (parens_again source written n deep_space) (brackets_again source written n deep_expr) in record {
        sums = sum_again source written n operands;
        spaces = space_again source written n (disjunction_again source written n operands);
        items = item_again source written n deep_expr deep_items (owned_again source written n owned_calls)
            (called_again source written n deep_expr calls);
      }

  claims : (n : ℕ) → Claim source written n
  claims zero = level zero (λ m e. absurd (omega (arith, e)))
  claims (suc n) =
      level (suc n)
      (λ m e. subst (λ (x : ℕ). Claim source written x) (let z : n ≡ m = omega (arith, e) in z) (claims n))

pub values_again : ValuesAgain
values_again source written n = expr_again source written n (claims source written n).spaces

pub sums_again : (source written : Source) (n : ℕ) → Again source written n sum
sums_again source written n = (claims source written n).sums

pub spaces_again : (source written : Source) (n : ℕ) → Again source written n space
spaces_again source written n = (claims source written n).spaces
