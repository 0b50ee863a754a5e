-- How heavy and how deep a value is.
use Rattle.std.specs.Prelude.{ℕ, ◌+◌, max, length, nat_le, Bool, ◌&&◌, List, [], ◌∷◌, sum, sum_by}
use Rattle.sw_values.specs.Numbers.{number_nest}
use Rattle.sw_values.specs.declared.plain.Plain.{Plain, fold-Plain}
use Rattle.sw_values.specs.declared.plain.Plain.TheOpen.{Plain-F}

-- 1, and the bytes of a string, and the weights of items, keys and values
abbrev pub weigh_step : Plain-F ℕ → ℕ
weigh_step (Plain-F.Number number) = 1
weigh_step (Plain-F.Text text quoted) = length text + 1
weigh_step (Plain-F.Colour colour) = 1
weigh_step (Plain-F.List items separator bracketed) = sum items + 1
weigh_step (Plain-F.Map pairs) = sum_by (λ p. p.0 + p.1) pairs + 1
weigh_step (Plain-F.Bool truth) = 1
weigh_step Plain-F.Null = 1
weigh_step (Plain-F.Args items named) = sum items + sum_by (λ p. length p.0 + 1 + p.1) named + 1

unfoldable pub weigh : Plain → ℕ
weigh = fold-Plain ℕ weigh_step

-- the weight that no value passes
abbrev pub most : ℕ
most = 1048576

-- the greatest of these numbers
abbrev pub greatest_by : {A : Type 0} → (A → ℕ) → List A → ℕ
greatest_by f [] = 0
greatest_by f (x ∷ xs) = max (f x) (greatest_by f xs)

abbrev pub nest_step : Plain-F ℕ → ℕ
nest_step (Plain-F.Number number) = number_nest number
nest_step (Plain-F.List items separator bracketed) = greatest_by (λ n. n) items + 1
nest_step (Plain-F.Map pairs) = greatest_by (λ p. max p.0 p.1) pairs + 1
nest_step (Plain-F.Args items named) = max (greatest_by (λ n. n) items) (greatest_by (λ p. p.1) named) + 1
nest_step _ = 1

unfoldable pub nest : Plain → ℕ
nest = fold-Plain ℕ nest_step

-- the nesting that no value passes
abbrev pub deepest : ℕ
deepest = 1000

-- whether it passes neither limit
abbrev pub is_within : Plain → Bool
is_within value = nat_le (weigh value) most && nat_le (nest value) deepest
