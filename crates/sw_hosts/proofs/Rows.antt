-- The functions of a list of hosts.
use Rattle.std.proofs.Common.{◌≡◌, ◌≢◌, ◌-◌, ◌^◌, ℕ, ◌+◌, ◌<◌, ◌≤◌, suc, Bool, true, false, List, [], ◌∷◌, ◌++◌, length, take, drop, set, map, get_or, refl, sym, ◌∙◌, ap, arith, append_assoc, length-append, Option, Some, None, rules}
use Rattle.std.specs.Prelude.{bytes_eq, not, slice_get, if◌then◌else◌, option_map, slice_set, slice_index_or}
use Rattle.std.specs.Option.{is_some}
use Rattle.std.specs.List.{remove}
use Rattle.std.proofs.Math.Seq.{drop-length, map-set_same}
use Rattle.std.proofs.lemmas.List.{drop_more, get_or_default}
use Rattle.std.proofs.lemmas.Option.{slice_get_past, slice_get-get_or}
use Rattle.std.proofs.lemmas.Slice.Eq.{bytes_eq-Decides}
use Rattle.sw_values.specs.declared.plain.Plain.{Plain}
use Rattle.sw_world.specs.Hosts.{HostFunction, HostState}
use Rattle.sw_text.specs.Names.{dashed}
use Rattle.sw_hosts.specs.Kinds.{host_row}
use Rattle.sw_hosts.specs.declared.refusal.Why.{Why}
use Rattle.sw_hosts.specs.declared.refusal.Why.TheVariants.{BadName, Taken}
use Rattle.sw_hosts.specs.Names.{is_name}
use Rattle.sw_hosts.specs.Tables.{stored, without, with_numbers, row_of, attached, refusal, answer, after, after_by}
use Rattle.sw_hosts.specs.Seats.{place_in}

module _ {A : Type 0} (r : A → HostFunction) (n : List ℕ) where
  pub at_place : (xs : List A) → stored (map r xs) n ≡ option_map r (slice_get xs (place_in (λ x. (r x).name) xs n))
  at_place [] = refl
  at_place (x ∷ xs) =
      elim (bytes_eq (r x).name n) as (λ v. (if v then Some (r x) else stored (map r xs) n) ≡ option_map r (slice_get (x ∷ xs) (if v then 0 else suc (place_in (λ x. (r x).name) xs n)))) [ true ↦ refl | false ↦ at_place xs ]

  without_place : (xs : List A) → map r (remove xs (place_in (λ x. (r x).name) xs n)) ≡ without (map r xs) n
  without_place [] = search rules
  without_place (x ∷ xs) = let ih = without_place xs in
      elim (bytes_eq (r x).name n) as (λ v. map r (remove (x ∷ xs) (if v then 0 else suc (place_in (λ x. (r x).name) xs n))) ≡ (if v then map r xs else r x ∷ without (map r xs) n)) [ true ↦ refl | false ↦ ap (λ rest. r x ∷ rest) ih ]

  pub without_none : (xs : List A) → length xs ≡ place_in (λ x. (r x).name) xs n → map r xs ≡ without (map r xs) n
  without_none [] = λ e. refl
  without_none (x ∷ xs) = let ih = without_none xs in
      elim (bytes_eq (r x).name n) as (λ v. length (x ∷ xs) ≡ (if v then 0 else suc (place_in (λ x. (r x).name) xs n)) → r x ∷ map r xs ≡ (if v then map r xs else r x ∷ without (map r xs) n))
      [ true ↦ λ e. absurd (omega arith) | false ↦ λ e. ap (λ rest. r x ∷ rest) (ih (omega arith)) ]

  -- the host at a place has other numbers
  set_place : (xs : List A) (y : A) (next : List ℕ) → place_in (λ x. (r x).name) xs n < length xs
      → (r y).name ≡ (r (slice_index_or xs (place_in (λ x. (r x).name) xs n) y)).name → (r y).sort ≡ (r (slice_index_or xs (place_in (λ x. (r x).name) xs n) y)).sort → (r y).numbers ≡ next
      → map r (slice_set xs (place_in (λ x. (r x).name) xs n) y) ≡ with_numbers (map r xs) n next
  set_place [] y next = λ lt a b c. refl
  set_place (x ∷ xs) y next = let ih = set_place xs y next in
      elim (bytes_eq (r x).name n) as (λ v. (if v then 0 else suc (place_in (λ x. (r x).name) xs n)) < length (x ∷ xs)
      → (r y).name ≡ (r (slice_index_or (x ∷ xs) (if v then 0 else suc (place_in (λ x. (r x).name) xs n)) y)).name → (r y).sort ≡ (r (slice_index_or (x ∷ xs) (if v then 0 else suc (place_in (λ x. (r x).name) xs n)) y)).sort → (r y).numbers ≡ next
      → map r (slice_set (x ∷ xs) (if v then 0 else suc (place_in (λ x. (r x).name) xs n)) y) ≡ (if v then record { name = (r x).name; sort = (r x).sort; numbers = next } ∷ map r xs else r x ∷ with_numbers (map r xs) n next)) [
        | true ↦ λ lt a b c. ap (λ (u : HostFunction). u ∷ map r xs) (ap (λ (m : List ℕ). record { name = m; sort = (r y).sort; numbers = (r y).numbers }) a ∙ ap (λ (m : ℕ). record { name = (r x).name; sort = m; numbers = (r y).numbers }) b ∙ ap (λ (m : List ℕ). record { name = (r x).name; sort = (r x).sort; numbers = m }) c)
        | false ↦ λ lt a b c. ap (λ rest. r x ∷ rest) (ih (omega arith) a b c)
      ]

  -- no host has the name
  pub none : (xs : List A) (at : ℕ) → at ≡ place_in (λ x. (r x).name) xs n → length xs ≤ at → stored (map r xs) n ≡ None
  none xs at e l = at_place xs ∙ ap (λ (o : Option A). option_map r o) (slice_get_past xs (place_in (λ x. (r x).name) xs n) (omega arith))

  -- the host that was read has the name
  some : (xs : List A) (at : ℕ) (d : A) → at ≡ place_in (λ x. (r x).name) xs n → at < length xs → stored (map r xs) n ≡ Some (r (get_or xs at d))
  some xs at d e l = at_place xs ∙ ap (λ (i : ℕ). option_map r (slice_get xs i)) (sym e) ∙ ap (λ (o : Option A). option_map r o) (slice_get-get_or xs at d l)

  pub is_none : (xs : List A) (at : ℕ) → at ≡ place_in (λ x. (r x).name) xs n → length xs ≤ at → is_some (stored (map r xs) n) ≡ false
  is_none xs at e l = ap (λ (o : Option HostFunction). is_some o) (none xs at e l)

  pub found : (xs : List A) (at : ℕ) → at ≡ place_in (λ x. (r x).name) xs n → at < length xs → is_some (stored (map r xs) n) ≡ true
  found [] at e l = absurd (omega arith)
  found (x ∷ xs) at e l = ap (λ (o : Option HostFunction). is_some o) (some (x ∷ xs) at x e l)

  -- the name that is read there
  read_by : (x : A) (xs : List A) (d : A) (b : Bool) → bytes_eq (r x).name n ≡ b → (place_in (λ x. (r x).name) xs n < length xs → (r (get_or xs (place_in (λ x. (r x).name) xs n) d)).name ≡ n)
      → (if b then 0 else suc (place_in (λ x. (r x).name) xs n)) < length (x ∷ xs) → (r (get_or (x ∷ xs) (if b then 0 else suc (place_in (λ x. (r x).name) xs n)) d)).name ≡ n
  read_by x xs d true e ih l = (bytes_eq-Decides (r x).name n).0 e
  read_by x xs d false e ih l = ih (omega arith)

  read : (xs : List A) (d : A) → place_in (λ x. (r x).name) xs n < length xs → (r (get_or xs (place_in (λ x. (r x).name) xs n) d)).name ≡ n
  read [] d = λ l. absurd (omega arith)
  read (x ∷ xs) d = read_by x xs d (bytes_eq (r x).name n) refl (read xs d)

  -- the host that is taken off
  pub handed : (xs : List A) (at : ℕ) (y : A) → at ≡ place_in (λ x. (r x).name) xs n → at < length xs → y ≡ get_or xs at y
      → Some (record { name = n; sort = (r y).sort; numbers = (r y).numbers }) ≡ stored (map r xs) n
  handed xs at y e l is =
      let named : (r y).name ≡ n = ap (λ (x : A). (r x).name) is ∙ ap (λ (i : ℕ). (r (get_or xs i y)).name) e ∙ read xs y (omega arith) in
      ap (λ (m : List ℕ). Some (record { name = m; sort = (r y).sort; numbers = (r y).numbers })) (sym named)
      ∙ ap (λ (x : A). Some (r x)) is ∙ sym (some xs at y e l)

  pub taken : (xs ys : List A) (at : ℕ) → at ≡ place_in (λ x. (r x).name) xs n → ys ≡ remove xs at → map r ys ≡ without (map r xs) n
  taken xs ys at e is = ap (λ (zs : List A). map r zs) is ∙ ap (λ (i : ℕ). map r (remove xs i)) e ∙ without_place xs

  -- the host there, which is called
  pub there : (xs : List A) (at : ℕ) (x : A) → at ≡ place_in (λ x. (r x).name) xs n → at < length xs → x ≡ get_or xs at x → stored (map r xs) n ≡ Some (r x)
  there xs at x e l is = some xs at x e l ∙ ap (λ (z : A). Some (r z)) (sym is)

  -- and the list behind the call
  pub next : (xs : List A) (at : ℕ) (x y : A) (numbers : List ℕ) → at ≡ place_in (λ x. (r x).name) xs n → at < length xs → x ≡ get_or xs at x
      → (r y).name ≡ (r x).name → (r y).sort ≡ (r x).sort → (r y).numbers ≡ numbers
      → map r (set xs at y) ≡ with_numbers (map r xs) n numbers
  next xs at x y numbers e l is a b t =
      let at_x : x ≡ get_or xs (place_in (λ x. (r x).name) xs n) y = is ∙ get_or_default xs at x y l ∙ ap (λ (i : ℕ). get_or xs i y) e in
      ap (λ (i : ℕ). map r (set xs i y)) e
      ∙ set_place xs y numbers (omega arith) (a ∙ ap (λ (z : A). (r z).name) at_x) (b ∙ ap (λ (z : A). (r z).sort) at_x) t

-- a name that forbids itself, and one that doesn't
pub is_taken : (hosts : HostState) (name : List ℕ) → is_name name ≡ true → is_some (stored hosts (dashed name)) ≡ true → Some Taken ≡ refusal hosts name
is_taken hosts name n s =
    sym (ap (λ (b : Bool). if not b then Some BadName else (if is_some (attached hosts name) then Some Taken else None)) n
    ∙ ap (λ (b : Bool). if b then Some Taken else None) s)

pub is_free : (hosts : HostState) (name : List ℕ) → is_name name ≡ true → is_some (stored hosts (dashed name)) ≡ false → None ≡ refusal hosts name
is_free hosts name n s =
    sym (ap (λ (b : Bool). if not b then Some BadName else (if is_some (attached hosts name) then Some Taken else None)) n
    ∙ ap (λ (b : Bool). if b then Some Taken else None) s)

-- the answer of the host that is attached, and the table behind it
pub answered : (hosts : HostState) (name : List ℕ) (args : List Plain) (host : HostFunction) (value : Plain) → stored hosts (dashed name) ≡ Some host
    → value ≡ (row_of host args).value → Some value ≡ answer hosts name args
answered hosts name args host value e v = ap (λ (x : Plain). Some x) v ∙ sym (ap (λ (o : Option HostFunction). option_map (λ h. (row_of h args).value) o) e)

pub changed : (hosts now : HostState) (name : List ℕ) (args : List Plain) (host : HostFunction) → stored hosts (dashed name) ≡ Some host
    → now ≡ with_numbers hosts (dashed name) (row_of host args).next → now ≡ after hosts name args
changed hosts now name args host e v = v ∙ sym (ap (λ (o : Option HostFunction). after_by o hosts name args) e)

-- without such a host
pub unanswered : (hosts : HostState) (name : List ℕ) (args : List Plain) → stored hosts (dashed name) ≡ None → None ≡ answer hosts name args
unanswered hosts name args e = sym (ap (λ (o : Option HostFunction). option_map (λ h. (row_of h args).value) o) e)

pub unchanged : (hosts : HostState) (name : List ℕ) (args : List Plain) → stored hosts (dashed name) ≡ None → hosts ≡ after hosts name args
unchanged hosts name args e = sym (ap (λ (o : Option HostFunction). after_by o hosts name args) e)

module _ {A : Type 0} (f : A → List ℕ) (n : List ℕ) where
  behind : (xs : List A) (i : ℕ) (x : A) → i < length xs → x ≡ get_or xs i x → drop i xs ≡ x ∷ drop (i + 1) xs
  behind xs i x lt is = drop_more xs i x lt ∙ ap (λ (y : A). y ∷ drop (i + 1) xs) (sym is)

  pub place_more : (xs : List A) (i : ℕ) (x : A) (whole : ℕ) → i < length xs → x ≡ get_or xs i x → bytes_eq (f x) n ≡ false → i + place_in f (drop i xs) n ≡ whole
      → (i + 1) + place_in f (drop (i + 1) xs) n ≡ whole
  place_more xs i x whole lt is h e =
      let d = ap (λ (ys : List A). place_in f ys n) (behind xs i x lt is) ∙ ap (λ (b : Bool). if b then 0 else suc (place_in f (drop (i + 1) xs) n)) h in
      omega arith

  pub place_found : (xs : List A) (i : ℕ) (x : A) (whole : ℕ) → i < length xs → x ≡ get_or xs i x → bytes_eq (f x) n ≡ true → i + place_in f (drop i xs) n ≡ whole → i ≡ whole
  place_found xs i x whole lt is h e =
      let d = ap (λ (ys : List A). place_in f ys n) (behind xs i x lt is) ∙ ap (λ (b : Bool). if b then 0 else suc (place_in f (drop (i + 1) xs) n)) h in
      omega arith

  pub place_lost : (xs : List A) (i : ℕ) (whole : ℕ) → i ≡ length xs → i + place_in f (drop i xs) n ≡ whole → length xs ≡ whole
  place_lost xs i whole at e =
      let d = ap (λ (ys : List A). place_in f ys n) (ap (λ (k : ℕ). drop k xs) at ∙ drop-length xs) in
      omega arith
