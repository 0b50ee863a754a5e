use Rattle.std.proofs.Common.{ℕ, List, Bor, rules, sym, ◌∙◌}
use Rattle.std.specs.Ordering.{nat_cmp}
use Rattle.std.specs.Cmp.Lexicographic.{slice_cmp}
use Rattle.std.proofs.lemmas.Fn.{always_returns_same}
use Rattle.sw_tree.specs.declared.callable.Kind.{Kind}
use Rattle.sw_builtins.specs.declared.built_in.Found.{Found}
use Rattle.sw_builtins.proofs.Searching.{present, none_found}
use Rattle.sw_builtins.proofs.search.search.Goals as goal

abbrev Texts : Type 0
Texts = Bor (List ℕ) × Kind × Found

-- the row at the place has the name
pub returns-in-Ok : goal.returns-in-Ok
returns-in-Ok c =
    let key = c.args.name.now in
    let found = c.in-Ok.ensures.position (λ (row : Texts). slice_cmp nat_cmp row.0.now key) (always_returns_same _ _ _ (λ a r f called. search rules)) in
    c.of_kind.ensures ∙ sym (present (λ (row : Texts). row.0.now) (λ (row : Texts). row.1) (λ (row : Texts). row.2) c.args.rows.now c.args.kind key c.in-Ok.at _ c.in-Ok.ensures.bound c.requires (found _))

-- no row has the name
pub returns-in-Err : goal.returns-in-Err
returns-in-Err c =
    let key = c.args.name.now in
    let parted = c.in-Err.ensures.position (λ (row : Texts). slice_cmp nat_cmp row.0.now key) (always_returns_same _ _ _ (λ a r f called. search rules)) in
    sym (none_found (λ (row : Texts). row.0.now) (λ (row : Texts). row.1) (λ (row : Texts). row.2) c.args.rows.now c.args.kind key c.in-Err.field-0 c.requires parted)
