use Rattle.std.proofs.Common.{List, ℕ, Bor, map, subst, nat_cmp}
use Rattle.std.specs.Cmp.Lexicographic.{slice_cmp}
use Rattle.std.specs.List.Sorted.{IsPermutation}
use Rattle.std.proofs.lemmas.List.Sorted.{IsPermutation-map}
use Rattle.sw_cmd_disk_folder.proofs.Sorted.{sorted_map}
use Rattle.sw_cmd_disk_folder.proofs.order.in_order.Goals as goal

pub returns : goal.returns
returns c = record {
  same = subst (λ (xs : List (List ℕ)). IsPermutation xs (map (λ (path : Bor (List ℕ)). path.now) c.sort.new.self.items)) c.in_ok-paths.ensures
      (IsPermutation-map (λ (path : Bor (List ℕ)). path.now) c.in_ok-paths.paths.items c.sort.new.self.items c.in_ok-sort.ensures.permutation);
  sorted = sorted_map (λ (path : Bor (List ℕ)). path.now) (slice_cmp nat_cmp) c.sort.new.self.items c.in_ok-sort.ensures.sorted;
}
