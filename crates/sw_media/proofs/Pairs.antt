-- Pairs of types.
use Rattle.std.proofs.Common.{◌≡◌, ℕ, Bool, true, false, ◌||◌, List, Some, None, refl}
use Rattle.std.specs.Prelude.{is_some, if◌then◌else◌}
use Rattle.sw_media.specs.declared.query.Modifier.{Modifier}
use Rattle.sw_media.specs.declared.joining.Kind.{Kind}
use Rattle.sw_media.specs.Joining.{same_medium, is_all, either_only, kind_of, two_media, media_meet}

by_cases : (a b c : Bool) (x y z : Kind) → is_some (if a then Some x else (if b then Some y else (if c then Some z else None))) ≡ (a || (b || c))
by_cases true b c x y z = refl
by_cases false true c x y z = refl
by_cases false false true x y z = refl
by_cases false false false x y z = refl

pub media_kept : (outer : Modifier) (a : List ℕ) (inner : Modifier) (b : List ℕ) → is_some (two_media outer a inner b) ≡ media_meet a b
unfolding two_media
media_kept outer a inner b =
    by_cases (same_medium a b) (is_all a) (is_all b) (kind_of (either_only outer inner) (Some a)) (kind_of inner (Some b)) (kind_of outer (Some a))
