use Rattle.sw_fn_text.proofs.Found.{place-split, place-none}
use Rattle.sw_fn_text.proofs.places.place_in.Goals as goal

pub returns-in-Some : goal.returns-in-Some
returns-in-Some c = place-split _ _ _ _ _ c.in-Some.ensures.cases c.char_count.ensures

pub returns-in-None : goal.returns-in-None
returns-in-None c = place-none _ _ c.in-None.ensures.cases
