use Rattle.sw_selector.proofs.nesting.nest.Goals as goal

pub returns-in-Some : goal.returns-in-Some
returns-in-Some c =
    rw c.in-Some.is (rw (c.as_slice-in-Some.ensures.list, c.as_slice-in-Some-2.ensures.list) at c.nested_under.ensures)
