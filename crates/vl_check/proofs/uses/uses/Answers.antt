use Rattle.vl_design.specs.Seen.{placed}
use Rattle.vl_check.specs.Standing.{standing_faults}
use Rattle.vl_bits.specs.Drivers.{IsDrivenTwice}
use Rattle.vl_check.specs.Recursion.{IsRecursion}
use Rattle.vl_check.specs.Saves.{saves_faults}
use Rattle.vl_check.proofs.Together.{first-four}
use Rattle.vl_check.proofs.uses.uses.Goals as goal

pub returns : goal.returns
returns c =
    let d = placed c.args.design.now in
    first-four (standing_faults d) (saves_faults d) (IsDrivenTwice d) (IsRecursion d)
    c.in_ok-standing.standing c.in_ok-driven.driven c.in_ok-recursive.recursive c.in_ok-saved.saved c.first_of.result c.first_of-later.result c.first_of-2.result
    c.in_ok-standing.ensures c.in_ok-driven.ensures c.in_ok-recursive.ensures c.in_ok-saved.ensures c.first_of.ensures c.first_of-later.ensures c.first_of-2.ensures
