-- Statements whose loops have headers of loop variables and constants (IEEE 1364-2005, clause 9.6; construct 21 refuses others).
use Rattle.std.specs.Prelude.{◌≡◌, ℕ, true, List, ⊤}
use Rattle.vl_design.specs.Syntax.{Row}
use Rattle.vl_design.specs.Sound.{IsNamed, IsSoundExp}
use Rattle.vl_design.specs.Plain.{plain_scope}
use Rattle.vl_design.specs.Placed as p
use Rattle.vl_design.specs.Plainly as plain
use Rattle.vl_loops.specs.Unroll.{is_loop}
use Rattle.vl_loops.specs.Fits.{IsHeader}
use Rattle.vl_loops.specs.Heads.{IsHead}

-- the loop variable has a name, its assignments are of constants, and its test is one
pub record IsLoop (rows : List Row) (j : ℕ) (start : p.Stm) (test : p.Exp) (step : p.Stm) : Type 0 where
  pub variable : is_loop rows j ≡ true
  pub named : IsNamed (plain_scope rows).names j
  pub starts : IsHead (plain_scope rows).names j start
  pub constant : IsHeader rows (plain.exp test)
  pub sound : IsSoundExp (plain_scope rows).names (plain.exp test)
  pub steps : IsHead (plain_scope rows).names j step

abbrev mutual
  pub HasHeads : List Row → p.Stm → Type 0
  HasHeads rows (p.Nop at) = ⊤
  HasHeads rows (p.Seq at as') = HaveHeads rows as'
  HasHeads rows (p.If at t a b) = HasHeads rows a × HasHeads rows b
  HasHeads rows (p.Case at x is wild) = ItemsHaveHeads rows is
  HasHeads rows (p.For at j start test step a) = IsLoop rows j start test step × HasHeads rows a
  HasHeads rows (p.Repeat at n a) = HasHeads rows a
  HasHeads rows (p.Set at t x) = ⊤
  HasHeads rows (p.Later at t x) = ⊤
  HasHeads rows (p.Task at name given) = ⊤

  pub HaveHeads : List Row → p.Stms → Type 0
  HaveHeads rows p.NoStms = ⊤
  HaveHeads rows (p.MoreStms a as') = HasHeads rows a × HaveHeads rows as'

  pub ItemsHaveHeads : List Row → p.Items → Type 0
  ItemsHaveHeads rows p.NoItems = ⊤
  ItemsHaveHeads rows (p.MoreItems es a others) = HasHeads rows a × ItemsHaveHeads rows others
