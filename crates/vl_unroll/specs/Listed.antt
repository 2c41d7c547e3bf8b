-- What the program's trees stand for with their loops unrolled, one by one (IEEE 1364-2005, clause 9.6).
use Rattle.std.specs.Prelude.{ℕ, List, [], ◌∷◌}
use Rattle.vl_design.specs.declared.design.Expr.{Expr}
use Rattle.vl_design.specs.declared.design.SysArg.{SysArg}
use Rattle.vl_design.specs.declared.design.Target.{Target}
use Rattle.vl_design.specs.declared.design.Stmt.{Stmt}
use Rattle.vl_design.specs.declared.design.CaseItem.{CaseItem}
use Rattle.vl_design.specs.Syntax.{Row}
use Rattle.vl_design.specs.Width.{Scope}
use Rattle.vl_design.specs.State.{State}
use Rattle.vl_design.specs.Placed as p
use Rattle.vl_design.specs.Seen.{exp_of, exps_of, arg, target_of, stm_of}
use Rattle.vl_loops.specs.Placed.{exp_put, exps_put, target_put, stm_unrolled}

abbrev pub put_of : List Row → List (List ℕ) → Expr → p.Exp
put_of rows values x = exp_put rows values (exp_of x)

-- arguments before others
abbrev pub args_with : List SysArg → p.Args → p.Args
args_with [] others = others
args_with (x ∷ xs) others = arg x (args_with xs others)

abbrev pub target_put_of : List Row → List (List ℕ) → Target → p.Target
target_put_of rows values x = target_put rows values (target_of x)

abbrev pub stm_unrolled_of : Scope → State → Stmt → p.Stm
stm_unrolled_of scope e x = stm_unrolled scope (stm_of x) e

-- the labels of an item of a case, and what it does
pub record Item : Type 0 where
  pub labels : p.Exps
  pub body : p.Stm

abbrev pub item_of : CaseItem → Item
item_of x = record { labels = exps_of x.labels.items; body = stm_of x.body }

abbrev pub item_unrolled_of : Scope → State → CaseItem → Item
item_unrolled_of scope e x = record { labels = exps_put scope.names.rows e.values (exps_of x.labels.items); body = stm_unrolled scope (stm_of x.body) e }
