-- A function value that reads expressions to a depth.
use Rattle.std.specs.Prelude.{ℕ, ◌+◌, ◌<◌, length, List, Result, IfOk}
use Rattle.std.specs.Borrow.{Bor}
use Rattle.std.specs.declared.alloc.Global.{Global}
use Rattle.vl_tree.specs.declared.token.Token.{Token}
use Rattle.vl_tree.specs.declared.tree.Expression.{Expression}
use Rattle.vl_tree.specs.declared.fault.Fault.{Fault}
use Rattle.vl_tree.specs.Reading.{Gives}
use Rattle.vl_tree.specs.Expressions.{expr}

pub record Nests (depth : ℕ) (pre : Global → Bor (List Token) → ℕ → Type 0) (post : Global → Bor (List Token) → ℕ → Result (Expression × Bor (List Token)) Fault → Type 0) : Type 0 where
  pub callable : (alloc : Global) (tokens : Bor (List Token)) → length tokens.now + 1 < depth → pre alloc tokens depth
  pub reads : (alloc : Global) (tokens : Bor (List Token)) (r : Result (Expression × Bor (List Token)) Fault) → post alloc tokens depth r → Gives r (expr depth tokens.now)
  pub shorter : (alloc : Global) (tokens : Bor (List Token)) (r : Result (Expression × Bor (List Token)) Fault) → post alloc tokens depth r → IfOk r (λ x. length x.1.now < length tokens.now)
