-- Function values that read left sides and statements inside others.
use Rattle.std.specs.Prelude.{ℕ, ◌+◌, ◌<◌, length, List, Result, IfOk}
use Rattle.std.specs.Borrow.{Bor}
use Rattle.std.specs.declared.alloc.Global.{Global}
use Rattle.vl_tree.specs.declared.token.Token.{Token}
use Rattle.vl_tree.specs.declared.source_tree.Lvalue.{Lvalue}
use Rattle.vl_tree.specs.declared.source_tree.Statement.{Statement}
use Rattle.vl_tree.specs.declared.source_fault.Fault.{Fault}
use Rattle.vl_tree.specs.Parsers.{Parser, Gives}
use Rattle.vl_tree.specs.Parsing.{lvalue, statement, whole, target}
use Rattle.vl_pstmt.specs.declared.reader.Reader.{Reader}

-- it reads left sides to a depth
pub record NestsTargets (depth : ℕ) (pre : Global → Bor (List Token) → ℕ → ℕ → Type 0) (post : Global → Bor (List Token) → ℕ → ℕ → Result ((Lvalue × ℕ) × Bor (List Token)) Fault → Type 0) : Type 0 where
  pub callable : (alloc : Global) (tokens : Bor (List Token)) (before : ℕ) → length tokens.now + 1 < depth → pre alloc tokens depth before
  pub reads : (alloc : Global) (tokens : Bor (List Token)) (before : ℕ) (r : Result ((Lvalue × ℕ) × Bor (List Token)) Fault) → post alloc tokens depth before r → Gives r (lvalue depth before tokens.now)
  pub shorter : (alloc : Global) (tokens : Bor (List Token)) (before : ℕ) (r : Result ((Lvalue × ℕ) × Bor (List Token)) Fault) → post alloc tokens depth before r → IfOk r (λ x. length x.1.now < length tokens.now)

-- a statement in which so many may nest, itself included, where there are fewer than n tokens
abbrev pub nested : ℕ → ℕ → Parser Statement
nested n room = statement (whole n) (target n) n room

-- it reads statements in which so many may nest
pub record Nests (room : ℕ) (pre : Reader → Bor (List Token) → ℕ → Type 0) (post : Reader → Bor (List Token) → ℕ → Result (Statement × Bor (List Token)) Fault → Type 0) : Type 0 where
  pub callable : (reader : Reader) (tokens : Bor (List Token)) → length tokens.now + 1 < reader.depth → pre reader tokens room
  pub reads : (reader : Reader) (tokens : Bor (List Token)) (r : Result (Statement × Bor (List Token)) Fault) → post reader tokens room r → Gives r (nested reader.depth room tokens.now)
  pub shorter : (reader : Reader) (tokens : Bor (List Token)) (r : Result (Statement × Bor (List Token)) Fault) → post reader tokens room r → IfOk r (λ x. length x.1.now < length tokens.now)
