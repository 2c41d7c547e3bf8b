-- Which functions are called, and designs without recursion (own; calls of functions are IEEE 1364-2005, clause 10.4.3).
use Rattle.std.specs.Prelude.{◌≡◌, ℕ, ◌<◌, nat_lt, Bool, false, not, List, length, slice_get, Some}
use Rattle.vl_design.specs.Syntax.{Exp, Call, Exps, Target, Targets, Piece, Task, Stm, Items, Fun, Flat}
use Rattle.vl_design.specs.Nodes.{has, some_have, target_has, targets_have, pieces_have, task_has, stm_has, items_have}

-- the node calls a function that passes the test
abbrev pub is_call : (ℕ → Bool) → Exp → Bool
is_call q (Call f es) = q f
is_call q e = false

-- the expression calls one
abbrev pub calls : (ℕ → Bool) → Exp → Bool
calls q e = has (is_call q) e

abbrev pub some_calls : (ℕ → Bool) → Exps → Bool
some_calls q es = some_have (is_call q) es

abbrev pub target_calls : (ℕ → Bool) → Target → Bool
target_calls q t = target_has (is_call q) t

abbrev pub targets_call : (ℕ → Bool) → Targets → Bool
targets_call q ts = targets_have (is_call q) ts

abbrev pub pieces_call : (ℕ → Bool) → List Piece → Bool
pieces_call q ps = pieces_have (is_call q) ps

abbrev pub task_calls : (ℕ → Bool) → Task → Bool
task_calls q task = task_has (is_call q) (λ task. false) task

-- the statement calls one
abbrev pub stm_calls : (ℕ → Bool) → Stm → Bool
stm_calls q a = stm_has (is_call q) (λ task. false) a

abbrev pub items_call : (ℕ → Bool) → Items → Bool
items_call q items = items_have (is_call q) (λ task. false) items

-- functions have ranks: each is below how many functions there are, and a function calls functions of lower rank alone
pub record AreRanked (d : Flat) (rank : ℕ → ℕ) : Type 0 where
  pub below : (f : ℕ) (g : Fun) → slice_get d.funs f ≡ Some g → rank f < length d.funs
  pub lower : (f : ℕ) (g : Fun) → slice_get d.funs f ≡ Some g → stm_calls (λ h. not (nat_lt (rank h) (rank f))) g.body ≡ false
