-- What is read within a limit, by what is read of as many tokens as it allows and one more.
use Rattle.std.specs.Prelude.{ℕ, ◌+◌, ◌<◌, ◌≤◌, nat_lt, List, length, take, drop, Result, Ok, Err, cond}
use Rattle.std.specs.Borrow.{Bor}
use Rattle.vl_tree.specs.declared.token.Token.{Token}
use Rattle.vl_tree.specs.declared.fault.Fault.{Fault}
use Rattle.vl_tree.specs.declared.fault.Fault.TheVariants as fault
use Rattle.vl_tree.specs.Reading as plain
use Rattle.vl_tree.specs.declared.source_fault.Cause.TheVariants.{Tokens}
use Rattle.vl_tree.specs.Parsers.{Outcome, taken, unlimited}

-- as many tokens as the limit allows, and one more
abbrev pub window : ℕ → List Token → List Token
window most ts = take (most + 1) ts

-- the same with these tokens left
abbrev pub moved : {A : Type 0} → plain.Outcome A → List Token → plain.Outcome A
moved (Ok x) us = Ok (x.0, us)
moved (Err e) us = Err us

-- what is read within the limit, where o is read of the window
abbrev pub narrowed : {A : Type 0} → ℕ → List Token → plain.Outcome A → Outcome A
narrowed most ts o = cond (nat_lt most (taken (window most ts) o)) (Err (Tokens, drop most ts)) (unlimited (moved o (drop (taken (window most ts) o) ts)))

-- fewer tokens are left of so many, and no more at a fault
abbrev pub LeavesOf : {A : Type 0} → ℕ → Result (A × Bor (List Token)) Fault → Type 0
LeavesOf size (Ok x) = length x.1.now < size
LeavesOf size (Err (fault.At ts)) = length ts.now ≤ size
LeavesOf size (Err fault.Memory) = Unit {0}
