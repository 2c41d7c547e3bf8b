-- System calls that come before a statement (IEEE 1364-2005, clause 17).
use Rattle.std.specs.Prelude.{Bool, true, false}
use Rattle.vl_design.specs.vl_base.specs.declared.bits.UnOp.{UnOp}
use Rattle.vl_design.specs.vl_base.specs.declared.bits.UnOp.TheVariants.{LogNot}
use Rattle.vl_design.specs.Placed.{Exp, Sys, Un}

-- an operator is `!`
abbrev pub is_not : UnOp → Bool
is_not LogNot = true
is_not op = false

-- an expression is a system call
abbrev pub is_call : Exp → Bool
is_call (Sys at name given) = true
is_call e = false

-- or such behind one `!`
abbrev pub negates : UnOp → Exp → Bool
negates LogNot e = is_call e
negates op e = false

-- a system call comes before a statement with this source or condition
abbrev pub calls : Exp → Bool
calls (Sys at name given) = true
calls (Un at op e) = negates op e
calls e = false
