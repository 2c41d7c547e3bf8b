-- System functions whose answers are read (IEEE 1364-2005, clause 17).
use Rattle.std.specs.Prelude.{ℕ, List, Option, Some, None}
use Rattle.vl_base.specs.declared.bits.UnOp.{UnOp}
use Rattle.vl_base.specs.declared.bits.UnOp.TheVariants.{LogNot}
use Rattle.vl_design.specs.declared.design.SysCall.{SysCall}
use Rattle.vl_design.specs.Placed as p
use Rattle.vl_design.specs.Seen as seen

-- a call: its name and its arguments
abbrev pub call_of : SysCall → List ℕ × p.Args
call_of c = (c.name, seen.args_of c.args.items)

-- the call that an expression is
abbrev pub direct_call : p.Exp → Option (List ℕ × p.Args)
direct_call (p.Sys at name given) = Some (name, given)
direct_call e = None

-- the call that an operand is, where its operator is `!`
abbrev pub negated_call : UnOp → p.Exp → Option (List ℕ × p.Args)
negated_call LogNot e = direct_call e
negated_call op e = None

-- the call that an expression is, also behind one `!`
abbrev pub call_in : p.Exp → Option (List ℕ × p.Args)
call_in (p.Sys at name given) = Some (name, given)
call_in (p.Un at op e) = negated_call op e
call_in e = None
