-- The plain tree of each of the program's trees: that of its placed tree (IEEE 1364-2005, clause 12).
use Rattle.std.specs.Prelude.{ℕ, List}
use Rattle.vl_design.specs.declared.design.Expr.{Expr}
use Rattle.vl_design.specs.declared.design.Stmt.{Stmt}
use Rattle.vl_design.specs.declared.design.SysArg.{SysArg}
use Rattle.vl_design.specs.declared.design.SysArg.TheVariants as a
use Rattle.vl_design.specs.declared.design.Target.{Target as TargetCode}
use Rattle.vl_design.specs.declared.design.Func.{Func}
use Rattle.vl_design.specs.declared.design.Process.{Process}
use Rattle.vl_design.specs.declared.design.Design.{Design}
use Rattle.vl_design.specs.Syntax.{Exp, Exps, Target, Stm, Fun, Proc, Flat}
use Rattle.vl_design.specs.Formats.{Arg, Null, Str, Value}
use Rattle.vl_design.specs.Plainly as plain
use Rattle.vl_design.specs.Seen as seen
pub use Rattle.vl_design.specs.Calls.{task_of}
pub use Rattle.vl_design.specs.Rows.{row_of, range_width, lower_of}

abbrev pub exp_of : Expr → Exp
exp_of x = plain.exp (seen.exp_of x)

abbrev pub exps_of : List Expr → Exps
exps_of xs = plain.exps (seen.exps_of xs)

abbrev pub arg_of : SysArg → Arg
arg_of a.Null = Null
arg_of (a.Str text) = Str text
arg_of (a.Value' at x) = Value (plain.exp (seen.node_exp at x))

abbrev pub target_of : TargetCode → Target
target_of x = plain.target (seen.target_of x)

-- a statement of an instance of this path
abbrev pub stm_of : List ℕ → Stmt → Stm
stm_of path x = plain.stm path (seen.stm_of x)

-- statements one after another
abbrev pub then_of : List ℕ → List Stmt → Stm
then_of path xs = plain.stms path (seen.stms_of xs)

abbrev pub fun_of : Func → Fun
fun_of f = plain.fun (seen.func_of f)

abbrev pub proc_of : Process → Proc
proc_of p = plain.proc (seen.process_of p)

-- the plain design of a design
abbrev pub flat_of : Design → Flat
flat_of d = plain.flat (seen.placed d)
