-- The scope that statements and expressions are read in: names, files and what functions give (IEEE 1364-2005, clauses 5 and 10.4).
use Rattle.std.specs.Prelude.{◌≡◌, ℕ, List, [], All, IfOk, Result}
use Rattle.std.specs.declared.alloc.Global.{Global}
use Rattle.std.specs.declared.vec.Vec.{Vec}
use Rattle.std.specs.declared.alloc.AllocError.{AllocError}
use Rattle.vl_base.specs.declared.files.File.{File}
use Rattle.vl_design.specs.Syntax.{Exp, Call, Flat}
use Rattle.vl_design.specs.Width as w
use Rattle.vl_design.specs.Value.{Sample, arguments}
use Rattle.vl_design.specs.Sound.{IsSoundFun}
use Rattle.vl_design.specs.Functions.{calls_within}
use Rattle.vl_eval.specs.Rooms.{names_of, scope_at, Fit, GivesFitting}
use Rattle.vl_run.specs.declared.scope.Scope.{Scope}

-- a design of these signals and functions
abbrev pub flat_in : w.Names → Flat
flat_in names = record { rows = names.signals; funs = names.funs; procs = [] }

-- what calls give that nest at most so deep
abbrev pub calls_in : w.Names → List File → ℕ → ℕ → List ℕ → ℕ
calls_in names files depth = calls_within (flat_in names) files depth

abbrev pub scope_of : {F : Type 0} → Scope F → w.Scope
scope_of s = scope_at (names_of s.room) s.files.now (calls_in (names_of s.room) s.files.now s.depth)

-- the program's calls of functions give what the scope's calls give; the functions are sound
pub record Calls (scope : w.Scope) (pre : ℕ → Vec ℕ Global → Type 0) (post : ℕ → Vec ℕ Global → Result ℕ AllocError → Type 0) : Type 0 where
  pub funs : All (IsSoundFun scope.names) scope.names.funs
  pub fits : GivesFitting scope.names scope.call
  pub callable : (f : ℕ) (args : Vec ℕ Global) → Fit args.items (w.input_widths scope.names f) → pre f args
  pub gives : (f : ℕ) (args : Vec ℕ Global) (r : Result ℕ AllocError) → post f args r → IfOk r (λ v. v ≡ scope.call f args.items)

-- the values of a call's arguments
abbrev pub call_arguments : w.Scope → Sample → Exp → List ℕ
call_arguments scope s (Call f es) = arguments scope s es (w.input_widths scope.names f)
call_arguments scope s e = []
