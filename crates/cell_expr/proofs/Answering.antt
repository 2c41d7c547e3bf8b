-- What a function of the cycle of expressions says of the slot that it gives.
use Rattle.std.proofs.Common.{ℕ, List}
use Rattle.vl_base.specs.declared.files.File.{File}
use Rattle.vl_design.specs.declared.design.Form.{Form}
use Rattle.vl_design.specs.Syntax.{Exp}
use Rattle.vl_design.specs.Width.{Names, Scope}
use Rattle.cell_emit.specs.cell_form.specs.Data.{ListData}
use Rattle.cell_emit.specs.Envs.{Env}
use Rattle.cell_expr.specs.Compiled.{Compiles}
use Rattle.cell_expr.specs.Counts.{in_count}

-- the slot holds an expression in a context, whatever the files are
abbrev pub AreGiven : Names → (List File → Scope) → (ℕ → ℕ) → Form → Exp → Env → ListData → ListData → ℕ → Type 0
AreGiven names scope body c e at old new r = (files : List File) → Compiles names (scope files) (in_count names body c.width e) e c at old new r
