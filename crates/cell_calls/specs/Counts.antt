-- At most how many cells a system call is compiled to (own).
use Rattle.std.specs.Prelude.{ℕ, ◌+◌, List}
use Rattle.std.specs.List.{sum_by}
use Rattle.vl_design.specs.Syntax.{Exp, Task, Print, Fread, Fgetc, Feof, Fclose}
use Rattle.cell_expr.specs.Counts.{exp_count}
use Rattle.ten_form.specs.Asked.{shown}

-- expressions that are read for themselves
abbrev pub own_count : (ℕ → ℕ) → List Exp → ℕ
own_count body es = sum_by (exp_count body) es

-- at most how many cells a call takes: a descriptor is cut to 32 bits by one
abbrev pub asked_count : (ℕ → ℕ) → Task → ℕ
asked_count body (Print pieces newline) = own_count body (shown pieces)
asked_count body (Fread k fd) = exp_count body fd + 1
asked_count body (Fgetc fd) = exp_count body fd + 1
asked_count body (Feof fd) = exp_count body fd + 1
asked_count body (Fclose fd) = exp_count body fd + 1
asked_count body task = 0
