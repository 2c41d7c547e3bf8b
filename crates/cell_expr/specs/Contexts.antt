-- What expressions and statements are compiled in (IEEE 1364-2005, clauses 5 and 10.4).
use Rattle.std.specs.Prelude.{ℕ, List}
use Rattle.vl_base.specs.declared.files.File.{File}
use Rattle.vl_design.specs.Width as w
use Rattle.vl_eval.specs.Rooms as rooms
use Rattle.vl_run.specs.Scopes.{calls_in}
use Rattle.cell_expr.specs.Counts.{body_count}
use Rattle.cell_expr.specs.declared.context.Context.{Context}

abbrev pub names_of : {F : Type 0} → Context F → w.Names
names_of ctx = rooms.names_of ctx.room

-- the scope of these names over these files, where calls nest at most so deep
abbrev pub scope_of : {F : Type 0} → Context F → List File → w.Scope
scope_of ctx files = rooms.scope_at (names_of ctx) files (calls_in (names_of ctx) files ctx.depth)

-- at most how many cells a function's body has
abbrev pub body_of : {F : Type 0} → Context F → ℕ → ℕ
body_of ctx = body_count (names_of ctx).funs ctx.depth
