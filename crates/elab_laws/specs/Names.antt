-- Names of snapshots that are fit for files (own).
use Rattle.std.specs.Prelude.{◌≡◌, ℕ, Bool, true, false, not, List, Some, All, ⊤}
use Rattle.std.specs.List.{AllByRecursion}
use Rattle.vl_sound.specs.vl_uses.specs.Calls.{is_save_name}
use Rattle.ten_plan.specs.vl_design.specs.Alone.{Due, SaveAs, Plan, FreeSave}
use Rattle.ten_plan.specs.vl_design.specs.Nodes.{stm_has}
use Rattle.ten_plan.specs.vl_design.specs.Syntax.{Task, Save, Flat}

-- 1 to 32 letters, digits, `_`, `-` and `.`
abbrev pub is_named : List ℕ → Bool
is_named name = is_save_name (Some name)

-- a call of `$save` with another name
abbrev pub is_misnamed : Task → Bool
is_misnamed (Save name) = not (is_named name)
is_misnamed task = false

-- no process calls `$save` with another name
pub record NamesSaves (d : Flat) : Type 0 where
  pub procs : All (λ p. stm_has (λ e. false) is_misnamed p.body ≡ false) d.procs

-- what is done at a tick is no snapshot of another name
abbrev pub IsNamedDue : Due → Type 0
IsNamedDue (SaveAs name) = is_named name ≡ true
IsNamedDue due = ⊤

-- the snapshots that a plan asks for have such names
pub record NamesErrands (plan : Plan) : Type 0 where
  pub errands : AllByRecursion (λ e. IsNamedDue e.due) plan.errands

-- and those that are made besides
pub record NamesFreeSaves (free : List FreeSave) : Type 0 where
  pub names : AllByRecursion (λ f. is_named f.name ≡ true) free
