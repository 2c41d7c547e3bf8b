-- The status of a call behind a write.
use Rattle.std.specs.Prelude.{ℕ, Result, Ok, Err}
use Rattle.host_form.specs.fab_io.specs.declared.store.WriteError.{WriteError}
use Rattle.host_form.specs.fab_io.specs.declared.store.WriteError.TheVariants as error

-- 6 where the sink or the store failed, 7 for want of memory
abbrev pub status_of : {X : Type 0} → Result X WriteError → ℕ → ℕ
status_of (Ok x) status = status
status_of (Err error.Failed) status = 6
status_of (Err error.Memory) status = 7
