-- What the marks of writers tell of the processes before.
use Rattle.std.specs.Prelude.{◌≡◌, ℕ, ◌<◌, Bool, true, false, ◌&&◌, ◌||◌, if◌then◌else◌, List, ◌++◌, length, get_or}
use Rattle.std.specs.List.{list_any}
use Rattle.vl_design.specs.declared.design.ProcKind.{ProcKind}
use Rattle.vl_design.specs.declared.design.Signal.{Signal}
use Rattle.vl_design.specs.declared.stop.Stop.{Stop}
use Rattle.vl_design.specs.Placed.{Process, Design}
use Rattle.vl_design.specs.Stops.{construct_if}
use Rattle.vl_sites.specs.Sites.{What, Sets, Heads, Site, sites}
use Rattle.vl_check.specs.declared.writers.Writers.{Writers}
use Rattle.vl_check.specs.Bodies.{kind_is, of_process}
use Rattle.vl_check.specs.Standing.{body_faults}
use Rattle.vl_check.specs.Triggers.{trigger_faults}
use Rattle.vl_check.specs.Writers.{writes, assigns, is_always, is_combinational, is_store}

-- a mark for each of so many signals
pub record AreLong (n : ℕ) (w : Writers) : Type 0 where
  pub any : length w.any.items ≡ n
  pub always : length w.always.items ≡ n
  pub combinational : length w.combinational.items ≡ n

-- by the marks, a process of a kind may not write the signal
abbrev pub second_by : Writers → ProcKind → ℕ → Bool
second_by w kind k =
    (is_combinational kind && get_or w.any.items k false)
    || ((is_always kind && get_or w.always.items k false) || get_or w.combinational.items k false)

abbrev pub taken_by : Writers → List Signal → ProcKind → What → Bool
taken_by w signals kind (Sets k word later) = kind_is is_store signals k && second_by w kind k
taken_by w signals kind (Heads k) = kind_is is_store signals k && second_by w kind k
taken_by w signals kind what = false

-- marks behind a process of a kind with these sites
pub record Notes (n : ℕ) (kind : ProcKind) (all : List Site) (old new : Writers) : Type 0 where
  pub long : AreLong n new
  pub any : (k : ℕ) → k < n → get_or new.any.items k false ≡ (if list_any (λ s. assigns k s.what) all then true else get_or old.any.items k false)
  pub always : (k : ℕ) → k < n → get_or new.always.items k false ≡ (if is_always kind && list_any (λ s. assigns k s.what) all then true else get_or old.always.items k false)
  pub combinational : (k : ℕ) → k < n → get_or new.combinational.items k false ≡ (if is_combinational kind && list_any (λ s. assigns k s.what) all then true else get_or old.combinational.items k false)

-- the marks are those of these processes
pub record AreTold (n : ℕ) (before : List Process) (w : Writers) : Type 0 where
  pub any : (k : ℕ) → k < n → get_or w.any.items k false ≡ list_any (writes k) before
  pub always : (k : ℕ) → k < n → get_or w.always.items k false ≡ list_any (λ b. is_always b.kind && writes k b) before
  pub combinational : (k : ℕ) → k < n → get_or w.combinational.items k false ≡ list_any (λ b. is_combinational b.kind && writes k b) before

-- the faults of a process by the marks
abbrev pub process_by : Writers → Design → Process → List Stop
process_by w d a =
    body_faults (of_process d a) a.body
    ++ (trigger_faults d.signals a
    ++ construct_if (list_any (λ s. taken_by w d.signals a.kind s.what) (sites a.body)) a.place 14)
