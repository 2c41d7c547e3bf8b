-- That cells do what the items of a case do (IEEE 1364-2005, clause 9.5). Beside the path of the statement there is one that is
-- taken where no label has matched so far (own).
use Rattle.std.specs.Prelude.{◌≡◌, ℕ, false, if◌then◌else◌}
use Rattle.vl_sites.specs.vl_design.specs.declared.design.Form.{Form}
use Rattle.vl_sites.specs.vl_design.specs.Syntax.{Exps, Items}
use Rattle.vl_sites.specs.vl_design.specs.Width.{Names, Scope}
use Rattle.vl_sites.specs.vl_design.specs.Value.{Sample}
use Rattle.vl_sites.specs.vl_design.specs.State.{State, sample}
use Rattle.vl_sites.specs.vl_design.specs.Exec.{some_match, exec_items}
use Rattle.cell_form.specs.Data.{ListData, BankData}
use Rattle.cell_form.specs.Sound.{Shape}
use Rattle.cell_emit.specs.Slots.{held, AreSound, Longer}
use Rattle.cell_emit.specs.Envs.{Env, IsSlot, Fits, HasMemories, Stands}
use Rattle.cell_emit.specs.Paths.{Keeps}

-- with at most n cells more, the path behind labels: it is taken where that before them is, and none of them matches the subject
pub record Compares (names : Names) (n : ℕ) (scope : Scope) (c : Form) (subject : ℕ) (labels : Exps) (before behind : ℕ) (at : Env) (old new : ListData) : Type 0 where
  pub longer : Longer (HasMemories names at) n old new
  pub slot : IsSlot new behind 1
  pub value : (s : Shape) (b : BankData) (x : Sample) → AreSound s old → Stands names b old at x →
      held b new behind ≡ (if some_match scope x c (held b old subject) labels then 1 else held b old before)

-- what items do to a state, where two paths hold these numbers: that before the items, and that behind them; R holds of the state
-- behind them
pub data Went (scope : Scope) (c : Form) (v : ℕ) (items : Items) (before behind : ℕ) (R : State → Type 0) (t : State) : Type 0 where
  -- no label matches
  Missed : before ≡ 0 → behind ≡ 0 → ((d : State) → exec_items scope v c items d t ≡ d) → R t → Went scope c v items before behind R t
  -- a label matches, and its item is executed
  Hit : (t' : State) → before ≡ 0 → behind ≡ 1 → ((d : State) → exec_items scope v c items d t ≡ t') → t'.finished ≡ false → R t' → Went scope c v items before behind R t
  -- the items aren't looked at
  Away : before ≡ 1 → behind ≡ 1 → R t → Went scope c v items before behind R t

-- with at most n cells more, they do what labelled items do where the path before them is taken; behind them it is taken where none
-- was executed
pub record Tries (names : Names) (n : ℕ) (scope : Scope) (c : Form) (subject : ℕ) (items : Items) (before behind : ℕ) (at at' : Env) (old new : ListData) : Type 0 where
  pub longer : Longer (HasMemories names at) n old new
  pub fits : Fits names new at'
  pub keeps : Keeps names at at'
  pub slot : IsSlot new behind 1
  pub alive : (v : ℕ) (d t : State) → d.finished ≡ false → t.finished ≡ false → (exec_items scope v c items d t).finished ≡ false
  pub went : (s : Shape) (b : BankData) (t : State) → AreSound s old → t.finished ≡ false → Stands names b old at (sample t) →
      Went scope c (held b old subject) items (held b old before) (held b new behind) (λ u. Stands names b new at' (sample u)) t
