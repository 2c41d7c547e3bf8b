-- Snapshots that a run keeps on its way (own).
use Rattle.std.specs.Prelude.{◌≡◌, ℕ, suc, List, [], ◌++◌, ◌⊎◌}
use Rattle.vl_design.specs.Alone.{Origin, FreeSave, Keeps, due_at, free_names, first_tick}
use Rattle.vl_design.specs.Snapshots.{Saved, all_saved, snapshot_of}
use Rattle.vl_design.specs.State.{State}

-- what is kept before boundary k: nothing at the first one, and else what is kept at the one before
pub data KeptBefore (o : Origin) (free : List FreeSave) : ℕ → List Saved → Type 0 where
  at_first : {k : ℕ} → k ≡ first_tick o.resume → KeptBefore o free k []
  at_next : {k : ℕ} {saved : List Saved} → Keeps o free k saved → KeptBefore o free (suc k) saved

-- at boundary k, in this state: with the snapshots of these names, which are still to be made, what is kept is what is to be kept there; those
-- that are made besides come when none is left
pub record KeepsAt (o : Origin) (free : List FreeSave) (k : ℕ) (s : State) (saved : List Saved) (left : List (List ℕ)) : Type 0 where
  pub before : List Saved
  pub kept : KeptBefore o free k before
  pub will : all_saved saved left (snapshot_of o.flat.rows s) ≡ all_saved before (due_at o.plan k s ++ free_names k free) (snapshot_of o.flat.rows s)
  pub besides : (left ≡ []) ⊎ (free_names k free ≡ [])

-- on the way to boundary k, or where the run has finished in its tick: what is kept is what was kept before
pub record KeepsOn (o : Origin) (free : List FreeSave) (k : ℕ) (saved : List Saved) : Type 0 where
  pub kept : KeptBefore o free k saved
  pub none : free_names k free ≡ []
