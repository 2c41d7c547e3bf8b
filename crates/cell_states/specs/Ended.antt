-- The writes at the end of a state (own).
use Rattle.std.specs.Prelude.{◌≡◌, ℕ, ◌≤◌, Bool, true, false, List, [], ◌∷◌, ◌++◌, length, take, drop, Option, Some, None}
use Rattle.std.specs.List.{AllByRecursion}
use Rattle.vl_design.specs.Syntax.{Row, Flat}
use Rattle.vl_design.specs.Width.{names_of}
use Rattle.cell_emit.specs.cell_form.specs.declared.cell.Write.{Write}
use Rattle.cell_emit.specs.cell_form.specs.declared.cell.Write.TheVariants as w
use Rattle.cell_emit.specs.cell_form.specs.Data.{ListData}
use Rattle.cell_emit.specs.cell_form.specs.Sound.{Shape, IsWrite}
use Rattle.cell_emit.specs.Envs.{Env, IsSlot, Fits}
use Rattle.cell_emit.specs.declared.pending.Site.{Site}
use Rattle.cell_emit.specs.Pendings.{PendingSlots, ArePending}
use Rattle.ten_form.specs.declared.store.Store.{Store}
use Rattle.ten_form.specs.Registers.{state_register, ticks_register, register_count}
use Rattle.ten_form.specs.Banks.{IsFor}
use Rattle.cell_waves.specs.Copies.{changed, marked_change, each_one, Sets}
use Rattle.cell_waves.specs.Lasts.{last_write}
use Rattle.cell_waves.specs.Ends.{Ends}
use Rattle.cell_waves.specs.Keeping.{Keeps}
use Rattle.cell_trim.specs.Widths.{IsWithin}
use Rattle.cell_states.specs.Widths.{register_width}
use Rattle.cell_states.specs.Marks.{AreDelayed}
use Rattle.cell_states.specs.Segments.{IsTicks}

-- writes of the registers of signals that changed: work copies, and what is pending of signals that are marked
pub record AreChanges (rows : List Row) (marks : List Bool) (at at' : Env) (p p' : PendingSlots) (sets : List Write) : Type 0 where
  pub works : List Write
  pub updates : List Write
  pub first : Sets rows 4 (changed at.slots at'.slots) at'.slots at'.here [] works
  pub second : Sets rows 5 (marked_change marks p.update p'.update) p'.update at'.here works updates
  pub third : Sets rows 6 (marked_change marks p.mask p'.mask) p'.mask at'.here updates sets

-- and behind them those of all values, where a wave ends
abbrev pub Commits : List Row → Bool → Env → List Write → List Write → Type 0
Commits rows true at old new = Sets rows 3 each_one at.slots at.here old new
Commits rows false at old new = new ≡ old

-- and that of the ticks, where the clock rises
abbrev pub with_ticks : Option ℕ → List Write → List Write
with_ticks None sets = sets
with_ticks (Some r) sets = sets ++ w.Reg ticks_register r ∷ []

-- they write what changed, what is committed, the ticks where the clock rises, and the node that is next
pub record IsEnd (d : Flat) (commits : Bool) (marks : List Bool) (at at' : Env) (p p' : PendingSlots) (ticks : Option ℕ) (next : ℕ) (sets : List Write) : Type 0 where
  pub ends : Ends d.rows commits marks at at' p p' at'.here sets
  pub node : last_write sets state_register ≡ Some next
  pub counts : last_write sets ticks_register ≡ ticks
  -- and no register of a store
  pub beside : (r : ℕ) → register_count (length d.rows) ≤ r → last_write sets r ≡ None
  -- they set registers from slots that are at most as wide
  pub narrow : AreDelayed d marks → (l : ListData) → Fits (names_of d) l at' → at'.first ≡ 0 → ArePending (names_of d) l p' → IsTicks l ticks → IsSlot l next 32 → AllByRecursion (IsWithin (register_width d) l) sets
  pub sound : (z : Shape) (l : ListData) → IsFor d 0 z → Fits (names_of d) l at' → at'.first ≡ 0 → ArePending (names_of d) l p' → IsTicks l ticks → IsSlot l next 32 →
      AllByRecursion (IsWrite z l.first (length l.cells)) sets

-- and behind them the registers of stores, from the slots of the sites that are pending; but for the first ones, whose sites are those
-- that were read of them
pub record IsKeptEnd (d : Flat) (commits : Bool) (marks : List Bool) (at at' : Env) (p p' : PendingSlots) (ticks : Option ℕ) (next : ℕ) (stores : List Store) (earlier : List Site) (sets : List Write) : Type 0 where
  pub before : List Write
  pub count : ℕ
  pub few : count ≤ length earlier
  pub there : count ≤ length p'.sites
  pub same : take count earlier ≡ take count p'.sites
  pub end : IsEnd d commits marks at at' p p' ticks next before
  pub keeps : Keeps (drop count stores) (drop count p'.sites) before sets
