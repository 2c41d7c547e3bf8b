-- Blocks of a design whose processes write no nets, and whose clocked blocks set no memories.
use Rattle.std.proofs.Common.{◌≡◌, ℕ, Bool, true, false, refl}
use Rattle.std.specs.Prelude.{All}
use Rattle.vl_sites.specs.vl_design.specs.declared.design.ProcKind.{ProcKind}
use Rattle.vl_sites.specs.vl_design.specs.declared.design.ProcKind.TheVariants.{Init, Rise, Fall, Comb, Assign}
use Rattle.vl_sites.specs.vl_design.specs.Syntax.{Stm, Items, NoItems, Labelled, Default, Flat}
use Rattle.vl_sites.specs.vl_design.specs.Queue.{is_comb, is_init, is_rise, is_fall, proc_at}
use Rattle.vl_sites.specs.vl_design.specs.Alone.{blocks}
use Rattle.vl_sites.specs.vl_design.proofs.Unread.{or_false}
use Rattle.vl_sites.specs.vl_design.proofs.Acting.{Bodies, IsHereditary}
use Rattle.sub_nodes.specs.Implements.{bodies}
use Rattle.sub_runs.specs.Nets.{computed_at, WritesNoNets}
use Rattle.sub_runs.specs.Memories.{memory_at, stm_sets, items_set, SetsNoMemories}
use Rattle.sub_runs.proofs.Writes.{WritesNone, parts_write_none}
use Rattle.sub_runs.proofs.Parts.{blocks_have}
use Rattle.vl_sites.specs.vl_design.proofs.Shared.{no_fall, no_init, no_rise}

module _ (d : Flat) (w : WritesNoNets d) where
  abbrev pub KeepsNets : Stm → Type 0
  KeepsNets = WritesNone (computed_at d.rows)

  pub parts : IsHereditary KeepsNets
  parts = parts_write_none (computed_at d.rows)

  pub inits_keep : All KeepsNets (bodies (blocks is_init d.procs))
  inits_keep = blocks_have KeepsNets parts is_init d.procs (λ j h. w.others j (no_init (proc_at d j).kind h))

  pub rises_keep : All KeepsNets (bodies (blocks is_rise d.procs))
  rises_keep = blocks_have KeepsNets parts is_rise d.procs (λ j h. w.others j (no_rise (proc_at d j).kind h))

  pub falls_keep : All KeepsNets (bodies (blocks is_fall d.procs))
  falls_keep = blocks_have KeepsNets parts is_fall d.procs (λ j h. w.others j (no_fall (proc_at d j).kind h))

-- ---- memories

module _ (p : ℕ → Bool) where
  abbrev pub SetsNone : Stm → Type 0
  SetsNone a = stm_sets p a ≡ false

  sets_bodies : (items : Items) → items_set p items ≡ false → Bodies SetsNone items
  sets_bodies NoItems h = tt
  sets_bodies (Labelled es a others) h = let g = or_false (stm_sets p a) (items_set p others) h in (g.0, sets_bodies others g.1)
  sets_bodies (Default a others) h = let g = or_false (stm_sets p a) (items_set p others) h in (g.0, sets_bodies others g.1)

  pub parts_set_none : IsHereditary SetsNone
  parts_set_none = record {
    none = refl;
    parts = λ a b h. or_false (stm_sets p a) (stm_sets p b) h;
    branches = λ t a b h. or_false (stm_sets p a) (stm_sets p b) h;
    items = λ e items h. sets_bodies items h;
  }

module _ (d : Flat) (w : SetsNoMemories d) where
  pub rises_set_none : All (SetsNone (memory_at d.rows)) (bodies (blocks is_rise d.procs))
  rises_set_none = blocks_have (SetsNone (memory_at d.rows)) (parts_set_none (memory_at d.rows)) is_rise d.procs w.rises

  pub falls_set_none : All (SetsNone (memory_at d.rows)) (bodies (blocks is_fall d.procs))
  falls_set_none = blocks_have (SetsNone (memory_at d.rows)) (parts_set_none (memory_at d.rows)) is_fall d.procs w.falls
