-- What blocks of a tenant's design hold, nodes hold.
use Rattle.std.proofs.Common.{◌≡◌, ℕ, false, List, []}
use Rattle.std.specs.Prelude.{All}
use Rattle.std.proofs.lemmas.List.Elements.{All-from_get_or}
use Rattle.ten_core.specs.vl_design.specs.declared.design.ProcKind.TheVariants.{Init}
use Rattle.ten_core.specs.vl_design.specs.Syntax.{Task, Print, Finish, Save, Fopen, Fread, Fgetc, Feof, Fclose, ReadHex, Stm, Nop, Items, NoItems, Labelled, Default, Proc, Flat}
use Rattle.ten_core.specs.vl_design.specs.Laws.{IsUnrolledStm, AreUnrolledItems}
use Rattle.ten_core.specs.vl_design.specs.Queue.{is_comb}
use Rattle.ten_core.specs.vl_design.specs.Reads.{task_writes, stm_writes, items_write}
use Rattle.ten_core.specs.vl_design.specs.Sound.{IsSoundExp, AreSound, IsSoundTask, IsSoundStm, AreSoundItems}
use Rattle.ten_core.specs.vl_design.specs.Width.{names_of}
use Rattle.ten_core.specs.vl_design.proofs.Unread.{or_false}
use Rattle.sub_runs.specs.vl_runs.specs.Computed.{computed_at}
use Rattle.sub_split.specs.sub_nodes.specs.Nodes.{Node}
use Rattle.sub_split.specs.sub_nodes.specs.Code.{table_of}
use Rattle.sub_split.specs.sub_nodes.specs.Passing.{ItemsPass, Passes, IsNodeOf}
use Rattle.sub_split.specs.sub_nodes.proofs.Passing.{table_fits}
use Rattle.ten_core.specs.ten_form.specs.Works.{IsVariableRead}
use Rattle.ten_make.specs.Designs.{IsTenantDesign}

module _ (d : Flat) where
  -- a sound statement without loops that writes no computed signal
  pub record Meets (a : Stm) : Type 0 where
    pub sound : IsSoundStm (names_of d) a
    pub unrolled : IsUnrolledStm a
    pub writes : stm_writes (computed_at d.rows) a ≡ false

  -- likewise a call
  abbrev pub IsCall : Task → Type 0
  IsCall task = IsSoundTask (names_of d) task × IsVariableRead d task

  abbrev pub IsPart : Node → Type 0
  IsPart = IsNodeOf Meets (IsSoundExp (names_of d)) (AreSound (names_of d)) IsCall

  variable_read : (task : Task) → task_writes (computed_at d.rows) task ≡ false → IsVariableRead d task
  variable_read (Fread k fd) h = h
  variable_read (ReadHex name m) h = tt
  variable_read (Print pieces newline) h = tt
  variable_read (Finish es) h = tt
  variable_read (Save name) h = tt
  variable_read (Fopen name) h = tt
  variable_read (Fgetc fd) h = tt
  variable_read (Feof fd) h = tt
  variable_read (Fclose fd) h = tt

  items_pass : (items : Items) → AreSoundItems (names_of d) items → AreUnrolledItems items → items_write (computed_at d.rows) items ≡ false
      → ItemsPass Meets (IsSoundExp (names_of d)) (AreSound (names_of d)) IsCall items
  items_pass NoItems h u w = tt
  items_pass (Labelled es a others) h u w =
      let g = or_false (stm_writes (computed_at d.rows) a) (items_write (computed_at d.rows) others) w in
      (h.0, record { sound = h.1; unrolled = u.0; writes = g.0 }, items_pass others h.2 u.1 g.1)
  items_pass (Default a others) h u w =
      let g = or_false (stm_writes (computed_at d.rows) a) (items_write (computed_at d.rows) others) w in
      (record { sound = h.0; unrolled = u.0; writes = g.0 }, items_pass others h.1 u.1 g.1)

  passes : Passes Meets (IsSoundExp (names_of d)) (AreSound (names_of d)) IsCall
  passes = record {
    parts = λ a b h. (let w = or_false (stm_writes (computed_at d.rows) a) (stm_writes (computed_at d.rows) b) h.writes in
        (record { sound = h.sound.0; unrolled = h.unrolled.0; writes = w.0 }, record { sound = h.sound.1; unrolled = h.unrolled.1; writes = w.1 }));
    branches = λ t a b h. (let w = or_false (stm_writes (computed_at d.rows) a) (stm_writes (computed_at d.rows) b) h.writes in
        (h.sound.0, record { sound = h.sound.1; unrolled = h.unrolled.0; writes = w.0 }, record { sound = h.sound.2; unrolled = h.unrolled.1; writes = w.1 }));
    items = λ e items h. (h.sound.0, items_pass items h.sound.1 h.unrolled h.writes);
    calls = λ task h. (h.sound, variable_read task h.writes);
  }

  module _ (order : List ℕ) (is : IsTenantDesign d order) where
    abbrev nothing : Proc
    nothing = record { kind = Init; events = []; body = Nop }

    blocks_meet : All (λ p. is_comb p.kind ≡ false → Meets p.body) d.procs
    blocks_meet =
        All-from_get_or (λ (p : Proc). is_comb p.kind ≡ false → Meets p.body) d.procs nothing
        (λ i l other. record { sound = (is.sound.procs i nothing l).body; unrolled = is.unrolled.procs i nothing l; writes = is.nets.others i other })

    pub nodes_meet : All IsPart (table_of d).nodes
    nodes_meet = table_fits Meets (IsSoundExp (names_of d)) (AreSound (names_of d)) IsCall d is.unrolled passes blocks_meet
