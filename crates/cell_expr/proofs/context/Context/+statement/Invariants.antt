use Rattle.cell_expr.proofs.Sizes.{exp_size, stm_size, items_size}
use Rattle.cell_expr.specs.Bodies.{IsSegment, AreSegmentItems, CanWait}
use Rattle.cell_expr.specs.Contexts.{names_of, scope_of, body_of}
use Rattle.cell_expr.specs.Counts.{items_count, stm_count}
use Rattle.cell_emit.specs.vl_sites.specs.Stored.{stored_words, items_stored}
use Rattle.cell_emit.specs.cell_form.specs.Data.{ListData}
use Rattle.cell_emit.specs.cell_form.specs.Views.{list_of}
use Rattle.cell_emit.specs.Delays.{Leaves, LeavesItems}
use Rattle.cell_emit.specs.Pendings.{PendingSlots, slots_of, memories_of, ArePending}
use Rattle.cell_emit.specs.Cases.{Tries}
use Rattle.cell_emit.specs.Envs.{Env, env_of, Fits, IsSlot}
use Rattle.cell_emit.specs.Paths.{Does}
use Rattle.cell_emit.specs.Slots.{Grows}
use Rattle.std.proofs.Common.{◌≡◌, ℕ, List, [], drop, false, nat_lt, ◌+◌, ◌*◌, ◌++◌, length}
use Rattle.vl_base.specs.declared.files.File.{File}
use Rattle.vl_design.specs.Exec.{exec}
use Rattle.vl_design.specs.Reads.{items_write, stm_writes}
use Rattle.vl_design.specs.Sound.{AreSoundItems, IsSoundStm}
use Rattle.vl_design.specs.Trees.{then_of, exp_of, stm_of}
use Rattle.vl_run.specs.Cases.{items_of, AreLabelsWithin}
use Rattle.cell_expr.proofs.context.Context.+statement.Given as goal

abbrev pub decreases-statement_in : goal.decreases-statement_in
decreases-statement_in g l = 4 * stm_size (stm_of [] l.a.now) + 1

abbrev pub decreases-if_in : goal.decreases-if_in
decreases-if_in g l = 4 * (exp_size (exp_of l.test.now) + (stm_size (stm_of [] l.first.now) + stm_size (stm_of [] l.second.now))) + 3

abbrev pub decreases-list_in : goal.decreases-list_in
decreases-list_in g l = 4 * stm_size (then_of [] l.list.now)

abbrev pub decreases-case_in : goal.decreases-case_in
decreases-case_in g l = 4 * (exp_size (exp_of l.subject.now) + items_size (items_of [] l.items.now)) + 3

abbrev pub decreases-items_in : goal.decreases-items_in
decreases-items_in g l = 4 * items_size (items_of [] l.items.now) + 2

abbrev pub decreases-try_in : goal.decreases-try_in
decreases-try_in g l = 4 * stm_size (stm_of [] l.item.now.body) + 3

abbrev pub decreases-item_in : goal.decreases-item_in
decreases-item_in g l = 4 * stm_size (stm_of [] l.item.now.body) + 2

abbrev pub invariant-items_in-loop-item : goal.invariant-items_in-loop-item
invariant-items_in-loop-item g l =
    let names = names_of l.self in
    let rest = items_of [] (drop l.item-index l.items) in
    let whole = items_of [] l.items in
    let cells = list_of l.cells in
    record {
      grows : Grows (list_of l.initial.cells) cells;
      fits : Fits names cells (env_of l.at);
      subject : IsSlot cells l.subject l.c.width;
      path : IsSlot cells l.rest 1;
      sound : AreSoundItems names rest;
      within : AreLabelsWithin names l.c.width (drop l.item-index l.items);
      pending : ArePending names cells (slots_of l.pending);
      segment : AreSegmentItems (CanWait names (length l.pending.update.items)) rest;
      apart : items_write (λ k. nat_lt k l.at.first) rest ≡ false;
      sites : memories_of l.pending.sites.items ++ items_stored rest ≡ memories_of l.initial.pending.sites.items ++ items_stored whole;
      leads : (files : List File) (r : ℕ) (at : Env) (new : ListData) → Tries names (items_count (body_of l.self) rest) (scope_of l.self files) l.c l.subject rest l.rest r (env_of l.at) at cells new
          → Tries names (items_count (body_of l.self) whole) (scope_of l.self files) l.c l.subject whole l.initial.rest r (env_of l.initial.at) at (list_of l.initial.cells) new;
      leaves : (files : List File) (r : ℕ) (at : Env) (p : PendingSlots) (new : ListData) → LeavesItems names (scope_of l.self files) l.c l.subject rest l.rest r (env_of l.at) at (slots_of l.pending) p cells new
          → LeavesItems names (scope_of l.self files) l.c l.subject whole l.initial.rest r (env_of l.initial.at) at (slots_of l.initial.pending) p (list_of l.initial.cells) new;
    }

abbrev pub invariant-list_in-loop-item : goal.invariant-list_in-loop-item
invariant-list_in-loop-item g l =
    let names = names_of l.self in
    let rest = then_of [] (drop l.item-index l.list) in
    let whole = then_of [] l.list in
    let cells = list_of l.cells in
    record {
      grows : Grows (list_of l.initial.cells) cells;
      fits : Fits names cells (env_of l.at);
      off : IsSlot cells l.off 1;
      sound : IsSoundStm names rest;
      pending : ArePending names cells (slots_of l.pending);
      segment : IsSegment (CanWait names (length l.pending.update.items)) rest;
      apart : stm_writes (λ k. nat_lt k l.at.first) rest ≡ false;
      sites : memories_of l.pending.sites.items ++ stored_words rest ≡ memories_of l.initial.pending.sites.items ++ stored_words whole;
      leads : (files : List File) (at : Env) (new : ListData) → Does names (stm_count (body_of l.self) rest) (exec (scope_of l.self files) rest) l.off (env_of l.at) at cells new
          → Does names (stm_count (body_of l.self) whole) (exec (scope_of l.self files) whole) l.off (env_of l.initial.at) at (list_of l.initial.cells) new;
      leaves : (files : List File) (p : PendingSlots) (new : ListData) → Leaves names (exec (scope_of l.self files) rest) l.off (env_of l.at) (slots_of l.pending) p cells new
          → Leaves names (exec (scope_of l.self files) whole) l.off (env_of l.initial.at) (slots_of l.initial.pending) p (list_of l.initial.cells) new;
    }
