-- A run that begins, behind time zero or at what another run held, is at the first boundary.
use Rattle.std.proofs.Common.{◌≡◌, ◌<◌, ℕ, zero, suc, true, false, List, [], ◌∷◌, take, refl, sym, ap, ◌∙◌, subst, arith}
use Rattle.std.specs.Prelude.{◌↔◌, Option, Some, None, slice_get, option_map}
use Rattle.std.specs.List.{AllByRecursion}
use Rattle.vl_eval.specs.vl_design.specs.Alone as alone
use Rattle.vl_eval.specs.vl_design.specs.Alone.{first_tick}
use Rattle.vl_eval.specs.vl_design.specs.Snapshots.{Snapshot}
use Rattle.vl_eval.specs.vl_design.specs.State.{State}
use Rattle.vl_eval.specs.vl_design.specs.Syntax.{Flat, Task}
use Rattle.vl_run.specs.declared.machine.Machine.{Machine}
use Rattle.ten_core.specs.cell_form.specs.Data.{BankData}
use Rattle.ten_core.specs.cell_form.specs.Sound.{shape_of}
use Rattle.sub_nodes.specs.Code.{table_of}
use Rattle.sub_nodes.specs.Cycles.{Stage, committed_in, is_trap, rises, settled}
use Rattle.sub_nodes.specs.Nodes.{Node, Run, Trap, Apply, Table}
use Rattle.sub_nodes.specs.Stands.{first_stage, Comes}
use Rattle.sub_nodes.specs.Early.{early_from}
use Rattle.vl_run.specs.ten_files.specs.declared.row.Row.{Row}
use Rattle.vl_run.specs.ten_files.specs.Tables.{open_files, IsTableOf}
use Rattle.ten_form.specs.Holding.{IsIdle}
use Rattle.ten_form.specs.Banks.{cell_nodes, stores_before, HoldsState, IsFor}
use Rattle.ten_form.specs.Nets.{nets_of}
use Rattle.ten_form.specs.States.{idle_before, HoldsStage, StandsAt}
use Rattle.ten_core.specs.declared.engine.Engine.{Engine}
use Rattle.ten_core.specs.declared.origin.Origin.{Origin}
use Rattle.ten_core.specs.Runs.{IsAt}
use Rattle.ten_core.specs.Tenants.{origin_of, states_of, tenant_of, IsImage}
use Rattle.ten_core.specs.ten_plan.specs.declared.held.Held.{Held}
use Rattle.ten_core.specs.ten_plan.specs.Held.{snapshot_of}
use Rattle.ten_core.specs.ten_plan.specs.Plans.{plan_of}
use Rattle.ten_zero.specs.declared.early.Early.{Early}
use Rattle.ten_zero.specs.Early.{IsAtFirst, ComesBehind, IsBehindZero}
use Rattle.ten_parcel.specs.Banks.{resumed_state, IsStateAt, HoldsResumed, HoldsAt}
use Rattle.ten_core.specs.Begins.{flat_in, Begins, CanBegin}
use Rattle.ten_parcel.specs.Loads.{IsEngineAt}
use Rattle.vl_eval.specs.vl_base.proofs.Lists.{get_take as get-take}

-- where the clock rises next no call is
no-trap : (x : Option Node) (task : Task) (to : ℕ) → rises x ≡ true → x ≡ Some (Trap task to) → ⊥
no-trap x task to h e = let k = sym (ap rises e) ∙ h in let z : ⊥ = cc in z

not-trap : (x : Option Node) → rises x ≡ true → false ≡ is_trap x
not-trap None h = let z : ⊥ = cc in absurd z
not-trap (Some (Run g on)) h = refl
not-trap (Some (Trap task to)) h = let z : ⊥ = cc in absurd z
not-trap (Some (Apply to)) h = let z : ⊥ = cc in absurd z

-- a state has what a machine has, and these rows of open files
record IsAlike (x : Origin) (rows : List (Option Row)) (m : Machine) (s : State) : Type 0 where
  printed : m.printed.items ≡ s.printed
  asked : m.saves.items ≡ s.saves
  ticks : m.ticks ≡ s.ticks
  table : open_files x.files rows ≡ s.table
  fits : IsTableOf x.files rows

module _ (x : Origin) (can : CanBegin x)
    (one : (n : ℕ) → (rises (slice_get (table_of (flat_in x)).nodes n) ≡ true) ↔ (n ≡ (table_of (flat_in x)).rise.first))
    (late : (table_of (flat_in x)).rise.first < early_from (flat_in x))
    (rows : List (Option Row)) (e : Engine) (b : BankData) where
  abbrev d : Flat
  d = flat_in x

  abbrev T : Table
  T = table_of d

  abbrev order : List ℕ
  order = x.image.order.items

  abbrev nets : State → List (List ℕ)
  nets = nets_of d x.files order

  -- ---- an engine at a stage where the clock rises next

  module _ (m : Machine) (acts : ℕ) (i : Stage) (at : IsEngineAt x rows m acts e) (alike : IsAlike x rows m i.state)
      (comes : Comes (origin_of x) T nets acts i) (rise : rises (slice_get T.nodes i.node) ≡ true) (alive : i.state.finished ≡ false)
      (shape : IsFor d x.image.slots (shape_of b)) (stage : HoldsStage d b i) where
    node : i.node ≡ T.rise.first
    node = (one i.node).0 rise

    node-late : i.node < early_from d
    node-late = subst (λ n. n < early_from d) (sym node) late

    no-call : (task : Task) (to : ℕ) → slice_get (cell_nodes d) i.node ≡ Some (Trap task to) → ⊥
    no-call task to h = no-trap (slice_get T.nodes i.node) task to rise (sym (get-take (early_from d) T.nodes i.node node-late) ∙ h)

    stands : StandsAt d order x.files x.image.slots (cell_nodes d) (states_of x.image) b i
    stands = record {
      shape = shape;
      stage = stage;
      asked = λ task to h. absurd (no-call task to h);
    }

    at-stage : IsAt (origin_of x) order (tenant_of e b) acts i
    at-stage = record {
      image = subst (λ (y : Origin). IsImage d order y.image) (sym at.origin) can.image;
      files = ap (λ (y : Origin). y.files) (sym at.origin);
      comes = comes;
      late = node-late;
      stands = subst (λ (y : Origin). StandsAt d order x.files y.image.slots (cell_nodes d) (states_of y.image) b i) (sym at.origin) stands;
      printed = at.printed ∙ alike.printed;
      fits = subst (IsTableOf x.files) (sym at.opened) alike.fits;
      table = ap (open_files x.files) at.opened ∙ alike.table;
      finished = at.finished ∙ sym alive;
      waits = at.waits ∙ not-trap (slice_get T.nodes i.node) rise;
      cycles = at.cycles;
      asked = at.asked ∙ alike.asked;
      ticks = at.ticks ∙ alike.ticks;
      next = at.next ∙ (can.image.rise ∙ sym node);
    }

    begins-at : i.state.ticks ≡ first_tick (origin_of x).resume → Begins x e b
    begins-at first = record {
      acts = acts;
      stage = i;
      origin = at.origin;
      at = at-stage;
      rises = rise;
      alive = alive;
      ticks = first;
    }

  -- a stage at the number of the image's rise
  at-rise : (n : ℕ) (s : State) → x.image.rise ≡ n → HoldsStage d b (committed_in x.image.rise s) → HoldsStage d b (committed_in n s)
  at-rise n s h k = subst (λ (n : ℕ). HoldsStage d b (committed_in n s)) h k

  -- ---- behind time zero

  module _ (start : x.start ≡ None) (early : Early) (behind : IsBehindZero d x.files order early) (on : early.machine.finished ≡ false)
      (bank : HoldsAt d early.machine x.image.slots x.image.rise b) (table : open_files x.files rows ≡ early.machine.table.items)
      (fits : IsTableOf x.files rows) (at : IsEngineAt x rows early.machine early.acts e) where
    abbrev begun-from : Option Held → alone.Origin
    begun-from h = record { flat = d; files = x.files; plan = plan_of x.plan; resume = option_map (snapshot_of d.rows) h }

    come : ComesBehind d x.files order (plan_of x.plan) early
    come = behind.comes (plan_of x.plan)

    first : IsAtFirst d come.stage
    first = come.first on

    of : IsStateAt early.machine come.stage.state
    of = record {
      values = ap (λ (s : State). s.values) come.state;
      ticks = ap (λ (s : State). s.ticks) come.state;
      answer = ap (λ (s : State). s.answer) come.state;
      later = first.later;
    }

    place : x.image.rise ≡ come.stage.node
    place = can.image.rise ∙ sym ((one come.stage.node).0 first.rises)

    held : HoldsStage d b come.stage
    held =
        let base = bank.holds come.stage.state of in
        record {
          node = base.node ∙ place;
          holds = subst (λ (v : List (List ℕ)). HoldsState d b come.stage.state v) (sym first.committed) base.holds;
          idle = subst (λ n. (y : Node) → slice_get (cell_nodes d) n ≡ Some y → AllByRecursion (IsIdle b) (stores_before d (idle_before n y))) place base.idle;
        }

    alike : IsAlike x rows early.machine come.stage.state
    alike = record {
      printed = sym (ap (λ (s : State). s.printed) come.state);
      asked = sym (ap (λ (s : State). s.saves) come.state);
      ticks = sym (ap (λ (s : State). s.ticks) come.state);
      table = table ∙ sym (ap (λ (s : State). s.table) come.state);
      fits = fits;
    }

    comes : Comes (origin_of x) T nets early.acts come.stage
    comes = subst (λ (o : alone.Origin). Comes o T nets early.acts come.stage) (ap begun-from (sym start)) come.comes

    ticks : come.stage.state.ticks ≡ first_tick (origin_of x).resume
    ticks =
        ap (λ (s : State). s.ticks) come.state
        ∙ (behind.ticks ∙ ap (λ (h : Option Held). first_tick (option_map (snapshot_of d.rows) h)) (sym start))

    pub begins-anew : Begins x e b
    begins-anew =
        begins-at early.machine early.acts come.stage at alike comes first.rises (ap (λ (s : State). s.finished) come.state ∙ on) bank.fits held ticks

  -- ---- at what another run held

  module _ (h : Held) (start : x.start ≡ Some h) (m : Machine)
      (keeps : (node : ℕ) (s : State) → HoldsStage d b (committed_in node s) → HoldsStage d b (committed_in node (settled d x.files nets s)))
      (bank : HoldsResumed d h x.image.slots x.image.rise b)
      (table : open_files x.files rows ≡ h.files) (fits : IsTableOf x.files rows) (printed : m.printed.items ≡ []) (asked : m.saves.items ≡ [])
      (ticks : m.ticks ≡ h.tick) (at : IsEngineAt x rows m zero e) where
    abbrev from : Option Snapshot → Stage
    from s = first_stage (origin_of x) T nets s

    resume : (origin_of x).resume ≡ Some (snapshot_of d.rows h)
    resume = ap (option_map (snapshot_of d.rows)) start

    abbrev there : Stage
    there = from (Some (snapshot_of d.rows h))

    comes-again : Comes (origin_of x) T nets zero there
    comes-again = subst (λ (s : Option Snapshot). Comes (origin_of x) T nets zero (from s)) resume Comes.begins

    alike-again : IsAlike x rows m there.state
    alike-again = record {
      printed = printed;
      asked = asked;
      ticks = ticks;
      table = table;
      fits = fits;
    }

    held-again : HoldsStage d b there
    held-again = at-rise T.rise.first (settled d x.files nets (resumed_state d h)) can.image.rise (keeps x.image.rise (resumed_state d h) bank.holds)

    pub begins-again : Begins x e b
    begins-again =
        begins-at m zero there at alike-again comes-again ((one T.rise.first).1 refl) refl bank.fits held-again (sym (ap first_tick resume))
