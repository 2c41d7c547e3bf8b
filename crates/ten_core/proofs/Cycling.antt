-- A cycle of a tenant's bank is one of its design's table.
use Rattle.std.proofs.Common.{◌≡◌, ℕ, suc, ◌+◌, ◌<◌, ◌≤◌, ◌^◌, Bool, true, false, List, [], length, Some, inl, inr, refl, sym, ap, ◌∙◌, subst, arith}
use Rattle.std.specs.Prelude.{if◌then◌else◌, is_some, slice_get, slice_index}
use Rattle.std.proofs.lemmas.Option.{slice_get_cases, slice_get_within}
use Rattle.vl_design.specs.vl_base.specs.declared.files.File.{File}
use Rattle.vl_design.specs.Alone.{Origin}
use Rattle.vl_design.specs.Syntax.{Flat}
use Rattle.trap_runtime.specs.cell_form.specs.Data.{BankData, StateData, TableData}
use Rattle.trap_runtime.specs.cell_form.specs.Sound.{Shape, IsList, shape_of}
use Rattle.trap_runtime.specs.cell_form.specs.States.{present, table_cycled}
use Rattle.trap_runtime.specs.cell_form.specs.Views as cells
use Rattle.ten_form.specs.sub_nodes.specs.Code.{table_of}
use Rattle.ten_form.specs.sub_nodes.specs.Cycles.{Stage, cycled, cycle, is_trap, rises}
use Rattle.ten_form.specs.sub_nodes.specs.Nodes.{Go, Branch, Switch, Commit, Node, Run, Trap, Apply}
use Rattle.ten_form.specs.sub_nodes.specs.Stands.{at_trap, Comes, cycles}
use Rattle.ten_form.specs.sub_nodes.specs.Early.{early_from}
use Rattle.ten_form.specs.sub_nodes.proofs.Leading.{sizes}
use Rattle.ten_form.specs.Banks.{cell_nodes, IsFor}
use Rattle.ten_form.specs.Nets.{nets_of, IsTidy, HoldsNoOthers}
use Rattle.ten_form.specs.Registers.{state_register}
use Rattle.ten_form.specs.Delays.{IsDue}
use Rattle.ten_form.specs.Paired.{CallsStandApart}
use Rattle.ten_form.specs.States.{slots_in, IsStateOf, AreStates, StandsAt}
use Rattle.ten_core.specs.Runs.{IsAt, IsTame, Runs}
use Rattle.ten_core.specs.Tenants.{TenantData, states_of}
use Rattle.ten_core.specs.Traps.{has_trap}
use Rattle.ten_core.specs.declared.image.Image.{Image}
use Rattle.ten_core.proofs.Late.{node-late, node-there, cycled-late}
use Rattle.ten_core.proofs.Silent.{Quiet, cycled-quiet}

-- ---- the state of a node

module _ (d : Flat) (order : List ℕ) where
  -- a state has a call to be served just where its node is a call's; else its cells may run
  pub record Stateful (x : Node) (s : StateData) : Type 0 where
    pub trap : has_trap (Some s) ≡ is_trap (Some x)
    pub runs : is_trap (Some x) ≡ false → (z : Shape) → IsFor d (slots_in s.cells) z → IsList z s.cells

  stateful : (n slots : ℕ) (nodes : List Node) (states : List StateData) (x : Node) (s : StateData) →
      IsStateOf d order n slots nodes states x s → Stateful x s
  stateful n slots nodes states (Run g (Go to)) s h = record { trap = ap is_some h.0.none; runs = λ e. h.0.does.runs }
  stateful n slots nodes states (Run g (Branch t a b)) s h = record { trap = ap is_some h.none; runs = λ e. h.does.runs }
  stateful n slots nodes states (Run g (Switch e ways other)) s h = record { trap = ap is_some h.none; runs = λ e. h.does.runs }
  stateful n slots nodes states (Run g (Commit to)) s h = record { trap = ap is_some h.none; runs = λ e. h.does.runs }
  stateful n slots nodes states (Trap task to) s h = record { trap = ap is_some h.is; runs = λ e. (let z : ⊥ = cc in absurd z) }
  stateful n slots nodes states (Apply to) s h = record { trap = ap is_some h.none; runs = λ e. h.does.runs }

  for-fewer : (n m : ℕ) (z : Shape) → n ≤ m → IsFor d m z → IsFor d n z
  for-fewer n m z le f = record { regs = f.regs; mems = f.mems; slots = (let h = f.slots in omega (arith, le, h)) }

  -- the node of a number, and its state
  pub record Both (slots : ℕ) (states : List StateData) (n : ℕ) : Type 0 where
    pub node : Node
    pub state : StateData
    pub is : slice_get (cell_nodes d) n ≡ Some node
    pub has : slice_get states n ≡ Some state
    pub fits : slots_in state.cells ≤ slots
    pub of : IsStateOf d order n slots (cell_nodes d) states node state

  module _ (slots : ℕ) (states : List StateData) (n : ℕ) (late : n < early_from d) (all : AreStates d order slots (cell_nodes d) states) where
    pub number : Both slots states n
    number =
        let x = node-there d n late in
        elim ((slice_get_cases states n).1) [
          | inl k ↦ record { node = x.0; state = k.0; is = x.1; has = k.2; fits = all.fits n k.0 k.2; of = all.each n x.0 k.0 x.1 k.2 }
          | inr k ↦ (let many = all.many in let lt = slice_get_within (cell_nodes d) n x.0 x.1 in let past = k.0 in absurd (omega (arith, many, lt, past)))
        ]

    stateful-there : Stateful number.node number.state
    stateful-there = stateful n slots (cell_nodes d) states number.node number.state number.of

    pub trap-same : has_trap (slice_get states n) ≡ is_trap (slice_get (cell_nodes d) n)
    trap-same = ap has_trap number.has ∙ (stateful-there.trap ∙ sym (ap is_trap number.is))

    -- the cells of the state of a node that is no call's may run
    pub may-run : (b : BankData) (s : StateData) → IsFor d slots (shape_of b) → is_trap (slice_get (cell_nodes d) n) ≡ false → slice_get states n ≡ Some s → IsList (shape_of b) s.cells
    may-run b s shape free e =
        let k = number.has in
        let same : number.state ≡ s = cc in
        subst (λ (x : StateData). IsList (shape_of b) x.cells) same
        (stateful-there.runs (sym (ap is_trap number.is) ∙ free) (shape_of b) (for-fewer (slots_in number.state.cells) slots (shape_of b) number.fits shape))

-- ---- a tenant's cycle

-- the law of one cycle of states
abbrev pub CycleLaw : Type 0
CycleLaw =
    (d : Flat) (order : List ℕ) (files : List File) (slots : ℕ) (states : List StateData) (b : BankData) (i : Stage) (x : Node) →
    AreStates d order slots (cell_nodes d) states → CallsStandApart (cell_nodes d) → StandsAt d order files slots (cell_nodes d) states b i →
    slice_get (cell_nodes d) i.node ≡ Some x → is_trap (Some x) ≡ false → IsTidy d files order i.state i.committed →
    HoldsNoOthers d i.state i.committed →
    HoldsNoOthers d (cycle d files (nets_of d files order) (cell_nodes d) i).state (cycle d files (nets_of d files order) (cell_nodes d) i).committed → IsDue d x i →
    i.state.finished ≡ false → (cycle d files (nets_of d files order) (cell_nodes d) i).state.ticks < 2 ^ 32 →
    StandsAt d order files slots (cell_nodes d) states (table_cycled (record { state = state_register; states = states }) b)
    (cycle d files (nets_of d files order) (cell_nodes d) i)

-- one act more, unless a call waits then
abbrev pub counted_by : Bool → ℕ → ℕ
counted_by waits c = if waits then c else suc c

-- the number of the next state is in the register of this number
pub record Driven (r : ℕ) (b : BankData) : Type 0 where
  pub is : r ≡ state_register
  pub there : r < length b.regs
  pub few : slice_index b.regs state_register < 2 ^ 32

at-most-one : (b : Bool) (n : ℕ) → (if b then n + 1 else n) ≤ n + 1
at-most-one true n = omega arith
at-most-one false n = omega arith

module _ (o : Origin) (order : List ℕ) (t : TenantData) (c : ℕ) (here : Stage) (at : IsAt o order t c here) where
  abbrev nodes : List Node
  nodes = cell_nodes o.flat

  abbrev table : TableData
  table = cells.table_of t.image.table

  abbrev next : Stage
  next = cycle o.flat o.files (nets_of o.flat o.files order) (table_of o.flat).nodes here

  -- behind time zero's wave the nodes of cells are the table's
  abbrev of-cells : Stage
  of-cells = cycle o.flat o.files (nets_of o.flat o.files order) nodes here

  pub same-node : slice_get nodes here.node ≡ slice_get (table_of o.flat).nodes here.node
  same-node = node-late o.flat here.node at.late

  same-cycle : of-cells ≡ next
  same-cycle = ap (λ x. cycled o.flat o.files (nets_of o.flat o.files order) x here) same-node

  next-late : next.node < early_from o.flat
  next-late = cycled-late o.flat o.files (nets_of o.flat o.files order) (slice_get (table_of o.flat).nodes here.node) here at.late refl

  abbrev Stands : BankData → Stage → Type 0
  Stands b i = StandsAt o.flat order o.files t.image.slots nodes (states_of t.image) b i

  pub register-there : t.image.table.state < length t.bank.regs
  register-there = let r = at.image.register in let many = at.stands.shape.regs in omega (arith, r, many)

  -- the state that is next is that of the node that is next
  pub present-here : present table t.bank ≡ slice_get (states_of t.image) here.node
  present-here =
      ap (λ r. slice_get (states_of t.image) (slice_index t.bank.regs r)) at.image.register
      ∙ ap (slice_get (states_of t.image)) at.stands.stage.node

  no-trap : t.waits ≡ false → is_trap (slice_get nodes here.node) ≡ false
  no-trap w = ap is_trap same-node ∙ (sym at.waits ∙ w)

  pub list-there : t.waits ≡ false → (s : StateData) → present table t.bank ≡ Some s → IsList (shape_of t.bank) s.cells
  list-there w s e =
      may-run o.flat order t.image.slots (states_of t.image) here.node at.late at.image.states t.bank s at.stands.shape (no-trap w) (sym present-here ∙ e)

  -- a call waits where the state of the next node has one
  waits-at : (i : Stage) → i.node < early_from o.flat → has_trap (slice_get (states_of t.image) i.node) ≡ at_trap (table_of o.flat) i
  waits-at i l = trap-same o.flat order t.image.slots (states_of t.image) i.node l at.image.states ∙ ap is_trap (node-late o.flat i.node l)

  module _ (tame : IsTame o order) (w : t.waits ≡ false) (f : t.finished ≡ false) where
    quiet-next : Quiet (rises (slice_get (table_of o.flat).nodes here.node)) here.state next.state
    quiet-next =
        cycled-quiet o.flat o.files (nets_of o.flat o.files order) (slice_get (table_of o.flat).nodes here.node) here
        (λ g on e. tame.quiet here.node g on e)

    alive : here.state.finished ≡ false
    alive = sym at.finished ∙ f

    few-next : t.ticks + 1 < 2 ^ 32 → of-cells.state.ticks < 2 ^ 32
    few-next room =
        subst (λ (i : Stage). i.state.ticks < 2 ^ 32) (sym same-cycle)
        (let e = at.ticks in let l = at-most-one (rises (slice_get (table_of o.flat).nodes here.node)) here.state.ticks in let h = quiet-next.ticks in omega (arith, e, l, h, room))

    -- the stage behind the cycle is one that the run comes to
    comes-next : Comes o (table_of o.flat) (nets_of o.flat o.files order) (counted_by (at_trap (table_of o.flat) next) c) next
    comes-next = cycles at.comes alive (sym at.waits ∙ w)

    none-next : HoldsNoOthers o.flat of-cells.state of-cells.committed
    none-next =
        subst (λ (i : Stage). HoldsNoOthers o.flat i.state i.committed) (sym same-cycle)
        (tame.others (counted_by (at_trap (table_of o.flat) next) c) next comes-next)

    next-stands : CycleLaw → t.ticks + 1 < 2 ^ 32 → Stands (table_cycled table t.bank) next
    next-stands law room =
        let h = number o.flat order t.image.slots (states_of t.image) here.node at.late at.image.states in
        subst (Stands (table_cycled table t.bank)) same-cycle
        (subst (λ r. Stands (table_cycled (record { state = r; states = states_of t.image }) t.bank) of-cells) (sym at.image.register)
        (law o.flat order o.files t.image.slots (states_of t.image) t.bank here h.node at.image.states at.image.apart at.stands h.is (sym (ap is_trap h.is) ∙ no-trap w) (tame.tidy c here at.comes at.late alive)
        (tame.others c here at.comes) none-next (tame.due c here h.node at.comes (sym same-node ∙ h.is)) alive (few-next room)))

    -- the state register names the node that is next
    module _ (law : CycleLaw) (room : t.ticks + 1 < 2 ^ 32) where
      number-next : slice_index (table_cycled table t.bank).regs state_register ≡ next.node
      number-next = (next-stands law room).stage.node

      -- it is in the bank, and its number is small
      driven : (x : Image) (b : BankData) → x ≡ t.image → b ≡ table_cycled (cells.table_of x.table) t.bank → Driven x.table.state b
      driven x b same is =
          let bank : b ≡ table_cycled table t.bank = is ∙ ap (λ (y : Image). table_cycled (cells.table_of y.table) t.bank) same in
          let st : Stands b next = subst (λ z. Stands z next) (sym bank) (next-stands law room) in
          let state : x.table.state ≡ state_register = ap (λ (y : Image). y.table.state) same ∙ at.image.register in
          let many = st.shape.regs in
          let e = st.stage.node in
          let late = next-late in
          let all = (sizes o.flat).all in
          let few = at.image.few in
          record { is = state; there = omega (arith, state, many); few = omega (arith, e, late, all, few) }

      pub stepped-at : (to : ℕ) (rise waits : Bool) (count ticks : ℕ) (names : List (List ℕ)) →
          to ≡ slice_index (table_cycled table t.bank).regs state_register → rise ≡ rises (slice_get (table_of o.flat).nodes here.node) →
          waits ≡ has_trap (slice_get (states_of t.image) to) → count ≡ counted_by waits t.cycles →
          ticks ≡ (if rise then t.ticks + 1 else t.ticks) → names ≡ (if rise then [] else t.asked) →
          IsAt o order (record t { bank = table_cycled table t.bank; asked = names; ticks = ticks; cycles = count; next = to; waits = waits }) (counted_by waits c) next
      stepped-at to rise waits count ticks names is up asks counts begun left =
          let there : to ≡ next.node = is ∙ number-next in
          let trap : waits ≡ at_trap (table_of o.flat) next = asks ∙ (ap (λ n. has_trap (slice_get (states_of t.image) n)) there ∙ waits-at next next-late) in
          record {
            image = at.image;
            files = at.files;
            comes = subst (λ z. Comes o (table_of o.flat) (nets_of o.flat o.files order) (counted_by z c) next) (sym trap) comes-next;
            late = next-late;
            stands = next-stands law room;
            printed = at.printed ∙ sym quiet-next.printed;
            fits = at.fits;
            table = at.table ∙ sym quiet-next.table;
            finished = at.finished ∙ sym quiet-next.finished;
            waits = trap;
            cycles = counts ∙ ap (counted_by waits) at.cycles;
            asked = left ∙ (ap (λ b. if b then [] else t.asked) up ∙ (ap (λ (xs : List (List ℕ)). if rises (slice_get (table_of o.flat).nodes here.node) then [] else xs) at.asked ∙ sym quiet-next.saves));
            ticks = begun ∙ (ap (λ b. if b then t.ticks + 1 else t.ticks) up ∙ (ap (λ n. if rises (slice_get (table_of o.flat).nodes here.node) then n + 1 else n) at.ticks ∙ sym quiet-next.ticks));
            next = there;
          }

-- so the number of the next state can be read where a cycle was done
pub driven-to : CycleLaw → (t : TenantData) → Runs t → t.waits ≡ false → t.finished ≡ false → t.ticks + 1 < 2 ^ 32 →
    (x : Image) (b : BankData) → x ≡ t.image → b ≡ table_cycled (cells.table_of x.table) t.bank → Driven x.table.state b
driven-to law t r w f room x b same is = driven r.origin r.order t r.acts r.stage r.at r.tame w f law room x b same is

pub counted-more : (waits : Bool) (c : ℕ) → waits ≡ false → c + 1 ≡ counted_by waits c
counted-more true c e = let z : ⊥ = cc in absurd z
counted-more false c e = omega arith

pub counted-same : (waits : Bool) (c : ℕ) → waits ≡ true → c ≡ counted_by waits c
counted-same true c e = refl
counted-same false c e = let z : ⊥ = cc in absurd z
