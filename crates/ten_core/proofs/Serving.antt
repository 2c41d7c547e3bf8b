-- A call that a tenant serves is done as the run of its design's table does it.
use Rattle.std.proofs.Common.{◌≡◌, ◌≢◌, ℕ, suc, ◌+◌, ◌*◌, ◌<◌, ◌≤◌, Bool, true, false, List, [], ◌∷◌, length, map, take, Option, Some, None}
use Rattle.std.proofs.Common.{refl, sym, ap, ◌∙◌, subst, arith}
use Rattle.std.specs.Prelude.{IsTrue, ◌↔◌, ◌++◌, drop, slice_get, slice_set, slice_index}
use Rattle.std.specs.List.{AllByRecursion}
use Rattle.std.proofs.lemmas.Bool.{true≢false}
use Rattle.std.proofs.lemmas.List.{get_or-set_same, get_or-set_other, length-set}
use Rattle.std.proofs.lemmas.List.Elements.{All-head}
use Rattle.vl_design.specs.Alone.{Origin}
use Rattle.vl_design.specs.Functions.{scope_of}
use Rattle.vl_design.specs.Snapshots.{Snapshot}
use Rattle.vl_design.specs.State.{State, sample}
use Rattle.vl_design.specs.Syntax.{Task, Print, Finish, Save, Fopen, Fread, Fgetc, Feof, Fclose, ReadHex, Flat}
use Rattle.vl_design.specs.Tasks.{called}
use Rattle.trap_runtime.specs.cell_form.specs.Data.{BankData, StateData, TableData}
use Rattle.trap_runtime.specs.cell_form.specs.Sound.{Shape, shape_of}
use Rattle.trap_runtime.specs.cell_form.specs.Views as cells
use Rattle.trap_runtime.specs.cell_form.specs.declared.table.Trap.{Trap as TrapData}
use Rattle.ten_form.specs.sub_nodes.specs.Code.{table_of}
use Rattle.ten_form.specs.sub_nodes.specs.Cycles.{Stage, served, served_by, is_trap}
use Rattle.ten_form.specs.sub_nodes.specs.Nodes.{Node, Run, Trap, Apply}
use Rattle.ten_form.specs.sub_nodes.specs.Stands.{at_trap, first_stage, Comes, cycles, serves}
use Rattle.ten_form.specs.sub_nodes.specs.Early.{early_from}
use Rattle.ten_form.specs.sub_nodes.proofs.Calling.{IsNoCall, no_call_next}
use Rattle.ten_files.specs.declared.row.Row.{Row}
use Rattle.ten_files.specs.Tables.{open_files, IsTableOf}
use Rattle.ten_form.specs.Banks.{cell_nodes, stores_before, IsFor, HoldsState}
use Rattle.ten_form.specs.Nets.{nets_of}
use Rattle.ten_form.specs.Registers.{value_register, work_register, update_register, mask_register, register_count}
use Rattle.ten_form.specs.Holding.{IsIdle}
use Rattle.ten_form.specs.Stores.{words_down}
use Rattle.ten_form.proofs.Same.{all-from, idle-behind, stores-behind}
use Rattle.ten_form.specs.Asked.{asked}
use Rattle.ten_form.specs.Traps.{IsCallOf}
use Rattle.ten_form.specs.Works.{saved, works_of, IsBefore, DoesCall}
use Rattle.ten_form.proofs.Doing.{can, does}
use Rattle.ten_form.proofs.Serving.{holds-altered}
use Rattle.trap_runtime.specs.Served as s
use Rattle.trap_runtime.specs.Traps.{IsTrap}
use Rattle.trap_runtime.specs.declared.served.Served.TheVariants as way
use Rattle.ten_form.specs.States.{idle_before, Waits, IsStateOf, StandsAt}
use Rattle.ten_core.specs.Memory.{takes_memory, has_call_for_memory, serving_takes_memory}
use Rattle.ten_core.specs.Runs.{IsAt, IsTame}
use Rattle.ten_core.specs.Tenants.{TenantData, states_of}
use Rattle.ten_core.specs.Traps.{IsAtCall}
use Rattle.ten_core.proofs.Late.{node-late, call-late}
use Rattle.ten_core.proofs.Silent.{call-ticks, cycled-quiet}
use Rattle.ten_core.proofs.Cycling.{number, present-here, same-node}

-- ---- where calls stand

-- the node behind a call is no call's
behind-call : (d : Flat) (n : ℕ) (task : Task) (to : ℕ) → slice_get (table_of d).nodes n ≡ Some (Trap task to) → is_trap (slice_get (table_of d).nodes to) ≡ false
behind-call d n task to is = All-head (IsNoCall d) to [] (no_call_next d n (Trap task to) is (λ g m e. (let z : ⊥ = cc in z)))

module _ (o : Origin) (order : List ℕ) (tame : IsTame o order) where
  begins-alive : (r : Option Snapshot) → (first_stage o (table_of o.flat) (nets_of o.flat o.files order) r).state.finished ≡ false
  begins-alive None = refl
  begins-alive (Some k) = refl

  -- the run comes to a call before it has finished
  trap-alive : {c : ℕ} {i : Stage} → Comes o (table_of o.flat) (nets_of o.flat o.files order) c i → at_trap (table_of o.flat) i ≡ true →
      i.state.finished ≡ false
  trap-alive Comes.begins w = begins-alive o.resume
  trap-alive (cycles {i = i} x f h) w =
      (cycled-quiet o.flat o.files (nets_of o.flat o.files order) (slice_get (table_of o.flat).nodes i.node) i
      (λ g on e. tame.quiet i.node g on e)).finished ∙ f
  trap-alive (serves {i = i} x h) w = at (slice_get (table_of o.flat).nodes i.node) refl h w
    where
      at : (x : Option Node) → slice_get (table_of o.flat).nodes i.node ≡ x → is_trap x ≡ true →
          at_trap (table_of o.flat) (served_by (scope_of o.flat o.files) x i) ≡ true →
          (served_by (scope_of o.flat o.files) x i).state.finished ≡ false
      at None e h w = let z : ⊥ = cc in absurd z
      at (Some (Run g on)) e h w = let z : ⊥ = cc in absurd z
      at (Some (Trap task to)) e h w = let f = behind-call o.flat i.node task to e in let z : ⊥ = cc in absurd z
      at (Some (Apply to)) e h w = let z : ⊥ = cc in absurd z

-- ---- a bank with another state next

set-other : (b : BankData) (r v j : ℕ) → r ≡ 0 → j ≢ 0 → slice_index (slice_set b.regs r v) j ≡ slice_index b.regs j
set-other b r v j e n = rw e (get_or-set_other b.regs 0 j v 0 n)

goes-to : (d : Flat) (committed : List (List ℕ)) (b : BankData) (r v : ℕ) (y : State) → r ≡ 0 → HoldsState d b y committed →
    HoldsState d (record b { regs = slice_set b.regs r v }) y committed
goes-to d committed b r v y e h =
    let g = h.signals in
    let other : (j : ℕ) → j ≢ 0 → slice_index (slice_set b.regs r v) j ≡ slice_index b.regs j = λ j n. set-other b r v j e n in
    holds-altered d committed b (record b { regs = slice_set b.regs r v }) y y
    (record {
      works = λ k i. other (work_register k) (λ z. omega (arith, z)) ∙ g.works k i;
      memories = h.memories;
      answer = other 1 (λ z. omega (arith, z)) ∙ g.answer;
      small = g.small;
      values = λ k. other (value_register k) (λ z. omega (arith, z));
      updates = λ k. other (update_register k) (λ z. omega (arith, z));
      masks = λ k. other (mask_register k) (λ z. omega (arith, z));
      stores = λ j l. other j (λ z. omega (arith, z, l));
      ticks_kept = other 2 (λ z. omega (arith, z));
      later = refl;
      ticks = refl;
    })
    h

-- behind a call that leaves the registers of stores the stores are idle that have to be
idle-then : (d : Flat) (b z : BankData) (to : ℕ) → ((r : ℕ) → register_count (length d.rows) ≤ r → slice_index z.regs r ≡ slice_index b.regs r) →
    AllByRecursion (IsIdle b) (stores_before d (to + 1)) → (x : Node) → is_trap (Some x) ≡ false → AllByRecursion (IsIdle z) (stores_before d (idle_before to x))
idle-then d b z to same h (Run g on) f =
    let from = register_count (length d.rows) in
    let first = from + 4 * length (words_down (drop (to + 1) (cell_nodes d))) in
    let stores = stores_before d (to + 1) in
    idle-behind b z from same stores
    (all-from (λ x. first ≤ x.first) (λ x. from ≤ x.first) (λ x l. omega (arith, l)) stores (stores-behind first (words_down (take (to + 1) (cell_nodes d))))) h
idle-then d b z to same h (Trap task at) f = absurd (true≢false f)
idle-then d b z to same h (Apply at) f = tt

next-is : (b : BankData) (r v : ℕ) → r ≡ 0 → r < length b.regs → slice_index (slice_set b.regs r v) 0 ≡ v
next-is b r v e l = let there : 0 < length b.regs = omega (arith, e, l) in rw e (get_or-set_same b.regs 0 v 0 there)

alike : (a b : Bool) (P : Type 0) → (IsTrue a ↔ P) → (P ↔ (b ≡ true)) → a ≡ b
alike true true P f g = refl
alike true false P f g = sym (g.0 (f.0 refl))
alike false true P f g = f.1 (g.1 refl)
alike false false P f g = refl

-- ---- calls that take memory

-- a trap takes memory to be served just where its call does
takes-alike : (d : Flat) (task : Task) (t : TrapData) → IsCallOf d task t → s.takes_memory t.call ≡ takes_memory task
takes-alike d (Print pieces newline) t h = ap s.takes_memory h.1
takes-alike d (Finish es) t h = ap s.takes_memory h
takes-alike d (Save name) t h = ap s.takes_memory h
takes-alike d (Fopen name) t h = ap s.takes_memory h
takes-alike d (Fread k fd) t h = ap s.takes_memory h.0
takes-alike d (Fgetc fd) t h = ap s.takes_memory h
takes-alike d (Feof fd) t h = ap s.takes_memory h
takes-alike d (Fclose fd) t h = ap s.takes_memory h
takes-alike d (ReadHex name m) t h = ap s.takes_memory h.4

-- ---- the call that waits

module _ (o : Origin) (order : List ℕ) (t : TenantData) (c : ℕ) (here : Stage) (at : IsAt o order t c here) (tame : IsTame o order) (w : t.waits ≡ true) where
  abbrev nodes : List Node
  nodes = cell_nodes o.flat

  abbrev table : TableData
  table = cells.table_of t.image.table

  -- the node that is next is this call's, and its state waits for it
  pub record Call : Type 0 where
    pub task : Task
    pub to : ℕ
    pub state : StateData
    pub node : slice_get nodes here.node ≡ Some (Trap task to)
    pub has : slice_get (states_of t.image) here.node ≡ Some state
    pub waits : Waits o.flat order t.image.slots task to state

  call-of : (x : Node) (y : StateData) → is_trap (Some x) ≡ true → slice_get nodes here.node ≡ Some x →
      slice_get (states_of t.image) here.node ≡ Some y →
      IsStateOf o.flat order here.node t.image.slots nodes (states_of t.image) x y → Call
  call-of (Run g on) y w e f h = let z : ⊥ = cc in absurd z
  call-of (Trap task to) y w e f h = record { task = task; to = to; state = y; node = e; has = f; waits = h }
  call-of (Apply to) y w e f h = let z : ⊥ = cc in absurd z

  trapped : at_trap (table_of o.flat) here ≡ true
  trapped = sym at.waits ∙ w

  call-here : Call
  call-here =
      let h = number o.flat order t.image.slots (states_of t.image) here.node at.late at.image.states in
      call-of h.node h.state (sym (ap is_trap h.is) ∙ (ap is_trap (same-node o order t c here at) ∙ trapped)) h.is h.has h.of

  is-at-call : IsAtCall table t.bank call-here.waits.trap call-here.to
  is-at-call = record {
    state = call-here.state;
    is_next = present-here o order t c here at ∙ call-here.has;
    waits = call-here.waits.is;
    leads = call-here.waits.next;
  }

  abbrev task : Task
  task = call-here.task

  abbrev trap : TrapData
  trap = call-here.waits.trap

  in-table : slice_get (table_of o.flat).nodes here.node ≡ Some (Trap task call-here.to)
  in-table = sym (same-node o order t c here at) ∙ call-here.node

  -- there is no other call
  one-call : (other : TrapData) (to : ℕ) → IsAtCall table t.bank other to → (other ≡ trap) × (to ≡ call-here.to)
  one-call other to h =
      let mine = is-at-call in
      let same : h.state ≡ mine.state = (let e = h.is_next in let f = mine.is_next in cc) in
      let traps : Some other ≡ Some trap = sym h.waits ∙ (ap (λ (y : StateData). y.trap) same ∙ mine.waits) in
      let leads : to ∷ [] ≡ call-here.to ∷ [] = sym h.leads ∙ (ap (λ (y : StateData). y.nexts) same ∙ mine.leads) in
      (cc, cc)

  alive : here.state.finished ≡ false
  alive = trap-alive o order tame at.comes trapped

  args-held : map (slice_index t.bank.slots) trap.args ≡ asked (scope_of o.flat o.files) (sample here.state) task
  args-held =
      let call = call-here in
      let k = at.stands.asked call.task call.to call.node in
      let states : k.there.state ≡ call.state = (let e = k.there.there in let f = call.has in cc) in
      let traps : Some k.trap ≡ Some call.waits.trap = sym k.there.trap ∙ (ap (λ (y : StateData). y.trap) states ∙ call.waits.is) in
      let same : k.trap ≡ call.waits.trap = cc in
      subst (λ (z : TrapData). map (slice_index t.bank.slots) z.args ≡ asked (scope_of o.flat o.files) (sample here.state) call.task) same k.args

  before : IsBefore o.flat o.files task t.image.slots trap t.bank here.state here.committed
  before =
      let calls = tame.calls here.node call-here.task call-here.to in-table in
      record {
        trap = call-here.waits.call;
        sound = calls.0;
        variable = calls.1;
        one_word = tame.one_word;
        shape = at.stands.shape;
        holds = at.stands.stage.holds;
        fine = (tame.tidy c here at.comes at.late alive).fine;
        goes_on = alive;
        args = args-held;
      }

  can-serve : IsTrap t.bank trap
  can-serve = can o.flat o.files t.image.slots trap t.bank here.state here.committed task before

  done : DoesCall o.flat o.files task trap t.bank here.state here.committed
  done = does o.flat o.files t.image.slots trap t.bank here.state here.committed task tame.bytes before

  pub some-call : (other : TrapData) × (to : ℕ) × IsAtCall table t.bank other to
  some-call = (trap, call-here.to, is-at-call)

  pub can-be-served : (other : TrapData) (to : ℕ) → IsAtCall table t.bank other to → IsTrap t.bank other
  can-be-served other to h = subst (IsTrap t.bank) (sym (one-call other to h).0) can-serve

  -- serving the call takes memory where serving its trap does
  pub takes-memory : (other : TrapData) (to : ℕ) → IsAtCall table t.bank other to → s.takes_memory other.call ≡ true → serving_takes_memory o.flat here ≡ true
  takes-memory other to h e =
      ap has_call_for_memory in-table
      ∙ (sym (takes-alike o.flat task trap call-here.waits.call.call)
      ∙ (ap (λ (z : TrapData). s.takes_memory z.call) (sym (one-call other to h).0) ∙ e))

  -- ---- behind the call

  abbrev works : List (Option Row) → s.Works
  works rows = record { bank = t.bank; table = open_files t.files rows; printed = t.printed }

  abbrev state : State
  state = called (scope_of o.flat o.files) task here.state

  works-is : works t.rows ≡ works_of t.bank here.state
  works-is =
      let tables : open_files t.files t.rows ≡ here.state.table = ap (λ fs. open_files fs t.rows) (sym at.files) ∙ at.table in
      ap (λ x. record { bank = t.bank; table = x; printed = t.printed }) tables
      ∙ ap (λ x. record { bank = t.bank; table = here.state.table; printed = x }) at.printed

  -- a call, served, leaves this
  abbrev IsServed : TrapData → BankData → List (Option Row) → List ℕ → Type 0
  IsServed other b rows printed = record { bank = b; table = open_files t.files rows; printed = printed } ≡ s.served t.files other (works t.rows)

  module _ (b : BankData) (rows : List (Option Row)) (printed : List ℕ) (is : IsServed trap b rows printed) where
    served-is : record { bank = b; table = open_files t.files rows; printed = printed } ≡ s.served o.files trap (works_of t.bank here.state)
    served-is = is ∙ (ap (s.served t.files trap) works-is ∙ ap (λ fs. s.served fs trap (works_of t.bank here.state)) (sym at.files))

    bank-is : b ≡ (s.served o.files trap (works_of t.bank here.state)).bank
    bank-is = ap (λ (z : s.Works). z.bank) served-is

    shape-is : shape_of b ≡ shape_of t.bank
    shape-is = ap shape_of bank-is ∙ done.shape

    served-regs : length b.regs ≡ length t.bank.regs
    served-regs = ap (λ (z : Shape). z.regs) shape-is

    served-register : t.image.table.state < length b.regs
    served-register = let r = at.image.register in let many = at.stands.shape.regs in let same = served-regs in omega (arith, r, many, same)

    abbrev after : BankData
    after = record b { regs = slice_set b.regs t.image.table.state call-here.to }

    abbrev then : Stage
    then = record here { node = call-here.to; state = state }

    then-is : served (scope_of o.flat o.files) (table_of o.flat).nodes here ≡ then
    then-is = ap (λ x. served_by (scope_of o.flat o.files) x here) in-table

    then-late : call-here.to < early_from o.flat
    then-late = call-late o.flat here.node task call-here.to at.late in-table

    none-behind : at_trap (table_of o.flat) then ≡ false
    none-behind = behind-call o.flat here.node task call-here.to in-table

    free-behind : (x : Node) → slice_get nodes call-here.to ≡ Some x → is_trap (Some x) ≡ false
    free-behind x e = sym (ap is_trap e) ∙ (ap is_trap (node-late o.flat call-here.to then-late) ∙ none-behind)

    stores-kept : (r : ℕ) → register_count (length o.flat.rows) ≤ r → slice_index after.regs r ≡ slice_index t.bank.regs r
    stores-kept r l =
        set-other b t.image.table.state call-here.to r at.image.register (λ z. omega (arith, z, l))
        ∙ (ap (λ (z : BankData). slice_index z.regs r) bank-is ∙ done.stores r l)

    then-holds : HoldsState o.flat after state here.committed
    then-holds =
        goes-to o.flat here.committed b t.image.table.state call-here.to state at.image.register
        (subst (λ z. HoldsState o.flat z state here.committed) (sym bank-is) done.bank)

    then-stands : StandsAt o.flat order o.files t.image.slots nodes (states_of t.image) after then
    then-stands =
        let same = shape-is in
        let shape = subst (IsFor o.flat t.image.slots) (sym same) at.stands.shape in
        record {
          shape = record { regs = length-set b.regs t.image.table.state call-here.to ∙ shape.regs; mems = shape.mems; slots = shape.slots };
          stage = record {
            node = next-is b t.image.table.state call-here.to at.image.register served-register;
            holds = then-holds;
            idle = λ x e. idle-then o.flat t.bank after call-here.to stores-kept (at.stands.stage.idle (Trap task call-here.to) call-here.node) x (free-behind x e);
          };
          asked = λ other to e. absurd (true≢false (free-behind (Trap other to) e));
        }

    served-at : IsTableOf t.files rows → (finished : Bool) → (IsTrue finished ↔ (s.way_of trap.call ≡ way.Finish)) →
        (names : List (List ℕ)) → names ≡ t.asked ++ saved (s.way_of trap.call) → (count to : ℕ) → count ≡ t.cycles + 1 → to ≡ call-here.to →
        IsAt o order (record t { bank = after; rows = rows; printed = printed; asked = names; cycles = count; next = to; waits = false; finished = finished }) (suc c) then
    served-at fits finished ends names asks count to counts leads = record {
      image = at.image;
      files = at.files;
      comes = subst (λ i. Comes o (table_of o.flat) (nets_of o.flat o.files order) (suc c) i) then-is (serves at.comes trapped);
      late = then-late;
      stands = then-stands;
      printed = ap (λ (z : s.Works). z.printed) served-is ∙ done.printed;
      fits = subst (λ fs. IsTableOf fs rows) (sym at.files) fits;
      table = ap (λ fs. open_files fs rows) at.files ∙ (ap (λ (z : s.Works). z.table) served-is ∙ done.table);
      finished = alike finished state.finished (s.way_of trap.call ≡ way.Finish) ends done.finishes;
      waits = sym none-behind;
      cycles = (let e = at.cycles in omega (arith, counts, e));
      asked = asks ∙ (ap (λ xs. xs ++ saved (s.way_of trap.call)) at.asked ∙ sym done.saves);
      ticks = at.ticks ∙ call-ticks (scope_of o.flat o.files) task here.state alive;
      next = leads;
    }

  module _ (other : TrapData) (to : ℕ) (h : IsAtCall table t.bank other to) where
    module _ (b : BankData) (rows : List (Option Row)) (text : List ℕ) (is : IsServed other b rows text) where
      is-mine : IsServed trap b rows text
      is-mine = is ∙ ap (λ z. s.served t.files z (works t.rows)) (one-call other to h).0

      -- as many registers, memories and slots are left
      pub shape-behind : (z : BankData) → z ≡ record b { regs = slice_set b.regs t.image.table.state to } → shape_of z ≡ shape_of t.bank
      shape-behind z e =
          ap shape_of e
          ∙ ap (λ n. record { regs = n; mems = length b.mems; slots = length b.slots }) (length-set b.regs t.image.table.state to)
          ∙ shape-is b rows text is-mine

      pub served-behind : IsTableOf t.files rows → (finished : Bool) → (IsTrue finished ↔ (s.way_of other.call ≡ way.Finish)) →
          (names : List (List ℕ)) → names ≡ t.asked ++ saved (s.way_of other.call) → (z : BankData) →
          z ≡ record b { regs = slice_set b.regs t.image.table.state to } →
          IsAt o order (record t { bank = z; rows = rows; printed = text; asked = names; cycles = t.cycles + 1; next = to; waits = false; finished = finished }) (suc c)
          (served (scope_of o.flat o.files) (table_of o.flat).nodes here)
      served-behind fits finished ends names asks z e =
          let same = one-call other to h in
          let mine = subst (λ (y : TrapData). IsTrue finished ↔ (s.way_of y.call ≡ way.Finish)) same.0 ends in
          let wants = subst (λ (y : TrapData). names ≡ t.asked ++ saved (s.way_of y.call)) same.0 asks in
          let bank : z ≡ after b rows text is-mine = e ∙ ap (λ n. record b { regs = slice_set b.regs t.image.table.state n }) same.1 in
          let at-then = served-at b rows text is-mine fits finished mine names wants (t.cycles + 1) to refl same.1 in
          let u : TenantData = record t { bank = z; rows = rows; printed = text; asked = names; cycles = t.cycles + 1; next = to; waits = false; finished = finished } in
          subst (λ y. IsAt o order u (suc c) y) (sym (then-is b rows text is-mine))
          (subst (λ y. IsAt o order (record u { bank = y }) (suc c) (then b rows text is-mine)) (sym bank) at-then)
