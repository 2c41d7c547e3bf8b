-- A cycle of a tenant leaves as many registers, memories and slots.
use Rattle.std.proofs.Common.{◌≡◌, ℕ, zero, suc, false, Some, None, Option, List, [], ◌∷◌, length, take, refl, sym, ap, ◌∙◌, arith}
use Rattle.std.specs.Prelude.{slice_get, slice_index}
use Rattle.std.specs.Arc.{arc_value}
use Rattle.std.proofs.lemmas.List.{length-map}
use Rattle.vl_design.specs.Syntax.{Flat}
use Rattle.ten_core.specs.cell_form.specs.Data.{ListData, BankData, StateData}
use Rattle.ten_core.specs.cell_form.specs.Cycle.{cycled}
use Rattle.ten_core.specs.cell_form.specs.Sound.{Shape, shape_of, IsList}
use Rattle.ten_core.specs.cell_form.specs.States.{state_cycled, table_cycled}
use Rattle.ten_core.specs.cell_form.proofs.Cycling.{same-shape}
use Rattle.ten_core.specs.sub_nodes.specs.Code.{table_of}
use Rattle.ten_core.specs.sub_nodes.specs.Cycles.{Stage, is_trap}
use Rattle.ten_core.specs.sub_nodes.specs.Nodes.{Node, Run, Trap, Apply, Go, Branch, Switch, Commit}
use Rattle.ten_core.specs.sub_nodes.specs.Early.{early_from}
use Rattle.ten_core.specs.ten_form.specs.Banks.{cell_nodes, IsFor}
use Rattle.ten_core.specs.ten_form.specs.States.{slots_in, IsStateOf}
use Rattle.ten_core.specs.Tenants.{states_of, table_in}
use Rattle.ten_shell.specs.declared.shell.Shell.{Shell}
use Rattle.ten_shell.specs.Shells.{flat_in, StandsFor}
use Rattle.ten_core.specs.cell_form.proofs.Shared.{list_shape}
use Rattle.vl_design.specs.vl_base.proofs.Lists.{take_get as take-get}

-- ---- lists

-- where one of two lists of one length has an item, the other has one too
both : {X Y : Type 0} (xs : List X) (ys : List Y) (n : ℕ) (x : X) → length xs ≡ length ys → slice_get xs n ≡ Some x → (y : Y) × (slice_get ys n ≡ Some y)
both [] ys n x e h = let z : ⊥ = cc in absurd z
both (x ∷ xs) [] n z e h = let z : ⊥ = omega (arith, e) in absurd z
both (x ∷ xs) (y ∷ ys) zero z e h = (y, refl)
both (x ∷ xs) (y ∷ ys) (suc n) z e h = both xs ys n z (omega (arith, e)) h

-- ---- the state of a node

module _ (d : Flat) (order : List ℕ) (n slots : ℕ) (nodes : List Node) (states : List StateData) (z : Shape) where
  runs-by : (x : Node) (s : StateData) → is_trap (Some x) ≡ false → IsFor d (slots_in s.cells) z → IsStateOf d order n slots nodes states x s → IsList z s.cells
  runs-by (Run g (Go m)) s e f h = h.0.does.runs z f
  runs-by (Run g (Branch test first second)) s e f h = h.does.runs z f
  runs-by (Run g (Switch subject ways otherwise)) s e f h = h.does.runs z f
  runs-by (Run g (Commit to)) s e f h = h.does.runs z f
  runs-by (Trap task to) s e f h = let z : ⊥ = cc in absurd z
  runs-by (Apply to) s e f h = h.does.runs z f

module _ (s : Shell) (b : BankData) (c : ℕ) (i : Stage) (w : StandsFor s b c i) (free : s.engine.waits ≡ false) where
  abbrev states : List StateData
  states = states_of (arc_value s.engine.origin).image

  may-run : (x : StateData) → slice_get states i.node ≡ Some x → IsList (shape_of b) x.cells
  may-run x e =
      let st = w.at.image.states in
      let node = both states (cell_nodes (flat_in s)) i.node x st.many e in
      let there = take-get (early_from (flat_in s)) (table_of (flat_in s)).nodes i.node node.0 node.1 in
      let fits = st.fits i.node x e in
      let shape = w.at.stands.shape in
      runs-by (flat_in s) w.order i.node (arc_value s.engine.origin).image.slots (cell_nodes (flat_in s)) states (shape_of b) node.0 x
      (ap is_trap (sym there) ∙ (sym w.at.waits ∙ free))
      (record { regs = shape.regs; mems = shape.mems; slots = omega (arith, fits, shape.slots) })
      (st.each i.node node.0 x node.1 e)

  shape-by : (o : Option StateData) → slice_get states i.node ≡ o → shape_of (state_cycled o b) ≡ shape_of b
  shape-by None e = refl
  shape-by (Some x) e = list_shape b x.cells (may-run x e)

  -- the state that is next is the node's
  next-is : slice_index b.regs (table_in s.engine).state ≡ i.node
  next-is = ap (slice_index b.regs) w.at.image.register ∙ w.at.stands.stage.node

  pub cycled-shape : shape_of (table_cycled (table_in s.engine) b) ≡ shape_of b
  cycled-shape = ap (λ k. shape_of (state_cycled (slice_get states k) b)) next-is ∙ shape-by (slice_get states i.node) refl
