-- The table of an image may run on the banks of its tenant.
use Rattle.std.proofs.Common.{◌≡◌, ℕ, ◌<◌, ◌≤◌, List, [], ◌∷◌, length, get_or, arith, refl, sym, subst, suc, Some}
use Rattle.std.specs.List.{AllByRecursion, slice_get}
use Rattle.std.specs.Arc.{arc_value}
use Rattle.std.proofs.lemmas.Option.{slice_get-get_or, slice_get_within}
use Rattle.vl_design.specs.Syntax.{Flat}
use Rattle.ten_core.specs.cell_form.specs.Data.{BankData, ListData, StateData, CellData}
use Rattle.ten_core.specs.cell_form.specs.declared.cell.Write.{Write}
use Rattle.ten_core.specs.cell_form.specs.Sound.{Shape, shape_of, IsList, AreCells, IsWrite}
use Rattle.ten_core.specs.sub_nodes.specs.Cycles.{Stage}
use Rattle.ten_core.specs.sub_nodes.specs.Nodes.{Node, Run, Trap, Apply, Go, Branch, Switch, Commit}
use Rattle.ten_core.specs.ten_form.specs.Banks.{cell_nodes, IsFor}
use Rattle.ten_core.specs.ten_form.specs.States.{AreStates, IsStateOf, slots_in}
use Rattle.ten_core.specs.Tenants.{states_of, table_in}
use Rattle.ten_shell.specs.declared.shell.Shell.{Shell}
use Rattle.ten_shell.specs.Shells.{StandsFor, flat_in}
use Rattle.fab_join.specs.Parts.{IsTable}

pub all_from_gets : {X : Type 0} (P : X → Type 0) (xs : List X) → ((n : ℕ) (x : X) → slice_get xs n ≡ Some x → P x) → AllByRecursion P xs
all_from_gets P [] h = tt
all_from_gets P (x ∷ xs) h = (h 0 x refl, all_from_gets P xs (λ n y e. h (suc n) y e))

empty_list : (z : Shape) (l : ListData) → l.cells ≡ [] → l.sets ≡ [] → slots_in l ≤ z.slots → IsList z l
empty_list z l no_cells no_writes fits = record {
  cells = subst (λ (cs : List CellData). AreCells z l.first [] cs) (sym no_cells) tt;
  sets = subst (λ (ws : List Write). AllByRecursion (IsWrite z l.first (length l.cells)) ws) (sym no_writes) tt;
  slots = fits;
}

state_runs : (d : Flat) (order : List ℕ) (slots : ℕ) (nodes : List Node) (states : List StateData) (n : ℕ) (x : Node) (s : StateData) (z : Shape) → IsFor d slots z → slots_in s.cells ≤ slots →
    IsStateOf d order n slots nodes states x s → IsList z s.cells
state_runs d order slots nodes states n (Run g (Go m)) s z bank fits h = h.0.does.runs z (record { regs = bank.regs; mems = bank.mems; slots = let most = bank.slots in omega arith })
state_runs d order slots nodes states n (Run g (Branch test first second)) s z bank fits h = h.does.runs z (record { regs = bank.regs; mems = bank.mems; slots = let most = bank.slots in omega arith })
state_runs d order slots nodes states n (Run g (Switch subject ways otherwise)) s z bank fits h = h.does.runs z (record { regs = bank.regs; mems = bank.mems; slots = let most = bank.slots in omega arith })
state_runs d order slots nodes states n (Run g (Commit to)) s z bank fits h = h.does.runs z (record { regs = bank.regs; mems = bank.mems; slots = let most = bank.slots in omega arith })
state_runs d order slots nodes states n (Trap task to) s z bank fits h = empty_list z s.cells h.no_cells h.no_writes (let most = bank.slots in omega arith)
state_runs d order slots nodes states n (Apply to) s z bank fits h = h.does.runs z (record { regs = bank.regs; mems = bank.mems; slots = let most = bank.slots in omega arith })

pub states_run : (d : Flat) (order : List ℕ) (slots : ℕ) (nodes : List Node) (states : List StateData) (z : Shape) → IsFor d slots z → AreStates d order slots nodes states →
    AllByRecursion (λ s. IsList z s.cells) states
states_run d order slots [] states z bank h = all_from_gets (λ s. IsList z s.cells) states (λ n s e. let lt = slice_get_within states n s e in let many = h.many in absurd (omega arith))
states_run d order slots (x ∷ xs) states z bank h = all_from_gets (λ s. IsList z s.cells) states (λ n s e.
    let many = h.many in
    let lt = slice_get_within states n s e in
    let within : n < length (x ∷ xs) = omega (arith, lt, many) in
    let node : slice_get (x ∷ xs) n ≡ Some (get_or (x ∷ xs) n x) = slice_get-get_or (x ∷ xs) n x within in
    state_runs d order slots (x ∷ xs) states n (get_or (x ∷ xs) n x) s z bank (h.fits n s e) (h.each n (get_or (x ∷ xs) n x) s node e))

pub table_may_run : (s : Shell) (b : BankData) (c : ℕ) (i : Stage) → StandsFor s b c i → IsTable (shape_of b) (table_in s.engine)
table_may_run s b c i w =
    let image = w.at.image in
    let register = image.register in
    let regs = w.at.stands.shape.regs in
    record {
      state = omega (arith, register, regs);
      states = states_run (flat_in s) w.order (arc_value s.engine.origin).image.slots (cell_nodes (flat_in s)) (states_of (arc_value s.engine.origin).image) (shape_of b) w.at.stands.shape image.states;
    }
