-- What is made of a design keeps within its cost.
use Rattle.std.proofs.Common.{◌≡◌, ℕ, zero, suc, ◌+◌, ◌*◌, ◌≤◌, Bool, true, false, List, [], ◌∷◌, length, Some, refl, sym, ap, ◌∙◌, arith, subst, inl, inr}
use Rattle.std.specs.Prelude.{◌==◌, max, if◌then◌else◌, slice_get, slice_index}
use Rattle.std.specs.List.{AllByRecursion, sum_by, count_by}
use Rattle.std.proofs.lemmas.Bool.{eqb-true}
use Rattle.std.proofs.lemmas.List.Sums.{sum_by-cons}
use Rattle.std.proofs.lemmas.Option.{slice_get_cases, slice_get_within, none-some}
use Rattle.ten_core.specs.vl_design.specs.declared.design.SigKind.{SigKind}
use Rattle.ten_core.specs.vl_design.specs.declared.design.SigKind.TheVariants.{Net, Var, Comb, Loop, Mem, Clock}
use Rattle.ten_core.specs.vl_design.specs.Cost.{row_mem, cost}
use Rattle.ten_core.specs.vl_design.specs.Sound.{IsSound}
use Rattle.ten_core.specs.vl_design.specs.Syntax.{Row, Flat}
use Rattle.sub_runs.specs.vl_runs.specs.Nets.{AllBelow}
use Rattle.ten_make.specs.Slack.{cell_slack, register_slack}
use Rattle.ten_core.specs.cell_form.specs.Data.{ListData, StateData}
use Rattle.ten_core.specs.cell_form.specs.declared.cell.Write.{Write}
use Rattle.ten_core.specs.cell_form.specs.declared.cell.Write.TheVariants as w
use Rattle.cell_states.specs.cell_emit.specs.Slots.{width_at}
use Rattle.cell_states.specs.cell_trim.specs.Widths.{IsWithin}
use Rattle.ten_core.specs.cell_form.specs.declared.bank.Port.{Port}
use Rattle.ten_core.specs.cell_form.specs.declared.bank.PortMap.{PortMap}
use Rattle.ten_core.specs.cell_form.specs.declared.table.StateTable.{StateTable}
use Rattle.ten_core.specs.cell_form.specs.Views as cells
use Rattle.ten_core.specs.cell_form.specs.Views.{state_of}
use Rattle.std.specs.Prelude.{map}
use Rattle.cell_states.specs.Cells.{node_count, AreCounted}
use Rattle.cell_states.specs.Widths.{register_widths, register_width, AreNarrow}
use Rattle.cell_states.specs.declared.made.States.{States}
use Rattle.sub_split.specs.sub_nodes.specs.Pairs.{ArePaired}
use Rattle.sub_split.specs.sub_nodes.specs.Nodes.{Node}
use Rattle.ten_core.specs.declared.image.Image.{Image}
use Rattle.ten_core.specs.Tenants.{states_of}
use Rattle.ten_make.specs.Designs.{IsTenantDesign}
use Rattle.ten_core.specs.ten_form.specs.Banks.{cell_nodes}
use Rattle.ten_core.specs.Ports.{port_of, ports_from, ports_of}
use Rattle.ten_core.specs.ten_form.specs.Delays.{DelaysVariables}
use Rattle.ten_core.specs.ten_form.specs.States.{AreStates}
use Rattle.ten_core.specs.vl_design.specs.Snapshots.{is_kept}
use Rattle.ten_core.specs.ten_form.specs.Registers.{answer_register, register_count}
use Rattle.ten_make.specs.Within.{memory_bits, widest, widest_of, bits_of, register_bits, IsWithinCost}

-- ---- memory

abbrev port_bits : Port → ℕ
port_bits p = if p.mem then p.words * p.width else 0

-- those of one signal
row-bits : (k : ℕ) (r : Row) (x : SigKind) → r.kind ≡ x → (is_kept x ≡ true → port_bits (port_of k r) ≡ row_mem x r.words r.width) × (is_kept x ≡ false → 0 ≡ row_mem x r.words r.width)
row-bits k r Net e = ((λ q. absurd (grind arith)), (λ q. refl))
row-bits k r Var e = ((λ q. rw e refl), (λ q. refl))
row-bits k r Comb e = ((λ q. rw e refl), (λ q. refl))
row-bits k r Loop e = ((λ q. rw e refl), (λ q. refl))
row-bits k r Mem e = ((λ q. rw e refl), (λ q. absurd (grind arith)))
row-bits k r Clock e = ((λ q. rw e refl), (λ q. refl))

ports-bits : (k : ℕ) (rows : List Row) → sum_by port_bits (ports_from k rows) ≡ sum_by (λ (r : Row). row_mem r.kind r.words r.width) rows
ports-bits k [] = refl
ports-bits k (r ∷ rs) = (let i = ports-bits (k + 1) rs in go i (is_kept r.kind) refl)
  where
    go : sum_by port_bits (ports_from (k + 1) rs) ≡ sum_by (λ (x : Row). row_mem x.kind x.words x.width) rs → (q : Bool) → is_kept r.kind ≡ q →
        sum_by port_bits (if q then port_of k r ∷ ports_from (k + 1) rs else ports_from (k + 1) rs) ≡ sum_by (λ (x : Row). row_mem x.kind x.words x.width) (r ∷ rs)
    go i true q =
        let a = sum_by-cons port_bits (port_of k r) (ports_from (k + 1) rs) in
        let b = sum_by-cons (λ (x : Row). row_mem x.kind x.words x.width) r rs in
        let e = (row-bits k r r.kind refl).0 q in
        omega (arith, a, b, e, i)
    go i false q =
        let b = sum_by-cons (λ (x : Row). row_mem x.kind x.words x.width) r rs in
        let e = (row-bits k r r.kind refl).1 q in
        omega (arith, b, e, i)

-- ---- registers

most : (a b c : ℕ) → a ≤ c → b ≤ c → max a b ≤ c
most a b c h k = omega (arith, h, k)

widest-within : (d : Flat) (l : ListData) (r : ℕ) (xs : List Write) → AllByRecursion (IsWithin (register_width d) l) xs → widest l r xs ≤ register_width d r
widest-within d l r [] h = omega arith
widest-within d l r (w.Reg k s ∷ xs) h = of (widest-within d l r xs h.1) (k == r) refl
  where
    of : widest l r xs ≤ register_width d r → (q : Bool) → (k == r) ≡ q → (if q then max (width_at l s) (widest l r xs) else widest l r xs) ≤ register_width d r
    of more true q = most (width_at l s) (widest l r xs) (register_width d r) (subst (λ j. width_at l s ≤ register_width d j) (eqb-true k r q) h.0) more
    of more false q = more
widest-within d l r (w.Mem m enable word value mask ∷ xs) h = widest-within d l r xs h.1

states-within : (d : Flat) (states : List StateData) (r : ℕ) → AreNarrow d states → widest_of states r ≤ register_width d r
states-within d [] r h = omega arith
states-within d (s ∷ ss) r h =
    most (widest s.cells r s.cells.sets) (widest_of ss r) (register_width d r) (widest-within d s.cells r s.cells.sets (h 0 s refl))
    (states-within d ss r (λ n t e. h (suc n) t e))

-- the first n numbers of a list
abbrev first_of : List ℕ → ℕ → ℕ
first_of xs zero = 0
first_of xs (suc n) = first_of xs n + slice_index xs n

first-none : (n : ℕ) → first_of [] n ≡ 0
first-none zero = refl
first-none (suc n) = (let h = first-none n in omega (arith, h))

first-next : (x : ℕ) (xs : List ℕ) (n : ℕ) → first_of (x ∷ xs) (suc n) ≡ x + first_of xs n
first-next x xs zero = omega arith
first-next x xs (suc n) = (let h = first-next x xs n in omega (arith, h))

first-within : (xs : List ℕ) (n : ℕ) → first_of xs n ≤ sum_by (λ x. x) xs
first-within xs zero = omega arith
first-within [] (suc n) = (let h = first-none (suc n) in omega (arith, h))
first-within (x ∷ xs) (suc n) = (let e = first-next x xs n in let h = first-within xs n in let s = sum_by-cons (λ (y : ℕ). y) x xs in omega (arith, e, h, s))

bits-within : (d : Flat) (states : List StateData) (r : ℕ) → AreNarrow d states → bits_of states r ≤ register_width d r
bits-within d states r h = of (r == answer_register) refl
  where
    of : (q : Bool) → (r == answer_register) ≡ q → (if q then 32 else widest_of states r) ≤ register_width d r
    of true q = subst (λ j. 32 ≤ register_width d j) (sym (eqb-true r answer_register q)) (let le : 32 ≤ 32 = omega arith in le)
    of false q = states-within d states r h

all-within : (d : Flat) (states : List StateData) (n : ℕ) → AreNarrow d states → register_bits states n ≤ first_of (register_widths d) n
all-within d states zero h = omega arith
all-within d states (suc n) h = (let a = all-within d states n h in let b = bits-within d states n h in omega (arith, a, b))

registers-within : (d : Flat) (states : List StateData) (n : ℕ) → AreNarrow d states → sum_by (λ w. w) (register_widths d) ≤ (cost d).regs + register_slack d → register_bits states n ≤ (cost d).regs + register_slack d
registers-within d states n h bits = (let a = all-within d states n h in let b = first-within (register_widths d) n in omega (arith, a, b, bits))

-- ---- cells

pub within : (d : Flat) (order : List ℕ) (made : States) (places : PortMap) (image : Image) → IsTenantDesign d order → DelaysVariables d →
    ((e : Flat) → DelaysVariables e → sum_by (λ w. w) (register_widths e) ≤ (cost e).regs + register_slack e) →
    ((e : Flat) (o : List ℕ) → IsSound e → DelaysVariables e → AllBelow (length e.procs) o → ((j : ℕ) → count_by (λ i. i == j) o ≤ 1) → ArePaired 0 (cell_nodes e) →
    (n : ℕ) (x : Node) → slice_get (cell_nodes e) n ≡ Some x → node_count e o (cell_nodes e) x ≤ (cost e).cells + cell_slack e) →
    ArePaired 0 (cell_nodes d) → places.ports ≡ ports_of d.rows → AreStates d order made.slots (cell_nodes d) (map state_of made.table.states) → AreCounted d order (cell_nodes d) (map state_of made.table.states) → AreNarrow d (map state_of made.table.states) →
    image.table ≡ made.table → image.ports ≡ places → IsWithinCost d image
within d order made places image is delays bits law paired kept are counted narrow table-is ports-are = record {
  registers =
      registers-within d (states_of image) (register_count (length d.rows) + 4 * image.stores)
      (λ n s e. narrow n s (subst (λ (x : StateTable). slice_get (cells.table_of x).states n ≡ Some s) table-is e)) (bits d delays);
  memory = ap (λ (x : PortMap). sum_by port_bits x.ports) ports-are ∙ ap (sum_by port_bits) kept ∙ ports-bits 0 d.rows;
  cells = λ n s e. at n s (subst (λ (x : StateTable). slice_get (cells.table_of x).states n ≡ Some s) table-is e);
}
  where
    at : (n : ℕ) (s : StateData) → slice_get (map state_of made.table.states) n ≡ Some s → length s.cells.cells ≤ (cost d).cells + cell_slack d
    at n s e = elim ((slice_get_cases (cell_nodes d) n).1) [
      | inl c ↦ (
          let count = counted n c.0 s c.2 e in
          let most = law d order is.sound delays is.ordered.below is.once paired n c.0 c.2 in
          omega (arith, count, most))
      | inr c ↦ (
          let lt = slice_get_within (map state_of made.table.states) n s e in
          let many = are.many in
          let far = c.0 in
          absurd (omega (arith, lt, many, far)))
    ]
