-- The sums of a design.
use Rattle.std.proofs.Common.{◌≡◌, ◌≤◌, ◌<◌, ◌+◌, ◌-◌, ◌*◌, ℕ, zero, suc, List, [], ◌∷◌, length, Bool, true, false, refl, sym, ap, ◌∙◌, arith, subst, Some, inl, inr}
use Rattle.std.specs.Prelude.{◌==◌, ◌⊎◌, cond, All, if◌then◌else◌, slice_get, slice_index_or}
use Rattle.std.specs.List.{sum_by, count_by}
use Rattle.std.proofs.Math.Nat.{suc-mul, mul-le-mul_right}
use Rattle.std.proofs.lemmas.List.Elements.{All-head, All-tail}
use Rattle.std.proofs.lemmas.List.Sums.{sum_by-cons}
use Rattle.std.proofs.lemmas.Option.{none-some, same_Some}
use Rattle.ten_core.specs.vl_design.specs.declared.design.ProcKind.{ProcKind}
use Rattle.ten_core.specs.vl_design.specs.declared.design.ProcKind.TheVariants.{Init, Rise, Fall, Comb, Assign}
use Rattle.ten_core.specs.vl_design.specs.declared.design.SigKind.{SigKind}
use Rattle.ten_core.specs.vl_design.specs.declared.design.SigKind.TheVariants as k
use Rattle.ten_core.specs.vl_design.specs.Cost.{row_cells, proc_cells, cost}
use Rattle.ten_core.specs.vl_design.specs.Cost as cost
use Rattle.ten_core.specs.vl_design.specs.Functions.{scope_of, zeros, fresh}
use Rattle.ten_core.specs.vl_design.specs.Queue.{is_init, is_rise, is_fall, is_comb, proc_at}
use Rattle.ten_core.specs.vl_design.specs.Sound.{IsSound, IsSoundProc}
use Rattle.ten_core.specs.vl_design.specs.State.{State}
use Rattle.ten_core.specs.vl_design.specs.Syntax.{Nop, Row, Proc, Flat}
use Rattle.ten_core.specs.vl_design.specs.Width.{Scope, names_of}
use Rattle.sub_runs.specs.vl_runs.specs.Nets.{AllBelow}
use Rattle.sub_runs.specs.vl_runs.specs.NetsOfSettle.{comb_at}
use Rattle.sub_split.specs.vl_sites.specs.Others.{is_other, is_other_row}
use Rattle.cell_states.specs.cell_emit.specs.Entries.{read_count}
use Rattle.cell_states.specs.cell_expr.specs.Counts.{stm_count, body_cells}
use Rattle.cell_states.specs.cell_expr.specs.Slack.{stm_slack, bodies_slack}
use Rattle.cell_states.specs.cell_expr.proofs.Budget.{bodies-within}
use Rattle.cell_states.specs.cell_waves.specs.Passes.{process_count, pass_count}
use Rattle.cell_states.specs.cell_waves.specs.Copies.{count_to}
use Rattle.cell_states.specs.Cells.{stms_count, way_count, update_count, node_count}
use Rattle.sub_split.specs.sub_nodes.specs.Pairs.{ArePaired}
use Rattle.sub_split.specs.sub_nodes.specs.Nodes.{Segment, WayOn, Node, Run, Trap, Apply}
use Rattle.ten_core.specs.ten_form.specs.Banks.{cell_nodes, stores_in}
use Rattle.ten_core.specs.ten_form.specs.Delays.{is_delayed, DelaysVariables}
use Rattle.ten_make.specs.Slack.{proc_slack, cell_slack}
use Rattle.ten_make.proofs.Weights.{stm_most, count-most, most-within}
use Rattle.ten_make.proofs.Waves.{kind_most, run-at}

-- ---- sums over numbers from k on

abbrev Over : ℕ → ℕ → (ℕ → ℕ) → ℕ
Over k zero g = 0
Over k (suc n) g = g k + Over (suc k) n g

over-mono : (k n : ℕ) (g h : ℕ → ℕ) → ((j : ℕ) → g j ≤ h j) → Over k n g ≤ Over k n h
over-mono k zero g h f = omega arith
over-mono k (suc n) g h f = (let x = f k in let y = over-mono (suc k) n g h f in omega (arith, x, y))

either : (a b : ℕ) → a ≤ b → (a ≡ b) ⊎ (suc a ≤ b)
either zero zero h = inl refl
either zero (suc b) h = inr (omega arith)
either (suc a) zero h = absurd (omega (arith, h))
either (suc a) (suc b) h = elim (either a b (omega (arith, h))) [ inl e ↦ inl (ap suc e) | inr l ↦ inr (omega (arith, l)) ]

over-bump : (k n : ℕ) (g h : ℕ → ℕ) (i c : ℕ) → k ≤ i → i < k + n → ((j : ℕ) → g j ≤ h j) → g i + c ≤ h i → Over k n g + c ≤ Over k n h
over-bump k zero g h i c low high f b = absurd (omega (arith, low, high))
over-bump k (suc n) g h i c low high f b = elim (either k i low) [
  | inl same ↦ (
      let x : g k + c ≤ h k = subst (λ z. g z + c ≤ h z) (sym same) b in
      let y = over-mono (suc k) n g h f in omega (arith, x, y))
  | inr less ↦ (
      let x = f k in
      let y = over-bump (suc k) n g h i c less (omega (arith, high)) f b in omega (arith, x, y))
]

-- how often a number stands in a list
abbrev times : ℕ → List ℕ → ℕ
times j xs = count_by (λ i. i == j) xs

times-more : (i j : ℕ) (xs : List ℕ) → times j (i ∷ xs) ≡ cond (i == j) 1 0 + times j xs
times-more i j xs = sum_by-cons (λ x. cond (x == j) 1 0) i xs

times-le : (i j : ℕ) (xs : List ℕ) → times j xs ≤ times j (i ∷ xs)
times-le i j xs = (let e = times-more i j xs in omega (arith, e))

times-here : (i : ℕ) (xs : List ℕ) → times i (i ∷ xs) ≡ 1 + times i xs
times-here i xs = (let e = times-more i i xs in let q : (i == i) ≡ true = grind arith in let k : ℕ = 1 in let one : cond (i == i) k 0 ≡ k = rw q refl in omega (arith, e, one))

at-most-one : (t x : ℕ) → t ≤ 1 → t * x ≤ x
at-most-one zero x h = omega arith
at-most-one (suc zero) x h = omega arith
at-most-one (suc (suc t)) x h = absurd (omega (arith, h))

module _ (d : Flat) where
  B : ℕ → ℕ
  B = body_cells d

  pass-times : (order : List ℕ) (n : ℕ) → AllBelow n order → pass_count d order ≤ Over 0 n (λ j. times j order * process_count d j)
  pass-times [] n h = omega arith
  pass-times (i ∷ rest) n h =
      let f : ℕ → ℕ = process_count d in
      let y = pass-times rest n h.1 in
      let lt = h.0 in
      let e = times-here i rest in
      let two : times i rest * f i + f i ≤ times i (i ∷ rest) * f i = rw e (grind arith) in
      let x = over-bump 0 n (λ j. times j rest * f j) (λ j. times j (i ∷ rest) * f j) i (f i) (omega arith) (omega (arith, lt)) (λ j. mul-le-mul_right (f j) (times-le i j rest)) two in
      omega (arith, x, y)

  pass-once : (order : List ℕ) (n : ℕ) → AllBelow n order → ((j : ℕ) → times j order ≤ 1) → pass_count d order ≤ Over 0 n (process_count d)
  pass-once order n h once =
      let x = pass-times order n h in
      let y = over-mono 0 n (λ j. times j order * process_count d j) (process_count d) (λ j. at-most-one (times j order) (process_count d j) (once j)) in
      omega (arith, x, y)

  -- over the processes themselves
  over-procs : (k : ℕ) (ps : List Proc) (g : ℕ → ℕ) (h : Proc → ℕ) → ((j : ℕ) (p : Proc) → slice_get ps j ≡ Some p → g (k + j) ≤ h p) → Over k (length ps) g ≤ sum_by h ps
  over-procs k [] g h f = omega arith
  over-procs k (p ∷ ps) g h f =
      let c = sum_by-cons h p ps in
      let z : k + 0 ≡ k = omega arith in
      let x : g k ≤ h p = subst (λ m. g m ≤ h p) z (f 0 p refl) in
      let y = over-procs (suc k) ps g h (λ j q e. (let s : k + suc j ≡ suc k + j = omega arith in subst (λ m. g m ≤ h q) s (f (suc j) q e))) in
      omega (arith, c, x, y)

  index-of : (ps : List Proc) (j : ℕ) (p q : Proc) → slice_get ps j ≡ Some p → slice_index_or ps j q ≡ p
  index-of [] j p q h = absurd (none-some p h)
  index-of (x ∷ ps) zero p q h = same_Some x p h
  index-of (x ∷ ps) (suc j) p q h = index-of ps j p q h

  process-most : (j : ℕ) (p : Proc) → slice_get d.procs j ≡ Some p → process_count d j ≤ kind_most d is_comb p
  process-most j p h =
      let e = index-of d.procs j p (record { kind = Init; events = []; body = Nop }) h in
      subst (λ (x : Proc). (if is_comb x.kind then stm_count (body_cells d) x.body else 0) ≤ kind_most d is_comb p) (sym e) (go (is_comb p.kind))
    where
      go : (q : Bool) → (if q then stm_count (body_cells d) p.body else 0) ≤ (if q then stm_most (body_cells d) p.body else 0)
      go true = count-most (body_cells d) p.body
      go false = omega arith

  pass-most : (order : List ℕ) → AllBelow (length d.procs) order → ((j : ℕ) → times j order ≤ 1) → pass_count d order ≤ sum_by (kind_most d is_comb) d.procs
  pass-most order below once =
      let x = pass-once order (length d.procs) below once in
      let y = over-procs 0 d.procs (process_count d) (kind_most d is_comb) (λ j p e. (let z : 0 + j ≡ j = omega arith in subst (λ m. process_count d m ≤ kind_most d is_comb p) (sym z) (process-most j p e))) in
      omega (arith, x, y)

  -- ---- processes

  abbrev scope : Scope
  scope = scope_of d []

  abbrev s0 : State
  s0 = fresh (zeros d.rows)

  kinds : (x : ProcKind) (m c s : ℕ) → m ≤ c + s → (if is_comb x then m else 0) + (if is_rise x then m else 0) + (if is_fall x then m else 0) ≤ (if is_init x then 0 else 4 + c) + (if is_init x then 0 else s)
  kinds Init m c s h = omega arith
  kinds Rise m c s h = omega (arith, h)
  kinds Fall m c s h = omega (arith, h)
  kinds Comb m c s h = omega (arith, h)
  kinds Assign m c s h = omega (arith, h)

  module _ (sound : IsSound d) where
    bodies : (f : ℕ) → body_cells d f ≤ cost.body_cells scope f + bodies_slack d f
    bodies f = bodies-within scope sound.funs (length d.funs) f

    procs-within : (ps : List Proc) → All (IsSoundProc (names_of d)) ps →
        sum_by (kind_most d is_comb) ps + sum_by (kind_most d is_rise) ps + sum_by (kind_most d is_fall) ps ≤ sum_by (proc_cells scope s0) ps + sum_by (proc_slack d) ps
    procs-within [] h = omega arith
    procs-within (p ∷ ps) h =
        let one = most-within scope (body_cells d) (cost.body_cells scope) (bodies_slack d) bodies p.body s0 (All-head (IsSoundProc (names_of d)) p ps h).body in
        let x = kinds p.kind (stm_most (body_cells d) p.body) (cost.stm_cells scope (cost.body_cells scope) p.body s0) (stm_slack (bodies_slack d) p.body) one in
        let y = procs-within ps (All-tail (IsSoundProc (names_of d)) p ps h) in
        let c1 = sum_by-cons (kind_most d is_comb) p ps in
        let c2 = sum_by-cons (kind_most d is_rise) p ps in
        let c3 = sum_by-cons (kind_most d is_fall) p ps in
        let c4 = sum_by-cons (proc_cells scope s0) p ps in
        let c5 = sum_by-cons (proc_slack d) p ps in
        omega (arith, x, y, c1, c2, c3, c4, c5)

-- ---- signals

row-kinds : (x : SigKind) → row_cells x ≡ 6 * (if is_other x then 0 else 1)
row-kinds k.Net = refl
row-kinds k.Var = refl
row-kinds k.Comb = refl
row-kinds k.Loop = refl
row-kinds k.Mem = refl
row-kinds k.Clock = refl

rows-cells : (rows : List Row) → sum_by (λ r. row_cells r.kind) rows ≡ 6 * read_count rows
rows-cells [] = refl
rows-cells (r ∷ rs) =
    let a = sum_by-cons (λ (x : Row). row_cells x.kind) r rs in
    let b = sum_by-cons (λ (x : Row). if is_other x.kind then 0 else 1) r rs in
    let e = row-kinds r.kind in
    let i = rows-cells rs in
    omega (arith, a, b, e, i)

one-counted : (p q : Bool) → (q ≡ true → p ≡ false) → (if p then 1 else 0) ≤ (if q then 0 else 1)
one-counted false q f = omega arith
one-counted true false f = omega arith
one-counted true true f = (let z = f refl in let no : ⊥ = cc in absurd no)

-- of the numbers of rows from k on that pass, where those of loop variables and clocks don't
count-rows : (p : ℕ → Bool) (k n : ℕ) (rows : List Row) → n ≡ k + length rows → ((j m : ℕ) (r : Row) → slice_get rows j ≡ Some r → m ≡ k + j → is_other r.kind ≡ true → p m ≡ false) → count_to p n ≤ count_to p k + read_count rows
count-rows p k n [] e f = (let s : k ≡ n = omega (arith, e) in subst (λ m. count_to p m ≤ count_to p k + 0) s (omega arith))
count-rows p k n (r ∷ rs) e f =
    let b = sum_by-cons (λ (x : Row). if is_other x.kind then 0 else 1) r rs in
    let one = one-counted (p k) (is_other r.kind) (f 0 k r refl (omega arith)) in
    let step : count_to p (suc k) ≡ count_to p k + (if p k then 1 else 0) = refl in
    let i = count-rows p (suc k) n rs (omega (arith, e)) (λ j m x h s. f (suc j) m x h (omega (arith, s))) in
    omega (arith, b, one, step, i)

delayed-few : (d : Flat) → DelaysVariables d → count_to (is_delayed d) (length d.rows) ≤ read_count d.rows
delayed-few d variables =
    let most = count-rows (is_delayed d) 0 (length d.rows) d.rows (omega arith) (λ j m r h s o. (let same : j ≡ m = omega (arith, s) in subst (λ i. is_delayed d i ≡ false) same (variables j (inr (ap is_other_row h ∙ o))))) in
    omega (arith, most)

-- ---- nodes

pub node-within : (d : Flat) (order : List ℕ) → IsSound d → DelaysVariables d → AllBelow (length d.procs) order → ((j : ℕ) → count_by (λ i. i == j) order ≤ 1) → ArePaired 0 (cell_nodes d) → (n : ℕ) (x : Node) → slice_get (cell_nodes d) n ≡ Some x →
    node_count d order (cell_nodes d) x ≤ (cost d).cells + cell_slack d
node-within d order sound variables below once paired n (Run g on) h =
    let run = run-at d paired n g on h in
    let pass = pass-most d order below once in
    let procs = procs-within d sound d.procs sound.procs in
    let cells = rows-cells d.rows in
    omega (arith, run, pass, procs, cells)
node-within d order sound variables below once paired n (Trap task to) h = omega arith
node-within d order sound variables below once paired n (Apply to) h =
    let cells = rows-cells d.rows in
    let late = delayed-few d variables in
    omega (arith, cells, late)
