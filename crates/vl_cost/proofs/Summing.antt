-- The sums over signals and processes are those of the definition.
use Rattle.std.proofs.Common.{◌≡◌, refl, sym, ap, ◌∙◌, subst, arith, ℕ, ◌+◌, min, Bool, true, false, List, [], ◌∷◌, map, length}
use Rattle.std.specs.Prelude.{if◌then◌else◌, slice_index, sum_by, All}
use Rattle.std.specs.List.{AllByRecursion}
use Rattle.std.proofs.lemmas.List.Sums.{sum_by-cons}
use Rattle.vl_design.specs.declared.design.Design.{Design}
use Rattle.vl_design.specs.declared.design.Process.{Process}
use Rattle.vl_design.specs.declared.design.Signal.{Signal}
use Rattle.vl_design.specs.Cost.{cost, body_cells, proc_cells, proc_regs, row_cells, row_mem, row_regs}
use Rattle.vl_design.specs.Functions.{scope_of, zeros, fresh}
use Rattle.vl_design.specs.Laws.{IsUnrolled}
use Rattle.vl_design.specs.Plain.{plain_scope}
use Rattle.vl_design.specs.Plainly as plain
use Rattle.vl_design.specs.Queue.{is_init}
use Rattle.vl_design.specs.Rows.{row_of}
use Rattle.vl_design.specs.Seen as seen
use Rattle.vl_design.specs.State.{State}
use Rattle.vl_design.specs.Syntax.{Proc, Flat, Row}
use Rattle.vl_design.specs.Trees.{flat_of}
use Rattle.vl_design.specs.Width.{Scope}
use Rattle.vl_limits.proofs.Alike.{Same, both, sames}
use Rattle.vl_limits.proofs.Rounds.{capped}
use Rattle.vl_design.specs.Costs.{saturated}
use Rattle.vl_cost.specs.Walks.{process_cells, process_regs, AreBodies, HasNoLoop}
use Rattle.vl_cost.proofs.Alike.{stm_alike, stm_same}
use Rattle.vl_cost.proofs.Loopless.{procs-loopless, all-procs}
use Rattle.vl_design.specs.vl_base.proofs.Lists.{sum_map as sum-map}

module _ (design : Design) (u : IsUnrolled (flat_of design)) where
  abbrev d : Flat
  d = flat_of design

  abbrev scope : Scope
  scope = scope_of d []

  abbrev s : State
  s = fresh (zeros d.rows)

  unless : (cap : ℕ) (b : Bool) (m n : ℕ) → Same cap m n → Same cap (if b then 0 else m) (if b then 0 else n)
  unless cap true m n h = refl
  unless cap false m n h = h

  module _ (bodies : List ℕ) (are : AreBodies d (length d.funs) bodies) where
    one-cells : (a : Process) → HasNoLoop (seen.stm_of a.body) → Same 18446744073709551615 (proc_cells scope s (plain.proc (seen.process_of a))) (process_cells bodies a)
    one-cells a h =
        unless 18446744073709551615 (is_init a.kind) _ _ (both 18446744073709551615 4 4 _ _ refl
        (stm_alike (Same 18446744073709551615) (sames 18446744073709551615) (body_cells scope) (λ i. slice_index bodies i) (λ i. capped 18446744073709551615 (slice_index bodies i) (body_cells scope i) (are i)) scope (plain_scope []) s (fresh []) a.path (seen.stm_of a.body) h))

    all-cells : (as' : List Process) → AllByRecursion (λ a. HasNoLoop (seen.stm_of a.body)) as' →
        Same 18446744073709551615 (sum_by (proc_cells scope s) (map plain.proc (map seen.process_of as'))) (sum_by (process_cells bodies) as')
    all-cells [] h = refl
    all-cells (a ∷ as') h =
        ap (min 18446744073709551615) (sum_by-cons (proc_cells scope s) (plain.proc (seen.process_of a)) (map plain.proc (map seen.process_of as')))
        ∙ (both 18446744073709551615 _ _ _ _ (one-cells a h.0) (all-cells as' h.1)
        ∙ sym (ap (min 18446744073709551615) (sum_by-cons (process_cells bodies) a as')))

    pub cells-are : (signals : List Signal) (as' : List Process) (rows sum all r : ℕ) → signals ≡ design.signals → as' ≡ design.processes →
        rows ≡ saturated (sum_by (λ x. row_cells x.kind) signals) → sum ≡ saturated (16 + rows) → all ≡ saturated (sum_by (process_cells bodies) as') → r ≡ saturated (sum + all) → r ≡ saturated ((cost d).cells)
    cells-are signals as' rows sum all r e f h k i o =
        let a : all ≡ saturated (sum_by (process_cells bodies) design.processes) = i ∙ ap (λ z. saturated (sum_by (process_cells bodies) z)) f in
        let b = all-cells design.processes (procs-loopless design u) in
        let c : rows ≡ saturated (sum_by (λ r. row_cells r.kind) d.rows) = h ∙ (ap (λ z. saturated (sum_by (λ (x : Signal). row_cells x.kind) z)) e ∙ sym (ap saturated (sum-map (λ (r : Row). row_cells r.kind) row_of design.signals))) in
        total (sum_by (λ r. row_cells r.kind) d.rows) (sum_by (proc_cells scope s) d.procs) (sum_by (process_cells bodies) design.processes) rows sum all r c k a b o
      where
        total : (x y z rows sum all r : ℕ) → rows ≡ saturated x → sum ≡ saturated (16 + rows) → all ≡ saturated z → Same 18446744073709551615 y z → r ≡ saturated (sum + all) → r ≡ saturated (16 + (x + y))
        total x y z rows sum all r h k i j o = omega arith

  one-regs : (a : Process) → HasNoLoop (seen.stm_of a.body) → proc_regs scope s (plain.proc (seen.process_of a)) ≡ process_regs design.signals a
  one-regs a h = ap (λ n. if is_init a.kind then 0 else n) (stm_same scope (plain_scope (map row_of design.signals)) refl (body_cells scope) (λ f. 0) s (fresh []) a.path (seen.stm_of a.body) h)

  all-regs : (as' : List Process) → AllByRecursion (λ a. HasNoLoop (seen.stm_of a.body)) as' → sum_by (proc_regs scope s) (map plain.proc (map seen.process_of as')) ≡ sum_by (process_regs design.signals) as'
  all-regs [] h = refl
  all-regs (a ∷ as') h =
      sum_by-cons (proc_regs scope s) (plain.proc (seen.process_of a)) (map plain.proc (map seen.process_of as'))
      ∙ (rw (one-regs a h.0, all-regs as' h.1) refl
      ∙ sym (sum_by-cons (process_regs design.signals) a as'))

  pub regs-are : (signals : List Signal) (as' : List Process) (rows sum all r : ℕ) → signals ≡ design.signals → as' ≡ design.processes →
      rows ≡ saturated (sum_by (λ x. row_regs x.kind (row_of x).width) signals) → sum ≡ saturated (96 + rows) → all ≡ saturated (sum_by (process_regs signals) as') → r ≡ saturated (sum + all) → r ≡ saturated ((cost d).regs)
  regs-are signals as' rows sum all r e f h k i o =
      let a : all ≡ saturated (sum_by (process_regs design.signals) design.processes) = i ∙ (ap (λ z. saturated (sum_by (process_regs z) as')) e ∙ ap (λ z. saturated (sum_by (process_regs design.signals) z)) f) in
      let b = all-regs design.processes (procs-loopless design u) in
      let c : rows ≡ saturated (sum_by (λ r. row_regs r.kind r.width) d.rows) = h ∙ (ap (λ z. saturated (sum_by (λ (x : Signal). row_regs x.kind (row_of x).width) z)) e ∙ sym (ap saturated (sum-map (λ (r : Row). row_regs r.kind r.width) row_of design.signals))) in
      total (sum_by (λ r. row_regs r.kind r.width) d.rows) (sum_by (proc_regs scope s) d.procs) rows sum all r c k (a ∙ sym (ap saturated b)) o
    where
      total : (x y rows sum all r : ℕ) → rows ≡ saturated x → sum ≡ saturated (96 + rows) → all ≡ saturated y → r ≡ saturated (sum + all) → r ≡ saturated (96 + (x + y))
      total x y rows sum all r h k i o = omega arith

pub slice-loopless : (design : Design) → IsUnrolled (flat_of design) → (as' : List Process) → as' ≡ design.processes → All (λ a. HasNoLoop (seen.stm_of a.body)) as'
slice-loopless design u as' e = subst (All (λ a. HasNoLoop (seen.stm_of a.body))) (sym e) (all-procs design u)
