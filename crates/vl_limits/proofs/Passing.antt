-- The first limit that is passed, from sums that stop at the limits.
use Rattle.std.proofs.Common.{◌≡◌, refl, sym, ap, ◌∙◌, subst, arith, ℕ, suc, ◌+◌, ◌≤◌, ◌<◌, min, List, [], ◌∷◌, ◌++◌, map, length, get_or}
use Rattle.std.specs.Prelude.{slice_index, All, Option}
use Rattle.std.specs.List.{AllByRecursion}
use Rattle.std.proofs.lemmas.List.{append-nil}
use Rattle.std.proofs.lemmas.List.Elements.{recursion_from_All, All-from_recursion}
use Rattle.vl_design.specs.declared.design.Design.{Design}
use Rattle.vl_design.specs.declared.design.Process.{Process}
use Rattle.vl_design.specs.declared.design.Signal.{Signal}
use Rattle.vl_design.specs.declared.stop.Stop.{Stop}
use Rattle.vl_design.specs.Functions.{scope_of, zeros, fresh}
use Rattle.vl_design.specs.Placed as p
use Rattle.vl_design.specs.Plain.{plain_scope}
use Rattle.vl_design.specs.Plainly as plain
use Rattle.vl_design.specs.Rows.{row_of}
use Rattle.vl_design.specs.Seen.{placed, stm_of, process_of}
use Rattle.vl_design.specs.Sound.{IsSoundProc}
use Rattle.vl_design.specs.Syntax.{Row}
use Rattle.vl_design.specs.Trees.{flat_of}
use Rattle.vl_design.specs.Width.{Scope, names_of}
use Rattle.vl_loops.specs.Fits.{CanUnroll, HasLoops}
use Rattle.vl_loops.specs.Limits.{Counted, statements, nodes, most_statements, most_nodes, stm_count, body_count, process_count, processes_limit}
use Rattle.vl_loops.proofs.Closing.{next}
use Rattle.vl_loops.specs.Loops.{HasHeads}
use Rattle.vl_loops.specs.Rooms.{state_of}
use Rattle.vl_loops.proofs.Loops.{heads_of}
use Rattle.vl_loops.proofs.Zeros.{none-meets}
use Rattle.vl_limits.specs.Bodies.{zeros_in, AreBodies, AreAdded}
use Rattle.vl_limits.proofs.Alike.{Same, both, sames, stm_alike}
use Rattle.vl_limits.proofs.Rounds.{capped, below, above, next-is}

-- where no limit is passed the sums are within both
pub record Within (m n : ℕ) : Type 0 where
  pub few_statements : m ≤ most_statements
  pub few_nodes : n ≤ most_nodes

-- what is left behind sums within both limits
pub record Passes (d : p.Design) (m n : ℕ) (ps : List p.Process) (r : Option Stop) : Type 0 where
  pub within : Within m n
  pub rest : processes_limit d m n ps ≡ r

-- ---- one process

module _ (design : Design) (few many : List ℕ) (are : AreBodies (placed design) (length (placed design).funcs) few many) (a : Process) (h : HasHeads (map row_of design.signals ++ []) (stm_of a.body)) where
  abbrev d : p.Design
  d = placed design

  abbrev scope : Scope
  scope = scope_of (plain.flat d) []

  abbrev rows : List Row
  rows = map row_of design.signals

  -- what the process counts in a scope of these signals
  abbrev wide : Counted → List Row → ℕ
  wide c r = stm_count c (next (plain_scope r) rows scope.names.funs [] scope.call) (stm_of a.body) (fresh (zeros r))

  abbrev bare : Counted → ℕ
  bare c = stm_count c (plain_scope (rows ++ [])) (stm_of a.body) (state_of (zeros_in design.signals []))

  abbrev deep : ℕ → ℕ
  deep = body_count statements scope d.funcs

  wide-is : (c : Counted) → wide c (rows ++ []) ≡ wide c rows
  wide-is c = ap (wide c) (append-nil rows)

  statements-alike : Same (most_statements + 1) (process_count d statements (process_of a)) (bare (statements (λ i. slice_index few i)))
  statements-alike =
      let x = wide (statements deep) (rows ++ []) in
      sym (ap (λ z. min (most_statements + 1) z) (wide-is (statements deep)))
      ∙ stm_alike (Same (most_statements + 1)) (sames (most_statements + 1)) (suc x) 1 (most_statements + 1) 0 deep (λ i. slice_index few i) (statements deep) (λ f q. capped (most_statements + 1) (slice_index few f) (deep f) (are.few_statements f))
      (rows ++ []) rows scope.names.funs [] scope.call (stm_of a.body) h (fresh (zeros (rows ++ []))) _ (none-meets design.signals []) (next-is x)

  nodes-alike : process_count d statements (process_of a) ≤ most_statements → Same (most_nodes + 1) (process_count d nodes (process_of a)) (bare (nodes (λ i. slice_index many i)))
  nodes-alike k =
      let deep' = body_count nodes scope d.funcs in
      let x = wide (statements deep) (rows ++ []) in
      let i : x ≤ most_statements = subst (λ z. z ≤ most_statements) (sym (wide-is (statements deep))) k in
      sym (ap (λ z. min (most_nodes + 1) z) (wide-is (nodes deep')))
      ∙ stm_alike (Same (most_nodes + 1)) (sames (most_nodes + 1)) (most_statements + 1) 0 0 1 deep' (λ i. slice_index many i) (statements deep) (λ f q. capped (most_nodes + 1) (slice_index many f) (deep' f) (are.few_nodes f (below most_statements (deep f) q)))
      (rows ++ []) rows scope.names.funs [] scope.call (stm_of a.body) h (fresh (zeros (rows ++ []))) _ (none-meets design.signals []) (above most_statements x i)

  -- what was counted of the process, behind a sum
  abbrev found : Counted → List Signal → ℕ
  found t signals = stm_count t (plain_scope (map row_of signals ++ [])) (stm_of a.body) (state_of (zeros_in signals []))

  pub statements-found : (cap m y : ℕ) (t : Counted) (bodies : List ℕ) (signals : List Signal) → y ≡ min cap (m + found t signals) → cap ≡ 100001 → t ≡ statements (λ i. slice_index bodies i) → bodies ≡ few → signals ≡ design.signals →
      y ≡ min (most_statements + 1) (m + process_count d statements (process_of a))
  statements-found cap m y t bodies signals i e k b s =
      i ∙ (ap (λ z. min z (m + found t signals)) e
      ∙ (ap (λ z. min 100001 (m + found z signals)) (k ∙ ap (λ z. statements (λ i. slice_index z i)) b)
      ∙ (ap (λ z. min 100001 (m + found (statements (λ i. slice_index few i)) z)) s
      ∙ sym (both (most_statements + 1) m m _ _ refl statements-alike))))

  few-part : (m x : ℕ) → m + x ≤ most_statements → x ≤ most_statements
  few-part m x h = omega arith

  pub nodes-found : (cap m n y : ℕ) (t : Counted) (bodies : List ℕ) (signals : List Signal) → y ≡ min cap (n + found t signals) → cap ≡ 1000001 → t ≡ nodes (λ i. slice_index bodies i) → bodies ≡ many → signals ≡ design.signals →
      m + process_count d statements (process_of a) ≤ most_statements → y ≡ min (most_nodes + 1) (n + process_count d nodes (process_of a))
  nodes-found cap m n y t bodies signals i e k b s q =
      i ∙ (ap (λ z. min z (n + found t signals)) e
      ∙ (ap (λ z. min 1000001 (n + found z signals)) (k ∙ ap (λ z. nodes (λ i. slice_index z i)) b)
      ∙ (ap (λ z. min 1000001 (n + found (nodes (λ i. slice_index many i)) z)) s
      ∙ sym (both (most_nodes + 1) n n _ _ refl (nodes-alike (few-part m _ q))))))

  pub added-many : (m n m' n' : ℕ) → m' ≡ min (most_statements + 1) (m + process_count d statements (process_of a)) → most_statements < m' → AreAdded d (process_of a) m n m' n'
  added-many m n m' n' e i = record { few_statements = e; few_nodes = λ q. absurd (past (m + process_count d statements (process_of a)) e i q) }
    where
      past : (x : ℕ) → m' ≡ min (most_statements + 1) x → most_statements < m' → x ≤ most_statements → ⊥
      past x e i q = omega arith

-- ---- headers of processes

proc_head : (design : Design) (a : Process) → HasLoops (flat_of design).rows (plain.proc (process_of a)).body → IsSoundProc (names_of (flat_of design)) (plain.proc (process_of a)) → HasHeads (map row_of design.signals ++ []) (stm_of a.body)
proc_head design a l h = subst (λ r. HasHeads r (stm_of a.body)) (sym (append-nil (map row_of design.signals))) (heads_of (names_of (flat_of design)) a.path (stm_of a.body) l h.body)

pub procs_heads : (design : Design) → CanUnroll (flat_of design) → All (λ a. HasHeads (map row_of design.signals ++ []) (stm_of a.body)) design.processes
procs_heads design u =
    All-from_recursion (λ a. HasHeads (map row_of design.signals ++ []) (stm_of a.body)) design.processes
    (go design.processes (recursion_from_All (λ b. HasLoops (flat_of design).rows b.body) (map plain.proc (map process_of design.processes)) u.procs)
    (recursion_from_All (IsSoundProc (names_of (flat_of design))) (map plain.proc (map process_of design.processes)) u.sound.procs))
  where
    go : (as' : List Process) → AllByRecursion (λ b. HasLoops (flat_of design).rows b.body) (map plain.proc (map process_of as')) → AllByRecursion (IsSoundProc (names_of (flat_of design))) (map plain.proc (map process_of as')) →
        AllByRecursion (λ a. HasHeads (map row_of design.signals ++ []) (stm_of a.body)) as'
    go [] l h = l
    go (a ∷ as') l h = (proc_head design a l.0 h.0, go as' l.1 h.1)

pub process-head : (design : Design) → CanUnroll (flat_of design) → (ps : List Process) (i : ℕ) (a : Process) → ps ≡ design.processes → i < length ps → a ≡ get_or ps i a → HasHeads (map row_of design.signals ++ []) (stm_of a.body)
process-head design u ps i a e h is =
    let k : All (λ b. HasHeads (map row_of design.signals ++ []) (stm_of b.body)) ps = subst (All (λ b. HasHeads (map row_of design.signals ++ []) (stm_of b.body))) (sym e) (procs_heads design u) in
    subst (λ b. HasHeads (map row_of design.signals ++ []) (stm_of b.body)) (sym is) (k i a h)
