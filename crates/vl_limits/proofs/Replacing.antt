-- Entries of the tables of statements and of nodes that are replaced one by one.
use Rattle.std.proofs.Common.{◌≡◌, sym, ap, ◌∙◌, subst, arith, ℕ, zero, suc, ◌+◌, ◌≤◌, ◌<◌, min, List, [], ◌∷◌, map, length, get_or}
use Rattle.std.specs.Prelude.{if◌then◌else◌, nat_lt, slice_index, slice_set, All}
use Rattle.vl_design.specs.declared.design.Func.{Func}
use Rattle.vl_design.specs.declared.design.Signal.{Signal}
use Rattle.vl_design.specs.Seen.{stm_of}
use Rattle.vl_loops.specs.Limits.{Counted, statements, nodes}
use Rattle.vl_loops.specs.Loops.{HasHeads}
use Rattle.vl_limits.specs.Bodies.{func_rows, alone_count, next_statements, next_nodes, rounds, AtMost}
use Rattle.vl_limits.proofs.Climbing.{mapped, kept, replaced}
use Rattle.vl_limits.proofs.Rounds.{statements-are, nodes-are}
use Rattle.vl_limits.proofs.Settled.{all-statements-grow, all-nodes-grow}

module _ (signals : List Signal) (funcs : List Func) (heads : All (λ g. HasHeads (func_rows signals g) (stm_of g.body)) funcs) where
  pub statements-kept : (t : List ℕ) (n : ℕ) → AtMost t (rounds (next_statements signals) funcs n) → AtMost t (rounds (next_statements signals) funcs (suc n))
  statements-kept t n h = kept (next_statements signals) funcs (all-statements-grow signals funcs heads) n t h

  pub nodes-kept : (few t : List ℕ) (n : ℕ) → AtMost t (rounds (next_nodes signals few) funcs n) → AtMost t (rounds (next_nodes signals few) funcs (suc n))
  nodes-kept few t n h = kept (next_nodes signals few) funcs (all-nodes-grow signals funcs heads few) n t h

  pub statements-replaced : (t bodies new : List ℕ) (k v : ℕ) (g : Func) (cap : ℕ) (what : Counted) → k < length funcs → g ≡ get_or funcs k g → v ≡ min cap (alone_count what signals g) → cap ≡ 100001 → what ≡ statements (λ i. slice_index bodies i) → bodies ≡ t → new ≡ slice_set t k v →
      (n : ℕ) → AtMost t (rounds (next_statements signals) funcs n) → AtMost new (rounds (next_statements signals) funcs (suc n))
  statements-replaced t bodies new k v g cap what h e i c w b s n m =
      let one = statements-are signals g cap v what bodies t i c w b in
      rw s (replaced (next_statements signals) funcs (all-statements-grow signals funcs heads) n t k v (one ∙ sym (mapped (next_statements signals t) funcs k g h e)) m)

  pub nodes-replaced : (few t bodies new : List ℕ) (k v s : ℕ) (g : Func) (cap : ℕ) (what : Counted) → k < length funcs → g ≡ get_or funcs k g → v ≡ (if nat_lt 100000 s then 0 else min cap (alone_count what signals g)) → s ≡ slice_index few k → cap ≡ 1000001 →
      what ≡ nodes (λ i. slice_index bodies i) → bodies ≡ t → new ≡ slice_set t k v → few ≡ map (next_statements signals few) funcs →
      (n : ℕ) → AtMost t (rounds (next_nodes signals few) funcs n) → AtMost new (rounds (next_nodes signals few) funcs (suc n))
  nodes-replaced few t bodies new k v s g cap what h e i j c w b x f n m =
      let own = j ∙ (ap (λ z. slice_index z k) f ∙ mapped (next_statements signals few) funcs k g h e) in
      let one = nodes-are signals g cap v s what bodies few t i own c w b in
      rw x (replaced (next_nodes signals few) funcs (all-nodes-grow signals funcs heads few) n t k v (one ∙ sym (mapped (next_nodes signals few t) funcs k g h e)) m)
