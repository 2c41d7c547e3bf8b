-- A table that a round keeps, and that came to be entry by entry, is that of all rounds.
use Rattle.std.proofs.Common.{◌≡◌, refl, sym, ap, ◌∙◌, subst, arith, ℕ, zero, suc, ◌≤◌, ◌<◌, List, [], map, length, get_or}
use Rattle.std.specs.Prelude.{slice_index, slice_set, All}
use Rattle.std.proofs.lemmas.List.Elements.{recursion_from_All}
use Rattle.vl_design.specs.declared.design.Design.{Design}
use Rattle.vl_design.specs.declared.design.Func.{Func}
use Rattle.vl_design.specs.Functions.{fresh}
use Rattle.vl_design.specs.Laws.{IsUnrolled}
use Rattle.vl_design.specs.Plain.{plain_scope}
use Rattle.vl_design.specs.Seen as seen
use Rattle.vl_design.specs.Trees.{flat_of}
use Rattle.vl_limits.specs.Bodies.{rounds, AtMost}
use Rattle.vl_limits.proofs.Alike.{Less, lesses}
use Rattle.vl_limits.proofs.Climbing.{grows-all, mapped, kept, replaced, settled}
use Rattle.vl_cost.specs.Walks.{next_cells, AreBodies, HasNoLoop}
use Rattle.vl_cost.proofs.Alike.{stm_alike}
use Rattle.vl_cost.proofs.Loopless.{all-funcs}
use Rattle.vl_cost.proofs.Rounds.{round-is, all-rounds}
use Rattle.vl_limits.proofs.Settled.{less-than}

cells-grow : (a b : List ℕ) → AtMost a b → (g : Func) → HasNoLoop (seen.stm_of g.body) → next_cells a g ≤ next_cells b g
cells-grow a b l g h =
    stm_alike (Less 18446744073709551615) (lesses 18446744073709551615) (λ i. slice_index a i) (λ i. slice_index b i) (λ i. less-than 18446744073709551615 (slice_index a i) (slice_index b i) (l i))
    (plain_scope []) (plain_scope []) (fresh []) (fresh []) [] (seen.stm_of g.body) h

module _ (funcs : List Func) (loopless : All (λ g. HasNoLoop (seen.stm_of g.body)) funcs) where
  all-cells-grow : (a b : List ℕ) → AtMost a b → AtMost (map (next_cells a) funcs) (map (next_cells b) funcs)
  all-cells-grow = grows-all next_cells (λ g. HasNoLoop (seen.stm_of g.body)) cells-grow funcs (recursion_from_All (λ g. HasNoLoop (seen.stm_of g.body)) funcs loopless)

  pub cells-kept : (t : List ℕ) (n : ℕ) → AtMost t (rounds next_cells funcs n) → AtMost t (rounds next_cells funcs (suc n))
  cells-kept t n h = kept next_cells funcs all-cells-grow n t h

  pub cells-replaced : (t bodies new : List ℕ) (k v : ℕ) (g : Func) → k < length funcs → g ≡ get_or funcs k g → v ≡ next_cells bodies g → bodies ≡ t → new ≡ slice_set t k v →
      (n : ℕ) → AtMost t (rounds next_cells funcs n) → AtMost new (rounds next_cells funcs (suc n))
  cells-replaced t bodies new k v g h e i b s n m =
      rw s (replaced next_cells funcs all-cells-grow n t k v (i ∙ (ap (λ z. next_cells z g) b ∙ sym (mapped (next_cells t) funcs k g h e))) m)

module _ (design : Design) (u : IsUnrolled (flat_of design)) where
  rounds-are : (n : ℕ) → AreBodies (flat_of design) n (rounds next_cells design.funcs n)
  rounds-are zero = λ f. refl
  rounds-are (suc n) = round-is design u n (suc n) (rounds next_cells design.funcs n) (rounds next_cells design.funcs (suc n)) (rounds-are n) refl refl

  pub passed : (n : ℕ) (t : List ℕ) → AtMost t (rounds next_cells design.funcs n) → t ≡ map (next_cells t) design.funcs → AreBodies (flat_of design) n t
  passed n t h e f = settled next_cells design.funcs (all-cells-grow design.funcs (all-funcs design u)) n t h e f ∙ rounds-are n f

-- the same of a slice
pub passed-are : (design : Design) → IsUnrolled (flat_of design) → (gs : List Func) (t next : List ℕ) → gs ≡ design.funcs → AtMost t (rounds next_cells gs (length gs)) → next ≡ map (next_cells t) gs → next ≡ t → AreBodies (flat_of design) (length (flat_of design).funs) t
passed-are design u gs t next e h i o =
    let most = subst (λ z. AtMost t (rounds next_cells z (length z))) e h in
    let same = sym o ∙ (i ∙ ap (map (next_cells t)) e) in
    let many = all-rounds design design.funcs refl in
    subst (λ n. AreBodies (flat_of design) n t) many (passed design u (length design.funcs) t most same)
