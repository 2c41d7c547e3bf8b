-- Rounds over the bodies of functions: in each, calls nest one deeper.
use Rattle.std.proofs.Common.{◌≡◌, refl, sym, ap, ◌∙◌, subst, arith, ℕ, zero, suc, ◌+◌, ◌-◌, ◌≤◌, List, [], ◌∷◌, map, length}
use Rattle.std.specs.Prelude.{slice_index, slice_get, All}
use Rattle.std.specs.List.{AllByRecursion}
use Rattle.std.proofs.lemmas.List.{length-map}
use Rattle.vl_design.specs.declared.design.Design.{Design}
use Rattle.vl_design.specs.declared.design.Func.{Func}
use Rattle.vl_design.specs.Cost.{stm_cells, body_of, body_within}
use Rattle.vl_design.specs.Functions.{scope_of, inner, zeros, fresh}
use Rattle.vl_design.specs.Laws.{IsUnrolled}
use Rattle.vl_design.specs.Plain.{plain_scope}
use Rattle.vl_design.specs.Plainly as plain
use Rattle.vl_design.specs.Seen as seen
use Rattle.vl_design.specs.Syntax.{Fun}
use Rattle.vl_design.specs.Trees.{flat_of}
use Rattle.vl_design.specs.Width.{Scope}
use Rattle.vl_limits.proofs.Alike.{Same, sames}
use Rattle.vl_limits.proofs.Rounds.{capped}
use Rattle.vl_design.specs.Costs.{saturated}
use Rattle.vl_cost.specs.Walks.{next_cells, AreBodies, HasNoLoop}
use Rattle.vl_cost.proofs.Alike.{stm_alike}
use Rattle.vl_cost.proofs.Loopless.{funcs-loopless, all-funcs}

module _ (design : Design) (u : IsUnrolled (flat_of design)) where
  abbrev scope : Scope
  scope = scope_of (flat_of design) []

  round : (n : ℕ) (bodies : List ℕ) → AreBodies (flat_of design) n bodies → AreBodies (flat_of design) (suc n) (map (next_cells bodies) design.funcs)
  round n bodies are f = go design.funcs (funcs-loopless design u) f
    where
      one : (g : Func) → HasNoLoop (seen.stm_of g.body) →
          next_cells bodies g ≡ saturated (stm_cells (inner scope (plain.fun (seen.func_of g))) (body_within scope n) (plain.fun (seen.func_of g)).body (fresh (zeros (inner scope (plain.fun (seen.func_of g))).names.rows)))
      one g h = sym (stm_alike (Same 18446744073709551615) (sames 18446744073709551615) (body_within scope n) (λ i. slice_index bodies i) (λ i. capped 18446744073709551615 (slice_index bodies i) (body_within scope n i) (are i))
          (inner scope (plain.fun (seen.func_of g))) (plain_scope []) (fresh (zeros (inner scope (plain.fun (seen.func_of g))).names.rows)) (fresh []) [] (seen.stm_of g.body) h)

      go : (gs : List Func) → AllByRecursion (λ g. HasNoLoop (seen.stm_of g.body)) gs → (f : ℕ) →
          slice_index (map (next_cells bodies) gs) f ≡ saturated (body_of (slice_get (map plain.fun (map seen.func_of gs)) f) (λ (g : Fun). stm_cells (inner scope g) (body_within scope n) g.body (fresh (zeros (inner scope g).names.rows))))
      go [] h f = refl
      go (g ∷ gs) h zero = one g h.0
      go (g ∷ gs) h (suc f) = go gs h.1 f

  pub round-is : (n m : ℕ) (bodies next : List ℕ) → AreBodies (flat_of design) n bodies → next ≡ map (next_cells bodies) design.funcs → m ≡ suc n → AreBodies (flat_of design) m next
  round-is n m bodies next are h e = rw (h, e) (round n bodies are)

  -- a table that a round keeps stays so
  rounds-stay : (bodies : List ℕ) → bodies ≡ map (next_cells bodies) design.funcs → (j n : ℕ) → AreBodies (flat_of design) n bodies → AreBodies (flat_of design) (n + j) bodies
  rounds-stay bodies h zero n are = let e : n + 0 ≡ n = omega arith in subst (λ z. AreBodies (flat_of design) z bodies) (sym e) are
  rounds-stay bodies h (suc j) n are =
      let e : n + suc j ≡ suc n + j = omega arith in
      subst (λ z. AreBodies (flat_of design) z bodies) (sym e) (rounds-stay bodies h j (suc n) (round-is n (suc n) bodies bodies are h refl))

  pub stays-to : (n m : ℕ) (bodies next : List ℕ) → AreBodies (flat_of design) n bodies → next ≡ map (next_cells bodies) design.funcs → next ≡ bodies → n ≤ m → AreBodies (flat_of design) m next
  stays-to n m bodies next are h e i =
      let s : n + (m - n) ≡ m = omega arith in
      rw e (subst (λ z. AreBodies (flat_of design) z bodies) s (rounds-stay bodies (sym e ∙ h) (m - n) n are))

-- what a round made of a slice is what it makes of the design
pub from-slice : (bodies before : List ℕ) (funcs gs : List Func) (next : List ℕ) → next ≡ map (next_cells before) gs → before ≡ bodies → gs ≡ funcs → next ≡ map (next_cells bodies) funcs
from-slice bodies before funcs gs next h b e = h ∙ (ap (λ z. map (next_cells z) gs) b ∙ ap (map (next_cells bodies)) e)

pub slice-loopless : (design : Design) → IsUnrolled (flat_of design) → (gs : List Func) → gs ≡ design.funcs → All (λ g. HasNoLoop (seen.stm_of g.body)) gs
slice-loopless design u gs e = subst (All (λ g. HasNoLoop (seen.stm_of g.body))) (sym e) (all-funcs design u)

pub all-rounds : (design : Design) (gs : List Func) → gs ≡ design.funcs → length gs ≡ length (flat_of design).funs
all-rounds design gs e = ap length e ∙ (sym (length-map design.funcs seen.func_of) ∙ sym (length-map (map seen.func_of design.funcs) plain.fun))
