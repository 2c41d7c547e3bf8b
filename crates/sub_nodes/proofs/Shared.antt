-- Laws that several crates use.
use Rattle.std.proofs.Common.{List, None, Option, Some, [], ap, arith, drop, false, refl, subst, suc, true, zero, ℕ, ◌+◌, ◌∷◌, ◌≡◌}
use Rattle.std.specs.Prelude.{slice_get}
use Rattle.sub_nodes.proofs.Falling.{AllFall, wave_falls}
use Rattle.sub_nodes.specs.Code.{fall_nodes}
use Rattle.sub_nodes.specs.Cycles.{is_trap, rises}
use Rattle.sub_nodes.specs.Implements.{bodies}
use Rattle.sub_nodes.specs.Nodes.{Apply, Node, Run, Trap, still}
use Rattle.vl_design.proofs.Running.{some_is}
use Rattle.vl_design.specs.Syntax.{Proc}

-- the clock doesn't rise where a call is next
pub trap-low : (x : Option Node) → is_trap x ≡ true → rises x ≡ false
trap-low None e = refl
trap-low (Some (Run g on)) e = let z : ⊥ = cc in absurd z
trap-low (Some (Trap task to)) e = refl
trap-low (Some (Apply to)) e = refl

pub dropped : (nodes : List Node) (n : ℕ) (x : Node) → slice_get nodes n ≡ Some x → drop n nodes ≡ x ∷ drop (n + 1) nodes
dropped [] n x h = let z : ⊥ = cc in absurd z
dropped (y ∷ ys) zero x h = ap (λ z. z ∷ ys) (some_is h)
dropped (y ∷ ys) (suc n) x h =
    let e : suc (n + 1) ≡ suc n + 1 = omega arith in
    subst (λ k. drop n ys ≡ x ∷ drop k (y ∷ ys)) e (dropped ys n x h)

pub falls-fall : (n : ℕ) (ps : List Proc) → AllFall n (fall_nodes n ps)
falls-fall n [] = tt
falls-fall n (p ∷ ps) = wave_falls n 2 (bodies (p ∷ ps)) still
