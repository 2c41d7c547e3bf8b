-- Stages of runs are tidy.
use Rattle.std.proofs.Common.{◌≡◌, ℕ, true, List, [], ◌∷◌, length, map, Option, Some, None, refl, ap, ◌∙◌, arith}
use Rattle.std.specs.Prelude.{if◌then◌else◌, replicate}
use Rattle.std.proofs.lemmas.List.{length-map}
use Rattle.vl_design.specs.declared.design.SigKind.{SigKind}
use Rattle.vl_design.specs.declared.design.SigKind.TheVariants.{Net, Var, Comb, Loop, Mem, Clock}
use Rattle.vl_design.specs.Laws.{IsFine}
use Rattle.vl_design.specs.Sound.{IsOf, IsMem}
use Rattle.vl_design.specs.Syntax.{Row}
use Rattle.ten_form.specs.vl_runs.specs.Computed.{is_computed}
use Rattle.sub_runs.specs.Memories.{is_mem, is_mem_row}
use Rattle.sub_runs.specs.Nets as nets
use Rattle.ten_form.specs.Nets.{cleared}
pub use Rattle.vl_design.proofs.Shared.{fine-many}

-- both ways to clear computed signals are one, where there are as many values as signals
pub cleared-same : (rows : List Row) (values : List (List ℕ)) → length values ≡ length rows → nets.cleared rows values ≡ cleared rows values
cleared-same [] [] e = refl
cleared-same [] (ws ∷ values) e = let z : ⊥ = cc in absurd z
cleared-same (r ∷ rows) [] e = refl
cleared-same (r ∷ rows) (ws ∷ values) e =
    let same : length values ≡ length rows = omega (arith, e) in
    ap (λ vs. (if is_computed r.kind then map (λ x. 0) ws else ws) ∷ vs) (cleared-same rows values same)

of-memory : (k : SigKind) → IsMem k → is_mem k ≡ true
of-memory Net h = absurd h
of-memory Var h = absurd h
of-memory Comb h = absurd h
of-memory Loop h = absurd h
of-memory Mem h = refl
of-memory Clock h = absurd h

-- a memory is one
pub memory-row : (x : Option Row) → IsOf IsMem x → is_mem_row x ≡ true
memory-row None h = absurd h
memory-row (Some r) h = of-memory r.kind h.0
