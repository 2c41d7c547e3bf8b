-- The functions of an accepted design can be compiled to cells.
use Rattle.std.proofs.Common.{◌≡◌, ℕ, zero, suc, ◌≤◌, nat_lt, false, List, [], ◌∷◌, map, length, refl, sym, subst, inl, arith}
use Rattle.std.specs.Prelude.{◌++◌, All, slice_get}
use Rattle.std.proofs.lemmas.Bool.Decides.{nat_tests}
use Rattle.std.proofs.lemmas.List.{length-map}
use Rattle.std.proofs.lemmas.List.Elements.{All-nil, All-cons, All-head, All-tail}
use Rattle.vl_loops.specs.vl_design.specs.declared.design.Signal.{Signal}
use Rattle.vl_loops.specs.vl_design.specs.declared.design.SigKind.{SigKind}
use Rattle.vl_loops.specs.vl_design.specs.declared.design.SigKind.TheVariants as k
use Rattle.vl_loops.specs.vl_design.specs.declared.stop.Stop.{Stop}
use Rattle.vl_loops.specs.vl_design.specs.Functions.{scope_of, inner}
use Rattle.vl_loops.specs.vl_design.specs.Placed as p
use Rattle.vl_loops.specs.vl_design.specs.Plainly as plain
use Rattle.vl_loops.specs.vl_design.specs.Reads.{stm_writes}
use Rattle.vl_loops.specs.vl_design.specs.Rows.{row_of}
use Rattle.vl_loops.specs.vl_design.specs.Sound.{HasValue, IsMem, IsOf, IsSoundFun, IsSound}
use Rattle.vl_loops.specs.vl_design.specs.Syntax.{Row, Fun, Flat}
use Rattle.vl_loops.specs.vl_design.specs.Width.{Names, Scope, names_in, names_of}
use Rattle.vl_loops.specs.Fits.{CanUnroll}
use Rattle.vl_loops.specs.Placed.{unrolled_placed}
use Rattle.vl_loops.specs.Unroll.{still, unrolled_fun, unrolled_flat}
use Rattle.vl_loops.proofs.Placing.{flat_plain}
use Rattle.vl_loops.proofs.Sounding.{flat_sound}
use Rattle.vl_loops.specs.vl_design.specs.First.{In}
use Rattle.elab_laws.specs.vl_check.specs.Bodies.{of_function}
use Rattle.elab_laws.specs.vl_check.specs.Standing.{body_faults, processes_faults, functions_faults, standing_faults}
use Rattle.sub_runs.specs.vl_sites.specs.Own.{IsOwn, HasOwnFunctions}
use Rattle.elab_laws.specs.vl_accept.specs.Fit.{IsFit}
use Rattle.elab_laws.specs.vl_accept.proofs.Clean.{left-none, right-none}
use Rattle.elab_laws.specs.vl_accept.proofs.Silent.{silent}
use Rattle.elab_laws.specs.vl_accept.specs.Accepted.{IsAccepted}
use Rattle.elab_laws.specs.vl_accept.proofs.Fitting.{unrolls}
use Rattle.ten_make.specs.cell_expr.specs.Bodies.{IsCellFun}
use Rattle.ten_build.proofs.Sites.{body-still, body-own}
use Rattle.ten_build.proofs.Nets.{becomes}
use Rattle.vl_loops.specs.vl_design.proofs.Shared.{no-more}

-- ---- memories

no-memory : (kind : SigKind) → HasValue kind → IsMem kind → ⊥
no-memory k.Net v h = absurd h
no-memory k.Var v h = absurd h
no-memory k.Comb v h = absurd h
no-memory k.Loop v h = absurd h
no-memory k.Mem v h = absurd v
no-memory k.Clock v h = absurd h

-- behind the rows of a design stand a function's variables
local-memory : (rows : List Row) (locals : List Signal) → All (λ r. HasValue r.kind) locals → (j : ℕ) → length rows ≤ j → IsOf IsMem (slice_get (rows ++ map row_of locals) j) → ⊥
local-memory [] [] a j l h = absurd h
local-memory [] (r ∷ locals) a zero l h = no-memory r.kind (All-head (λ (r : Signal). HasValue r.kind) r locals a) h.0
local-memory [] (r ∷ locals) a (suc j) l h = local-memory [] locals (All-tail (λ (r : Signal). HasValue r.kind) r locals a) j (omega arith) h
local-memory (x ∷ rows) locals a zero l h = absurd (omega (arith, l))
local-memory (x ∷ rows) locals a (suc j) l h = local-memory rows locals a j (omega (arith, l)) h

at-least : (j n : ℕ) → nat_lt j n ≡ false → n ≤ j
at-least j n h = grind (arith, nat_tests)

-- ---- functions

module _ (d : p.Design) where
  abbrev scope : Scope
  scope = scope_of (plain.flat d) []

  abbrev next : Flat
  next = unrolled_flat (plain.flat d)

  abbrev names : Names
  names = names_of next

  abbrev up : p.Func → Fun
  up f = unrolled_fun scope (plain.fun f)

  same : length d.signals ≡ length names.signals
  same = sym (length-map d.signals row_of)

  module _ (f : p.Func) (own : IsOwn (length d.signals) f) (none : body_faults (of_function d f) f.body ≡ []) (sound : IsSoundFun names (up f)) where
    abbrev within : Scope
    within = inner scope (plain.fun f)

    apart : stm_writes (λ j. nat_lt j (length d.signals)) (up f).body ≡ false
    apart = silent (λ j. nat_lt j (length d.signals)) within [] f.body (body-own d f none) (still within)

    cell-fun : IsCellFun names (up f)
    cell-fun = record {
      net = becomes (names_in names (up f)) (λ j. nat_lt j (length d.signals))
          (λ j l h. local-memory (map row_of d.signals) f.locals own.locals j (subst (λ n. n ≤ j) same (at-least j (length d.signals) l)) h)
          within [] f.body (body-still d f none) own.timeless (still within) sound.body apart;
      apart = subst (λ n. stm_writes (λ j. nat_lt j n) (up f).body ≡ false) same apart;
      inputs = subst (λ n. All (λ j. n ≤ j) f.inputs) same own.inputs;
      result = subst (λ n. n ≤ f.result) same own.result;
    }

  cell-funs : (fs : List p.Func) → All (IsOwn (length d.signals)) fs → functions_faults d fs ≡ [] → All (IsSoundFun names) (map (unrolled_fun scope) (map plain.fun fs)) → All (IsCellFun names) (map (unrolled_fun scope) (map plain.fun fs))
  cell-funs [] own none sound = All-nil (IsCellFun names)
  cell-funs (f ∷ fs) own none sound =
      let others = map (unrolled_fun scope) (map plain.fun fs) in
      All-cons (IsCellFun names) (up f) others
      (cell-fun f (All-head (IsOwn (length d.signals)) f fs own) (left-none (body_faults (of_function d f) f.body) _ none) (All-head (IsSoundFun names) (up f) others sound))
      (cell-funs fs (All-tail (IsOwn (length d.signals)) f fs own) (right-none (body_faults (of_function d f) f.body) _ none) (All-tail (IsSoundFun names) (up f) others sound))

-- ---- designs

pub all-cell-funs : (d : p.Design) → IsFit d → HasOwnFunctions d → IsAccepted d → All (IsCellFun (names_of (plain.flat (unrolled_placed d)))) (plain.flat (unrolled_placed d)).funs
all-cell-funs d fit own accepted =
    let can : CanUnroll (plain.flat d) = unrolls d fit accepted.uses in
    let none = no-more (standing_faults d) (λ f w. accepted.uses f (inl w)) in
    let sound : IsSound (unrolled_flat (plain.flat d)) = flat_sound (plain.flat d) fit.sound in
    subst (λ (z : Flat). All (IsCellFun (names_of z)) z.funs) (sym (flat_plain d can))
    (cell-funs d d.funcs own.functions (right-none (processes_faults d [] d.processes) _ none) sound.funs)
