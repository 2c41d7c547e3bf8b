-- What a combinational process writes is a signal; which kinds there are of signals, and of processes.
use Rattle.std.proofs.Common.{◌≡◌, ℕ, zero, suc, true, false, List, [], ◌∷◌, map, refl, ◌∙◌, subst}
use Rattle.std.specs.Prelude.{◌&&◌, ◌==◌, ◌⊎◌}
use Rattle.std.proofs.lemmas.Bool.{eqb-true}
use mathlib.Core.Logic.{inl, inr}
use Rattle.vl_check.specs.vl_design.specs.declared.design.ProcKind.{ProcKind}
use Rattle.vl_check.specs.vl_design.specs.declared.design.ProcKind.TheVariants.{Init, Rise, Fall, Comb, Assign}
use Rattle.vl_check.specs.vl_design.specs.declared.design.Signal.{Signal}
use Rattle.vl_check.specs.vl_design.specs.declared.design.SigKind.{SigKind}
use Rattle.vl_check.specs.vl_design.specs.declared.design.SigKind.TheVariants as k
use Rattle.vl_check.specs.vl_design.specs.Rows.{row_of}
use Rattle.vl_check.specs.vl_design.specs.Syntax as d
use Rattle.vl_check.specs.vl_design.specs.Width.{Names}
use Rattle.vl_check.specs.vl_design.specs.Queue.{is_comb}
use Rattle.vl_check.specs.vl_design.specs.Reads.{stm_writes, target_writes, targets_write, items_write}
use Rattle.vl_check.specs.vl_design.specs.Laws.{IsUnrolledStm, AreUnrolledItems}
use Rattle.vl_check.specs.vl_design.specs.Sound.{IsSignal, IsSoundTarget, AreSoundTargets, IsSoundBase, IsSoundStm, AreSoundItems}
use Rattle.vl_runs.specs.vl_paths.proofs.Ways.{or_true, or_left, or_right}
use Rattle.vl_check.specs.Bodies.{kind_is}
use Rattle.vl_check.specs.Rules.{is_clock, is_loop}
use Rattle.vl_check.specs.Writers.{is_store, is_always, is_combinational, excludes}
use Rattle.cell_level.specs.vl_bits.specs.Drivers.{is_assign, is_net}
use Rattle.vl_accept.proofs.Pure.{NoWords, NoWordsIn, IsPure, ArePure}

-- what is written is a signal
module _ (names : Names) (j : ℕ) where
  base_there : (t : d.Target) → NoWords t → IsSoundBase names t → target_writes (λ z. z == j) t ≡ true → IsSignal names j
  base_there (d.Whole k) n h w = subst (IsSignal names) (eqb-true k j w) h
  base_there (d.WordAt m a) n h w = absurd n
  base_there (d.PickAt b i from v) n h w = absurd h
  base_there (d.SliceAt b low v) n h w = absurd h
  base_there (d.Several ts) n h w = absurd h

  mutual
    target_there : (t : d.Target) → NoWords t → IsSoundTarget names t → target_writes (λ z. z == j) t ≡ true → IsSignal names j
    target_there (d.Whole k) n h w = subst (IsSignal names) (eqb-true k j w) h
    target_there (d.WordAt m a) n h w = absurd n
    target_there (d.PickAt b i from v) n h w = base_there b n h.1 w
    target_there (d.SliceAt b low v) n h w = base_there b n h.1 w
    target_there (d.Several ts) n h w = targets_there ts n h.1 w

    targets_there : (ts : d.Targets) → NoWordsIn ts → AreSoundTargets names ts → targets_write (λ z. z == j) ts ≡ true → IsSignal names j
    targets_there d.NoTargets n h w = let z : ⊥ = cc in absurd z
    targets_there (d.MoreTargets t ts) n h w = elim (or_true (target_writes (λ z. z == j) t) (targets_write (λ z. z == j) ts) w) [ inl g ↦ target_there t n.0 h.0 g | inr g ↦ targets_there ts n.1 h.1 g ]

  mutual
    pub written_there : (a : d.Stm) → IsPure a → IsUnrolledStm a → IsSoundStm names a → stm_writes (λ z. z == j) a ≡ true → IsSignal names j
    written_there d.Nop h n w g = let z : ⊥ = cc in absurd z
    written_there (d.Then a b) h n w g = elim (or_true (stm_writes (λ z. z == j) a) (stm_writes (λ z. z == j) b) g) [ inl f ↦ written_there a h.0 n.0 w.0 f | inr f ↦ written_there b h.1 n.1 w.1 f ]
    written_there (d.If t a b) h n w g = elim (or_true (stm_writes (λ z. z == j) a) (stm_writes (λ z. z == j) b) g) [ inl f ↦ written_there a h.1 n.0 w.1 f | inr f ↦ written_there b h.2 n.1 w.2 f ]
    written_there (d.Case e items) h n w g = items_there items h.1 n w.1 g
    written_there (d.Set t e) h n w g = target_there t h.0 w.0 g
    written_there (d.For k start test step a) h n w g = absurd n
    written_there (d.Repeat m a) h n w g = absurd n
    written_there (d.Later t e) h n w g = absurd h
    written_there (d.Sys task) h n w g = absurd h

    items_there : (items : d.Items) → ArePure items → AreUnrolledItems items → AreSoundItems names items → items_write (λ z. z == j) items ≡ true → IsSignal names j
    items_there d.NoItems h n w g = let z : ⊥ = cc in absurd z
    items_there (d.Labelled es a others) h n w g = elim (or_true (stm_writes (λ z. z == j) a) (items_write (λ z. z == j) others) g) [ inl f ↦ written_there a h.1 n.0 w.1 f | inr f ↦ items_there others h.2 n.1 w.2 f ]
    items_there (d.Default a others) h n w g = elim (or_true (stm_writes (λ z. z == j) a) (items_write (λ z. z == j) others) g) [ inl f ↦ written_there a h.0 n.0 w.0 f | inr f ↦ items_there others h.1 n.1 w.1 f ]

-- a clock, a loop variable, a net, or what keeps its value
pub kinds : (signals : List Signal) (j : ℕ) (names : Names) → IsSignal (record names { rows = map row_of signals }) j →
    (kind_is is_clock signals j ≡ true) ⊎ (kind_is is_loop signals j ≡ true) ⊎ (is_net signals j ≡ true) ⊎ (kind_is is_store signals j ≡ true)
kinds [] j names h = absurd h
kinds (x ∷ xs) (suc j) names h = kinds xs j names h
kinds (x ∷ xs) zero names h = by x.kind refl
  where
    by : (kind : SigKind) → x.kind ≡ kind → (kind_is is_clock (x ∷ xs) 0 ≡ true) ⊎ (kind_is is_loop (x ∷ xs) 0 ≡ true) ⊎ (is_net (x ∷ xs) 0 ≡ true) ⊎ (kind_is is_store (x ∷ xs) 0 ≡ true)
    by k.Clock e = inl (rw e refl)
    by k.Loop e = inr (inl (rw e refl))
    by k.Net e = inr (inr (inl (rw e refl)))
    by k.Var e = inr (inr (inr (rw e refl)))
    by k.Comb e = inr (inr (inr (rw e refl)))
    by k.Mem e = inr (inr (inr (rw e refl)))

-- a combinational process excludes any other
combinational : (k : ProcKind) → is_combinational k ≡ is_comb k
combinational Init = refl
combinational Rise = refl
combinational Fall = refl
combinational Comb = refl
combinational Assign = refl

pub excludes_left : (a b : ProcKind) → is_comb a ≡ true → excludes a b ≡ true
excludes_left a b h = or_right (is_always a && is_always b) _ (or_left (is_combinational a) (is_combinational b) (combinational a ∙ h))

pub excludes_right : (a b : ProcKind) → is_comb b ≡ true → excludes a b ≡ true
excludes_right a b h = or_right (is_always a && is_always b) _ (or_right (is_combinational a) (is_combinational b) (combinational b ∙ h))

pub no_assign : (k : ProcKind) → is_comb k ≡ false → is_assign k ≡ false
no_assign Init h = refl
no_assign Rise h = refl
no_assign Fall h = refl
no_assign Comb h = let z : ⊥ = cc in absurd z
no_assign Assign h = let z : ⊥ = cc in absurd z

pub is_assign_kind : (k : ProcKind) → is_assign k ≡ true → k ≡ Assign
is_assign_kind Assign h = refl
is_assign_kind Init h = let z : ⊥ = cc in absurd z
is_assign_kind Rise h = let z : ⊥ = cc in absurd z
is_assign_kind Fall h = let z : ⊥ = cc in absurd z
is_assign_kind Comb h = let z : ⊥ = cc in absurd z
