-- What is sound and sets no memory at once assigns signals.
use Rattle.std.proofs.Common.{◌≡◌, ℕ, Bool, false, Option, Some, None, refl}
use Rattle.std.specs.Prelude.{◌||◌, slice_get}
use Rattle.ten_core.specs.vl_design.specs.declared.design.SigKind.{SigKind}
use Rattle.ten_core.specs.vl_design.specs.declared.design.SigKind.TheVariants as kind
use Rattle.ten_core.specs.vl_design.specs.Syntax.{Target, Whole, WordAt, PickAt, SliceAt, Several, Targets, NoTargets, MoreTargets, Stm, Nop, Then, If, Case, For, Repeat, Set, Later, Sys, Items, NoItems, Labelled, Default, Row}
use Rattle.ten_core.specs.vl_design.specs.Exec.{asks}
use Rattle.ten_core.specs.vl_design.specs.Laws.{IsUnrolledStm, AreUnrolledItems, can_act, items_can_act}
use Rattle.ten_core.specs.vl_design.specs.Reads.{target_writes, targets_write}
use Rattle.ten_core.specs.vl_design.specs.Sound.{IsOf, IsMem, IsSoundBase, IsSoundTarget, AreSoundTargets, IsSoundStm, AreSoundItems}
use Rattle.ten_core.specs.vl_design.specs.Width.{Names}
use Rattle.ten_core.specs.vl_design.proofs.Unread.{or_false}
use Rattle.sub_runs.specs.vl_paths.specs.Nets.{IsBase, IsPlain, ArePlain}
use Rattle.cell_states.specs.cell_expr.specs.Bodies.{IsSegment, AreSegmentItems, IsAny}
use Rattle.sub_runs.specs.Memories.{is_mem, is_mem_row, memory_at, stm_sets, items_set}

no-memory : (k : SigKind) → is_mem k ≡ false → IsMem k → ⊥
no-memory kind.Mem e h = cc
no-memory kind.Net e h = h
no-memory kind.Var e h = h
no-memory kind.Comb e h = h
no-memory kind.Loop e h = h
no-memory kind.Clock e h = h

none-there : (x : Option Row) → is_mem_row x ≡ false → IsOf IsMem x → ⊥
none-there None e h = h
none-there (Some r) e h = no-memory r.kind e h.0

module _ (names : Names) where
  abbrev pub is_memory : ℕ → Bool
  is_memory = memory_at names.rows

  base : (t : Target) → IsSoundBase names t → target_writes is_memory t ≡ false → IsBase (λ k. false) t
  base (Whole k) h w = refl
  base (WordAt m a) h w = absurd (none-there (slice_get names.rows m) w h.0)
  base (PickAt b i from width) h w = absurd h
  base (SliceAt b low width) h w = absurd h
  base (Several ts) h w = absurd h

  mutual
    pub plain : (t : Target) → IsSoundTarget names t → target_writes is_memory t ≡ false → IsPlain (λ k. false) t
    plain (Whole k) h w = refl
    plain (WordAt m a) h w = absurd (none-there (slice_get names.rows m) w h.0)
    plain (PickAt b i from width) h w = base b h.1 w
    plain (SliceAt b low width) h w = base b h.1 w
    plain (Several ts) h w = plains ts h.1 w

    plains : (ts : Targets) → AreSoundTargets names ts → targets_write is_memory ts ≡ false → ArePlain (λ k. false) ts
    plains NoTargets h w = tt
    plains (MoreTargets t ts) h w = let g = or_false (target_writes is_memory t) (targets_write is_memory ts) w in (plain t h.0 g.0, plains ts h.1 g.1)

  mutual
    pub segment : (a : Stm) → IsSoundStm names a → IsUnrolledStm a → can_act a ≡ false → stm_sets is_memory a ≡ false → IsSegment IsAny a
    segment Nop h u q w = tt
    segment (Then a b) h u q w =
        let g = or_false (can_act a) (can_act b) q in
        let v = or_false (stm_sets is_memory a) (stm_sets is_memory b) w in
        (segment a h.0 u.0 g.0 v.0, segment b h.1 u.1 g.1 v.1)
    segment (If t a b) h u q w =
        let g = or_false (asks t) (can_act a || can_act b) q in
        let f = or_false (can_act a) (can_act b) g.1 in
        let v = or_false (stm_sets is_memory a) (stm_sets is_memory b) w in
        (segment a h.1 u.0 f.0 v.0, segment b h.2 u.1 f.1 v.1)
    segment (Case e items) h u q w = items_segment items h.1 u q w
    segment (For v start test step a) h u q w = absurd u
    segment (Repeat n a) h u q w = absurd u
    segment (Set t e) h u q w = plain t h.0 w
    segment (Later t e) h u q w = tt
    segment (Sys task) h u q w = let z : ⊥ = cc in absurd z

    items_segment : (items : Items) → AreSoundItems names items → AreUnrolledItems items → items_can_act items ≡ false → items_set is_memory items ≡ false → AreSegmentItems IsAny items
    items_segment NoItems h u q w = tt
    items_segment (Labelled es a others) h u q w =
        let g = or_false (can_act a) (items_can_act others) q in
        let v = or_false (stm_sets is_memory a) (items_set is_memory others) w in
        (segment a h.1 u.0 g.0 v.0, items_segment others h.2 u.1 g.1 v.1)
    items_segment (Default a others) h u q w =
        let g = or_false (can_act a) (items_can_act others) q in
        let v = or_false (stm_sets is_memory a) (items_set is_memory others) w in
        (segment a h.0 u.0 g.0 v.0, items_segment others h.1 u.1 g.1 v.1)
