-- Which signals processes may not assign, by their kinds.
use Rattle.std.proofs.Common.{◌≡◌, ℕ, Bool, true, false, true≢false, if◌then◌else◌, ◌⊎◌, inl, inr, List, Some, refl, sym, ap}
use Rattle.std.specs.Prelude.{not, is_some, slice_get}
use Rattle.std.specs.List.{list_any}
use Rattle.std.proofs.lemmas.Bool.{and_left, and_right, not_from_true}
use Rattle.ten_plan.specs.vl_design.specs.declared.design.Signal.{Signal}
use Rattle.ten_plan.specs.vl_design.specs.declared.design.SigKind.{SigKind}
use Rattle.ten_plan.specs.vl_design.specs.declared.design.SigKind.TheVariants.{Net, Var, Comb, Loop, Mem, Clock}
use Rattle.ten_plan.specs.vl_design.specs.Sound.{IsMem}
use Rattle.ten_plan.specs.vl_design.specs.Placed as p
use Rattle.vl_accept.specs.vl_check.specs.Bodies.{kind_is, signal_is}
use Rattle.vl_sound.specs.vl_flat.specs.Items as x
use Rattle.vl_sound.specs.vl_flat.specs.Connections.{is_net_kind}
use Rattle.vl_sound.specs.vl_flat.specs.Kinds.{declared_as, is_loop, item_writes, kind_of}
use Rattle.vl_accept.specs.vl_check.specs.Written.{is_kept, is_combined, is_uncomputed, is_computed, is_orphan}

-- ---- by the kind of a number's signal

pub uncomputed-at : (signals : List Signal) (j : ℕ) (s : Signal) → slice_get signals j ≡ Some s → is_kept s.kind ≡ false → is_uncomputed signals j ≡ false
uncomputed-at signals j s h v = rw h v

pub combined-at : (signals : List Signal) (j : ℕ) (s : Signal) → slice_get signals j ≡ Some s → kind_is is_combined signals j ≡ is_combined s.kind
combined-at signals j s h = ap (signal_is is_combined) h

pub orphan-kind : (d : p.Design) (j : ℕ) → kind_is is_combined d.signals j ≡ false → is_orphan d j ≡ false
orphan-kind d j h = and_left (kind_is is_combined d.signals j) (not (is_computed d.processes j)) h

pub orphan-computed : (d : p.Design) (j : ℕ) → is_computed d.processes j ≡ true → is_orphan d j ≡ false
orphan-computed d j h = and_right (kind_is is_combined d.signals j) (not (is_computed d.processes j)) (not_from_true (is_computed d.processes j) h)

-- ---- kinds of names

-- no variable, or one that a combinational process writes
pub kind-computed : (m : x.Module) (clock wired : Bool) (t : List ℕ) → (declared_as (λ y. y.variable) m t ≡ false) ⊎ (list_any (item_writes t) m.items ≡ true)
    → is_kept (kind_of m clock wired t) ≡ false
kind-computed m clock wired t h = by clock (declared_as (λ y. is_some y.words) m t) (declared_as (λ y. y.variable) m t) (is_loop m wired t) (list_any (item_writes t) m.items) h
  where
    by : (a e u l w : Bool) → (u ≡ false) ⊎ (w ≡ true) → is_kept (if a then Clock else if e then Mem else if u then (if l then Loop else if w then Comb else Var) else Net) ≡ false
    by true e u l w h = refl
    by false true u l w h = refl
    by false false false l w h = refl
    by false false true true w h = refl
    by false false true false true h = refl
    by false false true false false (inl h) = absurd (true≢false h)
    by false false true false false (inr h) = absurd (true≢false (sym h))

-- what is said to be computed is written by a combinational process
pub kind-combined : (m : x.Module) (clock wired : Bool) (t : List ℕ) → is_combined (kind_of m clock wired t) ≡ true → list_any (item_writes t) m.items ≡ true
kind-combined m clock wired t h = by clock (declared_as (λ y. is_some y.words) m t) (declared_as (λ y. y.variable) m t) (is_loop m wired t) (list_any (item_writes t) m.items) h
  where
    by : (a e u l w : Bool) → is_combined (if a then Clock else if e then Mem else if u then (if l then Loop else if w then Comb else Var) else Net) ≡ true → w ≡ true
    by a e u l true h = refl
    by true e u l false h = absurd (true≢false (sym h))
    by false true u l false h = absurd (true≢false (sym h))
    by false false false l false h = absurd (true≢false (sym h))
    by false false true true false h = absurd (true≢false (sym h))
    by false false true false false h = absurd (true≢false (sym h))

pub memory-kept : (kind : SigKind) → IsMem kind → is_kept kind ≡ false
memory-kept Mem h = refl
memory-kept Var h = absurd h
memory-kept kind h = refl

pub net-kept : (kind : SigKind) → is_net_kind kind ≡ true → is_kept kind ≡ false
net-kept Var h = absurd (true≢false (sym h))
net-kept kind h = refl

pub net-combined : (kind : SigKind) → is_net_kind kind ≡ true → is_combined kind ≡ false
net-combined Comb h = absurd (true≢false (sym h))
net-combined kind h = refl
