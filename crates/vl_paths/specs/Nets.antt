-- Statements of combinational processes whose loops are unrolled, and states that are the same at some bits.
use Rattle.std.specs.Prelude.{◌≡◌, ℕ, ◌≤◌, Bool, false, List, length, ⊤}
use Rattle.vl_design.specs.Syntax.{Target, Whole, WordAt, PickAt, SliceAt, Several, Targets, NoTargets, MoreTargets, Stm, Nop, Then, If, Case, For, Repeat, Set, Later, Sys, Items, NoItems, Labelled, Default, Row}
use Rattle.vl_design.specs.Value.{words_of}
use Rattle.vl_design.specs.State.{State}
use Rattle.vl_paths.specs.Bits.{Bit}
use Rattle.vl_paths.specs.Alike.{SameAt}

module _ (is_memory : ℕ → Bool) where
  -- a whole signal that is no memory
  abbrev pub IsBase : Target → Type 0
  IsBase (Whole k) = is_memory k ≡ false
  IsBase (WordAt m a) = ⊥
  IsBase (PickAt base i from w) = ⊥
  IsBase (SliceAt base low w) = ⊥
  IsBase (Several ts) = ⊥

  abbrev mutual
    -- the target is of signals, and not of words of memories; selects are right on a signal
    pub IsPlain : Target → Type 0
    IsPlain (Whole k) = is_memory k ≡ false
    IsPlain (WordAt m a) = ⊥
    IsPlain (PickAt base i from w) = IsBase base
    IsPlain (SliceAt base low w) = IsBase base
    IsPlain (Several ts) = ArePlain ts

    pub ArePlain : Targets → Type 0
    ArePlain NoTargets = ⊤
    ArePlain (MoreTargets t ts) = IsPlain t × ArePlain ts

  abbrev mutual
    -- only blocking assignments to signals, tests and cases
    pub IsNetStm : Stm → Type 0
    IsNetStm Nop = ⊤
    IsNetStm (Then a b) = IsNetStm a × IsNetStm b
    IsNetStm (If t a b) = IsNetStm a × IsNetStm b
    IsNetStm (Case e items) = AreNetItems items
    IsNetStm (Set t e) = IsPlain t
    IsNetStm (For k start test step a) = ⊥
    IsNetStm (Repeat n a) = ⊥
    IsNetStm (Later t e) = ⊥
    IsNetStm (Sys task) = ⊥

    pub AreNetItems : Items → Type 0
    AreNetItems NoItems = ⊤
    AreNetItems (Labelled es a others) = IsNetStm a × AreNetItems others
    AreNetItems (Default a others) = IsNetStm a × AreNetItems others

  -- as many words in both, one at most where it's no memory, and the same bits where the test passes
  pub record Paired (rows : List Row) (p : Bit → Bool) (v w : List (List ℕ)) : Type 0 where
    pub same : SameAt rows p v w
    pub many : length v ≡ length w
    pub words : (k : ℕ) → length (words_of v k) ≡ length (words_of w k)
    pub lone : (k : ℕ) → is_memory k ≡ false → length (words_of v k) ≤ 1

  pub record Twins (rows : List Row) (p : Bit → Bool) (s t : State) : Type 0 where
    pub values : Paired rows p s.values t.values
    pub time : s.ticks ≡ t.ticks
    pub answer : s.answer ≡ t.answer
    pub alive : s.finished ≡ false
    pub too : t.finished ≡ false
