-- Which functions are compiled to cells (IEEE 1364-2005, clause 10.4; own).
use Rattle.std.specs.Prelude.{◌≡◌, ℕ, ◌≤◌, nat_lt, Bool, false, if◌then◌else◌, List, [], length, All, ⊤}
use Rattle.vl_design.specs.declared.design.Stmt.{Stmt}
use Rattle.vl_design.specs.Syntax.{Exp, Target, Stm, Nop, Then, If, Case, For, Repeat, Set, Later, Sys, Items, NoItems, Labelled, Default, Fun}
use Rattle.vl_design.specs.Sound.{IsSoundStm}
use Rattle.vl_design.specs.Trees.{stm_of}
use Rattle.vl_design.specs.Width.{Names}
use Rattle.vl_design.specs.Reads.{stm_writes}
use Rattle.vl_paths.specs.Nets.{IsNetStm, IsPlain}
use Rattle.cell_emit.specs.Pendings.{PendingSlots}

-- only blocking assignments to whole signals or bits of them, tests and cases; of what kind a signal is its row says
abbrev pub IsNet : Stm → Type 0
IsNet a = IsNetStm (λ k. false) a

-- a function of such a body that writes none of the design's signals; its inputs and its result are its own
pub record IsCellFun (names : Names) (f : Fun) : Type 0 where
  pub net : IsNet f.body
  pub apart : stm_writes (λ k. nat_lt k (length names.signals)) f.body ≡ false
  pub inputs : All (λ k. length names.signals ≤ k) f.inputs
  pub result : length names.signals ≤ f.result

-- a statement of an instance of some path that is sound and only such
pub record IsCellStm (names : Names) (a : Stmt) : Type 0 where
  pub path : List ℕ
  pub sound : IsSoundStm names (stm_of path a)
  pub net : IsNet (stm_of path a)

-- ---- with nonblocking assignments

module _ (IsLate : Target → Type 0) where
  abbrev mutual
    -- blocking assignments to whole signals or bits of them, tests and cases, and nonblocking assignments to targets that may be such
    pub IsSegment : Stm → Type 0
    IsSegment Nop = ⊤
    IsSegment (Then a b) = IsSegment a × IsSegment b
    IsSegment (If t a b) = IsSegment a × IsSegment b
    IsSegment (Case e items) = AreSegmentItems items
    IsSegment (Set t e) = IsPlain (λ k. false) t
    IsSegment (Later t e) = IsLate t
    IsSegment (For k start test step a) = ⊥
    IsSegment (Repeat n a) = ⊥
    IsSegment (Sys task) = ⊥

    pub AreSegmentItems : Items → Type 0
    AreSegmentItems NoItems = ⊤
    AreSegmentItems (Labelled es a others) = IsSegment a × AreSegmentItems others
    AreSegmentItems (Default a others) = IsSegment a × AreSegmentItems others

-- any target, also a word of a memory: a sound one has selects right on a signal or a word
abbrev pub IsAny : Target → Type 0
IsAny t = ⊤

-- of so many entries of what is pending there is one for each signal
abbrev pub CanWait : Names → ℕ → Target → Type 0
CanWait names n t = n ≡ length names.rows

-- there are no entries
abbrev pub nothing_waits : PendingSlots
nothing_waits = record { update = []; mask = []; sites = [] }

-- a statement of an instance of some path that is sound and only such; blocking assignments are to whole signals or bits of them, and
-- nonblocking ones to words of memories too
pub record IsSegmentStm (names : Names) (a : Stmt) : Type 0 where
  pub path : List ℕ
  pub sound : IsSoundStm names (stm_of path a)
  pub segment : IsSegment IsAny (stm_of path a)

-- a nonblocking assignment, or a blocking one
abbrev pub assignment : Bool → Target → Exp → Stm
assignment later t e = if later then Later t e else Set t e
