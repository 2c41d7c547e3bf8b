-- Which bits a statement may assign.
use Rattle.std.specs.Prelude.{◌≡◌, ℕ, ◌≤◌, pos, Bool, true, false, ◌||◌, List, length, slice_index}
use Rattle.vl_design.specs.vl_base.specs.Selects.{bit_of}
use Rattle.vl_design.specs.Value.{words_of}
use Rattle.vl_design.specs.Syntax.{Stm, Nop, Then, If, Case, For, Repeat, Set, Later, Sys, Items, NoItems, Labelled, Default}
use Rattle.vl_design.specs.Width.{Names}
use Rattle.vl_paths.specs.Bits.{Bit, bit_set}

module _ (names : Names) (b : Bit) where
  abbrev mutual
    -- some assignment in the statement may write the bit
    pub touched : Stm → Bool
    touched (Then x y) = touched x || touched y
    touched (If t x y) = touched x || touched y
    touched (Case e items) = touched_in items
    touched (Set t e) = bit_set names true b t
    -- the others don't stand in a combinational process whose loops are unrolled
    touched Nop = false
    touched (For k start test step a) = false
    touched (Repeat n a) = false
    touched (Later t e) = false
    touched (Sys task) = false

    pub touched_in : Items → Bool
    touched_in NoItems = false
    touched_in (Labelled es a others) = touched a || touched_in others
    touched_in (Default a others) = touched a || touched_in others

-- what is no memory has one word at most
abbrev pub Lone : (ℕ → Bool) → List (List ℕ) → Type 0
Lone is_memory v = (k : ℕ) → is_memory k ≡ false → length (words_of v k) ≤ 1

-- the bit is the same in both, in every word
abbrev pub SameBit : Bit → List (List ℕ) → List (List ℕ) → Type 0
SameBit b v w = (word : ℕ) → bit_of (slice_index (words_of v b.signal) word) (pos b.place) ≡ bit_of (slice_index (words_of w b.signal) word) (pos b.place)
