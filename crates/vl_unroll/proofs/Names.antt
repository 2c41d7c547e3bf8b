-- Loop variables have names, and numbers.
use Rattle.std.proofs.Common.{◌≡◌, ◌<◌, ℕ, true, List, [], ◌∷◌, length}
use Rattle.std.specs.Prelude.{slice_get, slice_set, Option, Some, None, ⊤, All}
use Rattle.std.specs.List.{AllByRecursion}
use Rattle.std.proofs.lemmas.List.Elements.{All-from_recursion, recursion_from_All}
use Rattle.vl_design.specs.Syntax.{Row}
use Rattle.vl_design.specs.Width.{row_form}
use Rattle.vl_design.specs.Plain.{plain_scope}
use Rattle.vl_design.specs.Sound.{IsNamed, IsOf, IsWidth}
use Rattle.vl_loops.specs.Unroll.{is_loop, is_loop_row}
use Rattle.vl_loops.specs.Rooms.{AreNumbers}
use Rattle.vl_loops.proofs.Names.{loop-there}
use Rattle.vl_unroll.specs.Heads.{AreReady}

pub loop-named : (rows : List Row) (numbers : List ℕ) (j : ℕ) → AreReady rows numbers → is_loop rows j ≡ true → IsNamed (plain_scope rows).names j
loop-named rows numbers j r h = go (slice_get rows j) h (r.widths j h)
  where
    go : (o : Option Row) → is_loop_row o ≡ true → IsWidth (row_form o).width → IsOf (λ kind. ⊤) o
    go None h w = let z : ⊥ = cc in absurd z
    go (Some r) h w = (tt, w)

pub loop-ready : (rows : List Row) (numbers : List ℕ) (j : ℕ) → AreReady rows numbers → is_loop rows j ≡ true → j < length numbers
loop-ready rows numbers j r h = loop-there rows numbers j r.fit h

pub ruleset names = (loop-named, loop-ready)

-- the numbers of the turns
pub turns-ready : (rows : List Row) (ns : List ℕ) (j : ℕ) (xs : List ℕ) → AreReady rows ns → All (λ v. AreNumbers rows (slice_set ns j v)) xs → All (λ v. AreReady rows (slice_set ns j v)) xs
turns-ready rows ns j xs r h = All-from_recursion (λ v. AreReady rows (slice_set ns j v)) xs (go xs (recursion_from_All (λ v. AreNumbers rows (slice_set ns j v)) xs h))
  where
    go : (ys : List ℕ) → AllByRecursion (λ v. AreNumbers rows (slice_set ns j v)) ys → AllByRecursion (λ v. AreReady rows (slice_set ns j v)) ys
    go [] i = i
    go (y ∷ ys) i = (record { fit = i.0; widths = r.widths }, go ys i.1)
