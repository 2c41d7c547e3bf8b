-- What numbers name.
use Rattle.std.proofs.Common.{◌≡◌, ◌<◌, ℕ, zero, suc, true, List, [], ◌∷◌, length, refl, arith}
use Rattle.std.specs.Prelude.{slice_get, slice_index, Option, Some, None, ⊤}
use Rattle.std.proofs.lemmas.Option.{slice_get_within}
use Rattle.vl_design.specs.declared.design.Form.{Form}
use Rattle.vl_design.specs.declared.design.SigKind.{SigKind}
use Rattle.vl_design.specs.Syntax.{Row}
use Rattle.vl_design.specs.Width.{Names, signal_form, row_form, joined}
use Rattle.vl_design.specs.Sound.{IsSignal, IsNamed, IsOf, HasValue, IsWidth}
use Rattle.vl_loops.specs.Unroll.{is_loop, is_loop_row}
use Rattle.vl_loops.specs.Rooms.{AreNumbers, values_of}
use Rattle.vl_design.specs.Value.{value_of}
use Rattle.vl_design.proofs.Shared.{of-there, of-named}

of-width : (P : SigKind → Type 0) (rows : List Row) (k : ℕ) → IsOf P (slice_get rows k) → IsWidth (signal_form rows k).width
of-width P rows k h = go (slice_get rows k) h
  where
    go : (r : Option Row) → IsOf P r → IsWidth (row_form r).width
    go None i = absurd i
    go (Some r) i = i.1

pub named-width : (names : Names) (k : ℕ) → IsNamed names k → IsWidth (signal_form names.rows k).width
named-width names k h = of-width (λ kind. ⊤) names.rows k h

pub named-there : (names : Names) (k : ℕ) → IsNamed names k → k < length names.rows
named-there names k h = of-there (λ kind. ⊤) names.rows k h

pub signal-named : (names : Names) (k : ℕ) → IsSignal names k → IsNamed names k
signal-named names k h = of-named HasValue (slice_get names.rows k) h

-- a loop variable is there
loop-within : (rows : List Row) (j : ℕ) → is_loop rows j ≡ true → j < length rows
loop-within rows j h = go (slice_get rows j) refl h
  where
    go : (r : Option Row) → slice_get rows j ≡ r → is_loop_row r ≡ true → j < length rows
    go None e h = let z : ⊥ = cc in absurd z
    go (Some r) e h = slice_get_within rows j r e

pub loop-there : (rows : List Row) (numbers : List ℕ) (j : ℕ) → AreNumbers rows numbers → is_loop rows j ≡ true → j < length numbers
loop-there rows numbers j n h = let i : j < length rows = loop-within rows j h in omega (arith, n.many)

-- the number of a signal, in the values of numbers
pub value-is : (numbers : List ℕ) (j : ℕ) → value_of (values_of numbers) j ≡ slice_index numbers j
value-is [] j = refl
value-is (n ∷ ns) zero = refl
value-is (n ∷ ns) (suc j) = value-is ns j

pub ruleset lookups = (named-width, named-there, signal-named)

pub joined-width : (a b : Form) → IsWidth a.width → IsWidth b.width → IsWidth (joined a b).width
joined-width a b p q = record { wide = omega arith; narrow = omega arith }

pub ruleset form_rules = (joined-width, named-width, signal-named, named-there)

pub ruleset kinds = (named-width, named-there)

pub ruleset numbers = (loop-there, value-is, named-width)
