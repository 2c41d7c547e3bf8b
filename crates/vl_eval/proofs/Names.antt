-- What numbers name.
use Rattle.std.proofs.Common.{◌≡◌, ◌<◌, ℕ, List, length, refl}
use Rattle.std.specs.Prelude.{slice_get, Option, Some, None, ⊤}
use Rattle.std.proofs.lemmas.Option.{slice_get_within}
use Rattle.vl_design.specs.declared.design.SigKind.{SigKind}
use Rattle.vl_design.specs.Syntax.{Row}
use Rattle.vl_design.specs.Width.{Names, signal_form, row_form}
use Rattle.vl_design.specs.Sound.{IsSignal, IsNamed, IsMemory, IsOf, HasValue, IsMem, IsWidth}
use Rattle.vl_design.proofs.Shared.{of-there, of-named}

of-width : (P : SigKind → Type 0) (rows : List Row) (k : ℕ) → IsOf P (slice_get rows k) → IsWidth (signal_form rows k).width
of-width P rows k h = go (slice_get rows k) h
  where
    go : (r : Option Row) → IsOf P r → IsWidth (row_form r).width
    go None i = absurd i
    go (Some r) i = i.1

pub named-width : (names : Names) (k : ℕ) → IsNamed names k → IsWidth (signal_form names.rows k).width
named-width names k h = of-width (λ kind. ⊤) names.rows k h

pub named-there : (names : Names) (k : ℕ) → IsNamed names k → k < length names.rows
named-there names k h = of-there (λ kind. ⊤) names.rows k h

pub signal-named : (names : Names) (k : ℕ) → IsSignal names k → IsNamed names k
signal-named names k h = of-named HasValue (slice_get names.rows k) h

pub memory-named : (names : Names) (k : ℕ) → IsMemory names k → IsNamed names k
memory-named names k h = of-named IsMem (slice_get names.rows k) h

pub ruleset lookups = (named-width, named-there, signal-named, memory-named)

pub ruleset results = (named-width, named-there)
