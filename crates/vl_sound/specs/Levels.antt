-- Flat designs whose instances may stand so many levels deep (own), and modules whose instances have names of a byte or more
-- (IEEE 1364-2005, clause 3.7).
use Rattle.std.specs.Prelude.{ℕ, ◌<◌, List, length, ⊤, All}
use Rattle.vl_flat.specs.Items as x
use Rattle.vl_flat.specs.Environments.{module_counts, size, environment}
use Rattle.vl_flat.specs.Flat.{Part, instance, body, top_given}

-- the parts of the flat design with so many levels of instances
abbrev pub parts_at : ℕ → List x.Module → x.Module → List Part
parts_at n ms m =
    let g = top_given m in
    body (instance n ms) (size n ms) ms (module_counts (size n ms) m).signals (environment (size n ms) g m) g m

abbrev pub IsSpelt : x.Item → Type 0
IsSpelt (x.Instantiates us) = All (λ u. 0 < length u.name.name) us.units
IsSpelt item = ⊤

abbrev pub AreSpelt : x.Module → Type 0
AreSpelt m = All IsSpelt m.items
