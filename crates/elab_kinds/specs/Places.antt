-- Where the first module of a name stands.
use Rattle.std.specs.Prelude.{◌≡◌, ◌<◌, ℕ, suc, Bool, List, [], ◌∷◌, length, slice_get, Option, Some, None, option_map, if◌then◌else◌}
use Rattle.std.specs.Str.{bytes_eq}
use Rattle.std.specs.Borrow.{Bor}
use Rattle.indexmap.specs.IndexMap.{IndexMap, get_by}
use Rattle.elab_plain.specs.vl_flat.specs.Items.{Module}
use Rattle.elab_plain.specs.vl_flat.specs.Environments.{module_named}
use Rattle.elab_kinds.specs.declared.index.Index.{Index}

-- the place of the first module of this name
abbrev pub place_named : List Module → List ℕ → Option ℕ
place_named [] t = None
place_named (m ∷ ms) t = if bytes_eq t m.name.name then Some 0 else option_map (λ p. suc p) (place_named ms t)

-- it is the place of the module that is named so
abbrev pub IsPlaceOf : List Module → List ℕ → Option ℕ → Type 0
IsPlaceOf ms t None = module_named ms t ≡ None
IsPlaceOf ms t (Some p) = (p < length ms) × (module_named ms t ≡ slice_get ms p)

-- the place that a table has for a name
abbrev pub place_in : {S : Type 0} → IndexMap (Bor (List ℕ)) ℕ S → List ℕ → Option ℕ
place_in m t = get_by (λ k. bytes_eq t k.now) m

-- the place that is there, or else this one, where the name is this one
abbrev pub place_after : Option ℕ → Bool → ℕ → Option ℕ
place_after (Some p) same place = Some p
place_after None same place = if same then Some place else None

abbrev pub place_of : Index → List ℕ → Option ℕ
place_of s t = place_in s.places t
