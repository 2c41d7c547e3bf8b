-- The directions of selects, one after another.
use Rattle.std.proofs.Common.{◌≡◌, refl, ℕ, List, [], ◌++◌}
use Rattle.std.specs.Prelude.{Option, Some, None, ℤ, flat_map}
use Rattle.vl_base.specs.declared.place.Place.{Place}
use Rattle.vl_tree.specs.declared.tree.SelectMark.{SelectMark}
use Rattle.vl_design.specs.declared.stop.Stop.{Stop}
use Rattle.elab_plain.specs.vl_flat.specs.Surface as x
use Rattle.elab_plain.specs.vl_flat.specs.Scopes.{Scope}
use Rattle.elab_plain.specs.vl_flat.specs.Expressions.{exp, constant, taken, bits_of, part, steps}
use Rattle.elab_plain.specs.vl_flat.specs.ExpressionFaults.{direction}

-- the directions of selects on a memory or a value whose bits are numbered so
abbrev pub turns : Scope → Place → Option ℕ → ℤ × ℤ → x.Selects → List Stop
turns S at k r ss = flat_map (direction S at) (steps S k r ss)

pub no-steps : (S : Scope) (at : Place) (k : Option ℕ) (r : ℤ × ℤ) → turns S at k r x.NoSelects ≡ []
no-steps S at None r = refl
no-steps S at (Some k) r = refl

pub part-turns : (S : Scope) (at : Place) (k : Option ℕ) (r : ℤ × ℤ) (q : Place) (m : SelectMark) (a b : x.Ex) (others : x.Selects)
    → turns S at k r (x.Range q m a b others) ≡ direction S at (part r m (exp S a) (constant S a) (constant S b) (taken S m a b)) ++ turns S at None (bits_of (taken S m a b)) others
part-turns S at None r q m a b others = refl
part-turns S at (Some k) r q m a b others = refl
