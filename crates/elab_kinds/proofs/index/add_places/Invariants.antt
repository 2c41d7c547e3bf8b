use Rattle.std.proofs.Common.{◌≡◌, ℕ, List, map, take}
use Rattle.elab_plain.specs.SeenItems.{seen_module}
use Rattle.elab_kinds.specs.Places.{place_named, place_in}
use Rattle.elab_kinds.proofs.index.add_places.Given as goal

abbrev pub invariant-loop-i : goal.invariant-loop-i
invariant-loop-i l = (t : List ℕ) → place_in l.places t ≡ place_named (map seen_module (take l.i l.modules)) t
