use Rattle.std.proofs.Common.{◌≡◌, take, [], ◌∷◌}
use Rattle.std.specs.List.{flat_map}
use Rattle.elab_plain.specs.vl_flat.specs.Items as x
use Rattle.elab_plain.specs.SeenItems.{seen_declared}
use Rattle.elab_kinds.specs.Said.{either, said, declaration_at}
use Rattle.elab_kinds.proofs.declared.add_declarations.Given as goal

abbrev pub invariant-loop-d : goal.invariant-loop-d
invariant-loop-d l = (type : x.DataType) → declaration_at l.declared ≡ (λ t. either (declaration_at l.initial.declared t) (said (flat_map (λ d. seen_declared type d ∷ []) (take l.d-index l.ds)) t))
