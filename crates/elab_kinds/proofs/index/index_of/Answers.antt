use Rattle.std.proofs.Common.{map}
use Rattle.elab_plain.specs.SeenItems.{seen_module}
use Rattle.elab_kinds.proofs.Placing.{place-empty, all-placed}
use Rattle.elab_kinds.proofs.index.index_of.Goals as goal

pub add_places-requires : goal.add_places-requires
add_places-requires c = λ i t. place-empty c.new-places.result t c.new-places.ensures.empty i

pub returns : goal.returns
returns c = all-placed c.add_places.result c.and.result (record { places = c.add_places.new.places }) (map seen_module c.args.modules.now) c.and.ensures c.add_places.ensures
