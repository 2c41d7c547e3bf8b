use Rattle.std.proofs.Common.{sym, ◌∙◌}
use Rattle.elab_kinds.specs.Places.{place_in}
use Rattle.elab_kinds.proofs.Placing.{place-kept, place-insert, is-none}
use Rattle.elab_kinds.proofs.index.add_place.Goals as goal

pub returns-then-contains_key : goal.returns-then-contains_key
returns-then-contains_key c = λ t. place-kept (place_in c.args.places.now) c.args.name.now c.args.place (sym c.contains_key.ensures ∙ c.if-contains_key.true) t

pub returns : goal.returns
returns c = λ t.
    place-insert c.args.places.now c.insert.new.self c.args.name.now c.args.place c.in_ok-insert.ensures.updates
    (is-none (place_in c.args.places.now c.args.name.now) (sym c.contains_key.ensures ∙ c.if-contains_key.false)) t
