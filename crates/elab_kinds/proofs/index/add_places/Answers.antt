use Rattle.std.proofs.Common.{sym, ◌∙◌, ap, map}
use Rattle.std.proofs.lemmas.List.{take_all}
use Rattle.std.specs.Str.{bytes_eq}
use Rattle.elab_plain.specs.SeenItems.{seen_module}
use Rattle.elab_kinds.specs.Places.{place_in, place_named, place_after}
use Rattle.elab_kinds.proofs.Placing.{place-more, length-map-take}
use Rattle.elab_kinds.proofs.index.add_places.Goals as goal

pub loop-i-init : goal.loop-i-init
loop-i-init c = λ t i. c.requires i t

pub loop-i-preserved : goal.loop-i-preserved
loop-i-preserved c =
    place-more (place_in c.loop-i.places) (place_in c.add_place.new.places) c.args.modules.now c.loop-i.i c.index-modules-i.result c.loop-i-test.true c.index-modules-i.is c.loop-i.invariant
    (λ t. c.in_ok-add_place.ensures t ∙ ap (λ n. place_after (place_in c.loop-i.places t) (bytes_eq t n) c.loop-i.i) (c.as_slice.ensures ∙ sym (ap (λ z. z.name.name) c.index-modules-i.is)))
    (length-map-take c.args.modules.now c.loop-i.i c.loop-i-test.true)

pub returns : goal.returns
returns c = λ i t. (c.loop-i.invariant t ∙ ap (λ z. place_named (map seen_module z) t) (take_all c.loop-i.i c.args.modules.now c.loop-i-test.false)) i
