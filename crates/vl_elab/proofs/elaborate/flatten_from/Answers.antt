use Rattle.std.proofs.Common.{◌≡◌, ap, sym, subst, map, Some}
use Rattle.std.specs.Prelude.{slice_get, All}
use Rattle.elab_plain.specs.vl_flat.specs.Outcome as o
use Rattle.elab_plain.specs.SeenItems.{seen_module}
use Rattle.vl_sound.specs.Apart.{AreApart}
use Rattle.vl_sound.specs.Meeting.{Meets}
use Rattle.vl_elab.proofs.elaborate.flatten_from.Goals as goal

pub returns : goal.returns
returns c = λ m there apart.
    let same = ap (map seen_module) c.in_ok-library.ensures.modules in
    subst (λ z. Meets c.flatten_with.result (o.flattened_from z m)) same
    (c.flatten_with.ensures m (subst (λ z. slice_get z c.args.number ≡ Some m) (sym same) there) (subst (All AreApart) (sym same) apart))
