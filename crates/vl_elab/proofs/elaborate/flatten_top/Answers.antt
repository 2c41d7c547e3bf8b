use Rattle.std.proofs.Common.{◌≡◌, ◌<◌, length, map, Some, ap, sym, ◌∙◌, subst}
use Rattle.std.specs.Prelude.{slice_get, All}
use Rattle.elab_plain.specs.vl_flat.specs.Declarations.{module', modules}
use Rattle.elab_plain.specs.vl_flat.specs.Outcome.{flattened_from}
use Rattle.elab_plain.specs.SeenItems.{seen_module}
use Rattle.vl_sound.specs.Apart.{AreApart}
use Rattle.vl_sound.specs.Meeting.{Meets}
use Rattle.vl_elab.proofs.Tops.{same-length}
use Rattle.vl_elab.proofs.elaborate.flatten_top.Goals as goal

pub flatten_from-requires : goal.flatten_from-requires
flatten_from-requires c =
    let same = ap (map seen_module) c.as_slice.ensures.value ∙ c.in_ok-modules.ensures in
    subst (λ n. c.args.number < n) (sym (sym (same-length seen_module c.as_slice.result.now) ∙ (ap length same ∙ same-length module' c.args.source.now.modules))) c.requires

pub returns : goal.returns
returns c = λ m there apart.
    let same = ap (map seen_module) c.as_slice.ensures.value ∙ c.in_ok-modules.ensures in
    subst (λ z. Meets c.flatten_from.result (flattened_from z m)) same
    (c.flatten_from.ensures m (subst (λ z. slice_get z c.args.number ≡ Some m) (sym same) there) (subst (All AreApart) (sym same) apart))
