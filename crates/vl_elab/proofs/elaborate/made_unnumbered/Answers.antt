use Rattle.std.proofs.Common.{◌≡◌, ap, sym, ◌∙◌, subst, map, Some}
use Rattle.std.specs.Prelude.{slice_get, false}
use Rattle.elab_plain.specs.SeenItems.{seen_module}
use Rattle.vl_sound.specs.Sized.{parts_by}
use Rattle.vl_elab.specs.Growing.{Makes}
use Rattle.vl_elab.specs.Libraries.{sizes_by}
use Rattle.vl_elab.proofs.elaborate.made_unnumbered.Goals as goal

pub returns : goal.returns
returns c = λ m there.
    let same = ap (map seen_module) c.in_ok-library.ensures.modules in
    subst (λ q. Makes (parts_by (sizes_by q (map seen_module c.args.modules.now)) (map seen_module c.args.modules.now) m) c.made.result) c.in_ok-library.ensures.numbered
    (subst (λ z. Makes (parts_by (sizes_by c.in_ok-library.library.numbered z) z m) c.made.result) same
    (c.made.ensures m (subst (λ z. slice_get z c.args.number ≡ Some m) (sym same) there)))
