-- Where signals are numbered, parts are those of the flat design; where they aren't, the first fault is that of the flat design.
use Rattle.std.proofs.Common.{◌≡◌, ℕ, Bool, true, false, List, refl, sym, ap, ◌∙◌}
use Rattle.std.specs.Prelude.{Result, Ok, Err, All}
use Rattle.vl_design.specs.declared.stop.Stop.{Stop}
use Rattle.vl_design.specs.declared.stop.Stop.TheVariants.{Construct, Limit, Memory}
use Rattle.elab_plain.specs.vl_flat.specs.Items as x
use Rattle.elab_plain.specs.vl_flat.specs.Flat.{parts_from}
use Rattle.elab_plain.specs.vl_flat.specs.Outcome as o
use Rattle.vl_sound.specs.Apart.{AreApart}
use Rattle.vl_sound.specs.Sized.{parts_by}
use Rattle.vl_sound.proofs.PartsOfAlike.{true_sizes, parts-true, first-fault-same}
use Rattle.vl_elab.specs.declared.making.Making.{Making}
use Rattle.vl_elab.specs.Growing.{Makes}
use Rattle.vl_elab.specs.Libraries.{sizes_by}

pub numbered-parts : (numbered : Bool) (ms : List x.Module) (m : x.Module) → numbered ≡ true → parts_by (sizes_by numbered ms) ms m ≡ parts_from ms m
numbered-parts numbered ms m h = ap (λ q. parts_by (sizes_by q ms) ms m) h ∙ parts-true ms m

judged-unnumbered : (ms : List x.Module) (m : x.Module) → All AreApart ms → AreApart m → o.judged o.nothing_yet (parts_from ms m) ≡ o.judged o.nothing_yet (parts_by (sizes_by false ms) ms m)
judged-unnumbered ms m apart top = ap (o.judged o.nothing_yet) (sym (parts-true ms m)) ∙ first-fault-same (true_sizes ms) (sizes_by false ms) ms m apart top o.nothing_yet

pub unnumbered-fault : (s : Stop) (ms : List x.Module) (m : x.Module) → All AreApart ms → AreApart m → Makes (parts_by (sizes_by false ms) ms m) (Err s) → Makes (parts_from ms m) (Err s)
unnumbered-fault (Construct at n) ms m apart top h = judged-unnumbered ms m apart top ∙ h
unnumbered-fault (Limit at n) ms m apart top h = judged-unnumbered ms m apart top ∙ h
unnumbered-fault Memory ms m apart top h = tt
