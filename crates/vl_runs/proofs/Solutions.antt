-- Where all are solved, values are those of one pass; and as long as driven bits are kept, they are such.
use Rattle.std.proofs.Common.{◌≡◌, ℕ, false, List, sym, ap, ◌∙◌}
use Rattle.vl_paths.specs.vl_base.specs.declared.files.File.{File}
use Rattle.vl_paths.specs.vl_design.specs.Syntax.{Flat}
use Rattle.vl_paths.specs.vl_design.specs.State.{State}
use Rattle.vl_paths.specs.vl_design.specs.Laws.{IsFine}
use Rattle.vl_runs.specs.Nets.{pass}
use Rattle.vl_runs.proofs.Settle.{one_pass}
use Rattle.vl_runs.specs.NetsOfSettle.{bit_at, run, AreSolved, SameOthers, SameDriven}
use Rattle.vl_runs.specs.Checked.{IsOrder}
use Rattle.vl_runs.proofs.Steady.{IsAccepted, Laws}
use Rattle.vl_runs.proofs.Instance.{lawful, placed_order}

module _ (d : Flat) (files : List File) (acc : IsAccepted d) (order : List ℕ) (o : IsOrder d order) where
  pub pass_is : (s : State) (w : List (List ℕ)) → s.finished ≡ false → IsFine d.rows s.values → IsFine d.rows w → AreSolved d files s → SameOthers d s.values w → pass (run d files s) order w ≡ s.values
  pass_is s w f fs fw solved same = let laws : Laws d files s = lawful d files acc s f in one_pass laws order (placed_order d o) s.values w fs fw solved same

  pub kept_are : (s : State) (v w : List (List ℕ)) → s.finished ≡ false → IsFine d.rows s.values → IsFine d.rows w → AreSolved d files s → SameDriven d s.values v → SameOthers d s.values w → SameDriven d v (pass (run d files s) order w)
  kept_are s v w f fs fw solved kept same i b g = sym (kept i b g) ∙ ap (λ x. bit_at x b) (sym (pass_is s w f fs fw solved same))
