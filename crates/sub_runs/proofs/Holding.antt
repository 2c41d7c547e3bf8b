-- Where nets settle they hold over the committed values, and they hold on where no computed signal is written.
use Rattle.std.proofs.Common.{◌≡◌, ℕ, Bool, true, false, List, [], ◌∷◌, refl, sym, ap, ◌∙◌}
use Rattle.std.specs.Prelude.{slice_index}
use Rattle.vl_sites.specs.vl_base.specs.declared.files.File.{File}
use Rattle.vl_sites.specs.vl_design.specs.Syntax.{Flat}
use Rattle.vl_sites.specs.vl_design.specs.Value.{words_of, value_of}
use Rattle.vl_sites.specs.vl_design.specs.State.{State}
use Rattle.vl_sites.specs.vl_design.specs.Queue.{with_updates}
use Rattle.vl_sites.specs.vl_design.specs.Laws.{IsFine}
use Rattle.vl_sites.specs.vl_design.proofs.Kept.{OfUpdates, updates_keep}
use Rattle.vl_runs.specs.Nets.{pass}
use Rattle.vl_runs.proofs.Settle.{one_pass_solves, one_pass_keeps, pass_fine}
use Rattle.vl_runs.specs.NetsOfSettle.{bit_at, run, AreSolved, SameOthers}
use Rattle.vl_runs.specs.Checked.{IsChecked, IsOrder}
use Rattle.vl_runs.proofs.Steady.{IsAccepted, Laws}
use Rattle.vl_runs.proofs.Checks.{accepted}
use Rattle.vl_runs.proofs.Instance.{lawful, placed_order}
use Rattle.vl_runs.proofs.Ticks.{same_run}
use Rattle.vl_runs.proofs.Solutions.{pass_is}
use Rattle.sub_nodes.specs.Cycles.{Stage, committed_in, settled}
use Rattle.sub_runs.specs.Nets.{computed_at, cleared, nets_of, HoldNets, NetsAreZero, RestIsZero}
use Rattle.sub_runs.proofs.Cleared.{of_words, cleared_other, cleared_zero, cleared_fine}

-- computed signals have the same words
abbrev pub SameNets : Flat → List (List ℕ) → List (List ℕ) → Type 0
SameNets d v w = (k : ℕ) → computed_at d.rows k ≡ true → words_of v k ≡ words_of w k

pub zero_on : (d : Flat) (i j : Stage) → SameNets d i.state.values j.state.values → NetsAreZero d i → NetsAreZero d j
zero_on d i j w h = record { zero = λ k c. ap (λ ws. slice_index ws 0) (sym (w k c)) ∙ h.zero k c }

pub rest_on : (d : Flat) (v w : List (List ℕ)) → SameNets d v w → RestIsZero d v → RestIsZero d w
rest_on d v w same h b c n = sym (of_words v w b (same b.0.signal c)) ∙ h b c n

-- updates of other signals
pub updates_same : (d : Flat) (s : State) → OfUpdates (computed_at d.rows) s.later → SameNets d s.values (with_updates d.rows s).values
updates_same d s h k c = updates_keep (computed_at d.rows) k c d.rows s.later h s.values

module _ (d : Flat) (checked : IsChecked d) (files : List File) where
  acc : IsAccepted d
  acc = accepted d checked

  pass_same : (s t : State) → s.finished ≡ false → t.finished ≡ false → (ps : List ℕ) (v : List (List ℕ)) → pass (run d files s) ps v ≡ pass (run d files t) ps v
  pass_same s t f g [] v = refl
  pass_same s t f g (p ∷ ps) v = pass_same s t f g ps (run d files s p v) ∙ ap (pass (run d files t) ps) (same_run d files acc p s t f g v)

  pub hold_on : (order : List ℕ) (i j : Stage) → i.state.finished ≡ false → j.state.finished ≡ false → i.committed ≡ j.committed → SameNets d i.state.values j.state.values
      → HoldNets d order files i → HoldNets d order files j
  hold_on order i j f g e w h = record {
    over = λ k c. ap (λ ws. slice_index ws 0) (sym (w k c)) ∙ (h.over k c ∙ (ap (λ v. value_of v k) (pass_same i.state j.state f g order (cleared d.rows i.committed)) ∙ ap (λ v. value_of (pass (run d files j.state) order (cleared d.rows v)) k) e));
  }

  module _ (order : List ℕ) (o : IsOrder d order) (s : State) (f : s.finished ≡ false) (fine : IsFine d.rows s.values) where
    laws : Laws d files s
    laws = lawful d files acc s f

    pub nets_fine : IsFine d.rows (nets_of d files order s)
    nets_fine = pass_fine laws order s.values fine

    -- one pass keeps what no process drives
    pub nets_rest : RestIsZero d s.values → RestIsZero d (nets_of d files order s)
    nets_rest h b c n = sym (one_pass_keeps laws order (placed_order d o) s.values fine b n) ∙ h b c n

    solved : AreSolved d files (settled d files (nets_of d files order) s)
    solved i l = one_pass_solves laws order (placed_order d o) s.values fine i l

    others : RestIsZero d s.values → SameOthers d (nets_of d files order s) (cleared d.rows (nets_of d files order s))
    others h b n = at (computed_at d.rows b.0.signal) refl
      where
        at : (c : Bool) → computed_at d.rows b.0.signal ≡ c → bit_at (nets_of d files order s) b ≡ bit_at (cleared d.rows (nets_of d files order s)) b
        at true c = nets_rest h b c n ∙ sym (cleared_zero d.rows (nets_of d files order s) b c)
        at false c = sym (of_words (cleared d.rows (nets_of d files order s)) (nets_of d files order s) b (cleared_other d.rows (nets_of d files order s) b.0.signal c))

    pub settled_hold : RestIsZero d s.values → (to : ℕ) → HoldNets d order files (committed_in to (settled d files (nets_of d files order) s))
    settled_hold h to =
        let v = nets_of d files order s in
        let e : pass (run d files (settled d files (nets_of d files order) s)) order (cleared d.rows v) ≡ v =
        pass_is d files acc order o (settled d files (nets_of d files order) s) (cleared d.rows v) f nets_fine (cleared_fine d.rows v nets_fine) solved (others h) in
        record { over = λ k c. ap (λ w. value_of w k) (sym e) }
