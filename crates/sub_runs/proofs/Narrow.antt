-- Where computed signals have one word each, what no process drives is 0 in nets that hold.
use Rattle.std.proofs.Common.{◌≡◌, ℕ, zero, suc, ◌<◌, ◌≤◌, true, false, List, length, refl, sym, ap, ◌∙◌, arith}
use Rattle.std.specs.Prelude.{pos, slice_index}
use Rattle.std.proofs.lemmas.Bool.{ltb-false}
use Rattle.std.proofs.lemmas.List.{get_or_past}
use Rattle.vl_sites.specs.vl_base.specs.declared.files.File.{File}
use Rattle.vl_sites.specs.vl_base.specs.Selects.{bit_of}
use Rattle.vl_sites.specs.vl_design.specs.Syntax.{Flat}
use Rattle.vl_sites.specs.vl_design.specs.Value.{words_of, value_of}
use Rattle.vl_sites.specs.vl_design.specs.Functions.{zeros}
use Rattle.vl_sites.specs.vl_design.specs.Laws.{IsFine}
use Rattle.vl_runs.specs.vl_paths.specs.Graph.{drives}
use Rattle.vl_runs.specs.Nets.{pass}
use Rattle.vl_runs.proofs.Settle.{one_pass_keeps}
use Rattle.vl_runs.specs.NetsOfSettle.{Place, bit_at, run}
use Rattle.vl_runs.specs.Checked.{IsChecked, IsOrder}
use Rattle.vl_runs.proofs.Checks.{accepted}
use Rattle.vl_runs.proofs.Instance.{lawful, placed_order}
use Rattle.sub_nodes.specs.Cycles.{Stage}
use Rattle.sub_runs.specs.Nets.{computed_at, cleared, HoldNets, NetsAreZero, RestIsZero, HasNarrowNets}
use Rattle.sub_runs.proofs.Cleared.{zero_bit, cleared_zero, cleared_fine}

module _ (d : Flat) (narrow : HasNarrowNets d) where
  -- bits of a first word that no process drives
  abbrev FirstIsZero : List (List ℕ) → Type 0
  FirstIsZero v = (b : Place) → b.1 ≡ 0 → computed_at d.rows b.0.signal ≡ true → ((i : ℕ) → i < length d.procs → drives d i b.0 ≡ false) → bit_at v b ≡ 0

  first_is : (v : List (List ℕ)) → IsFine d.rows v → FirstIsZero v → RestIsZero d v
  first_is v f h b c n = at b.1 refl
    where
      at : (j : ℕ) → b.1 ≡ j → bit_at v b ≡ 0
      at zero e = h b e c n
      at (suc j) e =
          let k : length (words_of (zeros d.rows) b.0.signal) ≤ 1 = ltb-false 1 (length (words_of (zeros d.rows) b.0.signal)) (narrow.words b.0.signal c) in
          let past : length (words_of v b.0.signal) ≤ b.1 = omega (arith, k, f.shape.words b.0.signal) in
          zero_bit v b (get_or_past (words_of v b.0.signal) b.1 0 past)

  pub zero_rest : (i : Stage) → IsFine d.rows i.state.values → NetsAreZero d i → RestIsZero d i.state.values
  zero_rest i f h = first_is i.state.values f (λ b e c n. zero_bit i.state.values b (ap (slice_index (words_of i.state.values b.0.signal)) e ∙ h.zero b.0.signal c))

  pub hold_rest : (checked : IsChecked d) (order : List ℕ) (o : IsOrder d order) (files : List File) (i : Stage) → i.state.finished ≡ false → IsFine d.rows i.state.values → IsFine d.rows i.committed
      → HoldNets d order files i → RestIsZero d i.state.values
  hold_rest checked order o files i alive f g h = first_is i.state.values f first
    where
      first : FirstIsZero i.state.values
      first b e c n =
          let v = cleared d.rows i.committed in
          let w = pass (run d files i.state) order v in
          let kept : bit_at v b ≡ bit_at w b = one_pass_keeps (lawful d files (accepted d checked) i.state alive) order (placed_order d o) v (cleared_fine d.rows i.committed g) b n in
          let there : (u : List (List ℕ)) → bit_at u b ≡ bit_of (value_of u b.0.signal) (pos b.0.place) = λ u. ap (λ j. bit_of (slice_index (words_of u b.0.signal) j) (pos b.0.place)) e in
          there i.state.values ∙ (ap (λ x. bit_of x (pos b.0.place)) (h.over b.0.signal c) ∙ (sym (there w) ∙ (sym kept ∙ cleared_zero d.rows i.committed b c)))
