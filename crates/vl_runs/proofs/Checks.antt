-- A checked design meets what the proofs use.
use Rattle.std.proofs.Common.{◌≡◌, ℕ, true, refl, arith}
use Rattle.std.specs.Prelude.{◌==◌}
use Rattle.vl_paths.specs.vl_design.specs.declared.design.ProcKind.{ProcKind}
use Rattle.vl_paths.specs.vl_design.specs.declared.design.ProcKind.TheVariants.{Init, Rise, Fall, Comb, Assign}
use Rattle.vl_paths.specs.vl_design.specs.Syntax.{Flat}
use Rattle.vl_paths.specs.vl_design.specs.Width.{names_of}
use Rattle.vl_paths.specs.vl_design.specs.Queue.{is_comb, proc_at}
use Rattle.vl_paths.specs.Bits.{Bit}
use Rattle.vl_paths.specs.Paths.{always}
use Rattle.vl_paths.specs.Touched.{touched}
use Rattle.vl_paths.proofs.Ways.{and_true}
use Rattle.vl_runs.specs.NetsOfSettle.{comb_at}
use Rattle.vl_runs.specs.Checked.{IsChecked}
use Rattle.vl_runs.proofs.Steady.{IsAccepted}
use Rattle.vl_runs.proofs.Writes.{touched_own, touched_writes}
pub use Rattle.vl_paths.specs.vl_base.proofs.Numbers.{equal_self as itself}

module _ (d : Flat) (c : IsChecked d) where
  total : (i : ℕ) → comb_at d i ≡ true → (b : Bit) → touched (names_of d) b (proc_at d i).body ≡ true → always (names_of d) b (proc_at d i).body ≡ true
  total i e b h = go (proc_at d i).kind refl e
    where
      go : (k : ProcKind) → (proc_at d i).kind ≡ k → is_comb k ≡ true → always (names_of d) b (proc_at d i).body ≡ true
      go Comb g f = c.assigned i b b g h (touched_own (names_of d) b (proc_at d i).body h)
      go Assign g f = c.placed i b g h
      go Init g f = let z : ⊥ = cc in absurd z
      go Rise g f = let z : ⊥ = cc in absurd z
      go Fall g f = let z : ⊥ = cc in absurd z

  pub accepted : IsAccepted d
  accepted = record {
    nets = c.nets;
    quiet = c.quiet;
    timeless = c.timeless;
    total = total;
    once = c.once;
    apart = λ j e i x h. (let g = and_true (comb_at d i) (touched (names_of d) x (proc_at d i).body) h in
        c.alone i j x.signal g.0 e (touched_writes (names_of d) x (λ k. k == x.signal) (itself x.signal) (proc_at d i).body g.1));
  }
