-- An order of the nets of processes, or a cycle, is one of the processes.
use Rattle.std.proofs.Common.{◌≡◌, ℕ, ◌<◌, Bool, true, false, List, [], ◌∷◌, length, sym, ap, ◌∙◌, subst}
use Rattle.std.specs.Prelude.{◌↔◌, if◌then◌else◌, nat_lt}
use Rattle.vl_bits.specs.vl_design.specs.Syntax.{Flat}
use Rattle.vl_bits.specs.vl_design.specs.Width.{names_of}
use Rattle.vl_bits.specs.vl_paths.specs.Bits.{Bit}
use Rattle.vl_bits.specs.vl_paths.specs.Graph as g
use Rattle.cell_level.specs.declared.nets.Net.{Net}
use Rattle.cell_level.specs.declared.nets.Levels.{Levels}
use Rattle.cell_level.specs.declared.nets.Levels.TheVariants.{Ordered, Loop}
use Rattle.cell_level.specs.Cycles.{Leads, IsOnCycle, IsCycle, IsLowestCycle, times}
use Rattle.cell_level.specs.Nets as net
use Rattle.cell_level.specs.Netting.{AreNetsOf}
use Rattle.cell_level.specs.Levelling.{IsOrder, IsLevel}
use Rattle.cell_level.proofs.Netted.{nets-drive, nets-read, nets-length}

-- ---- cycles of relations of which one says what the other does

leads-as : (E F : ℕ → ℕ → Type 0) → ((p q : ℕ) → E p q → F p q) → (p : ℕ) (qs : List ℕ) (z : ℕ) → Leads E p qs z → Leads F p qs z
leads-as E F f p [] z h = f p z h
leads-as E F f p (q ∷ qs) z h = (f p q h.0, leads-as E F f q qs z h.1)

cycles-as : (E F : ℕ → ℕ → Type 0) → ((p q : ℕ) → E p q → F p q) → (p : ℕ) → IsOnCycle E p → IsOnCycle F p
cycles-as E F f p h = (h.0, leads-as E F f p h.0 p h.1)

lowest-as : (E F : ℕ → ℕ → Type 0) → ((p q : ℕ) → E p q → F p q) → ((p q : ℕ) → F p q → E p q) → (c : List ℕ) → IsLowestCycle E c → IsLowestCycle F c
lowest-as E F f g c h = record {
  first = h.first;
  is_cycle = record {
    others = h.is_cycle.others;
    begins = h.is_cycle.begins;
    closes = leads-as E F f h.first h.is_cycle.others h.first h.is_cycle.closes;
    once = h.is_cycle.once;
  };
  lowest = λ p l k. h.lowest p l (cycles-as F E g p k);
}

-- ---- of the nets of a design

module _ (d : Flat) (ns : List Net) (are : AreNetsOf (names_of d) d.procs ns) where
  driven : (p : ℕ) (b : Bit) → net.drives ns p b ≡ g.drives d p b
  driven p b = nets-drive (names_of d) d.procs ns are p b

  read : (p : ℕ) (b : Bit) → net.reads ns p b ≡ g.reads d p b
  read p b = nets-read (names_of d) d.procs ns are p b

  there : (p q : ℕ) → net.Edge ns p q → g.Edge d p q
  there p q h = (h.0, sym (driven p h.0) ∙ h.1, sym (read q h.0) ∙ h.2)

  back : (p q : ℕ) → g.Edge d p q → net.Edge ns p q
  back p q h = (h.0, driven p h.0 ∙ h.1, read q h.0 ∙ h.2)

  none : (ps : List ℕ) (q : ℕ) → net.NoneDrives ns ps q → g.NoneDrives d ps q
  none [] q h = tt
  none (p ∷ ps) q h = (λ b e. sym (read q b) ∙ h.0 b (driven p b ∙ e), none ps q h.1)

  levelled : (ps : List ℕ) → net.Levelled ns ps → g.Levelled d ps
  levelled [] h = tt
  levelled (p ∷ ps) h = (none (p ∷ ps) p h.0, levelled ps h.1)

  pub is-level : (l : Levels) → net.IsAnswer ns l → IsLevel d l
  is-level (Ordered v) h = record {
    once = λ p. h.once p ∙ ap (λ n. if nat_lt p n then 1 else 0) (nets-length (names_of d) d.procs ns are);
    levelled = levelled v.items h.levelled;
  }
  is-level (Loop v) h = lowest-as (net.Edge ns) (g.Edge d) there back v.items h

  pub is-exact : (o : Bool) → ((o ≡ true) ↔ ((p : ℕ) → IsOnCycle (net.Edge ns) p → ⊥)) → ((o ≡ true) ↔ ((p : ℕ) → IsOnCycle (g.Edge d) p → ⊥))
  is-exact o h = (
    λ e p c. h.0 e p (cycles-as (g.Edge d) (net.Edge ns) back p c),
    λ f. h.1 (λ p c. f p (cycles-as (net.Edge ns) (g.Edge d) there p c)),
  )
