-- Bits of nets that are driven twice: refused construct 14 of nets (own; IEEE 1364-2005, clauses 4.6 and 6.1).
use Rattle.std.specs.Prelude.{◌≡◌, ℕ, Bool, true, false, if◌then◌else◌, List, [], ◌∷◌, ◌++◌, flat_map, Option, Some, None, slice_get}
use Rattle.std.specs.List.{list_any}
use Rattle.vl_design.specs.declared.design.ProcKind.{ProcKind}
use Rattle.vl_design.specs.declared.design.ProcKind.TheVariants.{Assign}
use Rattle.vl_design.specs.declared.design.SigKind.{SigKind}
use Rattle.vl_design.specs.declared.design.SigKind.TheVariants.{Net}
use Rattle.vl_design.specs.declared.design.Signal.{Signal}
use Rattle.vl_design.specs.declared.stop.Stop.{Stop}
use Rattle.vl_design.specs.declared.stop.Stop.TheVariants.{Construct}
use Rattle.vl_design.specs.Placed as p
use Rattle.vl_design.specs.Plainly as plain
use Rattle.vl_design.specs.Syntax.{Target, Whole, WordAt, PickAt, SliceAt, Several, Targets, NoTargets, MoreTargets}
use Rattle.vl_design.specs.Width.{Names, names_of}
use Rattle.vl_paths.specs.Bits.{Bit, bit_set}
use Rattle.vl_design.specs.Firsts.{Somewhere}

-- ---- what drives

abbrev mutual
  -- the parts of a left side, in order
  pub leaves : Target → List Target
  leaves (Whole k) = Whole k ∷ []
  leaves (WordAt m a) = WordAt m a ∷ []
  leaves (PickAt base i from w) = PickAt base i from w ∷ []
  leaves (SliceAt base low w) = SliceAt base low w ∷ []
  leaves (Several ts) = all_leaves ts

  pub all_leaves : Targets → List Target
  all_leaves NoTargets = []
  all_leaves (MoreTargets t ts) = leaves t ++ all_leaves ts

abbrev pub is_assign : ProcKind → Bool
is_assign Assign = true
is_assign kind = false

abbrev pub assigned_parts : p.Stm → List Target
assigned_parts (p.Set at t e) = leaves (plain.target t)
assigned_parts a = []

-- the parts that a continuous assignment drives
abbrev pub driven_parts : p.Process → List Target
driven_parts a = if is_assign a.kind then assigned_parts a.body else []

-- one of the parts drives the bit
abbrev pub some_drives : Names → List Target → Bit → Bool
some_drives names ts b = list_any (bit_set names true b) ts

-- ---- what is driven twice

abbrev pub is_net_kind : SigKind → Bool
is_net_kind Net = true
is_net_kind kind = false

abbrev pub is_net_signal : Option Signal → Bool
is_net_signal None = false
is_net_signal (Some s) = is_net_kind s.kind

-- the signal of a number is a net
abbrev pub is_net : List Signal → ℕ → Bool
is_net signals k = is_net_signal (slice_get signals k)

-- a part drives a bit of a net that one of those before it drives
abbrev pub IsAgain : List Signal → Names → List Target → Target → Type 0
IsAgain signals names before t = (b : Bit) × (is_net signals b.signal ≡ true) × (bit_set names true b t ≡ true) × (some_drives names before b ≡ true)

-- one of a process's parts does: those before it are those of the processes before, and those before it in the left side
abbrev pub IsSecond : p.Design → List p.Process → p.Process → Type 0
IsSecond d before a = Somewhere (λ left t. IsAgain d.signals (names_of (plain.flat d)) (flat_map driven_parts before ++ left) t) (driven_parts a)

-- some process does, at its place
abbrev pub IsDrivenTwice : p.Design → Stop → Type 0
IsDrivenTwice d f = Somewhere (λ before a. IsSecond d before a × (f ≡ Construct a.place 14)) d.processes
