-- What an assignment writes (IEEE 1364-2005, clauses 9.2 and 5.1.14).
use Rattle.std.specs.Prelude.{ℕ, ◌+◌, ◌/◌, ◌%◌, ◌^◌, ℤ, pos, ◌+ℤ◌, List, [], ◌∷◌, ◌++◌, map, slice_get}
use Rattle.vl_design.specs.Syntax.{Exp, Target, Whole, WordAt, PickAt, SliceAt, Several, Targets, NoTargets, MoreTargets}
use Rattle.vl_design.specs.Width.{Names, Scope, form, signal_form, assigned}
use Rattle.vl_design.specs.Value.{Sample, value, own_reading, word_at, lowest_bit}
use Rattle.vl_design.specs.State.{Update}

-- `width` bits of a word of a signal, from the bit `low` on
pub record Spot : Type 0 where
  pub signal : ℕ
  pub word : ℕ
  pub low : ℤ
  pub width : ℕ

-- `width` bits of a spot, from its bit `low` on
abbrev pub within : ℤ → ℕ → Spot → Spot
within low width p = record { signal = p.signal; word = p.word; low = p.low +ℤ low; width = width }

abbrev mutual
  -- how many bits a target has
  pub target_width : Names → Target → ℕ
  target_width names (Whole k) = (signal_form names.rows k).width
  target_width names (WordAt m a) = (signal_form names.rows m).width
  target_width names (PickAt b i from w) = w
  target_width names (SliceAt b low w) = w
  target_width names (Several ts) = targets_width names ts

  pub targets_width : Names → Targets → ℕ
  targets_width names NoTargets = 0
  targets_width names (MoreTargets t ts) = target_width names t + targets_width names ts

abbrev mutual
  -- the spots of a target, from the left
  pub spots : Scope → Sample → Target → List Spot
  spots scope s (Whole k) = record { signal = k; word = 0; low = pos 0; width = (signal_form scope.names.rows k).width } ∷ []
  spots scope s (WordAt m a) = record { signal = m; word = word_at (slice_get scope.names.rows m) (own_reading scope s a); low = pos 0; width = (signal_form scope.names.rows m).width } ∷ []
  spots scope s (PickAt b i from w) = map (within (lowest_bit from (own_reading scope s i)) w) (spots scope s b)
  spots scope s (SliceAt b low w) = map (within low w) (spots scope s b)
  spots scope s (Several ts) = all_spots scope s ts

  pub all_spots : Scope → Sample → Targets → List Spot
  all_spots scope s NoTargets = []
  all_spots scope s (MoreTargets t ts) = spots scope s t ++ all_spots scope s ts

abbrev pub spots_width : List Spot → ℕ
spots_width [] = 0
spots_width (p ∷ ps) = p.width + spots_width ps

abbrev pub update_at : Spot → ℕ → Update
update_at p v = record { signal = p.signal; word = p.word; low = p.low; width = p.width; value = v % 2 ^ p.width }

-- the updates that write a number to spots: the first takes the highest bits
abbrev pub updates_at : List Spot → ℕ → List Update
updates_at [] v = []
updates_at (p ∷ ps) v = update_at p (v / 2 ^ spots_width ps) ∷ updates_at ps v

-- the updates of an assignment: its right side is sized to the longer of both sides, and cut to the left side
abbrev pub assignment : Scope → Sample → Target → Exp → List Update
assignment scope s t e = updates_at (spots scope s t) (value scope s e (assigned (target_width scope.names t) (form scope.names e)))
