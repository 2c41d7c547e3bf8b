-- Assignments, and what they do to machines.
use Rattle.std.proofs.Common.{◌≡◌, refl, ap, ◌∙◌, ℕ, List, [], ◌++◌, true, false, map}
use Rattle.std.specs.declared.alloc.Global.{Global}
use Rattle.std.specs.declared.vec.Vec.{Vec}
use Rattle.vl_design.specs.Syntax.{Exp, Target, Whole, WordAt, PickAt, SliceAt, Several, Set, Later}
use Rattle.vl_design.specs.Width.{Names, Scope, form, assigned}
use Rattle.vl_design.specs.Value.{Sample, value}
use Rattle.vl_design.specs.State.{all_updated}
use Rattle.vl_design.specs.Sound.{IsSoundTarget, IsWidth}
use Rattle.vl_design.specs.Laws.{IsFine}
use Rattle.vl_design.specs.Targets.{spots, spots_width, target_width, updates_at, assignment}
use Rattle.vl_design.proofs.Ranging.{updates_in_range}
use Rattle.vl_design.proofs.Shaping.{all_shape, shape_on}
use Rattle.vl_eval.proofs.Names.{named-width, signal-named, memory-named}
use Rattle.vl_eval.proofs.Widths.{form-width}
use Rattle.vl_eval.specs.declared.spot.Spot.{Spot}
use Rattle.vl_eval.specs.declared.update.Update.{Update}
use Rattle.vl_eval.specs.Spots.{spot_of}
use Rattle.vl_eval.specs.Updates.{update_of}
use Rattle.vl_run.specs.declared.machine.Machine.{Machine}
use Rattle.vl_run.specs.Lists.{Spotted}
use Rattle.vl_run.specs.Machines.{sample_in, Does}

pub target-width : (names : Names) (t : Target) → IsSoundTarget names t → IsWidth (target_width names t)
target-width names (Whole k) h = named-width names k (signal-named names k h)
target-width names (WordAt m a) h = named-width names m (memory-named names m h.0)
target-width names (PickAt b i from w) h = h.0
target-width names (SliceAt b low w) h = h.0
target-width names (Several ts) h = h.0

pub updates-fine : (names : Names) (values new : List (List ℕ)) (us : List Update) → IsFine names.rows values → new ≡ all_updated names.rows values (map update_of us) → IsFine names.rows new
updates-fine names values new us f e = rw e (record {
  range = updates_in_range names.rows (map update_of us) values f.range;
  shape = shape_on (all_shape names.rows (map update_of us) values) f.shape;
})

pub does-set : (scope : Scope) (t : Target) (e : Exp) (m : Machine) (us : List Update) (values : Vec (List ℕ) Global) → m.finished ≡ false
    → map update_of us ≡ assignment scope (sample_in m) t e → values.items ≡ all_updated scope.names.rows m.values.items (map update_of us)
    → Does scope (Set t e) m (record m { values = values })
does-set scope t e m us values f h i = record { leads = λ c. (c, rw (f, i, h) refl) }

pub does-later : (scope : Scope) (t : Target) (e : Exp) (m : Machine) (later : Vec Update Global) → m.finished ≡ false
    → map update_of later.items ≡ map update_of m.later.items ++ assignment scope (sample_in m) t e
    → Does scope (Later t e) m (record m { later = later })
does-later scope t e m later f h = record { leads = λ c. (c, rw (f, h) refl) }

pub set-over : (scope : Scope) (t : Target) (e : Exp) (m : Machine) → m.finished ≡ true → Does scope (Set t e) m m
set-over scope t e m f = record { leads = λ c. (c, rw f refl) }

pub later-over : (scope : Scope) (t : Target) (e : Exp) (m : Machine) → m.finished ≡ true → Does scope (Later t e) m m
later-over scope t e m f = record { leads = λ c. (c, rw f refl) }

pub ruleset assigning = (target-width, form-width)

pub ruleset over = (set-over, later-over)
