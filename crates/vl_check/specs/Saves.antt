-- The names that a design saves snapshots under, of which there are at most 16: limit 10 (own).
use Rattle.std.specs.Prelude.{ℕ, Bool, not, ◌&&◌, ◌==◌, if◌then◌else◌, List, [], ◌∷◌, ◌++◌, flat_map, length, codes}
use Rattle.std.specs.List.{list_any}
use Rattle.std.specs.Str.{bytes_eq}
use Rattle.vl_design.specs.vl_base.specs.declared.place.Place.{Place}
use Rattle.vl_design.specs.declared.stop.Stop.{Stop}
use Rattle.vl_design.specs.Placed as p
use Rattle.vl_design.specs.Stops.{limit_if}
use Rattle.vl_sites.specs.Sites.{What, Tasks, sites}

-- a call of `$save`, and the name that it gives
pub record Save : Type 0 where
  pub at : Place
  pub name : List ℕ

abbrev pub is_save : List ℕ → Bool
is_save name = bytes_eq name (codes "$save")

abbrev pub named : Place → p.Args → List Save
named at (p.TextArg text others) = record { at = at; name = text } ∷ []
named at given = []

abbrev pub save_at : Place → What → List Save
save_at at (Tasks name given) = if is_save name then named at given else []
save_at at what = []

-- those in the processes of a design, in order
abbrev pub saves : p.Design → List Save
saves d = flat_map (λ s. save_at s.at s.what) (flat_map (λ a. sites a.body) d.processes)

-- one of the calls gives the name of c
abbrev pub is_given : List Save → Save → Bool
is_given calls c = list_any (λ s. bytes_eq s.name c.name) calls

abbrev pub with_new : List Save → Save → List Save
with_new calls c = if is_given calls c then calls else calls ++ (c ∷ [])

-- these, and of some more the first call of each name that they don't give
abbrev pub with_firsts : List Save → List Save → List Save
with_firsts calls [] = calls
with_firsts calls (c ∷ cs) = with_firsts (with_new calls c) cs

-- the first calls of 16 names stand before c, which gives another
abbrev pub is_past : List Save → Save → Bool
is_past firsts c = (length firsts == 16) && not (is_given firsts c)

-- the faults of calls behind others
abbrev pub save_faults : List Save → List Save → List Stop
save_faults before [] = []
save_faults before (c ∷ cs) = limit_if (is_past (with_firsts [] before) c) c.at 10 ++ save_faults (before ++ (c ∷ [])) cs

abbrev pub saves_faults : p.Design → List Stop
saves_faults d = save_faults [] (saves d)
