-- Where a segment's way on leads.
use Rattle.std.proofs.Common.{◌≡◌, ℕ, Bool, true, false, List, [], ◌∷◌, refl}
use Rattle.std.specs.Prelude.{◌||◌, ◌==◌, map, if◌then◌else◌}
use Rattle.std.specs.List.{list_any}
use Rattle.vl_sites.specs.vl_base.specs.declared.files.File.{File}
use Rattle.vl_sites.specs.vl_design.specs.declared.design.Form.{Form}
use Rattle.vl_sites.specs.vl_design.specs.Syntax.{Task, Flat}
use Rattle.vl_sites.specs.vl_design.specs.Width.{Scope}
use Rattle.vl_sites.specs.vl_design.specs.Value.{Sample}
use Rattle.vl_sites.specs.vl_design.specs.State.{State}
use Rattle.vl_sites.specs.vl_design.specs.Exec.{is_true, some_match}
use Rattle.vl_sites.specs.vl_design.specs.Functions.{scope_of}
use Rattle.vl_runs.specs.vl_paths.proofs.Ways.{or_left, or_right}
use Rattle.vl_runs.proofs.Checks.{itself}
use Rattle.sub_nodes.specs.Nodes.{Segment, Way, WayOn, Go, Branch, Switch, Commit, Run, Trap}
use Rattle.sub_nodes.specs.Cycles.{way_of, goes_on}
use Rattle.sub_nodes.specs.Shape.{leads_to}
use Rattle.sub_runs.specs.Nets.{ends_wave}

abbrev Among : ℕ → List ℕ → Type 0
Among m xs = list_any (λ k. k == m) xs ≡ true

first_among : (m : ℕ) (xs : List ℕ) → Among m (m ∷ xs)
first_among m xs = or_left (m == m) _ (itself m)

later_among : (m k : ℕ) (xs : List ℕ) → Among m xs → Among m (k ∷ xs)
later_among m k xs h = or_right (k == m) _ h

-- one of the ways, or the other
one_of : (scope : Scope) (s : Sample) (v : ℕ) (c : Form) (ways : List Way) (other : ℕ) → Among (way_of scope s v c ways other) (other ∷ map (λ w. w.to) ways)
one_of scope s v c [] other = first_among other []
one_of scope s v c (w ∷ ws) other = at (some_match scope s c v w.labels) (one_of scope s v c ws other)
  where
    at : (b : Bool) → Among (way_of scope s v c ws other) (other ∷ map (λ w. w.to) ws) → Among (if b then w.to else way_of scope s v c ws other) (other ∷ w.to ∷ map (λ w. w.to) ws)
    at true h = later_among w.to other (w.to ∷ map (λ w. w.to) ws) (first_among w.to (map (λ w. w.to) ws))
    at false h = skip (way_of scope s v c ws other) (other == way_of scope s v c ws other) refl h
      where
        skip : (m : ℕ) (b : Bool) → (other == m) ≡ b → (b || list_any (λ k. k == m) (map (λ w. w.to) ws)) ≡ true → (b || ((w.to == m) || list_any (λ k. k == m) (map (λ w. w.to) ws))) ≡ true
        skip m true e h = refl
        skip m false e h = or_right (w.to == m) _ h

pub goes_to : (d : Flat) (files : List File) (nets : State → List (List ℕ)) (g : Segment) (on : WayOn) (s : State) (committed : List (List ℕ)) → ends_wave on ≡ false
    → leads_to (Run g on) (goes_on d files nets on s committed).node ≡ true
goes_to d files nets g (Go to) s committed e = first_among to []
goes_to d files nets g (Branch t a b) s committed e = at (is_true (scope_of d files) t s)
  where
    at : (c : Bool) → Among (if c then a else b) (a ∷ b ∷ [])
    at true = first_among a (b ∷ [])
    at false = later_among b a (b ∷ []) (first_among b [])
goes_to d files nets g (Switch t ways other) s committed e = one_of _ _ _ _ ways other
goes_to d files nets g (Commit to) s committed e = let z : ⊥ = cc in absurd z

pub leads_trap : (task : Task) (to : ℕ) → leads_to (Trap task to) to ≡ true
leads_trap task to = first_among to []
