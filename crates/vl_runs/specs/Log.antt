-- The log of a block: its counted acts in order, each with the states right before and right after it (own).
use Rattle.std.specs.Prelude.{◌≡◌, ℕ, zero, suc, Bool, true, false, not, ◌&&◌, ◌||◌, List, [], ◌∷◌, ◌++◌, if◌then◌else◌, ⊤, Option, Some, None}
use Rattle.vl_paths.specs.vl_design.specs.declared.design.Form.{Form}
use Rattle.vl_paths.specs.vl_design.specs.Syntax.{Stm, Nop, Then, If, Case, For, Repeat, Set, Later, Sys, Items, NoItems, Labelled, Default, Task}
use Rattle.vl_paths.specs.vl_design.specs.Width.{Scope, form}
use Rattle.vl_paths.specs.vl_design.specs.Value.{value}
use Rattle.vl_paths.specs.vl_design.specs.State.{State, sample, counted}
use Rattle.vl_paths.specs.vl_design.specs.Tasks.{called}
use Rattle.vl_paths.specs.vl_design.specs.Exec.{exec, holds, items_hold, asks, is_true, items_form, some_match, counted_if, goes_on, most_turns}
use Rattle.vl_paths.specs.vl_design.specs.Acts.{Pause, Through, AtCall, AtChoice}

-- an act of a block: the states right before and right after it, and the call that it is; none where it is the choice of
-- a branch
pub record Moment : Type 0 where
  pub before : State
  pub after : State
  pub task : Option Task

abbrev pub call_at : Scope → Task → State → Moment
call_at scope task s = record { before = s; after = called scope task s; task = Some task }

abbrev pub choice_at : State → Moment
choice_at s = record { before = s; after = counted s; task = None }

-- the choice of a branch is an act where the statement holds a call, and the run has not finished
abbrev pub choice_if : Bool → State → List Moment
choice_if held s = if held && not s.finished then choice_at s ∷ [] else []

-- the acts of a loop, turn by turn, as long as the test holds
abbrev pub turn_moments : ℕ → (State → Bool) → (State → State) → (State → List Moment) → State → List Moment
turn_moments zero test turn log s = []
turn_moments (suc n) test turn log s = elim (test s) [ true ↦ log s ++ turn_moments n test turn log (turn s) | false ↦ [] ]

abbrev mutual
  -- the acts of a statement; once a run has finished, none
  pub moments : Scope → Stm → State → List Moment
  moments scope Nop s = []
  moments scope (Then a b) s = moments scope a s ++ moments scope b (exec scope a s)
  moments scope (If t a b) s =
      let held = asks t || (holds scope s a || holds scope s b) in
      let s' = counted_if held s in
      choice_if held s ++ (if is_true scope t s then moments scope a s' else moments scope b s')
  moments scope (Case e items) s =
      let held = items_hold scope s items in
      let s' = counted_if held s in
      let c = items_form scope.names (form scope.names e) items in
      choice_if held s ++ item_moments scope (value scope (sample s) e c) c items (default_moments scope items s') s'
  moments scope (For k start test step a) s =
      moments scope start s ++
      turn_moments most_turns (goes_on scope test) (λ t. exec scope step (exec scope a t))
      (λ t. moments scope a t ++ moments scope step (exec scope a t)) (exec scope start s)
  moments scope (Repeat n a) s = turn_moments n (λ t. true) (exec scope a) (moments scope a) s
  moments scope (Set t e) s = []
  moments scope (Later t e) s = []
  moments scope (Sys task) s = if s.finished then [] else call_at scope task s ∷ []

  -- those of the first item with a label that matches v, or of the default
  pub item_moments : Scope → ℕ → Form → Items → List Moment → State → List Moment
  item_moments scope v c NoItems otherwise s = otherwise
  item_moments scope v c (Labelled es a others) otherwise s =
      if some_match scope (sample s) c v es then moments scope a s else item_moments scope v c others otherwise s
  item_moments scope v c (Default a others) otherwise s = item_moments scope v c others otherwise s

  pub default_moments : Scope → Items → State → List Moment
  default_moments scope NoItems s = []
  default_moments scope (Labelled es a others) s = default_moments scope others s
  default_moments scope (Default a others) s = moments scope a s

-- each act raises the count by one, from n on
abbrev pub CountsUp : ℕ → List Moment → Type 0
CountsUp n [] = ⊤
CountsUp n (m ∷ ms) = (m.before.count ≡ n) × (m.after.count ≡ suc n) × CountsUp (suc n) ms

-- ---- statements one after another

module _ (scope : Scope) where
  abbrev pub exec_all : List Stm → State → State
  exec_all [] s = s
  exec_all (a ∷ rest) s = exec_all rest (exec scope a s)

  abbrev pub all_moments : List Stm → State → List Moment
  all_moments [] s = []
  all_moments (a ∷ rest) s = moments scope a s ++ all_moments rest (exec scope a s)

  -- statements with these acts, which lead to the state e, pause right before the first act, and what is left behind it has
  -- the other acts and leads to e; where they have no act, they are through
  abbrev pub PausesIn : List Moment → State → Pause → Type 0
  PausesIn ms e (Through s) = (ms ≡ []) × (s ≡ e)
  PausesIn ms e (AtCall task s rest) =
      (ms ≡ call_at scope task s ∷ all_moments rest (called scope task s)) × (exec_all rest (called scope task s) ≡ e)
  PausesIn ms e (AtChoice s rest) = (ms ≡ choice_at s ∷ all_moments rest (counted s)) × (exec_all rest (counted s) ≡ e)
