-- Loops: refused construct 21 (own; IEEE 1364-2005, clause 9.6).
use Rattle.std.specs.Prelude.{ℕ, Bool, true, false, not, ◌&&◌, ◌||◌, ◌==◌, List, [], ◌∷◌, ◌++◌}
use Rattle.std.specs.List.{list_any}
use Rattle.vl_design.specs.declared.stop.Stop.{Stop}
use Rattle.vl_design.specs.Stops.{construct_if}
use Rattle.vl_design.specs.Placed.{Exp, Num, Label, Sig, Un, Bin, Cond, Whole, Stm, Nop, Seq, If, Case, For, Repeat, Set, Later, Task, Stms, NoStms, MoreStms, Items, NoItems, MoreItems}
use Rattle.vl_sites.specs.Sites.{sites}
use Rattle.vl_check.specs.Bodies.{Setting, kind_is}
use Rattle.vl_check.specs.Rules.{is_loop, sets}

-- numbers, names that pass the test, and operators on them
abbrev pub is_constant : (ℕ → Bool) → Exp → Bool
is_constant may (Num at v w s) = true
is_constant may (Label at v care w s) = true
is_constant may (Sig at k) = may k
is_constant may (Un at op a) = is_constant may a
is_constant may (Bin at op a b) = is_constant may a && is_constant may b
is_constant may (Cond at t a b) = is_constant may t && (is_constant may a && is_constant may b)
is_constant may e = false

-- an assignment of such an expression to a variable whole
abbrev pub gives : ℕ → (ℕ → Bool) → Stm → Bool
gives k may (Set at (Whole q j) x) = (j == k) && is_constant may x
gives k may a = false

abbrev pub is_one_of : List ℕ → ℕ → Bool
is_one_of ks k = list_any (λ j. j == k) ks

-- the variable of a loop
abbrev pub variable_of : Stm → List ℕ
variable_of (For at k start test step a) = k ∷ []
variable_of a = []

module _ (b : Setting) where
  -- a loop, within loops over these, isn't as it has to be: its variable is no loop variable, or controls one of them; its
  -- header reads more than constants and their variables and, in its test and step, its own; or its variable is assigned
  -- elsewhere than in its header
  abbrev pub is_wrong : List ℕ → Stm → Bool
  is_wrong around (For at k start test step a) =
      not (kind_is is_loop (b.shared ++ b.own) k && (not (is_one_of around k)
      && (gives k (is_one_of around) start
      && (is_constant (is_one_of (around ++ (k ∷ []))) test
      && gives k (is_one_of (around ++ (k ∷ []))) step))))
      || list_any (λ s. sets (λ j. j == k) s.what) (sites a)
  is_wrong around a = false

  abbrev mutual
    -- the faults of the loops in a statement that stands in loops over these, the outermost first
    pub loop_faults : List ℕ → Stm → List Stop
    loop_faults around (For at k start test step a) = construct_if (is_wrong around (For at k start test step a)) at 21 ++ loop_faults (around ++ (k ∷ [])) a
    loop_faults around (Seq at as') = loops_faults around as'
    loop_faults around (If at t x y) = loop_faults around x ++ loop_faults around y
    loop_faults around (Case at x is wild) = items_faults around is
    loop_faults around (Repeat at n a) = loop_faults around a
    loop_faults around (Nop at) = []
    loop_faults around (Set at t x) = []
    loop_faults around (Later at t x) = []
    loop_faults around (Task at name given) = []

    pub loops_faults : List ℕ → Stms → List Stop
    loops_faults around NoStms = []
    loops_faults around (MoreStms a as') = loop_faults around a ++ loops_faults around as'

    pub items_faults : List ℕ → Items → List Stop
    items_faults around NoItems = []
    items_faults around (MoreItems es a others) = loop_faults around a ++ items_faults around others
