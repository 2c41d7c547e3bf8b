-- A cycle of a node that implements statements goes as far as these go before their next act.
use Rattle.std.proofs.Common.{◌≡◌, ℕ, Bool, true, false, List, [], ◌∷◌, ◌++◌, Some, refl, sym, ◌∙◌, ap, subst}
use Rattle.std.specs.Prelude.{All, slice_get, if◌then◌else◌}
use Rattle.std.proofs.lemmas.List.Elements.{All-head, All-tail}
use Rattle.vl_design.specs.declared.design.Form.{Form}
use Rattle.vl_design.specs.Syntax.{Exp, Stm, Nop, Then, If, Case, For, Repeat, Set, Later, Sys, Items, NoItems, Labelled, Default}
use Rattle.vl_design.specs.Width.{Names, Scope, form}
use Rattle.vl_design.specs.Value.{Sample, value}
use Rattle.vl_design.specs.State.{State, sample}
use Rattle.vl_design.specs.Exec.{exec, is_true, items_form, labels_form, some_match}
use Rattle.vl_design.specs.Acts.{Pause, Through, AtCall, AtChoice, default_body, chosen_body, branch_of, upto, uptos}
use Rattle.vl_design.specs.Laws.{IsUnrolledStm, can_act}
use Rattle.sub_nodes.specs.Nodes.{Segment, still, and_then, Way, WayOn, Go, Branch, Switch, Commit, Node, Run, Trap}
use Rattle.sub_nodes.specs.Implements.{Whether, Impl, ImplItems, ImplDefault, Impls}
use Rattle.sub_nodes.specs.Cycles.{ticked, ways_form, way_of, switched, execs, segment_done}
use Rattle.sub_nodes.proofs.Holding.{holds_alike}

pub execs_append : (scope : Scope) (xs ys : List Stm) (s : State) → execs scope (xs ++ ys) s ≡ execs scope ys (execs scope xs s)
execs_append scope [] ys s = refl
execs_append scope (x ∷ xs) ys s = execs_append scope xs ys (exec scope x s)

by_test : {A B : Type 0} (P : Pause → Type 0) (held : Bool) (x y : Pause) → (A → P x) → (B → P y) → Whether held A B → P (if held then x else y)
by_test P true x y f g h = f h
by_test P false x y f g h = g h

module _ (nodes : List Node) (u : ℕ) (scope : Scope) where
  -- from the state t the way on leads to this pause
  abbrev pub Leads : WayOn → State → Pause → Type 0
  Leads (Commit m) t (Through s) = (t ≡ s) × (m ≡ u)
  Leads (Go m) t (AtCall task s rest) = (t ≡ s) × ((to : ℕ) × (slice_get nodes m ≡ Some (Trap task to)) × Impls nodes u rest still to)
  Leads (Branch e m k) t (AtChoice s rest) = (t ≡ s) × Impls nodes u rest still (if is_true scope e t then m else k)
  Leads (Switch e ways other) t (AtChoice s rest) = (t ≡ s) × Impls nodes u rest still (switched scope t e ways other)
  Leads on t p = ⊥

  -- from the state s the node n does a segment, and its way on leads to this pause
  pub record Steps (n : ℕ) (rises : Bool) (s : State) (p : Pause) : Type 0 where
    pub segment : Segment
    pub on : WayOn
    pub there : slice_get nodes n ≡ Some (Run segment on)
    pub same : segment.rises ≡ rises
    pub leads : Leads on (segment_done scope segment s) p

  -- ---- the ways of a case

  same_form : (items : Items) (K : Segment → ℕ → Type 0) (ways : List Way) (names : Names) (f : Form) → ImplItems nodes items K ways → ways_form names f ways ≡ items_form names f items
  same_form NoItems K [] names f h = refl
  same_form NoItems K (w ∷ ws) names f h = absurd h
  same_form (Labelled es a others) K [] names f h = absurd h
  same_form (Labelled es a others) K (w ∷ ws) names f h = ap (λ l. ways_form names (labels_form names f l) ws) h.0 ∙ same_form others K ws names _ h.2
  same_form (Default a others) K ws names f h = same_form others K ws names f h

  default_leads : (items : Items) (K : Segment → ℕ → Type 0) (n : ℕ) → ImplDefault nodes items K n → Impl nodes (default_body items) K still n
  default_leads NoItems K n h = h
  default_leads (Labelled es a others) K n h = default_leads others K n h
  default_leads (Default a others) K n h = h

  either_leads : (b : Bool) (x y : Stm) (K : Segment → ℕ → Type 0) (m k : ℕ) → Impl nodes x K still m → Impl nodes y K still k → Impl nodes (if b then x else y) K still (if b then m else k)
  either_leads true x y K m k f g = f
  either_leads false x y K m k f g = g

  way_leads : (s : Sample) (v : ℕ) (c : Form) (items : Items) (K : Segment → ℕ → Type 0) (ways : List Way) (x : Stm) (other : ℕ) → ImplItems nodes items K ways → Impl nodes x K still other
      → Impl nodes (chosen_body scope s v c items x) K still (way_of scope s v c ways other)
  way_leads s v c NoItems K [] x other h g = g
  way_leads s v c NoItems K (w ∷ ws) x other h g = absurd h
  way_leads s v c (Labelled es a others) K [] x other h g = absurd h
  way_leads s v c (Labelled es a others) K (w ∷ ws) x other h g =
      let y = either_leads (some_match scope s c v es) a (chosen_body scope s v c others x) K w.to (way_of scope s v c ws other) h.1 (way_leads s v c others K ws x other h.2 g) in
      subst (λ l. Impl nodes (if some_match scope s c v es then a else chosen_body scope s v c others x) K still (if some_match scope s c v l then w.to else way_of scope s v c ws other)) (sym h.0) y
  way_leads s v c (Default a others) K ws x other h g = way_leads s v c others K ws x other h g

  case_leads : (e : Exp) (items : Items) (s : State) (K : Segment → ℕ → Type 0) (ways : List Way) (other : ℕ) → ImplItems nodes items K ways → ImplDefault nodes items K other
      → Impl nodes (branch_of scope (sample s) (Case e items)) K still (switched scope s e ways other)
  case_leads e items s K ways other h g =
      let c = items_form scope.names (form scope.names e) items in
      let y = way_leads (sample s) (value scope (sample s) e c) c items K ways (default_body items) other h (default_leads items K other g) in
      subst (λ f. Impl nodes (branch_of scope (sample s) (Case e items)) K still (way_of scope (sample s) (value scope (sample s) e f) f ways other)) (sym (same_form items K ways scope.names (form scope.names e) h)) y

  -- ---- statements

  module _ (s : State) where
    -- how far statements go behind a segment
    abbrev Further : List Stm → Segment → ℕ → Type 0
    Further rest g n = Steps n g.rises s (uptos scope rest (segment_done scope g s))

    further : (x : Stm) (rest : List Stm) (g : Segment) (n : ℕ) → Further rest (and_then g x) n → Steps n g.rises s (uptos scope rest (exec scope x (segment_done scope g s)))
    further x rest g n h = subst (λ t. Steps n g.rises s (uptos scope rest t)) (execs_append scope g.statements (x ∷ []) (if g.rises then ticked s else s)) h

    step_by : (x : Stm) (rest : List Stm) (g : Segment) (n : ℕ) → IsUnrolledStm x → ((g : Segment) (n : ℕ) → Impls nodes u rest g n → Further rest g n)
        → Impl nodes x (Impls nodes u rest) g n → Steps n g.rises s (upto scope x rest (uptos scope rest) (segment_done scope g s))
    step_by Nop rest g n w k h = k g n h
    step_by (Then a b) rest g n w k h = step_by a (b ∷ rest) g n w.0 (λ g n. step_by b rest g n w.1 k) h
    step_by (If e a b) rest g n w k h =
        let t = segment_done scope g s in
        subst (λ held. Steps n g.rises s (if held then AtChoice t ((if is_true scope e t then a else b) ∷ rest) else uptos scope rest (exec scope (If e a b) t))) (sym (holds_alike scope (If e a b) t w))
        (by_test (Steps n g.rises s) (can_act (If e a b)) _ _
        (λ f. record { segment = g; on = Branch e f.0 f.1; there = f.2; same = refl; leads = (refl, either_leads (is_true scope e t) a b (Impls nodes u rest) f.0 f.1 f.3 f.4) })
        (λ f. further (If e a b) rest g n (k _ n f)) h)
    step_by (Case e items) rest g n w k h =
        let t = segment_done scope g s in
        subst (λ held. Steps n g.rises s (if held then AtChoice t (branch_of scope (sample t) (Case e items) ∷ rest) else uptos scope rest (exec scope (Case e items) t))) (sym (holds_alike scope (Case e items) t w))
        (by_test (Steps n g.rises s) (can_act (Case e items)) _ _
        (λ f. record { segment = g; on = Switch e f.0 f.1; there = f.2; same = refl; leads = (refl, case_leads e items t (Impls nodes u rest) f.0 f.1 f.3 f.4) })
        (λ f. further (Case e items) rest g n (k _ n f)) h)
    step_by (For v start test step a) rest g n w k h = absurd w
    step_by (Repeat m a) rest g n w k h = absurd w
    step_by (Set t e) rest g n w k h = further (Set t e) rest g n (k _ n h)
    step_by (Later t e) rest g n w k h = further (Later t e) rest g n (k _ n h)
    step_by (Sys task) rest g n w k h = record { segment = g; on = Go h.0; there = h.2; same = refl; leads = (refl, (h.1, h.3, h.4)) }

    pub step : (xs : List Stm) (g : Segment) (n : ℕ) → All IsUnrolledStm xs → Impls nodes u xs g n → Further xs g n
    step [] g n w h = record { segment = g; on = Commit u; there = h; same = refl; leads = (refl, refl) }
    step (x ∷ xs) g n w h = step_by x xs g n (All-head IsUnrolledStm x xs w) (λ g n. step xs g n (All-tail IsUnrolledStm x xs w)) h
