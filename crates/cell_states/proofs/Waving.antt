-- Behind a segment the stores before it are left to the node that is next.
use Rattle.std.proofs.Common.{◌≡◌, ℕ, zero, suc, ◌+◌, ◌<◌, ◌≤◌, Bool, true, false, List, [], ◌∷◌, ◌++◌, length, map, take, Some, inl, inr, refl, sym, ap, ◌∙◌, arith, subst}
use Rattle.std.specs.Prelude.{All, if◌then◌else◌, slice_get}
use Rattle.std.proofs.lemmas.Bool.{cases_lt, true≢false}
use Rattle.std.proofs.lemmas.List.Elements.{All-nil, All-cons, All-head, All-tail}
use Rattle.vl_design.specs.vl_base.specs.declared.files.File.{File}
use Rattle.vl_design.specs.declared.design.Form.{Form}
use Rattle.vl_design.specs.Exec.{is_true, some_match}
use Rattle.vl_design.specs.Functions.{scope_of}
use Rattle.vl_design.specs.State.{State}
use Rattle.vl_design.specs.Syntax.{Flat, Proc}
use Rattle.vl_design.specs.Value.{Sample}
use Rattle.vl_design.specs.Width.{Scope}
use Rattle.vl_design.proofs.Running.{some_is}
use Rattle.ten_form.specs.sub_nodes.specs.Nodes.{Segment, rising, Way, WayOn, Go, Branch, Switch, Commit, Node, Run, Trap, Apply}
use Rattle.ten_form.specs.sub_nodes.specs.Code.{updates, table_of}
use Rattle.ten_form.specs.sub_nodes.specs.Cycles.{way_of, is_trap, goes_on}
use Rattle.ten_form.specs.sub_nodes.specs.Shape.{targets}
use Rattle.ten_form.specs.sub_nodes.specs.Early.{next_of, early_from}
use Rattle.ten_form.specs.sub_nodes.proofs.Calling.{no_call_next}
use Rattle.ten_form.specs.sub_nodes.proofs.Leading.{each_target, front_at, first_within, some_falls, ups, falls, from, up, down, first, over, sizes, rise_closed, fall_closed}
use Rattle.ten_form.specs.sub_nodes.proofs.Pairing.{table_pair}
use Rattle.ten_form.specs.Banks.{cell_nodes}
use Rattle.ten_form.specs.States.{idle_before}
use Rattle.ten_form.proofs.Waves.{down-but-to-traps, traps-down}

-- ---- the first nodes of a list

pub taken : {X : Type 0} (k : ℕ) (xs : List X) (i : ℕ) (y : X) → slice_get (take k xs) i ≡ Some y → (i < k) × (slice_get xs i ≡ Some y)
taken zero xs i y h = let z : ⊥ = cc in absurd z
taken (suc k) [] i y h = let z : ⊥ = cc in absurd z
taken (suc k) (x ∷ xs) zero y h = (omega arith, h)
taken (suc k) (x ∷ xs) (suc i) y h =
    let r = taken k xs i y h in
    let low = r.0 in
    (omega (arith, low), r.1)

-- ---- the node that is next

module _ (P : ℕ → Type 0) where
  either-in : (b : Bool) (j k : ℕ) → P j → P k → P (if b then j else k)
  either-in true j k f g = f
  either-in false j k f g = g

  way-in : (scope : Scope) (s : Sample) (v : ℕ) (c : Form) (ws : List Way) (other : ℕ) → P other → All P (map (λ w. w.to) ws) → P (way_of scope s v c ws other)
  way-in scope s v c [] other f g = f
  way-in scope s v c (w ∷ ws) other f g =
      either-in (some_match scope s c v w.labels) w.to (way_of scope s v c ws other) (All-head P w.to (map (λ w. w.to) ws) g)
      (way-in scope s v c ws other f (All-tail P w.to (map (λ w. w.to) ws) g))

  -- is one that the way leads to
  pub next-in : (d : Flat) (files : List File) (nets : State → List (List ℕ)) (g : Segment) (on : WayOn) (t : State) (committed : List (List ℕ)) → All P (next_of (Run g on)) → P (goes_on d files nets on t committed).node
  next-in d files nets g (Go to) t committed h = All-head P to [] h
  next-in d files nets g (Branch e a b) t committed h =
      either-in (is_true (scope_of d files) e t) a b (All-head P a (b ∷ []) h) (All-head P b [] (All-tail P a (b ∷ []) h))
  next-in d files nets g (Switch e ways other) t committed h =
      way-in (scope_of d files) _ _ _ ways other (All-head P other (map (λ w. w.to) ways) h) (All-tail P other (map (λ w. w.to) ways) h)
  next-in d files nets g (Commit to) t committed h = All-head P to [] h

-- ---- updates stand first

abbrev IsNoRun : Node → Type 0
IsNoRun x = (g : Segment) (on : WayOn) → x ≡ Run g on → ⊥

no-run : (to : ℕ) → IsNoRun (Apply to)
no-run to g on e = cc

updates-no-run : (ps : List Proc) (rise fall : ℕ) → All IsNoRun (updates ps rise fall)
updates-no-run [] rise fall = All-cons IsNoRun (Apply rise) (Apply rise ∷ []) (no-run rise) (All-cons IsNoRun (Apply rise) [] (no-run rise) (All-nil IsNoRun))
updates-no-run (p ∷ ps) rise fall =
    All-cons IsNoRun (Apply rise) (Apply fall ∷ Apply rise ∷ []) (no-run rise)
    (All-cons IsNoRun (Apply fall) (Apply rise ∷ []) (no-run fall) (All-cons IsNoRun (Apply rise) [] (no-run rise) (All-nil IsNoRun)))

module _ (d : Flat) where
  run-behind : (n : ℕ) (g : Segment) (on : WayOn) → slice_get (table_of d).nodes n ≡ Some (Run g on) → n < from d → ⊥
  run-behind n g on h lt =
      let T = table_of d in
      let size = (sizes d).over in
      front_at IsNoRun (over d) (up d ++ (down d ++ first d)) n (Run g on) (updates-no-run (falls d) T.rise.first T.fall.first) (omega (arith, lt, size)) h g on refl

  -- a wave ends before its nodes
  commits-down : (n to : ℕ) (g : Segment) → n < early_from d → slice_get (table_of d).nodes n ≡ Some (Run g (Commit to)) → to < n
  commits-down n to g l h =
      let s = (sizes d).some in
      let early = (sizes d).early in
      let some = first_within (from d) 1 (ups d) rising in
      elim (cases_lt n (from d)) [
        | inl a ↦ absurd (run-behind n g (Commit to) h a)
        | inr a ↦ elim (cases_lt n (from d + length (up d))) [
          | inl b ↦ (let e = (rise_closed d).ends n to g a b h in omega (arith, e, s, a))
          | inr b ↦
              let f = some_falls (from d + length (up d)) (falls d) (omega (arith, l, early, b)) in
              let e = (fall_closed d f).ends n to g b l h in
              omega (arith, e, s, some, b)
        ]
      ]

  -- ---- the stores before a segment

  -- where this node is next, those before node n are idle
  abbrev LeavesIdle : ℕ → ℕ → Type 0
  LeavesIdle n m = (y : Node) → slice_get (table_of d).nodes m ≡ Some y → idle_before m y ≤ n

  below-idle : (n m : ℕ) → is_trap (slice_get (table_of d).nodes m) ≡ false → m < n → LeavesIdle n m
  below-idle n m t l (Run g on) e = omega (arith, l)
  below-idle n m t l (Trap task to) e = absurd (true≢false (sym (ap is_trap e) ∙ t))
  below-idle n m t l (Apply to) e = omega arith

  call-idle : (n m : ℕ) (g : Segment) → slice_get (table_of d).nodes n ≡ Some (Run g (Go m)) → LeavesIdle n m
  call-idle n m g h y e =
      let p = table_pair d n m g h in
      let low = traps-down d n m p.to g p.task h p.trap in
      let is : Trap p.task p.to ≡ y = some_is (sym p.trap ∙ e) in
      subst (λ z. idle_before m z ≤ n) is (omega (arith, low))

  -- behind a segment that goes to no call
  others-idle : (n : ℕ) (g : Segment) (on : WayOn) → slice_get (table_of d).nodes n ≡ Some (Run g on) → ((m : ℕ) → on ≡ Go m → ⊥) →
      All (λ m. is_trap (slice_get (table_of d).nodes m) ≡ false → m < n) (next_of (Run g on)) → All (LeavesIdle n) (next_of (Run g on))
  others-idle n g on h other low k m l =
      let calm = no_call_next d n (Run g on) h (λ s i e. other i (cc)) k m l in
      below-idle n _ calm (low k m l calm)

  wave-down : (n : ℕ) (g : Segment) (on : WayOn) → slice_get (table_of d).nodes n ≡ Some (Run g on) → All (λ m. is_trap (slice_get (table_of d).nodes m) ≡ false → m < n) (targets (Run g on))
  wave-down n g on h = each_target (λ m. is_trap (slice_get (table_of d).nodes m) ≡ false → m < n) (Run g on) (λ m t calm. down-but-to-traps d n m g on h t calm)

  segment-idle : (n : ℕ) (g : Segment) (on : WayOn) → n < early_from d → slice_get (table_of d).nodes n ≡ Some (Run g on) → All (LeavesIdle n) (next_of (Run g on))
  segment-idle n g (Go to) l h = All-cons (LeavesIdle n) to [] (call-idle n to g h) (All-nil (LeavesIdle n))
  segment-idle n g (Branch e a b) l h = others-idle n g (Branch e a b) h (λ m q. cc) (wave-down n g (Branch e a b) h)
  segment-idle n g (Switch e ways other) l h = others-idle n g (Switch e ways other) h (λ m q. cc) (wave-down n g (Switch e ways other) h)
  segment-idle n g (Commit to) l h =
      let Q : ℕ → Type 0 = λ m. is_trap (slice_get (table_of d).nodes m) ≡ false → m < n in
      others-idle n g (Commit to) h (λ m q. cc) (All-cons Q to [] (λ calm. commits-down n to g l h) (All-nil Q))

  -- behind a segment's cycle
  pub idle-next : (files : List File) (nets : State → List (List ℕ)) (n : ℕ) (g : Segment) (on : WayOn) (t : State) (committed : List (List ℕ)) → slice_get (cell_nodes d) n ≡ Some (Run g on) →
      (y : Node) → slice_get (cell_nodes d) (goes_on d files nets on t committed).node ≡ Some y → idle_before (goes_on d files nets on t committed).node y ≤ n
  idle-next files nets n g on t committed there y e =
      let here = taken (early_from d) (table_of d).nodes n (Run g on) there in
      let m = (goes_on d files nets on t committed).node in
      next-in (LeavesIdle n) d files nets g on t committed (segment-idle n g on here.0 here.1) y (taken (early_from d) (table_of d).nodes m y e).1
