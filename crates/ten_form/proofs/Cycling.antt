-- One cycle of the states of an image.
use Rattle.std.proofs.Common.{◌≡◌, ℕ, ◌<◌, ◌≤◌, ◌^◌, Bool, true, false, List, [], ◌∷◌, length, map, Option, Some, inl, inr, refl, sym, ap, ◌∙◌, arith, subst}
use Rattle.std.specs.Prelude.{◌==◌, ◌||◌, if◌then◌else◌, slice_get}
use Rattle.std.specs.List.{list_any}
use Rattle.std.proofs.lemmas.Bool.{eq-eqb, true≢false}
use Rattle.std.proofs.lemmas.List.{length-map}
use Rattle.std.proofs.lemmas.Option.{slice_get_within, slice_get_cases}
use Rattle.vl_design.specs.vl_base.specs.declared.files.File.{File}
use Rattle.vl_design.specs.declared.design.Form.{Form}
use Rattle.vl_design.specs.Exec.{is_true, some_match}
use Rattle.vl_design.specs.Functions.{scope_of}
use Rattle.vl_design.specs.State.{sample}
use Rattle.vl_design.specs.Syntax.{Task, Flat}
use Rattle.vl_design.specs.Value.{Sample, value}
use Rattle.vl_design.specs.Width.{Scope, form}
use Rattle.cell_emit.specs.cell_form.specs.Cycle as cells
use Rattle.cell_emit.specs.cell_form.specs.Data.{BankData, StateData}
use Rattle.cell_emit.specs.cell_form.specs.Sound.{Shape, SameShape, shape_of}
use Rattle.cell_emit.specs.cell_form.proofs.Cycling.{same-shape}
use Rattle.cell_emit.specs.cell_form.specs.States.{table_cycled, state_cycled}
use Rattle.sub_split.specs.sub_nodes.specs.Nodes.{Way, Go, Branch, Switch, Commit, Node, Run, Trap, Apply}
use Rattle.sub_split.specs.sub_nodes.specs.Cycles.{Stage, cycled, cycle, segment_done, ways_form, way_of, is_trap}
use Rattle.ten_form.specs.Banks.{cell_nodes, IsFor}
use Rattle.ten_form.specs.Nets.{nets_of, IsTidy, HoldsNoOthers}
use Rattle.ten_form.specs.Registers.{state_register}
use Rattle.ten_form.specs.Asked.{asked}
use Rattle.ten_form.specs.Delays.{IsDue}
use Rattle.ten_form.specs.Paired.{leads, GoesTo, CallsStandApart}
use Rattle.ten_form.specs.States.{slots_in, behind, MayCycle, Does, LeadsToCall, IsStateOf, AreStates, StandsAt}
use Rattle.vl_design.specs.vl_base.proofs.Booleans.{or_true_right as or-right}

-- ---- where a node leads

skip : (a b r : Bool) → (a || r) ≡ true → (a || (b || r)) ≡ true
skip true b r h = refl
skip false true r h = refl
skip false false r h = h

in-ways : (scope : Scope) (s : Sample) (v : ℕ) (c : Form) (ws : List Way) (other : ℕ) → list_any (λ k. k == way_of scope s v c ws other) (other ∷ map (λ (w : Way). w.to) ws) ≡ true
in-ways scope s v c [] other = rw (eq-eqb other other refl) refl
in-ways scope s v c (w ∷ ws) other = of (some_match scope s c v w.labels) (in-ways scope s v c ws other)
  where
    of : (q : Bool) → list_any (λ k. k == way_of scope s v c ws other) (other ∷ map (λ (w : Way). w.to) ws) ≡ true →
        list_any (λ k. k == (if q then w.to else way_of scope s v c ws other)) (other ∷ w.to ∷ map (λ (z : Way). z.to) ws) ≡ true
    of true h = rw (eq-eqb w.to w.to refl) (or-right (other == w.to))
    of false h = skip (other == way_of scope s v c ws other) (w.to == way_of scope s v c ws other) _ h

one : (n : ℕ) → list_any (λ k. k == n) (n ∷ []) ≡ true
one n = rw (eq-eqb n n refl) refl

two : (q : Bool) (a b : ℕ) → list_any (λ k. k == (if q then a else b)) (a ∷ b ∷ []) ≡ true
two true a b = rw (eq-eqb a a refl) refl
two false a b = rw (eq-eqb b b refl) (or-right (a == b))

module _ (d : Flat) (order : List ℕ) (files : List File) where
  -- behind its cycle a node is one of those that it leads to
  next-led : (x : Node) (i : Stage) → is_trap (Some x) ≡ false → list_any (λ k. k == (behind d order files x i).node) (leads x) ≡ true
  next-led (Run g (Go to)) i h = one to
  next-led (Run g (Branch t first second)) i h = two (is_true (scope_of d files) t (segment_done (scope_of d files) g i.state)) first second
  next-led (Run g (Switch e ws other)) i h =
      let scope = scope_of d files in
      let s = segment_done scope g i.state in
      let c = ways_form scope.names (form scope.names e) ws in
      in-ways scope (sample s) (value scope (sample s) e c) c ws other
  next-led (Run g (Commit to)) i h = one to
  next-led (Trap task to) i h = absurd (true≢false h)
  next-led (Apply to) i h = one to

  -- a node that is no call's has no trap
  does-of : (n : ℕ) (slots : ℕ) (nodes : List Node) (states : List StateData) (x : Node) (s : StateData) → is_trap (Some x) ≡ false → IsStateOf d order n slots nodes states x s → Does d order n x s
  does-of n slots nodes states (Run g (Go to)) s h is = is.0
  does-of n slots nodes states (Run g (Branch t first second)) s h is = is
  does-of n slots nodes states (Run g (Switch e ws other)) s h is = is
  does-of n slots nodes states (Run g (Commit to)) s h is = is
  does-of n slots nodes states (Trap task to) s h is = absurd (true≢false h)
  does-of n slots nodes states (Apply to) s h is = is

  leads-of : (n : ℕ) (slots : ℕ) (nodes : List Node) (states : List StateData) (x : Node) (s : StateData) (m : ℕ) → GoesTo x m → IsStateOf d order n slots nodes states x s → LeadsToCall d order n nodes states x s m
  leads-of n slots nodes states (Run g (Go to)) s m h is = subst (LeadsToCall d order n nodes states (Run g (Go to)) s) h is.1
  leads-of n slots nodes states (Run g (Branch t first second)) s m h is = absurd h
  leads-of n slots nodes states (Run g (Switch e ws other)) s m h is = absurd h
  leads-of n slots nodes states (Run g (Commit to)) s m h is = absurd h
  leads-of n slots nodes states (Trap task to) s m h is = absurd h
  leads-of n slots nodes states (Apply to) s m h is = absurd h

  abbrev trap-task : Option Node → Task → Task
  trap-task (Some (Trap task to)) other = task
  trap-task o other = other

  same-task : (nodes : List Node) (m : ℕ) (task other : Task) (to at : ℕ) → slice_get nodes m ≡ Some (Trap task to) → slice_get nodes m ≡ Some (Trap other at) → task ≡ other
  same-task nodes m task other to at e f = ap (λ o. trap-task o task) (sym e ∙ f)

  for-bank : (slots : ℕ) (b c : BankData) → SameShape c b → IsFor d slots (shape_of b) → IsFor d slots (shape_of c)
  for-bank slots b c same f =
      let m = ap (λ (xs : List ℕ). length xs) same.mems in
      record {
        regs = same.regs ∙ f.regs;
        mems = sym (length-map c.mems (λ (m : List ℕ). length m)) ∙ m ∙ length-map b.mems (λ (m : List ℕ). length m) ∙ f.mems;
        slots = (let e = same.slots in let h = f.slots in omega (arith, e, h));
      }

  for-fewer : (n m : ℕ) (z : Shape) → n ≤ m → IsFor d m z → IsFor d n z
  for-fewer n m z le f = record { regs = f.regs; mems = f.mems; slots = (let h = f.slots in omega (arith, le, h)) }

  pub cycled-stands : (slots : ℕ) (states : List StateData) (b : BankData) (i : Stage) (x : Node) → AreStates d order slots (cell_nodes d) states → CallsStandApart (cell_nodes d) →
      StandsAt d order files slots (cell_nodes d) states b i → slice_get (cell_nodes d) i.node ≡ Some x → is_trap (Some x) ≡ false → IsTidy d files order i.state i.committed → HoldsNoOthers d i.state i.committed →
      HoldsNoOthers d (cycle d files (nets_of d files order) (cell_nodes d) i).state (cycle d files (nets_of d files order) (cell_nodes d) i).committed → IsDue d x i → i.state.finished ≡ false →
      (cycle d files (nets_of d files order) (cell_nodes d) i).state.ticks < 2 ^ 32 →
      StandsAt d order files slots (cell_nodes d) states (table_cycled (record { state = state_register; states = states }) b) (cycle d files (nets_of d files order) (cell_nodes d) i)
  cycled-stands slots states b i x all apart st is free tidy others after due alive few =
      elim ((slice_get_cases states i.node).1) [
        | inl h ↦ subst (λ o. StandsAt d order files slots (cell_nodes d) states (state_cycled o b) (cycle d files (nets_of d files order) (cell_nodes d) i)) (sym (ap (slice_get states) st.stage.node ∙ h.2)) (stands h.0 h.2)
        | inr h ↦ (let lt = slice_get_within (cell_nodes d) i.node x is in let many = all.many in let past = h.0 in absurd (omega (arith, lt, many, past)))
      ]
    where
      stands : (s : StateData) → slice_get states i.node ≡ Some s → StandsAt d order files slots (cell_nodes d) states (cells.cycled s.cells b) (cycle d files (nets_of d files order) (cell_nodes d) i)
      stands s e =
          let j = behind d order files x i in
          let same : cycle d files (nets_of d files order) (cell_nodes d) i ≡ j = ap (λ o. cycled d files (nets_of d files order) o i) is in
          let of = all.each i.node x s is e in
          let does = does-of i.node slots (cell_nodes d) states x s free of in
          let fits = all.fits i.node s e in
          let shape = for-fewer (slots_in s.cells) slots (shape_of b) fits st.shape in
          let may : MayCycle d order files i.node x (slots_in s.cells) b i = record { at = refl; there = is; shape = shape; tidy = tidy; others = others; others_behind = subst (λ (k : Stage). HoldsNoOthers d k.state k.committed) same after; due = due; alive = alive; few = subst (λ (k : Stage). k.state.ticks < 2 ^ 32) same few; stage = st.stage } in
          subst (StandsAt d order files slots (cell_nodes d) states (cells.cycled s.cells b)) (sym same) (record {
            shape = for-bank slots b (cells.cycled s.cells b) (same-shape s.cells b (does.does.runs (shape_of b) shape)) st.shape;
            stage = does.does.does files b i may;
            asked = λ task to at.
                let leads = leads-of i.node slots (cell_nodes d) states x s j.node (apart i.node j.node x task to is (next-led x i free) at) of in
                let t = same-task (cell_nodes d) j.node leads.task task leads.to to leads.node at in
                record {
                  trap = leads.trap;
                  there = leads.there;
                  args = leads.asks.asks files b i may ∙ ap (asked (scope_of d files) (sample j.state)) t;
                };
          })
