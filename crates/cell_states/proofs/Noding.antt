-- The states that a node adds.
use Rattle.std.proofs.Common.{◌≡◌, ◌≢◌, ℕ, ◌+◌, ◌<◌, ◌≤◌, Bool, true, false, List, [], ◌∷◌, ◌++◌, length, length-append, map, get_or, Option, Some, None, Result, Ok, Err, refl, sym, ap, ◌∙◌, arith, subst}
use Rattle.std.specs.Prelude.{slice_get, option_map, OnOk}
use Rattle.std.proofs.lemmas.Bool.{true≢false}
use Rattle.std.proofs.lemmas.List.{length-map}
use Rattle.std.proofs.lemmas.Option.{slice_get-map, slice_get_read, slice_get_within, none-some}
use Rattle.vl_design.specs.Syntax.{Task, Flat}
use Rattle.cell_emit.specs.cell_form.specs.declared.table.State.{State}
use Rattle.cell_emit.specs.cell_form.specs.Data.{StateData}
use Rattle.cell_emit.specs.cell_form.specs.Views.{list_of, state_of}
use Rattle.ten_form.specs.sub_nodes.specs.Nodes.{Segment, WayOn, Go, Branch, Switch, Commit, Node, Run, Trap, Apply}
use Rattle.ten_form.specs.sub_nodes.specs.Cycles.{is_trap}
use Rattle.ten_form.specs.sub_split.specs.declared.table.Node.{Node as NodeCode}
use Rattle.ten_form.specs.sub_split.specs.Views.{node_view}
use Rattle.ten_form.specs.Banks.{stores_in, stores_after}
use Rattle.cell_calls.specs.Counts.{asked_count}
use Rattle.cell_expr.specs.Counts.{body_cells}
use Rattle.cell_calls.specs.Next.{next_count}
use Rattle.cell_states.specs.Cells.{segment_count, way_count, update_count, node_count}
use Rattle.ten_form.specs.States.{slots_in, Does, IsStateOf}
use Rattle.cell_states.specs.Trims.{Calls}
use Rattle.cell_states.specs.Tables.{go_of, AreFirst, HasOneMore, HasTwoMore}
use Rattle.cell_states.specs.Widths.{IsNarrow}
use Rattle.cell_states.proofs.Tabling.{go-is, comes-call, one-more, two-more, plain-run}
use Rattle.vl_design.specs.vl_base.proofs.Lists.{map_push as map-push}

-- of two facts on success
pub on-both : {T E P Q R : Type 0} (r : Result T E) → OnOk r P → OnOk r Q → (P → Q → R) → OnOk r R
on-both (Ok x) p q f = f p q
on-both (Err e) p q f = tt

-- a state more
pub has-one : (d : Flat) (order : List ℕ) (n : ℕ) (x : Node) (most : ℕ) (old new : List State) (s : State) (before after : ℕ) → new ≡ old ++ s ∷ [] → after ≡ slots_in (list_of s.cells) → s.cells.first ≡ before → length (list_of s.cells).cells ≤ most → IsNarrow d (state_of s) → Does d order n x (state_of s) →
    HasOneMore d order n x most (map state_of old) before (map state_of new) after
has-one d order n x most old new s before after e a first few narrow does = record { state = state_of s; is = ap (map state_of) e ∙ map-push state_of old s; grows = omega (arith, a, first); slots = sym a; does = does; few = few; narrow = narrow }

-- two states more
pub has-two : (d : Flat) (order : List ℕ) (n : ℕ) (g : Segment) (trap : ℕ) (task : Task) (to most : ℕ) (old mid new : List State) (run wait : State) (before after : ℕ) → mid ≡ old ++ run ∷ [] → new ≡ mid ++ wait ∷ [] →
    after ≡ slots_in (list_of wait.cells) → slots_in (list_of wait.cells) ≡ slots_in (list_of run.cells) → run.cells.first ≡ before → length (list_of run.cells).cells ≤ most → IsNarrow d (state_of run) → Calls d order n g trap task to (state_of run) (state_of wait) →
    HasTwoMore d order n g trap task to most (map state_of old) before (map state_of new) after
has-two d order n g trap task to most old mid new run wait before after m e a behind first few narrow calls = record {
  run = state_of run;
  wait = state_of wait;
  is = ap (map state_of) e ∙ map-push state_of mid wait ∙ ap (λ ss. ss ++ state_of wait ∷ []) (ap (map state_of) m ∙ map-push state_of old run);
  grows = omega (arith, a, behind, first);
  slots = sym behind ∙ sym a;
  slots_behind = sym a;
  calls = calls;
  few = few;
  narrow = narrow;
}

-- the node of a number
pub node-there : (nodes : List NodeCode) (states : List State) (k : ℕ) (x : NodeCode) → k ≡ length states → k < length nodes → x ≡ get_or nodes k x → slice_get (map node_view nodes) (length (map state_of states)) ≡ Some (node_view x)
node-there nodes states k x e lt is =
    ap (slice_get (map node_view nodes)) (length-map states state_of ∙ sym e) ∙ slice_get-map node_view nodes k ∙ ap (option_map node_view) (slice_get_read nodes (length nodes) k x refl lt is)

pub node-behind : (nodes : List NodeCode) (states : List State) (k : ℕ) (x : NodeCode) → k ≡ length states → k + 1 < length nodes → x ≡ get_or nodes (k + 1) x → slice_get (map node_view nodes) (length (map state_of states) + 1) ≡ Some (node_view x)
node-behind nodes states k x e lt is =
    ap (λ n. slice_get (map node_view nodes) (n + 1)) (length-map states state_of ∙ sym e) ∙ slice_get-map node_view nodes (k + 1) ∙ ap (option_map node_view) (slice_get_read nodes (length nodes) (k + 1) x refl lt is)

abbrev way-go : Node → Option ℕ
way-go (Run g on) = go_of on
way-go x = None

abbrev is-run : Node → Bool
is-run (Run g on) = true
is-run x = false

module _ (d : Flat) (order : List ℕ) (nodes : List Node) (old : List StateData) (before stores : ℕ) (first : AreFirst d order nodes old before stores) where
  add-one : (x : Node) (most : ℕ) (new : List StateData) (after left : ℕ) → HasOneMore d order (length old) x most old before new after → most ≤ node_count d order nodes x → slice_get nodes (length old) ≡ Some x → is_trap (Some x) ≡ false →
      ((g : Segment) (k : ℕ) → x ≢ Run g (Go k)) → left ≡ length (stores_after d (length old + 1)) →
      ((n : ℕ) (ss : List StateData) (s : StateData) → Does d order (length old) x s → IsStateOf d order (length old) n nodes ss x s) → AreFirst d order nodes new after left
  add-one x most new after left h enough there free apart less plain =
      subst (λ ss. AreFirst d order nodes ss after left) (sym h.is)
      (one-more d order nodes old before after stores first h.grows x h.state left there free apart (let s = h.slots in omega (arith, s)) (let f = h.few in omega (arith, f, enough)) h.narrow less (plain after (old ++ h.state ∷ []) h.state h.does))

  pub add-run-state : (g : Segment) (on : WayOn) (most : ℕ) (new : List StateData) (after left : ℕ) → go_of on ≡ None → HasOneMore d order (length old) (Run g on) most old before new after → most ≤ node_count d order nodes (Run g on) → slice_get nodes (length old) ≡ Some (Run g on) →
      left ≡ length (stores_after d (length old + 1)) → AreFirst d order nodes new after left
  add-run-state g on most new after left none h enough there less =
      add-one (Run g on) most new after left h enough there refl (λ q k z. none-some k (sym none ∙ ap way-go z)) less (λ n ss s does. plain-run d order nodes (length old) n ss g on s none does)

  pub add-update-state : (to : ℕ) (new : List StateData) (after left : ℕ) → HasOneMore d order (length old) (Apply to) (update_count d) old before new after → slice_get nodes (length old) ≡ Some (Apply to) →
      left ≡ length (stores_after d (length old + 1)) → AreFirst d order nodes new after left
  add-update-state to new after left h there less = add-one (Apply to) (update_count d) new after left h (omega arith) there refl (λ q k z. apart z) less (λ n ss s does. does)
    where
      apart : {g : Segment} {k : ℕ} → Apply to ≡ Run g (Go k) → ⊥
      apart z = true≢false (sym (ap is-run z))

  pub add-call-states : (g : Segment) (on : WayOn) (trap to : ℕ) (task : Task) (most : ℕ) (new : List StateData) (after left : ℕ) → go_of on ≡ Some trap → HasTwoMore d order (length old) g trap task to most old before new after →
      most ≤ segment_count d order (length (stores_in d)) g + (1 + asked_count (body_cells d) task) →
      slice_get nodes (length old) ≡ Some (Run g on) → slice_get nodes (length old + 1) ≡ Some (Trap task to) → left ≡ length (stores_after d (length old + 2)) → AreFirst d order nodes new after left
  add-call-states g on trap to task most new after left go h enough there behind less =
      let at = there ∙ ap (λ w. Some (Run g w)) (go-is d order nodes on trap go) in
      let c = comes-call d order nodes (length old) g trap at first.rest in
      let run = h.slots in
      let wait = h.slots_behind in
      subst (λ ss. AreFirst d order nodes ss after left) (sym h.is)
      (two-more d order nodes old before after stores first h.grows g trap h.run h.wait left at (record { task = task; to = to; is = c.is; node = behind; rest = c.rest }) (omega (arith, run)) (omega (arith, wait)) (few c.is) h.narrow less h.calls)
    where
      few : trap ≡ length old + 1 → length h.run.cells.cells ≤ node_count d order nodes (Run g (Go trap))
      few is =
          let e : slice_get nodes trap ≡ Some (Trap task to) = ap (slice_get nodes) is ∙ behind in
          let f = h.few in
          rw e (omega (arith, f, enough))

  -- behind a segment that comes to a call, nothing else is next
  pub call-behind : (g : Segment) (on : WayOn) (trap : ℕ) (y : Node) → go_of on ≡ Some trap → slice_get nodes (length old) ≡ Some (Run g on) → slice_get nodes (length old + 1) ≡ Some y → is_trap (Some y) ≡ false → ⊥
  call-behind g on trap y go there behind free =
      let at = there ∙ ap (λ w. Some (Run g w)) (go-is d order nodes on trap go) in
      let c = comes-call d order nodes (length old) g trap at first.rest in
      true≢false (ap is_trap (sym c.node ∙ behind) ∙ free)

  -- and this is there
  pub call-room : (g : Segment) (on : WayOn) (trap : ℕ) → go_of on ≡ Some trap → slice_get nodes (length old) ≡ Some (Run g on) → length old + 1 < length nodes
  call-room g on trap go there =
      let at = there ∙ ap (λ w. Some (Run g w)) (go-is d order nodes on trap go) in
      let c = comes-call d order nodes (length old) g trap at first.rest in
      slice_get_within nodes (length old + 1) (Trap c.task c.to) c.node

-- ---- there are more states then

pub one-longer : (d : Flat) (order : List ℕ) (n : ℕ) (x : Node) (most : ℕ) (old new : List State) (before after : ℕ) → HasOneMore d order n x most (map state_of old) before (map state_of new) after → length old < length new
one-longer d order n x most old new before after h =
    let a = length-map old state_of in
    let b = length-map new state_of in
    let e = ap (λ (ss : List StateData). length ss) h.is in
    let f = length-append (map state_of old) (h.state ∷ []) in
    omega (arith, a, b, e, f)

pub two-longer : (d : Flat) (order : List ℕ) (n : ℕ) (g : Segment) (trap : ℕ) (task : Task) (to most : ℕ) (old new : List State) (before after : ℕ) → HasTwoMore d order n g trap task to most (map state_of old) before (map state_of new) after → length old < length new
two-longer d order n g trap task to most old new before after h =
    let a = length-map old state_of in
    let b = length-map new state_of in
    let e = ap (λ (ss : List StateData). length ss) h.is in
    let f = length-append (map state_of old) (h.run ∷ []) in
    let i = length-append (map state_of old ++ h.run ∷ []) (h.wait ∷ []) in
    omega (arith, a, b, e, f, i)

-- ---- how many cells they have

pub way-few : (d : Flat) (nodes : List Node) (on : WayOn) → next_count (body_cells d) on ≤ way_count d nodes on
way-few d nodes (Go to) = omega arith
way-few d nodes (Branch t first second) = omega arith
way-few d nodes (Switch e ws other) = omega arith
way-few d nodes (Commit to) = omega arith

pub run-few : (d : Flat) (order : List ℕ) (nodes : List Node) (g : Segment) (on : WayOn) (stores : ℕ) → stores ≤ length (stores_in d) →
    segment_count d order stores g + next_count (body_cells d) on ≤ node_count d order nodes (Run g on)
run-few d order nodes g on stores le = (let w = way-few d nodes on in omega (arith, w, le))

pub call-few : (d : Flat) (order : List ℕ) (g : Segment) (task : Task) (stores : ℕ) → stores ≤ length (stores_in d) →
    segment_count d order stores g + (1 + asked_count (body_cells d) task) ≤ segment_count d order (length (stores_in d)) g + (1 + asked_count (body_cells d) task)
call-few d order g task stores le = omega (arith, le)
