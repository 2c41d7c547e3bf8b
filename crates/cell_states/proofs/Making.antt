-- The cells and writes of a segment's state.
use Rattle.std.proofs.Common.{◌≡◌, ℕ, ◌+◌, ◌<◌, ◌≤◌, ◌^◌, Bool, true, false, List, [], ◌++◌, length, map, take, drop, Option, Some, None, refl, sym, ap, ◌∙◌, arith, subst, inl, inr}
use Rattle.std.specs.Prelude.{◌==◌, All, not, if◌then◌else◌, slice_get, slice_index, slice_index_or}
use Rattle.std.specs.List.{AllByRecursion}
use Rattle.std.proofs.lemmas.List.{take-append-le}
use Rattle.std.proofs.lemmas.List.Elements.{recursion_from_All, All-from_recursion}
use Rattle.vl_design.specs.vl_base.specs.declared.files.File.{File}
use Rattle.vl_design.specs.Functions.{scope_of}
use Rattle.vl_design.specs.Sound.{IsSignal, IsMemory}
use Rattle.vl_design.specs.State.{State, Update, sample, counted}
use Rattle.vl_design.specs.Syntax.{Task, Flat}
use Rattle.vl_design.specs.Value.{Sample, own_value, value_of, words_of}
use Rattle.vl_design.specs.Width.{Names, names_of}
use Rattle.ten_form.specs.vl_runs.specs.Computed.{computed_at}
use Rattle.cell_emit.specs.vl_sites.specs.Others.{other_at}
use Rattle.cell_emit.specs.cell_form.specs.declared.cell.Write.{Write}
use Rattle.cell_emit.specs.cell_form.specs.Cycle.{written}
use Rattle.cell_emit.specs.cell_form.specs.Data.{ListData, BankData}
use Rattle.cell_emit.specs.cell_form.specs.Sound.{Shape, shape_of}
use Rattle.cell_emit.specs.Slots.{held, IsIn, AreSound, Grows}
use Rattle.cell_emit.proofs.Frames.{held-stays, longer-grows, grows-then}
use Rattle.cell_emit.specs.Envs.{Env, IsThere, Fits, HasMemories, Stands}
use Rattle.cell_emit.proofs.Staying.{fits-stays, stands-stays, is-slot-stays}
use Rattle.cell_emit.specs.declared.pending.Site.{Site}
use Rattle.cell_emit.specs.Pendings.{PendingSlots, memories_of, IsSite, ArePending, Pends}
use Rattle.cell_emit.proofs.Keeping.{pending-stays, pends-stays}
use Rattle.cell_expr.specs.Compiled.{Holds}
use Rattle.cell_calls.specs.Next.{next_node}
use Rattle.cell_waves.specs.Begins.{Begins, IsPendingRead}
use Rattle.cell_waves.specs.Copies.{marked_one}
use Rattle.cell_waves.specs.Ends.{Ends, Leads, IsLike}
use Rattle.cell_waves.specs.Lasts.{last_write, held_after}
use Rattle.cell_waves.proofs.Beginning.{read-stays, settles-stay}
use Rattle.cell_waves.proofs.Ending.{signal-below, ends-beside, memories-hold, segment-writes, commit-writes}
use Rattle.cell_waves.proofs.Lasting.{register-behind}
use Rattle.ten_form.specs.sub_nodes.specs.Nodes.{Segment, WayOn, Go, Branch, Switch, Commit, Node, Run}
use Rattle.ten_form.specs.sub_nodes.specs.Early.{early_from}
use Rattle.ten_form.specs.sub_nodes.specs.Code.{table_of}
use Rattle.ten_form.specs.sub_nodes.specs.Cycles.{Stage, goes_on, segment_done, settled}
use Rattle.ten_form.specs.declared.store.Store.{Store}
use Rattle.ten_form.specs.Holding.{IsStore, IsIdle, HoldsWords}
use Rattle.ten_form.specs.Stores.{all_stored, AreApart, IsBeside}
use Rattle.ten_form.proofs.Cutting.{below-fewer}
use Rattle.ten_form.proofs.Apart as places
use Rattle.ten_form.proofs.Same.{all-from, all-with}
use Rattle.ten_form.specs.Registers.{state_register, ticks_register}
use Rattle.ten_form.specs.Nets.{nets_of, HoldsNoOthers}
use Rattle.ten_form.specs.Banks.{cell_nodes, stores_in, stores_before, stores_after, IsFor, HoldsSignals, HoldsState}
use Rattle.ten_form.specs.Asked.{asked}
use Rattle.ten_form.specs.States.{idle_before, behind, MayCycle, HoldsStage}
use Rattle.cell_waves.specs.Reading.{EachHas, HasStore, IsRead, Reads}
use Rattle.cell_waves.specs.Keeping.{each_written, keep_writes, IsHeld, IsKept, IsLeft, Keeps, IsSegment}
use Rattle.cell_waves.proofs.Keeping.{beside-other}
use Rattle.cell_waves.proofs.Listing.{all-both, each-from, each-long, each-with}
use Rattle.cell_trim.specs.Widths.{IsWithin}
use Rattle.cell_waves.proofs.Leaving.{idle-yet, holds-more, holds-fewer}
use Rattle.cell_waves.proofs.Reading as reading
use Rattle.cell_waves.proofs.Reading.{reads-memories, reads-words}
use Rattle.cell_states.specs.Designs.{ComputesAlone}
use Rattle.cell_states.specs.Ended.{IsEnd}
use Rattle.cell_states.specs.Mades.{is_end, IsMade, Starts, AsksBehind}
use Rattle.cell_states.specs.Marks.{AreDelayed}
use Rattle.cell_states.specs.Segments.{HoldsTicks, IsTicks, DoesSegment}
use Rattle.cell_states.specs.Widths.{register_width}
use Rattle.cell_states.proofs.Narrowing.{HasWidths, stores-widths, keep-within}
use Rattle.cell_states.proofs.Alone.{pass-keeps, other-plain}
use Rattle.cell_states.proofs.Storing.{all-front, memory-plain, own-memories, of-sites, from, top, mid, kept-cut, own-cut, after-disjoint, after-within, signals-beside, before-beside, before-within, has-in, has-after}
use Rattle.cell_states.proofs.Fronting.{all-take, all-drop, each-take, each-parts, front-apart, drop-disjoint, drop-same}
use Rattle.cell_states.proofs.Stretching.{segment-ticks}
use Rattle.cell_states.proofs.Waving.{taken, idle-next}
use Rattle.cell_states.proofs.Delaying.{segment-late}

-- ---- where a node goes on

if-not : {A : Type 0} (v : ℕ) (x y : A) → (if not (v == 0) then x else y) ≡ (if v == 0 then y else x)
if-not v x y = of (v == 0)
  where
    of : (b : Bool) → (if not b then x else y) ≡ (if b then y else x)
    of true = refl
    of false = refl

-- counting an act leaves what registers hold
holds-counted : (d : Flat) (b : BankData) (t : State) (committed : List (List ℕ)) → HoldsSignals d b t committed → HoldsSignals d b (counted t) committed
holds-counted d b t committed h = record {
  works = h.works;
  values = h.values;
  pending = h.pending;
  ticks = h.ticks;
  few = h.few;
  answer = h.answer;
  small = h.small;
}

module _ (d : Flat) (order : List ℕ) (files : List File) where
  goes-node : (on : WayOn) (t : State) (committed : List (List ℕ)) → (goes_on d files (nets_of d files order) on t committed).node ≡ next_node (scope_of d files) (sample t) on
  goes-node (Go to) t committed = refl
  goes-node (Branch e first second) t committed = if-not (own_value (scope_of d files) (sample t) e) first second
  goes-node (Switch e ws other) t committed = refl
  goes-node (Commit to) t committed = refl

  goes-ticks : (on : WayOn) (t : State) (committed : List (List ℕ)) → (goes_on d files (nets_of d files order) on t committed).state.ticks ≡ t.ticks
  goes-ticks (Go to) t committed = refl
  goes-ticks (Branch e first second) t committed = refl
  goes-ticks (Switch e ws other) t committed = refl
  goes-ticks (Commit to) t committed = refl

  goes-later : (on : WayOn) (t : State) (committed : List (List ℕ)) → (goes_on d files (nets_of d files order) on t committed).state.later ≡ t.later
  goes-later (Go to) t committed = refl
  goes-later (Branch e first second) t committed = refl
  goes-later (Switch e ws other) t committed = refl
  goes-later (Commit to) t committed = refl

  -- what isn't computed stays
  goes-words : ComputesAlone d → (k : ℕ) → computed_at d.rows k ≡ false → (on : WayOn) (t : State) (committed : List (List ℕ)) →
      words_of (goes_on d files (nets_of d files order) on t committed).state.values k ≡ words_of t.values k
  goes-words alone k plain (Go to) t committed = refl
  goes-words alone k plain (Branch e first second) t committed = refl
  goes-words alone k plain (Switch e ws other) t committed = refl
  goes-words alone k plain (Commit to) t committed = pass-keeps d files (counted t) k alone plain order t.values

  -- loop variables and clocks are 0 behind a segment, where they are behind its way on
  none-behind : ComputesAlone d → (on : WayOn) (t : State) (committed : List (List ℕ)) → ((k : ℕ) → other_at d.rows k ≡ true → value_of committed k ≡ 0) →
      (let j = goes_on d files (nets_of d files order) on t committed in HoldsNoOthers d j.state j.committed) → HoldsNoOthers d t committed
  none-behind alone on t committed before h = record {
    now = λ k o. sym (ap (λ ws. slice_index ws 0) (goes-words alone k (other-plain d.rows k o) on t committed)) ∙ h.now k o;
    before = before;
    later = subst (All (λ (u : Update). other_at d.rows u.signal ≡ false)) (goes-later on t committed) h.later;
  }

  like-settled : ComputesAlone d → (t : State) → IsLike d t (settled d files (nets_of d files order) (counted t))
  like-settled alone t = record {
    values = λ k i other. ap (λ ws. slice_index ws 0) (pass-keeps d files (counted t) k alone other order t.values);
    later = refl;
    answer = refl;
    ticks = refl;
  }

-- ---- a segment's state

-- the sites behind a segment are of the stores that its state keeps
pub starts-same : (d : Flat) (order : List ℕ) (n : ℕ) (g : Segment) (on : WayOn) (l : ListData) (at at' : Env) (p p' : PendingSlots) (sites : List Site) (ticks : Option ℕ) → slice_get (cell_nodes d) n ≡ Some (Run g on) →
    Starts d order (n + 1) g l at at' p p' sites ticks → map (λ (x : Store). x.memory) (stores_after d n) ≡ memories_of p'.sites
starts-same d order n g on l at at' p p' sites ticks there st =
    own-memories d n (Run g on) there
    ∙ (ap (λ ms. ms ++ all_stored g.statements) (sym (reads-memories d.rows (stores_after d (n + 1)) st.first st.second [] sites st.reads)) ∙ sym st.does.sites)

module _ (d : Flat) (order : List ℕ) (marks : List Bool) (late : AreDelayed d marks) (n : ℕ) (g : Segment) (on : WayOn) (l0 l1 l2 l3 : ListData) (at0 at1 : Env) (p0 p1 : PendingSlots) (sites : List Site) (ticks : Option ℕ) (next count : ℕ) (ends sets : List Write)
    (begins : Begins d order (record { first = 0; cells = []; sets = [] }) l0 at0 p0) (reads : Reads d.rows (stores_after d (n + 1)) l0 l1 [] sites)
    (seg : DoesSegment d g at0 at1 (record p0 { sites = sites }) p1 l1 l2 ticks) (goes : (files : List File) → Holds (names_of d) count at1 l2 l3 next 32 (λ x. next_node (scope_of d files) x on))
    (end : IsEnd d (is_end on) marks at0 at1 p0 p1 ticks next ends) (front : ℕ) (front-few : front ≤ length sites) (front-same : take front sites ≡ take front p1.sites) (keeps : Keeps (drop front (stores_after d n)) (drop front p1.sites) ends sets) (same : map (λ (x : Store). x.memory) (stores_after d n) ≡ memories_of p1.sites)
    (above : AllByRecursion (λ x. IsMemory (names_of d) x.memory) (stores_after d (n + 1))) (alone : ComputesAlone d) where
  abbrev names : Names
  names = names_of d

  g01 : Grows l0 l1
  g01 = longer-grows (λ z. AllByRecursion (HasStore z) (stores_after d (n + 1))) _ l0 l1 reads.longer

  g23 : Grows l2 l3
  g23 = longer-grows (HasMemories names at1) count l2 l3 (goes []).longer

  g13 : Grows l1 l3
  g13 = grows-then l1 l2 l3 seg.grows g23

  g03 : Grows l0 l3
  g03 = grows-then l0 l1 l3 g01 g13

  memories-there : (z : Shape) → IsFor d 0 z → HasMemories names at1 z
  memories-there z h m i = subst (IsThere z) (sym (seg.memories m i)) (begins.memories z h m i)

  sound0 : (z : Shape) → IsFor d 0 z → AreSound z l0
  sound0 z h = begins.sound z h tt

  sound1 : (z : Shape) → IsFor d 0 z → AreSound z l1
  sound1 z h = reads.longer.sound z (has-after d (n + 1) z h above) (sound0 z h)

  sound2 : (z : Shape) → IsFor d 0 z → AreSound z l2
  sound2 z h = seg.sound z (begins.memories z h) (sound1 z h)

  sound3 : (z : Shape) → IsFor d 0 z → AreSound z l3
  sound3 z h = (goes []).longer.sound z (memories-there z h) (sound2 z h)

  fits3 : Fits names l3 at1
  fits3 = fits-stays names l2 l3 at1 g23 seg.fits

  pending3 : ArePending names l3 p1
  pending3 = pending-stays names l2 l3 p1 g23 seg.pending

  -- the stores of the nodes from this one on are of memories
  kept-memories : AllByRecursion (λ x. IsMemory names x.memory) (stores_after d n)
  kept-memories = of-sites names l3 (stores_after d n) p1.sites same (recursion_from_All (IsSite names l3) p1.sites pending3.sites)

  -- ---- the writes

  signal-write : (r : ℕ) → r < from d → last_write sets r ≡ last_write ends r
  signal-write r lt = keeps.others r (all-drop (IsBeside r) front (stores_after d n) (signals-beside d n r lt))

  all-ends : Ends d.rows (is_end on) marks at0 at1 p0 p1 at1.here sets
  all-ends = ends-beside d.rows (is_end on) marks at0 at1 p0 p1 at1.here ends sets end.ends (keeps.registers end.ends.registers) (λ r h k lt. signal-write r lt)

  node-write : last_write sets state_register ≡ Some next
  node-write = signal-write state_register (omega arith) ∙ end.node

  ticks-write : last_write sets ticks_register ≡ ticks
  ticks-write = signal-write ticks_register (omega arith) ∙ end.counts

  -- the stores before the node aren't written
  left-one : (x : Store) → mid d n ≤ x.first → IsLeft sets x
  left-one x h r low high = keeps.others r (all-drop (IsBeside r) front (stores_after d n) (before-beside d n r (omega (arith, h, low)))) ∙ end.beside r (omega (arith, h, low))

  left : AllByRecursion (IsLeft sets) (stores_before d n)
  left = all-from (λ x. mid d n ≤ x.first) (IsLeft sets) left-one (stores_before d n) (before-within d n)

  -- nor are those whose sites are the ones that were read
  front-one : (x : Store) → AllByRecursion (AreApart x) (drop front (stores_after d n)) → places.IsWithin (from d) (top d) x → IsLeft sets x
  front-one x apart within r low high =
      keeps.others r (all-from (AreApart x) (IsBeside r) (λ y a. beside-other x y r low high a) (drop front (stores_after d n)) apart) ∙ end.beside r (let a = within.0 in omega (arith, a, low))

  front-left : AllByRecursion (IsLeft sets) (take front (stores_after d n))
  front-left =
      all-with (λ x. AllByRecursion (AreApart x) (drop front (stores_after d n))) (places.IsWithin (from d) (top d)) (IsLeft sets) front-one (take front (stores_after d n))
      (front-apart front (stores_after d n) (after-disjoint d n)) (all-take (places.IsWithin (from d) (top d)) front (stores_after d n) (after-within d n))

  read1 : EachHas (IsRead d.rows l1) (stores_after d (n + 1)) sites
  read1 = subst (EachHas (IsRead d.rows l1) (stores_after d (n + 1))) (sym reads.are) reads.read

  read3 : EachHas (IsRead d.rows l3) (stores_after d (n + 1)) sites
  read3 = each-from (IsRead d.rows l1) (IsRead d.rows l3) (λ x s. reading.read-stays d.rows l1 l3 x s g13) (stores_after d (n + 1)) sites read1

  front-read : slice_get (cell_nodes d) n ≡ Some (Run g on) → EachHas (IsRead d.rows l3) (take front (stores_after d n)) (take front p1.sites)
  front-read there =
      let long = each-long (IsRead d.rows l3) (stores_after d (n + 1)) sites read3 in
      let cut = own-cut d n (Run g on) there in
      let firsts = ap (take front) cut ∙ take-append-le front (stores_after d (n + 1)) _ (omega (arith, long, front-few)) in
      subst (λ xs. EachHas (IsRead d.rows l3) xs (take front p1.sites)) (sym firsts)
      (subst (EachHas (IsRead d.rows l3) (take front (stores_after d (n + 1)))) front-same (each-take (IsRead d.rows l3) front (stores_after d (n + 1)) sites read3))

  each-held : slice_get (cell_nodes d) n ≡ Some (Run g on) → EachHas (IsHeld d l3 sets) (stores_after d n) p1.sites
  each-held there =
      each-parts (IsHeld d l3 sets) front (stores_after d n) p1.sites
      (each-with (IsLeft sets) (IsRead d.rows l3) (IsHeld d l3 sets) (λ x s a k. inr (a, k)) (take front (stores_after d n)) (take front p1.sites) front-left (front-read there))
      (each-from (IsKept sets) (IsHeld d l3 sets) (λ x s k. inl k) (drop front (stores_after d n)) (drop front p1.sites) (keeps.each (drop-disjoint front (stores_after d n) (after-disjoint d n))))

  module _ (files : List File) (b : BankData) (i : Stage) (may : MayCycle d order files n (Run g on) 0 b i) where
    abbrev t : State
    t = segment_done (scope_of d files) g i.state

    few : t.ticks < 2 ^ 32
    few = subst (λ k. k < 2 ^ 32) (goes-ticks d order files on t i.committed) may.few

    few-rising : g.rises ≡ true → i.state.ticks + 1 < 2 ^ 32
    few-rising e = subst (λ k. k < 2 ^ 32) (segment-ticks (scope_of d files) g i.state ∙ ap (λ r. if r then i.state.ticks + 1 else i.state.ticks) e) few

    a0 : AreSound (shape_of b) l0
    a0 = sound0 (shape_of b) may.shape

    a1 : AreSound (shape_of b) l1
    a1 = sound1 (shape_of b) may.shape

    abbrev was : HoldsState d b i.state i.committed
    was = may.stage.holds

    -- ---- what is idle before the segment

    idle-now : AllByRecursion (IsIdle b) (stores_before d (n + 1))
    idle-now =
        let there : slice_get (cell_nodes d) i.node ≡ Some (Run g on) = ap (slice_get (cell_nodes d)) may.at ∙ may.there in
        subst (λ k. AllByRecursion (IsIdle b) (stores_before d (k + 1))) may.at (may.stage.idle (Run g on) there)

    words-above : HoldsWords d b (stores_after d (n + 1)) i.state.later
    words-above = holds-fewer d b (stores_after d (n + 1)) (stores_before d (n + 1)) i.state.later (subst (λ xs. HoldsWords d b xs i.state.later) (kept-cut d (n + 1)) was.words) idle-now

    -- ---- what slots hold

    stands0 : Stands names b l0 at0 (sample i.state)
    stands0 = begins.stands files (shape_of b) b i.state i.committed tt may.alive may.tidy may.others was

    stands01 : Stands names b l1 at0 (sample i.state)
    stands01 = stands-stays names b l0 l1 at0 (sample i.state) g01 begins.fits stands0

    pends1 : Pends names b l1 (record p0 { sites = sites }) i.state.later
    pends1 = record {
      values = settles-stay d b l0 l1 p0 i.state.later g01 begins.pending (begins.pends (shape_of b) b i.state i.committed tt may.others was.signals);
      words = reads-words d (shape_of b) b l1 (stores_after d (n + 1)) sites i.state.later a1 read1 words-above;
    }

    read0 : IsPendingRead d b l0 p0
    read0 = begins.read (shape_of b) b i.state i.committed tt was.signals

    pub stands2 : Stands names b l2 at1 (sample t)
    stands2 = seg.stands files (shape_of b) b i.state a1 may.alive few-rising stands01

    stands3 : Stands names b l3 at1 (sample t)
    stands3 = stands-stays names b l2 l3 at1 (sample t) g23 seg.fits stands2

    stands03 : Stands names b l3 at0 (sample i.state)
    stands03 = stands-stays names b l0 l3 at0 (sample i.state) g03 begins.fits stands0

    pends3 : Pends names b l3 p1 t.later
    pends3 = pends-stays names b l2 l3 p1 t.later g23 seg.pending (seg.later files (shape_of b) b i.state a1 may.alive few-rising stands01 pends1)

    none-now : (k : ℕ) → IsSignal names k → marked_one marks k ≡ false → All (λ (u : Update). (u.signal == k) ≡ false) i.state.later
    none-now k j m = may.due.later k (sym (late.each k (signal-below names k j)) ∙ m)

    none-then : (k : ℕ) → IsSignal names k → marked_one marks k ≡ false → All (λ (u : Update). (u.signal == k) ≡ false) t.later
    none-then k j m = segment-late d files n g on i.state k (taken (early_from d) (table_of d).nodes n (Run g on) may.there).1 (sym (late.each k (signal-below names k j)) ∙ m) (none-now k j m)

    leads : Leads d b l3 i.state t i.committed marks at0 at1 p0 p1 at1.here
    leads = record {
      shape = shape_of b;
      sound = sound3 (shape_of b) may.shape;
      bank = may.shape;
      before = was.signals;
      first = begins.first;
      first_behind = seg.first ∙ begins.first;
      stands = stands03;
      stands_behind = stands3;
      read = read-stays d b l0 l3 p0 g03 begins.pending read0;
      pending = pending3;
      pends = pends3.values;
      zero = fits3.is_here (shape_of b) b (sound3 (shape_of b) may.shape);
      answer = sym stands3.answer ∙ ap (held b l3) seg.answer ∙ stands03.answer;
      few = few;
      none_before = none-now;
      none_behind = none-then;
      others = may.others;
      others_behind = none-behind d order files alone on t i.committed may.others.before may.others_behind;
    }

    ticks-held : held_after (held b l3) (last_write sets ticks_register) i.state.ticks ≡ t.ticks
    ticks-held = ap (λ o. held_after (held b l3) o i.state.ticks) ticks-write ∙ of g.rises refl ticks seg.slot (seg.counted (shape_of b) b i.state a1 few-rising stands01) ∙ sym (segment-ticks (scope_of d files) g i.state)
      where
        of : (r : Bool) → g.rises ≡ r → (o : Option ℕ) → IsTicks l2 o → HoldsTicks r b l2 o (i.state.ticks + 1) → held_after (held b l3) o i.state.ticks ≡ (if r then i.state.ticks + 1 else i.state.ticks)
        of true e (Some q) slot h = held-stays b l2 l3 q g23 slot.there ∙ h
        of true e None slot h = absurd h
        of false e o slot h = ap (λ u. held_after (held b l3) u i.state.ticks) h

    -- ---- behind its writes

    abbrev end-bank : BankData
    end-bank = written (held b l3) sets b

    node-held : slice_index end-bank.regs state_register ≡ next_node (scope_of d files) (sample t) on
    node-held =
        register-behind (held b l3) sets b state_register (let r = may.shape.regs in omega (arith, r))
        ∙ ap (λ o. held_after (held b l3) o (slice_index b.regs state_register)) node-write
        ∙ (goes files).value (shape_of b) b (sample t) (sound2 (shape_of b) may.shape) stands2

    signals : (w : WayOn) → on ≡ w → (let j = goes_on d files (nets_of d files order) w t i.committed in HoldsSignals d end-bank j.state j.committed)
    signals (Go to) e = segment-writes d b l3 i.state t i.committed marks at0 at1 p0 p1 at1.here (is_end on) sets leads all-ends (ap is_end e) ticks-held
    signals (Branch x first second) e = holds-counted d end-bank t i.committed (segment-writes d b l3 i.state t i.committed marks at0 at1 p0 p1 at1.here (is_end on) sets leads all-ends (ap is_end e) ticks-held)
    signals (Switch x ws other) e = holds-counted d end-bank t i.committed (segment-writes d b l3 i.state t i.committed marks at0 at1 p0 p1 at1.here (is_end on) sets leads all-ends (ap is_end e) ticks-held)
    signals (Commit to) e = commit-writes d b l3 i.state t i.committed marks at0 at1 p0 p1 at1.here (is_end on) sets leads all-ends (ap is_end e) ticks-held (settled d files (nets_of d files order) (counted t)) (like-settled d order files alone t)

    memories : (m : ℕ) → IsMemory names m → slice_index_or end-bank.mems m [] ≡ words_of (goes_on d files (nets_of d files order) on t i.committed).state.values m
    memories m k =
        memories-hold d b l3 at0 at1 i.state t i.committed (held b l3) sets m (keeps.registers end.ends.registers) was stands03 stands3 k (seg.memories m k)
        ∙ sym (goes-words d order files alone m (memory-plain names m k) on t i.committed)

    store-memories : AllByRecursion (λ x. IsMemory names x.memory) (stores_in d)
    store-memories = all-from (IsStore d b) (λ x. IsMemory names x.memory) (λ x h. h.memory) (stores_in d) (recursion_from_All (IsStore d b) (stores_in d) was.words.each)

    kept : IsSegment d b l3 (stores_after d n) (stores_before d n) p1.sites sets t.later
    kept = record {
      shape = shape_of b;
      sound = sound3 (shape_of b) may.shape;
      there = subst (AllByRecursion (HasStore (shape_of b))) (kept-cut d n) (has-in d (shape_of b) may.shape store-memories);
      slots = pending3.sites;
      each = each-held may.there;
      left = left;
      idle = below-fewer (IsIdle b) (from d) (cell_nodes d) (n + 1) n idle-now (omega arith);
      words = pends3.words;
    }

    words-kept : HoldsWords d end-bank (stores_in d) t.later
    words-kept =
        subst (λ xs. HoldsWords d end-bank xs t.later) (sym (kept-cut d n))
        (holds-more d b l3 (stores_after d n) (stores_before d n) p1.sites sets t.later kept i.state.later (subst (λ xs. HoldsWords d b xs i.state.later) (kept-cut d n) was.words))

    holds : let j = goes_on d files (nets_of d files order) on t i.committed in HoldsState d end-bank j.state j.committed
    holds = record {
      signals = signals on refl;
      memories = memories;
      words = subst (HoldsWords d end-bank (stores_in d)) (sym (goes-later d order files on t i.committed)) words-kept;
    }

    idle-behind : (y : Node) → slice_get (cell_nodes d) (goes_on d files (nets_of d files order) on t i.committed).node ≡ Some y →
        AllByRecursion (IsIdle end-bank) (stores_before d (idle_before (goes_on d files (nets_of d files order) on t i.committed).node y))
    idle-behind y e =
        below-fewer (IsIdle end-bank) (from d) (cell_nodes d) n (idle_before (goes_on d files (nets_of d files order) on t i.committed).node y)
        (idle-yet d b l3 (stores_after d n) (stores_before d n) p1.sites sets t.later kept) (idle-next d files (nets_of d files order) n g on t i.committed may.there y e)

    stage-held : HoldsStage d end-bank (behind d order files (Run g on) i)
    stage-held = record {
      node = node-held ∙ sym (goes-node d order files on t i.committed);
      holds = holds;
      idle = idle-behind;
    }

  pub is-made : IsMade d order n (Run g on) l3 sets
  is-made = record {
    sound = sound3;
    writes = λ z h.
        keeps.sound names z l3 (all-drop (HasStore z) front (stores_after d n) (has-after d n z h kept-memories)) (All-from_recursion (IsSite names l3) (drop front p1.sites) back-sites) (end.sound z l3 h fits3 (seg.first ∙ begins.first) pending3 (ticks-stay ticks seg.slot) (goes []).slot);
    narrow =
        let Narrow : List Write → Type 0 = λ ws. AllByRecursion (IsWithin (register_width d) l3) ws in
        let kept = all-front (HasWidths d) (stores_after d n) (stores_before d n) (subst (AllByRecursion (HasWidths d)) (kept-cut d n) (stores-widths d)) in
        subst Narrow (sym keeps.are)
        (all-both (IsWithin (register_width d) l3) ends (each_written keep_writes (drop front (stores_after d n)) (drop front p1.sites))
        (end.narrow late l3 fits3 (seg.first ∙ begins.first) pending3 (ticks-stay ticks seg.slot) (goes []).slot)
        (keep-within d l3 (drop front (stores_after d n)) (drop front p1.sites) (all-drop (HasWidths d) front (stores_after d n) kept) (drop-same front (stores_after d n) p1.sites same) back-sites));
    does = stage-held;
  }
    where
      back-sites : AllByRecursion (IsSite names l3) (drop front p1.sites)
      back-sites = all-drop (IsSite names l3) front p1.sites (recursion_from_All (IsSite names l3) p1.sites pending3.sites)

      ticks-stay : (o : Option ℕ) → IsTicks l2 o → IsTicks l3 o
      ticks-stay None h = tt
      ticks-stay (Some r) h = is-slot-stays l2 l3 r 32 g23 h

  -- what a call is given behind the segment
  pub asks-behind : (task : Task) (args : List ℕ) → AllByRecursion (IsIn l3) args →
      ((files : List File) (z : Shape) (b : BankData) (x : Sample) → AreSound z l2 → Stands names b l2 at1 x → map (held b l3) args ≡ asked (scope_of d files) x task) → AsksBehind d order n g (Run g on) l3 task args
  asks-behind task args there values = record {
    there = there;
    asks = λ files b i may. values files (shape_of b) b (sample (segment_done (scope_of d files) g i.state)) (sound2 (shape_of b) may.shape) (stands2 files b i may);
  }
