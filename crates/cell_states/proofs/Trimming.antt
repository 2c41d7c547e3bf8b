-- States of the cells that are needed.
use Rattle.std.proofs.Common.{◌≡◌, ℕ, zero, suc, ◌+◌, ◌-◌, ◌<◌, ◌≤◌, List, [], ◌∷◌, length, map, Some, None, refl, sym, ap, ◌∙◌, arith, subst}
use Rattle.std.specs.Prelude.{slice_index, slice_index_or, slice_set, if◌then◌else◌, ◌==◌, Bool, true, false, All, Result, Ok, Err, IfOk}
use Rattle.std.specs.List.{AllByRecursion}
use Rattle.std.proofs.lemmas.List.{length-map}
use Rattle.vl_design.specs.vl_base.specs.declared.files.File.{File}
use Rattle.vl_design.specs.State.{State}
use Rattle.vl_design.specs.Syntax.{Task, Print, Finish, Save, Fopen, Fread, Fgetc, Feof, Fclose, ReadHex, Flat}
use Rattle.cell_emit.specs.cell_form.specs.declared.cell.Write.{Write}
use Rattle.cell_emit.specs.cell_form.specs.declared.cell.Write.TheVariants as w
use Rattle.cell_emit.specs.cell_form.specs.declared.table.Trap.{Trap as TrapOf}
use Rattle.cell_emit.specs.cell_form.specs.Cycle.{with_word, wrote, written, filled, value_at, cycled}
use Rattle.cell_emit.specs.cell_form.specs.Data.{ListData, BankData}
use Rattle.cell_emit.specs.cell_form.specs.Values.{Slot, slots_of}
use Rattle.cell_emit.specs.cell_form.specs.Sound.{Shape, IsList, IsWrite, shape_of}
use Rattle.cell_emit.specs.cell_form.specs.Views.{cell_of, list_of}
use Rattle.cell_emit.specs.cell_form.proofs.Cycling.{slot-held}
use Rattle.cell_emit.specs.Slots.{slot, held, IsIn, AreSound}
use Rattle.cell_trim.specs.declared.trim.Trimmed.{Trimmed}
use Rattle.cell_trim.specs.Widths.{IsWithin}
use Rattle.ten_form.specs.sub_nodes.specs.Nodes.{Segment, Go, Node, Run}
use Rattle.ten_form.specs.sub_nodes.specs.Cycles.{Stage}
use Rattle.ten_form.specs.declared.store.Store.{Store}
use Rattle.ten_form.specs.Holding.{enable_register, word_register, value_register, mask_register, IsIdle}
use Rattle.ten_form.proofs.Same.{IsSame, all-from, holds-same}
use Rattle.ten_form.specs.Banks.{stores_in, stores_before, IsFor, HoldsSignals, HoldsState}
use Rattle.ten_form.specs.Traps.{IsCallOf, IsTrapOf}
use Rattle.ten_form.specs.States.{slots_in, idle_before, behind, MayCycle, HoldsStage, DoesNode, AsksFor}
use Rattle.cell_states.specs.Mades.{IsMade, AsksBehind}
use Rattle.cell_states.specs.Trims.{IsTrimmed, Calls}

-- ---- writes over slots

-- writes don't look at the slots of the bank
wrote-regs : (value : ℕ → ℕ) (x : Write) (b c : BankData) → b.regs ≡ c.regs → (wrote value x b).regs ≡ (wrote value x c).regs
wrote-regs value (w.Reg r s) b c e = ap (λ (rs : List ℕ). slice_set rs r (value s)) e
wrote-regs value (w.Mem m enable word new mask) b c e = of (value enable == 0)
  where
    of : (q : Bool) → (if q then b else record b { mems = slice_set b.mems m (with_word (slice_index_or b.mems m []) (value word) (value new) (value mask)) }).regs
        ≡ (if q then c else record c { mems = slice_set c.mems m (with_word (slice_index_or c.mems m []) (value word) (value new) (value mask)) }).regs
    of true = e
    of false = e

wrote-mems : (value : ℕ → ℕ) (x : Write) (b c : BankData) → b.mems ≡ c.mems → (wrote value x b).mems ≡ (wrote value x c).mems
wrote-mems value (w.Reg r s) b c e = e
wrote-mems value (w.Mem m enable word new mask) b c e = of (value enable == 0)
  where
    of : (q : Bool) → (if q then b else record b { mems = slice_set b.mems m (with_word (slice_index_or b.mems m []) (value word) (value new) (value mask)) }).mems
        ≡ (if q then c else record c { mems = slice_set c.mems m (with_word (slice_index_or c.mems m []) (value word) (value new) (value mask)) }).mems
    of true = e
    of false = ap (λ (ms : List (List ℕ)). slice_set ms m (with_word (slice_index_or ms m []) (value word) (value new) (value mask))) e

written-regs : (value : ℕ → ℕ) (xs : List Write) (b c : BankData) → b.regs ≡ c.regs → (written value xs b).regs ≡ (written value xs c).regs
written-regs value [] b c e = e
written-regs value (x ∷ xs) b c e = written-regs value xs (wrote value x b) (wrote value x c) (wrote-regs value x b c e)

written-mems : (value : ℕ → ℕ) (xs : List Write) (b c : BankData) → b.mems ≡ c.mems → (written value xs b).mems ≡ (written value xs c).mems
written-mems value [] b c e = e
written-mems value (x ∷ xs) b c e = written-mems value xs (wrote value x b) (wrote value x c) (wrote-mems value x b c e)

-- banks with the same registers and memories hold the same
same-all : (b c : BankData) → c.regs ≡ b.regs → (xs : List Store) → AllByRecursion (IsSame b c) xs
same-all b c e [] = tt
same-all b c e (x ∷ xs) = (
  record {
    enable = ap (λ (rs : List ℕ). slice_index rs (enable_register x)) e;
    word = ap (λ (rs : List ℕ). slice_index rs (word_register x)) e;
    value = ap (λ (rs : List ℕ). slice_index rs (value_register x)) e;
    mask = ap (λ (rs : List ℕ). slice_index rs (mask_register x)) e;
  },
  same-all b c e xs,
)

signals-in : (d : Flat) (b c : BankData) (s : State) (committed : List (List ℕ)) → c.regs ≡ b.regs → HoldsSignals d b s committed → HoldsSignals d c s committed
signals-in d b c s committed regs h =
    let F : List ℕ → Type 0 = λ rs. HoldsSignals d (record { regs = rs; mems = c.mems; slots = c.slots }) s committed in
    let same : F b.regs = record {
      works = h.works;
      values = h.values;
      pending = record { updates = h.pending.updates; update_fits = h.pending.update_fits; mask_fits = h.pending.mask_fits };
      ticks = h.ticks;
      few = h.few;
      answer = h.answer;
      small = h.small;
    } in
    subst F (sym regs) same

holds-in : (d : Flat) (b c : BankData) (s : State) (committed : List (List ℕ)) → c.regs ≡ b.regs → c.mems ≡ b.mems → HoldsState d b s committed → HoldsState d c s committed
holds-in d b c s committed regs mems h = record {
  signals = signals-in d b c s committed regs h.signals;
  memories = λ m i. ap (λ (ms : List (List ℕ)). slice_index_or ms m []) mems ∙ h.memories m i;
  words = holds-same d b c (stores_in d) s.later (same-all b c regs (stores_in d)) h.words;
}

idle-in : (b c : BankData) (xs : List Store) → c.regs ≡ b.regs → AllByRecursion (IsIdle b) xs → AllByRecursion (IsIdle c) xs
idle-in b c xs e h = all-from (IsIdle b) (IsIdle c) (λ x i. ap (λ (rs : List ℕ). slice_index rs (enable_register x)) e ∙ i) xs h

stage-in : (d : Flat) (b c : BankData) (i : Stage) → c.regs ≡ b.regs → c.mems ≡ b.mems → HoldsStage d b i → HoldsStage d c i
stage-in d b c i regs mems h = record {
  node = ap (λ (rs : List ℕ). slice_index rs 0) regs ∙ h.node;
  holds = holds-in d b c i.state i.committed regs mems h.holds;
  idle = λ x e. idle-in b c (stores_before d (idle_before i.node x)) regs (h.idle x e);
}

held-is : (b : BankData) (l : ListData) (r : ℕ) → held b l r ≡ value_at l.first (slots_of l.first b.regs b.mems l.cells) r
unfolding slot
held-is b l r = refl

written-same : (v u : ℕ → ℕ) (xs : List Write) (b : BankData) → ((r : ℕ) → v r ≡ u r) → written v xs b ≡ written u xs b
written-same v u [] b e = refl
written-same v u (x ∷ xs) b e = written-same v u xs (wrote v x b) e ∙ ap (written u xs) (one x)
  where
    one : (x : Write) → wrote v x b ≡ wrote u x b
    one (w.Reg r s) = ap (λ n. record b { regs = slice_set b.regs r n }) (e s)
    one (w.Mem m enable word new mask) = rw (e enable) (rw (e word) (rw (e new) (rw (e mask) refl)))

-- ---- a trimmed list

for-none : (d : Flat) (n : ℕ) (z : Shape) → IsFor d n z → IsFor d 0 z
for-none d n z h = record { regs = h.regs; mems = h.mems; slots = omega arith }

may-none : (d : Flat) (order : List ℕ) (files : List File) (n : ℕ) (x : Node) (slots : ℕ) (b : BankData) (i : Stage) → MayCycle d order files n x slots b i → MayCycle d order files n x 0 b i
may-none d order files n x slots b i h = record {
  at = h.at;
  there = h.there;
  shape = for-none d slots (shape_of b) h.shape;
  tidy = h.tidy;
  others = h.others;
  others_behind = h.others_behind;
  due = h.due;
  alive = h.alive;
  few = h.few;
  stage = h.stage;
}

module _ (d : Flat) (order : List ℕ) (n : ℕ) (x : Node) (l : ListData) (sets : List Write) (wanted : List ℕ) (first : ℕ) (new : ListData) (slots : List ℕ)
    (trim : IsTrimmed l sets wanted first new slots) (made : IsMade d order n x l sets) where
  runs : (z : Shape) → IsFor d (slots_in new) z → IsList z new
  runs z h =
      let room = h.slots in
      let is = trim.first_is in
      trim.sound z (made.sound z (for-none d (slots_in new) z h)) (made.writes z (for-none d (slots_in new) z h)) (omega (arith, room, is))

  -- a cycle of it does the writes
  cycle-is : (b : BankData) → cycled new b ≡ written (held b l) sets (filled new.first new.cells b)
  cycle-is b =
      let c = filled new.first new.cells b in
      let F : ℕ → Type 0 = λ f. written (value_at f (slots_of f b.regs b.mems new.cells)) new.sets c ≡ written (value_at l.first (slots_of l.first b.regs b.mems l.cells)) sets c in
      subst F (sym trim.first_is) (trim.writes b c) ∙ written-same (value_at l.first (slots_of l.first b.regs b.mems l.cells)) (held b l) sets c (λ r. sym (held-is b l r))

  pub does-trimmed : DoesNode d order n x new
  does-trimmed = record {
    runs = runs;
    does = λ files b i may.
        let h = made.does files b i (may-none d order files n x (slots_in new) b i may) in
        let c = filled new.first new.cells b in
        let one = written-regs (held b l) sets c b refl in
        let two = written-mems (held b l) sets c b refl in
        stage-in d (written (held b l) sets b) (cycled new b) (behind d order files x i) (ap (λ (z : BankData). z.regs) (cycle-is b) ∙ one) (ap (λ (z : BankData). z.mems) (cycle-is b) ∙ two) h;
  }

  -- slots that were wanted hold it behind the cycle
  held-one : (b : BankData) (r : ℕ) → IsList (shape_of b) new → IsIn new r → slice_index (cycled new b).slots r ≡ held b new r
  held-one b r list h =
      let low = h.0 in
      let high = h.1 in
      let k : new.first + (r - new.first) ≡ r = omega (arith, low) in
      let below : r - new.first < length new.cells = omega (arith, low, high) in
      ap (slice_index (cycled new b).slots) (sym k) ∙ slot-held new b list (r - new.first) below ∙ ap (value_at new.first (slots_of new.first b.regs b.mems new.cells)) k ∙ sym (held-is b new r)

  held-all : (b : BankData) (rs : List ℕ) → IsList (shape_of b) new → AllByRecursion (IsIn new) rs → map (slice_index (cycled new b).slots) rs ≡ map (held b new) rs
  held-all b [] list h = refl
  held-all b (r ∷ rs) list h = rw (held-one b r list h.0) (ap (λ vs. held b new r ∷ vs) (held-all b rs list h.1))

  value-map : (b : BankData) (m : ListData) (rs : List ℕ) → map (held b m) rs ≡ map (λ (s : Slot). s.value) (map (slot b m) rs)
  value-map b m [] = refl
  value-map b m (r ∷ rs) = ap (λ vs. held b m r ∷ vs) (value-map b m rs)

  pub wanted-held : (b : BankData) → IsList (shape_of b) new → AllByRecursion (IsIn l) wanted → map (slice_index (cycled new b).slots) slots ≡ map (held b l) wanted
  wanted-held b list h = held-all b slots list (trim.there h) ∙ value-map b new slots ∙ ap (map (λ (s : Slot). s.value)) (trim.values b) ∙ sym (value-map b l wanted)

-- what a call is given stands in its slots
pub asks-trimmed : (d : Flat) (order : List ℕ) (n : ℕ) (g : Segment) (m : ℕ) (l : ListData) (sets : List Write) (wanted : List ℕ) (first : ℕ) (new : ListData) (slots : List ℕ) (task : Task) →
    IsTrimmed l sets wanted first new slots → IsMade d order n (Run g (Go m)) l sets → AsksBehind d order n g (Run g (Go m)) l task wanted → AsksFor d order n (Run g (Go m)) new task slots
asks-trimmed d order n g m l sets wanted first new slots task trim made asks = record {
  asks = λ files b i may.
      wanted-held d order n (Run g (Go m)) l sets wanted first new slots trim made b (runs d order n (Run g (Go m)) l sets wanted first new slots trim made (shape_of b) may.shape) asks.there
      ∙ asks.asks files b i (may-none d order files n (Run g (Go m)) (slots_in new) b i may);
}

-- ---- traps

-- a trap with other slots is the same call
pub with-args : (d : Flat) (task : Task) (t : TrapOf) (args : List ℕ) → IsCallOf d task t → IsCallOf d task (record t { args = args })
with-args d (Print pieces newline) t args h = h
with-args d (Finish es) t args h = h
with-args d (Save name) t args h = h
with-args d (Fopen name) t args h = h
with-args d (Fread k fd) t args h = h
with-args d (Fgetc fd) t args h = h
with-args d (Feof fd) t args h = h
with-args d (Fclose fd) t args h = h
with-args d (ReadHex name m) t args h = h

below-all : (l : ListData) (n : ℕ) (rs : List ℕ) → slots_in l ≤ n → AllByRecursion (IsIn l) rs → All (λ s. s < n) rs
below-all l n [] le h i d lt = absurd (omega (arith, lt))
below-all l n (r ∷ rs) le h zero d lt = let high = h.0.1 in omega (arith, le, high)
below-all l n (r ∷ rs) le h (suc i) d lt = below-all l n rs le h.1 i d (omega (arith, lt))

-- the states of a segment that comes to a call, and of the call
pub calls-trimmed : (d : Flat) (order : List ℕ) (n : ℕ) (g : Segment) (m to : ℕ) (task : Task) (l : ListData) (sets : List Write) (t : TrapOf) (first : ℕ) (new behind : ListData) (slots nexts waits : List ℕ) → IsTrimmed l sets t.args first new slots →
    IsMade d order n (Run g (Go m)) l sets → IsTrapOf d task (slots_in l) t → AsksBehind d order n g (Run g (Go m)) l task t.args → waits ≡ to ∷ [] → behind.cells ≡ [] → behind.sets ≡ [] →
    Calls d order n g m task to (record { cells = new; trap = None; nexts = nexts }) (record { cells = behind; trap = Some (record t { args = slots }); nexts = waits })
calls-trimmed d order n g m to task l sets t first new behind slots nexts waits trim made call asks next no-cells no-writes = record {
  does = record { none = refl; does = does-trimmed d order n (Run g (Go m)) l sets t.args first new slots trim made };
  trap = record t { args = slots };
  asks = asks-trimmed d order n g m l sets t.args first new slots task trim made asks;
  no_cells = no-cells;
  no_writes = no-writes;
  is = refl;
  next = next;
  call = λ n le. record { call = with-args d task t slots call.call; answer = call.answer; args = below-all new n slots le (trim.there asks.there) };
}

-- ---- what is left of a list

pub is-trimmed : {E : Type 0} (r : Result Trimmed E) (l : ListData) (n : ℕ) (given sets : List Write) (wanted : List ℕ) (first : ℕ) → n ≡ length l.cells → given ≡ sets → IfOk r (λ t. t.cells.first ≡ first) →
    IfOk r (λ t. AllByRecursion (IsIn l) wanted → AllByRecursion (IsIn (list_of t.cells)) t.slots.items) →
    IfOk r (λ t. (s : Shape) → AreSound s l → AllByRecursion (IsWrite s l.first n) given → first + length t.cells.cells ≤ s.slots → IsList s (list_of t.cells)) →
    IfOk r (λ t. (most : ℕ → ℕ) → AllByRecursion (IsWithin most l) given → AllByRecursion (IsWithin most (list_of t.cells)) (list_of t.cells).sets) →
    IfOk r (λ t. (b : BankData) → map (slot b (list_of t.cells)) t.slots.items ≡ map (slot b l) wanted) →
    IfOk r (λ t. (b c : BankData) → written (value_at first (slots_of first b.regs b.mems (list_of t.cells).cells)) (list_of t.cells).sets c ≡ written (value_at l.first (slots_of l.first b.regs b.mems l.cells)) given c) →
    IfOk r (λ t. IsTrimmed l sets wanted first (list_of t.cells) t.slots.items)
is-trimmed (Ok t) l n given sets wanted first long same a b c e f g = record {
  first_is = a;
  there = b;
  sound = λ s k h le.
      let W : ℕ → List Write → Type 0 = λ m ws. AllByRecursion (IsWrite s l.first m) ws in
      c s k (subst (λ m. W m given) (sym long) (subst (W (length l.cells)) (sym same) h)) (omega (arith, le, length-map t.cells.cells cell_of));
  widths = λ most h. e most (subst (AllByRecursion (IsWithin most l)) (sym same) h);
  values = f;
  writes = λ x y. g x y ∙ ap (λ ws. written (value_at l.first (slots_of l.first x.regs x.mems l.cells)) ws y) same;
}
is-trimmed (Err x) l n given sets wanted first long same a b c e f g = tt
