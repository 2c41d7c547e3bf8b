-- How far the slots are filled, and the writes are done.
use Rattle.std.proofs.Common.{◌≡◌, ◌≢◌, Bool, false, ℕ, ◌+◌, ◌-◌, ◌<◌, ◌≤◌, List, [], ◌∷◌, ◌++◌, length, map, set, get_or, take, drop, refl, sym, ap, ◌∙◌, arith, subst}
use Rattle.std.specs.Prelude.{slice_index, ◌==◌, if◌then◌else◌}
use Rattle.std.specs.List.{AllByRecursion}
use Rattle.std.proofs.lemmas.List.{take_more, length-take-le, map_push, map-set, get_or-map, get_or_default, drop_more, drop_all}
use Rattle.std.proofs.lemmas.Bool.Decides.{nat_tests}
use Rattle.cell_form.specs.declared.cell.Write.{Write}
use Rattle.cell_form.specs.declared.cell.Write.TheVariants as w
use Rattle.cell_form.specs.Data.{CellData, ListData, BankData}
use Rattle.cell_form.specs.Values.{Slot, slots_of, cell_slot}
use Rattle.cell_form.specs.Cycle.{put_at, values_of, value_at, with_word, filled, wrote, written, cycled}
use Rattle.cell_form.specs.Sound.{Shape, IsAmong, AreCells, IsWrite, IsList, shape_of}
use Rattle.cell_form.proofs.Slots.{slots-push}
use Rattle.cell_form.proofs.Putting.{put-none, put-length, put-held, put-push}
use Rattle.cell_form.proofs.Writing.{written-same, wrote-slots, wrote-shape}
use Rattle.cell_form.proofs.Cycling.{value-at, values-length}
use Rattle.cell_eval.specs.Holds.{Holds}

module _ (first : ℕ) (cells : List CellData) (b : BankData) (within : first + length cells ≤ length b.slots) where
  -- one cell more
  pub filled-more : (i : ℕ) (d : CellData) → i < length cells → record (filled first (take i cells) b) { slots = set (filled first (take i cells) b).slots (first + i) (cell_slot first b.regs b.mems (slots_of first b.regs b.mems (take i cells)) (get_or cells i d)).value } ≡ filled first (take (i + 1) cells) b
  filled-more i d lt =
      let before = take i cells in
      let c = get_or cells i d in
      let s = slots_of first b.regs b.mems before in
      let x = cell_slot first b.regs b.mems s c in
      let long : length (values_of s) ≡ i = values-length first b.regs b.mems before ∙ length-take-le i cells (omega arith) in
      let short : first + length (values_of s) < length b.slots = omega (arith, long) in
      let P : List ℕ → BankData = λ xs. record { regs = b.regs; mems = b.mems; slots = xs } in
      let more : values_of s ++ x.value ∷ [] ≡ values_of (slots_of first b.regs b.mems (take (i + 1) cells))
      = sym (map_push (λ (y : Slot). y.value) s x) ∙ ap values_of (sym (slots-push first b.regs b.mems before c) ∙ ap (slots_of first b.regs b.mems) (sym (take_more cells i d lt))) in
      ap (λ n. P (set (put_at first (values_of s) b.slots) (first + n) x.value)) (sym long)
      ∙ ap P (put-push first (values_of s) b.slots x.value short ∙ ap (λ vs. put_at first vs b.slots) more)

  -- the slots of the first cells hold their values
  pub filled-holds : (i : ℕ) → i ≤ length cells → AreCells (shape_of b) first [] (take i cells) → Holds first (filled first (take i cells) b) (take i cells)
  filled-holds i le sound =
      let before = take i cells in
      let s = slots_of first b.regs b.mems before in
      let long : length (values_of s) ≡ length before = values-length first b.regs b.mems before in
      let few : length before ≡ i = length-take-le i cells le in
      let inside : first + length (values_of s) ≤ length b.slots = omega (arith, long, few) in
      let same = put-length first (values_of s) b.slots inside in
      let F : ℕ → Type 0 = λ n. AreCells (record { regs = length b.regs; mems = length b.mems; slots = n }) first [] before in
      record {
        values = λ k lt. put-held first (values_of s) b.slots inside k (omega (arith, long)) ∙ value-at s k;
        within = omega (arith, same, few);
        sound = subst F (sym same) sound;
      }

  pub filled-shape : (i : ℕ) → i ≤ length cells → shape_of (filled first (take i cells) b) ≡ shape_of b
  filled-shape i le =
      let s = slots_of first b.regs b.mems (take i cells) in
      let long : length (values_of s) ≡ i = values-length first b.regs b.mems (take i cells) ∙ length-take-le i cells le in
      let inside : first + length (values_of s) ≤ length b.slots = omega (arith, long) in
      ap (λ n. record { regs = length b.regs; mems = length b.mems; slots = n }) (put-length first (values_of s) b.slots inside)

  pub filling-step : (i : ℕ) (d : CellData) (now next : BankData) (value : ℕ) → i < length cells → now ≡ filled first (take i cells) b → value ≡ (cell_slot first now.regs now.mems (slots_of first now.regs now.mems (take i cells)) (get_or cells i d)).value → next ≡ record { regs = now.regs; mems = now.mems; slots = set now.slots (first + i) value } → next ≡ filled first (take (i + 1) cells) b
  filling-step i d now next value lt e h k =
      let f = filled first (take i cells) b in
      k ∙ ap (λ (x : BankData). record { regs = x.regs; mems = x.mems; slots = set x.slots (first + i) value }) e
      ∙ ap (λ v. record { regs = f.regs; mems = f.mems; slots = set f.slots (first + i) v })
      (h ∙ ap (λ (x : BankData). (cell_slot first x.regs x.mems (slots_of first x.regs x.mems (take i cells)) (get_or cells i d)).value) e)
      ∙ filled-more i d lt

-- ---- writes

wider : (s : Shape) (first n m : ℕ) (x : Write) → first + n ≤ m → IsWrite s first n x → IsWrite s 0 m x
wider s first n m (w.Reg r v) le h = (h.0, (omega arith, omega (arith, h.1.1)))
wider s first n m (w.Mem k enable word new mask) le h =
    (h.0, (omega arith, omega (arith, h.1.1)), (omega arith, omega (arith, h.2.1)), (omega arith, omega (arith, h.3.1)), (omega arith, omega (arith, h.4.1)))

pub all-wider : (s : Shape) (first n m : ℕ) (xs : List Write) → first + n ≤ m → AllByRecursion (IsWrite s first n) xs → AllByRecursion (IsWrite s 0 m) xs
all-wider s first n m [] le h = tt
all-wider s first n m (x ∷ xs) le h = (wider s first n m x le h.0, all-wider s first n m xs le h.1)

-- how far the writes are done
pub record Written (xs : List Write) (i : ℕ) (start now : BankData) : Type 0 where
  pub same : written (slice_index start.slots) (drop i xs) now ≡ written (slice_index start.slots) xs start
  pub slots : now.slots ≡ start.slots
  pub shape : shape_of now ≡ shape_of start
  pub fit : AllByRecursion (IsWrite (shape_of start) 0 (length start.slots)) (drop i xs)

pub written-none : (xs : List Write) (b : BankData) → AllByRecursion (IsWrite (shape_of b) 0 (length b.slots)) xs → Written xs 0 b b
written-none xs b h = record { same = refl; slots = refl; shape = refl; fit = h }

pub written-fit : (xs : List Write) (i : ℕ) (start now : BankData) (d : Write) → i < length xs → Written xs i start now → IsWrite (shape_of now) 0 (length now.slots) (get_or xs i d)
written-fit xs i start now d lt h =
    let F : List Write → Type 0 = λ ys. AllByRecursion (IsWrite (shape_of start) 0 (length start.slots)) ys in
    let f : IsWrite (shape_of start) 0 (length start.slots) (get_or xs i d) × AllByRecursion (IsWrite (shape_of start) 0 (length start.slots)) (drop (i + 1) xs) = subst F (drop_more xs i d lt) h.fit in
    let P : Shape → Type 0 = λ s. IsWrite s 0 s.slots (get_or xs i d) in
    subst P (sym h.shape) f.0

pub written-next : (xs : List Write) (i : ℕ) (start now next : BankData) (d : Write) → i < length xs → Written xs i start now → next ≡ wrote (slice_index now.slots) (get_or xs i d) now → Written xs (i + 1) start next
written-next xs i start now next d lt h e =
    let value = slice_index start.slots in
    let x = get_or xs i d in
    let split = drop_more xs i d lt in
    let step : next ≡ wrote value x now = e ∙ ap (λ ys. wrote (slice_index ys) x now) h.slots in
    let S : List Write → Type 0 = λ ys. written value ys now ≡ written value xs start in
    let s : written value (drop (i + 1) xs) (wrote value x now) ≡ written value xs start = subst S split h.same in
    let F : List Write → Type 0 = λ ys. AllByRecursion (IsWrite (shape_of start) 0 (length start.slots)) ys in
    let f : IsWrite (shape_of start) 0 (length start.slots) x × AllByRecursion (IsWrite (shape_of start) 0 (length start.slots)) (drop (i + 1) xs) = subst F split h.fit in
    record {
      same = ap (written value (drop (i + 1) xs)) step ∙ s;
      slots = ap (λ (b : BankData). b.slots) step ∙ wrote-slots value x now ∙ h.slots;
      shape = ap shape_of step ∙ wrote-shape value x now ∙ h.shape;
      fit = f.1;
    }

pub written-all : (xs : List Write) (i : ℕ) (start now : BankData) → length xs ≤ i → Written xs i start now → now ≡ written (slice_index start.slots) xs start
written-all xs i start now past h =
    let S : List Write → Type 0 = λ ys. written (slice_index start.slots) ys now ≡ written (slice_index start.slots) xs start in
    subst S (drop_all i xs past) h.same

-- ---- a cycle

module _ (l : ListData) (b : BankData) (h : IsList (shape_of b) l) where
  inside : l.first + length (values_of (slots_of l.first b.regs b.mems l.cells)) ≤ length b.slots
  inside = let e = values-length l.first b.regs b.mems l.cells in omega (arith, e, h.slots)

  filled-length : length (filled l.first l.cells b).slots ≡ length b.slots
  filled-length = put-length l.first (values_of (slots_of l.first b.regs b.mems l.cells)) b.slots inside

  pub sets-fit : (mid : BankData) → mid ≡ filled l.first l.cells b → AllByRecursion (IsWrite (shape_of mid) 0 (length mid.slots)) l.sets
  sets-fit mid e =
      let G : ℕ → Type 0 = λ n. AllByRecursion (IsWrite (record { regs = length b.regs; mems = length b.mems; slots = n }) 0 n) l.sets in
      let P : BankData → Type 0 = λ x. AllByRecursion (IsWrite (shape_of x) 0 (length x.slots)) l.sets in
      subst P (sym e) (subst G (sym filled-length) (all-wider (shape_of b) l.first (length l.cells) (length b.slots) l.sets h.slots h.sets))

  agree : (a : ℕ) → IsAmong l.first (length l.cells) a → slice_index (filled l.first l.cells b).slots a ≡ value_at l.first (slots_of l.first b.regs b.mems l.cells) a
  agree a among =
      let s = slots_of l.first b.regs b.mems l.cells in
      let e = values-length l.first b.regs b.mems l.cells in
      let up : l.first + (a - l.first) ≡ a = omega (arith, among.0) in
      ap (slice_index (filled l.first l.cells b).slots) (sym up)
      ∙ put-held l.first (values_of s) b.slots inside (a - l.first) (omega (arith, among.0, among.1, e))
      ∙ value-at s (a - l.first)

  pub cycle-is : (mid end : BankData) → mid ≡ filled l.first l.cells b → end ≡ written (slice_index mid.slots) l.sets mid → end ≡ cycled l b
  cycle-is mid end e f =
      f ∙ ap (λ (x : BankData). written (slice_index x.slots) l.sets x) e
      ∙ written-same (shape_of b) l.first (length l.cells) (slice_index (filled l.first l.cells b).slots) (value_at l.first (slots_of l.first b.regs b.mems l.cells)) agree l.sets (filled l.first l.cells b) h.sets

-- ---- a word of a memory

read-word : (xs : List ℕ) (i x : ℕ) → i < length xs → x ≡ get_or xs i x → get_or xs i 0 ≡ x
read-word xs i x lt e = sym (e ∙ get_or_default xs i x 0 lt)

-- the memories, where one was changed in its place
changed : {V : Type 0} (f : V → List ℕ) (ms : List V) (m k new mask : ℕ) (old next : V) → m < length ms → old ≡ get_or ms m old → f next ≡ with_word (f old) k new mask → map f (set ms m next) ≡ set (map f ms) m (with_word (get_or (map f ms) m []) k new mask)
changed f ms m k new mask old next lt read put =
    map-set f ms m next
    ∙ ap (set (map f ms) m) (put ∙ ap (λ (ws : List ℕ). with_word ws k new mask) (ap f read ∙ sym (get_or-map f ms m old [] lt)))

pub wrote-word : {V : Type 0} (f : V → List ℕ) (regs slots : List ℕ) (ms : List V) (m e k v q x y z u : ℕ) (old next : V) → m < length ms → (e < length slots) × (k < length slots) × (v < length slots) × (q < length slots) → x ≡ get_or slots e x → x ≢ 0 → y ≡ get_or slots k y → z ≡ get_or slots v z → u ≡ get_or slots q u → old ≡ get_or ms m old → f next ≡ with_word (f old) y z u → record { regs = regs; mems = map f (set ms m next); slots = slots } ≡ wrote (slice_index slots) (w.Mem m e k v q) (record { regs = regs; mems = map f ms; slots = slots })
wrote-word f regs slots ms m e k v q x y z u old next lt lts ex ne ey ez eu read put =
    let kx = read-word slots e x lts.0 ex in
    let ky = read-word slots k y lts.1 ey in
    let kz = read-word slots v z lts.2 ez in
    let ku = read-word slots q u lts.3 eu in
    let no : (x == 0) ≡ false = grind (arith, nat_tests) in
    let P : ℕ → ℕ → ℕ → BankData = λ a b c. record { regs = regs; mems = set (map f ms) m (with_word (get_or (map f ms) m []) a b c); slots = slots } in
    let B : BankData = record { regs = regs; mems = map f ms; slots = slots } in
    ap (λ (n : List (List ℕ)). record { regs = regs; mems = n; slots = slots }) (changed f ms m y z u old next lt read put)
    ∙ sym
    (ap (λ t. if t == 0 then B else P (get_or slots k 0) (get_or slots v 0) (get_or slots q 0)) kx
    ∙ ap (λ (t : Bool). if t then B else P (get_or slots k 0) (get_or slots v 0) (get_or slots q 0)) no
    ∙ ap (λ t. P t (get_or slots v 0) (get_or slots q 0)) ky ∙ ap (λ t. P y t (get_or slots q 0)) kz ∙ ap (P y z) ku)
