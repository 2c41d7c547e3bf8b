-- Parts of a bank: one is changed, and the others stay.
use Rattle.std.proofs.Common.{◌≡◌, ◌≢◌, ℕ, zero, suc, ◌+◌, ◌<◌, ◌≤◌, inl, inr, List, [], ◌∷◌, length, map, set, get_or, take, drop, refl, sym, ap, ◌∙◌, arith, subst}
use Rattle.std.specs.Prelude.{slice_index}
use Rattle.std.specs.List.{All, AllPairs}
use Rattle.std.proofs.lemmas.List.{get_or-map, get_or_default, length-drop, length-take-le}
use Rattle.std.proofs.lemmas.Bool.{cases_lt}
use Rattle.trap_runtime.specs.cell_form.specs.Data.{BankData, TableData}
use Rattle.trap_runtime.specs.cell_form.specs.Sound.{Shape, shape_of}
use Rattle.trap_runtime.specs.cell_form.specs.States.{table_cycled}
use Rattle.trap_runtime.specs.cell_form.specs.Views.{table_of}
use Rattle.fab_join.specs.declared.joined.Part.{Part}
use Rattle.fab_join.specs.Banks.{part, IsClear, IsWithin, AreApart}
use Rattle.fab_join.specs.Laid.{shape_of_span, part_data, IsPart, PartsApart, IsLaid}
use Rattle.fab_join.specs.Numbers.{from_first, numbered_table, numbered_port}
use Rattle.fab_join.specs.Parts.{PartData, no_part, part_at, stepped, state_in, with_bank, IsTable}
use Rattle.fab_join.proofs.Renumbered.{table_back}
use Rattle.fab_join.proofs.PartCycles.{get_in_part, is_table_moved, table_moved, table_elsewhere, table_shape}

-- ---- lists of which one item is changed

pub map_agree : {V W : Type 0} (f g : V → W) (xs : List V) → ((k : ℕ) (d : V) → k < length xs → g (get_or xs k d) ≡ f (get_or xs k d)) → map g xs ≡ map f xs
map_agree f g [] h = refl
map_agree f g (x ∷ xs) h =
    let here : g x ≡ f x = h 0 x (omega arith) in
    let rest = map_agree f g xs (λ k d lt. h (suc k) d (omega arith)) in
    cc

pub map_changed : {V W : Type 0} (f g : V → W) (xs : List V) (i : ℕ) (y : W) → i < length xs → ((d : V) → g (get_or xs i d) ≡ y) → ((k : ℕ) (d : V) → k < length xs → k ≢ i → g (get_or xs k d) ≡ f (get_or xs k d)) → map g xs ≡ set (map f xs) i y
map_changed f g [] i y lt at others = absurd (omega arith)
map_changed f g (x ∷ xs) zero y lt at others =
    let here : g x ≡ y = at x in
    let rest = map_agree f g xs (λ k d l. others (suc k) d (omega arith) (λ e. omega arith)) in
    cc
map_changed f g (x ∷ xs) (suc i) y lt at others =
    let here : g x ≡ f x = others 0 x (omega arith) (λ e. omega arith) in
    let rest = map_changed f g xs i y (omega arith) at (λ k d l ne. others (suc k) d (omega arith) (λ e. ne (omega arith))) in
    cc

-- ---- parts that have nothing in common

swapped : (a n b m : ℕ) → IsClear a n b m → IsClear b m a n
swapped a n b m (inl h) = inr h
swapped a n b m (inr h) = inl h

apart_swapped : (a s b t : Shape) → AreApart a s b t → AreApart b t a s
apart_swapped a s b t h = record { regs = swapped _ _ _ _ h.regs; mems = swapped _ _ _ _ h.mems; slots = swapped _ _ _ _ h.slots }

pub two_apart : (ps : List Part) (i k : ℕ) (d : Part) → AllPairs PartsApart ps → i < length ps → k < length ps → k ≢ i → PartsApart (get_or ps i d) (get_or ps k d)
two_apart ps i k d h li lk ne =
    elim (cases_lt i k) [
      | inl lt ↦ h i k d lt lk
      | inr le ↦ let p = get_or ps k d in let q = get_or ps i d in apart_swapped (shape_of_span p.place) (shape_of_span p.size) (shape_of_span q.place) (shape_of_span q.size) (h k i d (omega arith) li)
    ]

-- ---- one part

length_within : {X : Type 0} (xs : List X) (a n : ℕ) → a + n ≤ length xs → length (take n (drop a xs)) ≡ n
length_within xs a n le = length-take-le n (drop a xs) (rw length-drop (omega arith))

pub shape_part : (a s : Shape) (b : BankData) → IsWithin a s (shape_of b) → shape_of (part a s b) ≡ s
shape_part a s b within =
    let r = length_within b.regs a.regs s.regs within.regs in
    let m = length_within b.mems a.mems s.mems within.mems in
    let k = length_within b.slots a.slots s.slots within.slots in
    rw (r, m, k) refl

-- the table of a part by its own numbers
pub own_table : (t : Shape) (p : Part) (h : IsPart t p) → numbered_table (from_first (shape_of_span p.place)) (table_of p.table) ≡ h.table
own_table t p h = ap (numbered_table (from_first (shape_of_span p.place))) h.table_is ∙ table_back (shape_of_span p.place) h.table

-- the table of a part may run on the joined bank
pub part_may_run : (t : Shape) (p : Part) → IsPart t p → IsTable t (table_of p.table)
part_may_run t p h = rw h.table_is (is_table_moved (shape_of_span p.place) (shape_of_span p.size) t h.within h.table h.may_run)

pub with_other : (b c : BankData) (p : Part) → part (shape_of_span p.place) (shape_of_span p.size) c ≡ part (shape_of_span p.place) (shape_of_span p.size) b → part_data c p ≡ part_data b p
with_other b c p e =
    ap (λ (z : BankData). record { table = numbered_table (from_first (shape_of_span p.place)) (table_of p.table); ports = map (numbered_port (from_first (shape_of_span p.place))) p.ports.ports; bank = z }) e

pub with_new : (b c own : BankData) (p : Part) → part (shape_of_span p.place) (shape_of_span p.size) c ≡ own → part_data c p ≡ with_bank (part_data b p) own
with_new b c own p e =
    ap (λ (z : BankData). record { table = numbered_table (from_first (shape_of_span p.place)) (table_of p.table); ports = map (numbered_port (from_first (shape_of_span p.place))) p.ports.ports; bank = z }) e

-- one cycle of a part
part_stepped : (b : BankData) (p : Part) → IsPart (shape_of b) p → part_data (table_cycled (table_of p.table) b) p ≡ stepped (part_data b p)
part_stepped b p h =
    let a = shape_of_span p.place in
    let s = shape_of_span p.size in
    with_new b (table_cycled (table_of p.table) b) (table_cycled (numbered_table (from_first a) (table_of p.table)) (part a s b)) p
    (ap (λ (x : TableData). part a s (table_cycled x b)) h.table_is
    ∙ table_moved a s b h.within h.table h.may_run
    ∙ ap (λ (x : TableData). table_cycled x (part a s b)) (sym (own_table (shape_of b) p h)))

part_kept : (b : BankData) (p q : Part) → IsPart (shape_of b) p → PartsApart p q → part_data (table_cycled (table_of p.table) b) q ≡ part_data b q
part_kept b p q h apart =
    let c = shape_of_span q.place in
    let t = shape_of_span q.size in
    with_other b (table_cycled (table_of p.table) b) q
    (ap (λ (x : TableData). part c t (table_cycled x b)) h.table_is
    ∙ table_elsewhere (shape_of_span p.place) (shape_of_span p.size) b h.within c t h.table apart h.may_run)

pub part_of_read : (b : BankData) (ps : List Part) (i : ℕ) (x : Part) → i < length ps → x ≡ get_or ps i x → part_at (map (part_data b) ps) i ≡ part_data b x
part_of_read b ps i x lt read = get_or-map (part_data b) ps i x no_part lt ∙ ap (part_data b) (sym read)

pub is_part : (t : Shape) (ps : List Part) (i : ℕ) (x : Part) → i < length ps → x ≡ get_or ps i x → All (IsPart t) ps → IsPart t x
is_part t ps i x lt read h = subst (IsPart t) (sym read) (h i x lt)

-- ---- all parts

-- one part gets another bank, and the others keep theirs
pub view_changed : (b c own : BankData) (ps : List Part) (i : ℕ) (x : Part) → i < length ps → x ≡ get_or ps i x → part_data c x ≡ with_bank (part_data b x) own → ((q : Part) → PartsApart x q → part_data c q ≡ part_data b q) → IsLaid b ps → map (part_data c) ps ≡ set (map (part_data b) ps) i (with_bank (part_at (map (part_data b) ps) i) own)
view_changed b c own ps i x lt read here elsewhere h =
    map_changed (part_data b) (part_data c) ps i (with_bank (part_at (map (part_data b) ps) i) own) lt
    (λ d. ap (part_data c) (get_or_default ps i d x lt ∙ sym read) ∙ here ∙ ap (λ (q : PartData). with_bank q own) (sym (part_of_read b ps i x lt read)))
    (λ k d lk ne.
    let P : Part → Type 0 = λ p. PartsApart p (get_or ps k d) in
    elsewhere (get_or ps k d) (subst P (get_or_default ps i d x lt ∙ sym read) (two_apart ps i k d h.apart lt lk ne)))

pub laid_stepped : (b : BankData) (ps : List Part) (i : ℕ) (x : Part) → i < length ps → x ≡ get_or ps i x → IsLaid b ps → map (part_data (table_cycled (table_of x.table) b)) ps ≡ set (map (part_data b) ps) i (stepped (part_at (map (part_data b) ps) i))
laid_stepped b ps i x lt read h =
    let c = table_cycled (table_of x.table) b in
    let mine = is_part (shape_of b) ps i x lt read h.each in
    let own : PartData → BankData = λ p. table_cycled p.table p.bank in
    view_changed b c (own (part_data b x)) ps i x lt read (part_stepped b x mine) (λ q apart. part_kept b x q mine apart) h
    ∙ ap (λ (z : BankData). set (map (part_data b) ps) i (with_bank (part_at (map (part_data b) ps) i) z)) (ap own (sym (part_of_read b ps i x lt read)))

pub laid_shape : (b c : BankData) (ps : List Part) → shape_of c ≡ shape_of b → IsLaid b ps → IsLaid c ps
laid_shape b c ps e h = let P : Shape → Type 0 = λ t. All (IsPart t) ps in record { each = subst P (sym e) h.each; apart = h.apart }

pub laid_after_step : (b : BankData) (ps : List Part) (x : Part) → IsPart (shape_of b) x → IsLaid b ps → IsLaid (table_cycled (table_of x.table) b) ps
laid_after_step b ps x mine h = laid_shape b (table_cycled (table_of x.table) b) ps (table_shape b (table_of x.table) (part_may_run (shape_of b) x mine)) h

-- what the state register of a part then holds
pub state_after_step : (b : BankData) (ps : List Part) (i : ℕ) (x : Part) → i < length ps → x ≡ get_or ps i x → IsLaid b ps → slice_index (table_cycled (table_of x.table) b).regs x.table.state ≡ state_in (stepped (part_at (map (part_data b) ps) i))
state_after_step b ps i x lt read h =
    let a = shape_of_span x.place in
    let s = shape_of_span x.size in
    let mine = is_part (shape_of b) ps i x lt read h.each in
    let c = table_cycled (table_of x.table) b in
    ap (λ (t : TableData). slice_index c.regs t.state) mine.table_is
    ∙ get_in_part c.regs a.regs s.regs mine.table.state 0 mine.may_run.state
    ∙ ap (λ (t : TableData). slice_index (part a s c).regs t.state) (sym (own_table (shape_of b) x mine))
    ∙ ap state_in (part_stepped b x mine)
    ∙ ap (λ (p : PartData). state_in (stepped p)) (sym (part_of_read b ps i x lt read))
