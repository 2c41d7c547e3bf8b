-- What stays of pending updates when cells are added, and what one update more makes of values.
use Rattle.std.proofs.Common.{◌≡◌, ◌≢◌, ℕ, zero, suc, ◌<◌, List, [], ◌∷◌, ◌++◌, length, Option, Some, None, refl, sym, ap, ◌∙◌, arith}
use Rattle.std.specs.Prelude.{All, ◌==◌, not, ◌&&◌, if◌then◌else◌, slice_index, slice_index_or, slice_set}
use Rattle.std.proofs.lemmas.List.{get_or-set_same, get_or-set_other}
use Rattle.vl_sites.specs.vl_design.specs.Syntax.{Row}
use Rattle.vl_sites.specs.vl_design.specs.Width.{Names, signal_form}
use Rattle.vl_sites.specs.vl_design.specs.Value.{words_of, value_of}
use Rattle.vl_sites.specs.vl_design.specs.Sound.{IsSignal}
use Rattle.vl_sites.specs.vl_design.specs.State.{Update, with_update, all_updated}
use Rattle.cell_form.specs.Cycle.{masked}
use Rattle.cell_form.specs.Data.{ListData, BankData}
use Rattle.cell_emit.specs.Slots.{held, Grows}
use Rattle.cell_emit.proofs.Frames.{held-stays}
use Rattle.cell_emit.specs.Envs.{held_or}
use Rattle.cell_emit.proofs.Staying.{is-slot-stays, entry-stays, held-or-stays}
use Rattle.cell_emit.specs.declared.pending.Site.{Site}
use Rattle.cell_emit.specs.Pendings.{PendingSlots, slot_of, IsSite, ArePending, settled, hits, stored, Pends}
use Rattle.cell_emit.proofs.Masking.{masked-none}

-- ---- cells are added

site-stays : (names : Names) (old new : ListData) (x : Site) → Grows old new → IsSite names old x → IsSite names new x
site-stays names old new x g h = record {
  memory = h.memory;
  enable = is-slot-stays old new x.enable 1 g h.enable;
  word = is-slot-stays old new x.word 32 g h.word;
  value = is-slot-stays old new x.value (signal_form names.rows x.memory).width g h.value;
  mask = is-slot-stays old new x.mask (signal_form names.rows x.memory).width g h.mask;
}

pub pending-stays : (names : Names) (old new : ListData) (p : PendingSlots) → Grows old new → ArePending names old p → ArePending names new p
pending-stays names old new p g h = record {
  many = h.many;
  update = λ k i. entry-stays old new (signal_form names.rows k).width (slot_of p.update k) g (h.update k i);
  mask = λ k i. entry-stays old new (signal_form names.rows k).width (slot_of p.mask k) g (h.mask k i);
  sites = λ i d l. site-stays names old new (slice_index_or p.sites i d) g (h.sites i d l);
}

hits-stay : (names : Names) (b : BankData) (old new : ListData) (x : Site) (m j : ℕ) → Grows old new → IsSite names old x → hits b new x m j ≡ hits b old x m j
hits-stay names b old new x m j g h =
    ap (λ n. (x.memory == m) && (not (n == 0) && (held b new x.word == j))) (held-stays b old new x.enable g h.enable.there)
    ∙ ap (λ n. (x.memory == m) && (not (held b old x.enable == 0) && (n == j))) (held-stays b old new x.word g h.word.there)

pub stored-stay : (names : Names) (b : BankData) (old new : ListData) (xs : List Site) (m j v : ℕ) → Grows old new → All (IsSite names old) xs → stored b new xs m j v ≡ stored b old xs m j v
stored-stay names b old new [] m j v g h = refl
stored-stay names b old new (x ∷ xs) m j v g h =
    let first = h 0 x (omega arith) in
    let rest : All (IsSite names old) xs = λ i d l. h (suc i) d (omega arith) in
    stored-stay names b old new xs m j _ g rest
    ∙ ap (stored b old xs m j)
    (ap (λ c. if c then masked v (held b new x.value) (held b new x.mask) else v) (hits-stay names b old new x m j g first)
    ∙ ap (λ n. if hits b old x m j then masked v n (held b new x.mask) else v) (held-stays b old new x.value g first.value.there)
    ∙ ap (λ n. if hits b old x m j then masked v (held b old x.value) n else v) (held-stays b old new x.mask g first.mask.there))

pub settled-stays : (names : Names) (b : BankData) (old new : ListData) (p : PendingSlots) (k v : ℕ) → Grows old new → ArePending names old p → IsSignal names k → settled b new p k v ≡ settled b old p k v
settled-stays names b old new p k v g h i =
    let w = (signal_form names.rows k).width in
    ap (λ u. masked v u (held_or b new (slot_of p.mask k))) (held-or-stays b old new w (slot_of p.update k) g (h.update k i))
    ∙ ap (masked v (held_or b old (slot_of p.update k))) (held-or-stays b old new w (slot_of p.mask k) g (h.mask k i))

pub pends-stays : (names : Names) (b : BankData) (old new : ListData) (p : PendingSlots) (later : List Update) → Grows old new → ArePending names old p → Pends names b old p later → Pends names b new p later
pends-stays names b old new p later g h pends = record {
  values = λ base k fine i. pends.values base k fine i ∙ sym (settled-stays names b old new p k (value_of base k) g h i);
  words = λ base m j fine i l. pends.words base m j fine i l ∙ sym (stored-stay names b old new p.sites m j (slice_index (words_of base m) j) g h.sites);
}

-- ---- nothing is pending

-- ---- one update more

pub updated-more : (rows : List Row) (values : List (List ℕ)) (later : List Update) (u : Update) → all_updated rows values (later ++ u ∷ []) ≡ with_update rows (all_updated rows values later) u
updated-more rows values [] u = refl
updated-more rows values (x ∷ later) u = updated-more rows (with_update rows values x) later u

-- ---- an entry that is replaced

pub slot-here : (slots : List (Option ℕ)) (k r : ℕ) → k < length slots → slot_of (slice_set slots k (Some r)) k ≡ Some r
slot-here slots k r h = get_or-set_same slots k (Some r) None h

pub slot-other : (slots : List (Option ℕ)) (k r j : ℕ) → j ≢ k → slot_of (slice_set slots k (Some r)) j ≡ slot_of slots j
slot-other slots k r j n = get_or-set_other slots k j (Some r) None n

-- what is read of an entry that is there
pub slot-read : (slots : List (Option ℕ)) (k : ℕ) (d : Option ℕ) → k < length slots → slice_index_or slots k d ≡ slot_of slots k
slot-read [] k d h = absurd (omega arith)
slot-read (e ∷ slots) zero d h = refl
slot-read (e ∷ slots) (suc k) d h = slot-read slots k d (omega arith)
