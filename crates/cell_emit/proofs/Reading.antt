-- What registers give.
use Rattle.std.proofs.Common.{◌≡◌, ℕ, zero, suc, ◌+◌, ◌<◌, ◌≤◌, ◌%◌, ◌^◌, List, [], ◌∷◌, ◌++◌, length, get_or, take, take_all, Option, Some, None, refl, sym, ap, ◌∙◌, arith, subst, length-append}
use Rattle.std.specs.Prelude.{slice_index, slice_index_or, slice_get, map, option_map, if◌then◌else◌, ◌⊎◌}
use Rattle.std.proofs.Common.{inl, inr}
use Rattle.std.proofs.lemmas.List.Sums.{sum_by_more}
use Rattle.std.proofs.lemmas.Option.{slice_get_within, slice_get-map, slice_get-get_or}
use Rattle.vl_sites.specs.vl_design.specs.declared.design.Signal.{Signal}
use Rattle.vl_sites.specs.vl_design.specs.Rows.{row_of}
use Rattle.vl_sites.specs.vl_design.specs.Syntax.{Row}
use Rattle.vl_sites.specs.vl_design.specs.Sound.{IsWidth}
use Rattle.vl_sites.specs.Others.{is_other}
use Rattle.cell_form.specs.Data.{ListData}
use Rattle.cell_form.specs.Sound.{Shape}
use Rattle.cell_emit.specs.Slots.{Grows, Longer, Gives}
use Rattle.cell_emit.proofs.Frames.{held-stays, longer-grows, longer-same, longer-then, longer-weaken}
use Rattle.cell_emit.proofs.Staying.{is-slot-stays, sound-before, gives-slot}
use Rattle.cell_emit.specs.Entries.{IsCopy, HasCopy, ReadsRow, HasRegister, ReadsRows, HasRegisters, read_count}
use Rattle.vl_base.proofs.Numbers.{lt_suc_cases as below-or-at}

-- ---- one register

-- with one cell more a slot holds what a register does
pub copy-gives : (old new : ListData) (v w register r : ℕ) → v ≡ w → Gives (λ s. register < s.regs) 1 old new r v (λ b. slice_index b.regs register % 2 ^ v) → HasCopy new w register (Some r)
copy-gives old new v w register r e g =
    let grows = longer-grows (λ s. register < s.regs) 1 old new g.longer in
    let F : ℕ → Type 0 = λ n. IsCopy new n register r in
    subst F e (record { slot = gives-slot (λ s. register < s.regs) 1 old new r v (λ b. slice_index b.regs register % 2 ^ v) g; value = λ s b sound. g.value s b (sound-before s old new grows sound) })

pub copy-stays : (old new : ListData) (w register : ℕ) (e : Option ℕ) → Grows old new → HasCopy old w register e → HasCopy new w register e
copy-stays old new w register None g h = h
copy-stays old new w register (Some r) g h = record {
  slot = is-slot-stays old new r w g h.slot;
  value = λ s b sound. held-stays b old new r g h.slot.there ∙ h.value s b (sound-before s old new g sound);
}

-- ---- the entry of a signal

pub reads-stays : (old new : ListData) (r : Row) (place : ℕ) (e : Option ℕ) → Grows old new → ReadsRow old r place e → ReadsRow new r place e
reads-stays old new r place e g h = record { signal = λ k o w. copy-stays old new r.width place e g (h.signal k o w); other = h.other; memory = h.memory }

-- ---- signals one after the other

-- the row of a signal of the code's list
pub row-at : (xs : List Signal) (i : ℕ) (x : Signal) → i < length xs → x ≡ get_or xs i x → slice_get (map row_of xs) i ≡ Some (row_of x)
row-at xs i x lt e = slice_get-map row_of xs i ∙ ap (option_map row_of) (slice_get-get_or xs i x lt) ∙ ap (λ y. Some (row_of y)) (sym e)

same-row : (a b : Row) → Some a ≡ Some b → a ≡ b
same-row a b e = grind arith

-- how many of the first signals are read, with one more, and all
pub read-more : (rows : List Row) (n : ℕ) (r : Row) → slice_get rows n ≡ Some r → read_count (take (n + 1) rows) ≡ read_count (take n rows) + (if is_other r.kind then 0 else 1)
read-more rows n r is =
    let lt = slice_get_within rows n r is in
    let here : get_or rows n r ≡ r = same-row (get_or rows n r) r (sym (slice_get-get_or rows n r lt) ∙ is) in
    sum_by_more (λ q. if is_other q.kind then 0 else 1) rows n r lt ∙ ap (λ q. read_count (take n rows) + (if is_other q.kind then 0 else 1)) here

pub read-all : (rows : List Row) (n : ℕ) → length rows ≤ n → read_count (take n rows) ≡ read_count rows
read-all rows n long = ap read_count (take_all n rows long)

-- the first n signals have their entries
pub record Entered (rows : List Row) (places : List ℕ) (n : ℕ) (old new : ListData) (es : List (Option ℕ)) : Type 0 where
  pub longer : Longer (HasRegisters rows places) (read_count (take n rows)) old new
  pub many : length es ≡ n
  pub each : (k : ℕ) (r : Row) → k < n → slice_get rows k ≡ Some r → ReadsRow new r (slice_index places k) (slice_index_or es k None)

last-is : {X : Type 0} (xs : List X) (x d : X) → slice_index_or (xs ++ x ∷ []) (length xs) d ≡ x
last-is [] x d = refl
last-is (y ∷ xs) x d = last-is xs x d

others-are : {X : Type 0} (xs : List X) (x d : X) (k : ℕ) → k < length xs → slice_index_or (xs ++ x ∷ []) k d ≡ slice_index_or xs k d
others-are [] x d k lt = absurd (omega arith)
others-are (y ∷ xs) x d zero lt = refl
others-are (y ∷ xs) x d (suc k) lt = others-are xs x d k (omega arith)

-- what holds of the first n rows and what stands for them holds of one more
pub each-more : {X : Type 0} (P : ℕ → Row → X → Type 0) (d : X) (rows : List Row) (n : ℕ) (xs : List X) (x : X) (r : Row) → length xs ≡ n → slice_get rows n ≡ Some r →
    ((k : ℕ) (q : Row) → k < n → slice_get rows k ≡ Some q → P k q (slice_index_or xs k d)) → P n r x →
    (k : ℕ) (q : Row) → k < n + 1 → slice_get rows k ≡ Some q → P k q (slice_index_or (xs ++ x ∷ []) k d)
each-more P d rows n xs x r many at each one k q lt is = of (below-or-at k n lt)
  where
    of : (k < n) ⊎ (k ≡ n) → P k q (slice_index_or (xs ++ x ∷ []) k d)
    of (inl lt) = subst (P k q) (sym (others-are xs x d k (omega arith))) (each k q lt is)
    of (inr e) =
        let same : q ≡ r = same-row q r (sym is ∙ ap (slice_get rows) e ∙ at) in
        let here : slice_index_or (xs ++ x ∷ []) k d ≡ x = ap (λ j. slice_index_or (xs ++ x ∷ []) j d) (e ∙ sym many) ∙ last-is xs x d in
        let a : P n q x = subst (λ p. P n p x) (sym same) one in
        subst (P k q) (sym here) (subst (λ j. P j q x) (sym e) a)

pub entered-more : (rows : List Row) (places : List ℕ) (n : ℕ) (old mid new : ListData) (es : List (Option ℕ)) (r : Row) (e : Option ℕ) → slice_get rows n ≡ Some r →
    Entered rows places n old mid es → Longer (HasRegister r (slice_index places n)) (if is_other r.kind then 0 else 1) mid new → ReadsRow new r (slice_index places n) e → Entered rows places (n + 1) old new (es ++ e ∷ [])
entered-more rows places n old mid new es r e at h longer reads =
    let H : Shape → Type 0 = HasRegisters rows places in
    let P : ℕ → Row → Option ℕ → Type 0 = λ k q x. ReadsRow new q (slice_index places k) x in
    let c : ℕ = if is_other r.kind then 0 else 1 in
    let one : Longer H c mid new = longer-weaken (HasRegister r (slice_index places n)) H c c mid new (λ s f. f n r at) (omega arith) longer in
    let grows = longer-grows (HasRegister r (slice_index places n)) c mid new longer in
    let many = h.many in
    let long = length-append es (e ∷ []) in
    record {
      longer = subst (λ m. Longer H m old new) (sym (read-more rows n r at)) (longer-then H (read_count (take n rows)) c old mid new h.longer one);
      many = omega arith;
      each = each-more P None rows n es e r h.many at (λ k q lt is. reads-stays mid new q (slice_index places k) (slice_index_or es k None) grows (h.each k q lt is)) reads;
    }

pub entered-all : (rows : List Row) (places : List ℕ) (n : ℕ) (old new : ListData) (es : List (Option ℕ)) → n ≡ length rows → Entered rows places n old new es → ReadsRows new rows places es
entered-all rows places n old new es e h =
    record { many = h.many ∙ e; each = λ k r is. let lt = slice_get_within rows k r is in h.each k r (omega arith) is }

pub entered-longer : (rows : List Row) (places : List ℕ) (n : ℕ) (old new : ListData) (es : List (Option ℕ)) → n ≡ length rows → Entered rows places n old new es →
    Longer (HasRegisters rows places) (read_count rows) old new
entered-longer rows places n old new es e h = subst (λ m. Longer (HasRegisters rows places) m old new) (read-all rows n (omega arith)) h.longer

-- said of a list that is the same
pub longer-of : (xs ys : List Signal) (places : List ℕ) (old new : ListData) → xs ≡ ys → Longer (HasRegisters (map row_of xs) places) (read_count (map row_of xs)) old new →
    Longer (HasRegisters (map row_of ys) places) (read_count (map row_of ys)) old new
longer-of xs ys places old new e h =
    let F : List Signal → Type 0 = λ zs. Longer (HasRegisters (map row_of zs) places) (read_count (map row_of zs)) old new in
    subst F e h

pub reads-of : (xs ys : List Signal) (places : List ℕ) (l : ListData) (es : List (Option ℕ)) → xs ≡ ys → ReadsRows l (map row_of xs) places es → ReadsRows l (map row_of ys) places es
reads-of xs ys places l es e h =
    let F : List Signal → Type 0 = λ zs. ReadsRows l (map row_of zs) places es in
    subst F e h
