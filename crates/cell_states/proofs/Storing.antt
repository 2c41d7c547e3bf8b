-- The stores of the nodes that states do.
use Rattle.std.proofs.Common.{◌≡◌, ℕ, zero, suc, ◌+◌, ◌*◌, ◌^◌, ◌<◌, ◌≤◌, false, List, [], ◌∷◌, ◌++◌, length, map, take, drop, Option, Some, None, refl, sym, ap, ◌∙◌, arith, subst, inr}
use Rattle.std.specs.Prelude.{All, slice_get}
use Rattle.std.specs.List.{AllByRecursion}
use Rattle.std.proofs.lemmas.List.Elements.{recursion_from_All, All-from_recursion}
use Rattle.std.proofs.lemmas.Option.{slice_get_within}
use Rattle.vl_design.specs.declared.design.SigKind.{SigKind}
use Rattle.vl_design.specs.declared.design.SigKind.TheVariants.{Net, Var, Comb, Loop, Mem, Clock}
use Rattle.vl_design.specs.Sound.{IsMem, IsOf, IsMemory}
use Rattle.vl_design.specs.Syntax.{Row, Flat}
use Rattle.vl_design.specs.Width.{Names, names_of}
use Rattle.vl_design.proofs.Running.{some_is}
use Rattle.ten_form.specs.vl_runs.specs.Computed.{is_computed, is_computed_row, computed_at}
use Rattle.cell_emit.specs.cell_form.specs.Data.{ListData}
use Rattle.cell_emit.specs.cell_form.specs.Sound.{Shape}
use Rattle.cell_emit.specs.Slots.{Grows}
use Rattle.cell_emit.proofs.Samples.{named}
use Rattle.cell_emit.specs.declared.pending.Site.{Site}
use Rattle.cell_emit.specs.Pendings.{PendingSlots, memories_of, IsSite, ArePending}
use Rattle.cell_emit.proofs.Keeping.{pending-stays}
use Rattle.ten_form.specs.sub_nodes.specs.Nodes.{Node}
use Rattle.ten_form.specs.declared.store.Store.{Store}
use Rattle.ten_form.specs.Holding.{mask_register}
use Rattle.ten_form.specs.Stores.{node_words, words_down, stores_from, AreDisjoint, IsBeside}
use Rattle.ten_form.proofs.Apart.{IsWithin, many-from, memories-from, both-from, within-from, beside-from, apart-from}
use Rattle.ten_form.proofs.Cutting.{stores-cut}
use Rattle.ten_form.proofs.Same.{all-from, all-with}
use Rattle.ten_form.specs.Registers.{register_count}
use Rattle.ten_form.specs.Banks.{cell_nodes, stores_in, stores_before, stores_after, IsFor}
use Rattle.cell_waves.specs.Reading.{HasStore, Reads}
use Rattle.cell_waves.proofs.Reading.{reads-sites}
use Rattle.ten_form.specs.sub_nodes.proofs.Shared.{dropped}
pub use Rattle.ten_form.specs.vl_runs.proofs.Shared.{memory-kept as memory-plain}
pub use Rattle.vl_design.specs.vl_base.proofs.Lists.{all_append_left as all-front}

-- ---- lists

-- ---- memories

pub memory-below : (names : Names) (m : ℕ) → IsMemory names m → m < length names.rows
memory-below names m i = let n = named IsMem (slice_get names.rows m) i in slice_get_within names.rows m n.row n.is

-- stores of the memories that sites are of
pub of-sites : (names : Names) (l : ListData) (xs : List Store) (ss : List Site) → map (λ (x : Store). x.memory) xs ≡ memories_of ss → AllByRecursion (IsSite names l) ss → AllByRecursion (λ x. IsMemory names x.memory) xs
of-sites names l [] ss e h = tt
of-sites names l (x ∷ xs) [] e h = absurd (cc)
of-sites names l (x ∷ xs) (s ∷ ss) e h =
    let here : x.memory ≡ s.memory = cc in
    let more : map (λ (y : Store). y.memory) xs ≡ map (λ (t : Site). t.memory) ss = cc in
    (subst (IsMemory names) (sym here) h.0.memory, of-sites names l xs ss more h.1)

-- what is pending, with the sites that are read of stores
pub pending-read : (d : Flat) (old new : ListData) (stores : List Store) (p : PendingSlots) (sites : List Site) → Grows old new → Reads d.rows stores old new [] sites → All (λ x. IsMemory (names_of d) x.memory) stores →
    ArePending (names_of d) old p → ArePending (names_of d) new (record p { sites = sites })
pending-read d old new stores p sites g reads memories h =
    let stays = pending-stays (names_of d) old new p g h in
    let there = reads-sites d new stores reads.more (recursion_from_All (λ (x : Store). IsMemory (names_of d) x.memory) stores memories) reads.read in
    record {
      many = stays.many;
      update = stays.update;
      mask = stays.mask;
      sites = subst (All (IsSite (names_of d) new)) {x = reads.more} (sym reads.are) there;
    }

-- ---- a design's stores

module _ (d : Flat) where
  -- the first register of a store
  abbrev pub from : ℕ
  from = register_count (length d.rows)

  -- behind the last one
  abbrev pub top : ℕ
  top = from + 4 * length (words_down (cell_nodes d))

  pub kept-cut : (n : ℕ) → stores_in d ≡ stores_after d n ++ stores_before d n
  kept-cut n = stores-cut from (cell_nodes d) n

  pub after-disjoint : (n : ℕ) → AreDisjoint (stores_after d n)
  after-disjoint n = apart-from from (words_down (drop n (cell_nodes d)))

  -- the registers of signals are none of a store's
  pub signals-beside : (n r : ℕ) → r < from → AllByRecursion (IsBeside r) (stores_after d n)
  signals-beside n r lt = beside-from r from (words_down (drop n (cell_nodes d))) lt

  -- and those of the stores before a node none of the others
  abbrev pub mid : ℕ → ℕ
  mid n = from + 4 * length (words_down (drop n (cell_nodes d)))

  pub before-beside : (n r : ℕ) → mid n ≤ r → AllByRecursion (IsBeside r) (stores_after d n)
  before-beside n r le =
      all-from (IsWithin from (mid n)) (IsBeside r) (λ x h. (let b = h.1 in inr (omega (arith, b, le)))) (stores_after d n) (within-from from (words_down (drop n (cell_nodes d))))

  pub before-within : (n : ℕ) → AllByRecursion (λ x. mid n ≤ x.first) (stores_before d n)
  before-within n =
      let ms = words_down (take n (cell_nodes d)) in
      all-from (IsWithin (mid n) (mid n + 4 * length ms)) (λ x. mid n ≤ x.first) (λ x h. h.0) (stores_before d n) (within-from (mid n) ms)

  all-within : AllByRecursion (IsWithin from top) (stores_in d)
  all-within = within-from from (words_down (cell_nodes d))

  pub after-within : (n : ℕ) → AllByRecursion (IsWithin from top) (stores_after d n)
  after-within n = all-front (IsWithin from top) (stores_after d n) (stores_before d n) (subst (AllByRecursion (IsWithin from top)) (kept-cut n) all-within)

  -- a bank for the design has the stores of memories
  has-one : (z : Shape) → IsFor d 0 z → (x : Store) → IsWithin from top x → IsMemory (names_of d) x.memory → HasStore z x
  has-one z f x w i =
      let regs = f.regs in
      let mems = f.mems in
      let many = many-from from (words_down (cell_nodes d)) in
      let low = memory-below (names_of d) x.memory i in
      let high = w.1 in
      (omega (arith, regs, many, high), omega (arith, mems, low))

  pub has-in : (z : Shape) → IsFor d 0 z → AllByRecursion (λ x. IsMemory (names_of d) x.memory) (stores_in d) → AllByRecursion (HasStore z) (stores_in d)
  has-in z f h = all-with (IsWithin from top) (λ x. IsMemory (names_of d) x.memory) (HasStore z) (has-one z f) (stores_in d) all-within h

  pub has-after : (n : ℕ) (z : Shape) → IsFor d 0 z → AllByRecursion (λ x. IsMemory (names_of d) x.memory) (stores_after d n) → AllByRecursion (HasStore z) (stores_after d n)
  has-after n z f h = all-with (IsWithin from top) (λ x. IsMemory (names_of d) x.memory) (HasStore z) (has-one z f) (stores_after d n) (after-within n) h

  module _ (n : ℕ) (x : Node) (there : slice_get (cell_nodes d) n ≡ Some x) where
    abbrev above : List ℕ
    above = words_down (drop (n + 1) (cell_nodes d))

    -- those from a node on are those behind it, and its own
    pub own-cut : stores_after d n ≡ stores_after d (n + 1) ++ stores_from (from + 4 * length above) (node_words x)
    own-cut = ap (λ xs. stores_from from (words_down xs)) (dropped (cell_nodes d) n x there) ∙ both-from from above (node_words x)

    pub own-memories : map (λ (s : Store). s.memory) (stores_after d n) ≡ map (λ (s : Store). s.memory) (stores_after d (n + 1)) ++ node_words x
    own-memories =
        memories-from from (words_down (drop n (cell_nodes d))) ∙ ap words_down (dropped (cell_nodes d) n x there)
        ∙ ap (λ ms. ms ++ node_words x) (sym (memories-from from above))

    pub few-above : All (λ s. mask_register s < 2 ^ 32) (stores_after d n) → All (λ s. mask_register s < 2 ^ 32) (stores_after d (n + 1))
    few-above h =
        let P : Store → Type 0 = λ s. mask_register s < 2 ^ 32 in
        All-from_recursion P (stores_after d (n + 1))
        (all-front P (stores_after d (n + 1)) (stores_from (from + 4 * length above) (node_words x)) (subst (AllByRecursion P) own-cut (recursion_from_All P (stores_after d n) h)))
