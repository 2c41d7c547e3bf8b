-- In the nodes of a sound design the words that are made pending are of memories.
use Rattle.std.proofs.Common.{◌≡◌, ℕ, ◌+◌, false, List, [], ◌∷◌, ◌++◌, take}
use Rattle.std.specs.Prelude.{⊤, All}
use Rattle.std.specs.List.{AllByRecursion}
use Rattle.std.proofs.lemmas.List.Elements.{All-head, All-tail, All-take, All-from_get_or}
use Rattle.vl_design.specs.declared.design.ProcKind.TheVariants.{Init}
use Rattle.vl_design.specs.Syntax.{Target, Whole, WordAt, PickAt, SliceAt, Several, Targets, NoTargets, MoreTargets, Stm, Nop, Then, If, Case, For, Repeat, Set, Later, Sys, Items, NoItems, Labelled, Default, Proc, Flat}
use Rattle.vl_design.specs.Laws.{IsUnrolled, can_act}
use Rattle.vl_design.specs.Queue.{is_comb}
use Rattle.vl_design.specs.Sound.{IsMemory, IsSoundBase, IsSoundTarget, AreSoundTargets, IsSoundExp, AreSound, IsSoundStm, AreSoundItems, IsSound}
use Rattle.vl_design.specs.Width.{Names, names_of}
use Rattle.cell_emit.specs.vl_sites.specs.Stored.{target_stored, targets_stored, stored_words, items_stored, default_stored}
use Rattle.sub_split.specs.sub_nodes.specs.Nodes.{Node, Run, Trap, Apply}
use Rattle.sub_split.specs.sub_nodes.specs.Code.{table_of}
use Rattle.sub_split.specs.sub_nodes.specs.Passing.{ItemsPass, Passes, IsNodeOf}
use Rattle.sub_split.specs.sub_nodes.proofs.Passing.{table_fits}
use Rattle.ten_form.specs.declared.store.Store.{Store}
use Rattle.ten_form.specs.Stores.{all_stored, node_words, words_down, stores_from, stores_of}
use Rattle.ten_form.proofs.Apart.{each-both}

module _ (names : Names) where
  abbrev AreMemories : List ℕ → Type 0
  AreMemories ms = AllByRecursion (IsMemory names) ms

  both : (a b : List ℕ) → AreMemories a → AreMemories b → AreMemories (a ++ b)
  both a b f g = each-both (IsMemory names) a b f g

  base-kept : (t : Target) → IsSoundBase names t → AreMemories (target_stored t)
  base-kept (Whole k) h = tt
  base-kept (WordAt m a) h = (h.0, tt)
  base-kept (PickAt b i from w) h = absurd h
  base-kept (SliceAt b low w) h = absurd h
  base-kept (Several ts) h = absurd h

  mutual
    target-kept : (t : Target) → IsSoundTarget names t → AreMemories (target_stored t)
    target-kept (Whole k) h = tt
    target-kept (WordAt m a) h = (h.0, tt)
    target-kept (PickAt b i from w) h = base-kept b h.1
    target-kept (SliceAt b low w) h = base-kept b h.1
    target-kept (Several ts) h = targets-kept ts h.1

    targets-kept : (ts : Targets) → AreSoundTargets names ts → AreMemories (targets_stored ts)
    targets-kept NoTargets h = tt
    targets-kept (MoreTargets t ts) h = both (target_stored t) (targets_stored ts) (target-kept t h.0) (targets-kept ts h.1)

  mutual
    words-kept : (a : Stm) → IsSoundStm names a → AreMemories (stored_words a)
    words-kept Nop h = tt
    words-kept (Then a b) h = both (stored_words a) (stored_words b) (words-kept a h.0) (words-kept b h.1)
    words-kept (If t a b) h = both (stored_words a) (stored_words b) (words-kept a h.1) (words-kept b h.2)
    words-kept (Case e items) h = both (items_stored items) (default_stored items) (items-kept items h.1) (default-kept items h.1)
    words-kept (For k start test step a) h = tt
    words-kept (Repeat n a) h = tt
    words-kept (Set t e) h = tt
    words-kept (Later t e) h = target-kept t h.0
    words-kept (Sys task) h = tt

    items-kept : (items : Items) → AreSoundItems names items → AreMemories (items_stored items)
    items-kept NoItems h = tt
    items-kept (Labelled es a others) h = both (stored_words a) (items_stored others) (words-kept a h.1) (items-kept others h.2)
    items-kept (Default a others) h = items-kept others h.1

    default-kept : (items : Items) → AreSoundItems names items → AreMemories (default_stored items)
    default-kept NoItems h = tt
    default-kept (Labelled es a others) h = default-kept others h.2
    default-kept (Default a others) h = words-kept a h.0

  abbrev IsPart : Node → Type 0
  IsPart = IsNodeOf (IsSoundStm names) (IsSoundExp names) (AreSound names) (λ task. ⊤)

  items-pass : (items : Items) → AreSoundItems names items → ItemsPass (IsSoundStm names) (IsSoundExp names) (AreSound names) (λ task. ⊤) items
  items-pass NoItems h = tt
  items-pass (Labelled es a others) h = (h.0, h.1, items-pass others h.2)
  items-pass (Default a others) h = (h.0, items-pass others h.1)

  passes : Passes (IsSoundStm names) (IsSoundExp names) (AreSound names) (λ task. ⊤)
  passes = record {
    parts = λ a b h. (h.0, h.1);
    branches = λ t a b h. (h.0, h.1, h.2);
    items = λ e items h. (h.0, items-pass items h.1);
    calls = λ task h. tt;
  }

  segment-kept : (as' : List Stm) → All (λ a. IsSoundStm names a × (can_act a ≡ false)) as' → AreMemories (all_stored as')
  segment-kept [] f = tt
  segment-kept (a ∷ rest) f =
      let Q : Stm → Type 0 = λ a. IsSoundStm names a × (can_act a ≡ false) in
      both (stored_words a) (all_stored rest) (words-kept a (All-head Q a rest f).0) (segment-kept rest (All-tail Q a rest f))

  node-kept : (x : Node) → IsPart x → AreMemories (node_words x)
  node-kept (Run g on) h = segment-kept g.statements h.0
  node-kept (Trap task to) h = tt
  node-kept (Apply to) h = tt

  down-kept : (nodes : List Node) → All IsPart nodes → AreMemories (words_down nodes)
  down-kept [] f = tt
  down-kept (x ∷ xs) f = both (words_down xs) (node_words x) (down-kept xs (All-tail IsPart x xs f)) (node-kept x (All-head IsPart x xs f))

  stores-kept : (r : ℕ) (ms : List ℕ) → AreMemories ms → AllByRecursion (λ (x : Store). IsMemory names x.memory) (stores_from r ms)
  stores-kept r [] f = tt
  stores-kept r (m ∷ ms) f = (f.0, stores-kept (r + 4) ms f.1)

module _ (d : Flat) (sound : IsSound d) (unrolled : IsUnrolled d) where
  abbrev nothing : Proc
  nothing = record { kind = Init; events = []; body = Nop }

  nodes-sound : All (IsPart (names_of d)) (table_of d).nodes
  nodes-sound =
      table_fits (IsSoundStm (names_of d)) (IsSoundExp (names_of d)) (AreSound (names_of d)) (λ task. ⊤) d unrolled (passes (names_of d))
      (All-from_get_or (λ (p : Proc). is_comb p.kind ≡ false → IsSoundStm (names_of d) p.body) d.procs nothing (λ i l other. (sound.procs i nothing l).body))

  pub stores-memories : (r : ℕ) → AllByRecursion (λ (x : Store). IsMemory (names_of d) x.memory) (stores_of r (table_of d).nodes)
  stores-memories r = stores-kept (names_of d) r (words_down (table_of d).nodes) (down-kept (names_of d) (table_of d).nodes nodes-sound)

  pub first-memories : (r k : ℕ) → AllByRecursion (λ (x : Store). IsMemory (names_of d) x.memory) (stores_of r (take k (table_of d).nodes))
  first-memories r k =
      stores-kept (names_of d) r (words_down (take k (table_of d).nodes))
      (down-kept (names_of d) (take k (table_of d).nodes) (All-take (IsPart (names_of d)) k (table_of d).nodes nodes-sound))
