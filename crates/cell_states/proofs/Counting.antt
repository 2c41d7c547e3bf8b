-- How many stores the nodes have that are left.
use Rattle.std.proofs.Common.{◌≡◌, ℕ, zero, suc, ◌+◌, ◌-◌, ◌*◌, ◌<◌, ◌≤◌, List, [], ◌∷◌, ◌++◌, length, length-append, map, get_or, take, drop, Some, refl, sym, ap, ◌∙◌, arith, subst}
use Rattle.std.specs.Prelude.{All, slice_get}
use Rattle.std.proofs.Math.Seq.{take-append_seam}
use Rattle.std.proofs.lemmas.List.{length-map}
use Rattle.std.proofs.lemmas.List.Elements.{All-take}
use Rattle.std.proofs.lemmas.Option.{none-some, same_Some}
use Rattle.vl_design.specs.Syntax.{Flat, Task}
use Rattle.cell_emit.specs.cell_form.specs.Views.{state_of}
use Rattle.cell_emit.specs.cell_form.specs.declared.table.State.{State}
use Rattle.ten_form.specs.sub_nodes.specs.Nodes.{Node, Trap, Apply}
use Rattle.ten_form.specs.sub_split.specs.Views.{node_view}
use Rattle.ten_form.specs.sub_split.specs.declared.table.Node.{Node as NodeCode}
use Rattle.ten_form.specs.Banks.{cell_nodes, stores_in, stores_after}
use Rattle.ten_form.specs.Registers.{register_count}
use Rattle.ten_form.proofs.Apart.{many-from}
use Rattle.ten_form.proofs.Cutting.{stores-cut, node-cut}
use Rattle.ten_form.specs.Stores.{node_words, words_down, stores_from, stores_of, stores_above, stores_below}
use Rattle.ten_form.specs.declared.store.Store.{Store}
use Rattle.cell_states.specs.declared.run.Kept.{Kept}
use Rattle.cell_states.specs.Mades.{IsKept}
use Rattle.cell_states.proofs.Noding.{node-there}

-- what holds of stores holds of the first ones
pub front-all : (P : Store → Type 0) (n : ℕ) (stores part : List Store) → part ≡ take n stores → All P stores → All P part
front-all P n stores part e h = subst (All P) (sym e) (All-take P n stores h)

-- ---- of nodes, from register r on

module _ (r : ℕ) (nodes : List Node) where
  front : (n : ℕ) → take (length (stores_above r nodes n)) (stores_of r nodes) ≡ stores_above r nodes n
  front n = ap (take (length (stores_above r nodes n))) (stores-cut r nodes n) ∙ take-append_seam (stores_above r nodes n) (stores_below r nodes n)

  total : (n : ℕ) → length (stores_of r nodes) ≡ length (stores_above r nodes n) + length (stores_below r nodes n)
  total n = ap (λ (xs : List Store). length xs) (stores-cut r nodes n) ∙ length-append (stores_above r nodes n) (stores_below r nodes n)

  own : (n : ℕ) (x : Node) → slice_get nodes n ≡ Some x → length (stores_above r nodes n) ≡ length (stores_above r nodes (n + 1)) + length (node_words x)
  own n x h =
      let a = stores_above r nodes (n + 1) in
      let o = stores_from (r + 4 * length (words_down (drop (n + 1) nodes))) (node_words x) in
      let b = stores_below r nodes n in
      let cut = ap (λ (xs : List Store). length xs) (node-cut r nodes n x h) in
      let l1 = length-append a (o ++ b) in
      let l2 = length-append o b in
      let l3 = many-from (r + 4 * length (words_down (drop (n + 1) nodes))) (node_words x) in
      let t = total n in
      omega (arith, cut, l1, l2, l3, t)

-- those of one node, alone
one-node : (nodes : List NodeCode) (k : ℕ) (x : Node) → slice_get (map node_view nodes) k ≡ Some x → map node_view (take 1 (drop k nodes)) ≡ x ∷ []
one-node [] k x h = absurd (none-some x h)
one-node (y ∷ nodes) zero x h = ap (λ z. z ∷ []) (same_Some (node_view y) x h)
one-node (y ∷ nodes) (suc k) x h = one-node nodes k x h

pub own-many : (nodes : List NodeCode) (k m : ℕ) (x : Node) → m ≡ 1 → slice_get (map node_view nodes) k ≡ Some x → length (stores_of 0 (map node_view (take m (drop k nodes)))) ≡ length (node_words x)
own-many nodes k m x e h =
    ap (λ n. length (stores_of 0 (map node_view (take n (drop k nodes))))) e ∙ ap (λ xs. length (stores_of 0 xs)) (one-node nodes k x h) ∙ many-from 0 (node_words x)

-- ---- of a design

module _ (d : Flat) where
  abbrev first : ℕ
  first = register_count (length d.rows)

  pub left-most : (n : ℕ) → length (stores_after d n) ≤ length (stores_in d)
  left-most n = let t = total first (cell_nodes d) n in omega (arith, t)

  -- a node's own are left no more behind it
  pub left-less : (n : ℕ) (x : Node) → slice_get (cell_nodes d) n ≡ Some x → length (stores_after d n) ≡ length (stores_after d (n + 1)) + length (node_words x)
  left-less n x h = own first (cell_nodes d) n x h

  pub left-all : length (stores_in d) ≡ length (stores_after d 0)
  left-all = refl

  -- an update has none, and neither has a call
  pub less-one : (n to : ℕ) → slice_get (cell_nodes d) n ≡ Some (Apply to) → length (stores_after d n) ≡ length (stores_after d (n + 1))
  less-one n to h = let less = left-less n (Apply to) h in omega (arith, less)

  pub less-two : (n : ℕ) (task : Task) (to : ℕ) → slice_get (cell_nodes d) (n + 1) ≡ Some (Trap task to) → length (stores_after d (n + 1)) ≡ length (stores_after d (n + 2))
  less-two n task to h =
      let e : n + 1 + 1 ≡ n + 2 = omega arith in
      let less = left-less (n + 1) (Trap task to) h in
      subst (λ k. length (stores_after d (n + 1)) ≡ length (stores_after d k)) e (omega (arith, less))

  -- so many first ones are kept
  pub kept-is : (kept : Kept) (stores : List Store) (n k m : ℕ) (x : Node) → stores ≡ stores_in d → slice_get (cell_nodes d) n ≡ Some x → k ≡ length (stores_after d n) → m ≡ length (node_words x) →
      kept.above.now ≡ take (k - m) stores → kept.all.now ≡ take k stores → IsKept d n kept x
  kept-is kept stores n k m x e there left own above all =
      let less = left-less n x there in
      let fewer : k - m ≡ length (stores_after d (n + 1)) = omega (arith, less, left, own) in
      record {
        there = there;
        above = above ∙ ap (λ j. take j stores) fewer ∙ ap (take (length (stores_after d (n + 1)))) e ∙ front first (cell_nodes d) (n + 1);
        all = all ∙ ap (λ j. take j stores) left ∙ ap (take (length (stores_after d n))) e ∙ front first (cell_nodes d) n;
      }

  -- ---- the node that is next

  module _ (nodes : List NodeCode) (states : List State) (k : ℕ) (x y : NodeCode) (table : map node_view nodes ≡ cell_nodes d) (same : k ≡ length states) (lt : k < length nodes) (at : x ≡ get_or nodes k x) (is : x ≡ y) where
    there : slice_get (map node_view nodes) (length (map state_of states)) ≡ Some (node_view y)
    there = node-there nodes states k x same lt at ∙ ap (λ z. Some (node_view z)) is

    pub node-at : slice_get (cell_nodes d) (length (map state_of states)) ≡ Some (node_view y)
    node-at = subst (λ xs. slice_get xs (length (map state_of states)) ≡ Some (node_view y)) table there

    module _ (own left : ℕ) (own-is : (z : Node) → slice_get (map node_view nodes) k ≡ Some z → own ≡ length (node_words z)) (left-is : left ≡ length (stores_after d (length (map state_of states)))) where
      own-at : own ≡ length (node_words (node_view y))
      own-at = own-is (node_view y) (ap (slice_get (map node_view nodes)) (same ∙ sym (length-map states state_of)) ∙ there)

      pub own-fits : own ≤ left
      own-fits = let less = left-less (length (map state_of states)) (node_view y) node-at in let o = own-at in omega (arith, less, o, left-is)

      pub kept-at : (kept : Kept) (stores : List Store) → stores ≡ stores_in d → kept.above.now ≡ take (left - own) stores → kept.all.now ≡ take left stores → IsKept d (length (map state_of states)) kept (node_view y)
      kept-at kept stores e above all = kept-is kept stores (length (map state_of states)) left own (node_view y) e node-at left-is own-at above all
