-- The stores of nodes, cut at a node.
use Rattle.std.proofs.Common.{◌≡◌, ℕ, zero, suc, ◌+◌, ◌*◌, ◌≤◌, List, [], ◌∷◌, ◌++◌, length, take, drop, Some, refl, sym, ◌∙◌, ap, subst, arith, append_assoc, length-append}
use Rattle.std.specs.Prelude.{slice_get}
use Rattle.std.specs.List.{AllByRecursion}
use Rattle.std.proofs.lemmas.List.{take-append-drop, take-take}
use Rattle.vl_design.proofs.Running.{some_is}
use Rattle.sub_split.specs.sub_nodes.specs.Nodes.{Node}
use Rattle.ten_form.specs.declared.store.Store.{Store}
use Rattle.ten_form.specs.Stores.{node_words, words_down, stores_from, stores_of, stores_above, stores_below}
use Rattle.ten_form.proofs.Apart.{both-from, each-last}
use Rattle.sub_split.specs.sub_nodes.proofs.Shared.{dropped}

append-none : (xs : List ℕ) → xs ++ [] ≡ xs
append-none [] = refl
append-none (x ∷ xs) = ap (λ ys. x ∷ ys) (append-none xs)

pub down-both : (a b : List Node) → words_down (a ++ b) ≡ words_down b ++ words_down a
down-both [] b = sym (append-none (words_down b))
down-both (x ∷ a) b = ap (λ z. z ++ node_words x) (down-both a b) ∙ append_assoc (words_down b) (words_down a) (node_words x)

pub words-cut : (nodes : List Node) (n : ℕ) → words_down nodes ≡ words_down (drop n nodes) ++ words_down (take n nodes)
words-cut nodes n = ap words_down (sym (take-append-drop n nodes)) ∙ down-both (take n nodes) (drop n nodes)

pub stores-cut : (r : ℕ) (nodes : List Node) (n : ℕ) → stores_of r nodes ≡ stores_above r nodes n ++ stores_below r nodes n
stores-cut r nodes n = ap (stores_from r) (words-cut nodes n) ∙ both-from r (words_down (drop n nodes)) (words_down (take n nodes))

-- those from a node on are those behind it, and its own
above-cut : (r : ℕ) (nodes : List Node) (n : ℕ) (x : Node) → slice_get nodes n ≡ Some x
    → stores_above r nodes n ≡ stores_above r nodes (n + 1) ++ stores_from (r + 4 * length (words_down (drop (n + 1) nodes))) (node_words x)
above-cut r nodes n x h = ap (λ xs. stores_from r (words_down xs)) (dropped nodes n x h) ∙ both-from r (words_down (drop (n + 1) nodes)) (node_words x)

pub node-cut : (r : ℕ) (nodes : List Node) (n : ℕ) (x : Node) → slice_get nodes n ≡ Some x
    → stores_of r nodes ≡ stores_above r nodes (n + 1) ++ (stores_from (r + 4 * length (words_down (drop (n + 1) nodes))) (node_words x) ++ stores_below r nodes n)
node-cut r nodes n x h =
    let own = stores_from (r + 4 * length (words_down (drop (n + 1) nodes))) (node_words x) in
    stores-cut r nodes n ∙ (ap (λ xs. xs ++ stores_below r nodes n) (above-cut r nodes n x h) ∙ append_assoc (stores_above r nodes (n + 1)) own (stores_below r nodes n))

-- ---- fewer nodes

-- those before a node end with those before an earlier one
pub record IsEnd (xs ys : List Store) : Type 0 where
  pub more : List Store
  pub is : xs ≡ more ++ ys

pub below-ends : (r : ℕ) (nodes : List Node) (n m : ℕ) → m ≤ n → IsEnd (stores_below r nodes n) (stores_below r nodes m)
below-ends r nodes n m l =
    let front = words_down (take m nodes) in
    let mid = words_down (drop m (take n nodes)) in
    let back = words_down (drop n nodes) in
    let cut : words_down (take n nodes) ≡ mid ++ front = words-cut (take n nodes) m ∙ ap (λ xs. mid ++ words_down xs) (take-take m n nodes l) in
    let all : back ++ (mid ++ front) ≡ words_down (drop m nodes) ++ front = ap (λ z. back ++ z) (sym cut) ∙ (sym (words-cut nodes n) ∙ words-cut nodes m) in
    let lens = lengths back mid front (words_down (drop m nodes)) all in
    let e : r + 4 * length back + 4 * length mid ≡ r + 4 * length (words_down (drop m nodes)) = omega (arith, lens) in
    record {
      more = stores_from (r + 4 * length back) mid;
      is = ap (stores_from (r + 4 * length back)) cut ∙ (both-from (r + 4 * length back) mid front ∙ ap (λ k. stores_from (r + 4 * length back) mid ++ stores_from k front) e);
    }
  where
    lengths : (a b c d : List ℕ) → a ++ (b ++ c) ≡ d ++ c → length a + length b ≡ length d
    lengths a b c d e =
        let l1 = length-append a (b ++ c) in
        let l2 = length-append b c in
        let l3 = length-append d c in
        let l4 = ap length e in
        omega (arith, l1, l2, l3, l4)

pub below-fewer : (P : Store → Type 0) (r : ℕ) (nodes : List Node) (n m : ℕ) → AllByRecursion P (stores_below r nodes n) → m ≤ n → AllByRecursion P (stores_below r nodes m)
below-fewer P r nodes n m f l = let e = below-ends r nodes n m l in each-last P e.more (stores_below r nodes m) (subst (AllByRecursion P) e.is f)

pub all-fewer : (P : Store → Type 0) (r : ℕ) (nodes : List Node) (n : ℕ) → AllByRecursion P (stores_of r nodes) → AllByRecursion P (stores_below r nodes n)
all-fewer P r nodes n f = each-last P (stores_above r nodes n) (stores_below r nodes n) (subst (AllByRecursion P) (stores-cut r nodes n) f)
