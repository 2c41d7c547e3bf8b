-- Tables of statements and of nodes that a round keeps, and that came to be entry by entry, are those of all rounds.
use Rattle.std.proofs.Common.{◌≡◌, refl, sym, ap, ◌∙◌, subst, arith, ℕ, zero, suc, ◌+◌, ◌≤◌, ◌<◌, min, Bool, true, false, List, [], ◌∷◌, map, length}
use Rattle.std.specs.Prelude.{if◌then◌else◌, nat_lt, slice_index, slice_get, All}
use Rattle.std.specs.List.{AllByRecursion}
use Rattle.std.proofs.lemmas.List.{length-map}
use Rattle.std.proofs.lemmas.List.Elements.{recursion_from_All}
use Rattle.vl_design.specs.declared.design.Design.{Design}
use Rattle.vl_design.specs.declared.design.Func.{Func}
use Rattle.vl_design.specs.declared.design.Signal.{Signal}
use Rattle.vl_design.specs.Functions.{scope_of, zeros, fresh}
use Rattle.vl_design.specs.Placed as p
use Rattle.vl_design.specs.Plain.{plain_scope}
use Rattle.vl_design.specs.Plainly as plain
use Rattle.vl_design.specs.Rows.{row_of}
use Rattle.vl_design.specs.Seen.{placed, stm_of, func_of}
use Rattle.vl_design.specs.Syntax.{Fun}
use Rattle.vl_design.specs.Trees.{flat_of}
use Rattle.vl_design.specs.Width.{Scope}
use Rattle.vl_loops.specs.Fits.{CanUnroll}
use Rattle.vl_loops.specs.Limits.{Counted, statements, nodes, most_statements, most_nodes, stm_count, func_count, body_within}
use Rattle.vl_loops.proofs.Closing.{next}
use Rattle.vl_loops.specs.Loops.{HasHeads}
use Rattle.vl_loops.proofs.Zeros.{none-meets}
use Rattle.vl_limits.specs.Bodies.{func_rows, alone_count, next_statements, next_nodes, rounds, AtMost, AreBodies}
use Rattle.vl_limits.proofs.Alike.{Same, sames, Less, lesses, counted, stm_alike}
use Rattle.vl_limits.proofs.Climbing.{grows-all, settled}
use Rattle.vl_limits.proofs.Rounds.{funcs_heads, few-if, capped, capped-few, below, next-is, round, from-slices}

if-less : (b : Bool) (x y : ℕ) → x ≤ y → (if b then 0 else x) ≤ (if b then 0 else y)
if-less true x y h = omega arith
if-less false x y h = h

pub less-than : (cap x y : ℕ) → x ≤ y → Less cap x y
less-than cap x y h = omega arith

by-both : (cap x y z : ℕ) → Same cap x y → Less cap x z → Less cap y z
by-both cap x y z h k = omega arith

still-few : (cap x y : ℕ) → Same (cap + 1) x y → min (cap + 1) y ≤ cap → x < cap + 1
still-few cap x y h k = omega arith

-- what the bodies of functions count among functions, and without any
module _ (signals : List Signal) (funs : List Fun) (call : ℕ → List ℕ → ℕ) where
  abbrev within : Func → Scope
  within g = next (plain_scope (func_rows signals g)) (map row_of signals) funs [] call

  abbrev pub inside : Counted → Func → ℕ
  inside c g = stm_count c (within g) (stm_of g.body) (fresh (zeros (func_rows signals g)))

  pub inside-alone : (cap statement endless node : ℕ) (body : ℕ → ℕ) (g : Func) → HasHeads (func_rows signals g) (stm_of g.body) →
      Same cap (inside (counted statement endless node body) g) (alone_count (counted statement endless node body) signals g)
  inside-alone cap statement endless node body g h =
      let c = counted statement endless node body in
      let x = inside c g in
      stm_alike (Same cap) (sames cap) (suc x) statement endless node body body c (λ f k. refl)
      (func_rows signals g) (map row_of signals) funs [] call (stm_of g.body) h (fresh (zeros (func_rows signals g))) _ (none-meets signals g.locals) (next-is x)

  inside-grows : (cap statement endless node : ℕ) (a b : List ℕ) → AtMost a b → (g : Func) → HasHeads (func_rows signals g) (stm_of g.body) →
      Less cap (inside (counted statement endless node (λ i. slice_index a i)) g) (alone_count (counted statement endless node (λ i. slice_index b i)) signals g)
  inside-grows cap statement endless node a b l g h =
      let c = counted statement endless node (λ i. slice_index a i) in
      let x = inside c g in
      stm_alike (Less cap) (lesses cap) (suc x) statement endless node (λ i. slice_index a i) (λ i. slice_index b i) c (λ f k. less-than cap (slice_index a f) (slice_index b f) (l f))
      (func_rows signals g) (map row_of signals) funs [] call (stm_of g.body) h (fresh (zeros (func_rows signals g))) _ (none-meets signals g.locals) (next-is x)

-- ---- what bodies count grows with the table

no_call : ℕ → List ℕ → ℕ
no_call f given = 0

module _ (signals : List Signal) where
  alone-grows : (cap statement endless node : ℕ) (a b : List ℕ) → AtMost a b → (g : Func) → HasHeads (func_rows signals g) (stm_of g.body) →
      Less cap (alone_count (counted statement endless node (λ i. slice_index a i)) signals g) (alone_count (counted statement endless node (λ i. slice_index b i)) signals g)
  alone-grows cap statement endless node a b l g h =
      by-both cap (inside signals [] no_call (counted statement endless node (λ i. slice_index a i)) g) _ _ (inside-alone signals [] no_call cap statement endless node (λ i. slice_index a i) g h) (inside-grows signals [] no_call cap statement endless node a b l g h)

  statements-grow : (a b : List ℕ) → AtMost a b → (g : Func) → HasHeads (func_rows signals g) (stm_of g.body) → next_statements signals a g ≤ next_statements signals b g
  statements-grow a b l g h = alone-grows (most_statements + 1) 1 (most_statements + 1) 0 a b l g h

  nodes-grow : (few a b : List ℕ) → AtMost a b → (g : Func) → HasHeads (func_rows signals g) (stm_of g.body) → next_nodes signals few a g ≤ next_nodes signals few b g
  nodes-grow few a b l g h = if-less (nat_lt most_statements (next_statements signals few g)) _ _ (alone-grows (most_nodes + 1) 0 0 1 a b l g h)

  module _ (funcs : List Func) (heads : All (λ g. HasHeads (func_rows signals g) (stm_of g.body)) funcs) where
    pub all-statements-grow : (a b : List ℕ) → AtMost a b → AtMost (map (next_statements signals a) funcs) (map (next_statements signals b) funcs)
    all-statements-grow = grows-all (next_statements signals) (λ g. HasHeads (func_rows signals g) (stm_of g.body)) statements-grow funcs (recursion_from_All (λ g. HasHeads (func_rows signals g) (stm_of g.body)) funcs heads)

    pub all-nodes-grow : (few a b : List ℕ) → AtMost a b → AtMost (map (next_nodes signals few a) funcs) (map (next_nodes signals few b) funcs)
    all-nodes-grow few = grows-all (next_nodes signals few) (λ g. HasHeads (func_rows signals g) (stm_of g.body)) (nodes-grow few) funcs (recursion_from_All (λ g. HasHeads (func_rows signals g) (stm_of g.body)) funcs heads)

-- ---- tables that a round keeps

module _ (design : Design) where
  abbrev d : p.Design
  d = placed design

  abbrev scope : Scope
  scope = scope_of (plain.flat d) []

  nodes-one : (few many : List ℕ) (all : ℕ → ℕ) → ((f : ℕ) → slice_index few f ≤ most_statements → slice_index many f ≡ min (most_nodes + 1) (all f)) → (g : Func) → HasHeads (func_rows design.signals g) (stm_of g.body) → next_statements design.signals few g ≤ most_statements →
      next_nodes design.signals few many g ≡ min (most_nodes + 1) (inside design.signals scope.names.funs scope.call (nodes all) g)
  nodes-one few many all are g h k =
      few-if most_statements (next_statements design.signals few g) _ k
      ∙ sym (stm_alike (Same (most_nodes + 1)) (sames (most_nodes + 1)) (most_statements + 1) 0 0 1 all (λ i. slice_index many i) (statements (λ i. slice_index few i)) (λ f q. capped (most_nodes + 1) (slice_index many f) (all f) (are f (below most_statements (slice_index few f) q)))
      (func_rows design.signals g) (map row_of design.signals) scope.names.funs [] scope.call (stm_of g.body) h (fresh (zeros (func_rows design.signals g))) _ (none-meets design.signals g.locals)
      (still-few most_statements (inside design.signals scope.names.funs scope.call (statements (λ i. slice_index few i)) g) (alone_count (statements (λ i. slice_index few i)) design.signals g) (inside-alone design.signals scope.names.funs scope.call (most_statements + 1) 1 (most_statements + 1) 0 (λ i. slice_index few i) g h) k))

  nodes-all : (few many : List ℕ) (all : ℕ → ℕ) → ((f : ℕ) → slice_index few f ≤ most_statements → slice_index many f ≡ min (most_nodes + 1) (all f)) → (gs : List Func) → AllByRecursion (λ g. HasHeads (func_rows design.signals g) (stm_of g.body)) gs → (f : ℕ) →
      slice_index (map (next_statements design.signals few) gs) f ≤ most_statements →
      slice_index (map (next_nodes design.signals few many) gs) f ≡ min (most_nodes + 1) (func_count nodes scope all (slice_get (map func_of gs) f))
  nodes-all few many all are [] h f k = refl
  nodes-all few many all are (g ∷ gs) h zero k = nodes-one few many all are g h.0 k
  nodes-all few many all are (g ∷ gs) h (suc f) k = nodes-all few many all are gs h.1 f k

  -- the nodes beside the statements of each round
  abbrev joint : ℕ → List ℕ
  joint zero = []
  joint (suc n) = map (next_nodes design.signals (rounds (next_statements design.signals) design.funcs n) (joint n)) design.funcs

  module _ (u : CanUnroll (flat_of design)) where
    heads : AllByRecursion (λ g. HasHeads (func_rows design.signals g) (stm_of g.body)) design.funcs
    heads = recursion_from_All (λ g. HasHeads (func_rows design.signals g) (stm_of g.body)) design.funcs (funcs_heads design u)

    rounds-are : (n : ℕ) → AreBodies d n (rounds (next_statements design.signals) design.funcs n) (joint n)
    rounds-are zero = record { few_statements = λ f. refl; few_nodes = λ f k. refl }
    rounds-are (suc n) = round design n (rounds (next_statements design.signals) design.funcs n) (joint n) (rounds-are n) u

    node-rounds : (few : List ℕ) → few ≡ map (next_statements design.signals few) design.funcs → (n f : ℕ) → slice_index few f ≤ most_statements →
        slice_index (rounds (next_nodes design.signals few) design.funcs n) f ≡ min (most_nodes + 1) (body_within nodes scope d.funcs n f)
    node-rounds few e zero f k = refl
    node-rounds few e (suc n) f k =
        nodes-all few (rounds (next_nodes design.signals few) design.funcs n) (body_within nodes scope d.funcs n) (node-rounds few e n) design.funcs heads f (subst (λ z. slice_index z f ≤ most_statements) e k)

    pub passed : (n : ℕ) (few many : List ℕ) → AtMost few (rounds (next_statements design.signals) design.funcs n) → few ≡ map (next_statements design.signals few) design.funcs →
        AtMost many (rounds (next_nodes design.signals few) design.funcs n) → many ≡ map (next_nodes design.signals few many) design.funcs → AreBodies d n few many
    passed n few many h e i o = record { few_statements = few-is; few_nodes = λ f k. settled (next_nodes design.signals few) design.funcs (all-nodes-grow design.signals design.funcs (funcs_heads design u) few) n many i o f ∙ node-rounds few e n f (capped-few most_statements (slice_index few f) _ (few-is f) k) }
      where
        few-is : (f : ℕ) → slice_index few f ≡ min (most_statements + 1) (body_within statements scope d.funcs n f)
        few-is f = settled (next_statements design.signals) design.funcs (all-statements-grow design.signals design.funcs (funcs_heads design u)) n few h e f ∙ (rounds-are n).few_statements f

-- the same of slices
pub passed-are : (design : Design) → CanUnroll (flat_of design) → (s : List Signal) (g : List Func) (few many few' many' : List ℕ) → s ≡ design.signals → g ≡ design.funcs →
    AtMost few (rounds (next_statements s) g (length g)) → (few ≡ map (next_statements s few) g → AtMost many (rounds (next_nodes s few) g (length g))) →
    few' ≡ map (next_statements s few) g → many' ≡ map (next_nodes s few many) g → few' ≡ few → many' ≡ many → AreBodies (placed design) (length (placed design).funcs) few many
passed-are design u s g few many few' many' e k h i o q f m =
    let few-same = sym f ∙ from-slices next_statements few design.signals s design.funcs g few' o e k in
    let many-same = sym m ∙ from-slices (λ x b. next_nodes x few b) many design.signals s design.funcs g many' q e k in
    let few-most = subst (λ z. AtMost few (rounds (next_statements design.signals) z (length z))) k (subst (λ z. AtMost few (rounds (next_statements z) g (length g))) e h) in
    let many-most = subst (λ z. AtMost many (rounds (next_nodes design.signals few) z (length z))) k (subst (λ z. AtMost many (rounds (next_nodes z few) g (length g))) e (i (sym f ∙ o))) in
    subst (λ n. AreBodies (placed design) n few many) (sym (length-map design.funcs func_of)) (passed design u (length design.funcs) few many few-most few-same many-most many-same)
