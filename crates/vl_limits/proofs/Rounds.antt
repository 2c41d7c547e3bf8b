-- Rounds over the bodies of functions: in each, calls nest one deeper.
use Rattle.std.proofs.Common.{◌≡◌, refl, sym, ap, ◌∙◌, subst, arith, ℕ, zero, suc, ◌+◌, ◌-◌, ◌≤◌, ◌<◌, min, false, List, [], ◌∷◌, map, length}
use Rattle.std.specs.Prelude.{if◌then◌else◌, nat_lt, slice_index, slice_get, All}
use Rattle.std.proofs.lemmas.Bool.Decides.{nat_tests}
use Rattle.std.proofs.lemmas.List.{length-map}
use Rattle.std.specs.List.{AllByRecursion}
use Rattle.std.proofs.lemmas.List.Elements.{recursion_from_All, All-from_recursion}
use Rattle.vl_design.specs.declared.design.Design.{Design}
use Rattle.vl_design.specs.declared.design.Func.{Func}
use Rattle.vl_design.specs.declared.design.Signal.{Signal}
use Rattle.vl_design.specs.Functions.{scope_of, inner}
use Rattle.vl_design.specs.Placed as p
use Rattle.vl_design.specs.Plainly as plain
use Rattle.vl_design.specs.Rows.{row_of}
use Rattle.vl_design.specs.Seen.{placed, stm_of, func_of}
use Rattle.vl_design.specs.Sound.{IsSoundFun}
use Rattle.vl_design.specs.Trees.{flat_of}
use Rattle.vl_design.specs.Width.{Scope, names_in, names_of}
use Rattle.vl_loops.specs.Fits.{CanUnroll, HasFunLoops}
use Rattle.vl_loops.specs.Limits.{Counted, statements, nodes, most_statements, most_nodes, stm_count, func_count, body_within}
use Rattle.vl_loops.specs.Unroll.{still}
use Rattle.vl_loops.specs.Loops.{HasHeads}
use Rattle.vl_loops.proofs.Loops.{heads_of}
use Rattle.vl_loops.proofs.Zeros.{none-meets}
use Rattle.vl_limits.specs.Bodies.{func_rows, alone_count, next_statements, next_nodes, AreBodies}
use Rattle.vl_limits.proofs.Alike.{Same, sames, stm_alike}
use Rattle.vl_base.proofs.Numbers.{lt_false as not-more}

-- ---- the headers of functions

func_head : (design : Design) (g : Func) → HasFunLoops (flat_of design).rows (plain.fun (func_of g)) → IsSoundFun (names_of (flat_of design)) (plain.fun (func_of g)) → HasHeads (func_rows design.signals g) (stm_of g.body)
func_head design g l h = heads_of (names_in (names_of (flat_of design)) (plain.fun (func_of g))) [] (stm_of g.body) l.body h.body

pub funcs_heads : (design : Design) → CanUnroll (flat_of design) → All (λ g. HasHeads (func_rows design.signals g) (stm_of g.body)) design.funcs
funcs_heads design u =
    All-from_recursion (λ g. HasHeads (func_rows design.signals g) (stm_of g.body)) design.funcs
    (go design.funcs (recursion_from_All (HasFunLoops (flat_of design).rows) (map plain.fun (map func_of design.funcs)) u.funs) (recursion_from_All (IsSoundFun (names_of (flat_of design))) (map plain.fun (map func_of design.funcs)) u.sound.funs))
  where
    go : (gs : List Func) → AllByRecursion (HasFunLoops (flat_of design).rows) (map plain.fun (map func_of gs)) → AllByRecursion (IsSoundFun (names_of (flat_of design))) (map plain.fun (map func_of gs)) →
        AllByRecursion (λ g. HasHeads (func_rows design.signals g) (stm_of g.body)) gs
    go [] l h = l
    go (g ∷ gs) l h = (func_head design g l.0 h.0, go gs l.1 h.1)

-- ---- one round

pub few-if : (a x y : ℕ) → x ≤ a → (if nat_lt a x then 0 else y) ≡ y
few-if a x y h = ap (λ b. if b then 0 else y) (not-more a x h)

pub capped : (cap x y : ℕ) → x ≡ min cap y → Same cap y x
capped cap x y h = omega arith

pub capped-few : (cap x y : ℕ) → x ≡ min (cap + 1) y → y ≤ cap → x ≤ cap
capped-few cap x y h k = omega arith

pub below : (cap x : ℕ) → x < cap + 1 → x ≤ cap
below cap x h = omega arith

pub above : (cap x : ℕ) → x ≤ cap → x < cap + 1
above cap x h = omega arith

pub next-is : (x : ℕ) → x < suc x
next-is x = omega arith

module _ (design : Design) (n : ℕ) (few many : List ℕ) (are : AreBodies (placed design) n few many) where
  abbrev d : p.Design
  d = placed design

  abbrev scope : Scope
  scope = scope_of (plain.flat d) []

  abbrev within : Func → Scope
  within g = inner scope (plain.fun (func_of g))

  -- what the body of a function counts where calls nest so deep
  abbrev body_of : Counted → Func → ℕ
  body_of c g = stm_count c (within g) (stm_of g.body) (still (within g))

  statements-one : (g : Func) → HasHeads (func_rows design.signals g) (stm_of g.body) → next_statements design.signals few g ≡ min (most_statements + 1) (body_of (statements (body_within statements scope d.funcs n)) g)
  statements-one g h =
      let deep = body_within statements scope d.funcs n in
      let x = body_of (statements deep) g in
      sym (stm_alike (Same (most_statements + 1)) (sames (most_statements + 1)) (suc x) 1 (most_statements + 1) 0 deep (λ i. slice_index few i) (statements deep) (λ f k. capped (most_statements + 1) (slice_index few f) (deep f) (are.few_statements f))
      (func_rows design.signals g) (map row_of design.signals) scope.names.funs [] scope.call (stm_of g.body) h (still (within g)) _ (none-meets design.signals g.locals) (next-is x))

  nodes-one : (g : Func) → HasHeads (func_rows design.signals g) (stm_of g.body) → body_of (statements (body_within statements scope d.funcs n)) g ≤ most_statements →
      next_nodes design.signals few many g ≡ min (most_nodes + 1) (body_of (nodes (body_within nodes scope d.funcs n)) g)
  nodes-one g h k =
      let deep = body_within statements scope d.funcs n in
      let all = body_within nodes scope d.funcs n in
      few-if most_statements (next_statements design.signals few g) _ (capped-few most_statements (next_statements design.signals few g) (body_of (statements deep) g) (statements-one g h) k)
      ∙ sym (stm_alike (Same (most_nodes + 1)) (sames (most_nodes + 1)) (most_statements + 1) 0 0 1 all (λ i. slice_index many i) (statements deep) (λ f q. capped (most_nodes + 1) (slice_index many f) (all f) (are.few_nodes f (below most_statements (deep f) q)))
      (func_rows design.signals g) (map row_of design.signals) scope.names.funs [] scope.call (stm_of g.body) h (still (within g)) _ (none-meets design.signals g.locals) (above most_statements _ k))

  statements-all : (gs : List Func) → AllByRecursion (λ g. HasHeads (func_rows design.signals g) (stm_of g.body)) gs → (f : ℕ) →
      slice_index (map (next_statements design.signals few) gs) f ≡ min (most_statements + 1) (func_count statements scope (body_within statements scope d.funcs n) (slice_get (map func_of gs) f))
  statements-all [] h f = refl
  statements-all (g ∷ gs) h zero = statements-one g h.0
  statements-all (g ∷ gs) h (suc f) = statements-all gs h.1 f

  nodes-all : (gs : List Func) → AllByRecursion (λ g. HasHeads (func_rows design.signals g) (stm_of g.body)) gs → (f : ℕ) →
      func_count statements scope (body_within statements scope d.funcs n) (slice_get (map func_of gs) f) ≤ most_statements →
      slice_index (map (next_nodes design.signals few many) gs) f ≡ min (most_nodes + 1) (func_count nodes scope (body_within nodes scope d.funcs n) (slice_get (map func_of gs) f))
  nodes-all [] h f k = refl
  nodes-all (g ∷ gs) h zero k = nodes-one g h.0 k
  nodes-all (g ∷ gs) h (suc f) k = nodes-all gs h.1 f k

  pub round : CanUnroll (flat_of design) → AreBodies d (suc n) (map (next_statements design.signals few) design.funcs) (map (next_nodes design.signals few many) design.funcs)
  round u =
      let h = recursion_from_All (λ g. HasHeads (func_rows design.signals g) (stm_of g.body)) design.funcs (funcs_heads design u) in
      record { few_statements = statements-all design.funcs h; few_nodes = nodes-all design.funcs h }

pub round-is : (design : Design) → CanUnroll (flat_of design) → (n m : ℕ) (few many few' many' : List ℕ) → AreBodies (placed design) n few many → few' ≡ map (next_statements design.signals few) design.funcs → many' ≡ map (next_nodes design.signals few many) design.funcs → m ≡ suc n →
    AreBodies (placed design) m few' many'
round-is design u n m few many few' many' a h k e = rw (h, k, e) (round design n few many a u)

-- tables that a round keeps stay so
pub rounds-stay : (design : Design) → CanUnroll (flat_of design) → (few many : List ℕ) → few ≡ map (next_statements design.signals few) design.funcs → many ≡ map (next_nodes design.signals few many) design.funcs →
    (j n : ℕ) → AreBodies (placed design) n few many → AreBodies (placed design) (n + j) few many
rounds-stay design u few many h k zero n a = let e : n + 0 ≡ n = omega arith in subst (λ z. AreBodies (placed design) z few many) (sym e) a
rounds-stay design u few many h k (suc j) n a =
    let e : n + suc j ≡ suc n + j = omega arith in
    subst (λ z. AreBodies (placed design) z few many) (sym e) (rounds-stay design u few many h k j (suc n) (round-is design u n (suc n) few many few many a h k refl))

pub stays-to : (design : Design) → CanUnroll (flat_of design) → (n m : ℕ) (few many few' many' : List ℕ) → AreBodies (placed design) n few many → few' ≡ map (next_statements design.signals few) design.funcs → many' ≡ map (next_nodes design.signals few many) design.funcs →
    few' ≡ few → many' ≡ many → n ≤ m → AreBodies (placed design) m few' many'
stays-to design u n m few many few' many' a h k e f i =
    let s : n + (m - n) ≡ m = omega arith in
    rw (e, f) (subst (λ z. AreBodies (placed design) z few many) s (rounds-stay design u few many (sym e ∙ h) (sym f ∙ k) (m - n) n a))

-- ---- what was counted of one function

pub statements-are : (signals : List Signal) (g : Func) (cap y : ℕ) (t : Counted) (bodies before : List ℕ) → y ≡ min cap (alone_count t signals g) → cap ≡ 100001 → t ≡ statements (λ i. slice_index bodies i) → bodies ≡ before → y ≡ next_statements signals before g
statements-are signals g cap y t bodies before h e k b =
    h ∙ (ap (λ z. min z (alone_count t signals g)) e ∙ ap (λ z. min 100001 (alone_count z signals g)) (k ∙ ap (λ z. statements (λ i. slice_index z i)) b))

pub nodes-are : (signals : List Signal) (g : Func) (cap y s : ℕ) (t : Counted) (bodies few many : List ℕ) → y ≡ (if nat_lt 100000 s then 0 else min cap (alone_count t signals g)) → s ≡ next_statements signals few g → cap ≡ 1000001 →
    t ≡ nodes (λ i. slice_index bodies i) → bodies ≡ many → y ≡ next_nodes signals few many g
nodes-are signals g cap y s t bodies few many h i e k b =
    h ∙ (ap (λ z. if nat_lt 100000 z then 0 else min cap (alone_count t signals g)) i
    ∙ (ap (λ z. if nat_lt 100000 (next_statements signals few g) then 0 else min z (alone_count t signals g)) e
    ∙ ap (λ z. if nat_lt 100000 (next_statements signals few g) then 0 else min 1000001 (alone_count z signals g)) (k ∙ ap (λ z. nodes (λ i. slice_index z i)) b)))

-- what a round made of slices is what it makes of the design
pub from-slices : {A : Type 0} (f : List Signal → A → Func → ℕ) (bodies : A) (signals s : List Signal) (funcs g : List Func) (xs : List ℕ) → xs ≡ map (f s bodies) g → s ≡ signals → g ≡ funcs → xs ≡ map (f signals bodies) funcs
from-slices f bodies signals s funcs g xs h e k = h ∙ (ap (λ z. map (f z bodies) g) e ∙ ap (map (f signals bodies)) k)

pub slices-heads : (design : Design) → CanUnroll (flat_of design) → (s : List Signal) (g : List Func) → s ≡ design.signals → g ≡ design.funcs → All (λ x. HasHeads (func_rows s x) (stm_of x.body)) g
slices-heads design u s g e k = rw (e, k) (funcs_heads design u)

pub more-rounds : (design : Design) (n : ℕ) (g : List Func) → g ≡ design.funcs → n < length g → n ≤ length (map func_of design.funcs)
more-rounds design n g e h = let m = length-map design.funcs func_of in let k = ap length e in omega (arith, m, k)
